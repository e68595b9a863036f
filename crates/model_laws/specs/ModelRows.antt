-- The rows of all model listings together (document 01, sections 'Listings' and 'Text').
use Rattle.std.specs.Prelude.{◌≡◌, cond, ℕ, zero, suc, ◌+◌, length}
use Rattle.std.proofs.Math.Option.{Option, some, none}
use Rattle.label.specs.Limits.{predicate_count}
use Rattle.diagram.specs.Diagram.{Diagram}
use Rattle.diagram.specs.Rows.{rows}
use Rattle.state.specs.Max.{sum_of}
use Rattle.regression.specs.Regression.{Truths}
use Rattle.mdp.specs.Model.{Variant, Action, Model}
use Rattle.session.specs.Session.{Singles, Session}

-- a truth diagram that is given
unfoldable pub rows_in : Option Diagram → ℕ
unfolding rows
rows_in none = 0
rows_in (some d) = length (rows d)

-- the truth diagrams of the predicates below n
unfoldable pub truth_rows : ℕ → Truths → ℕ
unfolding rows_in
truth_rows zero truths = 0
truth_rows (suc n) truths = truth_rows n truths + rows_in (truths n)

unfoldable pub variant_rows : Variant → ℕ
variant_rows v = length (rows v.weight) + truth_rows predicate_count v.truths

unfoldable pub action_rows : Action → ℕ
action_rows a = sum_of a.variants variant_rows

-- the reward's rows count once a (reward) is accepted
unfoldable pub model_rows : Singles → Model → ℕ
model_rows s m = cond s.reward (length (rows m.reward)) 0 + sum_of m.actions action_rows

-- `rows` of a session is the sum
abbrev pub Counted : Session → Type 0
Counted σ = σ.rows ≡ model_rows σ.singles σ.model
