-- Which move to make, and what refuses it (document 02, L9).
use Rattle.std.specs.Prelude.{cond, List, [], ◌∷◌, ℕ, suc, ltb}
use Rattle.refusal.specs.declared.Refusal.TheVariants.{Valuations}
use Rattle.refusal.specs.Outcome.{Outcome, ok, refused, and_then}
use Rattle.diagram.specs.Diagram.{Diagram, leaf}
use Rattle.diagram.specs.Listing.{listing}
use Rattle.state.specs.State.{meaning, State}
use Rattle.state.specs.Max.{tuples}
use Rattle.minimum.specs.Number.{number}
use Rattle.elimination.specs.Answer.{is_too_large}
use Rattle.mdp.specs.Model.{Action, Model}
use Rattle.mdp.specs.Backup.{variants_sum}
use Rattle.best.specs.Moves.{Move, move, first_move}

-- a move, and its sum
pub record Rated : Type 0 where
  pub move : Move
  pub sum : ℕ

abbrev pub rated : Move → ℕ → Rated
rated x n = record { move = x; sum = n }

-- a move takes the place of the best so far where its sum is higher; so a tie goes to the earlier one
unfoldable pub better : Rated → Rated → Rated
better best new = cond (ltb best.sum new.sum) new best

-- the value of a regressed sum with the objects os for the parameters: "15 judged for each binding"
unfoldable pub binding_value : List ℕ → State → Diagram → List ℕ → Outcome ℕ
unfolding is_too_large listing number meaning
binding_value ar s q os = cond (is_too_large ar s os (listing q)) (refused Valuations) (ok (number s os (meaning ar q)))

-- the bindings of action i, whose regressed sum is q, one after the other
unfoldable pub bindings_best : List ℕ → State → ℕ → Diagram → List (List ℕ) → Rated → Outcome Rated
unfolding binding_value better
bindings_best ar s i q [] best = ok best
bindings_best ar s i q (os ∷ l) best =
    and_then (binding_value ar s q os) (λ x.
    bindings_best ar s i q l (better best (rated (move i os) x)))

-- "It goes action by action: first the calls of its regressed sum, before parameters are freed, then its bindings, lowest objects first": the actions from number i on
unfoldable pub moves_best : Model → State → Diagram → ℕ → List Action → Rated → Outcome Rated
unfolding variants_sum tuples bindings_best
moves_best m s d i [] best = ok best
moves_best m s d i (a ∷ l) best =
    and_then (variants_sum m.arities m.numerator d (leaf 0) a.variants) (λ q.
    and_then (bindings_best m.arities s i q (tuples s.size a.count) best) (λ best'.
    moves_best m s d (suc i) l best'))

-- the best starts as the first move with the sum 0, which no sum is below
unfoldable pub best_answer : Model → State → Diagram → Outcome Move
unfolding moves_best first_move
best_answer m s d = and_then (moves_best m s d 0 m.actions (rated (first_move m) 0)) (λ best. ok best.move)
