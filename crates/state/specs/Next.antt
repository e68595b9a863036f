-- The next state (document 01, section 'Regression'): p(o..) is true exactly if its truth diagram gives 1 for o.. in the old one; all else stays.
use Rattle.std.specs.Prelude.{Bool, List, ℕ, ◌-◌, get_or, eqb}
use Rattle.std.proofs.Math.Option.{Option, some, none}
use Rattle.label.specs.Limits.{first_variable}
use Rattle.diagram.specs.Diagram.{Tree}
use Rattle.state.specs.State.{Atomic, State, value, low, fixed}

-- the objects of the terms of a truth diagram that is read for the objects os', with os for the parameters
unfoldable pub inner : State → List ℕ → List ℕ → ℕ → ℕ
unfolding fixed
inner s os os' t = low first_variable t (fixed s os t) (get_or os' (t - first_variable) (s.constant 0))

abbrev pub fact_after : State → List ℕ → Option (Tree Atomic) → ℕ → List ℕ → Bool
fact_after s os none p os' = s.fact p os'
fact_after s os (some d) p os' = eqb (value s d (inner s os os')) 1

unfoldable pub next : State → List ℕ → (ℕ → Option (Tree Atomic)) → State
unfolding value inner
next s os becomes = record { size = s.size; constant = s.constant; fact = λ p os'. fact_after s os (becomes p) p os' }
