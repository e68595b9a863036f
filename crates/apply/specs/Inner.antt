-- What contracts of inner functions and proofs cite. Nothing here has to be believed.
use Rattle.std.specs.Prelude.{◌≡◌, true, Bool, false, ◌||◌, List, ℕ}
use Rattle.basics.specs.Members.{mem}
use Rattle.diagram.specs.Diagram.{Diagram, branch, same, leaf}
use Rattle.apply.specs.Pairs.{Pair, absorbs}
use Rattle.apply.specs.declared.Operation.{Operation}

-- rows that hold with each branch its two children
pub record ClosedRows (rs : List Diagram) : Type 0 where
  pub children : (l : ℕ) (t f : Diagram) → mem same (branch l t f) rs ≡ true → (mem same t rs ≡ true) × (mem same f rs ≡ true)

-- a pair left out now has a leaf that absorbs on either side
unfoldable pub absorbing : Operation → Diagram → Bool
absorbing op (leaf v) = absorbs op v
absorbing op (branch l t f) = false

unfoldable pub zero_pair : Operation → Pair → Bool
unfolding absorbing
zero_pair op p = absorbing op p.0 || absorbing op p.1
