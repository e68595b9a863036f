-- How the walk of a pair goes on: a view over which the laws of combination recurse.
use Rattle.std.specs.Prelude.{◌≡◌, ℕ, suc, ◌+◌, ◌<◌}
use Rattle.std.proofs.Common.{arith}
use Rattle.basics.specs.Tests.{below, equal, above, cmp}
use Rattle.diagram.specs.Diagram.{Diagram, leaf, branch, From}
use Rattle.diagram.specs.Inner.{size}

-- l is lower than the label at d's root, if there is one
abbrev pub Below : ℕ → Diagram → Type 0
Below l (leaf v) = Unit {0}
Below l (branch k u g) = l < k

-- the pair (a, b) goes down by its lower label l: by true to (t, u), by false to (f, g)
pub data Step : ℕ → Diagram → Diagram → Diagram → Diagram → Diagram → Diagram → Type 0 where
  left : {l : ℕ} {t f b : Diagram} → Below l b → Step l (branch l t f) b t b f b
  right : {k : ℕ} {u g a : Diagram} → Below k a → Step k a (branch k u g) a u a g
  both : {l k : ℕ} {t f u g : Diagram} → l ≡ k → Step l (branch l t f) (branch k u g) t u f g

-- the walk below the pair (a, b)
pub data Walk : Diagram → Diagram → Type 0 where
  leaves : (v w : ℕ) → Walk (leaf v) (leaf w)
  on : {l : ℕ} {a b t u f g : Diagram} → Step l a b t u f g → Walk t u → Walk f g → Walk a b

unfoldable pub walk : (a b : Diagram) → Walk a b
walk (leaf v) (leaf w) = leaves v w
walk (leaf v) (branch k u g) = on (right tt) (walk (leaf v) u) (walk (leaf v) g)
walk (branch l t f) (leaf w) = on (left tt) (walk t (leaf w)) (walk f (leaf w))
walk (branch l t f) (branch k u g) = elim (cmp l k) [
  | below h ↦ on (left h) (walk t (branch k u g)) (walk f (branch k u g))
  | equal e ↦ on (both e) (walk t u) (walk f g)
  | above h ↦ on (right h) (walk (branch l t f) u) (walk (branch l t f) g)
]

-- a diagram from n on whose root is above l is from suc l on
pub from-below : (n l : ℕ) (d : Diagram) → From n d → Below l d → From (suc l) d
from-below n l (leaf v) o h = tt
from-below n l (branch k u g) o h = (h, o.1, o.2)

-- a pair goes down to smaller ones
pub small-true : {l : ℕ} {a b t u f g : Diagram} → Step l a b t u f g → size t + size u < size a + size b
unfolding size
small-true (left h) = omega arith
small-true (right h) = omega arith
small-true (both e) = omega arith

pub small-false : {l : ℕ} {a b t u f g : Diagram} → Step l a b t u f g → size f + size g < size a + size b
unfolding size
small-false (left h) = omega arith
small-false (right h) = omega arith
small-false (both e) = omega arith
