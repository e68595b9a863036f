-- Two diagrams combined leaf by leaf (document 01, section 'Combination').
use Rattle.std.specs.Prelude.{true, false, ℕ}
use Rattle.basics.specs.Tests.{below, equal, above, cmp}
use Rattle.diagram.specs.Diagram.{Diagram, leaf, branch, same}

-- the reduced branch: no branch has two equal children
unfoldable pub node : ℕ → Diagram → Diagram → Diagram
unfolding same
node l t f = elim (same t f) [ true ↦ t | false ↦ branch l t f ]

-- the reduced diagram of the pair (a, b): both go down by the lower of their labels
unfoldable pub apply : (ℕ → ℕ → ℕ) → Diagram → Diagram → Diagram
unfolding node cmp
apply op (leaf v) (leaf w) = leaf (op v w)
apply op (leaf v) (branch k u g) = node k (apply op (leaf v) u) (apply op (leaf v) g)
apply op (branch l t f) (leaf w) = node l (apply op t (leaf w)) (apply op f (leaf w))
apply op (branch l t f) (branch k u g) = elim (cmp l k) [
  | below h ↦ node l (apply op t (branch k u g)) (apply op f (branch k u g))
  | equal e ↦ node l (apply op t u) (apply op f g)
  | above h ↦ node k (apply op (branch l t f) u) (apply op (branch l t f) g)
]
