-- The pairs of a combination, and how many they are (document 01, section 'Combination'; document 02, L4).
use Rattle.std.specs.Prelude.{◌≡◌, Bool, true, false, ◌&&◌, ◌||◌, cond, List, [], ◌∷◌, ◌++◌, ℕ, length, eqb, leb, ltb}
use Rattle.basics.specs.Tests.{below, equal, above, cmp}
use Rattle.basics.specs.Members.{mem, nub, Within}
use Rattle.diagram.specs.Sizes.{highest_value}
use Rattle.diagram.specs.Diagram.{Diagram, leaf, branch, same}
use Rattle.apply.specs.declared.Operation.{Operation}
use Rattle.apply.specs.declared.Operation.TheVariants.{Sum, Product, Max}

abbrev pub Pair : Type 0
Pair = Diagram × Diagram

abbrev pub same_pair : Pair → Pair → Bool
same_pair p q = same p.0 q.0 && same p.1 q.1

-- a leaf that gives 0 with every value: leaf 0 in a product
abbrev pub absorbs : Operation → ℕ → Bool
absorbs Sum v = false
absorbs Product v = eqb v 0
absorbs Max v = false

-- where a pair ends, with no successors: two leaves do, and in a product a leaf 0 on either side does (document 02, L4)
unfoldable pub ends : Operation → Diagram → Diagram → Bool
ends op (leaf v) (leaf w) = true
ends op (leaf v) (branch k u g) = absorbs op v
ends op (branch l t f) (leaf w) = absorbs op w
ends op (branch l t f) (branch k u g) = false

-- an operand a beside the operand b: it descends by w, true or false, if its label is the lower one or equal, and stays if not
unfoldable pub descend : Bool → Diagram → Diagram → Diagram
descend w (leaf v) b = leaf v
descend w (branch l t f) (leaf x) = cond w t f
descend w (branch l t f) (branch k u g) = cond (leb l k) (cond w t f) (branch l t f)

-- the successor of a pair by true, and by false
unfoldable pub successor : Bool → Pair → Pair
unfolding descend
successor w p = (descend w p.0 p.1, descend w p.1 p.0)

-- a set that holds, with each pair that does not end, its two successors
pub record ClosedPairs (op : Operation) (m : List Pair) : Type 0 where
  pub successors : (p : Pair) → mem same_pair p m ≡ true → ends op p.0 p.1 ≡ false → (w : Bool) → mem same_pair (successor w p) m ≡ true

-- m is the least set that holds both roots and is closed
pub record LeastPairs (op : Operation) (a b : Diagram) (m : List Pair) : Type 0 where
  pub roots : mem same_pair (a, b) m ≡ true
  pub closed : ClosedPairs op m
  pub least : (n : List Pair) → mem same_pair (a, b) n ≡ true → ClosedPairs op n → Within same_pair m n

-- the pairs from (a, b) on; a pair met more than once stands there more than once
unfoldable pub pairs : Operation → Diagram → Diagram → List Pair
unfolding cmp
pairs op (leaf v) (leaf w) = (leaf v, leaf w) ∷ []
pairs op (leaf v) (branch k u g) = (leaf v, branch k u g) ∷ elim (ends op (leaf v) (branch k u g)) [
  | true ↦ []
  | false ↦ pairs op (leaf v) u ++ pairs op (leaf v) g
]
pairs op (branch l t f) (leaf w) = (branch l t f, leaf w) ∷ elim (ends op (branch l t f) (leaf w)) [
  | true ↦ []
  | false ↦ pairs op t (leaf w) ++ pairs op f (leaf w)
]
pairs op (branch l t f) (branch k u g) = (branch l t f, branch k u g) ∷ elim (ends op (branch l t f) (branch k u g)) [
  | true ↦ []
  | false ↦ elim (cmp l k) [
    | below h ↦ pairs op t (branch k u g) ++ pairs op f (branch k u g)
    | equal e ↦ pairs op t u ++ pairs op f g
    | above h ↦ pairs op (branch l t f) u ++ pairs op (branch l t f) g
  ]
]

-- how many pairs the walk reached
unfoldable pub pair_count : Operation → Diagram → Diagram → ℕ
unfolding pairs nub same
pair_count op a b = length (nub same_pair (pairs op a b))

-- a leaf pair whose result is above 10^18
abbrev pub too_high : (ℕ → ℕ → ℕ) → Diagram → Diagram → Bool
too_high op (leaf v) (leaf w) = ltb highest_value (op v w)
too_high op (leaf v) (branch k u g) = false
too_high op (branch l t f) b = false

unfoldable pub overflows : (ℕ → ℕ → ℕ) → List Pair → Bool
overflows op [] = false
overflows op (p ∷ ps) = too_high op p.0 p.1 || overflows op ps
