-- The pairs of rows that a combination reaches (document 01, section 'Combination'), in the order in which a walk finishes them.
use Rattle.std.specs.Prelude.{Bool, true, false, cond, ◌&&◌, ◌≡◌, List, [], ◌∷◌, ◌++◌, ℕ, zero, suc, ◌+◌, ◌*◌, ◌<◌, ◌≤◌, length, eqb, leb}
use Rattle.basics.specs.Members.{mem}
use Rattle.label.specs.Limits.{leaf_mark}
use Rattle.diagram.specs.Sizes.{space_rows}
use Rattle.diagram.specs.Words.{label_at, high_at, low_at}
use Rattle.apply.specs.declared.Operation.{Operation}
use Rattle.apply.specs.Pairs.{absorbs}

-- a row of the first operand and a row of the second
abbrev pub Pair : Type 0
Pair = ℕ × ℕ

unfoldable pub same_pair : Pair → Pair → Bool
same_pair p q = eqb p.0 q.0 && eqb p.1 q.1

-- where a pair ends: `ends` of apply, read off the rows
unfoldable pub is_end : Operation → List ℕ → List ℕ → Pair → Bool
is_end op x y p =
    cond (eqb (label_at x p.0) leaf_mark) (cond (eqb (label_at y p.1) leaf_mark) true (absorbs op (high_at x p.0)))
    (cond (eqb (label_at y p.1) leaf_mark) (absorbs op (high_at y p.1)) false)

unfoldable pub lesser : ℕ → ℕ → ℕ
lesser a b = cond (leb a b) a b

-- an end has a leaf's mark, which is above every label; a pair that goes down has the lower label of the two
unfoldable pub pair_label : Operation → List ℕ → List ℕ → Pair → ℕ
pair_label op x y p = cond (is_end op x y p) leaf_mark (lesser (label_at x p.0) (label_at y p.1))

-- "descend by true and by false in every operand whose label is the lower one, in both if equal"
unfoldable pub descend : (List ℕ → ℕ → ℕ) → List ℕ → List ℕ → Pair → Pair
descend child x y p =
    (cond (leb (label_at x p.0) (label_at y p.1)) (child x p.0) p.0, cond (leb (label_at y p.1) (label_at x p.0)) (child y p.1) p.1)

abbrev pub on_high : List ℕ → List ℕ → Pair → Pair
on_high x y p = descend high_at x y p

abbrev pub on_low : List ℕ → List ℕ → Pair → Pair
on_low x y p = descend low_at x y p

-- the pairs that a walk from p finishes, true branch first, after those of `done`; it goes at most `depth` pairs deep
unfoldable pub finish_pairs : Operation → List ℕ → List ℕ → ℕ → Pair → List Pair → List Pair
finish_pairs op x y zero p done = done
finish_pairs op x y (suc depth) p done = elim (mem same_pair p done) [
  | true ↦ done
  | false ↦ elim (is_end op x y p) [
    | true ↦ done ++ (p ∷ [])
    | false ↦ finish_pairs op x y depth (on_low x y p) (finish_pairs op x y depth (on_high x y p) done) ++ (p ∷ [])
  ]
]

-- the same, as deep as it goes: each step is to an earlier row of an operand
unfoldable pub walked : Operation → List ℕ → List ℕ → Pair → List Pair → List Pair
walked op x y p done = finish_pairs op x y (suc (p.0 + p.1)) p done

-- the rows of x up to row i are there and lead down: a branch's children are earlier rows, and no label is above a leaf's mark
pub record Leads (x : List ℕ) (i : ℕ) : Type 0 where
  pub room : i * 3 + 3 ≤ length x
  pub few : i < space_rows
  pub most : (k : ℕ) → k ≤ i → label_at x k ≤ leaf_mark
  pub high : (k : ℕ) → k ≤ i → (label_at x k ≡ leaf_mark → ⊥) → high_at x k < k
  pub low : (k : ℕ) → k ≤ i → (label_at x k ≡ leaf_mark → ⊥) → low_at x k < k

-- the rows of x and y up to those of the pair p do
pub record Leading (x y : List ℕ) (p : Pair) : Type 0 where
  pub first : Leads x p.0
  pub second : Leads y p.1
