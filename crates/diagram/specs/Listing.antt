-- The listing of a diagram, and the diagram of a listing (document 01, section 'Terms, labels, listings').
use Rattle.std.specs.Prelude.{◌≡◌, true, false, List, [], ◌∷◌, ℕ, zero, suc, pred, ◌≤◌, length, eqb}
use Rattle.label.specs.Limits.{leaf_mark}
use Rattle.label.specs.Labels.{are_arities, is_label}
use Rattle.diagram.specs.Sizes.{most_rows, highest_value}
use Rattle.diagram.specs.Diagram.{Diagram, leaf, branch, same, Ordered, Reduced}
use Rattle.diagram.specs.Rows.{rows}
use Rattle.diagram.specs.Words.{label_at, high_at, low_at, row_count}

-- the number of the row x among rs
unfoldable pub index : Diagram → List Diagram → ℕ
index x [] = 0
index x (y ∷ ys) = elim (same x y) [ true ↦ 0 | false ↦ suc (index x ys) ]

-- the words of rows, children by their number in `whole`
unfoldable pub encode : List Diagram → List Diagram → List ℕ
encode whole [] = []
encode whole (leaf v ∷ rs) = leaf_mark ∷ v ∷ 0 ∷ encode whole rs
encode whole (branch l t f ∷ rs) = l ∷ index t whole ∷ index f whole ∷ encode whole rs

unfoldable pub listing : Diagram → List ℕ
unfolding rows encode index
listing d = encode (rows d) (rows d)

-- the diagram of row i, followed at most `depth` rows deep
unfoldable pub tree_at : List ℕ → ℕ → ℕ → Diagram
tree_at ws zero i = leaf 0
tree_at ws (suc depth) i = elim (eqb (label_at ws i) leaf_mark) [
  | true ↦ leaf (high_at ws i)
  | false ↦ branch (label_at ws i) (tree_at ws depth (high_at ws i)) (tree_at ws depth (low_at ws i))
]

-- the diagram of the last row, the root
unfoldable pub diagram_of : List ℕ → Diagram
unfolding tree_at label_at high_at low_at
diagram_of ws = tree_at ws (row_count ws) (pred (row_count ws))

-- labels and values within their ranges
abbrev pub Fine : List ℕ → Diagram → Type 0
Fine ar (leaf v) = v ≤ highest_value
Fine ar (branch l t f) = (is_label ar l ≡ true) × Fine ar t × Fine ar f

-- a diagram that has a listing: reduced, ordered, with labels and values in their ranges, of at most 1,024 rows
pub record Good (ar : List ℕ) (d : Diagram) : Type 0 where
  pub arities : are_arities ar ≡ true
  pub ordered : Ordered d
  pub reduced : Reduced d
  pub fine : Fine ar d
  pub few : length (rows d) ≤ most_rows
