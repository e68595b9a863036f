-- What contracts of inner functions and proofs cite. Nothing here has to be believed.
use Rattle.std.specs.Prelude.{◌≡◌, Bool, true, ◌||◌, List, ℕ, suc, ◌+◌, ◌<◌, length}
use Rattle.basics.specs.Members.{mem}
use Rattle.label.specs.Limits.{leaf_mark}
use Rattle.diagram.specs.Diagram.{Diagram, leaf, branch, same}
use Rattle.diagram.specs.Words.{label_at, high_at, low_at}
use Rattle.diagram.specs.Listing.{index}
use Rattle.diagram.specs.RowLists.{row_tree}

-- x is d, or a part of one of its children
unfoldable pub is_part : Diagram → Diagram → Bool
is_part x (leaf v) = same x (leaf v)
is_part x (branch l t f) = same x (branch l t f) || (is_part x t || is_part x f)

-- how many branches a diagram has as a tree
unfoldable pub size : Diagram → ℕ
size (leaf v) = 0
size (branch l t f) = suc (size t + size f)

-- x is one of the first k rows
pub record Earlier (rs : List Diagram) (k : ℕ) (x : Diagram) : Type 0 where
  pub is_row : mem same x rs ≡ true
  pub before : index x rs < k

-- no two rows are equal, and the children of a row are rows before it
pub record Kept (rs : List Diagram) : Type 0 where
  pub distinct : (a b : ℕ) → a < length rs → b < length rs → row_tree rs a ≡ row_tree rs b → a ≡ b
  pub children : (k l : ℕ) (t f : Diagram) → k < length rs → row_tree rs k ≡ branch l t f → Earlier rs k t × Earlier rs k f

-- a, b, c are the words of a row, children by their number among w
abbrev pub Encoded : List Diagram → Diagram → ℕ → ℕ → ℕ → Type 0
Encoded w (leaf v) a b c = (a ≡ leaf_mark) × (b ≡ v) × (c ≡ 0)
Encoded w (branch l t f) a b c = (a ≡ l) × (b ≡ index t w) × (c ≡ index f w)

-- the rows rs stand in the words ws, from the first row on
pub record Written (ws : List ℕ) (rs : List Diagram) : Type 0 where
  pub kept : Kept rs
  pub labels : (k l : ℕ) (t f : Diagram) → k < length rs → row_tree rs k ≡ branch l t f → l < leaf_mark
  pub words : (k : ℕ) → k < length rs → Encoded rs (row_tree rs k) (label_at ws k) (high_at ws k) (low_at ws k)

-- the first n rows of two lists of words are the same
pub record SameRows (ws us : List ℕ) (n : ℕ) : Type 0 where
  pub label : (k : ℕ) → k < n → label_at us k ≡ label_at ws k
  pub high : (k : ℕ) → k < n → high_at us k ≡ high_at ws k
  pub low : (k : ℕ) → k < n → low_at us k ≡ low_at ws k
