-- When words are a listing (document 01, section 'Terms, labels, listings'), as is_listing says it, but for proofs: children stand before their
-- parents. ListingValid proves the two equivalent.
use Rattle.std.specs.Prelude.{◌≡◌, ◌≢◌, true, false, List, [], ℕ, suc, pred, ◌*◌, ◌≤◌, ◌<◌, length}
use Rattle.label.specs.Limits.{leaf_mark}
use Rattle.label.specs.Labels.{are_arities, is_label}
use Rattle.diagram.specs.Sizes.{most_rows, highest_value}
use Rattle.diagram.specs.Diagram.{Diagram}
use Rattle.diagram.specs.Words.{label_at, high_at, low_at, row_count, equal_rows, finish, up_to}
use Rattle.diagram.specs.Listing.{tree_at}

pub record LeafRow (ws : List ℕ) (i : ℕ) : Type 0 where
  pub mark : label_at ws i ≡ leaf_mark
  pub value : high_at ws i ≤ highest_value
  pub third : low_at ws i ≡ 0

pub record BranchRow (ar : List ℕ) (ws : List ℕ) (i : ℕ) : Type 0 where
  pub label : is_label ar (label_at ws i) ≡ true
  pub high-before : high_at ws i < i
  pub low-before : low_at ws i < i
  pub high-above : label_at ws i < label_at ws (high_at ws i)
  pub low-above : label_at ws i < label_at ws (low_at ws i)
  pub differ : high_at ws i ≢ low_at ws i

pub data ValidRow (ar : List ℕ) (ws : List ℕ) (i : ℕ) : Type 0 where
  a-leaf : LeafRow ws i → ValidRow ar ws i
  a-branch : BranchRow ar ws i → ValidRow ar ws i

-- the first m rows are valid and no two of them equal
pub record ValidRows (ar ws : List ℕ) (m : ℕ) : Type 0 where
  pub each : (i : ℕ) → i < m → ValidRow ar ws i
  pub apart : (i j : ℕ) → i < m → j < i → equal_rows ws j i ≡ false

-- the words ws are a listing under the arity list ar
pub record Valid (ar ws : List ℕ) : Type 0 where
  pub arities : are_arities ar ≡ true
  pub whole : length ws ≡ row_count ws * 3
  pub some : 1 ≤ row_count ws
  pub few : row_count ws ≤ most_rows
  pub each : (i : ℕ) → i < row_count ws → ValidRow ar ws i
  pub apart : (i j : ℕ) → i < row_count ws → j < i → equal_rows ws j i ≡ false
  pub order : finish ws (row_count ws) (pred (row_count ws)) [] ≡ up_to (row_count ws)

-- the diagram of row k, where children stand before their parents
abbrev pub tree : List ℕ → ℕ → Diagram
tree ws k = tree_at ws (suc k) k
