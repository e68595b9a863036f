-- The variables that rows leading to a row test, as sets in words.
use Rattle.std.specs.Prelude.{◌≡◌, ◌≢◌, true, ◌||◌, List, ℕ, suc, ◌≤◌, ◌<◌, length, get_or, eqb}
use Rattle.basics.specs.Members.{mem}
use Rattle.label.specs.Limits.{leaf_mark}
use Rattle.diagram.specs.Words.{label_at, row_count}
use Rattle.diagram.specs.Validity.{Valid}
use Rattle.elimination.specs.Elimination.{label_variables, has_edge, tested_above}
use Rattle.eliminate.specs.Masks.{names_of}
use Rattle.eliminate.specs.Calls.{PlainLabel}

-- of a listing without minimum variables `above` has a set for each row: what the rows from k on hand on to it, and nothing but what is tested above it
pub record Above (ar ws above : List ℕ) (k : ℕ) : Type 0 where
  pub valid : Valid ar ws
  pub plain : (i : ℕ) → i < row_count ws → label_at ws i ≢ leaf_mark → PlainLabel ar (label_at ws i)
  pub places : row_count ws ≤ length above
  pub sound : (c v : ℕ) → c < row_count ws → mem eqb v (names_of (get_or above c 0)) ≡ true → tested_above ar ws c v ≡ true
  pub complete : (c v j : ℕ) → k ≤ j → j < row_count ws → has_edge ws j c ≡ true
      → (mem eqb v (label_variables ar (label_at ws j)) || tested_above ar ws j v) ≡ true → mem eqb v (names_of (get_or above c 0)) ≡ true

-- the rows behind row i have handed on
pub record Handing (ar ws above : List ℕ) (i : ℕ) : Type 0 where
  pub sets : Above ar ws above (suc i)
  pub row : i < row_count ws
