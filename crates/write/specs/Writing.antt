-- Writing a row of the working space as a listing (document 01, sections 'Terms, labels, listings' and 'Combination': "a result above 1,024 rows is also
-- 9", "buffer words behind a result stay").
use Rattle.std.specs.Prelude.{cond, ◌≡◌, ◌≢◌, List, [], ◌∷◌, ◌++◌, ℕ, ◌+◌, ◌-◌, ◌*◌, ◌≤◌, ◌<◌, length, get_or, drop, eqb, leb}
use Rattle.label.specs.Limits.{leaf_mark}
use Rattle.table.specs.declared.Row.{Row}
use Rattle.diagram.specs.Sizes.{most_rows, space_rows}
use Rattle.diagram.specs.Diagram.{Diagram}
use Rattle.diagram.specs.Rows.{rows}
use Rattle.diagram.specs.Words.{label_at, high_at, low_at}
use Rattle.diagram.specs.Listing.{listing}
use Rattle.diagram.specs.Validity.{tree}
use Rattle.diagram.specs.Inner.{Written}
use Rattle.store.specs.Space.{diagrams_of}
use Rattle.write.specs.Numbering.{Unmarked}
use Rattle.std.specs.Prelude.{None, Option, Some}

-- row k as it stands in the listing: its children by their numbers
unfoldable pub renumbered : List ℕ → List ℕ → ℕ → Row
renumbered s marks k =
    cond {A = Row} (eqb (label_at s k) leaf_mark) (record { label = leaf_mark; high = high_at s k; low = 0 })
    (record { label = label_at s k; high = get_or marks (high_at s k) 0 - 1; low = get_or marks (low_at s k) 0 - 1 })

-- the words of the rows ks
unfoldable pub listed_rows : List ℕ → List ℕ → List ℕ → List ℕ
unfolding renumbered
listed_rows s marks [] = []
listed_rows s marks (k ∷ ks) = (renumbered s marks k).label ∷ (renumbered s marks k).high ∷ (renumbered s marks k).low ∷ listed_rows s marks ks

-- what `renumber` requires: row k is there, and its children have numbers
pub record Renumberable (s marks : List ℕ) (k : ℕ) : Type 0 where
  pub room : k * 3 + 3 ≤ length s
  pub places : space_rows ≤ length marks
  pub high_small : label_at s k ≢ leaf_mark → high_at s k < space_rows
  pub low_small : label_at s k ≢ leaf_mark → low_at s k < space_rows
  pub high-marked : label_at s k ≢ leaf_mark → 1 ≤ get_or marks (high_at s k) 0
  pub low-marked : label_at s k ≢ leaf_mark → 1 ≤ get_or marks (low_at s k) 0

-- what `emit` requires: m rows are numbered, their children among them, and there is room for their words
pub record Emittable (s marks order : List ℕ) (m : ℕ) (out : List ℕ) : Type 0 where
  pub few : m ≤ space_rows
  pub places : space_rows ≤ length order
  pub room : m * 3 ≤ length out
  pub each : (j : ℕ) → j < m → Renumberable s marks (get_or order j 0)

-- what `write` requires: the space holds count rows, the root among them; no row is marked; there is room
pub record Writable (s : List ℕ) (count root : ℕ) (marks order out : List ℕ) : Type 0 where
  pub written : Written s (diagrams_of s count)
  pub words : space_rows * 3 ≤ length s
  pub within : count ≤ space_rows
  pub root-there : root < count
  pub unmarked : Unmarked marks
  pub order-places : space_rows ≤ length order
  pub room : most_rows * 3 ≤ length out

-- what writing the diagram d answers: its count of rows, or that they are above 1,024 (refusal 9)
unfoldable pub write_answer : Diagram → Option ℕ
write_answer d = cond (leb (length (rows d)) most_rows) (Some (length (rows d))) None

-- the result buffer then: d's listing, and the words behind it as they were
unfoldable pub write_words : Diagram → List ℕ → List ℕ
write_words d out = cond (leb (length (rows d)) most_rows) (listing d ++ drop (length (rows d) * 3) out) out

-- what `write` ensures
pub record WritePost (s : List ℕ) (root : ℕ) (out : List ℕ) (r : Option ℕ) (marks' out' : List ℕ) : Type 0 where
  pub answer : r ≡ write_answer (tree s root)
  pub words : out' ≡ write_words (tree s root) out
  pub unmarked : Unmarked marks'
