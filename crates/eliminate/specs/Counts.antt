-- What counting a row's entries asks and ensures.
use Rattle.std.specs.Prelude.{◌≡◌, true, false, List, ℕ, ◌+◌, ◌*◌, ◌^◌, ◌≤◌, ◌<◌, length, eqb}
use Rattle.std.specs.Int.Bits.{bit_or}
use Rattle.basics.specs.Members.{mem}
use Rattle.label.specs.Limits.{variable_count}
use Rattle.state.specs.State.{atom_of, State}
use Rattle.elimination.specs.Tables.{Table, join, entries, aggregate_entries}
use Rattle.elimination.specs.Elimination.{label_variables, most_entries}
use Rattle.elimination.specs.Inner.{Full, Named, geometric}
use Rattle.eliminate.specs.Masks.{names_of}
use Rattle.eliminate.specs.Calls.{Countable, Moved}
use Rattle.eliminate.specs.Stores.{Said, union_of}

pub record Shrinks (n whole : ℕ) : Type 0 where
  pub some : 0 < n
  pub few : whole ≤ most_entries

pub record Shrunk (n whole set r : ℕ) : Type 0 where
  pub is : (small : ℕ) → whole ≡ small * n ^ length (names_of set) → r ≡ geometric n small (length (names_of set))
  pub few : r ≤ variable_count * most_entries

-- the entries of a branch row, whose children have the tables x and y, with the objects os for the parameters
unfoldable pub row_total : State → List ℕ → List ℕ → ℕ → Table → Table → List ℕ → ℕ
row_total s os ar l x y drops =
    entries s os (join s true (atom_of ar l) x) + entries s os (join s false (atom_of ar l) y) + entries s os (union_of s ar l x y)
    + aggregate_entries s os drops (union_of s ar l x y)

-- r is the number t, or both are above the limit
pub data Tells (r t : ℕ) : Type 0 where
  exactly : r ≡ t → Tells r t
  too_many : most_entries < r → most_entries < t → Tells r t

pub record Rowing (ar env : List ℕ) (n l own high low drops : ℕ) : Type 0 where
  pub countable : Countable ar env n l
  pub own_is : names_of own ≡ label_variables ar l
  pub inside : (t : ℕ) → mem eqb t (names_of drops) ≡ true → mem eqb t (names_of (bit_or (bit_or own high) low)) ≡ true

pub record Rowed (ar facts env : List ℕ) (n l own high low drops r : ℕ) (env' : List ℕ) : Type 0 where
  pub count : (s : State) (os : List ℕ) (x y : Table) → Said s os ar facts env n → names_of high ≡ x.names → names_of low ≡ y.names → Full x → Full y → Named x → Named y
      → Tells r (row_total s os ar l x y (names_of drops))
  pub moved : Moved n own env env'
  pub whole : r ≤ most_entries → n ^ length (names_of (bit_or (bit_or own high) low)) ≤ r
