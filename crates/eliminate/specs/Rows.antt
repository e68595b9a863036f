-- The rows worked out so far: their tables in words, and what working out a branch row ensures.
use Rattle.std.specs.Prelude.{◌≡◌, ◌≢◌, List, ℕ, suc, ◌+◌, ◌*◌, ◌^◌, ◌≤◌, ◌<◌, length, get_or}
use Rattle.label.specs.Limits.{term_end, leaf_mark}
use Rattle.diagram.specs.Words.{label_at, row_count}
use Rattle.state.specs.State.{State, Fits}
use Rattle.elimination.specs.Elimination.{row_table, tables, entries_to, all_entries, most_entries}
use Rattle.eliminate.specs.Masks.{names_of, env_of}
use Rattle.eliminate.specs.Calls.{set_at, start_at, Stored}
use Rattle.eliminate.specs.Above.{Above}
use Rattle.eliminate.specs.Stores.{Said, Holds}
use Rattle.std.specs.Prelude.{None, Option, Some}

-- the tables of the rows before row i stand before `next`; `used` entries are counted
pub record Ready (ar ws above heads space env : List ℕ) (n i next used : ℕ) : Type 0 where
  pub sets : Above ar ws above 0
  pub heads-room : row_count ws * 2 ≤ length heads
  pub space-room : most_entries ≤ length space
  pub some : 0 < n
  pub places : term_end ≤ length env
  pub range : (t : ℕ) → env_of env t < n
  pub next-used : next ≤ used
  pub used-few : used ≤ most_entries
  pub stored : (j : ℕ) → j < i → Stored heads space n j
  pub ends : (j : ℕ) → j < i → start_at heads j + n ^ length (names_of (set_at heads j)) ≤ next

-- for the state s and the objects os they are the rows' tables, and the count is the theory's
pub record Tabled (s : State) (os : List ℕ) (ar facts ws heads space env : List ℕ) (n i used : ℕ) : Type 0 where
  pub said : Said s os ar facts env n
  pub holds : (j : ℕ) → j < i → Holds s os heads space j (row_table s ar ws (tables s ar ws j) j)
  pub count : used ≡ entries_to s os ar ws i

pub record Branching (ar ws above heads space env : List ℕ) (n i next used : ℕ) : Type 0 where
  pub ready : Ready ar ws above heads space env n i next used
  pub row : i < row_count ws
  pub branch : label_at ws i ≢ leaf_mark

-- the table of row i stands in words from `next` on: whatever words give it its head
pub record Branched (ar facts ws above heads space env : List ℕ) (n i next used : ℕ) (r : Option (ℕ × ℕ × ℕ)) (space' env' : List ℕ) : Type 0 where
  pub before : (j : ℕ) → j < next → get_or space' j 0 ≡ get_or space j 0
  pub range : (t : ℕ) → env_of env' t < n
  pub fits : (s : State) (os : List ℕ) → Said s os ar facts env n → Fits s os (env_of env')
  pub table : (kept count e : ℕ) → r ≡ Some (kept, count, e) → (count ≡ n ^ length (names_of kept)) × (next + count ≤ used + e) × (used + e ≤ most_entries)
  pub holds : (kept count e : ℕ) → r ≡ Some (kept, count, e) → (s : State) (os : List ℕ) → Tabled s os ar facts ws heads space env n i used
      → (heads' : List ℕ) → set_at heads' i ≡ kept → start_at heads' i ≡ next → Holds s os heads' space' i (row_table s ar ws (tables s ar ws i) i)
  pub counts : (kept count e : ℕ) → r ≡ Some (kept, count, e) → (s : State) (os : List ℕ) → Tabled s os ar facts ws heads space env n i used → used + e ≡ entries_to s os ar ws (suc i)
  pub full : r ≡ None → (s : State) (os : List ℕ) → Tabled s os ar facts ws heads space env n i used → most_entries < entries_to s os ar ws (suc i)

pub record Working (ar ws above heads space env : List ℕ) (n i next used : ℕ) : Type 0 where
  pub ready : Ready ar ws above heads space env n i next used
  pub row : i < row_count ws

-- what working out a row ensures: the same for one row more, or that the entries pass the limit
pub record RowWorked (ar facts ws above heads space env : List ℕ) (n i used : ℕ) (r : Option (ℕ × ℕ)) (heads' space' env' : List ℕ) : Type 0 where
  pub ready : (next' used' : ℕ) → r ≡ Some (next', used') → Ready ar ws above heads' space' env' n (i + 1) next' used'
  pub tabled : (next' used' : ℕ) → r ≡ Some (next', used') → (s : State) (os : List ℕ) → Tabled s os ar facts ws heads space env n i used → Tabled s os ar facts ws heads' space' env' n (i + 1) used'
  pub over : r ≡ None → (s : State) (os : List ℕ) → Tabled s os ar facts ws heads space env n i used → most_entries < entries_to s os ar ws (i + 1)

-- what working out all rows ensures
pub record Finished (ar facts ws above heads space env : List ℕ) (n : ℕ) (r : Option (ℕ × ℕ)) (heads' space' env' : List ℕ) : Type 0 where
  pub ready : (next used : ℕ) → r ≡ Some (next, used) → Ready ar ws above heads' space' env' n (row_count ws) next used
  pub tabled : (next used : ℕ) → r ≡ Some (next, used) → (s : State) (os : List ℕ) → Tabled s os ar facts ws heads space env n 0 0 → Tabled s os ar facts ws heads' space' env' n (row_count ws) used
  pub over : r ≡ None → (s : State) (os : List ℕ) → Tabled s os ar facts ws heads space env n 0 0 → most_entries < all_entries s os ar ws
