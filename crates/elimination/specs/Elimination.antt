-- Variable elimination over a listing: a table for each row, and the entries of all of them (document 02, L6).
use Rattle.std.specs.Prelude.{Bool, true, false, not, ◌&&◌, ◌||◌, cond, List, [], ◌∷◌, ◌++◌, ℕ, zero, suc, pred, ◌+◌, get_or, eqb}
use Rattle.basics.specs.Members.{mem}
use Rattle.label.specs.Limits.{leaf_mark}
use Rattle.diagram.specs.Words.{label_at, high_at, low_at, row_count}
use Rattle.state.specs.State.{State, atom_of}
use Rattle.state.specs.Terms.{args}
use Rattle.state.specs.Highest.{vars_of}
use Rattle.state.specs.Lent.{some_below}
use Rattle.elimination.specs.Tables.{Table, leaf_table, join, unite, aggregate_all, entries, aggregate_entries}

-- ===== "each variable that no row leading to it tests" =====

-- the variables of a label, each once, ascending
unfoldable pub label_variables : List ℕ → ℕ → List ℕ
unfolding vars_of atom_of
label_variables ar l = vars_of (args (atom_of ar l)) []

-- row j has an edge to row i
unfoldable pub has_edge : List ℕ → ℕ → ℕ → Bool
has_edge ws j i = not (eqb (label_at ws j) leaf_mark) && (eqb (high_at ws j) i || eqb (low_at ws j) i)

-- a row that leads to row i by 1 to m edges tests the variable v: one with an edge to row i does, or one that leads to such a row
unfoldable pub tested_within : List ℕ → List ℕ → ℕ → ℕ → ℕ → Bool
unfolding has_edge label_variables
tested_within ar ws zero i v = false
tested_within ar ws (suc m) i v =
    some_below (row_count ws) (λ j. has_edge ws j i && (mem eqb v (label_variables ar (label_at ws j)) || tested_within ar ws m j v))

-- a row that leads to row i tests v; no path has more edges than there are rows
unfoldable pub tested_above : List ℕ → List ℕ → ℕ → ℕ → Bool
unfolding tested_within
tested_above ar ws i v = tested_within ar ws (row_count ws) i v

-- those of the names that no row leading to row i tests
unfoldable pub untested : List ℕ → List ℕ → ℕ → List ℕ → List ℕ
unfolding tested_above
untested ar ws i [] = []
untested ar ws i (v ∷ vs) = cond (tested_above ar ws i v) (untested ar ws i vs) (v ∷ untested ar ws i vs)

-- ===== "Each row is worked out once, in listing order" =====

-- the join of the branch row i in the case b, from the tables ts of the rows before it
unfoldable pub row_join : State → List ℕ → List ℕ → List Table → ℕ → Bool → Table
unfolding join atom_of
row_join s ar ws ts i b = join s b (atom_of ar (label_at ws i)) (get_or ts (cond b (high_at ws i) (low_at ws i)) (leaf_table 0))

unfoldable pub row_union : State → List ℕ → List ℕ → List Table → ℕ → Table
unfolding unite row_join
row_union s ar ws ts i = unite (row_join s ar ws ts i true) (row_join s ar ws ts i false)

-- the variables that row i aggregates, lowest first
unfoldable pub row_drops : State → List ℕ → List ℕ → List Table → ℕ → List ℕ
unfolding untested row_union
row_drops s ar ws ts i = untested ar ws i (row_union s ar ws ts i).names

unfoldable pub row_table : State → List ℕ → List ℕ → List Table → ℕ → Table
unfolding leaf_table row_union row_drops aggregate_all
row_table s ar ws ts i = elim (eqb (label_at ws i) leaf_mark) [
  | true ↦ leaf_table (high_at ws i)
  | false ↦ aggregate_all s.size (row_drops s ar ws ts i) (row_union s ar ws ts i)
]

-- the tables of the first k rows
unfoldable pub tables : State → List ℕ → List ℕ → ℕ → List Table
unfolding row_table
tables s ar ws zero = []
tables s ar ws (suc k) = tables s ar ws k ++ (row_table s ar ws (tables s ar ws k) k ∷ [])

-- the root is the last row
unfoldable pub root_table : State → List ℕ → List ℕ → Table
unfolding tables
root_table s ar ws = get_or (tables s ar ws (row_count ws)) (pred (row_count ws)) (leaf_table 0)

-- ===== "8,192 entries in all these tables of one evaluation, label cases aside" =====

-- the entries of a leaf's table; of a branch row's joins, its union and each of its aggregations
unfoldable pub row_entries : State → List ℕ → List ℕ → List ℕ → List Table → ℕ → ℕ
unfolding entries leaf_table row_join row_union row_drops aggregate_entries
row_entries s os ar ws ts i = elim (eqb (label_at ws i) leaf_mark) [
  | true ↦ entries s os (leaf_table (high_at ws i))
  | false ↦ entries s os (row_join s ar ws ts i true) + entries s os (row_join s ar ws ts i false) + entries s os (row_union s ar ws ts i)
      + aggregate_entries s os (row_drops s ar ws ts i) (row_union s ar ws ts i)
]

-- the entries of the first k rows
unfoldable pub entries_to : State → List ℕ → List ℕ → List ℕ → ℕ → ℕ
unfolding row_entries tables
entries_to s os ar ws zero = 0
entries_to s os ar ws (suc k) = entries_to s os ar ws k + row_entries s os ar ws (tables s ar ws k) k

unfoldable pub all_entries : State → List ℕ → List ℕ → List ℕ → ℕ
unfolding entries_to
all_entries s os ar ws = entries_to s os ar ws (row_count ws)

abbrev pub most_entries : ℕ
most_entries = 8192
