-- Rows of three words in a flat list of words (document 01, Terms, labels, listings), and the search for a row in a list of rows.
use Rattle.std.specs.Prelude.{Bool, ◌&&◌, cond, List, [], ◌∷◌, ◌++◌, ℕ, zero, suc, ◌+◌, ◌*◌, get_or, set, eqb}
use Rattle.table.specs.declared.Row.{Row}
use Rattle.std.specs.Prelude.{None, Option, Some}

-- the row at place i: the words 3i, 3i + 1 and 3i + 2
unfoldable pub row_at : List ℕ → ℕ → Row
row_at s i = record { label = get_or s (i * 3) 0; high = get_or s (i * 3 + 1) 0; low = get_or s (i * 3 + 2) 0 }

-- the words with the row r written at place i
unfoldable pub put_at : List ℕ → ℕ → Row → List ℕ
put_at s i r = set (set (set s (i * 3) r.label) (i * 3 + 1) r.high) (i * 3 + 2) r.low

-- the first n rows
unfoldable pub rows : List ℕ → ℕ → List Row
rows s zero = []
rows s (suc n) = rows s n ++ (row_at s n ∷ [])

-- the test whether two rows are equal
unfoldable pub same_row : Row → Row → Bool
same_row x y = eqb x.label y.label && (eqb x.high y.high && eqb x.low y.low)

-- the index of the first row equal to r, counted from k
unfoldable pub first_from : ℕ → List Row → Row → Option ℕ
first_from k [] r = None
first_from k (x ∷ xs) r = cond (same_row x r) (Some k) (first_from (suc k) xs r)

unfoldable pub first_in : List Row → Row → Option ℕ
first_in xs r = first_from 0 xs r
