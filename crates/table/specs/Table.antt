-- The unique table (document 01, Combination: "a working space of 2,048 rows, equal ones counted once"): rows with a hash index over them,
-- and what finding or adding a row answers.
use Rattle.std.specs.Prelude.{cond, ◌≡◌, List, [], ◌∷◌, ◌++◌, ℕ, ◌+◌, ◌*◌, ◌/◌, ◌%◌, ◌<◌, ◌≤◌, length, get_or, drop, eqb}
use Rattle.table.specs.declared.Row.{Row}
use Rattle.table.specs.declared.Added.{Added}
use Rattle.table.specs.declared.Added.TheVariants.{Old, New, Full}
use Rattle.table.specs.Rows.{row_at, rows, first_in}
use Rattle.table.specs.Chains.{prev}
use Rattle.std.specs.Prelude.{None, Option, Some}

-- the number of buckets
abbrev pub buckets : ℕ
buckets = 2048

-- the most rows, or pairs of a plan, that can be indexed: an entry of an index is one more than a place, in 16 bits
abbrev pub most_indexed : ℕ
most_indexed = 65535

-- half of a word
abbrev half : ℕ
half = 4294967296

-- all of a label and of `high` counts: labels of few places differ in their upper halves, scaled leaf values may agree in their lower ones
abbrev mix : Row → ℕ
mix r = r.label / half % half * 44453 + r.label % half * 33739 + r.high % half * 57641 + r.high / half % half * 60493 + r.low % half * 25717

-- the bucket of a row
unfoldable pub hash_of : Row → ℕ
hash_of r = (mix r + mix r / 128 + mix r / 131072) % buckets

-- the bucket of the row at place i
unfoldable pub hash_at : List ℕ → ℕ → ℕ
hash_at s i = hash_of (row_at s i)

-- heads and links index the first count rows of the words s, which have room for `limit` rows: a bucket's head is its last row, a row's link the row before it in its bucket,
-- both one up, and 0 for none. No two rows are equal (document 01, Combination: equal ones counted once).
pub record Table (s heads links : List ℕ) (limit count : ℕ) : Type 0 where
  pub words : limit * 3 ≤ length s
  pub slots : buckets ≤ length heads
  pub places : limit ≤ length links
  pub small : limit ≤ most_indexed
  pub within : count ≤ limit
  pub head : (b : ℕ) → b < buckets → get_or heads b 0 ≡ prev (hash_at s) b count
  pub link : (i : ℕ) → i < count → get_or links i 0 ≡ prev (hash_at s) (hash_at s i) i
  pub apart : (i j : ℕ) → i < count → j < i → row_at s j ≡ row_at s i → ⊥

-- what `add` requires: a table with room for one more row, and the row r not in it
pub record Addable (s heads links : List ℕ) (limit count : ℕ) (r : Row) : Type 0 where
  pub table : Table s heads links limit count
  pub room : count < limit
  pub fresh : (i : ℕ) → i < count → row_at s i ≡ r → ⊥

-- no bucket is in use
pub record Clean (heads : List ℕ) : Type 0 where
  pub slots : buckets ≤ length heads
  pub zeros : (b : ℕ) → b < buckets → get_or heads b 0 ≡ 0

-- what finding or adding the row r in the rows xs, of which there may be `limit`, answers: the place where the row stood, or stands now,
-- or that there is no room (document 01, Combination: refusal 9)
abbrev pub add_where : ℕ → List Row → Option ℕ → Added
add_where limit xs (Some i) = Old i
add_where limit xs None = cond (eqb (length xs) limit) Full (New (length xs))

unfoldable pub add_answer : ℕ → List Row → Row → Added
add_answer limit xs r = add_where limit xs (first_in xs r)

-- the rows then
abbrev pub rows_where : List Row → Row → ℕ → Option ℕ → List Row
rows_where xs r limit (Some i) = xs
rows_where xs r limit None = cond (eqb (length xs) limit) xs (xs ++ (r ∷ []))

unfoldable pub add_rows : ℕ → List Row → Row → List Row
add_rows limit xs r = rows_where xs r limit (first_in xs r)

-- the number of rows after an answer, of which there were n
abbrev pub count_of : ℕ → Added → ℕ
count_of n (Old i) = n
count_of n (New i) = n + 1
count_of n Full = n

-- what `find_or_add` ensures: s, count, row and answer; then the words and the index at exit
pub record AddPost (s : List ℕ) (limit count : ℕ) (r : Row) (x : Added) (s' heads' links' : List ℕ) : Type 0 where
  pub answer : x ≡ add_answer limit (rows s count) r
  pub now-rows : rows s' (count_of count x) ≡ add_rows limit (rows s count) r
  pub rest : drop (count_of count x * 3) s' ≡ drop (count_of count x * 3) s
  pub table : Table s' heads' links' limit (count_of count x)
