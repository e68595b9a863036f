-- What contracts of inner functions and proofs cite. Nothing here has to be believed.
use Rattle.std.specs.Prelude.{◌≡◌, Bool, true, false, List, ℕ, zero, suc, ◌+◌, ◌-◌, ◌*◌, ◌/◌, ◌%◌, ◌≤◌, ◌<◌, min, length, get_or}
use Rattle.label.specs.Limits.{most_places}
use Rattle.state.specs.Lent.{fact_words, fact_count, predicate_at}
use Rattle.table.specs.Chains.{prev}
use Rattle.fact_index.specs.Index.{buckets}

-- ===== The bucket of a fact =====

-- the places of predicate p: its arity, and no more than a row has
unfoldable pub place_count : List ℕ → ℕ → ℕ
place_count ar p = min (get_or ar p 0) most_places

-- the object in place j of row i
abbrev pub object_at : List ℕ → ℕ → ℕ → ℕ
object_at facts i j = get_or facts (i * fact_words + 1 + j) 0

-- a number for the fact that p holds of f 0, f 1, .. f (k - 1): begun with p, predicates some way apart, then one object after the other. Of an object what
-- is below `hash_end` counts: where there are more objects than that, there is one valuation
abbrev pub hash_end : ℕ
hash_end = 4294967296

abbrev pub hash_gap : ℕ
hash_gap = 64

unfoldable pub hash_start : ℕ → ℕ
hash_start p = p % hash_end * hash_gap

unfoldable pub hash_step : ℕ → ℕ → ℕ
hash_step h o = (h * 37 + o % hash_end) % hash_end

unfoldable pub hash_of : ℕ → (ℕ → ℕ) → ℕ → ℕ
hash_of p f zero = hash_start p
hash_of p f (suc k) = hash_step (hash_of p f k) (f k)

unfoldable pub bucket_for : ℕ → ℕ
bucket_for h = (h + h / buckets) % buckets

-- the bucket of row i
unfoldable pub bucket_at : List ℕ → List ℕ → ℕ → ℕ
unfolding predicate_at place_count
bucket_at ar facts i = bucket_for (hash_of (predicate_at facts i) (object_at facts i) (place_count ar (predicate_at facts i)))

-- ===== The index =====

-- the rows that it holds: as many as it has links; those behind them are searched one by one
unfoldable pub indexed_count : List ℕ → List ℕ → ℕ
indexed_count facts index = min (fact_count facts) (length index - buckets)

-- the index of the first n rows: a bucket's head is its last row, a row's link the row before it in its bucket, both one up, and 0 for none
pub record Indexed (ar facts index : List ℕ) (n : ℕ) : Type 0 where
  pub places : buckets + n ≤ length index
  pub rows : n * fact_words ≤ length facts
  pub head : (b : ℕ) → b < buckets → get_or index b 0 ≡ prev (bucket_at ar facts) b n
  pub link : (i : ℕ) → i < n → get_or index (buckets + i) 0 ≡ prev (bucket_at ar facts) (bucket_at ar facts i) i

-- an index with no rows, of whatever facts: no bucket has a head
pub record Clean (index : List ℕ) : Type 0 where
  pub places : buckets ≤ length index
  pub heads : (b : ℕ) → b < buckets → get_or index b 0 ≡ 0

-- ===== A search in it =====

-- a row is asked for that has q; such rows are in bucket b only
pub record Asks (facts index : List ℕ) (q : ℕ → Bool) (b : ℕ) : Type 0 where
  pub arities : List ℕ
  pub fits : Indexed arities facts index (indexed_count facts index)
  pub bucket : b < buckets
  pub only : (i : ℕ) → q i ≡ true → bucket_at arities facts i ≡ b

-- whether some row from lo on and before hi has q
pub record Sought (q : ℕ → Bool) (lo hi : ℕ) (r : Bool) : Type 0 where
  pub yes : r ≡ true → (i : ℕ) × (i < hi) × (q i ≡ true)
  pub no : r ≡ false → (i : ℕ) → lo ≤ i → i < hi → q i ≡ false
