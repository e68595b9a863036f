-- Laws of an index of facts, in the words of the code.
use mathlib.Core.Path.{◌≡◌, refl, sym, ap, subst, ◌∙◌}
use mathlib.Core.List.{List}
use Prim.Native.Nat.{ℕ, ◌+◌, ◌-◌, ◌*◌, ◌/◌, ◌≤◌, ◌<◌, min}
use native.Mathlib.Omega.{arith}
use lib.ListN.{length, get_or, set, length-set}
use Rattle.label.specs.Limits.{most_places}
use Rattle.state.specs.Lent.{fact_words, fact_count, predicate_at}
use Rattle.fact_index.specs.Inner.{place_count, object_at, hash_end, hash_gap, hash_step, hash_of, bucket_for, bucket_at, indexed_count, Indexed, Clean}
use Rattle.fact_index.specs.Index.{buckets}
use Rattle.fact_index.specs.IndexLaws.{Hashing, hashing-on, index-add, Clearing, clear-start, clear-on, all-cleared}

-- the bucket of a row
module _ (ar facts : List ℕ) (i : ℕ) {j : ℕ} where
  pub row_on : {x h : ℕ} → Hashing (get_or facts (i * fact_words) 0) (object_at facts i) j h → (x ≡ hash_step h (object_at facts i j)) × (x < hash_end * hash_gap)
      → Hashing (get_or facts (i * fact_words) 0) (object_at facts i) (j + 1) x
  row_on s q = hashing-on s refl q

  pub row-bucket : {k b h : ℕ} → (k ≡ place_count ar (get_or facts (i * fact_words) 0)) × (k ≤ most_places)
      → Hashing (get_or facts (i * fact_words) 0) (object_at facts i) j h → j ≤ k → k ≤ j → (b ≡ bucket_for h) × (b < buckets) → b ≡ bucket_at ar facts i
  unfolding bucket_at predicate_at
  row-bucket {k} {b} {h} e s l m q =
      let z : j ≡ place_count ar (get_or facts (i * fact_words) 0) = omega (arith, e.0) in
      q.0 ∙ ap bucket_for (s.number ∙ ap (hash_of (get_or facts (i * fact_words) 0) (object_at facts i)) z)

-- the index of all rows, or of as many as it has links
module _ {ar facts index : List ℕ} {i : ℕ} (t : Indexed ar facts index i) where
  pub index_on : {h : ℕ} → (buckets + i ≡ length index → ⊥) → i < length facts / fact_words → (h ≡ bucket_at ar facts i) × (h < buckets)
      → Indexed ar facts (set (set index (buckets + i) (get_or index h 0)) h (i + 1)) (i + 1)
  index_on {h} n l e = index-add ar facts index i h t (omega (arith, t.places)) (omega arith) e

  pub index-full : i < length facts / fact_words → buckets + i ≡ length index → Indexed ar facts index (indexed_count facts index)
  unfolding indexed_count
  index-full l e = subst (Indexed ar facts index) (omega arith) t

  pub index-done : i ≤ length facts / fact_words → length facts / fact_words ≤ i → Indexed ar facts index (indexed_count facts index)
  unfolding indexed_count
  index-done l e = subst (Indexed ar facts index) (omega (arith, t.places)) t

-- the index cleaned
pub record Cleaning (ar facts index : List ℕ) (i : ℕ) : Type 0 where
  pub clearing : Clearing ar facts index (indexed_count facts index) i
  pub places : buckets + i ≤ length index

pub cleaning-start : {ar facts index : List ℕ} → Indexed ar facts index (indexed_count facts index) → Cleaning ar facts index 0
cleaning-start t = record { clearing = clear-start t; places = omega (arith, t.places) }

module _ {ar facts index : List ℕ} {i : ℕ} (t : Cleaning ar facts index i) where
  pub cleaning-on : {h : ℕ} → (buckets + i ≡ length index → ⊥) → (h ≡ bucket_at ar facts i) × (h < buckets) → Cleaning ar facts (set index h 0) (i + 1)
  unfolding indexed_count
  cleaning-on {h} n e = record {
    clearing = subst (λ (m : ℕ). Clearing ar facts (set index h 0) m (i + 1)) (ap (λ (m : ℕ). min (fact_count facts) (m - buckets)) (sym (length-set index h 0)))
        (clear-on t.clearing e);
    places = rw length-set (omega (arith, t.places));
  }

  pub cleaning-full : buckets + i ≡ length index → Clean index
  unfolding indexed_count
  cleaning-full e = all-cleared t.clearing (omega arith)

  pub cleaning-done : length facts / fact_words ≤ i → Clean index
  unfolding indexed_count
  cleaning-done h = all-cleared t.clearing (omega arith)
