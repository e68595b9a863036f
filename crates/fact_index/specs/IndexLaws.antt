-- Laws of an index of facts: one more row, rows that stay, and the index cleaned row by row.
use Rattle.std.specs.Prelude.{◌≡◌, refl, List, ℕ, zero, suc, ◌+◌, ◌*◌, ◌≤◌, ◌<◌, length, get_or, set, replicate}
use Rattle.std.proofs.Common.{sym, ap, ap₂, ◌∙◌, add-one, arith, add-zero, length-set, get_or-set_same, get_or-set_other}
use Rattle.std.proofs.lemmas.List.{length-replicate, get_or-replicate}
use Rattle.state.specs.Lent.{fact_words, predicate_at}
use Rattle.table.specs.Chains.{Chained, Cleared}
use Rattle.table.specs.ChainLaws.{prev-zero}
use Rattle.table.specs.ChainedLaws.{chained-none, chained-as, chained_more, cleared-start, cleared-on, cleared-all}
use Rattle.fact_index.specs.Inner.{place_count, object_at, hash_end, hash_gap, hash_start, hash_step, hash_of, bucket_for, bucket_at, Indexed, Clean}
use Rattle.fact_index.specs.Index.{buckets}

-- ===== The bucket of a row =====

-- the number of a fact, one object after the other
pub record Hashing (p : ℕ) (f : ℕ → ℕ) (j h : ℕ) : Type 0 where
  pub number : h ≡ hash_of p f j
  pub small : h < hash_end * hash_gap

pub hashing-start : {p h : ℕ} {f : ℕ → ℕ} → (h ≡ hash_start p) × (h < hash_end * hash_gap) → Hashing p f 0 h
unfolding hash_of
hashing-start e = record { number = e.0; small = e.1 }

pub hashing-on : {p h j x o : ℕ} {f : ℕ → ℕ} → Hashing p f j h → o ≡ f j → (x ≡ hash_step h o) × (x < hash_end * hash_gap) → Hashing p f (j + 1) x
unfolding hash_of
hashing-on {p} {h} {j} {x} {o} {f} s q e = record { number = e.0 ∙ ap₂ hash_step s.number q ∙ ap (hash_of p f) (sym (add-one j)); small = e.1 }

pub hash-same : (p : ℕ) (f g : ℕ → ℕ) (k : ℕ) → ((j : ℕ) → j < k → f j ≡ g j) → hash_of p f k ≡ hash_of p g k
unfolding hash_of
hash-same p f g zero h = refl
hash-same p f g (suc k) h = ap₂ hash_step (hash-same p f g k (λ j l. h j (omega arith))) (h k (omega arith))

-- rows of the same words are in the same bucket
pub bucket-same : (ar facts rows : List ℕ) (i k : ℕ) → ((j : ℕ) → j < fact_words → get_or facts (i * fact_words + j) 0 ≡ get_or rows (k * fact_words + j) 0)
    → bucket_at ar facts i ≡ bucket_at ar rows k
unfolding bucket_at predicate_at place_count
bucket-same ar facts rows i k h =
    let q : get_or facts (i * fact_words) 0 ≡ get_or rows (k * fact_words) 0 =
    ap (λ x. get_or facts x 0) (sym (add-zero (i * fact_words))) ∙ (h 0 (omega arith) ∙ ap (λ x. get_or rows x 0) (add-zero (k * fact_words))) in
    let p = get_or rows (k * fact_words) 0 in
    ap (λ (x : ℕ). bucket_for (hash_of x (object_at facts i) (place_count ar x))) q
    ∙ ap bucket_for (hash-same p (object_at facts i) (object_at rows k) (place_count ar p) (λ j l.
    ap (λ x. get_or facts x 0) (omega arith) ∙ (h (1 + j) (omega arith) ∙ ap (λ x. get_or rows x 0) (omega arith))))

-- ===== No rows =====

pub clean-zeros : (m : ℕ) → buckets ≤ m → Clean (replicate m 0)
clean-zeros m h = record { places = rw length-replicate h; heads = λ b l. get_or-replicate m b 0 0 (omega arith) }

-- the index as chains of any places
pub chained : {ar facts index : List ℕ} {n : ℕ} → Indexed ar facts index n → Chained (bucket_at ar facts) buckets (λ b. get_or index b 0) (λ i. get_or index (buckets + i) 0) n
chained t = record { heads = t.head; links = t.link }

pub clean-indexed : (ar facts index : List ℕ) → Clean index → Indexed ar facts index 0
clean-indexed ar facts index c = record {
  places = omega (arith, c.places);
  rows = omega arith;
  head = none.heads;
  link = none.links;
}
  where
    none : Chained (bucket_at ar facts) buckets (λ b. get_or index b 0) (λ i. get_or index (buckets + i) 0) 0
    none = chained-none (bucket_at ar facts) _ c.heads

pub indexed-clean : {ar facts index : List ℕ} → Indexed ar facts index 0 → Clean index
indexed-clean {ar} {facts} t = record { places = omega (arith, t.places); heads = λ b l. t.head b l ∙ prev-zero (bucket_at ar facts) b }

-- ===== Rows that stay =====

-- the index is that of other facts, if the rows that it holds are the same
pub indexed-same : {ar facts index : List ℕ} {n : ℕ} (rows : List ℕ) → Indexed ar facts index n → n * fact_words ≤ length rows
    → ((i : ℕ) → i < n * fact_words → get_or rows i 0 ≡ get_or facts i 0) → Indexed ar rows index n
indexed-same {ar} {facts} {index} {n} rows t l h = record {
  places = t.places;
  rows = l;
  head = as_rows.heads;
  link = as_rows.links;
}
  where
    same : (i : ℕ) → i < n → bucket_at ar facts i ≡ bucket_at ar rows i
    same i m = bucket-same ar facts rows i i (λ j k. sym (h (i * fact_words + j) (omega arith)))

    as_rows : Chained (bucket_at ar rows) buckets (λ b. get_or index b 0) (λ i. get_or index (buckets + i) 0) n
    as_rows = chained-as (chained t) (bucket_at ar rows) same

-- ===== One more row =====

module _ (ar facts index : List ℕ) (i h : ℕ) (t : Indexed ar facts index i) (room : buckets + i < length index)
    (row : i * fact_words + fact_words ≤ length facts) (e : (h ≡ bucket_at ar facts i) × (h < buckets)) where
  pub index-add : Indexed ar facts (set (set index (buckets + i) (get_or index h 0)) h (i + 1)) (i + 1)
  index-add = record {
    places = rw (length-set, length-set) (omega arith);
    rows = omega arith;
    head = more.heads;
    link = more.links;
  }
    where
      one : List ℕ
      one = set index (buckets + i) (get_or index h 0)

      room₁ : h < length one
      room₁ = omega (arith, length-set index (buckets + i) (get_or index h 0), t.places, e.1)

      -- the head is written behind the link
      at-link : (j : ℕ) → get_or (set one h (i + 1)) (buckets + j) 0 ≡ get_or one (buckets + j) 0
      at-link j = get_or-set_other one h (buckets + j) (i + 1) 0 (omega (arith, e.1))

      more : Chained (bucket_at ar facts) buckets (λ b. get_or (set one h (i + 1)) b 0) (λ j. get_or (set one h (i + 1)) (buckets + j) 0) (i + 1)
      more =
          chained_more (chained t) h _ _ (sym e.0) e.1 (get_or-set_same one h (i + 1) 0 room₁)
          (λ b l q. get_or-set_other one h b (i + 1) 0 q ∙ get_or-set_other index (buckets + i) b _ 0 (omega arith))
          (at-link i ∙ get_or-set_same index (buckets + i) (get_or index h 0) 0 (omega (arith, t.places)))
          (λ j l. at-link j ∙ get_or-set_other index (buckets + i) (buckets + j) _ 0 (omega arith))

-- ===== The index cleaned, row by row =====

pub record Clearing (ar facts index : List ℕ) (n i : ℕ) : Type 0 where
  pub places : buckets + n ≤ length index
  pub cleared : Cleared (bucket_at ar facts) buckets (λ b. get_or index b 0) n i

pub clear-start : {ar facts index : List ℕ} {n : ℕ} → Indexed ar facts index n → Clearing ar facts index n 0
clear-start t = record { places = t.places; cleared = cleared-start (chained t) }

pub clear-on : {ar facts index : List ℕ} {n i h : ℕ} → Clearing ar facts index n i → (h ≡ bucket_at ar facts i) × (h < buckets)
    → Clearing ar facts (set index h 0) n (i + 1)
clear-on {ar} {facts} {index} {n} {i} {h} t e = record {
  places = rw length-set t.places;
  cleared = cleared-on t.cleared h _ e.0 (get_or-set_same index h 0 0 (omega (arith, t.places, e.1))) (λ b l q. get_or-set_other index h b 0 0 q);
}

pub all-cleared : {ar facts index : List ℕ} {n i : ℕ} → Clearing ar facts index n i → n ≤ i → Clean index
all-cleared t h = record { places = omega (arith, t.places); heads = cleared-all t.cleared h }
