-- Laws of the index of a state's facts: rows taken out of it and entered in it, one by one.
use mathlib.Core.Path.{◌≡◌, refl, sym, ap, subst, ◌∙◌}
use mathlib.Core.List.{List}
use Prim.Native.Nat.{ℕ, ◌+◌, ◌*◌, ◌-◌, ◌<◌, ◌≤◌}
use native.Mathlib.Omega.{arith}
use borrow.Author.Rules.{rules}
use borrow.Rule.Slice.PartMut.{put_mid}
use Rattle.std.proofs.lemmas.List.{places}
use Rattle.std.proofs.lemmas.Slice.{take-put_mid_below}
use lib.ListN.{length, get_or, set, take, drop, length-set}
use lib.Seq.{get_or-take, take-set-le}
use Rattle.state.specs.Lent.{fact_words, most_facts}
use Rattle.fact_index.specs.Inner.{bucket_at, Indexed, Clean}
use Rattle.fact_index.specs.Index.{buckets}
use Rattle.fact_index.specs.IndexLaws.{clean-indexed, index-add, Clearing, clear-start, clear-on, all-cleared}
use Rattle.facts.specs.declared.Live.{Live}
use Rattle.facts.specs.Inner.{FactIndex, Reindexed, Unindexed, Rowed, Remade, Unplaced, Emptied}
use Rattle.facts.specs.Words.{part, facts_base, index_base, index_words, state_words}
use Rattle.facts.specs.PartLaws.{length_part, part_at, part-lent, same-before, set-in, set-behind}
use Rattle.facts.specs.WordLaws.{index-none, index-rows, index-clean, index-holds}

-- ===== Words of the index =====

reindexed-start : (s : List ℕ) → Reindexed s s
reindexed-start s = record { size = refl; front = refl }

reindexed-set : {s t : List ℕ} (i x : ℕ) → index_base ≤ i → Reindexed s t → Reindexed s (set t i x)
reindexed-set {s} {t} i x h e = record { size = length-set t i x ∙ e.size; front = take-set-le index_base t i x h ∙ e.front }

-- they are as many as there were
reindexed-room : {s t : List ℕ} (i : ℕ) → state_words ≤ length s → Reindexed s t → i < index_words → index_base + i < length t
reindexed-room i r e h = omega (arith, e.size)

-- the facts stay
facts-stay : {s t : List ℕ} {n : ℕ} → n ≤ most_facts → Reindexed s t → part t facts_base (n * fact_words) ≡ part s facts_base (n * fact_words)
facts-stay {s} {t} {n} h e = same-before s t index_base facts_base (n * fact_words) e.front (omega arith)

-- and row i is one of them, as they are lent
pub lent_row : {s t : List ℕ} {n i : ℕ} → state_words ≤ length s → n ≤ most_facts → Reindexed s t → i < n
    → i * fact_words + fact_words ≤ length (take (facts_base + n * fact_words - facts_base) (drop facts_base t))
lent_row {s} {t} {n} r l e h =
    let size = e.size in
    rw (part-lent t facts_base (n * fact_words), length_part t facts_base (n * fact_words) (omega arith)) (omega arith)

-- row i at the head of bucket h, and what stood there behind it
pub entered : (s : List ℕ) (i h : ℕ) → i < most_facts → h < buckets
    → part (set (set s (index_base + buckets + i) (get_or s (index_base + h) 0)) (index_base + h) (i + 1)) index_base index_words
    ≡ set (set (part s index_base index_words) (buckets + i) (get_or (part s index_base index_words) h 0)) h (i + 1)
entered s i h l m =
    let x = get_or s (index_base + h) 0 in
    let e : index_base + buckets + i ≡ index_base + (buckets + i) = omega arith in
    set-in (set s (index_base + buckets + i) x) index_base index_words h (i + 1) (omega arith)
    ∙ ap (λ (y : List ℕ). set y h (i + 1))
    (ap (λ (k : ℕ). part (set s k x) index_base index_words) e
    ∙ (set-in s index_base index_words (buckets + i) x (omega arith) ∙ ap (set (part s index_base index_words) (buckets + i)) (sym (part_at s index_base index_words h (omega arith)))))

-- ===== Every bucket cleared =====

module _ (s m : List ℕ) (a k : ℕ) (h : a + k ≤ length s) (e : length m ≡ k) where
  put-size : length (put_mid a k s m) ≡ length s
  put-size = search (rules, places)

  put-word : (j : ℕ) → j < k → get_or (put_mid a k s m) (a + j) 0 ≡ get_or m j 0
  put-word j l = search (rules, places)

pub heads-cleared : (s m : List ℕ) → state_words ≤ length s → length m ≡ buckets → ((j : ℕ) → j < buckets → get_or m j 0 ≡ 0) → Unindexed s (put_mid index_base buckets s m)
heads-cleared s m r e z =
    let t : List ℕ = put_mid index_base buckets s m in
    let size : length t ≡ length s = put-size s m index_base buckets (omega arith) e in
    record {
      stays = record { size = size; front = take-put_mid_below index_base buckets s m index_base (omega arith) (omega arith) };
      clean = record {
        places = omega (arith, length_part t index_base index_words (omega arith));
        heads = λ j h. part_at t index_base index_words j (omega arith) ∙ put-word s m index_base buckets (omega arith) e j h ∙ z j h;
      };
    }

pub open_done : {s t u : List ℕ} → Unplaced s t facts_base → Unindexed t u → Emptied s u
open_done {s} {t} {u} p x = record {
  cleared = record { size = x.stays.size ∙ p.cleared.size; zeros = λ i h. front i (omega arith) ∙ p.cleared.zeros i h };
  clean = x.clean;
}
  where
    front : (i : ℕ) → i < index_base → get_or u i 0 ≡ get_or t i 0
    front i h = sym (get_or-take index_base u i 0 h) ∙ (ap (λ (y : List ℕ). get_or y i 0) x.stays.front ∙ get_or-take index_base t i 0 h)

-- ===== Rows taken out =====

pub record Unindexing (ar s : List ℕ) (n : ℕ) (t : List ℕ) (i : ℕ) : Type 0 where
  pub stays : Reindexed s t
  pub clearing : Clearing ar (part s facts_base (n * fact_words)) (part t index_base index_words) n i

pub unindexing-start : {ar s : List ℕ} {n : ℕ} → Indexed ar (part s facts_base (n * fact_words)) (part s index_base index_words) n → Unindexing ar s n s 0
unindexing-start {ar} {s} x = record { stays = reindexed-start s; clearing = clear-start x }

module _ {ar s t : List ℕ} {n i h : ℕ} (w : Unindexing ar s n t i) where
  pub unindexing-on : n ≤ most_facts → (h ≡ bucket_at ar (take (facts_base + n * fact_words - facts_base) (drop facts_base t)) i) × (h < buckets)
      → Unindexing ar s n (set t (index_base + h) 0) (i + 1)
  unindexing-on l e = record {
    stays = reindexed-set (index_base + h) 0 (omega arith) w.stays;
    clearing = subst (λ (y : List ℕ). Clearing ar (part s facts_base (n * fact_words)) y n (i + 1)) (sym (set-in t index_base index_words h 0 (omega (arith, e.1))))
        (clear-on w.clearing (e.0 ∙ ap (λ (y : List ℕ). bucket_at ar y i) (part-lent t facts_base (n * fact_words) ∙ facts-stay l w.stays), e.1));
  }

pub unindexing-done : {ar s t : List ℕ} {n i : ℕ} → Unindexing ar s n t i → n ≤ i → Unindexed s t
unindexing-done w h = record { stays = w.stays; clean = all-cleared w.clearing h }

module _ {ar s : List ℕ} {l : Live} (x : FactIndex ar s l) where
  pub forget-none : l.objects ≡ 0 → Unindexed s s
  forget-none e = record { stays = reindexed-start s; clean = index-clean e x }

  pub forget-rows : (l.objects ≡ 0 → ⊥) → Indexed ar (part s facts_base (l.facts * fact_words)) (part s index_base index_words) l.facts
  forget-rows e = index-holds (omega arith) x

-- ===== Rows entered =====

pub record Rowing (ar s : List ℕ) (n : ℕ) (t : List ℕ) (i : ℕ) : Type 0 where
  pub stays : Reindexed s t
  pub within : i ≤ n
  pub indexed : Indexed ar (part t facts_base (n * fact_words)) (part t index_base index_words) i

pub rowing_start : (ar : List ℕ) {s : List ℕ} (n : ℕ) → Clean (part s index_base index_words) → Rowing ar s n s 0
rowing_start ar {s} n c = record { stays = reindexed-start s; within = omega arith; indexed = clean-indexed ar _ _ c }

module _ {ar s t : List ℕ} {n i h : ℕ} (r : state_words ≤ length s) (l : n ≤ most_facts) (w : Rowing ar s n t i) where
  pub rowing-on : i < n → (h ≡ bucket_at ar (take (facts_base + n * fact_words - facts_base) (drop facts_base t)) i) × (h < buckets)
      → Rowing ar s n (set (set t (index_base + buckets + i) (get_or t (index_base + h) 0)) (index_base + h) (i + 1)) (i + 1)
  rowing-on m e =
      let x = get_or t (index_base + h) 0 in
      let u : List ℕ = set t (index_base + buckets + i) x in
      let z = e.1 in
      let size = w.stays.size in
      let facts : List ℕ = part t facts_base (n * fact_words) in
      let index : List ℕ = part t index_base index_words in
      record {
        stays = reindexed-set (index_base + h) (i + 1) (omega arith) (reindexed-set (index_base + buckets + i) x (omega arith) w.stays);
        within = omega arith;
        indexed = rw (
          set-behind u facts_base (n * fact_words) (index_base + h) (i + 1) (omega arith),
          set-behind t facts_base (n * fact_words) (index_base + buckets + i) x (omega arith),
          entered t i h (omega arith) z,
        )
            (index-add ar facts index i h w.indexed (omega (arith, length_part t index_base index_words (omega arith)))
            (omega (arith, length_part t facts_base (n * fact_words) (omega arith)))
            (e.0 ∙ ap (λ (y : List ℕ). bucket_at ar y i) (part-lent t facts_base (n * fact_words)), z));
      }

pub rowing-done : {ar s t : List ℕ} {n i : ℕ} → Rowing ar s n t i → n ≤ i → Rowed ar s n t
rowing-done {ar} {s} {t} {n} {i} w h =
    let l = w.within in
    let e : i ≡ n = omega arith in
    record { stays = w.stays; indexed = subst (Indexed ar _ _) e w.indexed }

-- ===== The index made anew =====

reindexed-then : {s t u : List ℕ} → Reindexed s t → Reindexed t u → Reindexed s u
reindexed-then a b = record { size = b.size ∙ a.size; front = b.front ∙ a.front }

module _ {ar s t : List ℕ} {l : Live} (x : Unindexed s t) where
  pub remade-none : l.objects ≡ 0 → Remade ar s l t
  remade-none e = record { stays = x.stays; index = index-none e x.clean }

  pub remade-rows : {u : List ℕ} → (l.objects ≡ 0 → ⊥) → Rowed ar t l.facts u → Remade ar s l u
  remade-rows e y = record { stays = reindexed-then x.stays y.stays; index = index-rows (omega arith) y.indexed }
