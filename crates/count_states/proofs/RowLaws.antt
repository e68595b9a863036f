-- Laws of fill_places, copy_row, write_fact, write_facts and write_ground, in the words of the code.
use mathlib.Core.Path.{◌≡◌, refl, ap, ap₂, sym, ◌∙◌}
use mathlib.Core.List.{List, [], ◌∷◌, ◌++◌, append_assoc, append-nil}
use Prim.Native.Nat.{ℕ, zero, suc, ◌+◌, ◌-◌, ◌*◌, ◌/◌, ◌%◌, ◌^◌, ◌≤◌, ◌<◌}
use native.Mathlib.Omega.{arith}
use lib.ListN.{length, get_or, take, drop, set, replicate, length-set, length-append, length-replicate, take-append-drop}
use borrow.Rule.Slice.PartMut.{put_mid}
use lib.Seq.{drop-drop, take-suc, append_snoc, set_at, length-take-le, take_all, take-append-add, paste, take-paste}
use Rattle.label.specs.Limits.{most_places}
use Rattle.label.proofs.ArityLaws.{arity-most}
use Rattle.state.specs.Lent.{fact_words}
use Rattle.spread.specs.Ground.{Ground, ground, joined, facts_of, row_of, rows_of, ground_facts, ground_count}
use Rattle.count_states.specs.Facts.{digits, first_facts, Declared, Fillable, Writable, Follow}
use Rattle.count_states.proofs.PowerLaws.{ground-step}
use Rattle.count_states.proofs.DigitLaws.{length_digits, facts-all}

-- ===== fill_places =====

-- the digits below place j are still to be written
pub record Filling (row₀ : List ℕ) (n k t : ℕ) (row : List ℕ) (rest j : ℕ) : Type 0 where
  pub done : List ℕ
  pub count : j + length done ≡ k
  pub size : length row ≡ length row₀
  pub is : row ≡ take (1 + j) row₀ ++ done ++ drop (1 + k) row₀
  pub left : digits n j rest ++ done ≡ digits n k t

pub fill_start : (row : List ℕ) (n k t : ℕ) → Filling row n k t row t k
fill_start row n k t = record {
  done = [];
  count = omega arith;
  size = refl;
  is = sym (ap (λ xs. xs ++ drop (1 + k) row) (append-nil (take (1 + k) row)) ∙ take-append-drop (1 + k) row);
  left = append-nil (digits n k t);
}

pub fill-room : {row₀ row : List ℕ} {n k t rest j : ℕ} → Fillable row₀ n k → Filling row₀ n k t row rest j → j < length row
fill-room a f = omega (arith, a.words, a.most, f.size, f.count)

fill_step : {row₀ row : List ℕ} {n k t rest : ℕ} (i : ℕ) → Fillable row₀ n k → Filling row₀ n k t row rest (suc i)
    → Filling row₀ n k t (set row (suc i) (rest % n)) (rest / n) i
unfolding digits
fill_step {row₀} {row} {n} {k} {t} {rest} i a f =
    let x : ℕ = rest % n in
    let d : List ℕ = f.done in
    let b : List ℕ = drop (1 + k) row₀ in
    let m : 1 + suc i ≡ suc (suc i) = omega arith in
    let s : 1 + i ≡ suc i = omega arith in
    let w : suc i < length row₀ = omega (arith, a.words, a.most, f.count) in
    let p : List ℕ = take (suc i) row₀ in
    let y : ℕ = get_or row₀ (suc i) 0 in
    record {
      done = x ∷ d;
      count = omega (arith, f.count);
      size = length-set row (suc i) x ∙ f.size;
      is =
          ap (λ z. set z (suc i) x)
          (f.is ∙ ap (λ z. z ++ d ++ b) (ap (λ z. take z row₀) m ∙ take-suc row₀ (suc i) 0 w)
          ∙ ap (λ z. z ++ b) (append_snoc p y d) ∙ append_assoc p (y ∷ d) b)
          ∙ set_at p y (d ++ b) x (suc i) (length-take-le (suc i) row₀ (omega arith))
          ∙ sym (append_assoc p (x ∷ d) b)
          ∙ ap (λ z. take z row₀ ++ (x ∷ d) ++ b) (sym s);
      left = sym (append_snoc (digits n i (rest / n)) x d) ∙ f.left;
    }

pub fill_on : {row₀ row : List ℕ} {n k t rest j : ℕ} → Fillable row₀ n k → Filling row₀ n k t row rest j → 0 < j
    → Filling row₀ n k t (set row (j - 1 + 1) (rest % n)) (rest / n) (j - 1)
fill_on {j = zero} a f h = absurd (omega arith)
fill_on {j = suc i} a f h = let e : suc i - 1 ≡ i = omega arith in let m : i + 1 ≡ suc i = omega arith in rw (e, m) (fill_step i a f)

pub fill_end : {row₀ row : List ℕ} {n k t rest j : ℕ} → Filling row₀ n k t row rest j → j ≤ 0 → row ≡ take 1 row₀ ++ digits n k t ++ drop (1 + k) row₀
unfolding digits
fill_end {row₀} {row} {n} {k} {t} {rest} {j} f h =
    let e : j ≡ 0 = omega arith in
    let l : f.done ≡ digits n k t = ap (λ z. digits n z rest ++ f.done) (sym e) ∙ f.left in
    f.is ∙ ap (λ z. take (1 + z) row₀ ++ f.done ++ drop (1 + k) row₀) e ∙ ap (λ z. take 1 row₀ ++ z ++ drop (1 + k) row₀) l

-- ===== copy_row =====
pub copied : (to : List ℕ) (at : ℕ) (from : List ℕ) (i : ℕ) {row : List ℕ} → row ≡ take (i + fact_words - i) (drop i from)
    → put_mid at (at + fact_words - at) to row ≡ paste to at (drop i from) fact_words
copied to at from i {row} e =
    let p : at + fact_words - at ≡ fact_words = omega arith in
    let q : i + fact_words - i ≡ fact_words = omega arith in
    rw (p, e, q, drop-drop fact_words at to, append_assoc)

-- ===== write_fact =====
take-zeros : (j m : ℕ) → take j (replicate (j + m) 0) ≡ replicate {A = ℕ} j 0
take-zeros zero m = refl
take-zeros (suc j) m = let e : suc j + m ≡ suc (j + m) = omega arith in rw (e, take-zeros j m)

drop-zeros : (j m : ℕ) → drop j (replicate (j + m) 0) ≡ replicate {A = ℕ} m 0
drop-zeros zero m = let e : 0 + m ≡ m = omega arith in rw e
drop-zeros (suc j) m = let e : suc j + m ≡ suc (j + m) = omega arith in rw (e, drop-zeros j m)

-- objects, and zeros behind them
padded : (d : List ℕ) (m k : ℕ) → length d ≡ k → k ≤ m → take m (d ++ replicate m 0) ≡ d ++ drop k (replicate m 0)
padded d m k e h =
    let j : ℕ = m - k in
    let a : m ≡ length d + j = omega arith in
    let b : m ≡ j + k = omega arith in
    let c : m ≡ k + j = omega arith in
    ap (λ z. take z (d ++ replicate m 0)) a
    ∙ take-append-add d (replicate m 0) j
    ∙ ap (λ z. d ++ z) (ap (λ z. take j (replicate z 0)) b ∙ take-zeros j k ∙ sym (ap (λ z. drop k (replicate z 0)) c ∙ drop-zeros k j))

row_made : (n p k t : ℕ) {row' : List ℕ} → k ≤ most_places
    → row' ≡ take 1 (p ∷ replicate most_places 0) ++ digits n k t ++ drop (1 + k) (p ∷ replicate most_places 0) → row' ≡ row_of (ground p (digits n k t))
row_made n p k t h e =
    let m : 1 + k ≡ suc k = omega arith in
    e ∙ ap (λ z. (p ∷ digits n k t) ++ drop z (p ∷ replicate most_places 0)) m
    ∙ ap (λ z. p ∷ z) (sym (padded (digits n k t) most_places k (length_digits n k t) h))

length-objects : (os : List ℕ) → length (take most_places (os ++ replicate most_places 0)) ≡ most_places
length-objects os = length-take-le most_places (os ++ replicate most_places 0)
    (let a = length-append os (replicate most_places 0) in let b = length-replicate {A = ℕ} most_places 0 in omega arith)

pub length-row : (f : Ground) → length (row_of f) ≡ fact_words
length-row (ground p os) = ap suc (length-objects os)

pub fact-written : {rows rows' row' : List ℕ} (at n p k t : ℕ) → Writable rows at n k 1
    → row' ≡ take 1 (p ∷ replicate most_places 0) ++ digits n k t ++ drop (1 + k) (p ∷ replicate most_places 0)
    → rows' ≡ paste rows (at * fact_words) row' fact_words
    → Follow rows at (ground p (digits n k t) ∷ []) 1 rows'
unfolding rows_of
fact-written {rows} {rows'} {row'} at n p k t w e q =
    let r = row_made n p k t w.most e in
    let f : Ground = ground p (digits n k t) in
    let l : length row' ≡ fact_words = ap length r ∙ length-row f in
    let m : (at + 1) * fact_words ≡ at * fact_words + fact_words = omega arith in
    let o = w.room in
    ap₂ take m q
    ∙ take-paste rows (at * fact_words) row' fact_words (omega arith) (omega arith)
    ∙ ap (λ z. take (at * fact_words) rows ++ z) (take_all fact_words row' (omega arith) ∙ r ∙ sym (append-nil (row_of f)))

-- ===== write_facts =====
pub rows_append : (fs gs : List Ground) → rows_of (fs ++ gs) ≡ rows_of fs ++ rows_of gs
unfolding rows_of
rows_append [] gs = refl
rows_append (f ∷ fs) gs = ap (λ z. row_of f ++ z) (rows_append fs gs) ∙ sym (append_assoc (row_of f) (rows_of fs) (rows_of gs))

pub record Following (rows₀ : List ℕ) (at p n k m : ℕ) (rows : List ℕ) (t : ℕ) : Type 0 where
  pub size : length rows ≡ length rows₀
  pub within : t ≤ m
  pub follow : Follow rows₀ at (first_facts n p k t) t rows

pub facts-start : (rows : List ℕ) (at p n k m : ℕ) → Following rows at p n k m rows 0
unfolding first_facts rows_of
facts-start rows at p n k m =
    let e : at + 0 ≡ at = omega arith in
    record { size = refl; within = omega arith; follow = rw e (sym (append-nil (take (at * fact_words) rows))) }

module _ {rows₀ rows : List ℕ} {at p n k m t : ℕ} (w : Writable rows₀ at n k m) (f : Following rows₀ at p n k m rows t) (h : t < m) where
  pub fact-room : Writable rows (at + t) n k 1
  fact-room = record { some = w.some; most = w.most; room = omega (arith, w.room, f.size) }

  pub facts-on : {rows' : List ℕ} → length rows' ≡ length rows → Follow rows (at + t) (ground p (digits n k t) ∷ []) 1 rows' → Following rows₀ at p n k m rows' (t + 1)
  unfolding first_facts
  facts-on {rows'} s q =
      let a : at + (t + 1) ≡ at + t + 1 = omega arith in
      let b : t + 1 ≡ suc t = omega arith in
      record {
        size = s ∙ f.size;
        within = omega arith;
        follow =
            ap (λ z. take (z * fact_words) rows') a
            ∙ q
            ∙ ap (λ z. z ++ rows_of (ground p (digits n k t) ∷ [])) f.follow
            ∙ append_assoc (take (at * fact_words) rows₀) (rows_of (first_facts n p k t)) (rows_of (ground p (digits n k t) ∷ []))
            ∙ ap (λ z. take (at * fact_words) rows₀ ++ z) (sym (rows_append (first_facts n p k t) (ground p (digits n k t) ∷ [])))
            ∙ ap (λ z. take (at * fact_words) rows₀ ++ rows_of (first_facts n p k z)) (sym b);
      }

pub facts-end : {rows₀ rows : List ℕ} {at p n k m t : ℕ} → Following rows₀ at p n k m rows t → m ≤ t → Follow rows₀ at (first_facts n p k m) m rows
facts-end {rows₀} {rows} {at} {p} {n} {k} {m} {t} f h = let e : t ≡ m = omega (arith, f.within) in rw e at f.follow

-- ===== write_ground =====
pub record Laying (ar : List ℕ) (count n : ℕ) (rows₀ rows : List ℕ) (at p : ℕ) : Type 0 where
  pub size : length rows ≡ length rows₀
  pub within : p ≤ count
  pub place : at ≡ ground_count ar p n
  pub words : take (at * fact_words) rows ≡ rows_of (ground_facts ar p n)

pub lay-start : (ar : List ℕ) (count n : ℕ) (rows : List ℕ) → Laying ar count n rows rows 0 0
unfolding ground_count ground_facts joined rows_of
lay-start ar count n rows = record { size = refl; within = omega arith; place = refl; words = refl }

ground-grows : (ar : List ℕ) (n p k : ℕ) → ground_count ar p n ≤ ground_count ar (p + k) n
ground-grows ar n p zero = let e : p + 0 ≡ p = omega arith in rw e (omega arith)
ground-grows ar n p (suc k) =
    let e : p + suc k ≡ p + k + 1 = omega arith in
    let s = ground-step ar (p + k) n in
    let h = ground-grows ar n p k in
    rw e (omega arith)

facts-step : (ar : List ℕ) (p n : ℕ) → ground_facts ar (p + 1) n ≡ ground_facts ar p n ++ facts_of ar n (p + 1)
unfolding ground_facts joined
facts-step ar p n = let e : p + 1 ≡ suc p = omega arith in rw e

module _ {ar : List ℕ} {count n : ℕ} {rows₀ rows : List ℕ} {at p m : ℕ} (d : Declared ar count n) (o : ground_count ar count n * fact_words ≤ length rows₀)
    (l : Laying ar count n rows₀ rows at p) (h : p < count) (e : m ≡ n ^ get_or ar (p + 1) 0) where
  next-ground : at + m ≡ ground_count ar (p + 1) n
  next-ground = ap₂ ◌+◌ l.place e ∙ sym (ground-step ar p n)

  pub lay-most : at + m ≤ ground_count ar count n
  lay-most =
      let s = next-ground in
      let z : p + 1 + (count - (p + 1)) ≡ count = omega arith in
      let g : ground_count ar (p + 1) n ≤ ground_count ar count n = rw z at (ground-grows ar n (p + 1) (count - (p + 1))) in
      omega arith

  pub lay-room : Writable rows at n (get_or ar (p + 1) 0) m
  lay-room = record { some = d.some; most = arity-most ar (p + 1) d.arities; room = omega (arith, lay-most, l.size) }

  pub lay-on : {rows' : List ℕ} → length rows' ≡ length rows → Follow rows at (first_facts n (p + 1) (get_or ar (p + 1) 0) m) m rows' → Laying ar count n rows₀ rows' (at + m) (p + 1)
  lay-on {rows'} s q = record {
    size = s ∙ l.size;
    within = omega arith;
    place = next-ground;
    words =
        q
        ∙ ap₂ ◌++◌ l.words (ap rows_of (ap (first_facts n (p + 1) (get_or ar (p + 1) 0)) e ∙ facts-all ar n (p + 1) d.some))
        ∙ sym (ap rows_of (facts-step ar p n) ∙ rows_append (ground_facts ar p n) (facts_of ar n (p + 1)));
  }

pub lay-end : {ar : List ℕ} {count n : ℕ} {rows₀ rows : List ℕ} {at p : ℕ} → Laying ar count n rows₀ rows at p → count ≤ p
    → take (ground_count ar count n * fact_words) rows ≡ rows_of (ground_facts ar count n)
lay-end {ar} {count} {n} {rows₀} {rows} {at} {p} l h =
    let e : p ≡ count = omega (arith, l.within) in
    ap (λ z. take (z * fact_words) rows) (sym (l.place ∙ ap (λ z. ground_count ar z n) e)) ∙ l.words ∙ ap (λ z. rows_of (ground_facts ar z n)) e
