-- Laws of marking the terms that a listing uses, and of counting the marked variables.
use mir.Val.{bool_byte}
use mathlib.Core.Path.{◌≡◌, refl, sym, ap, ap₂, subst, ◌∙◌}
use mathlib.Core.Bool.{Bool, true, false, not, ◌||◌, cond}
use mathlib.Core.List.{List, [], ◌∷◌}
use Prim.Native.Nat.{ℕ, zero, suc, ◌+◌, ◌-◌, ◌*◌, ◌/◌, ◌<◌, ◌≤◌, zero-le}
use native.Mathlib.Omega.{arith}
use native.Mathlib.Numerals.{add-one}
use lib.ListN.{length, get_or, set, take, drop, length-set, replicate, length-replicate, get_or-replicate}
use lib.Seq.{drop-cons, get_or-set_same, get_or-set_other}
use lib.Dec.{eqb}
use Rattle.std.specs.List.{count_by}
use Rattle.std.proofs.lemmas.List.Sums.{sum_by-cons}
use borrow.Author.Tests.{eqb-true, eqb-false}
use Rattle.basics.specs.Tests.{Flag, is_true, is_false, flag, cond-const}
use Rattle.basics.specs.Members.{mem}
use Rattle.label.specs.Limits.{leaf_mark, term_end, most_places, predicate_count, first_variable, first_minimum}
use Rattle.label.specs.Labels.{places_of, predicate_of, place_at, unpacked, is_label, terms_of}
use Rattle.label.proofs.LabelLaws.{label-fits, predicate-of, place_of, place_end}
use Rattle.label.proofs.ArityLaws.{arity-most, arity-words}
use Rattle.diagram.specs.Words.{label_at, row_count}
use Rattle.diagram.specs.Listing.{diagram_of}
use Rattle.diagram.specs.Validity.{Valid}
use Rattle.diagram.specs.RowDiagrams.{branch_row}
use Rattle.diagram.specs.DiagramOfListing.{valid-rows}
use Rattle.listing.specs.Used.{row_terms, mentioned, marked, Markable, Used, set_from, marked_variables, marked_minimums}
use Rattle.listing.specs.UsedLaws.{terms-leaf, terms-branch, mentioned-none, mentioned-more, mentioned-occurs}

-- mark_row: the terms of a branch, by its label's places
module _ (ar ws ms : List ℕ) (i : ℕ) where
  pub mark-leaf : get_or ws (i * 3) 0 ≡ leaf_mark → ms ≡ marked (row_terms ar ws i) ms
  unfolding label_at
  mark-leaf e = rw (terms-leaf ar ws i e)

  module _ (e : get_or ws (i * 3) 0 ≡ leaf_mark → ⊥) (m : Markable ar ws ms i) where
    label : is_label ar (get_or ws (i * 3) 0) ≡ true
    unfolding label_at
    label = (branch_row ar ws (row_count ws) (valid-rows ar ws m.valid) i m.row e).label

    pub predicate-below : {p : ℕ} → p ≡ predicate_of (get_or ws (i * 3) 0) → p < predicate_count
    predicate-below q =
        subst (λ (x : ℕ). x < predicate_count) (predicate-of (get_or ws (i * 3) 0) ∙ sym q) (label-fits ar (get_or ws (i * 3) 0) label).predicate-fits

    pub predicate-within : {p : ℕ} → p ≡ predicate_of (get_or ws (i * 3) 0) → p < length ar
    predicate-within q = omega (arith, predicate-below q, arity-words ar m.valid.arities)

    pub few-places : {p n : ℕ} → p ≡ predicate_of (get_or ws (i * 3) 0) → n ≡ get_or ar p 0 → n ≤ most_places
    few-places {p} q d = omega (arith, arity-most ar p m.valid.arities)

    pub place-within : {k t : ℕ} → k < most_places → t ≡ place_at (get_or ws (i * 3) 0) k → t < term_end
    place-within {k} h f = omega (arith, place_end ar (get_or ws (i * 3) 0) k label h)

-- the marks after terms were marked
length_marked : (ts ms : List ℕ) → length (marked ts ms) ≡ length ms
length_marked [] ms = refl
length_marked (t ∷ ts) ms = length_marked ts (set ms t 1) ∙ rw length-set

marked-at : (ts ms : List ℕ) (t : ℕ) → t < length ms → get_or (marked ts ms) t 0 ≡ cond (mem eqb t ts) 1 (get_or ms t 0)
marked-at [] ms t h = refl
marked-at (u ∷ us) ms t h = marked-at us (set ms u 1) t (rw length-set h) ∙ go (flag (eqb t u))
  where
    go : Flag (eqb t u) → cond (mem eqb t us) 1 (get_or (set ms u 1) t 0) ≡ cond (eqb t u || mem eqb t us) 1 (get_or ms t 0)
    go (is_true q) = let e = eqb-true t u q in rw (q, e, get_or-set_same ms u 1 0 (omega arith)) (cond-const (mem eqb u us) 1)
    go (is_false q) = rw (q, get_or-set_other ms u t 1 0 (eqb-false t u q))

-- mark_row: the first k places of a branch's label are marked
pub record MarkedTo (l : ℕ) (ms₀ ms : List ℕ) (n k : ℕ) : Type 0 where
  pub most : k ≤ n
  pub few : n ≤ most_places
  pub marks : ms ≡ marked (take k (places_of (unpacked l))) ms₀

marked-last : (k : ℕ) (ts ms : List ℕ) → k < length ts → marked (take (suc k) ts) ms ≡ set (marked (take k ts) ms) (get_or ts k 0) 1
marked-last k [] ms h = absurd (omega arith)
marked-last zero (t ∷ ts) ms h = refl
marked-last (suc k) (t ∷ ts) ms h = marked-last k ts (set ms t 1) (omega arith)

pub places-start : (l : ℕ) (ms : List ℕ) {n : ℕ} → n ≤ most_places → MarkedTo l ms ms n 0
places-start l ms h = record { most = zero-le; few = h; marks = refl }

module _ {l : ℕ} {ms₀ ms : List ℕ} {n : ℕ} where
  pub places-next : {k t : ℕ} → MarkedTo l ms₀ ms n k → k < n → t ≡ place_at l k → MarkedTo l ms₀ (set ms t 1) n (k + 1)
  places-next {k} {t} m h e = record {
    most = omega arith;
    few = m.few;
    marks = rw (add-one, marked-last k (places_of (unpacked l)) ms₀ (omega (arith, m.few)), ← m.marks, place_of l k (omega (arith, m.few)), ← e);
  }

pub mark-branch : (ar ws ms₀ : List ℕ) (i : ℕ) {p n k : ℕ} {ms : List ℕ} → (get_or ws (i * 3) 0 ≡ leaf_mark → ⊥) → p ≡ predicate_of (get_or ws (i * 3) 0)
    → n ≡ get_or ar p 0 → MarkedTo (get_or ws (i * 3) 0) ms₀ ms n k → n ≤ k → ms ≡ marked (row_terms ar ws i) ms₀
unfolding label_at terms_of
mark-branch ar ws ms₀ i {p} {n} {k} e q d m h =
    let z : k ≡ get_or ar (unpacked (get_or ws (i * 3) 0)).predicate 0 =
    (let y : k ≡ n = omega (arith, m.most) in y ∙ d ∙ ap (λ (x : ℕ). get_or ar x 0) (q ∙ sym (predicate-of (get_or ws (i * 3) 0)))) in
    m.marks ∙ ap (λ (x : ℕ). marked (take x (places_of (unpacked (get_or ws (i * 3) 0)))) ms₀) z ∙ rw (terms-branch ar ws i e)

-- used: the terms of the rows before i are marked
pub record Marking (ar ws ms : List ℕ) (i : ℕ) : Type 0 where
  pub whole : length ms ≡ term_end
  pub most : i ≤ row_count ws
  pub each : (t : ℕ) → t < term_end → get_or ms t 0 ≡ cond (mentioned ar ws i t) 1 0

module _ {ar ws ms : List ℕ} where
  pub mark-start : {n : ℕ} → n ≡ term_end → ms ≡ replicate n 0 → Marking ar ws ms 0
  mark-start {n} l e = record {
    whole = rw (e, length-replicate) l;
    most = zero-le;
    each = λ t h. rw (mentioned-none ar ws t, e) (get_or-replicate n t 0 0 (omega arith));
  }

  pub markable : {i : ℕ} → Valid ar ws → Marking ar ws ms i → i < length ws / 3 → Markable ar ws ms i
  markable v m h = record { valid = v; row = h; whole = m.whole }

  pub mark-next : {i : ℕ} {ms' : List ℕ} → Marking ar ws ms i → i < length ws / 3 → ms' ≡ marked (row_terms ar ws i) ms → Marking ar ws ms' (i + 1)
  mark-next {i} {ms'} m h e = record {
    whole = ap length e ∙ length_marked (row_terms ar ws i) ms ∙ m.whole;
    most = omega arith;
    each = λ t l. rw (e, marked-at (row_terms ar ws i) ms t (omega (arith, m.whole)), m.each t l, add-one, mentioned-more ar ws i t)
        (go (mentioned ar ws i t) (mem eqb t (row_terms ar ws i)));
  }
    where
      go : (a b : Bool) → ◌≡◌ {A = ℕ} (cond b 1 (cond a 1 0)) (cond (a || b) 1 0)
      go true b = cond-const b 1
      go false b = refl

  pub mark-end : {i : ℕ} → Valid ar ws → Marking ar ws ms i → length ws / 3 ≤ i → Used ar (diagram_of ws) ms
  mark-end {i} v m h =
      let e : i ≡ row_count ws = omega (arith, m.most) in
      record { whole = m.whole; each = λ t l. m.each t l ∙ rw (e, mentioned-occurs ar ws v t) }

-- count_between: the marks that are set, by a filter
pub count_is : (ms : List ℕ) (t n : ℕ) → t + n ≤ length ms → count_by (λ x. not (eqb x 0)) (take n (drop t ms)) ≡ set_from ms t n
unfolding set_from
count_is ms t zero h = refl
count_is ms t (suc n) h =
    let l : t < length ms = omega arith in
    rw (drop-cons ms t 0)
    (sum_by-cons (λ x. cond (not (eqb x 0)) 1 0) (get_or ms t 0) (take n (drop (suc t) ms)) ∙ ap₂ ◌+◌ (go (eqb (get_or ms t 0) 0)) (count_is ms (suc t) n (omega arith)))
  where
    go : (b : Bool) → ◌≡◌ {A = ℕ} (cond (not b) 1 0) (cond b 0 1)
    go true = refl
    go false = refl

-- count_between: the same, mark by mark
pub count_bit : (m : ℕ) {x : ℕ} → x ≡ bool_byte (not (eqb m 0)) → x ≡ cond (eqb m 0) 0 1
count_bit m {x} q = q ∙ go (eqb m 0)
  where
    go : (c : Bool) → ◌≡◌ {A = ℕ} (bool_byte (not c)) (cond c 0 1)
    go true = refl
    go false = refl

set-none : (ms : List ℕ) (t : ℕ) → set_from ms t 0 ≡ 0
unfolding set_from
set-none ms t = refl

set_more : (ms : List ℕ) (t n : ℕ) → set_from ms t (suc n) ≡ cond (eqb (get_or ms t 0) 0) 0 1 + set_from ms (suc t) n
unfolding set_from
set_more ms t n = refl

count_small : {x : ℕ} (m : ℕ) → x ≡ cond (eqb m 0) 0 1 → x ≤ 1
count_small {x} m e = go (flag (eqb m 0))
  where
    go : Flag (eqb m 0) → x ≤ 1
    go (is_true q) = let z : x ≡ 0 = e ∙ rw q in omega arith
    go (is_false q) = let z : x ≡ 1 = e ∙ rw q in omega arith

plus_none : (n x : ℕ) → x ≡ 0 → n ≡ n + x
plus_none n x e = omega arith

-- count_between: n of the marks from `first` on and before t are set
pub record Counting (ms : List ℕ) (first end n t : ℕ) : Type 0 where
  pub most : t ≤ end
  pub last : end ≤ term_end
  pub fewer : n + first ≤ t
  pub sum : n + set_from ms t (end - t) ≡ set_from ms first (end - first)

module _ {ms : List ℕ} {first end : ℕ} where
  pub count-start : first ≤ end → end ≤ term_end → Counting ms first end 0 first
  count-start h k = record { most = h; last = k; fewer = omega arith; sum = omega arith }

  pub count_next : {n t x : ℕ} → Counting ms first end n t → t < end → x ≡ cond (eqb (get_or ms t 0) 0) 0 1 → Counting ms first end (n + x) (t + 1)
  count_next {n} {t} {x} c h e = record { most = omega arith; last = c.last; fewer = omega (arith, c.fewer, count_small (get_or ms t 0) e); sum = all }
    where
      all : n + x + set_from ms (t + 1) (end - (t + 1)) ≡ set_from ms first (end - first)
      all =
          let p : end - t ≡ suc (end - (t + 1)) = omega arith in
          let q : set_from ms t (end - t) ≡ x + set_from ms (suc t) (end - (t + 1)) = ap (set_from ms t) p ∙ set_more ms t (end - (t + 1)) ∙ rw e in
          let r : set_from ms (t + 1) (end - (t + 1)) ≡ set_from ms (suc t) (end - (t + 1)) = rw add-one in
          omega (arith, c.sum)

  pub count_room : {n t x : ℕ} → Counting ms first end n t → x ≡ cond (eqb (get_or ms t 0) 0) 0 1 → n + x < 18446744073709551616
  count_room {n} {t} {x} c e = omega (arith, c.most, c.last, c.fewer, count_small (get_or ms t 0) e)

  pub count-end : {n t : ℕ} → Counting ms first end n t → end ≤ t → n ≡ set_from ms first (end - first)
  count-end {n} {t} c h =
      let p : end - t ≡ 0 = omega arith in
      let q : set_from ms t (end - t) ≡ 0 = ap (set_from ms t) p ∙ set-none ms t in
      plus_none n _ q ∙ c.sum

pub counted-variables : (ms : List ℕ) {n : ℕ} → n ≡ set_from ms first_variable (first_minimum - first_variable) → n ≡ marked_variables ms
unfolding marked_variables
counted-variables ms e = e

pub counted-minimums : (ms : List ℕ) {n : ℕ} → n ≡ set_from ms first_minimum (term_end - first_minimum) → n ≡ marked_minimums ms
unfolding marked_minimums
counted-minimums ms e = e

pub none-marked : (ms : List ℕ) {n : ℕ} → n ≡ marked_minimums ms → eqb n 0 ≡ eqb (marked_minimums ms) 0
none-marked ms e = ap (λ (n : ℕ). eqb n 0) e
