-- Laws of what a label says, in the words of the code.
use mathlib.Core.Path.{◌≡◌, refl, ap, sym, ◌∙◌}
use mathlib.Core.Bool.{Bool, true, false}
use mathlib.Core.List.{List, [], ◌∷◌}
use Prim.Native.Nat.{ℕ, zero, suc, ◌+◌, ◌*◌, ◌≤◌, ◌<◌}
use native.Mathlib.Omega.{arith}
use lib.ListN.{length, get_or, take, length-map}
use lib.Seq.{get_or-take, length-take-le, ext_get_or}
use lib.Dec.{eqb, leb}
use borrow.Author.Tests.{eq-eqb, ne_eqb, eqb-true, leb-true}
use Rattle.basics.specs.Tests.{and_left, and_right, Cmp, below, equal, above, cmp}
use Rattle.label.specs.Limits.{term_end, most_places, predicate_count, equality, equality_arity}
use Rattle.label.specs.Labels.{are_arities, all_at_most, predicate_of, place_at, places_of, unpacked, terms_of}
use Rattle.label.proofs.LabelLaws.{label-fits, place_of, place_end}
use Rattle.diagram.specs.Words.{equal_lists}
use Rattle.diagram.specs.WordLaws.{get_d_map, lists-equal, equal-lists}
use Rattle.state.specs.State.{equated}
use Rattle.state.specs.Lent.{fact_words, fact_count, predicate_at, objects_at, says_fact, said_by}
use Rattle.state.proofs.LentLaws.{some-made, some-none, objects-length as row-length, object-at}
use Rattle.eliminate.specs.Masks.{env_of}
use Rattle.eliminate.specs.Calls.{Labelled, Asked, objects_of, lent_truth, tells}

-- an arity of the list is at most the number of places
at_most : (m : ℕ) (xs : List ℕ) (p : ℕ) → all_at_most m xs ≡ true → get_or xs p 0 ≤ m
at_most m [] p e = omega arith
at_most m (x ∷ xs) zero e = leb-true x m (and_left (leb x m) _ e)
at_most m (x ∷ xs) (suc p) e = at_most m xs p (and_right (leb x m) _ e)

module _ {ar : List ℕ} {l : ℕ} (a : Labelled ar l) where
  pub asked-predicate : predicate_of l < length ar
  unfolding are_arities predicate_of unpacked
  asked-predicate =
      let q = (label-fits ar l a.label).predicate-fits in
      let w = eqb-true (length ar) predicate_count (and_left _ _ a.arities) in
      omega arith

  pub asked-few : {p : ℕ} → p ≡ predicate_of l → p < predicate_count
  unfolding predicate_of unpacked
  asked-few e = rw e (label-fits ar l a.label).predicate-fits

  pub asked-read : {p : ℕ} → p ≡ predicate_of l → p < length ar
  asked-read e = rw e asked-predicate

  pub asked-arity : get_or ar (predicate_of l) 0 ≤ most_places
  unfolding are_arities
  asked-arity = at_most most_places ar (predicate_of l) (and_right (eqb (get_or ar equality 0) equality_arity) _ (and_right (eqb (length ar) predicate_count) _ a.arities))

  pub asked-two : predicate_of l ≡ 0 → get_or ar (predicate_of l) 0 ≡ 2
  unfolding are_arities
  asked-two e = rw e (eqb-true (get_or ar equality 0) equality_arity (and_left _ _ (and_right (eqb (length ar) predicate_count) _ a.arities)))

  pub asked-term : (k : ℕ) {t : ℕ} → k < most_places → t ≡ place_at l k → t < term_end
  asked-term k h e = rw e (place_end ar l k a.label h)

  -- the terms of a label, one by one
  pub terms-length : length (terms_of ar (unpacked l)) ≡ get_or ar (predicate_of l) 0
  unfolding terms_of predicate_of unpacked
  terms-length = length-take-le (get_or ar (predicate_of l) 0) (places_of (unpacked l)) asked-arity

  pub term-at : (k : ℕ) → k < get_or ar (predicate_of l) 0 → get_or (terms_of ar (unpacked l)) k 0 ≡ place_at l k
  unfolding terms_of predicate_of unpacked
  term-at k h = let q = asked-arity in get_or-take (get_or ar (predicate_of l) 0) (places_of (unpacked l)) k 0 h ∙ place_of l k (omega arith)

module _ {ar env : List ℕ} {l : ℕ} (a : Asked ar env l) where
  pub asked-place : (k : ℕ) → k < most_places → place_at l k < length env
  asked-place k h = let q = place_end ar l k a.labelled.label h in let w = a.places in omega arith

  pub objects-length : length (objects_of ar env l) ≡ get_or ar (predicate_of l) 0
  unfolding objects_of
  objects-length = length-map (terms_of ar (unpacked l)) (env_of env) ∙ terms-length a.labelled

  pub objects-at : (k : ℕ) → k < get_or ar (predicate_of l) 0 → get_or (objects_of ar env l) k 0 ≡ get_or env (place_at l k) 0
  unfolding objects_of
  objects-at k h =
      let w = terms-length a.labelled in
      get_d_map (env_of env) (terms_of ar (unpacked l)) k 0 0 (omega arith) ∙ ap (env_of env) (term-at a.labelled k h)

-- ===== What a row of facts says =====

-- row i has the predicate, and the first k of its objects are the label's
pub record Saying (ar facts env : List ℕ) (l i arity k : ℕ) : Type 0 where
  pub asked : Asked ar env l
  pub row : i * fact_words + fact_words ≤ length facts
  pub predicate : get_or facts (i * fact_words) 0 ≡ predicate_of l
  pub arity-is : arity ≡ get_or ar (predicate_of l) 0
  pub end : k ≤ arity
  pub few : arity ≤ most_places
  pub objects : (j : ℕ) → j < k → get_or facts (i * fact_words + 1 + j) 0 ≡ get_or env (place_at l j) 0

pub say-other : (ar facts env : List ℕ) (l i : ℕ) {p : ℕ} → p ≡ predicate_of l → (get_or facts (i * fact_words) 0 ≡ p → ⊥)
    → false ≡ says_fact ar facts (predicate_of l) (objects_of ar env l) i
unfolding says_fact predicate_at
say-other ar facts env l i e h = rw (ne_eqb (get_or facts (i * fact_words) 0) (predicate_of l) (λ q. h (q ∙ sym e)))

pub say-start : (ar facts env : List ℕ) (l i : ℕ) {p : ℕ} → Asked ar env l → i * fact_words + fact_words ≤ length facts → p ≡ predicate_of l
    → get_or facts (i * fact_words) 0 ≡ p → Saying ar facts env l i (get_or ar p 0) 0
say-start ar facts env l i {p} a r e h = record {
  asked = a;
  row = r;
  predicate = h ∙ e;
  arity-is = ap (λ q. get_or ar q 0) e;
  end = omega arith;
  few = let q = asked-arity a.labelled in rw e q;
  objects = λ j k. absurd (omega arith);
}

module _ {ar facts env : List ℕ} {l i arity k : ℕ} (s : Saying ar facts env l i arity k) where
  by-lists : says_fact ar facts (predicate_of l) (objects_of ar env l) i ≡ equal_lists (take arity (objects_at facts i)) (objects_of ar env l)
  unfolding says_fact predicate_at
  by-lists = rw (eq-eqb (get_or facts (i * fact_words) 0) (predicate_of l) s.predicate, ← s.arity-is)

  row_at : (j : ℕ) → j < arity → get_or (take arity (objects_at facts i)) j 0 ≡ get_or facts (i * fact_words + 1 + j) 0
  row_at j h = let f = s.few in get_or-take arity (objects_at facts i) j 0 h ∙ object-at facts i j (omega arith)

  pub say-place : k < arity → k < most_places
  say-place h = let f = s.few in omega arith

  pub say-read : {t : ℕ} → k < arity → t ≡ place_at l k → t < length env
  say-read h e = rw e (asked-place s.asked k (say-place h))

  pub say-end : {t : ℕ} → k < arity → t ≡ place_at l k → t < term_end
  say-end h e = rw e (place_end ar l k s.asked.labelled.label (say-place h))

  pub say-room : k < arity → i * fact_words + 1 + k < length facts
  say-room h = let f = say-place h in let r = s.row in omega arith

  pub say-not : {t : ℕ} → k < arity → t ≡ place_at l k → (get_or facts (i * fact_words + 1 + k) 0 ≡ get_or env t 0 → ⊥)
      → false ≡ says_fact ar facts (predicate_of l) (objects_of ar env l) i
  say-not {t} h e d = go (equal_lists (take arity (objects_at facts i)) (objects_of ar env l)) refl
    where
      go : (b : Bool) → equal_lists (take arity (objects_at facts i)) (objects_of ar env l) ≡ b → false ≡ says_fact ar facts (predicate_of l) (objects_of ar env l) i
      go false q = sym (by-lists ∙ q)
      go true q =
          let z = lists-equal (take arity (objects_at facts i)) (objects_of ar env l) q in
          let h' : k < get_or ar (predicate_of l) 0 = rw (← s.arity-is) h in
          absurd (d (sym (row_at k h) ∙ ap (λ xs. get_or xs k 0) z ∙ objects-at s.asked k h' ∙ ap (λ j. get_or env j 0) (sym e)))

  pub say-on : {t : ℕ} → k < arity → t ≡ place_at l k → get_or facts (i * fact_words + 1 + k) 0 ≡ get_or env t 0 → Saying ar facts env l i arity (k + 1)
  say-on {t} h e d = record {
    asked = s.asked;
    row = s.row;
    predicate = s.predicate;
    arity-is = s.arity-is;
    end = omega arith;
    few = s.few;
    objects = λ j q. go j (cmp j k) q;
  }
    where
      go : (j : ℕ) → Cmp j k → j < k + 1 → get_or facts (i * fact_words + 1 + j) 0 ≡ get_or env (place_at l j) 0
      go j (below x) q = s.objects j x
      go j (equal x) q = rw x (d ∙ ap (λ u. get_or env u 0) e)
      go j (above x) q = absurd (omega arith)

  pub say-all : arity ≤ k → true ≡ says_fact ar facts (predicate_of l) (objects_of ar env l) i
  say-all h =
      let f = s.few in
      let n = s.end in
      let w = row-length facts i (omega (arith, s.row)) in
      let u : length (take arity (objects_at facts i)) ≡ arity = length-take-le arity (objects_at facts i) (omega arith) in
      let v : length (objects_of ar env l) ≡ arity = objects-length s.asked ∙ sym s.arity-is in
      let z : take arity (objects_at facts i) ≡ objects_of ar env l
      = ext_get_or 0 (take arity (objects_at facts i)) (objects_of ar env l) (u ∙ sym v) (λ j q. same j (rw u at q)) in
      sym (by-lists ∙ rw z (equal-lists (objects_of ar env l)))
    where
      same : (j : ℕ) → j < arity → get_or (take arity (objects_at facts i)) j 0 ≡ get_or (objects_of ar env l) j 0
      same j q = row_at j q ∙ s.objects j (omega arith) ∙ sym (objects-at s.asked j (rw (← s.arity-is) q))

-- ===== What some row says =====

-- the first i rows say nothing of it
pub record Seeking (ar facts os : List ℕ) (p i : ℕ) : Type 0 where
  pub none : (j : ℕ) → j < i → says_fact ar facts p os j ≡ false

pub seek-start : (ar facts os : List ℕ) (p : ℕ) → Seeking ar facts os p 0
seek-start ar facts os p = record { none = λ j h. absurd (omega arith) }

module _ {ar facts os : List ℕ} {p i : ℕ} {b : Bool} (s : Seeking ar facts os p i) (e : b ≡ says_fact ar facts p os i) where
  pub seek_hit : i < fact_count facts → b ≡ true → true ≡ said_by ar facts p os
  unfolding said_by
  seek_hit h t = sym (some-made (fact_count facts) (says_fact ar facts p os) i h (sym e ∙ t))

  pub seek-on : b ≡ false → Seeking ar facts os p (i + 1)
  seek-on t = record { none = λ j h. go j (cmp j i) h }
    where
      go : (j : ℕ) → Cmp j i → j < i + 1 → says_fact ar facts p os j ≡ false
      go j (below x) q = s.none j x
      go j (equal x) q = rw x (sym e ∙ t)
      go j (above x) q = absurd (omega arith)

pub seek-end : (ar facts os : List ℕ) {p i : ℕ} → Seeking ar facts os p i → fact_count facts ≤ i → false ≡ said_by ar facts p os
unfolding said_by
seek-end ar facts os {p} {i} s h = sym (some-none (fact_count facts) (says_fact ar facts p os) (λ j q. s.none j (omega arith)))

-- ===== What a label says =====
pub tell-equal : (ar facts env : List ℕ) (l : ℕ) {p t u : ℕ} → Asked ar env l → p ≡ predicate_of l → p ≡ 0 → t ≡ place_at l 0 → u ≡ place_at l 1
    → eqb (get_or env t 0) (get_or env u 0) ≡ tells ar facts env l
unfolding tells
tell-equal ar facts env l {p} {t} {u} a e z x y =
    let q : predicate_of l ≡ 0 = sym e ∙ z in
    let two = asked-two a.labelled q in
    let o = objects-at a 0 (omega arith) in
    let w = objects-at a 1 (omega arith) in
    rw (q, x, y) (pair (objects_of ar env l) (get_or env (place_at l 0) 0) (get_or env (place_at l 1) 0) (objects-length a ∙ two) o w)
  where
    pair : (os : List ℕ) (c d : ℕ) → length os ≡ 2 → get_or os 0 0 ≡ c → get_or os 1 0 ≡ d → eqb c d ≡ equated os
    pair [] c d h i j = absurd (omega arith)
    pair (o ∷ []) c d h i j = absurd (omega arith)
    pair (o ∷ w ∷ os) c d h i j = rw (← i, ← j)

pub tell-said : (ar facts env : List ℕ) (l : ℕ) {p : ℕ} {b : Bool} → p ≡ predicate_of l → (p ≡ 0 → ⊥) → b ≡ said_by ar facts (predicate_of l) (objects_of ar env l)
    → b ≡ tells ar facts env l
unfolding tells
tell-said ar facts env l {p} {b} e z h = go (predicate_of l) refl
  where
    go : (q : ℕ) → predicate_of l ≡ q → b ≡ lent_truth ar facts (predicate_of l) (objects_of ar env l)
    go zero d = absurd (z (e ∙ d))
    go (suc q) d = rw d (h ∙ rw d)
