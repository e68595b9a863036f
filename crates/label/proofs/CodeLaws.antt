-- The ways through the functions on atoms and labels, in the words of their tests and callees.
use mathlib.Core.Path.{◌≡◌, refl, sym, ap, subst, subst₂, ◌∙◌}
use Rattle.basics.specs.Members.{clash}
use mathlib.Core.Bool.{Bool, true, false, not, cond}
use mathlib.Core.List.{List, [], ◌∷◌}
use Prim.Native.Nat.{ℕ, ◌+◌, ◌-◌, ◌*◌, ◌/◌, ◌%◌, ◌^◌, ◌≤◌, ◌<◌, min}
use native.Mathlib.Omega.{arith}
use lib.ListN.{length, get_or}
use lib.Dec.{eqb, ltb, leb}
use Rattle.std.specs.List.{list_all}
use borrow.Author.Tests.{lt-ltb, le-ltb, eqb-true, eq-eqb, ne_eqb, not-true}
use Rattle.basics.specs.Tests.{and_left, Flag, is_true, is_false, flag, Cmp, below, equal, above, cmp}
use Rattle.label.specs.Limits.{term_bits, term_base, term_end}
use Rattle.label.specs.Limits.{predicate_count, equality_arity, most_places}
use Rattle.label.specs.Terms.{is_term}
use Rattle.label.specs.Labels.{are_arities, all_at_most, places_of, place_in, atom_from, packed, predicate_of, place_at, unpacked, place_fits, in_order, is_atom, is_label}
use Rattle.label.specs.Inner.{is_label_under, map_of}
use Rattle.label.specs.Labels.{equal_atom, equates, test_of}
use Rattle.label.specs.Renamings.{placed, mapped, moved, renamed}
use Rattle.label.specs.Callers.{ends_at, Places, Packable, TermMap, Mappable, Movable, Replaced}
use Rattle.label.proofs.LabelLaws.{used-term, unused-zero, each-end, ends-zero, zero-ends, places-below, below-places, place_of, predicate-of, place-fits, fits-list}
use Rattle.label.proofs.LabelLaws.{label-fits, label-ends, label-places}
use Rattle.label.proofs.RenamingLaws.{mapped-place}
use Rattle.label.specs.declared.Atom.{Atom}
use Rattle.label.specs.declared.Label.{Label}
use Rattle.label.specs.declared.Test.{Test}
use Rattle.label.specs.declared.Test.TheVariants.{Always, Is}

-- placed
pub placed-used : (map : List ℕ) (n k t : ℕ) → k < n → get_or map t 0 ≡ placed (map_of map) n k t
unfolding placed
placed-used map n k t h = rw (lt-ltb k n h)

pub placed-unused : (map : List ℕ) (n k t : ℕ) → n ≤ k → 0 ≡ placed (map_of map) n k t
unfolding placed
placed-unused map n k t h = rw (le-ltb k n h)

-- equate
pub equate-same : {t u : ℕ} → t ≡ u → Always ≡ equates t u
unfolding equates
equate-same {t} {u} e = rw (eq-eqb t u e)

pub equate-less : {t u : ℕ} {a : Atom} {l : Label} → t < u → a ≡ equal_atom t u → l.packed ≡ packed a → Is l ≡ equates t u
unfolding equates
equate-less {t} {u} h e f = rw (ne_eqb t u (omega arith), lt-ltb t u h) (λ i. Is (record { packed = (f ∙ ap packed e) i }))

pub equate-more : {t u : ℕ} {a : Atom} {l : Label} → (t ≡ u → ⊥) → u ≤ t → a ≡ equal_atom u t → l.packed ≡ packed a → Is l ≡ equates t u
unfolding equates
equate-more {t} {u} n h e f = rw (ne_eqb t u n, le-ltb t u h) (λ i. Is (record { packed = (f ∙ ap packed e) i }))

-- what is known of the atom that two terms are equal
pub equal-packs : {t u : ℕ} {a : Atom} → t < term_base → u < term_base → a ≡ equal_atom t u → Packable a
equal-packs {t} {u} h k e = subst Packable (sym e) (record {
  predicate-below = omega arith;
  places = record { first_below = omega arith; second_below = omega arith; third-below = omega arith; fourth-below = omega arith; fifth-below = omega arith; sixth-below = omega arith };
})

-- pack
pub pack-is : (a : Atom)
    → (((((a.predicate * term_base + a.first) * term_base + a.second) * term_base + a.third) * term_base + a.fourth) * term_base + a.fifth) * term_base + a.sixth ≡ packed a
unfolding packed
pack-is a = omega arith

-- test
pub test-other : (a : Atom) {l : Label} → (a.predicate ≡ 0 → ⊥) → l.packed ≡ packed a → Is l ≡ test_of a
unfolding test_of
test-other a {l} n e = rw (ne_eqb a.predicate 0 n) (λ i. Is (record { packed = e i }))

pub test-equality : (a : Atom) {x : Test} → a.predicate ≡ 0 → x ≡ equates a.first a.second → x ≡ test_of a
unfolding test_of
test-equality a {x} h e = rw (eq-eqb a.predicate 0 h) e

-- unpack
pub unpack-is : (l : ℕ) {p x₀ x₁ x₂ x₃ x₄ x₅ : ℕ} → p ≡ predicate_of l → x₀ ≡ place_at l 0 → x₁ ≡ place_at l 1 → x₂ ≡ place_at l 2 → x₃ ≡ place_at l 3
    → x₄ ≡ place_at l 4 → x₅ ≡ place_at l 5 → ◌≡◌ {A = Atom} (atom_from p (x₀ ∷ x₁ ∷ x₂ ∷ x₃ ∷ x₄ ∷ x₅ ∷ [])) (unpacked l)
unfolding unpacked
unpack-is l e e₀ e₁ e₂ e₃ e₄ e₅ = λ i. atom_from (e i) (e₀ i ∷ e₁ i ∷ e₂ i ∷ e₃ i ∷ e₄ i ∷ e₅ i ∷ [])

-- mapped and replaced
pub mapped-is : (map : List ℕ) (n : ℕ) (a : Atom) {x₀ x₁ x₂ x₃ x₄ x₅ : ℕ} → x₀ ≡ placed (map_of map) n 0 a.first → x₁ ≡ placed (map_of map) n 1 a.second
    → x₂ ≡ placed (map_of map) n 2 a.third → x₃ ≡ placed (map_of map) n 3 a.fourth → x₄ ≡ placed (map_of map) n 4 a.fifth
    → x₅ ≡ placed (map_of map) n 5 a.sixth
    → ◌≡◌ {A = Atom} (atom_from a.predicate (x₀ ∷ x₁ ∷ x₂ ∷ x₃ ∷ x₄ ∷ x₅ ∷ [])) (mapped (map_of map) n a)
unfolding mapped
mapped-is map n a e₀ e₁ e₂ e₃ e₄ e₅ = λ i. atom_from a.predicate (e₀ i ∷ e₁ i ∷ e₂ i ∷ e₃ i ∷ e₄ i ∷ e₅ i ∷ [])

placed_below : (map : List ℕ) → TermMap map → (n k t : ℕ) → t < term_end → placed (map_of map) n k t < term_end
unfolding placed
placed_below map m n k t h = go (flag (ltb k n))
  where
    go : Flag (ltb k n) → cond (ltb k n) (get_or map t 0) 0 < term_end
    go (is_true q) = rw q (m.below t h)
    go (is_false q) = rw q (omega arith)

mapped-packable : (map : List ℕ) → TermMap map → (n : ℕ) (a : Atom) → Packable a → Places term_end a → Packable (mapped (map_of map) n a)
mapped-packable map m n a p q = record {
  predicate-below = unfold mapped in p.predicate-below;
  places =
      below-places term_base (mapped (map_of map) n a)
      (λ k h. omega (arith, mapped-place (map_of map) n a k h, placed_below map m n k _ (places-below a q k h)));
}

pub label-packable : (ar : List ℕ) (l : ℕ) → is_label ar l ≡ true → Packable (unpacked l)
label-packable ar l e = record { predicate-below = (label-fits ar l e).predicate-fits; places = label-places ar l e }

pub replaced-is : {ar map : List ℕ} {l : ℕ} {a r : Atom} → Movable ar map l → a ≡ unpacked l → r ≡ mapped (map_of map) (get_or ar a.predicate 0) a
    → Replaced ar map l r
replaced-is {ar} {map} {l} {a} {r} m e f =
    let p : Packable a = rw e (label-packable ar l m.label) in
    record {
      atom = f ∙ ap (λ (x : Atom). mapped (map_of map) (get_or ar x.predicate 0) x) e ∙ ap (λ (x : ℕ). mapped (map_of map) (get_or ar x 0) (unpacked l)) (predicate-of l);
      packable = rw f (mapped-packable map m.terms (get_or ar a.predicate 0) a p (rw e (label-ends ar l m.label)));
    }

pub read-packable : {ar map : List ℕ} {l : ℕ} {a : Atom} → Movable ar map l → a ≡ unpacked l → Packable a
read-packable {ar} {map} {l} m e = rw e (label-packable ar l m.label)

pub read-mappable : {ar map : List ℕ} {l : ℕ} {a : Atom} → Movable ar map l → a ≡ unpacked l → Mappable a map
read-mappable {ar} {map} {l} m e = record { whole = m.terms.whole; places = rw e (label-ends ar l m.label) }

pub moved-is : {ar map : List ℕ} {l : ℕ} {a : Atom} {x : Test} → Replaced ar map l a → x ≡ test_of a → x ≡ moved ar (map_of map) l
unfolding moved
moved-is r e = e ∙ ap test_of r.atom

pub renamed-is : {ar map : List ℕ} {l : ℕ} {a : Atom} {x : ℕ} → Replaced ar map l a → x ≡ packed a → x ≡ renamed ar (map_of map) l
unfolding renamed
renamed-is r e = e ∙ ap packed r.atom

-- ends_at: what is shifted down and up again fits a word
shifted_fits : (l n : ℕ) → n ≤ most_places → l < 2 ^ 64
    → l / 2 ^ ((most_places - n) * term_bits) * 2 ^ ((most_places - n) * term_bits) % 2 ^ 64 ≡ l / 2 ^ ((most_places - n) * term_bits) * 2 ^ ((most_places - n) * term_bits)
shifted_fits l n h = each-end
    (λ m. l < 2 ^ 64 → l / 2 ^ ((most_places - m) * term_bits) * 2 ^ ((most_places - m) * term_bits) % 2 ^ 64
    ≡ l / 2 ^ ((most_places - m) * term_bits) * 2 ^ ((most_places - m) * term_bits))
    (λ w. omega arith) (λ w. omega arith) (λ w. omega arith) (λ w. omega arith) (λ w. omega arith) (λ w. omega arith) (λ w. omega arith) n h

pub ends_is : (l n : ℕ) → l < 2 ^ 64 → n ≤ most_places
    → eqb (l / 2 ^ ((most_places - n) * term_bits) * 2 ^ ((most_places - n) * term_bits) % 2 ^ 64) l ≡ ends_at l n
ends_is l n w h = ap (λ (x : ℕ). eqb x l) (shifted_fits l n h w)

-- the places before place k are terms
abbrev pub TermsTo : ℕ → ℕ → Type 0
TermsTo l k = (j : ℕ) → j < k → is_term (place_at l j) ≡ true

module _ (ar : List ℕ) (l : ℕ) {p : ℕ} (e : p ≡ predicate_of l) where
  pub fits-not-predicate : predicate_count ≤ p → false ≡ is_label ar l
  unfolding is_label is_atom unpacked
  fits-not-predicate h = rw (le-ltb (predicate_of l) predicate_count (subst (λ (q : ℕ). predicate_count ≤ q) e h))

  module _ {used : ℕ} (d : used ≡ min (get_or ar p 0) most_places) where
    -- if it is a label, its places fit
    placed-fits : is_label ar l ≡ true → (k : ℕ) → k < most_places → place_fits (get_or ar p 0) k (place_at l k) ≡ true
    placed-fits q k h = rw e (place-fits ar l k q h)

    -- a place that holds no term
    pub fits_not : (k : ℕ) {t : ℕ} {b : Bool} → k < used → t ≡ place_at l k → b ≡ is_term t → not b ≡ true → false ≡ is_label ar l
    fits_not k {t} {b} h f g m = go (flag (is_label ar l))
      where
        go : Flag (is_label ar l) → false ≡ is_label ar l
        go (is_true q) =
            let z : is_term t ≡ true = rw f (used-term (get_or ar p 0) k _ (omega arith) (placed-fits q k (omega arith))) in
            clash z (sym g ∙ not-true b m)
        go (is_false q) = sym q

    -- an unused place that holds something
    pub fits-not-ended : {b : Bool} → b ≡ ends_at l used → b ≡ false → b ≡ is_label ar l
    fits-not-ended {b} g m = go (flag (is_label ar l))
      where
        go : Flag (is_label ar l) → b ≡ is_label ar l
        go (is_true q) =
            let z = zero-ends l used (omega arith) (λ k h i. unused-zero (get_or ar p 0) k _ (omega arith) (placed-fits q k h)) in
            clash (g ∙ z) m
        go (is_false q) = m ∙ sym q

    module _ (h : p < predicate_count) {k : ℕ} (all : TermsTo l k) (m : used ≤ k) {b : Bool} (g : b ≡ ends_at l used) (o : b ≡ true) where
      unused : (j : ℕ) → j < most_places → get_or ar p 0 ≤ j → place_fits (get_or ar p 0) j (place_at l j) ≡ true
      unfolding place_fits
      unused j i q = rw (le-ltb j (get_or ar p 0) q) (eq-eqb (place_at l j) 0 (ends-zero l used (omega arith) (sym g ∙ o) j i (omega arith)))

      each-place-fits : (j : ℕ) → j < most_places → Cmp j (get_or ar p 0) → place_fits (get_or ar p 0) j (place_at l j) ≡ true
      unfolding place_fits
      each-place-fits j i (below q) = rw (lt-ltb j (get_or ar p 0) q) (all j (omega arith))
      each-place-fits j i (equal q) = unused j i (omega arith)
      each-place-fits j i (above q) = unused j i (omega arith)

      each_fits : (j : ℕ) → j < most_places → place_fits (get_or ar (predicate_of l) 0) (0 + j) (place_in (unpacked l) j) ≡ true
      each_fits j i =
          let z : get_or ar p 0 ≡ get_or ar (predicate_of l) 0 = ap (λ (q : ℕ). get_or ar q 0) e in
          let c : j ≡ 0 + j = omega arith in
          subst (λ (x : ℕ). place_fits (get_or ar (predicate_of l) 0) x (place_in (unpacked l) j) ≡ true) c
          (subst₂ (λ (x y : ℕ). place_fits x j y ≡ true) z (sym (place_of l j i)) (each-place-fits j i (cmp j (get_or ar p 0))))

      fits_last : in_order (unpacked l) ≡ is_label ar l
      unfolding is_label is_atom unpacked
      fits_last =
          let z = fits-list (get_or ar (predicate_of l) 0) 0 (places_of (unpacked l)) each_fits in
          rw (lt-ltb (predicate_of l) predicate_count (subst (λ (q : ℕ). q < predicate_count) e h), z)

      pub fits-other : (p ≡ 0 → ⊥) → not (eqb p 0) ≡ is_label ar l
      unfolding in_order unpacked
      fits-other n = rw (ne_eqb p 0 n) (let z : true ≡ in_order (unpacked l) = rw (ne_eqb (predicate_of l) 0 (λ q. n (e ∙ q))) in z ∙ fits_last)

      pub fits-equality : p ≡ 0 → {t u : ℕ} → t ≡ place_at l 0 → u ≡ place_at l 1 → ltb t u ≡ is_label ar l
      unfolding in_order unpacked
      fits-equality q {t} {u} f i = let z : ltb t u ≡ in_order (unpacked l) = rw (eq-eqb (predicate_of l) 0 (sym e ∙ q), f, i) in z ∙ fits_last

-- is_under
pub under-not : (ar : List ℕ) (l : ℕ) {b : Bool} → b ≡ are_arities ar → b ≡ false → b ≡ is_label_under ar l
unfolding is_label_under
under-not ar l e f = rw (sym e ∙ f) f

pub under-label : (ar : List ℕ) (l : ℕ) {b c : Bool} → b ≡ are_arities ar → b ≡ true → c ≡ is_label ar l → c ≡ is_label_under ar l
unfolding is_label_under
under-label ar l e f g = rw (sym e ∙ f) g

pub under_all : (ar : List ℕ) {b : Bool} → b ≡ are_arities ar → b ≡ true → predicate_count ≤ length ar
unfolding are_arities
under_all ar e f = omega (arith, eqb-true (length ar) predicate_count (and_left _ _ (sym e ∙ f)))

-- are_arities
all_at_most-is : (m : ℕ) (xs : List ℕ) → list_all (λ x. leb x m) xs ≡ all_at_most m xs
all_at_most-is m [] = refl
all_at_most-is m (x ∷ xs) = rw (all_at_most-is m xs)

pub arities-not-length : (ar : List ℕ) → (length ar ≡ predicate_count → ⊥) → false ≡ are_arities ar
unfolding are_arities
arities-not-length ar n = rw (ne_eqb (length ar) predicate_count n)

pub arities-not-equality : (ar : List ℕ) → length ar ≡ predicate_count → (get_or ar 0 0 ≡ equality_arity → ⊥) → eqb (get_or ar 0 0) equality_arity ≡ are_arities ar
unfolding are_arities
arities-not-equality ar e n = rw (eq-eqb (length ar) predicate_count e, ne_eqb (get_or ar 0 0) equality_arity n)

pub arities-are : (ar : List ℕ) {r : Bool} → length ar ≡ predicate_count → get_or ar 0 0 ≡ equality_arity → r ≡ list_all (λ x. leb x most_places) ar → r ≡ are_arities ar
unfolding are_arities
arities-are ar e f h = rw (eq-eqb (length ar) predicate_count e, eq-eqb (get_or ar 0 0) equality_arity f) (h ∙ all_at_most-is most_places ar)
