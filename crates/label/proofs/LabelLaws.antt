-- Laws of atoms and labels: places by index, packing and unpacking are inverse.
use Rattle.std.specs.Prelude.{◌≡◌, refl, true, false, ◌||◌, List, [], ◌∷◌, ℕ, zero, suc, ◌+◌, ◌-◌, ◌*◌, ◌/◌, ◌%◌, ◌^◌, ◌≤◌, ◌<◌, length, get_or, eqb, ltb, leb}
use Rattle.std.proofs.Common.{sym, ap, subst, ◌∙◌, ltb-true, eqb-true, lt-ltb, le-ltb, le-leb, eq-eqb}
use native.Mathlib.Omega.{arith}
use Rattle.std.proofs.lemmas.Bool.{lt-leb}
use Rattle.basics.specs.Tests.{and_left, and_right, Flag, is_true, is_false, flag, Either, one, other, either, Cmp, cmp, below, equal, above}
use Rattle.basics.specs.Members.{clash}
use Rattle.label.specs.Limits.{constant_count, first_parameter, parameter_count, first_variable, variable_count, first_minimum, minimum_count, term_base, term_end, most_places, predicate_count}
use Rattle.label.specs.Limits.{predicate_weight, weight_at, term_bits, leaf_mark}
use Rattle.label.specs.Terms.{is_constant, is_parameter, is_variable, is_minimum, is_term}
use Rattle.label.specs.Labels.{packed, predicate_of, place_at, unpacked, place_fits, places_fit, in_order, is_atom, places_of, place_in, atom_from, weighed, is_label}
use Rattle.label.specs.Callers.{ends_at, Places}
use Rattle.label.specs.declared.Atom.{Atom}

-- the limits agree: minimum variables follow the variables and are as many, terms end with them, a place has its bits, the predicate stands before all places, and a word holds no
-- more than the leaf's mark
pub limits-agree : (first_minimum ≡ first_variable + variable_count) × (minimum_count ≡ variable_count) × (term_end ≡ first_minimum + minimum_count) × (term_base ≡ 2 ^ term_bits)
    × (predicate_weight ≡ 2 ^ (most_places * term_bits)) × (suc leaf_mark ≡ 2 ^ 64)
limits-agree = (refl, refl, refl, refl, refl, refl)

-- numbers of terms end below the base of the packing
pub term-below : (t : ℕ) → is_term t ≡ true → t < term_end
unfolding is_term is_constant is_parameter is_variable is_minimum
term-below t e = go (either (is_constant t) _ e)
  where
    last : Either (is_variable t) (is_minimum t) → t < term_end
    last (one q) = omega (arith, ltb-true t (first_variable + variable_count) (and_right (leb first_variable t) _ q))
    last (other q) = ltb-true t (first_minimum + minimum_count) (and_right (leb first_minimum t) _ q)

    rest : Either (is_parameter t) (is_variable t || is_minimum t) → t < term_end
    rest (one q) = omega (arith, ltb-true t (first_parameter + parameter_count) (and_right (leb first_parameter t) _ q))
    rest (other q) = last (either (is_variable t) _ q)

    go : Either (is_constant t) (is_parameter t || (is_variable t || is_minimum t)) → t < term_end
    go (one q) = omega (arith, ltb-true t constant_count q)
    go (other q) = rest (either (is_parameter t) _ q)

-- no term stands between the parameters and the variables; from the variables on every number is one, up to the last
pub term-gap : {t : ℕ} → first_parameter + parameter_count ≤ t → t < first_variable → false ≡ is_term t
unfolding is_term is_constant is_parameter is_variable is_minimum
term-gap {t} n h =
    rw (
      le-ltb t constant_count (omega arith),
      le-leb first_parameter t (omega arith),
      le-ltb t (first_parameter + parameter_count) n,
      lt-leb first_variable t h,
      lt-leb first_minimum t (omega arith),
    )

pub term-high : {t : ℕ} → first_variable ≤ t → ltb t (first_minimum + minimum_count) ≡ is_term t
unfolding is_term is_constant is_parameter is_variable is_minimum
term-high {t} n = go (cmp t first_minimum)
  where
    high : first_minimum ≤ t → ltb t (first_minimum + minimum_count) ≡ is_term t
    high q = rw (
      le-ltb t constant_count (omega arith),
      le-leb first_parameter t (omega arith),
      le-ltb t (first_parameter + parameter_count) (omega arith),
      le-leb first_variable t n,
      le-ltb t (first_variable + variable_count) q,
      le-leb first_minimum t q,
    )

    go : Cmp t first_minimum → ltb t (first_minimum + minimum_count) ≡ is_term t
    go (below q) = rw (
      lt-ltb t (first_minimum + minimum_count) (omega arith),
      le-ltb t constant_count (omega arith),
      le-leb first_parameter t (omega arith),
      le-ltb t (first_parameter + parameter_count) (omega arith),
      le-leb first_variable t n,
      lt-ltb t (first_variable + variable_count) q,
    )
    go (equal q) = high (omega arith)
    go (above q) = high (omega arith)

pub low-term : (t : ℕ) → is_term t ≡ true → t < first_variable → t < first_parameter + parameter_count
low-term t e h = go (cmp t (first_parameter + parameter_count))
  where
    go : Cmp t (first_parameter + parameter_count) → t < first_parameter + parameter_count
    go (below q) = q
    go (equal q) = clash e (sym (term-gap (omega arith) h))
    go (above q) = clash e (sym (term-gap (omega arith) h))

pub place-below : (n k t : ℕ) → place_fits n k t ≡ true → t < term_end
unfolding place_fits
place-below n k t e = go (flag (ltb k n))
  where
    go : Flag (ltb k n) → t < term_end
    go (is_true q) = term-below t (rw q at e)
    go (is_false q) = let z : eqb t 0 ≡ true = rw q at e in omega (arith, eqb-true t 0 z)

pub used-term : (n k t : ℕ) → k < n → place_fits n k t ≡ true → is_term t ≡ true
unfolding place_fits
used-term n k t h e = rw (lt-ltb k n h) at e

pub unused-zero : (n k t : ℕ) → n ≤ k → place_fits n k t ≡ true → t ≡ 0
unfolding place_fits
unused-zero n k t h e = eqb-true t 0 (rw (le-ltb k n h) at e)

-- what is so of each place
pub each-place : (P : ℕ → Type 0) → P 0 → P 1 → P 2 → P 3 → P 4 → P 5 → (k : ℕ) → k < most_places → P k
each-place P p₀ p₁ p₂ p₃ p₄ p₅ zero h = p₀
each-place P p₀ p₁ p₂ p₃ p₄ p₅ (suc zero) h = p₁
each-place P p₀ p₁ p₂ p₃ p₄ p₅ (suc (suc zero)) h = p₂
each-place P p₀ p₁ p₂ p₃ p₄ p₅ (suc (suc (suc zero))) h = p₃
each-place P p₀ p₁ p₂ p₃ p₄ p₅ (suc (suc (suc (suc zero)))) h = p₄
each-place P p₀ p₁ p₂ p₃ p₄ p₅ (suc (suc (suc (suc (suc zero))))) h = p₅
each-place P p₀ p₁ p₂ p₃ p₄ p₅ (suc (suc (suc (suc (suc (suc k)))))) h = absurd (omega arith)

-- places below n, by index
pub places-below : {n : ℕ} (a : Atom) → Places n a → (k : ℕ) → k < most_places → place_in a k < n
places-below {n} a p = each-place (λ k. place_in a k < n) p.first_below p.second_below p.third-below p.fourth-below p.fifth-below p.sixth-below

pub below-places : (n : ℕ) (a : Atom) → ((k : ℕ) → k < most_places → place_in a k < n) → Places n a
below-places n a h = record {
  first_below = h 0 (omega arith);
  second_below = h 1 (omega arith);
  third-below = h 2 (omega arith);
  fourth-below = h 3 (omega arith);
  fifth-below = h 4 (omega arith);
  sixth-below = h 5 (omega arith);
}

-- two atoms are one if they have one predicate and the same places
pub atom-same : (a b : Atom) → a.predicate ≡ b.predicate → ((k : ℕ) → k < most_places → place_in a k ≡ place_in b k) → a ≡ b
atom-same a b e q = λ i. record {
  predicate = e i;
  first = q 0 (omega arith) i;
  second = q 1 (omega arith) i;
  third = q 2 (omega arith) i;
  fourth = q 3 (omega arith) i;
  fifth = q 4 (omega arith) i;
  sixth = q 5 (omega arith) i;
}

-- the places of an atom that is made of a list
pub place-from : (p : ℕ) (ts : List ℕ) (k : ℕ) → k < most_places → place_in (atom_from p ts) k ≡ get_or ts k 0
place-from p ts k h = each-place (λ j. place_in (atom_from p ts) j ≡ get_or ts j 0) refl refl refl refl refl refl k h

-- the tests of an atom: its places under the arity n, then all of it
pub record PlacesFit (n : ℕ) (a : Atom) : Type 0 where
  pub fits : (k : ℕ) → k < most_places → place_fits n k (place_in a k) ≡ true

pub record Fitting (ar : List ℕ) (a : Atom) : Type 0 where
  pub predicate-fits : a.predicate < predicate_count
  pub places-fit : PlacesFit (get_or ar a.predicate 0) a
  pub ordered : in_order a ≡ true

-- a list of places, by index
pub list-fits : (n k : ℕ) (ts : List ℕ) → places_fit n k ts ≡ true → (j : ℕ) → j < length ts → place_fits n (k + j) (get_or ts j 0) ≡ true
list-fits n k [] e j h = absurd (omega arith)
list-fits n k (t ∷ ts) e zero h = subst (λ (i : ℕ). place_fits n i t ≡ true) (omega arith) (and_left (place_fits n k t) _ e)
list-fits n k (t ∷ ts) e (suc j) h =
    subst (λ (i : ℕ). place_fits n i (get_or ts j 0) ≡ true) (omega arith) (list-fits n (suc k) ts (and_right (place_fits n k t) _ e) j (omega arith))

pub fits-list : (n k : ℕ) (ts : List ℕ) → ((j : ℕ) → j < length ts → place_fits n (k + j) (get_or ts j 0) ≡ true) → places_fit n k ts ≡ true
fits-list n k [] f = refl
fits-list n k (t ∷ ts) f =
    let e : place_fits n k t ≡ true = subst (λ (i : ℕ). place_fits n i t ≡ true) (omega arith) (f 0 (omega arith)) in
    rw e (fits-list n (suc k) ts (λ j h. subst (λ (i : ℕ). place_fits n i (get_or ts j 0) ≡ true) (omega arith) (f (suc j) (omega arith))))

pub atom-fits : (ar : List ℕ) (a : Atom) → is_atom ar a ≡ true → Fitting ar a
unfolding is_atom
atom-fits ar a e =
    let n = get_or ar a.predicate 0 in
    let e₁ = and_right (ltb a.predicate predicate_count) _ e in
    record {
      predicate-fits = ltb-true _ _ (and_left (ltb a.predicate predicate_count) _ e);
      places-fit = record {
        fits = λ k h. subst (λ (i : ℕ). place_fits n i (place_in a k) ≡ true) (omega arith) (list-fits n 0 (places_of a) (and_left (places_fit n 0 (places_of a)) _ e₁) k h);
      };
      ordered = and_right (places_fit n 0 (places_of a)) _ e₁;
    }

pub fits-atom : (ar : List ℕ) (a : Atom) → Fitting ar a → is_atom ar a ≡ true
unfolding is_atom
fits-atom ar a f =
    let n = get_or ar a.predicate 0 in
    let e = fits-list n 0 (places_of a) (λ k h. subst (λ (i : ℕ). place_fits n i (place_in a k) ≡ true) (omega arith) (f.places-fit.fits k h)) in
    rw (lt-ltb a.predicate predicate_count f.predicate-fits, e, f.ordered)

pub atom-ends : (ar : List ℕ) (a : Atom) → is_atom ar a ≡ true → Places term_end a
atom-ends ar a e = below-places term_end a (λ k h. place-below _ k _ ((atom-fits ar a e).places-fit.fits k h))

-- and so below the base of the packing
pub atom-places : (ar : List ℕ) (a : Atom) → is_atom ar a ≡ true → Places term_base a
atom-places ar a e = below-places term_base a (λ k h. omega (arith, places-below a (atom-ends ar a e) k h))

-- packing and unpacking are inverse
module _ (l : ℕ) where
  last-digit : l ≡ l / weight_at 4 * term_base + l / weight_at 5 % term_base
  last-digit = omega arith

  digit-4 : l / weight_at 4 ≡ l / weight_at 3 * term_base + l / weight_at 4 % term_base
  digit-4 = omega arith

  digit-3 : l / weight_at 3 ≡ l / weight_at 2 * term_base + l / weight_at 3 % term_base
  digit-3 = omega arith

  digit-2 : l / weight_at 2 ≡ l / weight_at 1 * term_base + l / weight_at 2 % term_base
  digit-2 = omega arith

  digit-1 : l / weight_at 1 ≡ l / weight_at 0 * term_base + l / weight_at 1 % term_base
  digit-1 = omega arith

  digit-0 : l / weight_at 0 ≡ l / predicate_weight * term_base + l / weight_at 0 % term_base
  digit-0 = omega arith

digits : (l p q₀ q₁ q₂ q₃ q₄ t₀ t₁ t₂ t₃ t₄ t₅ : ℕ) → l ≡ q₄ * term_base + t₅ → q₄ ≡ q₃ * term_base + t₄ → q₃ ≡ q₂ * term_base + t₃
    → q₂ ≡ q₁ * term_base + t₂ → q₁ ≡ q₀ * term_base + t₁ → q₀ ≡ p * term_base + t₀
    → p * predicate_weight + weighed 0 (t₀ ∷ t₁ ∷ t₂ ∷ t₃ ∷ t₄ ∷ t₅ ∷ []) ≡ l
digits l p q₀ q₁ q₂ q₃ q₄ t₀ t₁ t₂ t₃ t₄ t₅ e₅ e₄ e₃ e₂ e₁ e₀ = omega arith

pub packed-unpacked : (l : ℕ) → packed (unpacked l) ≡ l
unfolding packed unpacked predicate_of place_at
packed-unpacked l = digits l _ _ _ _ _ _ _ _ _ _ _ _ (last-digit l) (digit-4 l) (digit-3 l) (digit-2 l) (digit-1 l) (digit-0 l)

-- a number whose places from place n on are all 0, both ways
pub each-end : (P : ℕ → Type 0) → P 0 → P 1 → P 2 → P 3 → P 4 → P 5 → P 6 → (n : ℕ) → n ≤ most_places → P n
each-end P p₀ p₁ p₂ p₃ p₄ p₅ p₆ n h = go (cmp n most_places)
  where
    go : Cmp n most_places → P n
    go (below q) = each-place P p₀ p₁ p₂ p₃ p₄ p₅ n q
    go (equal q) = subst P (sym q) p₆
    go (above q) = absurd (omega arith)

module _ (l : ℕ) where
  abbrev Zero : ℕ → Type 0
  Zero n = (k : ℕ) → k < most_places → n ≤ k → place_at l k ≡ 0

  abbrev Whole : ℕ → Type 0
  Whole n = l / 2 ^ ((most_places - n) * term_bits) * 2 ^ ((most_places - n) * term_bits) ≡ l

  whole-place : (n : ℕ) → n ≤ most_places → Whole n → Zero n
  unfolding place_at
  whole-place = each-end (λ n. Whole n → Zero n)
      (λ e. each-place (λ k. 0 ≤ k → place_at l k ≡ 0) (λ h. omega arith) (λ h. omega arith) (λ h. omega arith) (λ h. omega arith) (λ h. omega arith) (λ h. omega arith))
      (λ e. each-place (λ k. 1 ≤ k → place_at l k ≡ 0) (λ h. absurd (omega arith)) (λ h. omega arith) (λ h. omega arith) (λ h. omega arith) (λ h. omega arith) (λ h. omega arith))
      (λ e. each-place (λ k. 2 ≤ k → place_at l k ≡ 0) (λ h. absurd (omega arith)) (λ h. absurd (omega arith)) (λ h. omega arith) (λ h. omega arith) (λ h. omega arith) (λ h. omega arith))
      (λ e. each-place (λ k. 3 ≤ k → place_at l k ≡ 0) (λ h. absurd (omega arith)) (λ h. absurd (omega arith)) (λ h. absurd (omega arith)) (λ h. omega arith) (λ h. omega arith) (λ h. omega arith))
      (λ e. each-place (λ k. 4 ≤ k → place_at l k ≡ 0) (λ h. absurd (omega arith)) (λ h. absurd (omega arith)) (λ h. absurd (omega arith)) (λ h. absurd (omega arith))
      (λ h. omega arith) (λ h. omega arith))
      (λ e. each-place (λ k. 5 ≤ k → place_at l k ≡ 0) (λ h. absurd (omega arith)) (λ h. absurd (omega arith)) (λ h. absurd (omega arith)) (λ h. absurd (omega arith))
      (λ h. absurd (omega arith)) (λ h. omega arith))
      (λ e k h i. absurd (omega arith))

  place-whole : (n : ℕ) → n ≤ most_places → Zero n → Whole n
  unfolding place_at
  place-whole = each-end (λ n. Zero n → Whole n)
      (λ z. up-0 (z 0 (omega arith) (omega arith)) (z 1 (omega arith) (omega arith)) (z 2 (omega arith) (omega arith)) (z 3 (omega arith) (omega arith))
      (z 4 (omega arith) (omega arith)) (z 5 (omega arith) (omega arith)))
      (λ z. up-1 (z 1 (omega arith) (omega arith)) (z 2 (omega arith) (omega arith)) (z 3 (omega arith) (omega arith)) (z 4 (omega arith) (omega arith)) (z 5 (omega arith) (omega arith)))
      (λ z. up-2 (z 2 (omega arith) (omega arith)) (z 3 (omega arith) (omega arith)) (z 4 (omega arith) (omega arith)) (z 5 (omega arith) (omega arith)))
      (λ z. up-3 (z 3 (omega arith) (omega arith)) (z 4 (omega arith) (omega arith)) (z 5 (omega arith) (omega arith)))
      (λ z. up-4 (z 4 (omega arith) (omega arith)) (z 5 (omega arith) (omega arith)))
      (λ z. up-5 (z 5 (omega arith) (omega arith)))
      (λ z. omega arith)
    where
      up-5 : l / weight_at 5 % term_base ≡ 0 → Whole 5
      up-5 e = let d = last-digit l in omega arith

      up-4 : l / weight_at 4 % term_base ≡ 0 → l / weight_at 5 % term_base ≡ 0 → Whole 4
      up-4 e₄ e₅ = let f = up-5 e₅ in let d = digit-4 l in omega arith

      up-3 : l / weight_at 3 % term_base ≡ 0 → l / weight_at 4 % term_base ≡ 0 → l / weight_at 5 % term_base ≡ 0 → Whole 3
      up-3 e₃ e₄ e₅ = let f = up-4 e₄ e₅ in let d = digit-3 l in omega arith

      up-2 : l / weight_at 2 % term_base ≡ 0 → l / weight_at 3 % term_base ≡ 0 → l / weight_at 4 % term_base ≡ 0 → l / weight_at 5 % term_base ≡ 0 → Whole 2
      up-2 e₂ e₃ e₄ e₅ = let f = up-3 e₃ e₄ e₅ in let d = digit-2 l in omega arith

      up-1 : l / weight_at 1 % term_base ≡ 0 → l / weight_at 2 % term_base ≡ 0 → l / weight_at 3 % term_base ≡ 0 → l / weight_at 4 % term_base ≡ 0 → l / weight_at 5 % term_base ≡ 0 → Whole 1
      up-1 e₁ e₂ e₃ e₄ e₅ = let f = up-2 e₂ e₃ e₄ e₅ in let d = digit-1 l in omega arith

      up-0 : l / weight_at 0 % term_base ≡ 0 → l / weight_at 1 % term_base ≡ 0 → l / weight_at 2 % term_base ≡ 0 → l / weight_at 3 % term_base ≡ 0 → l / weight_at 4 % term_base ≡ 0
          → l / weight_at 5 % term_base ≡ 0 → Whole 0
      up-0 e₀ e₁ e₂ e₃ e₄ e₅ = let f = up-1 e₁ e₂ e₃ e₄ e₅ in let d = digit-0 l in omega arith

  pub ends-zero : (n : ℕ) → n ≤ most_places → ends_at l n ≡ true → Zero n
  ends-zero n h e = whole-place n h (eqb-true _ _ e)

  pub zero-ends : (n : ℕ) → n ≤ most_places → Zero n → ends_at l n ≡ true
  zero-ends n h z = eq-eqb _ _ (place-whole n h z)

module _ (a : Atom) (p : Places term_base a) where
  predicate-back : predicate_of (packed a) ≡ a.predicate
  unfolding packed predicate_of
  predicate-back =
      let h₀ = p.first_below in
      let h₁ = p.second_below in
      let h₂ = p.third-below in
      let h₃ = p.fourth-below in
      let h₄ = p.fifth-below in
      let h₅ = p.sixth-below in
      omega arith

  place-back : (k : ℕ) → k < most_places → place_at (packed a) k ≡ place_in a k
  unfolding packed place_at
  place-back =
      let h₀ = p.first_below in
      let h₁ = p.second_below in
      let h₂ = p.third-below in
      let h₃ = p.fourth-below in
      let h₄ = p.fifth-below in
      let h₅ = p.sixth-below in
      each-place (λ k. place_at (packed a) k ≡ place_in a k) (omega arith) (omega arith) (omega arith) (omega arith) (omega arith) (omega arith)

pub place_of : (l k : ℕ) → k < most_places → place_in (unpacked l) k ≡ place_at l k
unfolding unpacked
place_of l k h = each-place (λ j. place_in (unpacked l) j ≡ place_at l j) refl refl refl refl refl refl k h

pub predicate-of : (l : ℕ) → (unpacked l).predicate ≡ predicate_of l
unfolding unpacked
predicate-of l = refl

pub unpacked-packed : (a : Atom) → Places term_base a → unpacked (packed a) ≡ a
unfolding unpacked
unpacked-packed a p = atom-same (unpacked (packed a)) a (predicate-back a p) (λ k h. place_of (packed a) k h ∙ place-back a p k h)

-- a place is below the base
pub place_base : (l k : ℕ) → place_at l k < term_base
unfolding place_at
place_base l k = omega arith

-- the labels are the packed atoms
pub label-packed : (ar : List ℕ) (a : Atom) → Places term_base a → is_label ar (packed a) ≡ is_atom ar a
unfolding is_label
label-packed ar a p = ap (is_atom ar) (unpacked-packed a p)

pub label-ends : (ar : List ℕ) (l : ℕ) → is_label ar l ≡ true → Places term_end (unpacked l)
unfolding is_label
label-ends ar l e = atom-ends ar (unpacked l) e

pub label-places : (ar : List ℕ) (l : ℕ) → is_label ar l ≡ true → Places term_base (unpacked l)
unfolding is_label
label-places ar l e = atom-places ar (unpacked l) e

pub label-fits : (ar : List ℕ) (l : ℕ) → is_label ar l ≡ true → Fitting ar (unpacked l)
unfolding is_label
label-fits ar l e = atom-fits ar (unpacked l) e

-- place k of a label under ar fits: a term where it is used, else 0
pub place-fits : (ar : List ℕ) (l k : ℕ) → is_label ar l ≡ true → k < most_places → place_fits (get_or ar (predicate_of l) 0) k (place_at l k) ≡ true
place-fits ar l k e h =
    subst (λ (t : ℕ). place_fits (get_or ar (predicate_of l) 0) k t ≡ true) (place_of l k h)
    (subst (λ (p : ℕ). place_fits (get_or ar p 0) k (place_in (unpacked l) k) ≡ true) (predicate-of l) ((label-fits ar l e).places-fit.fits k h))

-- so every place of it is below the end of the terms
pub place_end : (ar : List ℕ) (l k : ℕ) → is_label ar l ≡ true → k < most_places → place_at l k < term_end
place_end ar l k e h = place-below _ k _ (place-fits ar l k e h)

-- a leaf's mark is above every label
pub label-below : (ar : List ℕ) (l : ℕ) → is_label ar l ≡ true → l < leaf_mark
unfolding unpacked predicate_of
label-below ar l e =
    let h : l / predicate_weight < predicate_count = (label-fits ar l e).predicate-fits in
    omega arith
