-- Laws of an arity list, and of a label's terms under it.
use Rattle.std.specs.Prelude.{◌≡◌, refl, true, ℕ, zero, suc, ◌≤◌, ◌<◌, eqb, leb, length, get_or, take}
use Rattle.std.proofs.Math.Path.{sym}
use Rattle.std.proofs.Common.{ap, subst, ◌∙◌, arith, eqb-true, leb-true}
use mathlib.Core.List.Memᴰ
use mathlib.Core.List.{List, [], ◌∷◌, Memᴰ}
use Rattle.basics.specs.Tests.{and_left, and_right, Cmp, below, equal, above, cmp}
use Rattle.label.specs.Limits.{predicate_count, most_places, equality, equality_arity, term_base, term_end}
use Rattle.label.specs.Labels.{are_arities, all_at_most, places_of, place_in, atom_from, predicate_of, unpacked, is_label, terms_of}
use Rattle.label.specs.Callers.{Places}
use Rattle.label.proofs.LabelLaws.{places-below, below-places, place_base, place_of, label-ends, unused-zero, atom-same, place-from, PlacesFit, predicate-of}
use Rattle.label.specs.declared.Atom.{Atom}

at_most : (m : ℕ) (xs : List ℕ) (i : ℕ) → all_at_most m xs ≡ true → get_or xs i 0 ≤ m
at_most m [] i e = omega arith
at_most m (x ∷ xs) zero e = leb-true x m (and_left (leb x m) _ e)
at_most m (x ∷ xs) (suc i) e = at_most m xs i (and_right (leb x m) _ e)

pub arity-most : (ar : List ℕ) (p : ℕ) → are_arities ar ≡ true → get_or ar p 0 ≤ most_places
unfolding are_arities
arity-most ar p e =
    at_most most_places ar p (and_right (eqb (get_or ar equality 0) equality_arity) _ (and_right (eqb (length ar) predicate_count) _ e))

pub arity-two : (ar : List ℕ) → are_arities ar ≡ true → get_or ar equality 0 ≡ equality_arity
unfolding are_arities
arity-two ar e = eqb-true _ _ (and_left (eqb (get_or ar equality 0) equality_arity) _ (and_right (eqb (length ar) predicate_count) _ e))

pub arity-words : (ar : List ℕ) → are_arities ar ≡ true → length ar ≡ predicate_count
unfolding are_arities
arity-words ar e = eqb-true _ _ (and_left (eqb (length ar) predicate_count) _ e)

-- the first n of a list, by index
take-length : (n : ℕ) (xs : List ℕ) → n ≤ length xs → length (take n xs) ≡ n
take-length zero xs h = refl
take-length (suc n) [] h = absurd (omega arith)
take-length (suc n) (x ∷ xs) h = ap suc (take-length n xs (omega arith))

take-most : (n : ℕ) (xs : List ℕ) → length (take n xs) ≤ n
take-most zero xs = omega arith
take-most (suc n) [] = omega arith
take-most (suc n) (x ∷ xs) = let h = take-most n xs in omega arith

take_short : (n : ℕ) (xs : List ℕ) → length (take n xs) ≤ length xs
take_short zero xs = omega arith
take_short (suc n) [] = omega arith
take_short (suc n) (x ∷ xs) = let h = take_short n xs in omega arith

pub take_at : (n : ℕ) (xs : List ℕ) (k : ℕ) → k < n → get_or (take n xs) k 0 ≡ get_or xs k 0
take_at zero xs k h = absurd (omega arith)
take_at (suc n) [] k h = refl
take_at (suc n) (x ∷ xs) zero h = refl
take_at (suc n) (x ∷ xs) (suc k) h = take_at n xs k (omega arith)

pub take_past : (n : ℕ) (xs : List ℕ) (k : ℕ) → n ≤ k → get_or (take n xs) k 0 ≡ 0
take_past zero xs k h = refl
take_past (suc n) [] k h = refl
take_past (suc n) (x ∷ xs) zero h = absurd (omega arith)
take_past (suc n) (x ∷ xs) (suc k) h = take_past n xs k (omega arith)

-- what is so at each index of a list is so of its members
pub mem-at : (P : ℕ → Type 0) (xs : List ℕ) → ((k : ℕ) → k < length xs → P (get_or xs k 0)) → (t : ℕ) → Memᴰ t xs → P t
mem-at P [] f t m = absurd (Memᴰ.not-nil m)
mem-at P (x ∷ xs) f t (Memᴰ.head e) = subst P (sym e) (f 0 (omega arith))
mem-at P (x ∷ xs) f t (Memᴰ.tail m) = mem-at P xs (λ k h. f (suc k) (omega arith)) t m

-- a label has as many terms as its predicate's arity
pub terms-length : (ar : List ℕ) (l : ℕ) → are_arities ar ≡ true → length (terms_of ar (unpacked l)) ≡ get_or ar (predicate_of l) 0
unfolding terms_of
terms-length ar l e =
    take-length (get_or ar (unpacked l).predicate 0) (places_of (unpacked l)) (arity-most ar (unpacked l).predicate e) ∙ ap (λ (p : ℕ). get_or ar p 0) (predicate-of l)

-- term k of a label, where its arity has place k
pub term-at : (ar : List ℕ) (a : Atom) (k : ℕ) → k < get_or ar a.predicate 0 → get_or (terms_of ar a) k 0 ≡ place_in a k
unfolding terms_of
term-at ar a k h = take_at (get_or ar a.predicate 0) (places_of a) k h

-- the terms of a label: what is so of all its places is so of them
pub terms-are : (P : ℕ → Type 0) (ar : List ℕ) (a : Atom) → ((k : ℕ) → k < get_or ar a.predicate 0 → k < most_places → P (place_in a k))
    → (t : ℕ) → Memᴰ t (terms_of ar a) → P t
unfolding terms_of
terms-are P ar a f = mem-at P (take n (places_of a)) (λ k h. subst P (sym (take_at n (places_of a) k (few k h))) (f k (few k h) (short k h)))
  where
    n : ℕ
    n = get_or ar a.predicate 0

    few : (k : ℕ) → k < length (take n (places_of a)) → k < n
    few k h = omega (arith, take-most n (places_of a))

    short : (k : ℕ) → k < length (take n (places_of a)) → k < most_places
    short k h = omega (arith, take_short n (places_of a))

-- they are below the base of the packing, and if it is a label below the end of the terms
pub terms-below : (ar : List ℕ) (l t : ℕ) → Memᴰ t (terms_of ar (unpacked l)) → t < term_base
terms-below ar l t m = terms-are (λ u. u < term_base) ar (unpacked l) (λ k h i. subst (λ (u : ℕ). u < term_base) (sym (place_of l k i)) (place_base l k)) t m

pub terms-end : (ar : List ℕ) (l : ℕ) → is_label ar l ≡ true → (t : ℕ) → Memᴰ t (terms_of ar (unpacked l)) → t < term_end
terms-end ar l e = terms-are (λ t. t < term_end) ar (unpacked l) (λ k h i. places-below (unpacked l) (label-ends ar l e) k i)

-- the places of an atom that fits are its terms, and 0
pub terms-atom : (ar : List ℕ) (a : Atom) → PlacesFit (get_or ar a.predicate 0) a → atom_from a.predicate (terms_of ar a) ≡ a
terms-atom ar a f = atom-same (atom_from a.predicate (terms_of ar a)) a refl (λ k h. place-from a.predicate (terms_of ar a) k h ∙ at k h (cmp k n))
  where
    n : ℕ
    n = get_or ar a.predicate 0

    past : (k : ℕ) → k < most_places → n ≤ k → get_or (terms_of ar a) k 0 ≡ place_in a k
    past k h i = unfold terms_of in (take_past n (places_of a) k i ∙ sym (unused-zero n k (place_in a k) i (f.fits k h)))

    at : (k : ℕ) → k < most_places → Cmp k n → get_or (terms_of ar a) k 0 ≡ place_in a k
    at k h (below q) = term-at ar a k q
    at k h (equal q) = past k h (omega arith)
    at k h (above q) = past k h (omega arith)

-- the terms of an atom that is made of them
all-places : (ws : List ℕ) → length ws ≤ most_places → (p : ℕ) → take (length ws) (places_of (atom_from p ws)) ≡ ws
all-places [] i p = refl
all-places (w₀ ∷ []) i p = refl
all-places (w₀ ∷ w₁ ∷ []) i p = refl
all-places (w₀ ∷ w₁ ∷ w₂ ∷ []) i p = refl
all-places (w₀ ∷ w₁ ∷ w₂ ∷ w₃ ∷ []) i p = refl
all-places (w₀ ∷ w₁ ∷ w₂ ∷ w₃ ∷ w₄ ∷ []) i p = refl
all-places (w₀ ∷ w₁ ∷ w₂ ∷ w₃ ∷ w₄ ∷ w₅ ∷ []) i p = refl
all-places (w₀ ∷ w₁ ∷ w₂ ∷ w₃ ∷ w₄ ∷ w₅ ∷ w₆ ∷ ws) i p = absurd (omega arith)

pub atom-terms : (ar : List ℕ) (p : ℕ) (us : List ℕ) → are_arities ar ≡ true → length us ≡ get_or ar p 0 → terms_of ar (atom_from p us) ≡ us
unfolding terms_of
atom-terms ar p us g e =
    ap (λ (n : ℕ). take n (places_of (atom_from p us))) (sym e) ∙ all-places us (omega (arith, arity-most ar p g)) p

-- its places are below n if the terms are
get_d-below : (n : ℕ) (us : List ℕ) → 0 < n → ((t : ℕ) → Memᴰ t us → t < n) → (k : ℕ) → get_or us k 0 < n
get_d-below n [] z h k = z
get_d-below n (u ∷ us) z h zero = h u (Memᴰ.head refl)
get_d-below n (u ∷ us) z h (suc k) = get_d-below n us z (λ t m. h t (Memᴰ.tail m)) k

pub from_places : (p : ℕ) (us : List ℕ) → ((t : ℕ) → Memᴰ t us → t < term_base) → Places term_base (atom_from p us)
from_places p us h =
    below-places term_base (atom_from p us) (λ k i. subst (λ (t : ℕ). t < term_base) (sym (place-from p us k i)) (get_d-below term_base us (omega arith) h k))
