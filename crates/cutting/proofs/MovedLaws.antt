-- What a label asks once its terms are replaced, by predicate and list of terms.
use Rattle.std.specs.Prelude.{◌≡◌, refl, true, length, ltb}
use Rattle.std.proofs.Math.Path.{sym}
use Rattle.std.proofs.Common.{ap, ap₂, subst, ◌∙◌, arith, ltb-true, lt-ltb, le-ltb, eq-eqb, ne_eqb}
use mathlib.Core.List.Memᴰ
use mathlib.Core.List.{List, [], ◌∷◌, map, Memᴰ}
use Prim.Native.Nat.{ℕ, zero, suc, ◌≤◌, ◌<◌}
use Rattle.std.proofs.Math.ListN.{get_or, take}
use Rattle.basics.specs.Tests.{Cmp, cmp, below, equal, above}
use Rattle.label.specs.Limits.{most_places, equality_arity, term_base}
use Rattle.label.specs.Labels.{are_arities, places_of, place_in, atom_from, packed, predicate_of, unpacked, in_order, is_label, terms_of, equates, test_of, label_of}
use Rattle.label.specs.Renamings.{placed, mapped, moved}
use Rattle.label.proofs.LabelLaws.{atom-same, place-from, predicate-of, label-fits, packed-unpacked, unpacked-packed}
use Rattle.label.proofs.ArityLaws.{arity-two, terms-length, term-at, terms-atom, atom-terms, from_places}
use Rattle.label.proofs.RenamingLaws.{placed-used, placed-unused, mapped-place}
use Rattle.label.specs.declared.Atom.{Atom}
use Rattle.label.specs.declared.Test.{Test}
use Rattle.label.specs.declared.Test.TheVariants.{Always, Is}
use Rattle.cutting.specs.Match.{turned}

-- what an atom of predicate p and terms us asks
unfoldable pub asks : ℕ → List ℕ → Test
asks p us = test_of (atom_from p us)

-- ===== Replaced labels =====
get_d_map : (σ : ℕ → ℕ) (xs : List ℕ) (k : ℕ) → k < length xs → get_or (map σ xs) k 0 ≡ σ (get_or xs k 0)
get_d_map σ [] k h = absurd (omega arith)
get_d_map σ (x ∷ xs) zero h = refl
get_d_map σ (x ∷ xs) (suc k) h = get_d_map σ xs k (omega arith)

map-past : (σ : ℕ → ℕ) (xs : List ℕ) (k : ℕ) → length xs ≤ k → get_or (map σ xs) k 0 ≡ 0
map-past σ [] k h = refl
map-past σ (x ∷ xs) zero h = absurd (omega arith)
map-past σ (x ∷ xs) (suc k) h = map-past σ xs k (omega arith)

-- a label asks what its predicate and replaced terms ask
pub moved-asks : (ar : List ℕ) (σ : ℕ → ℕ) (l : ℕ) → are_arities ar ≡ true → moved ar σ l ≡ asks (predicate_of l) (map σ (terms_of ar (unpacked l)))
unfolding moved asks
moved-asks ar σ l e =
    ap test_of (atom-same (mapped σ n (unpacked l)) (atom_from (predicate_of l) ts) (unfold mapped in (predicate-of l))
    (λ k h. mapped-place σ n (unpacked l) k h ∙ at k h (cmp k n) ∙ sym (place-from (predicate_of l) ts k h)))
  where
    n : ℕ
    n = get_or ar (predicate_of l) 0

    ts : List ℕ
    ts = map σ (terms_of ar (unpacked l))

    few : length (terms_of ar (unpacked l)) ≡ n
    few = terms-length ar l e

    same : n ≡ get_or ar (unpacked l).predicate 0
    same = ap (λ (p : ℕ). get_or ar p 0) (sym (predicate-of l))

    past : (k : ℕ) → n ≤ k → placed σ n k (place_in (unpacked l) k) ≡ get_or ts k 0
    past k h = placed-unused σ n k _ h ∙ sym (map-past σ (terms_of ar (unpacked l)) k (omega (arith, few)))

    at : (k : ℕ) → k < most_places → Cmp k n → placed σ n k (place_in (unpacked l) k) ≡ get_or ts k 0
    at k h (below q) =
        placed-used σ n k _ q ∙ ap σ (sym (term-at ar (unpacked l) k (omega (arith, same)))) ∙ sym (get_d_map σ (terms_of ar (unpacked l)) k (omega (arith, few)))
    at k h (equal q) = past k (omega arith)
    at k h (above q) = past k (omega arith)

-- equalities: t = t, and either way round
pub equates-same : (t u : ℕ) → t ≡ u → equates t u ≡ Always
unfolding equates
equates-same t u e = rw (eq-eqb t u e)

pub equates-less : (t u : ℕ) → t < u → equates t u ≡ label_of (atom_from 0 (t ∷ u ∷ []))
unfolding equates
equates-less t u h = rw (ne_eqb t u (omega arith), lt-ltb t u h)

pub equates-more : (t u : ℕ) → u < t → equates t u ≡ label_of (atom_from 0 (u ∷ t ∷ []))
unfolding equates
equates-more t u h = rw (ne_eqb t u (omega arith), le-ltb t u (omega arith))

pub equates-turned : (t u : ℕ) → equates t u ≡ equates u t
equates-turned t u = go (cmp t u)
  where
    go : Cmp t u → equates t u ≡ equates u t
    go (below h) = equates-less t u h ∙ sym (equates-more u t h)
    go (equal e) = equates-same t u e ∙ sym (equates-same u t (sym e))
    go (above h) = equates-more t u h ∙ sym (equates-less u t h)

pub asks_turned : (us : List ℕ) → asks 0 (turned us) ≡ asks 0 us
unfolding asks test_of
asks_turned [] = refl
asks_turned (a ∷ []) = refl
asks_turned (a ∷ b ∷ r) = equates-turned b a

pub asks-twice : (t : ℕ) → asks 0 (t ∷ t ∷ []) ≡ Always
unfolding asks test_of
asks-twice t = equates-same t t refl

pub asks-other : (p : ℕ) (us : List ℕ) → 0 < p → asks p us ≡ label_of (atom_from p us)
unfolding asks test_of
asks-other p us h = rw (ne_eqb p 0 (omega arith))

-- ===== A label asks itself =====
-- a label's atom is that of its predicate and terms
pub label-atom : (ar : List ℕ) (k : ℕ) → is_label ar k ≡ true → atom_from (predicate_of k) (terms_of ar (unpacked k)) ≡ unpacked k
label-atom ar k e =
    ap (λ (p : ℕ). atom_from p (terms_of ar (unpacked k))) (sym (predicate-of k)) ∙ terms-atom ar (unpacked k) (label-fits ar k e).places-fit

-- an equality has two terms, the smaller first
pub record EqualityTerms (ar : List ℕ) (k : ℕ) : Type 0 where
  pub smaller : ℕ
  pub greater : ℕ
  pub less : smaller < greater
  pub are : terms_of ar (unpacked k) ≡ smaller ∷ greater ∷ []

pub equality-terms : (ar : List ℕ) (k : ℕ) → are_arities ar ≡ true → is_label ar k ≡ true → predicate_of k ≡ 0 → EqualityTerms ar k
unfolding in_order
equality-terms ar k g e z = record {
  smaller = (unpacked k).first;
  greater = (unpacked k).second;
  less = ltb-true _ _ o;
  are = unfold terms_of in (ap (λ (n : ℕ). take n (places_of (unpacked k))) two);
}
  where
    none : (unpacked k).predicate ≡ 0
    none = predicate-of k ∙ z

    o : ltb (unpacked k).first (unpacked k).second ≡ true
    o = let f = (label-fits ar k e).ordered in rw (eq-eqb (unpacked k).predicate 0 none) at f

    two : get_or ar (unpacked k).predicate 0 ≡ equality_arity
    two = ap (λ (q : ℕ). get_or ar q 0) none ∙ arity-two ar g

pub label-asks : (ar : List ℕ) (k : ℕ) → are_arities ar ≡ true → is_label ar k ≡ true → asks (predicate_of k) (terms_of ar (unpacked k)) ≡ Is (record { packed = k })
label-asks ar k g e = go (cmp 0 (predicate_of k))
  where
    itself : label_of (atom_from (predicate_of k) (terms_of ar (unpacked k))) ≡ Is (record { packed = k })
    itself = ap label_of (label-atom ar k e) ∙ ap (λ (x : ℕ). Is (record { packed = x })) (packed-unpacked k)

    go : Cmp 0 (predicate_of k) → asks (predicate_of k) (terms_of ar (unpacked k)) ≡ Is (record { packed = k })
    go (below h) = asks-other (predicate_of k) _ h ∙ itself
    go (equal z) = zeroth (equality-terms ar k g e (sym z))
      where
        zeroth : EqualityTerms ar k → asks (predicate_of k) (terms_of ar (unpacked k)) ≡ Is (record { packed = k })
        zeroth t = unfold asks test_of in (ap₂ asks (sym z) t.are ∙ equates-less _ _ t.less ∙ sym (ap₂ (λ (p : ℕ) (us : List ℕ). label_of (atom_from p us)) (sym z) t.are) ∙ itself)
    go (above h) = absurd (omega arith)

-- ===== What is asked tells predicate and terms =====

-- k is the label of predicate p and terms us, or an equality of them the other way round
pub data Asked (ar : List ℕ) (p : ℕ) (us : List ℕ) (k : ℕ) : Type 0 where
  straight : predicate_of k ≡ p → terms_of ar (unpacked k) ≡ us → Asked ar p us k
  across : p ≡ 0 → predicate_of k ≡ 0 → terms_of ar (unpacked k) ≡ turned us → Asked ar p us k

test-label : (a : Atom) (k : ℕ) → label_of a ≡ Is (record { packed = k }) → packed a ≡ k
test-label a k e = ap label e
  where
    label : Test → ℕ
    label Always = 0
    label (Is x) = x.packed

abbrev AllSmall : List ℕ → Type 0
AllSmall us = (t : ℕ) → Memᴰ t us → t < term_base

-- the label of predicate p and terms us has that predicate and those terms
packed-terms : (ar : List ℕ) (p : ℕ) (us : List ℕ) (k : ℕ) → are_arities ar ≡ true → length us ≡ get_or ar p 0 → AllSmall us → packed (atom_from p us) ≡ k
    → (predicate_of k ≡ p) × (terms_of ar (unpacked k) ≡ us)
packed-terms ar p us k g n h e =
    let a : unpacked k ≡ atom_from p us = ap unpacked (sym e) ∙ unpacked-packed (atom_from p us) (from_places p us h) in
    (sym (predicate-of k) ∙ ap (λ (x : Atom). x.predicate) a, ap (terms_of ar) a ∙ atom-terms ar p us g n)

always-not : {A : Type 0} (k : ℕ) → Always ≡ Is (record { packed = k }) → A
always-not k e = let z : ◌≡◌ {A = ℕ} 0 1 = cc in absurd (omega arith)

-- two terms
pub data Two (us : List ℕ) : Type 0 where
  two : (a b : ℕ) → us ≡ a ∷ b ∷ [] → Two us

pub length_two : (us : List ℕ) → length us ≡ 2 → Two us
length_two [] e = absurd (omega arith)
length_two (a ∷ []) e = absurd (omega arith)
length_two (a ∷ b ∷ []) e = two a b refl
length_two (a ∷ b ∷ c ∷ r) e = absurd (omega arith)

small-turned : (a b : ℕ) → AllSmall (a ∷ b ∷ []) → AllSmall (b ∷ a ∷ [])
small-turned a b h t (Memᴰ.head e) = h t (Memᴰ.tail (Memᴰ.head e))
small-turned a b h t (Memᴰ.tail (Memᴰ.head e)) = h t (Memᴰ.head e)
small-turned a b h t (Memᴰ.tail (Memᴰ.tail m)) = absurd (Memᴰ.not-nil m)

ask-equal : (ar : List ℕ) (a b k : ℕ) → are_arities ar ≡ true → AllSmall (a ∷ b ∷ []) → equates a b ≡ Is (record { packed = k }) → Asked ar 0 (a ∷ b ∷ []) k
ask-equal ar a b k g h e = go (cmp a b)
  where
    go : Cmp a b → Asked ar 0 (a ∷ b ∷ []) k
    go (below q) =
        let r = packed-terms ar 0 (a ∷ b ∷ []) k g (sym (arity-two ar g)) h (test-label _ k (sym (equates-less a b q) ∙ e)) in straight r.0 r.1
    go (equal q) = always-not k (sym (equates-same a b q) ∙ e)
    go (above q) =
        let r = packed-terms ar 0 (b ∷ a ∷ []) k g (sym (arity-two ar g)) (small-turned a b h) (test-label _ k (sym (equates-more a b q) ∙ e)) in
        across refl r.0 r.1

pub ask-is : (ar : List ℕ) (p : ℕ) (us : List ℕ) (k : ℕ) → are_arities ar ≡ true → length us ≡ get_or ar p 0 → AllSmall us
    → asks p us ≡ Is (record { packed = k }) → Asked ar p us k
unfolding asks test_of
ask-is ar zero us k g n h e = go (length_two us (n ∙ arity-two ar g))
  where
    go : Two us → Asked ar 0 us k
    go (two a b z) =
        let h' : AllSmall (a ∷ b ∷ []) = subst (λ (x : List ℕ). AllSmall x) z h in
        let e' : asks 0 (a ∷ b ∷ []) ≡ Is (record { packed = k }) = rw z at e in
        subst (λ (x : List ℕ). Asked ar 0 x k) (sym z) (ask-equal ar a b k g h' e')
ask-is ar (suc p) us k g n h e =
    let r = packed-terms ar (suc p) us k g n h (test-label _ k (sym (asks-other (suc p) us (omega arith)) ∙ e)) in straight r.0 r.1

-- plain truth is asked by t = t alone
pub ask-always : (ar : List ℕ) (p : ℕ) (us : List ℕ) → are_arities ar ≡ true → length us ≡ get_or ar p 0 → asks p us ≡ Always
    → (p ≡ 0) × (t : ℕ) × (us ≡ t ∷ t ∷ [])
unfolding asks test_of
ask-always ar zero us g n e = go (length_two us (n ∙ arity-two ar g))
  where
    at : (a b : ℕ) → us ≡ a ∷ b ∷ [] → Cmp a b → equates a b ≡ Always → (◌≡◌ {A = ℕ} 0 0) × (t : ℕ) × (us ≡ t ∷ t ∷ [])
    at a b z (below q) w = always-not _ (sym w ∙ equates-less a b q)
    at a b z (equal q) w = (refl, a, z ∙ ap (λ (x : ℕ). a ∷ x ∷ []) (sym q))
    at a b z (above q) w = always-not _ (sym w ∙ equates-more a b q)

    go : Two us → (◌≡◌ {A = ℕ} 0 0) × (t : ℕ) × (us ≡ t ∷ t ∷ [])
    go (two a b z) = let e' : asks 0 (a ∷ b ∷ []) ≡ Always = rw z at e in at a b z (cmp a b) e'
ask-always ar (suc p) us g n e = always-not _ (sym e ∙ asks-other (suc p) us (omega arith))
