-- Laws of the terms of a label: the terms that a predicate names, as a list, and renamed labels.
use Rattle.std.specs.Prelude.{◌≡◌, refl, true, List, [], ◌∷◌, length, take, eqb, ltb}
use Rattle.std.proofs.Math.Path.{sym}
use Rattle.std.proofs.Common.{ap, subst, ◌∙◌, arith, eqb-true, lt-ltb, le-ltb}
use Prim.Native.Nat.{ℕ, zero, suc, ◌≤◌, ◌<◌}
use Rattle.std.proofs.Math.ListN.{get_or}
use Rattle.basics.specs.Tests.{Cmp, below, equal, above, cmp}
use Rattle.basics.specs.Members.{mem}
use Rattle.label.specs.Limits.{most_places}
use Rattle.label.specs.Terms.{is_term}
use Rattle.label.specs.Labels.{places_of, place_in, packed, predicate_of, unpacked, place_fits, is_label, terms_of}
use Rattle.label.specs.Renamings.{placed, mapped, renamed, EachTerm, EachIn}
use Rattle.label.proofs.LabelLaws.{atom-same, predicate-of, label-fits, packed-unpacked}
use Rattle.label.proofs.RenamingLaws.{placed-used, placed-unused, mapped-place}
use Rattle.label.specs.declared.Atom.{Atom}
use Rattle.rename.specs.Ascending.{All}
use Rattle.rename.specs.AscendingLaws.{all-mem, mem-all}

module _ (P : ℕ → Type 0) where
  all_take : (n : ℕ) (ts : List ℕ) → ((k : ℕ) → k < n → k < length ts → P (get_or ts k 0)) → All P (take n ts)
  all_take zero ts e = tt
  all_take (suc n) [] e = tt
  all_take (suc n) (t ∷ ts) e = (e 0 (omega arith) (omega arith), all_take n ts (λ k h i. e (suc k) (omega arith) (omega arith)))

  take_all : (n : ℕ) (ts : List ℕ) → All P (take n ts) → (k : ℕ) → k < n → k < length ts → P (get_or ts k 0)
  take_all zero ts a k h i = absurd (omega arith)
  take_all (suc n) [] a k h i = absurd (omega arith)
  take_all (suc n) (t ∷ ts) a zero h i = a.0
  take_all (suc n) (t ∷ ts) a (suc k) h i = take_all n ts a.1 k (omega arith) (omega arith)

  pub each_all : (n : ℕ) (a : Atom) → EachTerm P n a → All P (take n (places_of a))
  each_all n a e = all_take n (places_of a) e.on

  pub all-each : (n : ℕ) (a : Atom) → All P (take n (places_of a)) → EachTerm P n a
  all-each n a e = record { on = take_all n (places_of a) e }

  -- the terms of a label, by place and as a list
  pub each-terms : (ar : List ℕ) (l : ℕ) → EachIn ar P l → All P (terms_of ar (unpacked l))
  unfolding terms_of unpacked predicate_of
  each-terms ar l e = each_all (get_or ar (predicate_of l) 0) (unpacked l) e

  pub terms-each : (ar : List ℕ) (l : ℕ) → All P (terms_of ar (unpacked l)) → EachIn ar P l
  unfolding terms_of unpacked predicate_of
  terms-each ar l a = all-each (get_or ar (predicate_of l) 0) (unpacked l) a

pub each_weaken : (P R : ℕ → Type 0) (n : ℕ) (a : Atom) → ((t : ℕ) → P t → R t) → EachTerm P n a → EachTerm R n a
each_weaken P R n a h e = record { on = λ k i j. h _ (e.on k i j) }

-- the label's own terms
pub each-mem : (ar : List ℕ) (l : ℕ) → EachIn ar (λ t. mem eqb t (terms_of ar (unpacked l)) ≡ true) l
each-mem ar l = terms-each _ ar l (all-mem (terms_of ar (unpacked l)))

pub mem-each : (ar : List ℕ) (P : ℕ → Type 0) (l t : ℕ) → EachIn ar P l → mem eqb t (terms_of ar (unpacked l)) ≡ true → P t
mem-each ar P l t e m = mem-all P (terms_of ar (unpacked l)) t (each-terms P ar l e) m

place-term : (n k t : ℕ) → place_fits n k t ≡ true → k < n → is_term t ≡ true
unfolding place_fits
place-term n k t e h = let z : ltb k n ≡ true = lt-ltb k n h in rw z at e

-- the terms of a label are terms
pub label-terms : (ar : List ℕ) (l : ℕ) → is_label ar l ≡ true → EachIn ar (λ t. is_term t ≡ true) l
unfolding unpacked predicate_of
label-terms ar l e = record { on = λ k i j. place-term _ k _ ((label-fits ar l e).places-fit.fits k j) i }

placed-agree : (ρ σ : ℕ → ℕ) (n k t : ℕ) → (k < n → ρ t ≡ σ t) → placed ρ n k t ≡ placed σ n k t
placed-agree ρ σ n k t h = go (cmp k n)
  where
    go : Cmp k n → placed ρ n k t ≡ placed σ n k t
    go (below q) = placed-used ρ n k t q ∙ h q ∙ sym (placed-used σ n k t q)
    go (equal q) = placed-unused ρ n k t (omega arith) ∙ sym (placed-unused σ n k t (omega arith))
    go (above q) = placed-unused ρ n k t (omega arith) ∙ sym (placed-unused σ n k t (omega arith))

-- two maps that agree on the terms of a label rename it alike
pub renamed-agree : (ar : List ℕ) (ρ σ : ℕ → ℕ) (l : ℕ) → EachIn ar (λ t. ρ t ≡ σ t) l → renamed ar ρ l ≡ renamed ar σ l
unfolding renamed
renamed-agree ar ρ σ l e =
    let n = get_or ar (predicate_of l) 0 in
    let a = unpacked l in
    ap packed (atom-same (mapped ρ n a) (mapped σ n a) (unfold mapped in refl)
    (λ k h. mapped-place ρ n a k h ∙ placed-agree ρ σ n k (place_in a k) (λ i. e.on k i h) ∙ sym (mapped-place σ n a k h)))

placed_same : (n k t : ℕ) → place_fits n k t ≡ true → placed (λ u. u) n k t ≡ t
unfolding place_fits
placed_same n k t e = go (cmp k n)
  where
    zeroed : n ≤ k → placed (λ u. u) n k t ≡ t
    zeroed h = let z : eqb t 0 ≡ true = rw (le-ltb k n h) at e in placed-unused (λ u. u) n k t h ∙ sym (eqb-true t 0 z)

    go : Cmp k n → placed (λ u. u) n k t ≡ t
    go (below q) = placed-used (λ u. u) n k t q
    go (equal q) = zeroed (omega arith)
    go (above q) = zeroed (omega arith)

-- a map that leaves the terms of a label leaves the label
pub renamed-same : (ar : List ℕ) (ρ : ℕ → ℕ) (l : ℕ) → is_label ar l ≡ true → EachIn ar (λ t. ρ t ≡ t) l → renamed ar ρ l ≡ l
unfolding renamed
renamed-same ar ρ l e h = renamed-agree ar ρ (λ t. t) l h ∙ ap packed (atom-same (mapped (λ t. t) n a) a (unfold mapped in refl) same) ∙ packed-unpacked l
  where
    n : ℕ
    n = get_or ar (predicate_of l) 0

    a : Atom
    a = unpacked l

    same : (k : ℕ) → k < most_places → place_in (mapped (λ t. t) n a) k ≡ place_in a k
    same k i =
        mapped-place (λ t. t) n a k i
        ∙ placed_same n k (place_in a k) (subst (λ (p : ℕ). place_fits (get_or ar p 0) k (place_in a k) ≡ true) (predicate-of l) ((label-fits ar l e).places-fit.fits k i))
