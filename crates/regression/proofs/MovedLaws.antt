-- Laws of labels whose terms are replaced: what they say, that they are labels, and their terms.
use Rattle.std.specs.Prelude.{◌≡◌, List, [], ◌∷◌, take, eqb, ltb}
use Rattle.std.proofs.Math.Path.{refl, ap, sym, subst}
use Rattle.std.proofs.Common.{ap₂, ◌∙◌, arith}
use Rattle.std.proofs.Math.Bool.{true, cond}
use Prim.Native.Nat.{ℕ, ◌<◌}
use Rattle.std.proofs.Math.ListN.{get_or}
use borrow.Author.Tests.{eqb-true, eqb-false, lt-ltb, le-ltb, eq-eqb, ne_eqb}
use Rattle.basics.specs.Tests.{Flag, is_true, is_false, flag, Cmp, below, equal, above, cmp}
use Rattle.label.specs.Limits.{equality_arity, term_base}
use Rattle.label.specs.Terms.{is_term}
use Rattle.label.specs.Labels.{are_arities, places_of, place_in, equal_atom, packed, predicate_of, unpacked, place_fits, in_order, is_atom, is_label, terms_of, equates, test_of}
use Rattle.label.proofs.LabelLaws.{each-place, fits-atom, atom-places, label-fits, label-packed, unpacked-packed}
use Rattle.label.specs.Renamings.{placed, mapped, moved}
use Rattle.label.proofs.RenamingLaws.{placed-used, placed-unused, mapped-place, mapped-terms}
use Rattle.label.proofs.ArityLaws.{arity-two, atom-terms}
use Rattle.label.specs.Callers.{Places}
use Rattle.label.specs.declared.Atom.{Atom}
use Rattle.label.specs.declared.Label.{Label}
use Rattle.label.specs.declared.Test.{Test}
use Rattle.label.specs.declared.Test.TheVariants.{Always, Is}
use Rattle.state.specs.State.{Atomic, atom, atom_of, State, truth, holds}
use Rattle.state.specs.Terms.{Each, args, rename_atom}
use Rattle.state.proofs.ValueLaws.{map-map, Each-map}
use Rattle.regression.specs.Result.{asked}

-- what a packed atom says
pub atom-packed : (ar : List ℕ) (a : Atom) → Places term_base a → atom_of ar (packed a) ≡ atom a.predicate (terms_of ar a)
unfolding atom_of unpacked predicate_of
atom-packed ar a p =
    let e = unpacked-packed a p in
    ap₂ atom (ap (λ (x : Atom). x.predicate) e) (ap (terms_of ar) e)

test-equality : (a : Atom) → a.predicate ≡ 0 → test_of a ≡ equates a.first a.second
unfolding test_of
test-equality a e = rw (eq-eqb a.predicate 0 e)

test-other : (a : Atom) → (a.predicate ≡ 0 → ⊥) → test_of a ≡ Is (record { packed = packed a })
unfolding test_of
test-other a e = rw (ne_eqb a.predicate 0 e)

-- what the label l becomes: t = t; the label of its atomic formula with the terms replaced; or that equality turned round
pub data MovedTo (ar : List ℕ) (σ : ℕ → ℕ) (l : ℕ) : Test → Type 0 where
  truism : (a b : ℕ) → atom_of ar l ≡ atom 0 (a ∷ b ∷ []) → σ a ≡ σ b → MovedTo ar σ l Always
  straight : (k : ℕ) → is_label ar k ≡ true → atom_of ar k ≡ rename_atom σ (atom_of ar l) → MovedTo ar σ l (Is (record { packed = k }))
  turned : (k a b : ℕ) → is_label ar k ≡ true → atom_of ar l ≡ atom 0 (a ∷ b ∷ []) → atom_of ar k ≡ atom 0 (σ b ∷ σ a ∷ []) → MovedTo ar σ l (Is (record { packed = k }))

module _ (ar : List ℕ) (good : are_arities ar ≡ true) (σ : ℕ → ℕ) (terms : (t : ℕ) → is_term t ≡ true → is_term (σ t) ≡ true) where
  place-maps : (n k t : ℕ) → place_fits n k t ≡ true → place_fits n k (placed σ n k t) ≡ true
  unfolding place_fits
  place-maps n k t h = go (cmp k n)
    where
      go : Cmp k n → cond (ltb k n) (is_term (placed σ n k t)) (eqb (placed σ n k t) 0) ≡ true
      go (below q) = let z : is_term t ≡ true = rw (lt-ltb k n q) at h in rw (lt-ltb k n q, placed-used σ n k t q) (terms t z)
      go (equal q) = rw (le-ltb k n (omega arith), placed-unused σ n k t (omega arith))
      go (above q) = rw (le-ltb k n (omega arith), placed-unused σ n k t (omega arith))

  -- an equality of two terms in their order is a label
  equality-atom : (t u : ℕ) → is_term t ≡ true → is_term u ≡ true → t < u → is_atom ar (equal_atom t u) ≡ true
  unfolding place_fits in_order
  equality-atom t u p q h = fits-atom ar (equal_atom t u) (record {
    predicate-fits = omega arith;
    places-fit = rw (arity-two ar good) (record { fits = each-place (λ k. place_fits equality_arity k (place_in (equal_atom t u) k) ≡ true) p q refl refl refl refl });
    ordered = lt-ltb t u h;
  })

  equality-says : (t u : ℕ) → is_term t ≡ true → is_term u ≡ true → t < u → atom_of ar (packed (equal_atom t u)) ≡ atom 0 (t ∷ u ∷ [])
  equality-says t u p q h =
      atom-packed ar (equal_atom t u) (atom-places ar _ (equality-atom t u p q h)) ∙ ap (atom 0) (atom-terms ar 0 (t ∷ u ∷ []) good (sym (arity-two ar good)))

  equality-label : (t u : ℕ) → is_term t ≡ true → is_term u ≡ true → t < u → is_label ar (packed (equal_atom t u)) ≡ true
  equality-label t u p q h = let e = equality-atom t u p q h in label-packed ar (equal_atom t u) (atom-places ar _ e) ∙ e

  equates-to : (l a b : ℕ) → is_term (σ a) ≡ true → is_term (σ b) ≡ true → atom_of ar l ≡ atom 0 (a ∷ b ∷ []) → MovedTo ar σ l (equates (σ a) (σ b))
  unfolding equates
  equates-to l a b p q e = go (cmp (σ a) (σ b))
    where
      go : Cmp (σ a) (σ b) → MovedTo ar σ l (equates (σ a) (σ b))
      go (below h) =
          rw (ne_eqb (σ a) (σ b) (omega arith), lt-ltb (σ a) (σ b) h)
          (straight _ (equality-label (σ a) (σ b) p q h) (equality-says (σ a) (σ b) p q h ∙ sym (ap (rename_atom σ) e)))
      go (equal h) = rw (eq-eqb (σ a) (σ b) h) (truism a b e h)
      go (above h) =
          rw (ne_eqb (σ a) (σ b) (omega arith), le-ltb (σ a) (σ b) (omega arith))
          (turned _ a b (equality-label (σ b) (σ a) q p h) e (equality-says (σ b) (σ a) q p h))

  -- an equality
  moved-equality : (l : ℕ) → is_label ar l ≡ true → predicate_of l ≡ 0 → MovedTo ar σ l (moved ar σ l)
  unfolding moved mapped atom_of terms_of place_fits predicate_of unpacked
  moved-equality l h e = subst (MovedTo ar σ l) (sym becomes) (equates-to l x y (terms x first-term) (terms y second-term) says)
    where
      x : ℕ
      x = (unpacked l).first

      y : ℕ
      y = (unpacked l).second

      two : get_or ar (predicate_of l) 0 ≡ equality_arity
      two = rw e (arity-two ar good)

      becomes : moved ar σ l ≡ equates (σ x) (σ y)
      becomes =
          test-equality (mapped σ (get_or ar (predicate_of l) 0) (unpacked l)) e
          ∙ ap₂ equates (placed-used σ (get_or ar (predicate_of l) 0) 0 x (omega (arith, two))) (placed-used σ (get_or ar (predicate_of l) 0) 1 y (omega (arith, two)))

      says : atom_of ar l ≡ atom 0 (x ∷ y ∷ [])
      says = ap₂ atom e (ap (λ (n : ℕ). take n (places_of (unpacked l))) two)

      first-term : is_term x ≡ true
      first-term = let f = (label-fits ar l h).places-fit.fits 0 (omega arith) in rw two at f

      second-term : is_term y ≡ true
      second-term = let f = (label-fits ar l h).places-fit.fits 1 (omega arith) in rw two at f

  -- any other predicate
  moved-atom : (l : ℕ) → is_label ar l ≡ true → (predicate_of l ≡ 0 → ⊥) → is_atom ar (mapped σ (get_or ar (predicate_of l) 0) (unpacked l)) ≡ true
  unfolding mapped unpacked in_order
  moved-atom l h e =
      let f = label-fits ar l h in
      let n = get_or ar (predicate_of l) 0 in
      fits-atom ar (mapped σ n (unpacked l)) (record {
        predicate-fits = f.predicate-fits;
        places-fit = record {
          fits = λ k i.
              subst (λ (t : ℕ). place_fits n k t ≡ true) (sym (mapped-place σ n (unpacked l) k i)) (place-maps n k (place_in (unpacked l) k) (f.places-fit.fits k i));
        };
        ordered = rw (ne_eqb (predicate_of l) 0 e);
      })

  moved_other : (l : ℕ) → is_label ar l ≡ true → (predicate_of l ≡ 0 → ⊥) → MovedTo ar σ l (moved ar σ l)
  unfolding moved mapped atom_of terms_of predicate_of unpacked
  moved_other l h e =
      let m = moved-atom l h e in
      let p = atom-places ar (mapped σ (get_or ar (predicate_of l) 0) (unpacked l)) m in
      subst (MovedTo ar σ l) (sym (test-other (mapped σ (get_or ar (predicate_of l) 0) (unpacked l)) e))
      (straight _ (label-packed ar (mapped σ (get_or ar (predicate_of l) 0) (unpacked l)) p ∙ m)
      (atom-packed ar (mapped σ (get_or ar (predicate_of l) 0) (unpacked l)) p
      ∙ ap (atom (predicate_of l)) (mapped-terms σ (get_or ar (predicate_of l) 0) (unpacked l))))

  pub moved_to : (l : ℕ) → is_label ar l ≡ true → MovedTo ar σ l (moved ar σ l)
  moved_to l h = go (flag (eqb (predicate_of l) 0))
    where
      go : Flag (eqb (predicate_of l) 0) → MovedTo ar σ l (moved ar σ l)
      go (is_true e) = moved-equality l h (eqb-true _ _ e)
      go (is_false e) = moved_other l h (eqb-false _ _ e)

-- what the moved label asks is what the label says with each term read as what replaces it
eqb-sym : (a b : ℕ) → eqb a b ≡ eqb b a
eqb-sym a b = go (flag (eqb b a))
  where
    go : Flag (eqb b a) → eqb a b ≡ eqb b a
    go (is_true e) = eq-eqb a b (sym (eqb-true b a e)) ∙ sym e
    go (is_false e) = ne_eqb a b (λ q. eqb-false b a e (sym q)) ∙ sym e

holds-renamed : (s : State) (θ σ : ℕ → ℕ) (a : Atomic) → holds s θ (rename_atom σ a) ≡ holds s (λ t. θ (σ t)) a
unfolding holds
holds-renamed s θ σ (atom p ts) = ap (truth s p) (map-map θ σ ts)

pub moved_holds : (ar : List ℕ) (σ : ℕ → ℕ) (l : ℕ) (s : State) (θ : ℕ → ℕ) {x : Test} → MovedTo ar σ l x
    → asked (λ k. holds s θ (atom_of ar k)) x ≡ holds s (λ t. θ (σ t)) (atom_of ar l)
unfolding holds
moved_holds ar σ l s θ (truism a b e h) = sym (ap (holds s (λ t. θ (σ t))) e ∙ eq-eqb (θ (σ a)) (θ (σ b)) (ap θ h))
moved_holds ar σ l s θ (straight k p e) = ap (holds s θ) e ∙ holds-renamed s θ σ (atom_of ar l)
moved_holds ar σ l s θ (turned k a b p e d) = ap (holds s θ) d ∙ eqb-sym (θ (σ b)) (θ (σ a)) ∙ sym (ap (holds s (λ t. θ (σ t))) e)

-- it is a label, and its terms are those that replace the label's
pub moved-label : (ar : List ℕ) (σ : ℕ → ℕ) (l : ℕ) {x : Test} → MovedTo ar σ l x → (k : Label) → x ≡ Is k → is_label ar k.packed ≡ true
moved-label ar σ l (truism a b e h) k q = let z : ◌≡◌ {A = ℕ} 0 1 = cc in absurd (omega arith)
moved-label ar σ l (straight m p e) k q = let r : record { packed = m } ≡ k = cc in subst (λ (y : Label). is_label ar y.packed ≡ true) r p
moved-label ar σ l (turned m a b p e d) k q = let r : record { packed = m } ≡ k = cc in subst (λ (y : Label). is_label ar y.packed ≡ true) r p

each-renamed : (P Q : ℕ → Type 0) (σ : ℕ → ℕ) → ((t : ℕ) → P t → Q (σ t)) → (a : Atomic) → Each P (args a) → Each Q (args (rename_atom σ a))
each-renamed P Q σ h (atom p ts) w = Each-map P Q σ h ts w

pub moved-each : (ar : List ℕ) (σ : ℕ → ℕ) (l : ℕ) {x : Test} → MovedTo ar σ l x → (P Q : ℕ → Type 0) → ((t : ℕ) → P t → Q (σ t))
    → Each P (args (atom_of ar l)) → (k : Label) → x ≡ Is k → Each Q (args (atom_of ar k.packed))
moved-each ar σ l (truism a b e h) P Q m w k q = let z : ◌≡◌ {A = ℕ} 0 1 = cc in absurd (omega arith)
moved-each ar σ l (straight j p e) P Q m w k q =
    let r : record { packed = j } ≡ k = cc in
    subst (λ (y : Label). Each Q (args (atom_of ar y.packed))) r
    (subst (λ (y : Atomic). Each Q (args y)) (sym e) (each-renamed P Q σ m (atom_of ar l) w))
moved-each ar σ l (turned j a b p e d) P Q m w k q =
    let r : record { packed = j } ≡ k = cc in
    let v : Each P (a ∷ b ∷ []) = subst (λ (y : Atomic). Each P (args y)) e w in
    subst (λ (y : Label). Each Q (args (atom_of ar y.packed))) r
    (subst (λ (y : Atomic). Each Q (args y)) (sym d) (m b v.1.0, (m a v.0, tt)))
