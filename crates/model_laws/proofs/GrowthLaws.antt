-- What holds of a diagram under an arity list holds under one that has grown. An unused place of a label is 0, and 0 is a constant: a predicate that gets
-- places adds the constant 0 and nothing else to the diagrams that have it.
use Rattle.std.specs.Prelude.{◌≡◌, ◌⊎◌, true, false, length, get_or, eqb, ltb}
use Rattle.std.proofs.Math.Path.{refl, ap}
use Rattle.std.proofs.Common.{sym, subst, ◌∙◌, inl, inr, arith, ne_eqb}
use mathlib.Core.List.{List, [], ◌∷◌, Memᴰ}
use Prim.Native.Nat.{ℕ, zero, suc, ◌+◌, ◌<◌}
use Rattle.std.proofs.Math.ListN.{take}
use Rattle.basics.specs.Tests.{cond-const}
use Rattle.basics.specs.Members.{mem}
use Rattle.label.specs.Limits.{first_parameter, first_variable, variable_count, first_minimum, minimum_count, most_places}
use Rattle.label.specs.Terms.{is_term, is_constant}
use Rattle.label.specs.Labels.{places_of, place_in, place_fits, is_label, terms_of, unpacked}
use Rattle.label.proofs.LabelLaws.{PlacesFit, Fitting, label-fits, fits-atom, unused-zero}
use Rattle.label.proofs.ArityLaws.{terms-are}
use Rattle.label.specs.declared.Atom.{Atom}
use Rattle.diagram.specs.Diagram.{Diagram, leaf, branch, relabel}
use Rattle.diagram.specs.Listing.{Fine, Good}
use Rattle.diagram.specs.Variables.{occurs, occurring, variables, minimums, closed}
use Rattle.rename.specs.ClosingLaws.{closed-variables, closed-minimums, closed_same}
use Rattle.state.specs.State.{atom_of, meaning}
use Rattle.state.specs.Terms.{Each, Terms}
use Rattle.state.proofs.ValueLaws.{Terms-mono}
use Rattle.regression.specs.Parameters.{Allowed, Within}
use Rattle.mdp.specs.Model.{Variant, Action, Every, GoodTruthDiagram, GoodVariant, GoodAction}
use Rattle.session.specs.Good.{GoodValue}
use Rattle.model_laws.proofs.ArityLaws.{AritiesGrown, grown-more}
use Rattle.model_laws.proofs.ActionLaws.{every-mono}

-- ===== Labels =====

-- all places of the atom a are 0, as those of a predicate without places are
record Bare (a : Atom) : Type 0 where
  at : (k : ℕ) → k < most_places → place_in a k ≡ 0

bare : (a : Atom) → PlacesFit 0 a → Bare a
bare a f = record { at = λ k h. unused-zero 0 k (place_in a k) (omega arith) (f.fits k h) }

zero-fits : (n k t : ℕ) → t ≡ 0 → place_fits n k t ≡ true
unfolding place_fits is_term is_constant
zero-fits n k t e = rw e (cond-const (ltb k n) true)

bare-fits : (n : ℕ) (a : Atom) → Bare a → PlacesFit n a
bare-fits n a b = record { fits = λ k h. zero-fits n k (place_in a k) (b.at k h) }

each_member : (P : ℕ → Type 0) (ts : List ℕ) → ((t : ℕ) → Memᴰ t ts → P t) → Each P ts
each_member P [] h = tt
each_member P (t ∷ ts) h = (h t (Memᴰ.head refl), each_member P ts (λ u m. h u (Memᴰ.tail m)))

-- P names all terms if it names 0
bare-each : (P : ℕ → Type 0) → P 0 → (br : List ℕ) (a : Atom) → Bare a → Each P (terms_of br a)
bare-each P p br a b = each_member P (terms_of br a) (terms-are P br a (λ k h i. subst P (sym (b.at k i)) p))

each-not : (t : ℕ) (ts : List ℕ) → Each (λ u. eqb t u ≡ false) ts → mem eqb t ts ≡ false
each-not t [] h = refl
each-not t (u ∷ ts) h = rw h.0 (each-not t ts h.1)

module _ (ar br : List ℕ) (grown : AritiesGrown ar br) where
  -- the predicate of a has the places that it had, or had none
  abbrev Way : Atom → Type 0
  Way a = (get_or br a.predicate 0 ≡ get_or ar a.predicate 0) ⊎ (get_or ar a.predicate 0 ≡ 0)

  module _ (a : Atom) (f : Fitting ar a) where
    same-terms : get_or br a.predicate 0 ≡ get_or ar a.predicate 0 → terms_of br a ≡ terms_of ar a
    unfolding terms_of
    same-terms e = ap (λ (n : ℕ). take n (places_of a)) e

    no-terms : get_or ar a.predicate 0 ≡ 0 → terms_of ar a ≡ []
    unfolding terms_of
    no-terms e = ap (λ (n : ℕ). take n (places_of a)) e

    bare-at : get_or ar a.predicate 0 ≡ 0 → Bare a
    bare-at e = bare a (subst (λ (n : ℕ). PlacesFit n a) e f.places-fit)

    fitting-grown : Fitting br a
    fitting-grown = record { predicate-fits = f.predicate-fits; places-fit = go (grown.each a.predicate); ordered = f.ordered }
      where
        go : Way a → PlacesFit (get_or br a.predicate 0) a
        go (inl e) = rw e f.places-fit
        go (inr e) = bare-fits (get_or br a.predicate 0) a (bare-at e)

    each-grown : (P : ℕ → Type 0) → P 0 → Each P (terms_of ar a) → Each P (terms_of br a)
    each-grown P p h = go (grown.each a.predicate)
      where
        go : Way a → Each P (terms_of br a)
        go (inl e) = subst (Each P) (sym (same-terms e)) h
        go (inr e) = bare-each P p br a (bare-at e)

    mem-grown : (t : ℕ) → 0 < t → mem eqb t (terms_of br a) ≡ mem eqb t (terms_of ar a)
    mem-grown t h = go (grown.each a.predicate)
      where
        go : Way a → mem eqb t (terms_of br a) ≡ mem eqb t (terms_of ar a)
        go (inl e) = ap (mem eqb t) (same-terms e)
        go (inr e) =
            each-not t (terms_of br a) (bare-each (λ u. eqb t u ≡ false) (ne_eqb t 0 (λ z. omega arith)) br a (bare-at e)) ∙ sym (ap (mem eqb t) (no-terms e))

  label-grown : (l : ℕ) → is_label ar l ≡ true → is_label br l ≡ true
  unfolding is_label
  label-grown l e = fits-atom br (unpacked l) (fitting-grown (unpacked l) (label-fits ar l e))

  -- ===== Diagrams =====

  fine-grown : (d : Diagram) → Fine ar d → Fine br d
  fine-grown (leaf v) h = h
  fine-grown (branch l t f) h = (label-grown l h.0, fine-grown t h.1, fine-grown f h.2)

  good-grown : (d : Diagram) → Good ar d → Good br d
  good-grown d g = record { arities = grown.arities; ordered = g.ordered; reduced = g.reduced; fine = fine-grown d g.fine; few = g.few }

  -- terms, where 0 is allowed
  terms-grown : (P : ℕ → Type 0) → P 0 → (d : Diagram) → Fine ar d → Terms P (meaning ar d) → Terms P (meaning br d)
  unfolding meaning relabel atom_of
  terms-grown P p (leaf v) h w = tt
  terms-grown P p (branch l t f) h w =
      (each-grown (unpacked l) (label-fits ar l h.0) P p w.0, terms-grown P p t h.1 w.1, terms-grown P p f h.2 w.2)

  within_grown : (c : ℕ) (d : Diagram) → Fine ar d → Within c (meaning ar d) → Within c (meaning br d)
  within_grown c d h w = record { terms = terms-grown (Allowed c) (λ k. absurd (omega arith)) d h w.terms }

  -- variables stay the same
  occurs-grown : (t : ℕ) → 0 < t → (d : Diagram) → Fine ar d → occurs br t d ≡ occurs ar t d
  unfolding occurs
  occurs-grown t h (leaf v) g = refl
  occurs-grown t h (branch l x y) g = rw (mem-grown (unpacked l) (label-fits ar l g.0) t h, occurs-grown t h x g.1, occurs-grown t h y g.2)

  occurring-grown : (d : Diagram) → Fine ar d → (t n : ℕ) → 0 < t → occurring br d t n ≡ occurring ar d t n
  unfolding occurring
  occurring-grown d g t zero h = refl
  occurring-grown d g t (suc n) h = rw (occurs-grown t h d g, occurring-grown d g (suc t) n (omega arith))

  variables-grown : (d : Diagram) → Fine ar d → variables br d ≡ variables ar d
  unfolding variables
  variables-grown d g = occurring-grown d g first_variable variable_count (omega arith)

  minimums-grown : (d : Diagram) → Fine ar d → minimums br d ≡ minimums ar d
  unfolding minimums
  minimums-grown d g = occurring-grown d g first_minimum minimum_count (omega arith)

  closed-grown : (d : Diagram) → Good ar d → closed ar d ≡ d → closed br d ≡ d
  closed-grown d g e =
      closed_same br d (length (variables ar d)) (length (minimums ar d)) (good-grown d g)
      (variables-grown d g.fine ∙ ap (variables ar) (sym e) ∙ closed-variables ar d g)
      (minimums-grown d g.fine ∙ ap (minimums ar) (sym e) ∙ closed-minimums ar d g)

  -- ===== Parts of a model =====

  pub reward-grown : (d : Diagram) → GoodValue ar d → GoodValue br d
  reward-grown d g = record {
    listed = good-grown d g.listed;
    is-closed = closed-grown d g.listed g.is-closed;
    within = within_grown 0 d g.listed.fine g.within;
  }

  truth-grown : (c p : ℕ) (d : Diagram) → GoodTruthDiagram ar c (get_or ar p 0) d → GoodTruthDiagram br c (get_or br p 0) d
  truth-grown c p d g = record {
    listed = good-grown d g.listed;
    bits = g.bits;
    parameters = within_grown c d g.listed.fine g.parameters;
    arguments = Terms-mono (λ t. t < first_variable + get_or ar p 0) (λ t. t < first_variable + get_or br p 0) (λ t h. omega (arith, grown-more ar br grown p))
        (meaning br d) (terms-grown (λ t. t < first_variable + get_or ar p 0) (omega arith) d g.listed.fine g.arguments);
  }

  variant-grown : (c : ℕ) (v : Variant) → GoodVariant ar c v → GoodVariant br c v
  variant-grown c v g = record {
    listed = good-grown v.weight g.listed;
    weight = terms-grown (λ t. t < first_parameter + c) (omega arith) v.weight g.listed.fine g.weight;
    truths = λ p d h k e. truth-grown c p d (g.truths p d h k e);
  }

  action-grown : (a : Action) → GoodAction ar a → GoodAction br a
  action-grown a g = record {
    few = g.few;
    variants-few = g.variants-few;
    variants = every-mono (GoodVariant ar a.count) (GoodVariant br a.count) (variant-grown a.count) a.variants g.variants;
  }

  pub actions-grown : (l : List Action) → Every (GoodAction ar) l → Every (GoodAction br) l
  actions-grown l h = every-mono (GoodAction ar) (GoodAction br) action-grown l h
