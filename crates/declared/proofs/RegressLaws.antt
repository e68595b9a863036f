-- Replacement, regression and freeing name nothing but what the diagram and the truth diagrams name.
use Rattle.std.proofs.Math.Path.{◌≡◌, subst}
use Rattle.std.specs.Prelude.{refl, ◌⊎◌, true, false, List, [], ◌∷◌, ℕ, zero, suc, ◌+◌, ◌-◌, ◌≤◌, ◌<◌, length, get_or, eqb}
use Rattle.std.proofs.Common.{sym, inl, inr}
use Rattle.std.proofs.Math.Option.{Option, some, none}
use native.Mathlib.Omega.{arith}
use borrow.Author.Tests.{eqb-false}
use Rattle.basics.specs.Tests.{Cmp, below, equal, above, cmp, Flag, is_true, is_false, flag}
use Rattle.basics.specs.Members.{clash}
use Rattle.refusal.specs.declared.Refusal.TheVariants.{Variables}
use Rattle.refusal.specs.Outcome.{Accepted}
use Rattle.refusal.specs.OutcomeLaws.{accepted-ok, accepted-cond, accepted-mono}
use Rattle.label.specs.Limits.{first_parameter, parameter_count, first_variable, first_minimum, predicate_count}
use Rattle.label.specs.Terms.{is_term}
use Rattle.label.specs.Labels.{are_arities, predicate_of, unpacked, terms_of}
use Rattle.label.proofs.ArityLaws.{terms-length}
use Rattle.label.specs.Renamings.{moved, freeing}
use Rattle.label.specs.Inner.{Freed}
use Rattle.label.proofs.RenamingLaws.{freeing-constant, freeing-parameter, freeing-variable, freeing-minimum, freeing-increasing}
use Rattle.label.specs.declared.Test.{Test}
use Rattle.diagram.specs.Diagram.{Diagram}
use Rattle.diagram.specs.Variables.{occurs}
use Rattle.rename.specs.Freeing.{freed}
use Rattle.rename.specs.VariableLaws.{terms-each-occurs}
use Rattle.state.specs.State.{atom, atom_of}
use Rattle.state.specs.Terms.{Each}
use Rattle.state.proofs.ValueLaws.{Each-map}
use Rattle.regression.specs.Step.{test_diagram}
use Rattle.regression.specs.Regression.{argument, Truths, truth_of, regressed}
use Rattle.regression.proofs.RegressionLaws.{regressed-is}
use Rattle.regression.specs.RegressCall.{any_occurs, freed_outcome}
use Rattle.regression.proofs.RegressCallLaws.{any-quiet}
use Rattle.regression.specs.Result.{replaced, truth_given, truth_diagram, regressed_diagram}
use Rattle.regression.proofs.ResultLaws.{every-rebuilt, label-terms, argument-low, argument-high, argument-terms, label-predicate}
use Rattle.regression.proofs.MovedLaws.{MovedTo, truism, straight, turned, moved_to}
use Rattle.declared.specs.Proper.{Proper, AllProper, Known, KnownArgument}
use Rattle.declared.proofs.ClosingLaws.{proper-term, proper-renamed}

-- ===== Replacement =====

atom-predicate : (p q : ℕ) (ts us : List ℕ) → atom p ts ≡ atom q us → p ≡ q
atom-predicate p q ts us e = cc

atom-terms : (p q : ℕ) (ts us : List ℕ) → atom p ts ≡ atom q us → ts ≡ us
atom-terms p q ts us e = cc

module _ (ar : List ℕ) (p : ℕ) (P Q : ℕ → Type 0) (σ : ℕ → ℕ) (gives : (t : ℕ) → P t → Q (σ t)) (l : ℕ) (w : Proper ar p P l) where
  moved-proper : {x : Test} → MovedTo ar σ l x → AllProper ar p Q (test_diagram x)
  unfolding test_diagram atom_of
  moved-proper (truism a b e h) = tt
  moved-proper (straight k h e) = (
    record {
      is-label = h;
      predicate = subst (λ (q : ℕ). q ≤ p) (sym (atom-predicate _ _ _ _ e)) w.predicate;
      terms = subst (Each Q) (sym (atom-terms _ _ _ _ e)) (Each-map P Q σ gives (terms_of ar (unpacked l)) w.terms);
    },
    tt,
    tt,
  )
  moved-proper (turned k a b h e d) =
      let v : Each P (a ∷ b ∷ []) = subst (Each P) (atom-terms _ _ _ _ e) w.terms in (
        record {
          is-label = h;
          predicate = omega (arith, atom-predicate _ _ _ _ d);
          terms = subst (Each Q) (sym (atom-terms _ _ _ _ d)) (gives b v.1.0, (gives a v.0, tt));
        },
        tt,
        tt,
      )

module _ (ar : List ℕ) (good : are_arities ar ≡ true) (p : ℕ) where
  replaced-proper : (P Q : ℕ → Type 0) (σ : ℕ → ℕ) → ((t : ℕ) → is_term t ≡ true → is_term (σ t) ≡ true) → ((t : ℕ) → P t → Q (σ t))
      → (d : Diagram) → AllProper ar p P d → AllProper ar p Q (replaced ar σ d)
  unfolding replaced
  replaced-proper P Q σ terms gives d w =
      every-rebuilt (Proper ar p P) (Proper ar p Q) (λ l. test_diagram (moved ar σ l)) (λ l h. moved-proper ar p P Q σ gives l h (moved_to ar good σ terms l h.is-label)) d w

  -- ===== A truth diagram at a label =====

  module _ (c k : ℕ) where
    each_at : (ts : List ℕ) → Each (Known c k) ts → (i : ℕ) → i < length ts → Known c k (get_or ts i 0)
    each_at [] w i h = absurd (omega arith)
    each_at (t ∷ ts) w zero h = w.0
    each_at (t ∷ ts) w (suc i) h = each_at ts w.1 i (omega arith)

    -- an argument becomes one of the terms
    argument-known : (ts : List ℕ) → Each (Known c k) ts → (t : ℕ) → KnownArgument c k (length ts) t → Known c k (argument ts t)
    argument-known ts w t h = go (cmp t first_variable)
      where
        high : first_variable ≤ t → Known c k (argument ts t)
        high q = subst (Known c k) (sym (argument-high ts t q)) (each_at ts w (t - first_variable) (omega (arith, h.arguments)))

        go : Cmp t first_variable → Known c k (argument ts t)
        go (below q) = subst (Known c k) (sym (argument-low ts t q)) h.known
        go (equal q) = high (omega arith)
        go (above q) = high (omega arith)

    given-proper : (l : ℕ) → Proper ar p (Known c k) l → (o : Option Diagram)
        → ((d : Diagram) → o ≡ some d → AllProper ar p (KnownArgument c k (get_or ar (predicate_of l) 0)) d) → AllProper ar p (Known c k) (truth_given ar o l)
    unfolding truth_given
    given-proper l w none g = (w, tt, tt)
    given-proper l w (some d) g =
        let ts = terms_of ar (unpacked l) in
        replaced-proper (KnownArgument c k (length ts)) (Known c k) (argument ts) (argument-terms ts (label-terms ar l w.is-label)) (argument-known ts w.terms) d
        (subst (λ (n : ℕ). AllProper ar p (KnownArgument c k n) d) (sym (terms-length ar l good)) (g d refl))

    truth-of : (truths : Truths) (q : ℕ) (d : Diagram) → truth_of truths q ≡ some d → (0 < q) × (truths q ≡ some d)
    unfolding truth_of
    truth-of truths q d e = go (flag (eqb q 0))
      where
        go : Flag (eqb q 0) → (0 < q) × (truths q ≡ some d)
        go (is_true h) = let z : none ≡ some d = rw h at e in let y : ◌≡◌ {A = ℕ} 0 1 = cc in absurd (omega arith)
        go (is_false h) = (let n = eqb-false q 0 h in omega arith, rw h at e)

    -- ===== Regression =====

    pub regressed-proper : (truths : Truths)
        → ((q : ℕ) (d : Diagram) → 0 < q → q < predicate_count → truths q ≡ some d → AllProper ar p (KnownArgument c k (get_or ar q 0)) d)
        → (d : Diagram) → AllProper ar p (Known c k) d → Accepted (AllProper ar p (Known c k)) (regressed ar truths d)
    unfolding regressed_diagram truth_diagram
    regressed-proper truths g d w =
        accepted-mono (regressed-is ar truths d) (λ r h. subst (AllProper ar p (Known c k)) (sym h.is)
        (every-rebuilt (Proper ar p (Known c k)) (Proper ar p (Known c k)) (truth_diagram ar truths)
        (λ l v. given-proper l v (truth_of truths (predicate_of l)) (λ x e. let y = truth-of truths (predicate_of l) x e in g (predicate_of l) x y.0 (label-predicate ar l v.is-label) y.1)) d w))

    -- ===== Freeing =====

    -- constants stay, parameters become variables
    freed-known : k ≤ parameter_count → (t : ℕ) → Known c k t → Known c 0 (freeing k t)
    freed-known few t h = go (cmp t first_parameter) (cmp t (first_parameter + k))
      where
        high : (u : ℕ) → first_variable ≤ u → Known c 0 u
        high u q = record { constants = λ x. absurd (omega arith); parameters = λ x. q }

        free : first_variable ≤ t → Cmp t first_minimum → Known c 0 (freeing k t)
        free v (below r) = subst (Known c 0) (sym (freeing-variable k t (omega arith) v r)) (high _ (omega arith))
        free v (equal r) = subst (Known c 0) (sym (freeing-minimum k t (omega arith) (omega arith))) (high t v)
        free v (above r) = subst (Known c 0) (sym (freeing-minimum k t (omega arith) (omega arith))) (high t v)

        past : first_parameter + k ≤ t → Known c 0 (freeing k t)
        past q = free (h.parameters q) (cmp t first_minimum)

        inside : first_parameter ≤ t → t < first_parameter + k → Known c 0 (freeing k t)
        inside q r = subst (Known c 0) (sym (freeing-parameter k t q r)) (high _ (omega arith))

        go : Cmp t first_parameter → Cmp t (first_parameter + k) → Known c 0 (freeing k t)
        go (below q) r = subst (Known c 0) (sym (freeing-constant k t q)) (record { constants = h.constants; parameters = λ x. absurd (omega arith) })
        go (equal q) (below r) = inside (omega arith) r
        go (equal q) (equal r) = past (omega arith)
        go (equal q) (above r) = past (omega arith)
        go (above q) (below r) = inside (omega arith) r
        go (above q) (equal r) = past (omega arith)
        go (above q) (above r) = past (omega arith)

    module _ (few : k ≤ parameter_count) (d : Diagram) (w : AllProper ar p (Known c k) d) (quiet : any_occurs ar d (first_minimum - k) k ≡ false) where
      freeable : (t : ℕ) → occurs ar t d ≡ true → Freed k t
      freeable t o =
          let x = proper-term ar p (Known c k) d w t o in
          (x.0, place x.1 (cmp t (first_parameter + k)))
        where
          room : t < first_minimum → Cmp (t + k) first_minimum → t + k < first_minimum
          room b (below q) = q
          room b (equal q) = clash o (any-quiet ar d (first_minimum - k) k quiet t (omega arith) (omega arith))
          room b (above q) = clash o (any-quiet ar d (first_minimum - k) k quiet t (omega arith) (omega arith))

          place : Known c k t → Cmp t (first_parameter + k) → (t < first_parameter + k) ⊎ ((first_variable ≤ t) × (t < first_minimum → t + k < first_minimum))
          place x (below q) = inl q
          place x (equal q) = inr (x.parameters (omega arith), λ b. room b (cmp (t + k) first_minimum))
          place x (above q) = inr (x.parameters (omega arith), λ b. room b (cmp (t + k) first_minimum))

      freed-at : AllProper ar p (Known c 0) (freed ar k d)
      unfolding freed
      freed-at =
          proper-renamed ar good p (Known c k) (Known c 0) (Freed k) (freeing k) (freeing-increasing k few) (freed-known few) d
          (terms-each-occurs ar (Freed k) d freeable) w

    pub freed-proper : k ≤ parameter_count → (d : Diagram) → AllProper ar p (Known c k) d → Accepted (AllProper ar p (Known c 0)) (freed_outcome ar k d)
    unfolding freed_outcome
    freed-proper few d w = accepted-cond (any_occurs ar d (first_minimum - k) k) Variables _ (λ quiet. accepted-ok (freed-at few d w quiet))
