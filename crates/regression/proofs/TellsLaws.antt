-- The regressed diagram says of a state what the old one says of the next state.
use Rattle.std.specs.Prelude.{◌≡◌, true, List, [], ◌∷◌, map, length, get_or, eqb}
use Rattle.std.proofs.Math.Path.{refl, sym, fun_ext}
use Rattle.std.proofs.Common.{ap, ◌∙◌, subst, arith, ne_eqb}
use Rattle.std.proofs.Math.Bool.{cond}
use Rattle.std.proofs.Math.Option
use Rattle.std.proofs.Math.Option.{Option, some, none}
use Prim.Native.Nat.{ℕ, zero, suc, ◌-◌, ◌≤◌, ◌<◌}
use Rattle.std.proofs.Math.ListN.{get_or-map}
use Rattle.refusal.specs.Outcome.{Accepted}
use Rattle.refusal.specs.OutcomeLaws.{accepted-mono}
use Rattle.label.specs.Limits.{first_variable}
use Rattle.label.specs.Labels.{are_arities, predicate_of, unpacked, is_label, terms_of}
use Rattle.diagram.specs.Sizes.{most_rows}
use Rattle.diagram.specs.Diagram.{Tree, Diagram, leaf, branch, eval}
use Rattle.diagram.specs.Rows.{rows}
use Rattle.diagram.specs.Listing.{Good as Listed}
use Rattle.diagram.specs.Variables.{occurs}
use Rattle.apply.proofs.GoodLaws.{fine-every}
use Rattle.state.specs.Highest.{Bound}
use Rattle.state.specs.State.{Atomic, atom, atom_of, meaning, State, Good, holds, value, fixed, Fits}
use Rattle.state.specs.Terms.{Each, args, Terms}
use Rattle.state.specs.Next.{inner, fact_after, next}
use Rattle.state.proofs.ValueLaws.{low-lt, low-ge, by-low, Terms-mono, fits-zero}
use Rattle.minimum.specs.Number.{Number}
use Rattle.minimum.proofs.OccurLaws.{terms-occur, occur-terms}
use Rattle.minimum.proofs.NextLaws.{number-next}
use Rattle.regression.proofs.StepLaws.{eval-most}
use Rattle.regression.specs.Regression.{argument, Truths, truth_of, regressed}
use Rattle.regression.proofs.RegressionLaws.{regressed-is}
use Rattle.regression.specs.Result.{replaced, truth_given, truth_diagram, regressed_diagram}
use Rattle.regression.specs.Parameters.{Allowed, Within, Labels, GoodTruth, GoodTruths, WithinTruths}
use Rattle.regression.proofs.ResultLaws.{value-meaning, eval-rebuilt, value-replaced, label-terms, argument-low, argument-high}
use Rattle.regression.proofs.ResultLaws.{argument-terms, bit, terms-regressed, good-regressed, label-predicate}
use Rattle.regression.specs.Tells.{meanings, Tells}

-- the objects of the terms that replace the arguments
pub argument-inner : (s : State) (os ts : List ℕ) (θ : ℕ → ℕ) → Fits s os θ → (λ t. θ (argument ts t)) ≡ inner s os (map θ ts)
unfolding inner
argument-inner s os ts θ f = fun_ext (λ t. by-low (θ (argument ts t) ≡ inner s os (map θ ts) t) first_variable t
    (λ h. ap θ (argument-low ts t h) ∙ f.low t h ∙ sym (low-lt first_variable t (fixed s os t) (get_or (map θ ts) (t - first_variable) (s.constant 0)) h))
    (λ h. ap θ (argument-high ts t h) ∙ sym (get_or-map θ ts (t - first_variable) 0)
    ∙ ap (get_or (map θ ts) (t - first_variable)) (fits-zero f) ∙ sym (low-ge first_variable t (fixed s os t) (get_or (map θ ts) (t - first_variable) (s.constant 0)) h)))

module _ (ar : List ℕ) (good : are_arities ar ≡ true) (truths : Truths) (g : GoodTruths ar truths) (s : State) (os : List ℕ) (θ : ℕ → ℕ) (f : Fits s os θ) where
  -- a truth diagram used at p(ts) gives 1 exactly where p(ts) holds in the next state
  truth-used : (l : ℕ) (d : Diagram) → is_label ar l ≡ true → GoodTruth ar d
      → eval (λ k. holds s θ (atom_of ar k)) (replaced ar (argument (terms_of ar (unpacked l))) d)
      ≡ cond (eqb (value s (meaning ar d) (inner s os (map θ (terms_of ar (unpacked l))))) 1) 1 0
  truth-used l d h t =
      let ts = terms_of ar (unpacked l) in
      let x = inner s os (map θ (terms_of ar (unpacked l))) in
      sym (value-meaning s ar (replaced ar (argument (terms_of ar (unpacked l))) d) θ)
      ∙ value-replaced ar good (argument (terms_of ar (unpacked l))) (argument-terms (terms_of ar (unpacked l)) (label-terms ar l h)) s θ d t.labels
      ∙ ap (value s (meaning ar d)) (argument-inner s os (terms_of ar (unpacked l)) θ f)
      ∙ bit (value s (meaning ar d) (inner s os (map θ (terms_of ar (unpacked l)))))
      (rw (value-meaning s ar d (inner s os (map θ (terms_of ar (unpacked l))))) (eval-most 1 _ d t.bits))

  truth-named : (l p : ℕ) → is_label ar l ≡ true → predicate_of l ≡ p
      → eval (λ k. holds s θ (atom_of ar k)) (truth_given ar (truth_of truths p) l) ≡ cond (holds (next s os (meanings ar truths)) θ (atom p (terms_of ar (unpacked l)))) 1 0
  unfolding truth_of truth_given eval holds atom_of next
  truth-named l zero h e = rw e refl
  truth-named l (suc p) h e = rw (ne_eqb (suc p) 0 (omega arith)) (go (truths (suc p)) refl)
    where
      go : (o : Option Diagram) → truths (suc p) ≡ o
          → eval (λ k. holds s θ (atom_of ar k)) (truth_given ar o l)
          ≡ cond (fact_after s os (Option.map (meaning ar) o) (suc p) (map θ (terms_of ar (unpacked l)))) 1 0
      go none q = rw e refl
      go (some d) q = truth-used l d h (g.each (suc p) d (omega arith) (let x = label-predicate ar l h in omega arith) q)

  pub truth-value : (l : ℕ) → is_label ar l ≡ true
      → eval (λ k. holds s θ (atom_of ar k)) (truth_diagram ar truths l) ≡ cond (holds (next s os (meanings ar truths)) θ (atom_of ar l)) 1 0
  unfolding truth_diagram atom_of
  truth-value l h = truth-named l (predicate_of l) h refl

  -- the leaf in the state is the old diagram's leaf in the next state
  pub regressed-value : (d : Diagram) → Labels ar d → value s (meaning ar (regressed_diagram ar truths d)) θ ≡ value (next s os (meanings ar truths)) (meaning ar d) θ
  unfolding regressed_diagram
  regressed-value d w =
      value-meaning s ar (regressed_diagram ar truths d) θ
      ∙ eval-rebuilt (λ k. holds s θ (atom_of ar k)) (λ l. holds (next s os (meanings ar truths)) θ (atom_of ar l)) (truth_diagram ar truths) (λ l. is_label ar l ≡ true)
      truth-value d w
      ∙ sym (value-meaning (next s os (meanings ar truths)) ar d θ)

-- no parameter but those of the truth diagrams
pub within-regressed : (c : ℕ) (ar : List ℕ) → are_arities ar ≡ true → (truths : Truths) → GoodTruths ar truths → WithinTruths c ar truths
    → (d : Diagram) → Labels ar d → Within c (meaning ar d) → Within c (meaning ar (regressed_diagram ar truths d))
within-regressed c ar good truths g v d w h = record {
  terms = terms-regressed ar truths good g (Allowed c) (λ z. absurd (omega arith))
      (λ p t i j e. Terms-mono (Allowed c) (λ x. x < first_variable → Allowed c x) (λ x k q. k) (meaning ar t) (v.each p t i j e).terms) d w h.terms;
}

-- and no variable but those of the old diagram
terms-all : (P : ℕ → Type 0) → ((t : ℕ) → P t) → (d : Tree Atomic) → Terms P d
terms-all P h (leaf v) = tt
terms-all P h (branch a t f) = (each (args a), terms-all P h t, terms-all P h f)
  where
    each : (ts : List ℕ) → Each P ts
    each [] = tt
    each (t ∷ ts) = (h t, each ts)

pub variables-regressed : (ar : List ℕ) → are_arities ar ≡ true → (truths : Truths) → GoodTruths ar truths → (d : Diagram) → Labels ar d
    → (t : ℕ) → first_variable ≤ t → occurs ar t (regressed_diagram ar truths d) ≡ true → occurs ar t d ≡ true
variables-regressed ar good truths g d w t h o =
    terms-occur (λ x. first_variable ≤ x → occurs ar x d ≡ true) ar t (regressed_diagram ar truths d)
    (terms-regressed ar truths good g (λ x. first_variable ≤ x → occurs ar x d ≡ true) (λ z. absurd (omega arith))
    (λ p u i j e. terms-all (λ x. x < first_variable → first_variable ≤ x → occurs ar x d ≡ true) (λ x k z. absurd (omega arith)) (meaning ar u))
    d w (Terms-mono _ (λ x. first_variable ≤ x → occurs ar x d ≡ true) (λ x k z. k) (meaning ar d) (occur-terms ar d))) o h

pub regressed-tells : (ar : List ℕ) (truths : Truths) (d : Diagram) → GoodTruths ar truths → Listed ar d → Accepted (Tells ar truths d) (regressed ar truths d)
regressed-tells ar truths d g h = accepted-mono (regressed-is ar truths d) (λ r i. subst (Tells ar truths d) (sym i.is) (record {
  good = good-regressed ar truths d g h (subst (λ (x : Diagram). length (rows x) ≤ most_rows) i.is i.few);
  values = λ s os θ f. regressed-value ar h.arities truths g s os θ f d (fine-every ar d h.fine);
  within = λ c v w. within-regressed c ar h.arities truths g v d (fine-every ar d h.fine) w;
  variables = variables-regressed ar h.arities truths g d (fine-every ar d h.fine);
}))

-- the result's number in the state, with the tuple os for the parameters, is the old diagram's in the next state: no parameter stands in that
pub regressed-number : (ar : List ℕ) (truths : Truths) (d r : Diagram) → Tells ar truths d r → Within 0 (meaning ar d) → (s : State) → Good s → (os : List ℕ) → Bound s os
    → (x : ℕ) → Number (next s os (meanings ar truths)) [] (meaning ar d) x → Number s os (meaning ar r) x
unfolding next
regressed-number ar truths d r tells w s g os b x m =
    number-next s (next s os (meanings ar truths)) refl (λ c. refl) g os b (meaning ar d) (meaning ar r) w.terms (tells.values s os) m
