-- Which weights (start) accepts, and that these add up to W in every state (document 02, L5).
use Rattle.std.specs.Prelude.{◌≡◌, Bool, true, false, not, cond, ◌≢◌, ℕ, ◌+◌, ◌<◌, length, ltb}
use Rattle.std.proofs.Math.Path.{refl}
use Rattle.std.proofs.Common.{sym, ap₂, ◌∙◌, ap}
use mathlib.Core.List.{List, [], ◌∷◌}
use native.Mathlib.Omega.{arith}
use Rattle.refusal.specs.declared.Refusal.TheVariants.{Paths, Weights, Variables, Space, Pairs, Value}
use Rattle.refusal.specs.Outcome.{ok, Accepted, Outcome, refused, and_then}
use Rattle.refusal.specs.OutcomeLaws.{accepted-ok, accepted-refused, accepted-then, accepted-cond, accepted-mono, accepted-next}
use Rattle.label.specs.Limits.{first_parameter}
use Rattle.label.specs.Labels.{are_arities, unpacked, terms_of}
use Rattle.diagram.specs.Diagram.{Diagram, leaf, branch, relabel, EveryLabel}
use Rattle.state.specs.State.{State, Good, atom_of, meaning, value}
use Rattle.state.specs.Terms.{Each, Terms}
use Rattle.state.specs.Max.{Tuple, sum_of}
use borrow.Author.Tests.{ltb-false, le-ltb, eqb-false}
use Rattle.basics.specs.Tests.{Flag, is_true, is_false, flag}
use Rattle.basics.specs.Members.{clash}
use Rattle.refusal.specs.declared.Refusal.{Refusal}
use Rattle.refusal.specs.Numbers.{number_of}
use Rattle.diagram.specs.Sizes.{most_rows, space_rows, most_pairs}
use Rattle.diagram.specs.Rows.{rows}
use Rattle.state.specs.Highest.{start}
use Rattle.apply.specs.declared.Operation.TheVariants.{Sum}
use Rattle.apply.specs.declared.Names.TheVariants.{Shared}
use Rattle.apply.specs.declared.Combined.{Combined}
use Rattle.apply.specs.declared.Combined.TheVariants.{Done, Refused}
use Rattle.apply.specs.Pairs.{pairs, pair_count, overflows}
use Rattle.apply.specs.Combination.{operate, left_operand, right_operand, too_many, rows_formed, combination, diagram_answer}
use Rattle.apply.specs.ApplyLaws.{eval_apply}
use Rattle.apply.proofs.GoodLaws.{every-apply}
use Rattle.paths.specs.Paths.{paths, most_paths}
use Rattle.cutting.specs.Truth.{says}
use Rattle.cutting.proofs.TruthLaws.{value-says}
use Rattle.contradiction.specs.Contradiction.{leads_to}
use Rattle.contradiction.proofs.ContradictionLaws.{leads-complete, leads-sound}
use Rattle.contradiction.proofs.StateLaws.{leads-value}
use Rattle.contradiction.proofs.ExactLaws.{leads-exact}
use Rattle.mdp.specs.Model.{Variant, Action, Every, GoodVariant, GoodAction}
use Rattle.mdp.specs.Bellman.{weight_in}
use Rattle.mdp.specs.Backup.{given, combined}
use Rattle.mdp.proofs.CallLaws.{leaf-value}
use Rattle.session.specs.Session.{refuse_if}
use Rattle.session.specs.ModelLines.{weights_sum, weighed}
use Rattle.model_laws.specs.Adding.{AddsUp, WeightSum, PassesRule, FailsRule, here, behind, IsWeighed}
use Rattle.model_laws.proofs.ActionLaws.{every-mono}

-- ===== Sums =====

-- what a diagram says in every state, under every valuation
abbrev Says : List ℕ → (State → (ℕ → ℕ) → ℕ) → Diagram → Type 0
Says ar f d = (s : State) (θ : ℕ → ℕ) → value s (meaning ar d) θ ≡ f s θ

sum-two : (ar : List ℕ) (a b : Diagram) → Accepted (Says ar (λ s θ. value s (meaning ar a) θ + value s (meaning ar b) θ)) (combined Sum Shared ar a b)
unfolding combined combination
sum-two ar a b = go (diagram_answer Sum Shared ar a b)
  where
    go : (o : Combined) → Accepted (Says ar (λ s θ. value s (meaning ar a) θ + value s (meaning ar b) θ)) (given o (combination Sum Shared ar a b))
    go (Done n m) = accepted-ok (λ s θ.
        value-says ar s θ _ ∙ eval_apply (operate Sum) (says ar s θ) a b ∙ ap₂ ◌+◌ (sym (value-says ar s θ a)) (sym (value-says ar s θ b)))
    go (Refused r) = accepted-refused

sum-all : (ar : List ℕ) (vs : List Variant) (sum : Diagram)
    → Accepted (Says ar (λ s θ. value s (meaning ar sum) θ + sum_of vs (λ v. value s (meaning ar v.weight) θ))) (weights_sum ar sum vs)
unfolding weights_sum sum_of
sum-all ar [] sum = accepted-ok (λ s θ. omega arith)
sum-all ar (v ∷ vs) sum =
    accepted-then (combined Sum Shared ar sum v.weight) (sum-two ar sum v.weight) (λ d h.
    accepted-mono (sum-all ar vs d) (λ e k s θ. omega (arith, k s θ, h s θ)))

-- ===== What sums are refused with =====

-- the number of an outcome's trade word; 0 if it is accepted
abbrev number : {A : Type 0} → Outcome A → ℕ
number (ok a) = 0
number (refused r) = number_of r

-- the outcome is not refused with 13
abbrev NotWeights : {A : Type 0} → Outcome A → Type 0
NotWeights o = number o ≢ number_of Weights

-- a combination's own checks, in order
own-checks : (t p v s f : Bool) (n m : ℕ) (d : Diagram)
    → NotWeights (given (cond t (Refused Variables) (cond p (Refused Pairs) (cond v (Refused Value) (cond s (Refused Space) (cond f (Refused Space) (Done n m)))))) d)
own-checks true p v s f n m d = eqb-false 8 13 refl
own-checks false true v s f n m d = eqb-false 10 13 refl
own-checks false false true s f n m d = eqb-false 11 13 refl
own-checks false false false true f n m d = eqb-false 9 13 refl
own-checks false false false false true n m d = eqb-false 9 13 refl
own-checks false false false false false n m d = eqb-false 0 13 refl

two-not : (ar : List ℕ) (a b : Diagram) → NotWeights (combined Sum Shared ar a b)
unfolding combined diagram_answer
two-not ar a b =
    let l = left_operand Shared ar a b in
    let r = right_operand Shared ar a b in
    let d = combination Sum Shared ar a b in
    own-checks (too_many Shared ar a b) (ltb most_pairs (pair_count Sum l r)) (overflows (operate Sum) (pairs Sum l r))
    (ltb space_rows (rows_formed Sum Shared ar a b)) (ltb most_rows (length (rows d))) (length (rows d)) (pair_count Sum l r) d

sum-not : (ar : List ℕ) (vs : List Variant) (sum : Diagram) → NotWeights (weights_sum ar sum vs)
unfolding weights_sum
sum-not ar [] sum = eqb-false 0 13 refl
sum-not ar (v ∷ vs) sum = go (combined Sum Shared ar sum v.weight) (two-not ar sum v.weight) (sum-not ar vs)
  where
    go : (o : Outcome Diagram) → NotWeights o → ((d : Diagram) → NotWeights (weights_sum ar d vs)) → NotWeights (and_then o (λ d. weights_sum ar d vs))
    go (ok d) h ih = ih d
    go (refused r) h ih = h

-- ===== Actions =====

not-false : (b : Bool) → not b ≡ false → b ≡ true
not-false true e = refl
not-false false e = sym e

module _ (ar : List ℕ) (good : are_arities ar ≡ true) (w : ℕ) where
  passing : (l : List Action) → Accepted (λ u. Every (PassesRule ar w) l) (weighed ar w l)
  unfolding weighed
  passing [] = accepted-ok tt
  passing (a ∷ l) =
      accepted-next (weights_sum ar (leaf 0) a.variants) _ (λ d e.
      accepted-cond (ltb most_paths (length (paths d))) Paths _ (λ p.
      accepted-cond (not (leads_to ar w d)) Weights (weighed ar w l) (λ q.
      accepted-mono (passing l) (λ u k. (
        record {
          diagram = d;
          sum = record { is = e; few = ltb-false _ _ p };
          leads = leads-sound ar good w d (not-false (leads_to ar w d) q);
        },
        k,
      )))))

  -- what (start) does where an action's sum has few paths
  judged : (a : Action) (l : List Action) (d : Diagram) → WeightSum ar a d → weighed ar w (a ∷ l) ≡ refuse_if (not (leads_to ar w d)) Weights (weighed ar w l)
  unfolding weighed
  judged a l d s = rw (s.is, le-ltb most_paths (length (paths d)) s.few)

  judged-passes : (a : Action) (l : List Action) → PassesRule ar w a → weighed ar w (a ∷ l) ≡ weighed ar w l
  judged-passes a l p = judged a l p.diagram p.sum ∙ ap (λ b. refuse_if (not b) Weights (weighed ar w l)) (leads-complete ar good w p.diagram p.leads)

  passed : (l : List Action) → Every (PassesRule ar w) l → weighed ar w l ≡ ok tt
  passed [] h = unfold weighed in refl
  passed (a ∷ l) h = judged-passes a l h.0 ∙ passed l h.1

  fails-refused : {l : List Action} → FailsRule ar w l → weighed ar w l ≡ refused Weights
  fails-refused (here {a = a} {l = l} d s n) = judged a l d s ∙ go (flag (leads_to ar w d))
    where
      go : Flag (leads_to ar w d) → refuse_if (not (leads_to ar w d)) Weights (weighed ar w l) ≡ refused Weights
      go (is_true t) = absurd (n (leads-sound ar good w d t))
      go (is_false t) = rw t
  fails-refused (behind {a = a} {l = l} p f) = judged-passes a l p ∙ fails-refused f

  failing : (l : List Action) → weighed ar w l ≡ refused Weights → FailsRule ar w l
  failing [] e = absurd (eqb-false 0 (number_of Weights) refl (ap number (sym (passed [] tt) ∙ e)))
  failing (a ∷ l) e = go (weights_sum ar (leaf 0) a.variants) refl (failing l)
    where
      first : (r : Refusal) → weights_sum ar (leaf 0) a.variants ≡ refused r → weighed ar w (a ∷ l) ≡ refused r
      first r q = unfold weighed in (rw q)

      go : (o : Outcome Diagram) → weights_sum ar (leaf 0) a.variants ≡ o → (weighed ar w l ≡ refused Weights → FailsRule ar w l) → FailsRule ar w (a ∷ l)
      go (refused r) q ih = absurd (sum-not ar a.variants (leaf 0) (ap number q ∙ ap number (sym (first r q) ∙ e)))
      go (ok d) q ih = many (flag (ltb most_paths (length (paths d))))
        where
          many : Flag (ltb most_paths (length (paths d))) → FailsRule ar w (a ∷ l)
          many (is_true p) =
              let x : weighed ar w (a ∷ l) ≡ refused Paths = unfold weighed in (rw (q, p)) in
              absurd (eqb-false (number_of Paths) (number_of Weights) refl (ap number (sym x ∙ e)))
          many (is_false p) = lead (flag (leads_to ar w d))
            where
              s : WeightSum ar a d
              s = record { is = q; few = ltb-false _ _ p }

              lead : Flag (leads_to ar w d) → FailsRule ar w (a ∷ l)
              lead (is_false t) = here d s (λ c. clash (leads-complete ar good w d c) t)
              lead (is_true t) =
                  let x : PassesRule ar w a = record { diagram = d; sum = s; leads = leads-sound ar good w d t } in
                  behind x (ih (sym (judged-passes a l x) ∙ e))

  -- the rule of document 02, whole
  pub weighed-exactly : (l : List Action) → IsWeighed ar w l
  weighed-exactly l = record { accepted = λ e. (passing l).given tt e; accepts = passed l; failed = failing l; fails = fails-refused }

  passes-adds-up : (a : Action) → PassesRule ar w a → AddsUp ar w a
  unfolding weight_in
  passes-adds-up a p s os =
      omega (
        arith,
        (sum-all ar a.variants (leaf 0)).given p.diagram p.sum.is s (start s os),
        leaf-value ar s 0 (start s os),
        leads-value ar w p.diagram p.leads s (start s os),
      )

  -- so accepted weights add up to W, in every state and for every tuple
  pub weighed-adds-up : (l : List Action) → weighed ar w l ≡ ok tt → Every (AddsUp ar w) l
  weighed-adds-up l e = every-mono (PassesRule ar w) (AddsUp ar w) passes-adds-up l ((passing l).given tt e)

-- ===== The rule asks no more =====

-- every term of a label is in P
abbrev LabelTerms : List ℕ → (ℕ → Type 0) → ℕ → Type 0
LabelTerms ar P l = Each P (terms_of ar (unpacked l))

terms-labels : (ar : List ℕ) (P : ℕ → Type 0) (d : Diagram) → Terms P (meaning ar d) → EveryLabel (LabelTerms ar P) d
unfolding meaning relabel atom_of
terms-labels ar P (leaf v) x = tt
terms-labels ar P (branch l t f) x = (x.0, terms-labels ar P t x.1, terms-labels ar P f x.2)

labels-terms : (ar : List ℕ) (P : ℕ → Type 0) (d : Diagram) → EveryLabel (LabelTerms ar P) d → Terms P (meaning ar d)
unfolding meaning relabel atom_of
labels-terms ar P (leaf v) x = tt
labels-terms ar P (branch l t f) x = (x.0, labels-terms ar P t x.1, labels-terms ar P f x.2)

two-labels : (Q : ℕ → Type 0) (ar : List ℕ) (a b : Diagram) → EveryLabel Q a → EveryLabel Q b → Accepted (EveryLabel Q) (combined Sum Shared ar a b)
unfolding combined combination
two-labels Q ar a b x y = go (diagram_answer Sum Shared ar a b)
  where
    go : (o : Combined) → Accepted (EveryLabel Q) (given o (combination Sum Shared ar a b))
    go (Done n m) = accepted-ok (every-apply (operate Sum) Q a b x y)
    go (Refused r) = accepted-refused

sum-labels : (ar : List ℕ) (c : ℕ) (vs : List Variant) → Every (GoodVariant ar c) vs → (sum : Diagram)
    → EveryLabel (LabelTerms ar (λ t. t < first_parameter + c)) sum → Accepted (EveryLabel (LabelTerms ar (λ t. t < first_parameter + c))) (weights_sum ar sum vs)
unfolding weights_sum
sum-labels ar c [] g sum x = accepted-ok x
sum-labels ar c (v ∷ vs) g sum x =
    accepted-then (combined Sum Shared ar sum v.weight)
    (two-labels (LabelTerms ar (λ t. t < first_parameter + c)) ar sum v.weight x (terms-labels ar (λ t. t < first_parameter + c) v.weight g.0.weight))
    (λ d y. sum-labels ar c vs g.1 d y)

-- an action whose weights add up to W in every state, for every tuple, is not refused 13
pub adds-up-leads : (ar : List ℕ) → are_arities ar ≡ true → (w : ℕ) (a : Action) → GoodAction ar a → (d : Diagram) → weights_sum ar (leaf 0) a.variants ≡ ok d
    → ((s : State) → Good s → (os : List ℕ) → Tuple s.size a.count os → sum_of a.variants (weight_in ar s os) ≡ w) → leads_to ar w d ≡ true
unfolding weight_in
adds-up-leads ar good w a g d e all =
    leads-complete ar good w d
    (leads-exact ar good a.count g.few w d
    (labels-terms ar (λ t. t < first_parameter + a.count) d ((sum-labels ar a.count a.variants g.variants (leaf 0) tt).given d e))
    (λ s h os t. omega (arith, (sum-all ar a.variants (leaf 0)).given d e s (start s os), leaf-value ar s 0 (start s os), all s h os t)))
