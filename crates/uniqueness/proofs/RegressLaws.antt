-- A regression is the only reduced ordered diagram with its meaning (demand 2).
use Rattle.std.proofs.Math.Path.{◌≡◌, fun_ext}
use Rattle.std.specs.Prelude.{refl, Bool, true, false, cond, not, ◌||◌, List, ℕ, ◌*◌, ◌-◌, ◌≤◌, take, eqb}
use Rattle.std.proofs.Common.{ap, sym, ◌∙◌, subst, arith}
use Rattle.std.proofs.Math.Option.{Option, some, none}
use Rattle.std.proofs.Math.ListN.{length}
use Rattle.std.proofs.Math.Dec.{ltb}
use Rattle.std.proofs.lemmas.Bool.{not-false}
use Rattle.refusal.specs.declared.Refusal.TheVariants.{Listing, Buffer}
use Rattle.refusal.specs.Outcome.{Outcome, ok, refused, Accepted}
use Rattle.refusal.specs.OutcomeLaws.{accepted-mono, accepted-cond}
use Rattle.label.specs.Limits.{predicate_count}
use Rattle.label.specs.Labels.{are_arities, predicate_of, unpacked, is_label, terms_of}
use Rattle.diagram.specs.Sizes.{most_rows, result_words, space_words}
use Rattle.diagram.specs.Diagram.{Diagram, eval}
use Rattle.diagram.specs.Rows.{rows}
use Rattle.diagram.specs.Words.{is_listing}
use Rattle.diagram.specs.Listing.{diagram_of, Good}
use Rattle.diagram.specs.Listings.{is-listing-good}
use Rattle.apply.proofs.GoodLaws.{fine-every}
use Rattle.state.specs.State.{State, atom_of, holds, Fits}
use Rattle.state.specs.Next.{next}
use Rattle.regression.specs.Regression.{argument, Truths, truth_of, regressed}
use Rattle.regression.proofs.RegressionLaws.{regressed-is}
use Rattle.regression.specs.Result.{truth_given, truth_diagram, regressed_diagram}
use Rattle.regression.proofs.ResultLaws.{eval-replaced, eval-regressed, good-regressed}
use Rattle.regression.specs.Tells.{meanings}
use Rattle.regression.proofs.TellsLaws.{truth-value}
use Rattle.regression.specs.Parameters.{Labels, GoodTruths}
use Rattle.regression.specs.RegressCall.{truths_of, are_listings, regressed_as, written_as, regress_outcome, regress_answer, regress_result}
use Rattle.regression.proofs.RegressCallLaws.{accepted-checks, truths-passed}
use Rattle.uniqueness.specs.Meaning.{Choice, TheOnly, TheOnlyListing, used_at, next_choice, regress_meaning}
use Rattle.uniqueness.proofs.OnlyLaws.{good-only, only-written}
use Rattle.std.specs.Prelude.{Ok}

-- ===== The meaning =====

bit-true : (b : Bool) → eqb (cond b 1 0) 1 ≡ b
bit-true true = refl
bit-true false = refl

-- T gives 1 exactly where the label is true in the next state
given-used : (ar : List ℕ) (o : Option Diagram) (c : Choice) (l : ℕ) → eqb (eval c (truth_given ar o l)) 1 ≡ used_at ar o c l
unfolding truth_given used_at eval
given-used ar none c l = bit-true (c l)
given-used ar (some d) c l = ap (λ (v : ℕ). eqb v 1) (eval-replaced c ar (argument (terms_of ar (unpacked l))) d)

truth-next : (ar : List ℕ) (truths : Truths) (c : Choice) (l : ℕ) → eqb (eval c (truth_diagram ar truths l)) 1 ≡ next_choice ar truths c l
unfolding truth_diagram next_choice
truth-next ar truths c l = given-used ar (truth_of truths (predicate_of l)) c l

pub regressed-means : (ar : List ℕ) (truths : Truths) → GoodTruths ar truths → (d : Diagram) → Labels ar d → (c : Choice)
    → eval c (regressed_diagram ar truths d) ≡ regress_meaning ar truths d c
unfolding regress_meaning
regressed-means ar truths g d w c = eval-regressed ar truths g c d w ∙ ap (λ (b : Choice). eval b d) (fun_ext (truth-next ar truths c))

-- 'A valuation in a state makes one such choice': the next choice is then the one that it makes in the next state
pub valuation-next : (ar : List ℕ) → are_arities ar ≡ true → (truths : Truths) → GoodTruths ar truths → (s : State) (os : List ℕ) (θ : ℕ → ℕ) → Fits s os θ
    → (l : ℕ) → is_label ar l ≡ true → next_choice ar truths (λ k. holds s θ (atom_of ar k)) l ≡ holds (next s os (meanings ar truths)) θ (atom_of ar l)
valuation-next ar good truths g s os θ f l h =
    sym (truth-next ar truths (λ k. holds s θ (atom_of ar k)) l) ∙ ap (λ (v : ℕ). eqb v 1) (truth-value ar good truths g s os θ f l h)
    ∙ bit-true (holds (next s os (meanings ar truths)) θ (atom_of ar l))

-- ===== The regression =====

pub regressed-only : (ar : List ℕ) (truths : Truths) (d : Diagram) → GoodTruths ar truths → Good ar d
    → Accepted (TheOnly ar (regress_meaning ar truths d)) (regressed ar truths d)
regressed-only ar truths d g h = accepted-mono (regressed-is ar truths d) (λ r i.
    subst (TheOnly ar (regress_meaning ar truths d)) (sym i.is) (good-only ar (regress_meaning ar truths d) (regressed_diagram ar truths d)
    (good-regressed ar truths d g h (subst (λ (x : Diagram). length (rows x) ≤ most_rows) i.is i.few))
    (regressed-means ar truths g d (fine-every ar d h.fine))))

-- ===== The call on lent words =====

module _ (ar value truths spans : List ℕ) where
  outcome-only : (out_length work_length : ℕ)
      → Accepted (TheOnly ar (regress_meaning ar (truths_of truths spans) (diagram_of value))) (regress_outcome ar value truths spans out_length work_length)
  unfolding regress_outcome
  outcome-only out_length work_length =
      accepted-cond (not (is_listing ar value)) Listing _ (λ v.
      accepted-cond (not (are_listings ar truths spans 1 (predicate_count - 1))) Listing _ (λ l.
      accepted-cond (ltb out_length result_words || ltb work_length space_words) Buffer _ (λ b.
      accepted-checks ar (truths_of truths spans) 1 (predicate_count - 1) _ (λ pass.
      regressed-only ar (truths_of truths spans) (diagram_of value) (truths-passed ar truths spans (not-false _ l) pass) (is-listing-good ar value (not-false _ v))))))

  -- where the call is answered with n rows, the result buffer begins with the only listing that means the regression
  pub regress-only : (work_length : ℕ) (out : List ℕ) (n : ℕ) → regress_answer ar value truths spans (length out) work_length ≡ Ok n
      → TheOnlyListing ar (regress_meaning ar (truths_of truths spans) (diagram_of value)) (take (n * 3) (regress_result ar value truths spans work_length out))
  unfolding regress_answer regress_result
  regress-only work_length out n e = go (regress_outcome ar value truths spans (length out) work_length) (outcome-only (length out) work_length) e
    where
      go : (o : Outcome Diagram) → Accepted (TheOnly ar (regress_meaning ar (truths_of truths spans) (diagram_of value))) o → regressed_as o ≡ Ok n
          → TheOnlyListing ar (regress_meaning ar (truths_of truths spans) (diagram_of value)) (take (n * 3) (written_as o out))
      go (ok d) a q = let z : length (rows d) ≡ n = cc in only-written ar _ d n out z (a.given d refl)
      go (refused r) a q = let z : ◌≡◌ {A = ℕ} 0 1 = cc in absurd (omega arith)
