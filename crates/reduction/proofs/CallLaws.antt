-- Laws of the call on lent words: what it accepts has no parameter, and keeps its value.
use Rattle.std.specs.Prelude.{◌≡◌, refl, Bool, true, false, not, cond, ◌||◌, List, [], ℕ, ◌+◌, ◌≤◌, ◌<◌, ltb, leb}
use Rattle.std.proofs.Common.{arith, ltb-true, leb-true}
use Rattle.refusal.specs.declared.Refusal.{Refusal}
use Rattle.refusal.specs.declared.Refusal.TheVariants.{Listing, Buffer, Unbound}
use Rattle.refusal.specs.Outcome.{ok, refused}
use Rattle.basics.specs.Tests.{and_left, and_right, Either, one, other, either, Cmp, below, equal, above, cmp}
use Rattle.basics.specs.Members.{clash}
use Rattle.label.specs.Limits.{constant_count, first_parameter, parameter_count, first_variable, first_minimum}
use Rattle.label.specs.Terms.{is_constant, is_parameter, is_variable, is_minimum, is_term}
use Rattle.diagram.specs.Sizes.{result_words, space_words}
use Rattle.diagram.specs.Diagram.{Diagram}
use Rattle.diagram.specs.Words.{is_listing}
use Rattle.diagram.specs.Listing.{Fine, diagram_of}
use Rattle.diagram.specs.Listings.{is-listing-good}
use Rattle.diagram.specs.Variables.{occurs}
use Rattle.rename.specs.VariableLaws.{occurs-term}
use Rattle.state.specs.State.{meaning, State, Good}
use Rattle.minimum.specs.Number.{number}
use Rattle.state.proofs.ValueLaws.{Terms-mono}
use Rattle.regression.specs.Parameters.{Allowed, Within}
use Rattle.minimum.proofs.OccurLaws.{occur-terms}
use Rattle.regression.proofs.RegressCallLaws.{any-quiet, quiet-any}
use Rattle.reduction.specs.Reduction.{reduce_answer, has_parameter, reduce_call}
use Rattle.reduction.specs.Inner.{Called}
use Rattle.reduction.proofs.ReductionLaws.{reduce-keeps}

-- ===== Parameters =====

-- between parameters and variables there is no term
past-parameters : (t : ℕ) → is_term t ≡ true → first_parameter + parameter_count ≤ t → first_variable ≤ t
unfolding is_term is_constant is_parameter is_variable is_minimum
past-parameters t e h = go (either (is_constant t) _ e)
  where
    last : Either (is_variable t) (is_minimum t) → first_variable ≤ t
    last (one q) = leb-true first_variable t (and_left _ _ q)
    last (other q) = omega (arith, leb-true first_minimum t (and_left _ _ q))

    rest : Either (is_parameter t) (is_variable t || is_minimum t) → first_variable ≤ t
    rest (one q) = absurd (omega (arith, ltb-true t (first_parameter + parameter_count) (and_right (leb first_parameter t) _ q)))
    rest (other q) = last (either (is_variable t) _ q)

    go : Either (is_constant t) (is_parameter t || (is_variable t || is_minimum t)) → first_variable ≤ t
    go (one q) = absurd (omega (arith, ltb-true t constant_count q))
    go (other q) = rest (either (is_parameter t) _ q)

module _ (ar : List ℕ) (d : Diagram) where
  pub parameter-quiet : has_parameter ar d ≡ false → (t : ℕ) → first_parameter ≤ t → t < first_parameter + parameter_count → occurs ar t d ≡ false
  unfolding has_parameter
  parameter-quiet e = any-quiet ar d first_parameter parameter_count e

  pub quiet-parameter : ((t : ℕ) → first_parameter ≤ t → t < first_parameter + parameter_count → occurs ar t d ≡ false) → has_parameter ar d ≡ false
  unfolding has_parameter
  quiet-parameter h = quiet-any ar d first_parameter parameter_count h

  pub parameter-within : Fine ar d → has_parameter ar d ≡ false → Within 0 (meaning ar d)
  parameter-within fine e = record {
    terms = Terms-mono (λ t. occurs ar t d ≡ true) (Allowed 0) (λ t o h. allowed t o h (cmp t (first_parameter + parameter_count))) (meaning ar d) (occur-terms ar d);
  }
    where
      allowed : (t : ℕ) → occurs ar t d ≡ true → first_parameter + 0 ≤ t → Cmp t (first_parameter + parameter_count) → first_variable ≤ t
      allowed t o h (below k) = clash o (parameter-quiet e t (omega arith) k)
      allowed t o h (equal k) = past-parameters t (occurs-term ar d t fine o) (omega arith)
      allowed t o h (above k) = past-parameters t (occurs-term ar d t fine o) (omega arith)

-- ===== The call =====

pub called : (ar ws : List ℕ) (n m : ℕ) (r : Diagram) → reduce_call ar ws n m ≡ ok r → Called ar ws n m r
unfolding reduce_call
called ar ws n m r e = go (is_listing ar ws) refl (ltb n result_words || ltb m space_words) refl (has_parameter ar (diagram_of ws)) refl e
  where
    not-refused : (x : Refusal) → refused x ≡ ok r → ⊥
    not-refused x z = let f : ◌≡◌ {A = ℕ} 0 1 = cc in omega arith

    go : (a : Bool) → is_listing ar ws ≡ a → (b : Bool) → (ltb n result_words || ltb m space_words) ≡ b → (c : Bool) → has_parameter ar (diagram_of ws) ≡ c
        → cond (not a) (refused Listing) (cond b (refused Buffer) (cond c (refused Unbound) (reduce_answer ar (diagram_of ws)))) ≡ ok r → Called ar ws n m r
    go false p b q c u z = absurd (not-refused Listing z)
    go true p true q c u z = absurd (not-refused Buffer z)
    go true p false q true u z = absurd (not-refused Unbound z)
    go true p false q false u z = record { listed = p; room = q; quiet = u; answer = z }

-- "The value is the same in every state", of whatever the call accepts
pub call-keeps : (ar ws : List ℕ) (n m : ℕ) (r : Diagram) → reduce_call ar ws n m ≡ ok r
    → (s : State) → Good s → number s [] (meaning ar r) ≡ number s [] (meaning ar (diagram_of ws))
call-keeps ar ws n m r e =
    let c = called ar ws n m r e in
    let g = is-listing-good ar ws c.listed in
    reduce-keeps ar (diagram_of ws) r g (parameter-within ar (diagram_of ws) g.fine c.quiet) c.answer
