-- The number that valuing answers after a run is Mk of the lent state.
use Rattle.std.specs.Prelude.{◌≡◌, refl, Bool, true, false, not, cond, List, [], ℕ, zero, suc, ◌+◌, ◌≤◌, ◌<◌, length, eqb}
use Rattle.std.proofs.Common.{ap, ◌∙◌, arith}
use Rattle.refusal.specs.declared.Refusal.TheVariants.{Listing, Range, Unbound, Valuations}
use Rattle.basics.specs.Tests.{Flag, is_true, is_false, flag}
use Rattle.label.specs.Limits.{first_parameter, parameter_count}
use Rattle.diagram.specs.Diagram.{Diagram}
use Rattle.diagram.specs.Words.{is_listing}
use Rattle.diagram.specs.Listing.{listing, diagram_of}
use Rattle.diagram.specs.ListingOfDiagram.{diagram-listing}
use Rattle.diagram.specs.Listings.{good-is-listing}
use Rattle.diagram.specs.Variables.{occurs, occurring}
use Rattle.state.specs.State.{meaning}
use Rattle.state.specs.Lent.{state_of, is_state}
use Rattle.state.specs.ValueCall.{parameters}
use Rattle.minimum.specs.Number.{number}
use Rattle.elimination.specs.Answer.{answer_by, is_too_large, value_answer}
use Rattle.elimination.proofs.AnswerLaws.{lent-good}
use Rattle.regression.specs.Parameters.{Within}
use Rattle.mdp.specs.Model.{Model, GoodModel}
use Rattle.mdp.specs.Bellman.{bellman}
use Rattle.mdp.specs.Runs.{Call, run}
use Rattle.mdp.proofs.CallLaws.{each_within}
use Rattle.mdp.proofs.RunLaws.{run-right, demand-3}
use Rattle.refusal.specs.declared.Refusal.{Refusal}
use Rattle.std.specs.Prelude.{Err, Ok, Result}

none-occurring : (ar : List ℕ) (d : Diagram) (t n : ℕ) → ((u : ℕ) → t ≤ u → u < t + n → occurs ar u d ≡ false) → occurring ar d t n ≡ []
unfolding occurring
none-occurring ar d t zero h = refl
none-occurring ar d t (suc n) h = rw (h t (omega arith) (omega arith)) (none-occurring ar d (suc t) n (λ u i j. h u (omega arith) (omega arith)))

no-parameters : (ar : List ℕ) (d : Diagram) → Within 0 (meaning ar d) → parameters ar d ≡ []
unfolding parameters
no-parameters ar d w = none-occurring ar d first_parameter parameter_count (λ t h k. quiet t h k (flag (occurs ar t d)))
  where
    quiet : (t : ℕ) → first_parameter ≤ t → t < first_parameter + parameter_count → Flag (occurs ar t d) → occurs ar t d ≡ false
    quiet t h k (is_false e) = e
    quiet t h k (is_true e) = let z = each_within 0 ar d w t e h in absurd (omega arith)

passes : (a b c d : Bool) (w x y z v : Result ℕ Refusal) → a ≡ true → b ≡ true → c ≡ true → d ≡ false
    → cond (not a) w (cond (not b) x (cond (not c) y (cond d z v))) ≡ v
passes a b c d w x y z v h i j k = rw (h, i, j, k)

answer : (ar ws : List ℕ) (d : Diagram) (n : ℕ) (constants facts : List ℕ) → is_listing ar ws ≡ true → diagram_of ws ≡ d
    → is_state ar n constants facts ≡ true → parameters ar d ≡ [] → is_too_large ar (state_of ar n constants facts) [] ws ≡ false
    → value_answer ar ws n constants facts ≡ Ok (number (state_of ar n constants facts) [] (meaning ar d))
unfolding value_answer answer_by
answer ar ws d n constants facts i q s p f =
    passes (is_listing ar ws) (is_state ar n constants facts) (eqb (length (parameters ar (diagram_of ws))) 0) (is_too_large ar (state_of ar n constants facts) [] ws)
    (Err Listing) (Err Range) (Err Unbound) (Err Valuations)
    (Ok (number (state_of ar n constants facts) [] (meaning ar (diagram_of ws)))) i s
    (ap (λ (x : Diagram). eqb (length (parameters ar x)) 0) q ∙ ap (λ (x : List ℕ). eqb (length x) 0) p)
    f
    ∙ ap (λ (x : Diagram). Ok (number (state_of ar n constants facts) [] (meaning ar x))) q

-- of every lent state in which not both ways of working are too large
pub value-is : (m : Model) → GoodModel m → (l : List Call) (n : ℕ) (constants facts : List ℕ) → is_state m.arities n constants facts ≡ true
    → is_too_large m.arities (state_of m.arities n constants facts) [] (listing (run m l).diagram) ≡ false
    → value_answer m.arities (listing (run m l).diagram) n constants facts ≡ Ok (bellman m (run m l).steps (state_of m.arities n constants facts))
value-is m good l n constants facts e few =
    let ar = m.arities in
    let d = (run m l).diagram in
    let r = run-right m good l in
    answer ar (listing d) d n constants facts (good-is-listing ar d r.listed) (diagram-listing ar d r.listed) e (no-parameters ar d r.within) few
    ∙ ap Ok (demand-3 m good l (state_of ar n constants facts) (lent-good ar n constants facts e))
