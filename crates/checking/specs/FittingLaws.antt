-- Each test of a model's words is true exactly if they are what document 01 asks.
use Rattle.std.specs.Prelude.{◌≡◌, true, false, not, ◌||◌, List, ℕ, ◌+◌, ◌*◌, ◌-◌, ◌≤◌, ◌<◌, get_or, ltb, eqb}
use Rattle.std.proofs.Common.{ap, ap₂, subst, ◌∙◌, arith, ltb-true, ltb-false, le-ltb, ne_eqb}
use Rattle.std.proofs.lemmas.Bool.{eqb-false, not-true}
use Rattle.basics.specs.Tests.{Flag, is_true, is_false, flag}
use Rattle.basics.specs.Members.{clash}
use Rattle.label.specs.Limits.{first_parameter, parameter_count, first_variable, variable_count, minimum_count, term_end, predicate_count, equality}
use Rattle.label.proofs.LabelLaws.{term-below}
use Rattle.diagram.specs.Diagram.{Diagram, leaf, branch, same}
use Rattle.diagram.specs.DiagramLaws.{same-eq, same_refl}
use Rattle.diagram.specs.Words.{is_listing}
use Rattle.diagram.specs.Listing.{diagram_of}
use Rattle.diagram.specs.Listings.{is-listing-good}
use Rattle.diagram.specs.Variables.{occurs, closed}
use Rattle.listing.specs.Check.{Decides}
use Rattle.rename.specs.VariableLaws.{occurs-term}
use Rattle.state.specs.State.{meaning}
use Rattle.state.specs.Terms.{Terms}
use Rattle.state.proofs.ValueLaws.{Terms-mono}
use Rattle.minimum.proofs.OccurLaws.{terms-occur, occur-terms}
use Rattle.regression.specs.Result.{AtMost}
use Rattle.regression.specs.Parameters.{Within}
use Rattle.regression.specs.RegressCall.{leaf_above, any_occurs, unbound_variable}
use Rattle.regression.proofs.RegressCallLaws.{above-leaf, above-branch, above_most, any-quiet, quiet-any}
use Rattle.mdp.specs.Model.{GoodTruthDiagram, most_variants}
use Rattle.mdp.proofs.CallLaws.{within-each, each_within}
use Rattle.model.specs.Layout.{action_words, variant_place, weight_words, variants_of}
use Rattle.checking.specs.DecisionLaws.{decide, on, both, unless, at_most, is_true_lem, every}
use Rattle.checking.specs.Fitting.{own_parameters, is_truth, is_weight, is_value, truth_at, truth_fits, variant_fits, action_fits, actions_fit}

-- ===== Terms =====

-- none of the n terms from t on occurs
no-term : (ar : List ℕ) (d : Diagram) (t n : ℕ) → Decides (not (any_occurs ar d t n)) ((u : ℕ) → occurs ar u d ≡ true → t ≤ u → u < t + n → ⊥)
no-term ar d t n =
    decide (λ e u o h k. clash o (any-quiet ar d t n (not-true (any_occurs ar d t n) e) u h k))
    (λ f. ap not (quiet-any ar d t n (λ u h k. go u (f u) h k (flag (occurs ar u d)))))
  where
    go : (u : ℕ) → (occurs ar u d ≡ true → t ≤ u → u < t + n → ⊥) → t ≤ u → u < t + n → Flag (occurs ar u d) → occurs ar u d ≡ false
    go u f h k (is_true o) = absurd (f o h k)
    go u f h k (is_false o) = o

-- all terms are below n
terms-are : (ar ws : List ℕ) (n : ℕ) → is_listing ar ws ≡ true
    → Decides (not (any_occurs ar (diagram_of ws) n (term_end - n))) (Terms (λ t. t < n) (meaning ar (diagram_of ws)))
terms-are ar ws n e =
    on (no-term ar d n (term_end - n))
    (λ f. Terms-mono (λ t. occurs ar t d ≡ true) (λ t. t < n) (λ t o. go f t o (flag (ltb t n))) (meaning ar d) (occur-terms ar d))
    (λ x u o h k. let l = terms-occur (λ t. t < n) ar u d x o in omega arith)
  where
    d : Diagram
    d = diagram_of ws

    go : ((u : ℕ) → occurs ar u d ≡ true → n ≤ u → u < n + (term_end - n) → ⊥) → (t : ℕ) → occurs ar t d ≡ true → Flag (ltb t n) → t < n
    go f t o (is_true q) = ltb-true t n q
    go f t o (is_false q) =
        let k = term-below t (occurs-term ar d t (is-listing-good ar ws e).fine o) in
        let l = ltb-false t n q in
        absurd (f t o l (omega arith))

-- no parameter is past the first c
within-is : (ar : List ℕ) (c : ℕ) (d : Diagram) → Decides (own_parameters ar c d) (Within c (meaning ar d))
within-is ar c d =
    on (no-term ar d (first_parameter + c) (first_variable - (first_parameter + c)))
    (λ f. within-each c ar d (λ t o k. go f t o k (flag (ltb t first_variable))))
    (λ x u o h k. let l = each_within c ar d x u o h in omega arith)
  where
    go : ((u : ℕ) → occurs ar u d ≡ true → first_parameter + c ≤ u → u < first_parameter + c + (first_variable - (first_parameter + c)) → ⊥)
        → (t : ℕ) → occurs ar t d ≡ true → first_parameter + c ≤ t → Flag (ltb t first_variable) → first_variable ≤ t
    go f t o k (is_true q) = let l = ltb-true t first_variable q in absurd (f t o k (omega arith))
    go f t o k (is_false q) = ltb-false t first_variable q

most-above : (m : ℕ) (d : Diagram) → AtMost m d → leaf_above m d ≡ false
most-above m (leaf v) h = above-leaf m v ∙ le-ltb m v h
most-above m (branch l t f) h = above-branch m l t f ∙ ap₂ ◌||◌ (most-above m t h.0) (most-above m f h.1)

bits_are : (m : ℕ) (d : Diagram) → Decides (not (leaf_above m d)) (AtMost m d)
bits_are m d = decide (λ e. above_most m d (not-true (leaf_above m d) e)) (λ h. ap not (most-above m d h))

-- ===== Listings =====

-- the listing of a truth diagram
pub record IsTruth (ar : List ℕ) (c n : ℕ) (ws : List ℕ) : Type 0 where
  pub listing : is_listing ar ws ≡ true
  pub good : GoodTruthDiagram ar c n (diagram_of ws)

pub truth-is : (ar : List ℕ) (c n : ℕ) (ws : List ℕ) → Decides (is_truth ar c n ws) (IsTruth ar c n ws)
unfolding is_truth
truth-is ar c n ws =
    on (both (is_true_lem (is_listing ar ws)) (λ e. both (bits_are 1 (diagram_of ws)) (λ b. both (arguments e) (λ a. within-is ar c (diagram_of ws)))))
    (λ x. record {
      listing = x.0;
      good = record { listed = is-listing-good ar ws x.0; bits = x.1.0; parameters = x.1.1.1; arguments = x.1.1.0 };
    })
    (λ t. (t.listing, (t.good.bits, (t.good.arguments, t.good.parameters))))
  where
    arguments : is_listing ar ws ≡ true → Decides (not (unbound_variable ar n (diagram_of ws))) (Terms (λ t. t < first_variable + n) (meaning ar (diagram_of ws)))
    arguments e =
        let z : term_end - (first_variable + n) ≡ variable_count + minimum_count - n = omega arith in
        subst (λ (k : ℕ). Decides (not (any_occurs ar (diagram_of ws) (first_variable + n) k)) (Terms (λ t. t < first_variable + n) (meaning ar (diagram_of ws)))) z
        (terms-are ar ws (first_variable + n) e)

-- of a weight
pub record IsWeight (ar : List ℕ) (c : ℕ) (ws : List ℕ) : Type 0 where
  pub listing : is_listing ar ws ≡ true
  pub terms : Terms (λ t. t < first_parameter + c) (meaning ar (diagram_of ws))

pub weight_is : (ar : List ℕ) (c : ℕ) (ws : List ℕ) → Decides (is_weight ar c ws) (IsWeight ar c ws)
unfolding is_weight
weight_is ar c ws =
    on (both (is_true_lem (is_listing ar ws)) (λ e. terms-are ar ws (first_parameter + c) e)) (λ x. record { listing = x.0; terms = x.1 }) (λ w. (w.listing, w.terms))

-- of a value diagram
pub record IsValue (ar ws : List ℕ) : Type 0 where
  pub listing : is_listing ar ws ≡ true
  pub is-closed : closed ar (diagram_of ws) ≡ diagram_of ws
  pub within : Within 0 (meaning ar (diagram_of ws))

closed_is : (ar : List ℕ) (d : Diagram) → Decides (same (closed ar d) d) (closed ar d ≡ d)
closed_is ar d = decide (same-eq (closed ar d) d) (λ e. ap (λ (x : Diagram). same x d) e ∙ same_refl d)

pub value-is : (ar ws : List ℕ) → Decides (is_value ar ws) (IsValue ar ws)
unfolding is_value
value-is ar ws =
    on (both (is_true_lem (is_listing ar ws)) (λ e. both (closed_is ar (diagram_of ws)) (λ q. within-is ar 0 (diagram_of ws))))
    (λ x. record { listing = x.0; is-closed = x.1.0; within = x.1.1 }) (λ v. (v.listing, (v.is-closed, v.within)))

-- ===== The table =====

-- the truth diagram of the predicate p, of the variant at the place i
pub record FitTruth (ar listings table : List ℕ) (used c i p : ℕ) : Type 0 where
  pub inside : get_or table (truth_at i p) 0 + get_or table (truth_at i p + 1) 0 ≤ used
  pub truth : 0 < p → (get_or table (truth_at i p + 1) 0 ≡ 0 → ⊥) → IsTruth ar c (get_or ar p 0) (weight_words listings table (truth_at i p))

pub fit-truth : (ar listings table : List ℕ) (used c i p : ℕ) → Decides (truth_fits ar listings table used c i p) (FitTruth ar listings table used c i p)
unfolding truth_fits
fit-truth ar listings table used c i p =
    let n : ℕ = get_or table (truth_at i p + 1) 0 in
    on (both (at_most (get_or table (truth_at i p) 0 + n) used)
    (λ h. unless (eqb p equality) (unless (eqb n 0) (truth-is ar c (get_or ar p 0) (weight_words listings table (truth_at i p))))))
    (λ x. record { inside = x.0; truth = λ h f. x.1 (ne_eqb p equality (λ z. omega (arith, h, z))) (ne_eqb n 0 f) })
    (λ t. (t.inside, (λ e f. t.truth (let z = eqb-false p equality e in omega arith) (eqb-false n 0 f))))

-- the variant at the place i, of an action of c parameters
pub record FitVariant (ar listings table : List ℕ) (used c i : ℕ) : Type 0 where
  pub inside : get_or table i 0 + get_or table (i + 1) 0 ≤ used
  pub weight : IsWeight ar c (weight_words listings table i)
  pub truths : (p : ℕ) → p < predicate_count → FitTruth ar listings table used c i p

pub fit-variant : (ar listings table : List ℕ) (used c i : ℕ) → Decides (variant_fits ar listings table used c i) (FitVariant ar listings table used c i)
unfolding variant_fits
fit-variant ar listings table used c i =
    on (both (at_most (get_or table i 0 + get_or table (i + 1) 0) used)
    (λ h. both (weight_is ar c (weight_words listings table i))
    (λ w. every predicate_count (truth_fits ar listings table used c i) (FitTruth ar listings table used c i) (λ p k. fit-truth ar listings table used c i p))))
    (λ x. record { inside = x.0; weight = x.1.0; truths = x.1.1 })
    (λ v. (v.inside, (v.weight, v.truths)))

-- the action a
pub record FitAction (ar listings table : List ℕ) (used a : ℕ) : Type 0 where
  pub parameters : get_or table (a * action_words) 0 ≤ parameter_count
  pub few : variants_of table a ≤ most_variants
  pub variants : (v : ℕ) → v < variants_of table a → FitVariant ar listings table used (get_or table (a * action_words) 0) (variant_place a v)

pub action-is : (ar listings table : List ℕ) (used a : ℕ) → Decides (action_fits ar listings table used a) (FitAction ar listings table used a)
unfolding action_fits
action-is ar listings table used a =
    let c : ℕ = get_or table (a * action_words) 0 in
    on (both (at_most c parameter_count)
    (λ h. both (at_most (variants_of table a) most_variants)
    (λ k. every (variants_of table a) (λ v. variant_fits ar listings table used c (variant_place a v)) (λ v. FitVariant ar listings table used c (variant_place a v))
    (λ v q. fit-variant ar listings table used c (variant_place a v)))))
    (λ x. record { parameters = x.0; few = x.1.0; variants = x.1.1 })
    (λ f. (f.parameters, (f.few, f.variants)))

pub actions-are : (ar listings table : List ℕ) (used n : ℕ) → Decides (actions_fit ar listings table used n) ((a : ℕ) → a < n → FitAction ar listings table used a)
actions-are ar listings table used n = every n (action_fits ar listings table used) (FitAction ar listings table used) (λ a h. action-is ar listings table used a)
