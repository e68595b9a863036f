-- Whether lent words are a model's, part by part: tests that compute (document 01, sections 'Text', 'Regression' and 'Backup').
use Rattle.std.specs.Prelude.{Bool, not, ◌&&◌, ◌||◌, List, ℕ, ◌+◌, ◌*◌, ◌-◌, get_or, eqb, leb}
use Rattle.label.specs.Limits.{first_parameter, parameter_count, first_variable, term_end, predicate_count, equality}
use Rattle.diagram.specs.Diagram.{Diagram, same}
use Rattle.diagram.specs.Words.{is_listing, every_below}
use Rattle.diagram.specs.Listing.{diagram_of}
use Rattle.diagram.specs.Variables.{closed}
use Rattle.regression.specs.RegressCall.{leaf_above, any_occurs, unbound_variable}
use Rattle.mdp.specs.Model.{most_variants}
use Rattle.model.specs.Layout.{action_words, variant_place, weight_words, variants_of}

-- no parameter of d is past the first c
abbrev pub own_parameters : List ℕ → ℕ → Diagram → Bool
own_parameters ar c d = not (any_occurs ar d (first_parameter + c) (first_variable - (first_parameter + c)))

-- the truth diagram of a predicate of n places, of an action of c parameters: leaves 0 and 1, no variable of either kind but the arguments, no parameter but the action's
unfoldable pub is_truth : List ℕ → ℕ → ℕ → List ℕ → Bool
unfolding is_listing diagram_of leaf_above any_occurs
is_truth ar c n ws =
    is_listing ar ws && (not (leaf_above 1 (diagram_of ws)) && (not (unbound_variable ar n (diagram_of ws)) && own_parameters ar c (diagram_of ws)))

-- a weight of an action of c parameters: no variable of either kind, no parameter but the action's
unfoldable pub is_weight : List ℕ → ℕ → List ℕ → Bool
unfolding is_listing diagram_of any_occurs
is_weight ar c ws = is_listing ar ws && not (any_occurs ar (diagram_of ws) (first_parameter + c) (term_end - (first_parameter + c)))

-- a value diagram, as the reward is one: closed up, no parameter
unfoldable pub is_value : List ℕ → List ℕ → Bool
unfolding is_listing diagram_of any_occurs same closed
is_value ar ws = is_listing ar ws && (same (closed ar (diagram_of ws)) (diagram_of ws) && own_parameters ar 0 (diagram_of ws))

-- two words at the place i of the table, where a listing begins and how many words it has: it lies within the first `used` words
abbrev pub is_inside : List ℕ → ℕ → ℕ → Bool
is_inside table used i = leb (get_or table i 0 + get_or table (i + 1) 0) used

-- where the two words for the truth diagram of the predicate p stand, in the variant at the place i
abbrev pub truth_at : ℕ → ℕ → ℕ
truth_at i p = i + 2 + p * 2

-- the truth diagram of the predicate p, if it has one; equality has none
unfoldable pub truth_fits : List ℕ → List ℕ → List ℕ → ℕ → ℕ → ℕ → ℕ → Bool
unfolding is_truth
truth_fits ar listings table used c i p =
    is_inside table used (truth_at i p)
    && (eqb p equality || (eqb (get_or table (truth_at i p + 1) 0) 0 || is_truth ar c (get_or ar p 0) (weight_words listings table (truth_at i p))))

-- the variant at the place i, of an action of c parameters
unfoldable pub variant_fits : List ℕ → List ℕ → List ℕ → ℕ → ℕ → ℕ → Bool
unfolding is_weight truth_fits
variant_fits ar listings table used c i =
    is_inside table used i && (is_weight ar c (weight_words listings table i) && every_below predicate_count (truth_fits ar listings table used c i))

-- the action a
unfoldable pub action_fits : List ℕ → List ℕ → List ℕ → ℕ → ℕ → Bool
unfolding variant_fits
action_fits ar listings table used a =
    leb (get_or table (a * action_words) 0) parameter_count
    && (leb (variants_of table a) most_variants
    && every_below (variants_of table a) (λ v. variant_fits ar listings table used (get_or table (a * action_words) 0) (variant_place a v)))

-- the first n actions
abbrev pub actions_fit : List ℕ → List ℕ → List ℕ → ℕ → ℕ → Bool
actions_fit ar listings table used n = every_below n (action_fits ar listings table used)
