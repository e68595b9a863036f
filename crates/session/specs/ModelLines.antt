-- Lines of the model with a diagram: their checks in order, and what an accepted one does (document 01, sections 'Text' and 'Refusals by trade word').
use Rattle.std.specs.Prelude.{Bool, true, false, not, ◌||◌, cond, List, [], ◌∷◌, ◌++◌, ℕ, ◌+◌, length, get_or, ltb, leb, eqb}
use Rattle.std.proofs.Math.Option.{Option, some, none}
use Rattle.refusal.specs.declared.Refusal.TheVariants.{Name, Truth, Space, Weights, Paths}
use Rattle.words.specs.declared.Key.{Key}
use Rattle.names.specs.Keys.{is_among}
use Rattle.diagram.specs.Diagram.{Diagram, leaf}
use Rattle.diagram.specs.Rows.{rows}
use Rattle.apply.specs.declared.Operation.TheVariants.{Sum}
use Rattle.apply.specs.declared.Names.TheVariants.{Shared}
use Rattle.refusal.specs.Outcome.{Outcome, ok, and_then}
use Rattle.paths.specs.Paths.{paths, most_paths}
use Rattle.contradiction.specs.Contradiction.{leads_to}
use Rattle.regression.specs.Regression.{Truths}
use Rattle.regression.specs.RegressCall.{leaf_above}
use Rattle.events.specs.declared.Event.{Event}
use Rattle.reading.specs.declared.Binding.{Binding}
use Rattle.reading.specs.declared.Binding.TheVariants.{Any, None, Only}
use Rattle.reading.specs.Reading.{Environment, arguments, reading}
use Rattle.reading.specs.Numbering.{reward_reading}
use Rattle.reading.specs.Head.{head_number, head_arguments}
use Rattle.build.specs.Machine.{built, built_closed}
use Rattle.mdp.specs.Model.{Variant, Action, most_variants}
use Rattle.mdp.specs.Backup.{combined}
use Rattle.session.specs.Session.{Names, Session, rewarded, with_actions, with_model, with_names, with_rows, refuse_if}

-- all model listings together have 2,048 rows
abbrev pub most_model_rows : ℕ
most_model_rows = 2048

-- the names that a diagram of the line may have: a reward has no parameters, and numbers its variables itself; a weight and a truth diagram have those of the
-- last action
abbrev pub names_for : Names → List ℕ → Binding → List Key → Environment
names_for n ar b ps = record {
  constants = n.constants;
  predicates = n.predicates;
  arities = ar;
  parameters = ps;
  binding = b;
}

-- r rows of model listings, and those of d
abbrev pub rows_with : ℕ → Diagram → ℕ
rows_with r d = r + length (rows d)

-- ===== (reward DIAGRAM) =====

unfoldable pub with_reward : Session → Diagram → Session
with_reward σ d =
    with_rows (with_model σ (record { total = σ.singles.total; discount = σ.singles.discount; reward = true }) (rewarded σ.model d)) (rows_with σ.rows d)

-- its words, 8, then 10, 11, 9 at each row step, 9 for its result, closed up; last 9 for model rows, of which there are r so far
unfoldable pub reward_read : Names → List ℕ → ℕ → List Event → Outcome Diagram
unfolding reward_reading built_closed rows
reward_read n ar r es =
    and_then (reward_reading (names_for n ar Any []) es) (λ w.
    and_then (built_closed ar w.operations) (λ d.
    refuse_if (ltb most_model_rows (rows_with r d)) Space
    (ok d)))

unfoldable pub reward_line : Session → List Event → Outcome Session
unfolding reward_read with_reward
reward_line σ es = and_then (reward_read σ.names σ.model.arities σ.rows es) (λ d. ok (with_reward σ d))

-- ===== (variant n WEIGHT) =====

-- the last action with one variant more
abbrev pub add_variant : List Action → Variant → List Action
add_variant [] v = []
add_variant (a ∷ []) v = record { count = a.count; variants = a.variants ++ (v ∷ []) } ∷ []
add_variant (a ∷ b ∷ l) v = a ∷ add_variant (b ∷ l) v

abbrev pub no_truths : Truths
no_truths p = none

unfoldable pub with_variant : Session → Key → Diagram → Session
with_variant σ k d =
    with_rows (with_names (with_model σ σ.singles (with_actions σ.model (add_variant σ.model.actions (record { weight = d; truths = no_truths })))) (record {
      constants = σ.names.constants;
      predicates = σ.names.predicates;
      actions = σ.names.actions;
      parameters = σ.names.parameters;
      variants = σ.names.variants ++ (k ∷ []);
      earlier = σ.names.earlier;
    })) (rows_with σ.rows d)

-- 2 at its name; the weight's words; its diagram; last 9 for 8 variants and model rows
unfoldable pub weight_read : Names → List ℕ → ℕ → Key → List Event → Outcome Diagram
unfolding is_among reading built rows
weight_read n ar r k es =
    refuse_if (is_among k n.variants) Name
    (and_then (reading (names_for n ar None n.parameters) es (arguments [])) (λ w.
    and_then (built w.operations) (λ d.
    refuse_if (leb most_variants (length n.variants) || ltb most_model_rows (rows_with r d)) Space
    (ok d))))

unfoldable pub variant_line : Session → Key → List Event → Outcome Session
unfolding weight_read with_variant
variant_line σ k es = and_then (weight_read σ.names σ.model.arities σ.rows k es) (λ d. ok (with_variant σ k d))

-- ===== (becomes (p ?a ..) DIAGRAM) =====

-- the truth diagrams with d for p
unfoldable pub with_truth_at : Truths → ℕ → Diagram → Truths
with_truth_at truths p d q = cond (eqb q p) (some d) (truths q)

abbrev pub last_truths : List Variant → (Truths → Truths) → List Variant
last_truths [] f = []
last_truths (v ∷ []) f = record { weight = v.weight; truths = f v.truths } ∷ []
last_truths (v ∷ w ∷ l) f = v ∷ last_truths (w ∷ l) f

abbrev pub last_variant : List Action → (Truths → Truths) → List Action
last_variant [] f = []
last_variant (a ∷ []) f = record { count = a.count; variants = last_truths a.variants f } ∷ []
last_variant (a ∷ b ∷ l) f = a ∷ last_variant (b ∷ l) f

-- the truth diagrams of the last variant of the last action
abbrev pub truths_of_last : List Variant → Truths
truths_of_last [] = no_truths
truths_of_last (v ∷ []) = v.truths
truths_of_last (v ∷ w ∷ l) = truths_of_last (w ∷ l)

abbrev pub truths_now : List Action → Truths
truths_now [] = no_truths
truths_now (a ∷ []) = truths_of_last a.variants
truths_now (a ∷ b ∷ l) = truths_now (b ∷ l)

abbrev pub is_some : Option Diagram → Bool
is_some none = false
is_some (some d) = true

unfoldable pub with_truth : Session → ℕ → Diagram → Session
unfolding with_truth_at
with_truth σ p d =
    with_rows (with_model σ σ.singles (with_actions σ.model (last_variant σ.model.actions (λ truths. with_truth_at truths p d)))) (rows_with σ.rows d)

-- at the predicate's word 2 (undeclared, or it has one already), then 3; 2 at a repeated argument; the diagram's words, its arguments the only variables;
-- its diagram; 7; last 9 for model rows
unfoldable pub truth_read : Names → List ℕ → Truths → ℕ → List Event → Outcome (ℕ × Diagram)
unfolding head_number head_arguments reading built leaf_above rows
truth_read n ar truths r es =
    and_then (head_number n.predicates es) (λ p.
    refuse_if (is_some (truths p)) Name
    (and_then (head_arguments (get_or ar p 0) es) (λ h.
    and_then (reading (names_for n ar Only n.parameters) h.rest (arguments h.variables)) (λ w.
    and_then (built w.operations) (λ d.
    refuse_if (leaf_above 1 d) Truth
    (refuse_if (ltb most_model_rows (rows_with r d)) Space
    (ok (p, d))))))))

unfoldable pub becomes_line : Session → List Event → Outcome Session
unfolding truth_read with_truth
becomes_line σ es =
    and_then (truth_read σ.names σ.model.arities (truths_now σ.model.actions) σ.rows es) (λ t. ok (with_truth σ t.0 t.1))

-- ===== (start) =====

-- the weights of variants, begun at sum, each added in order with names shared
unfoldable pub weights_sum : List ℕ → Diagram → List Variant → Outcome Diagram
unfolding combined
weights_sum ar sum [] = ok sum
weights_sum ar sum (v ∷ vs) = and_then (combined Sum Shared ar sum v.weight) (λ sum'. weights_sum ar sum' vs)

-- action by action: 17 if its summed weights have over 256 paths, "just before" 13; 13 unless "every path of the summed weights that has a leaf other than W
-- contradicts itself by equality" (document 02, L5)
unfoldable pub weighed : List ℕ → ℕ → List Action → Outcome (Unit {0})
unfolding weights_sum paths leads_to
weighed ar total [] = ok tt
weighed ar total (a ∷ l) =
    and_then (weights_sum ar (leaf 0) a.variants) (λ sum.
    refuse_if (ltb most_paths (length (paths sum))) Paths
    (refuse_if (not (leads_to ar total sum)) Weights
    (weighed ar total l)))
