-- A backup is a row of calls; the first refusal met is the answer (document 01, section 'Backup').
use Rattle.std.specs.Prelude.{Bool, ◌||◌, cond, List, [], ◌∷◌, ℕ, suc, ◌^◌, eqb, ltb}
use Rattle.refusal.specs.declared.Refusal.TheVariants.{Scale}
use Rattle.refusal.specs.Outcome.{Outcome, ok, refused, and_then}
use Rattle.diagram.specs.Sizes.{highest_value}
use Rattle.diagram.specs.Diagram.{Diagram, leaf}
use Rattle.diagram.specs.Variables.{is_plain, closed}
use Rattle.apply.specs.declared.Operation.{Operation}
use Rattle.apply.specs.declared.Operation.TheVariants.{Sum, Product, Max}
use Rattle.apply.specs.declared.Names.{Names}
use Rattle.apply.specs.declared.Names.TheVariants.{Apart, Shared}
use Rattle.apply.specs.declared.Combined.{Combined}
use Rattle.apply.specs.declared.Combined.TheVariants.{Done, Refused}
use Rattle.apply.specs.Combination.{combination, diagram_answer, done_as}
use Rattle.regression.specs.Regression.{regressed}
use Rattle.regression.specs.RegressCall.{freed_outcome}
use Rattle.mdp.specs.Model.{Variant, Action, Model, scale}

-- a combination that is answered gives its result
abbrev pub given : Combined → Diagram → Outcome Diagram
given (Done n pairs) d = ok d
given (Refused r) d = refused r

-- "A max asked for with shared names is done apart if either side has" a minimum variable, "in the backup too" (document 02, L12)
unfoldable pub combined : Operation → Names → List ℕ → Diagram → Diagram → Outcome Diagram
unfolding diagram_answer combination is_plain
combined op names ar a b = given (diagram_answer op (done_as op names ar a b) ar a b) (combination op (done_as op names ar a b) ar a b)

-- for each variant come four calls: its value regressed; its weight times leaf G, names shared; the product of these two, names shared; the sum so far
-- plus that product, apart
unfoldable pub variants_sum : List ℕ → ℕ → Diagram → Diagram → List Variant → Outcome Diagram
unfolding regressed combined
variants_sum ar g d sum [] = ok sum
variants_sum ar g d sum (v ∷ vs) =
    and_then (regressed ar v.truths d) (λ r.
    and_then (combined Product Shared ar v.weight (leaf g)) (λ w.
    and_then (combined Product Shared ar r w) (λ p.
    and_then (combined Sum Apart ar sum p) (λ sum'.
    variants_sum ar g d sum' vs))))

-- for each action in order a sum starts as leaf 0; free the parameters, close up, take max of the best so far and this, names shared
unfoldable pub actions_best : List ℕ → ℕ → Diagram → Diagram → List Action → Outcome Diagram
unfolding variants_sum freed_outcome closed combined
actions_best ar g d best [] = ok best
actions_best ar g d best (a ∷ l) =
    and_then (variants_sum ar g d (leaf 0) a.variants) (λ q.
    and_then (freed_outcome ar a.count q) (λ f.
    and_then (combined Max Shared ar best (closed ar f)) (λ best'.
    actions_best ar g d best' l)))

-- the scale is at most 10^18, and so is k
abbrev pub highest_scale : ℕ
highest_scale = highest_value

abbrev pub most_steps : ℕ
most_steps = 1000000000000000000

-- S^(k+1) is above 10^18, or k is 10^18
unfoldable pub scale_ends : Model → ℕ → Bool
unfolding scale
scale_ends m k = ltb highest_scale (scale m ^ suc k) || eqb k most_steps

-- the best starts as leaf 0; at the end the reward times the leaf S^(k+1), names shared, then the best plus that, apart
unfoldable pub row_of_calls : Model → ℕ → Diagram → Outcome Diagram
unfolding actions_best combined
row_of_calls m power d =
    and_then (actions_best m.arities m.numerator d (leaf 0) m.actions) (λ best.
    and_then (combined Product Shared m.arities m.reward (leaf power)) (λ r.
    combined Sum Apart m.arities best r))

-- refuse 12 first
unfoldable pub backup : Model → ℕ → Diagram → Outcome Diagram
unfolding scale_ends scale row_of_calls
backup m k d = cond (scale_ends m k) (refused Scale) (row_of_calls m (scale m ^ suc k) d)
