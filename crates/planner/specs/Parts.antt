-- The parts of a backup that are functions of their own in the code (document 01, section 'Backup').
use Rattle.std.specs.Prelude.{List, ℕ}
use Rattle.refusal.specs.Outcome.{Outcome, ok, and_then}
use Rattle.diagram.specs.Diagram.{Diagram, leaf}
use Rattle.diagram.specs.Variables.{closed}
use Rattle.apply.specs.declared.Operation.TheVariants.{Sum, Product, Max}
use Rattle.apply.specs.declared.Names.TheVariants.{Apart, Shared}
use Rattle.regression.specs.Regression.{regressed}
use Rattle.regression.specs.RegressCall.{freed_outcome}
use Rattle.mdp.specs.Model.{Variant, Action}
use Rattle.mdp.specs.Backup.{combined, variants_sum}

-- a variant's value regressed; its weight times leaf G, names shared; the product of these two, names shared
unfoldable pub variant_product : List ℕ → ℕ → Diagram → Variant → Outcome Diagram
variant_product ar g d v =
    and_then (regressed ar v.truths d) (λ r.
    and_then (combined Product Shared ar v.weight (leaf g)) (λ w.
    combined Product Shared ar r w))

-- the sum so far plus that product, apart
unfoldable pub variant_added : List ℕ → ℕ → Diagram → Diagram → Variant → Outcome Diagram
variant_added ar g d sum v = and_then (variant_product ar g d v) (λ p. combined Sum Apart ar sum p)

-- free the parameters, close up
unfoldable pub freed_up : List ℕ → ℕ → Diagram → Outcome Diagram
freed_up ar c d = and_then (freed_outcome ar c d) (λ f. ok (closed ar f))

-- the sum over the variants of an action, begun at leaf 0, freed and closed up
unfoldable pub action_value : List ℕ → ℕ → Diagram → Action → Outcome Diagram
action_value ar g d a = and_then (variants_sum ar g d (leaf 0) a.variants) (λ q. freed_up ar a.count q)

-- max of the best so far and this, names shared
unfoldable pub action_tried : List ℕ → ℕ → Diagram → Diagram → Action → Outcome Diagram
action_tried ar g d best a = and_then (action_value ar g d a) (λ q. combined Max Shared ar best q)
