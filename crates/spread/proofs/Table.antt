-- Spreads of small diagrams, computed from the definitions (document 02, L11).
use Rattle.std.specs.Prelude.{◌≡◌, refl, List, [], ◌∷◌, ℕ, ◌-◌, replicate}
use Rattle.std.proofs.Common.{arith}
use Rattle.refusal.specs.declared.Refusal.TheVariants.{Ground}
use Rattle.refusal.specs.Outcome.{ok, refused}
use Rattle.label.specs.Limits.{constant_count, predicate_count, equality_arity, first_variable}
use Rattle.label.specs.Labels.{atom_from, packed, unpacked, terms_of}
use Rattle.diagram.specs.Diagram.{Diagram, leaf, branch, same}
use Rattle.diagram.specs.Listing.{listing, diagram_of}
use Rattle.state.specs.Lent.{state_of}
use Rattle.state.specs.ValueCall.{valuations}
use Rattle.spread.specs.Ground.{ground_count}
use Rattle.spread.specs.Spread.{Entry, spread}
use Rattle.spread.proofs.LentChoiceLaws.{spread-many}

abbrev entry : ℕ → ℕ → Entry
entry v n = record { value = v; states = n }

-- predicate 1 has a places, predicate 2 has none
abbrev places : ℕ → List ℕ
places a = equality_arity ∷ a ∷ 0 ∷ replicate (predicate_count - 3) 0

-- every constant is object 0
abbrev at_nought : List ℕ
at_nought = replicate constant_count 0

-- 10 where predicate 1 holds of the terms, 0 where not
abbrev ten_if : List ℕ → Diagram
ten_if ts = branch (packed (atom_from 1 ts)) (leaf 10) (leaf 0)

-- No predicate declared: one state. A predicate without places, used or not: two states. One place and two objects: four states, in three of which some object has it, and in
-- two of which the one at constant 0. One object: two states.
pub table-spread : (spread (places 0) 0 3 at_nought (listing (leaf 7)) ≡ ok (entry 7 1 ∷ []))
    × (spread (places 0) 1 2 at_nought (listing (ten_if [])) ≡ ok (entry 0 1 ∷ entry 10 1 ∷ []))
    × (spread (places 0) 1 2 at_nought (listing (leaf 7)) ≡ ok (entry 7 2 ∷ []))
    × (spread (places 1) 1 2 at_nought (listing (ten_if (first_variable ∷ []))) ≡ ok (entry 0 1 ∷ entry 10 3 ∷ []))
    × (spread (places 1) 1 2 at_nought (listing (ten_if (0 ∷ []))) ≡ ok (entry 0 2 ∷ entry 10 2 ∷ []))
    × (spread (places 1) 1 1 at_nought (listing (ten_if (first_variable ∷ []))) ≡ ok (entry 0 1 ∷ entry 10 1 ∷ []))
unfolding spread valuations state_of diagram_of listing same packed terms_of unpacked
table-spread = (refl, refl, refl, refl, refl, refl)

-- four places and two objects are 16 ground facts, which pass; a predicate without places more makes 17, and 24
pub table-ground : (ground_count (places 4) 1 2 ≡ 16) × (ground_count (places 4) 2 2 ≡ 17)
unfolding ground_count
table-ground = (refl, refl)

pub table-many : (ws : List ℕ) → spread (places 4) 2 2 at_nought ws ≡ refused Ground
table-many ws = spread-many (places 4) 2 2 at_nought ws (omega (arith, table-ground.1))
