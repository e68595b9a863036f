-- What the value call answers, by its first way of working and with the second: number 15 where neither may be taken (document 02, L6 and L12).
use Rattle.std.specs.Prelude.{Bool, not, ◌&&◌, ◌||◌, cond, List, [], ℕ, length, eqb, ltb}
use Rattle.refusal.specs.declared.Refusal.TheVariants.{Range, Unbound, Listing, Valuations}
use Rattle.diagram.specs.Words.{is_listing}
use Rattle.diagram.specs.Listing.{diagram_of}
use Rattle.diagram.specs.Variables.{is_plain}
use Rattle.state.specs.State.{State, meaning}
use Rattle.state.specs.Lent.{state_of, is_state}
use Rattle.state.specs.ValueCall.{most_valuations, parameters, valuations}
use Rattle.minimum.specs.Number.{number}
use Rattle.elimination.specs.Elimination.{most_entries, all_entries}
use Rattle.refusal.specs.declared.Refusal.{Refusal}
use Rattle.std.specs.Prelude.{Err, Ok, Result}

-- the checks in their order, then 15 where it is too large, else the number (document 02, L12)
unfoldable pub answer_by : Bool → List ℕ → List ℕ → ℕ → List ℕ → List ℕ → Result ℕ Refusal
answer_by large ar ws n constants facts =
    cond (not (is_listing ar ws)) (Err Listing)
    (cond (not (is_state ar n constants facts)) (Err Range)
    (cond (not (eqb (length (parameters ar (diagram_of ws))) 0)) (Err Unbound)
    (cond large (Err Valuations)
    (Ok (number (state_of ar n constants facts) [] (meaning ar (diagram_of ws)))))))

-- by the first way of working alone, as document 01 has it
unfoldable pub first_answer : List ℕ → List ℕ → ℕ → List ℕ → List ℕ → Result ℕ Refusal
unfolding answer_by
first_answer ar ws n constants facts = answer_by (ltb most_valuations (valuations ar n (diagram_of ws))) ar ws n constants facts

-- "use it wherever 15 would be given"; "above 8,192 entries .. 15 is still the answer"; "with a minimum variable L6's way isn't used" (L12): of a listing in a
-- state, with the objects os for the parameters
unfoldable pub is_too_large : List ℕ → State → List ℕ → List ℕ → Bool
is_too_large ar s os ws =
    ltb most_valuations (valuations ar s.size (diagram_of ws)) && (not (is_plain ar (diagram_of ws)) || ltb most_entries (all_entries s os ar ws))

-- the checks in their order, then the number: "the highest-leaf definition covers both ways", read as the number since L12
unfoldable pub value_answer : List ℕ → List ℕ → ℕ → List ℕ → List ℕ → Result ℕ Refusal
unfolding is_too_large answer_by
value_answer ar ws n constants facts = answer_by (is_too_large ar (state_of ar n constants facts) [] ws) ar ws n constants facts
