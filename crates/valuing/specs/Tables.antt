-- What the second way of working answers where there are too many valuations (document 02, L6).
use Rattle.std.specs.Prelude.{◌≡◌, not, ◌||◌, cond, List, ℕ, ◌≤◌, ltb}
use Rattle.refusal.specs.declared.Refusal.TheVariants.{Valuations}
use Rattle.diagram.specs.Sizes.{highest_value}
use Rattle.diagram.specs.Listing.{diagram_of}
use Rattle.diagram.specs.Variables.{is_plain}
use Rattle.state.specs.State.{meaning}
use Rattle.state.specs.Lent.{state_of}
use Rattle.minimum.specs.Number.{number}
use Rattle.elimination.specs.Elimination.{most_entries, all_entries}
use Rattle.refusal.specs.declared.Refusal.{Refusal}
use Rattle.std.specs.Prelude.{Err, Ok, Result}

-- 15 where there is a minimum variable (L12) or the tables have too many entries, else the number, with the objects os for the parameters
unfoldable pub tables_answer : List ℕ → List ℕ → ℕ → List ℕ → List ℕ → List ℕ → Result ℕ Refusal
tables_answer ar ws n constants facts os =
    cond (not (is_plain ar (diagram_of ws)) || ltb most_entries (all_entries (state_of ar n constants facts) os ar ws)) (Err Valuations)
    (Ok (number (state_of ar n constants facts) os (meaning ar (diagram_of ws))))

-- an answer that has room for one more
pub record Liftable (r : Result ℕ Refusal) : Type 0 where
  pub few : (v : ℕ) → r ≡ Ok v → v ≤ highest_value
