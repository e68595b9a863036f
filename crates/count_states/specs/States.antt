-- The values of all choices by the rows of the ground facts: what the code's contracts need.
use Rattle.std.specs.Prelude.{◌≡◌, Bool, true, cond, List, [], ℕ, ◌*◌, ◌^◌, ◌≤◌, ◌<◌, length}
use Rattle.refusal.specs.declared.Refusal.TheVariants.{Valuations}
use Rattle.refusal.specs.Outcome.{Outcome, ok, refused}
use Rattle.diagram.specs.Sizes.{most_rows}
use Rattle.diagram.specs.Words.{row_count, is_listing}
use Rattle.diagram.specs.Listing.{diagram_of}
use Rattle.diagram.specs.Variables.{is_plain}
use Rattle.state.specs.Lent.{fact_words, some_below, state_of, is_state}
use Rattle.elimination.specs.Answer.{is_too_large}
use Rattle.spread.specs.Ground.{most_ground}
use Rattle.spread.specs.Spread.{Entry, entries}
use Rattle.valuing.specs.Search.{Tops}
use Rattle.valuing.specs.Walks.{bound_number, is_few}
use Rattle.count_states.specs.Counted.{table_words}
use Rattle.count_states.specs.Facts.{picked}

-- a listing with its rows' highest leaves, whether the first way of working may be taken, and whether there is no minimum variable
pub record Valuing (ar ws high : List ℕ) (few plain : Bool) (n : ℕ) : Type 0 where
  pub listed : is_listing ar ws ≡ true
  pub places : most_rows ≤ length high
  pub tops : Tops ws high (row_count ws)
  pub fits : few ≡ is_few ar n ws
  pub kinds : plain ≡ is_plain ar (diagram_of ws)

-- every choice of the first g rows is a state
pub record Choices (ar : List ℕ) (n : ℕ) (constants rows : List ℕ) (g : ℕ) (facts : List ℕ) : Type 0 where
  pub few : g ≤ most_ground
  pub rows-there : g * fact_words ≤ length rows
  pub room : g * fact_words ≤ length facts
  pub lent : (c : ℕ) → is_state ar n constants (picked rows g c) ≡ true

-- the value in choice c
abbrev pub value_of : List ℕ → List ℕ → ℕ → List ℕ → List ℕ → ℕ → ℕ → ℕ
value_of ar ws n constants rows g c = bound_number ar ws n constants (picked rows g c) []

-- choice c meets 15
abbrev pub large_at : List ℕ → List ℕ → ℕ → List ℕ → List ℕ → ℕ → ℕ → Bool
large_at ar ws n constants rows g c = is_too_large ar (state_of ar n constants (picked rows g c)) [] ws

-- the spread over the choices of the first g rows
unfoldable pub rows_spread : List ℕ → List ℕ → ℕ → List ℕ → List ℕ → ℕ → Outcome (List Entry)
rows_spread ar ws n constants rows g =
    cond (some_below (2 ^ g) (large_at ar ws n constants rows g)) (refused Valuations) (ok (entries (2 ^ g) (value_of ar ws n constants rows g)))

-- room for a line for each value, however many choices are entered
pub record Spreading (ar ws : List ℕ) (n : ℕ) (constants rows : List ℕ) (g : ℕ) (table : List ℕ) : Type 0 where
  pub room : table_words ≤ length table
  pub lines : (m : ℕ) → length (entries m (value_of ar ws n constants rows g)) < most_rows
