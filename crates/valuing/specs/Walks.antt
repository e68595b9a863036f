-- What a value with objects for the parameters answers, and what a walk asks that is prepared once for many of them (document 02, L6, L9 to L11).
use Rattle.std.specs.Prelude.{◌≡◌, Bool, true, not, cond, List, ℕ, suc, ◌≤◌, max, length, ltb}
use Rattle.refusal.specs.declared.Refusal.TheVariants.{Valuations}
use Rattle.diagram.specs.Words.{row_count, is_listing}
use Rattle.diagram.specs.Listing.{diagram_of}
use Rattle.diagram.specs.Variables.{is_plain}
use Rattle.state.specs.State.{meaning}
use Rattle.state.specs.Lent.{state_of, is_state}
use Rattle.state.specs.ValueCall.{most_valuations, valuations}
use Rattle.minimum.specs.Number.{number}
use Rattle.elimination.specs.Answer.{is_too_large}
use Rattle.fact_index.specs.Inner.{indexed_count, Indexed}
use Rattle.valuing.specs.Search.{Tops}
use Rattle.refusal.specs.declared.Refusal.{Refusal}
use Rattle.std.specs.Prelude.{Err, Ok, Result}

-- ===== What is answered =====

-- the number of a listing in a lent state (document 02, L12), with the objects os for the parameters
abbrev pub bound_number : List ℕ → List ℕ → ℕ → List ℕ → List ℕ → List ℕ → ℕ
bound_number ar ws n constants facts os = number (state_of ar n constants facts) os (meaning ar (diagram_of ws))

-- 15 where no way of working may be taken, else the number: "with 15 judged for each binding" (L9), "for each state" (L11)
unfoldable pub bound_answer : List ℕ → List ℕ → ℕ → List ℕ → List ℕ → List ℕ → Result ℕ Refusal
unfolding is_too_large state_of
bound_answer ar ws n constants facts os =
    cond (is_too_large ar (state_of ar n constants facts) os ws) (Err Valuations) (Ok (bound_number ar ws n constants facts os))

-- the best so far after one answer more: one more than the best number, 0 for none
unfoldable pub climbed : ℕ → Result ℕ Refusal → Result ℕ Refusal
climbed best (Ok v) = Ok (max best (suc v))
climbed best (Err r) = Err r

-- ===== What is asked =====

-- the first way of working may be taken
unfoldable pub is_few : List ℕ → ℕ → List ℕ → Bool
unfolding valuations
is_few ar n ws = not (ltb most_valuations (valuations ar n (diagram_of ws)))

-- a listing and a state, and whether the listing has no minimum variable
pub record InState (ar ws : List ℕ) (n : ℕ) (constants facts : List ℕ) (plain : Bool) : Type 0 where
  pub listed : is_listing ar ws ≡ true
  pub lent : is_state ar n constants facts ≡ true
  pub is-plain : plain ≡ is_plain ar (diagram_of ws)

-- a listing with its rows' highest leaves, and a state with the index of its facts
pub record Prepared (ar ws high : List ℕ) (n : ℕ) (constants facts index : List ℕ) : Type 0 where
  pub listed : is_listing ar ws ≡ true
  pub lent : is_state ar n constants facts ≡ true
  pub places : row_count ws ≤ length high
  pub tops : Tops ws high (row_count ws)
  pub indexed : Indexed ar facts index (indexed_count facts index)
