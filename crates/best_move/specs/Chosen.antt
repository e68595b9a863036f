-- What the code of (best) requires and answers (document 02, L9).
use Rattle.std.specs.Prelude.{◌≡◌, true, List, ℕ, ◌≤◌, length, get_or}
use Rattle.refusal.specs.Outcome.{Outcome, ok, refused}
use Rattle.diagram.specs.Sizes.{space_words}
use Rattle.diagram.specs.Words.{is_listing}
use Rattle.diagram.specs.Listing.{diagram_of}
use Rattle.state.specs.State.{meaning}
use Rattle.state.specs.Lent.{state_of, is_state, most_objects}
use Rattle.fact_index.specs.Inner.{indexed_count, Indexed}
use Rattle.regression.specs.Parameters.{Within}
use Rattle.model.specs.declared.Head.{Head}
use Rattle.model.specs.Inner.{Laid}
use Rattle.model.specs.Layout.{model_of}
use Rattle.best.specs.Moves.{Move}
use Rattle.best.specs.Best.{best_answer}
use Rattle.best_move.specs.declared.Chosen.{Chosen}
use Rattle.best_move.specs.declared.Chosen.TheVariants.{Move as TheMove, Refused}

-- "(best action object ..)": the action's number, how many objects, and these, 0 where there is none; or why there is no move
abbrev pub chosen_as : Outcome Move → Chosen
chosen_as (ok x) = TheMove x.action (length x.objects) (get_or x.objects 0 0) (get_or x.objects 1 0) (get_or x.objects 2 0) (get_or x.objects 3 0)
chosen_as (refused r) = Refused r

-- the answer in a state, of a model and a value's listing in lent words
abbrev pub best_chosen : List ℕ → List ℕ → List ℕ → Head → ℕ → List ℕ → List ℕ → List ℕ → Chosen
best_chosen ar listings table h n constants facts value = chosen_as (best_answer (model_of ar listings table h) (state_of ar n constants facts) (diagram_of value))

-- a model laid out in words, a state with the index of its facts, a value's listing without parameters, and room for the rows formed
pub record BestTask (ar listings table : List ℕ) (h : Head) (n : ℕ) (constants facts index value work : List ℕ) : Type 0 where
  pub laid : Laid ar listings table h
  pub lent : is_state ar n constants facts ≡ true
  pub indexed : Indexed ar facts index (indexed_count facts index)
  pub objects-few : n ≤ most_objects
  pub value-listing : is_listing ar value ≡ true
  pub within : Within 0 (meaning ar (diagram_of value))
  pub work-room : space_words ≤ length work
