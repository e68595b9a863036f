-- What contracts of inner functions and proofs cite. Nothing here has to be believed.
use Rattle.std.specs.Prelude.{◌≡◌, true, List, ℕ, ◌+◌, ◌*◌, ◌/◌, ◌^◌, ◌≤◌, length, take}
use Rattle.diagram.specs.Sizes.{result_words, space_words}
use Rattle.diagram.specs.Words.{is_listing}
use Rattle.diagram.specs.Listing.{diagram_of}
use Rattle.state.specs.State.{meaning}
use Rattle.regression.specs.Parameters.{Within}
use Rattle.mdp.specs.Model.{Model, scale}
use Rattle.mdp.specs.Backup.{most_steps}
use Rattle.mdp.specs.Runs as mdp
use Rattle.model.specs.declared.Head.{Head}
use Rattle.model.specs.Layout.{reward_words}
use Rattle.planner.specs.declared.RunNumbers.{RunNumbers}
use Rattle.planner.specs.Run.{held_in}

-- the words hold v: its diagram's listing, k, and S^k
pub record Holds (ar : List ℕ) (m : Model) (v : mdp.Held) (h : RunNumbers) (value : List ℕ) : Type 0 where
  pub listing : is_listing ar (take (h.rows * 3) value) ≡ true
  pub room : h.rows * 3 ≤ length value
  pub is : held_in h value ≡ v
  pub power : h.power ≡ scale m ^ h.steps

-- room for a value and for the rows formed
pub record Room (value work : List ℕ) : Type 0 where
  pub value_room : result_words ≤ length value
  pub work-room : space_words ≤ length work

-- what a call requires of what is held: a listing without parameters, k and S^k in their ranges
pub record Callable (ar : List ℕ) (m : Model) (h : RunNumbers) (value : List ℕ) : Type 0 where
  pub listing : is_listing ar (take (h.rows * 3) value) ≡ true
  pub room : h.rows * 3 ≤ length value
  pub within : Within 0 (meaning ar (diagram_of (take (h.rows * 3) value)))
  pub steps : h.steps ≤ most_steps
  pub power : h.power ≡ scale m ^ h.steps

-- what a cut or a reduction requires of what is held
pub record ReplaceTask (ar : List ℕ) (h : RunNumbers) (value work : List ℕ) : Type 0 where
  pub listing : is_listing ar (take (h.rows * 3) value) ≡ true
  pub room : h.rows * 3 ≤ length value
  pub value_room : result_words ≤ length value
  pub work-room : space_words ≤ length work

-- the reward's listing is within the listings, and there is room for it
pub record Takeable (listings : List ℕ) (h : Head) (value : List ℕ) : Type 0 where
  pub inside : h.reward_start + h.reward_words ≤ length listings
  pub whole : h.reward_words / 3 * 3 ≡ h.reward_words
  pub room : h.reward_words ≤ length value

-- the first rows of the buffer are the reward's listing
pub record Taken (listings : List ℕ) (h : Head) (n : ℕ) (value : List ℕ) : Type 0 where
  pub words : take (n * 3) value ≡ reward_words listings h
  pub room : n * 3 ≤ length value
