-- What the functions of a backup require (document 01, section 'Backup').
use Rattle.std.specs.Prelude.{◌≡◌, true, List, ℕ, ◌+◌, ◌*◌, ◌≤◌, length, take}
use Rattle.label.specs.Limits.{parameter_count}
use Rattle.diagram.specs.Sizes.{highest_value, result_words, space_words}
use Rattle.diagram.specs.Words.{is_listing}
use Rattle.diagram.specs.Listing.{diagram_of}
use Rattle.state.specs.State.{meaning}
use Rattle.regression.specs.Parameters.{Within, GoodTruths}
use Rattle.mdp.specs.Model.{GoodAction}
use Rattle.model.specs.Inner.{LaidVariant, LaidAction}
use Rattle.model.specs.Layout.{variant_words, action_words, variant_at, action_at, reward_words}
use Rattle.model.specs.declared.Head.{Head}

-- the variant at a place of the table, and a value listing
pub record VariantTask (ar listings table : List ℕ) (place : ℕ) (value out work : List ℕ) : Type 0 where
  pub laid : LaidVariant ar listings table place
  pub inside : place + variant_words ≤ length table
  pub truths : GoodTruths ar (variant_at listings table place).truths
  pub value-listing : is_listing ar value ≡ true
  pub out-room : result_words ≤ length out
  pub work-room : space_words ≤ length work

-- the weight of the variant at a place of the table, and the value of a leaf
pub record WeightTask (ar listings table : List ℕ) (place g : ℕ) (out work : List ℕ) : Type 0 where
  pub laid : LaidVariant ar listings table place
  pub inside : place + variant_words ≤ length table
  pub few : g ≤ highest_value
  pub out-room : result_words ≤ length out
  pub work-room : space_words ≤ length work

-- a listing without parameters past the count
pub record FreeUp (ar words : List ℕ) (c : ℕ) (out : List ℕ) : Type 0 where
  pub listing : is_listing ar words ≡ true
  pub few : c ≤ parameter_count
  pub within : Within c (meaning ar (diagram_of words))
  pub out-room : result_words ≤ length out

-- a value listing without parameters
pub record ValueTask (ar value : List ℕ) (g : ℕ) (out work : List ℕ) : Type 0 where
  pub value-listing : is_listing ar value ≡ true
  pub within : Within 0 (meaning ar (diagram_of value))
  pub few : g ≤ highest_value
  pub out-room : result_words ≤ length out
  pub work-room : space_words ≤ length work

-- the action a of the table
pub record ActionTask (ar listings table : List ℕ) (a : ℕ) : Type 0 where
  pub laid : LaidAction ar listings table a
  pub good : GoodAction ar (action_at listings table a)
  pub inside : a * action_words + action_words ≤ length table

-- the reward's listing, and the value of a leaf
pub record RewardTask (ar listings : List ℕ) (h : Head) (v : ℕ) (out work : List ℕ) : Type 0 where
  pub inside : h.reward_start + h.reward_words ≤ length listings
  pub reward : is_listing ar (reward_words listings h) ≡ true
  pub few : v ≤ highest_value
  pub out-room : result_words ≤ length out
  pub work-room : space_words ≤ length work

-- the first rows of the value's buffer are a listing without parameters
pub record Standing (ar value : List ℕ) (rows : ℕ) (work : List ℕ) : Type 0 where
  pub listing : is_listing ar (take (rows * 3) value) ≡ true
  pub within : Within 0 (meaning ar (diagram_of (take (rows * 3) value)))
  pub inside : rows * 3 ≤ length value
  pub value_room : result_words ≤ length value
  pub work-room : space_words ≤ length work
