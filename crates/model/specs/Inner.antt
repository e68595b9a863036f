-- What contracts of inner functions and proofs cite. Nothing here has to be believed.
use Rattle.std.specs.Prelude.{◌≡◌, true, List, ℕ, ◌+◌, ◌-◌, ◌≤◌, ◌<◌, length, get_or}
use Rattle.label.specs.Limits.{predicate_count}
use Rattle.diagram.specs.Words.{is_listing}
use Rattle.regression.specs.RegressCall.{are_listings}
use Rattle.mdp.specs.Model.{GoodModel, most_actions, most_variants}
use Rattle.model.specs.declared.Head.{Head}
use Rattle.model.specs.Layout.{table_words, variant_place, weight_words, spans_at, variants_of, reward_words, model_of}

-- ===== What code on a model in words needs of the words =====

-- the variant at the place i: its weight and truth diagrams are listings, within the words
pub record LaidVariant (ar listings table : List ℕ) (i : ℕ) : Type 0 where
  pub inside : get_or table i 0 + get_or table (i + 1) 0 ≤ length listings
  pub weight : is_listing ar (weight_words listings table i) ≡ true
  pub truths : are_listings ar listings (spans_at table i) 1 (predicate_count - 1) ≡ true

pub record LaidAction (ar listings table : List ℕ) (a : ℕ) : Type 0 where
  pub few : variants_of table a ≤ most_variants
  pub variants : (v : ℕ) → v < variants_of table a → LaidVariant ar listings table (variant_place a v)

-- a model laid out in words, as reading leaves it
pub record Laid (ar listings table : List ℕ) (h : Head) : Type 0 where
  pub room : table_words ≤ length table
  pub few : h.actions ≤ most_actions
  pub inside : h.reward_start + h.reward_words ≤ length listings
  pub reward : is_listing ar (reward_words listings h) ≡ true
  pub actions : (a : ℕ) → a < h.actions → LaidAction ar listings table a
  pub good : GoodModel (model_of ar listings table h)
