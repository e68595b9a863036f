-- What the check of a model's weights requires and answers (document 01, section 'Refusals by trade word': "(start) checks .. action by action the sum of
-- weights, begun at leaf 0, each added in order with names shared, with its own 10, 11, 9, then 13"; document 02, L5: 17 just before it).
use Rattle.std.specs.Prelude.{◌≡◌, true, List, ℕ, ◌+◌, ◌*◌, ◌≤◌, ◌<◌, length}
use Rattle.label.specs.Labels.{are_arities}
use Rattle.diagram.specs.Sizes.{result_words, space_words}
use Rattle.refusal.specs.declared.Refusal.TheVariants.{Paths, Weights}
use Rattle.refusal.specs.Outcome.{Outcome, ok, refused}
use Rattle.contradict.specs.declared.Led.{Led}
use Rattle.contradict.specs.declared.Led.TheVariants.{Only, Others, Many}
use Rattle.mdp.specs.Model.{most_actions}
use Rattle.model.specs.declared.Head.{Head}
use Rattle.model.specs.Inner.{LaidVariant, LaidAction}
use Rattle.model.specs.Layout.{variant_words, action_words, table_words}
use Rattle.steps.specs.Steps.{BufferListing}
use Rattle.refusal.specs.declared.Refusal.{Refusal}
use Rattle.std.specs.Prelude.{Err, Ok, Result}

abbrev pub weighed_as : Outcome (Unit {0}) → Result (Unit {0}) Refusal
weighed_as (ok u) = (Ok tt)
weighed_as (refused r) = Err r

-- what is said of a sum by where its paths lead
abbrev pub judged_as : Led → Result (Unit {0}) Refusal
judged_as Many = Err Paths
judged_as Others = Err Weights
judged_as Only = (Ok tt)

-- ===== What the functions require =====

-- the weight of the variant at a place of the table, and a sum in the first n rows of a buffer
pub record AddTask (ar listings table : List ℕ) (place : ℕ) (sum : List ℕ) (n : ℕ) (work : List ℕ) : Type 0 where
  pub laid : LaidVariant ar listings table place
  pub inside : place + variant_words ≤ length table
  pub begins : BufferListing ar n sum
  pub sum_room : result_words ≤ length sum
  pub work-room : space_words ≤ length work

-- the action a of the table
pub record ActionTask (ar listings table : List ℕ) (a : ℕ) (work : List ℕ) : Type 0 where
  pub arities : are_arities ar ≡ true
  pub laid : LaidAction ar listings table a
  pub inside : a * action_words + action_words ≤ length table
  pub work-room : space_words ≤ length work

-- the same, and room for a sum
pub record SumTask (ar listings table : List ℕ) (a : ℕ) (out work : List ℕ) : Type 0 where
  pub action : ActionTask ar listings table a work
  pub out-room : result_words ≤ length out

-- a model's actions laid out in words, and room for the rows formed; the reward plays no part
pub record Weighable (ar listings table : List ℕ) (h : Head) (work : List ℕ) : Type 0 where
  pub arities : are_arities ar ≡ true
  pub room : table_words ≤ length table
  pub few : h.actions ≤ most_actions
  pub actions : (a : ℕ) → a < h.actions → LaidAction ar listings table a
  pub work-room : space_words ≤ length work
