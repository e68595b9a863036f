-- Whether a line stands where it may, told from a session's numbers and lent words (document 01, section 'Text': 5, behind 1).
use Rattle.std.specs.Prelude.{◌≡◌, Bool, List, ℕ, ◌≤◌, length}
use Rattle.label.specs.Limits.{constant_count}
use Rattle.refusal.specs.Outcome.{Outcome, ok, refused}
use Rattle.mdp.specs.Model.{most_actions}
use Rattle.session.specs.declared.Rule.{Rule}
use Rattle.session.specs.Replies.{each_varied, is_whole, is_placed, allowed}
use Rattle.facts.specs.Words.{state_words}
use Rattle.names.specs.Many.{many}
use Rattle.model.specs.Layout.{table_words, action_at}
use Rattle.memory.specs.declared.Numbers.{Numbers}
use Rattle.memory.specs.Memory.{memory_of, session_of}
use Rattle.refusal.specs.declared.Refusal.{Refusal}
use Rattle.std.specs.Prelude.{Err, Ok, Result}

abbrev pub placed_as : Outcome (Unit {0}) → Result (Unit {0}) Refusal
placed_as (ok u) = Ok tt
placed_as (refused r) = Err r

-- table and state have their room, and what counts of them lies within
pub record Counted (n : Numbers) (table state : List ℕ) : Type 0 where
  pub table-room : table_words ≤ length table
  pub actions : n.head.actions ≤ most_actions
  pub state-room : state_words ≤ length state
  pub constants : n.counts.constants ≤ constant_count

-- r: each of the first n actions of the table has a variant
pub record Varied (table : List ℕ) (n : ℕ) (r : Bool) : Type 0 where
  pub is : (listings : List ℕ) → r ≡ each_varied (many (action_at listings table) n)

-- r: the model is whole
pub record Whole (n : Numbers) (table : List ℕ) (r : Bool) : Type 0 where
  pub is : (names arities listings state value : List ℕ) → r ≡ is_whole (session_of n (memory_of names arities listings table state value))

-- r: there are objects, and every constant is placed
pub record AllPlaced (n : Numbers) (state : List ℕ) (r : Bool) : Type 0 where
  pub is : (names arities listings table value : List ℕ) → r ≡ is_placed (session_of n (memory_of names arities listings table state value))

-- r: what the rule asks for is there
pub record Placing (rule : Rule) (n : Numbers) (table state : List ℕ) (r : Result (Unit {0}) Refusal) : Type 0 where
  pub is : (names arities listings value : List ℕ) → r ≡ placed_as (allowed (session_of n (memory_of names arities listings table state value)) rule)
