-- The session that numbers and lent words stand for, what is kept of them from line to line, and what a line's function promises.
use Rattle.std.specs.Prelude.{◌≡◌, true, false, not, List, ℕ, ◌*◌, ◌/◌, ◌^◌, ◌≤◌, length, take, eqb}
use Rattle.label.specs.Limits.{predicate_count}
use Rattle.diagram.specs.Sizes.{result_words, space_words}
use Rattle.diagram.specs.Words.{is_listing}
use Rattle.mdp.specs.Model.{scale}
use Rattle.mdp.specs.Backup.{most_steps}
use Rattle.names.specs.Layout.{name_words}
use Rattle.session.specs.declared.Part.TheVariants.{Model, Run}
use Rattle.session.specs.Session.{Session, default_total, default_numerator, default_denominator}
use Rattle.session.specs.Good.{GoodSession}
use Rattle.declare.specs.Tables.{names_of, GoodVocabulary}
use Rattle.facts.specs.Words.{state_words, live_of, GoodLive}
use Rattle.model.specs.Layout.{listing_words, table_words, model_of}
use Rattle.model_entry.specs.Building.{Building}
use Rattle.model_entry.specs.Starts.{SlotStarts, starts_in}
use Rattle.planner.specs.Run.{held_in}
use Rattle.memory.specs.declared.Numbers.{Numbers}

-- the lent words: keys of names, the arity list, the model's listings and the table of where they stand, the state, the value's listing
pub record Memory : Type 0 where
  pub names : List ℕ
  pub arities : List ℕ
  pub listings : List ℕ
  pub table : List ℕ
  pub state : List ℕ
  pub value : List ℕ

abbrev pub memory_of : List ℕ → List ℕ → List ℕ → List ℕ → List ℕ → List ℕ → Memory
memory_of names arities listings table state value = record {
  names = names;
  arities = arities;
  listings = listings;
  table = table;
  state = state;
  value = value;
}

-- the session that they are, the numbers n beside them
unfoldable pub session_of : Numbers → Memory → Session
unfolding names_of model_of live_of
session_of n w = record {
  part = n.part;
  names = names_of w.names n.counts;
  singles = record { total = n.total; discount = n.discount; reward = n.reward };
  model = model_of w.arities w.listings w.table n.head;
  rows = n.head.words / 3;
  live = live_of w.state n.live;
  held = held_in n.held w.value;
}

-- where the listings of its model begin
abbrev pub starts_of : Numbers → Memory → SlotStarts
starts_of n w = starts_in w.table n.head

-- the reward, the value's listing, k and S^k once the run has begun
pub record Holding (n : Numbers) (w : Memory) : Type 0 where
  pub reward : n.head.reward_words ≡ 0 → ⊥
  pub listing : is_listing w.arities (take (n.held.rows * 3) w.value) ≡ true
  pub steps : n.held.steps ≤ most_steps
  pub power : n.held.power ≡ scale (model_of w.arities w.listings w.table n.head) ^ n.held.steps

-- every table has its room, and what counts of it lies within
pub record Stored (n : Numbers) (w : Memory) : Type 0 where
  pub vocabulary : GoodVocabulary w.names w.arities n.counts
  pub building : Building w.listings w.table n.head
  pub listing-room : listing_words ≤ length w.listings
  pub whole : n.head.words / 3 * 3 ≡ n.head.words
  pub reward : n.reward ≡ not (eqb n.head.reward_words 0)
  pub live : GoodLive w.state n.live
  pub value_room : result_words ≤ length w.value
  pub value-rows : n.held.rows * 3 ≤ length w.value
  pub holding : n.part ≡ Run → Holding n w

-- numbers and words that are a session's; the index of its facts may be anything
pub record IsSession (n : Numbers) (w : Memory) : Type 0 where
  pub stored : Stored n w
  pub good : GoodSession (session_of n w)

-- working space of a session: the rows that a call forms, or two words for each parameter of a line
abbrev pub work_words : ℕ
work_words = space_words

-- room for a session
pub record Rooms (w : Memory) : Type 0 where
  pub names : name_words ≤ length w.names
  pub arities : length w.arities ≡ predicate_count
  pub listings : listing_words ≤ length w.listings
  pub table : table_words ≤ length w.table
  pub state : state_words ≤ length w.state
  pub value : result_words ≤ length w.value

-- before the first line
abbrev pub opening_numbers : Numbers
opening_numbers = record {
  part = Model;
  total = false;
  discount = false;
  reward = false;
  counts = record { constants = 0; predicates = 0; actions = 0; parameters = 0; variants = 0; earlier = 0 };
  head = record {
    total = default_total;
    numerator = default_numerator;
    denominator = default_denominator;
    reward_start = 0;
    reward_words = 0;
    actions = 0;
    words = 0;
  };
  live = record { objects = 0; facts = 0; count = 0; total = 0 };
  held = record { rows = 0; steps = 0; power = 1 };
}
