-- What the function of a line that declares needs, and what it promises whatever stands in the words that it is not lent
-- (document 01, sections 'Text' and 'Refusals by trade word').
use Rattle.std.specs.Prelude.{◌≡◌, Bool, List, ℕ, ◌*◌, ◌≤◌, length, drop}
use Rattle.text.specs.declared.Kind.TheVariants.{Constant, Predicate, Total, Discount, Action}
use Rattle.events.specs.Events.{first_word}
use Rattle.events.specs.Inner.{next_at}
use Rattle.events.specs.Front.{events_of}
use Rattle.declare.specs.declared.Counts.{Counts}
use Rattle.declare.specs.Tables.{GoodNames, GoodVocabulary}
use Rattle.model.specs.declared.Head.{Head}
use Rattle.model_entry.specs.Building.{Spanned}
use Rattle.memory.specs.declared.Numbers.{Numbers}
use Rattle.memory.specs.declared.Said.{Said}
use Rattle.memory.specs.Inner.{Ready, Answers}
use Rattle.memory.specs.Memory.{memory_of}

-- ===== The numbers behind an accepted line =====

-- other names and another model
abbrev pub with_tables : Numbers → Counts → Head → Numbers
with_tables n c h = record {
  part = n.part;
  total = n.total;
  discount = n.discount;
  reward = n.reward;
  counts = c;
  head = h;
  live = n.live;
  held = n.held;
}

-- single forms accepted, and the head's numbers
abbrev pub with_weights : Numbers → Bool → Bool → ℕ → ℕ → ℕ → Numbers
with_weights n total discount w g d = record {
  part = n.part;
  total = total;
  discount = discount;
  reward = n.reward;
  counts = n.counts;
  head = record {
    total = w;
    numerator = g;
    denominator = d;
    reward_start = n.head.reward_start;
    reward_words = n.head.reward_words;
    actions = n.head.actions;
    words = n.head.words;
  };
  live = n.live;
  held = n.held;
}

-- ===== (constant n) =====

pub record ForConstant (s : List ℕ) (n : Numbers) (names : List ℕ) : Type 0 where
  pub begins : first_word Constant ≤ length s
  pub good : GoodNames names n.counts

pub record ConstantSays (s : List ℕ) (number : ℕ) (n : Numbers) (names : List ℕ) (r : Said) (names' : List ℕ) : Type 0 where
  pub says : (arities listings table state value : List ℕ) → Ready Constant s n (memory_of names arities listings table state value)
      → Answers Constant s number n (memory_of names arities listings table state value) r (memory_of names' arities listings table state value)

-- ===== (predicate n arity) =====

pub record ForPredicate (s : List ℕ) (n : Numbers) (names arities : List ℕ) : Type 0 where
  pub begins : first_word Predicate ≤ length s
  pub good : GoodVocabulary names arities n.counts

pub record PredicateSays (s : List ℕ) (number : ℕ) (n : Numbers) (names arities : List ℕ) (r : Said) (names' arities' : List ℕ) : Type 0 where
  pub says : (listings table state value : List ℕ) → Ready Predicate s n (memory_of names arities listings table state value)
      → Answers Predicate s number n (memory_of names arities listings table state value) r (memory_of names' arities' listings table state value)

-- ===== (total W) =====

pub record TotalSays (s : List ℕ) (number : ℕ) (n : Numbers) (r : Said) : Type 0 where
  pub says : (names arities listings table state value : List ℕ) → Ready Total s n (memory_of names arities listings table state value)
      → Answers Total s number n (memory_of names arities listings table state value) r (memory_of names arities listings table state value)

-- ===== (discount G D) =====

pub record DiscountSays (s : List ℕ) (number : ℕ) (n : Numbers) (r : Said) : Type 0 where
  pub says : (names arities listings table state value : List ℕ) → Ready Discount s n (memory_of names arities listings table state value)
      → Answers Discount s number n (memory_of names arities listings table state value) r (memory_of names arities listings table state value)

-- ===== (action n !p ..) =====

-- two words of working space for each parameter; the model has as many actions as there are names of actions
pub record ForAction (s : List ℕ) (n : Numbers) (names table work : List ℕ) : Type 0 where
  pub begins : first_word Action ≤ length s
  pub keys : length (events_of (drop (next_at s (first_word Action)).place s)) * 2 ≤ length work
  pub good : GoodNames names n.counts
  pub spanned : Spanned table n.head
  pub agreeing : n.head.actions ≡ n.counts.actions

pub record ActionSays (s : List ℕ) (number : ℕ) (n : Numbers) (names table : List ℕ) (r : Said) (names' table' : List ℕ) : Type 0 where
  pub says : (arities listings state value : List ℕ) → Ready Action s n (memory_of names arities listings table state value)
      → Answers Action s number n (memory_of names arities listings table state value) r (memory_of names' arities listings table' state value)
