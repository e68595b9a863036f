-- What the functions of (start) and of the run's lines require of the lent words; and what they promise, whatever bytes the line has and whatever the
-- words are that are not lent.
use Rattle.std.specs.Prelude.{◌≡◌, true, List, ℕ, ◌*◌, ◌≤◌, length, take}
use Rattle.label.specs.Limits.{constant_count}
use Rattle.diagram.specs.Sizes.{most_rows}
use Rattle.diagram.specs.Words.{is_listing}
use Rattle.state.specs.Lent.{fact_words, is_state}
use Rattle.text.specs.declared.Kind.TheVariants.{Start, Value, Backup, Cut, Reduce, Show, Text}
use Rattle.session.specs.declared.Part.TheVariants.{Run}
use Rattle.facts.specs.Inner.{FactIndex}
use Rattle.facts.specs.Words.{facts_base, part, GoodLive}
use Rattle.model.specs.Inner.{Laid}
use Rattle.model.specs.Layout.{model_of}
use Rattle.planner.specs.declared.RunNumbers.{RunNumbers}
use Rattle.planner.specs.Inner.{Room, Callable}
use Rattle.spelling.specs.Spelling.{Named}
use Rattle.memory.specs.declared.Numbers.{Numbers}
use Rattle.memory.specs.declared.Said.{Said}
use Rattle.memory.specs.Inner.{Ready, Answers}
use Rattle.memory.specs.Memory.{memory_of}

-- the numbers once the run holds h
abbrev pub running_with : Numbers → RunNumbers → Numbers
running_with n h = record {
  part = Run;
  total = n.total;
  discount = n.discount;
  reward = n.reward;
  counts = n.counts;
  head = n.head;
  live = n.live;
  held = h;
}

-- ===== What they require; (cut) and (reduce) require what a cut or a reduction of a run does =====

-- a model laid out, and room for its reward and for the rows formed
pub record StartTask (n : Numbers) (arities listings table value work : List ℕ) : Type 0 where
  pub laid : Laid arities listings table n.head
  pub room : Room value work

-- a state with the index of its facts, the listing of a value, and room for a number for each row
pub record ValueTask (n : Numbers) (arities state value work : List ℕ) : Type 0 where
  pub live : GoodLive state n.live
  pub indexed : FactIndex arities state n.live
  pub lent : is_state arities n.live.objects (take constant_count state) (part state facts_base (n.live.facts * fact_words)) ≡ true
  pub listing : is_listing arities (take (n.held.rows * 3) value) ≡ true
  pub rows : n.held.rows * 3 ≤ length value
  pub room : most_rows ≤ length work

-- a model laid out, what is held of its run, and room for the next value and for the rows formed
pub record BackupTask (n : Numbers) (arities listings table value work : List ℕ) : Type 0 where
  pub laid : Laid arities listings table n.head
  pub callable : Callable arities (model_of arities listings table n.head) n.held value
  pub room : Room value work

-- the names declared, and the listing of a value
pub record TextTask (n : Numbers) (names arities value : List ℕ) : Type 0 where
  pub named : Named names n.counts.constants n.counts.predicates
  pub listing : is_listing arities (take (n.held.rows * 3) value) ≡ true
  pub rows : n.held.rows * 3 ≤ length value

-- ===== What they promise =====

pub record StartAnswered (number : ℕ) (n : Numbers) (arities listings table value : List ℕ) (r : Said) (value' : List ℕ) : Type 0 where
  pub says : (s names state : List ℕ) → Ready Start s n (memory_of names arities listings table state value)
      → Answers Start s number n (memory_of names arities listings table state value) r (memory_of names arities listings table state value')

pub record ValueAnswered (number : ℕ) (n : Numbers) (arities state value : List ℕ) (r : Said) : Type 0 where
  pub says : (s names listings table : List ℕ) → Ready Value s n (memory_of names arities listings table state value)
      → Answers Value s number n (memory_of names arities listings table state value) r (memory_of names arities listings table state value)

pub record BackupAnswered (number : ℕ) (n : Numbers) (arities listings table value : List ℕ) (r : Said) (value' : List ℕ) : Type 0 where
  pub says : (s names state : List ℕ) → Ready Backup s n (memory_of names arities listings table state value)
      → Answers Backup s number n (memory_of names arities listings table state value) r (memory_of names arities listings table state value')

pub record CutAnswered (number : ℕ) (n : Numbers) (arities value : List ℕ) (r : Said) (value' : List ℕ) : Type 0 where
  pub says : (s names listings table state : List ℕ) → Ready Cut s n (memory_of names arities listings table state value)
      → Answers Cut s number n (memory_of names arities listings table state value) r (memory_of names arities listings table state value')

pub record ReduceAnswered (number : ℕ) (n : Numbers) (arities value : List ℕ) (r : Said) (value' : List ℕ) : Type 0 where
  pub says : (s names listings table state : List ℕ) → Ready Reduce s n (memory_of names arities listings table state value)
      → Answers Reduce s number n (memory_of names arities listings table state value) r (memory_of names arities listings table state value')

pub record ShowAnswered (n : Numbers) (r : Said) : Type 0 where
  pub says : (s : List ℕ) (number : ℕ) (names arities listings table state value : List ℕ) → Ready Show s n (memory_of names arities listings table state value)
      → Answers Show s number n (memory_of names arities listings table state value) r (memory_of names arities listings table state value)

pub record TextAnswered (number : ℕ) (n : Numbers) (names arities value : List ℕ) (r : Said) : Type 0 where
  pub says : (s listings table state : List ℕ) → Ready Text s n (memory_of names arities listings table state value)
      → Answers Text s number n (memory_of names arities listings table state value) r (memory_of names arities listings table state value)
