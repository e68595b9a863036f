-- What the function of a line of the state needs, and what it promises whatever stands in the words that it is not lent
-- (document 01, sections 'Text' and 'States and value').
use Rattle.std.specs.Prelude.{List, ℕ, ◌≤◌, length}
use Rattle.text.specs.declared.Kind.TheVariants.{Objects, Is, True}
use Rattle.events.specs.Events.{first_word}
use Rattle.declare.specs.Tables.{GoodNames, GoodVocabulary}
use Rattle.facts.specs.Inner.{most_bytes, FactIndex}
use Rattle.facts.specs.Words.{GoodLive}
use Rattle.memory.specs.declared.Numbers.{Numbers}
use Rattle.memory.specs.declared.Said.{Said}
use Rattle.memory.specs.Inner.{Ready, Answers}
use Rattle.memory.specs.Memory.{memory_of}

-- ===== (objects n) =====

pub record ForObjects (s : List ℕ) (n : Numbers) (arities state : List ℕ) : Type 0 where
  pub begins : first_word Objects ≤ length s
  pub live : GoodLive state n.live
  pub indexed : FactIndex arities state n.live

pub record ObjectsSays (s : List ℕ) (number : ℕ) (n : Numbers) (arities state : List ℕ) (r : Said) (state' : List ℕ) : Type 0 where
  pub says : (names listings table value : List ℕ) → Ready Objects s n (memory_of names arities listings table state value)
      → Answers Objects s number n (memory_of names arities listings table state value) r (memory_of names arities listings table state' value)

-- ===== (is c o) =====

pub record ForIs (s : List ℕ) (n : Numbers) (names state : List ℕ) : Type 0 where
  pub begins : first_word Is ≤ length s
  pub good : GoodNames names n.counts
  pub live : GoodLive state n.live

pub record IsSays (s : List ℕ) (number : ℕ) (n : Numbers) (names state : List ℕ) (r : Said) (state' : List ℕ) : Type 0 where
  pub says : (arities listings table value : List ℕ) → Ready Is s n (memory_of names arities listings table state value)
      → Answers Is s number n (memory_of names arities listings table state value) r (memory_of names arities listings table state' value)

-- ===== (true p o ..) =====

pub record ForTrue (s : List ℕ) (n : Numbers) (names arities state : List ℕ) : Type 0 where
  pub begins : first_word True ≤ length s
  pub ends : length s ≤ most_bytes
  pub good : GoodVocabulary names arities n.counts
  pub live : GoodLive state n.live
  pub indexed : FactIndex arities state n.live
  pub some : 1 ≤ n.live.objects

pub record TrueSays (s : List ℕ) (number : ℕ) (n : Numbers) (names arities state : List ℕ) (r : Said) (state' : List ℕ) : Type 0 where
  pub says : (listings table value : List ℕ) → Ready True s n (memory_of names arities listings table state value)
      → Answers True s number n (memory_of names arities listings table state value) r (memory_of names arities listings table state' value)
