-- What the functions of (best), (count n) and (did ..) require of the lent words; and what they promise, whatever the words are that are not lent (document 02, L9,
-- L10 and L11).
use Rattle.std.specs.Prelude.{◌≡◌, true, List, ℕ, ◌+◌, ◌*◌, ◌≤◌, ◌<◌, length, take}
use Rattle.label.specs.Limits.{constant_count, predicate_count}
use Rattle.diagram.specs.Sizes.{highest_value}
use Rattle.diagram.specs.Words.{is_listing}
use Rattle.state.specs.Lent.{fact_words, is_state}
use Rattle.text.specs.declared.Kind.TheVariants.{Best, Count, Did}
use Rattle.events.specs.Events.{first_word}
use Rattle.session.specs.Replies.{done, words_of}
use Rattle.declare.specs.declared.Counts.{Counts}
use Rattle.declare.specs.Tables.{GoodNames}
use Rattle.facts.specs.Inner.{most_bytes, FactIndex}
use Rattle.facts.specs.Words.{facts_base, index_base, index_words, part, GoodLive}
use Rattle.model.specs.declared.Head.{Head}
use Rattle.model.specs.Inner.{Laid}
use Rattle.model_entry.specs.Building.{variants_before}
use Rattle.best_move.specs.Chosen.{BestTask}
use Rattle.memory.specs.declared.Numbers.{Numbers}
use Rattle.memory.specs.declared.Said.{Said}
use Rattle.memory.specs.Inner.{Ready, Answers, Shown}
use Rattle.memory.specs.Memory.{memory_of, session_of, work_words}

-- ===== What they require =====

-- the names declared, of which one is an action's, a state, and what a move is chosen from
pub record MoveTask (n : Numbers) (names arities listings table state value work : List ℕ) : Type 0 where
  pub named : GoodNames names n.counts
  pub actions : n.counts.actions ≡ n.head.actions
  pub some : 0 < n.head.actions
  pub live : GoodLive state n.live
  pub rows : n.held.rows * 3 ≤ length value
  pub task :
      BestTask arities listings table n.head n.live.objects (take constant_count state) (part state facts_base (n.live.facts * fact_words))
      (part state index_base index_words) (take (n.held.rows * 3) value) work

-- a line, the names declared, a state, a value's listing, and working space
pub record CountTask (s : List ℕ) (n : Numbers) (arities state value work : List ℕ) : Type 0 where
  pub begins : first_word Count ≤ length s
  pub predicates : n.counts.predicates < predicate_count
  pub live : GoodLive state n.live
  pub rows : n.held.rows * 3 ≤ length value
  pub listing : is_listing arities (take (n.held.rows * 3) value) ≡ true
  pub room : work_words ≤ length work

-- names and model agree: as many actions, and as many variants in all
pub record Agreed (table : List ℕ) (n : Counts) (h : Head) : Type 0 where
  pub actions : n.actions ≡ h.actions
  pub variants : n.earlier + n.variants ≡ variants_before table h.actions

-- the names declared, their model, a state in hand, and its count and total
pub record LogTask (n : Numbers) (names arities listings table state : List ℕ) : Type 0 where
  pub named : GoodNames names n.counts
  pub agreed : Agreed table n.counts n.head
  pub laid : Laid arities listings table n.head
  pub live : GoodLive state n.live
  pub indexed : FactIndex arities state n.live
  pub lent : is_state arities n.live.objects (take constant_count state) (part state facts_base (n.live.facts * fact_words)) ≡ true
  pub count : n.live.count ≤ highest_value
  pub total : n.live.total ≤ highest_value

-- a line, and what it moves
pub record DidTask (s : List ℕ) (n : Numbers) (names arities listings table state : List ℕ) : Type 0 where
  pub begins : first_word Did ≤ length s
  pub ends : length s ≤ most_bytes
  pub log : LogTask n names arities listings table state

-- ===== What they promise =====

pub record BestAnswered (number : ℕ) (n : Numbers) (names arities listings table state value : List ℕ) (r : Said) : Type 0 where
  pub says : (s : List ℕ) → Ready Best s n (memory_of names arities listings table state value)
      → Answers Best s number n (memory_of names arities listings table state value) r (memory_of names arities listings table state value)

-- the answer, and the words that it shows in front of the working space
pub record CountAnswered (s : List ℕ) (number : ℕ) (n : Numbers) (arities state value : List ℕ) (r : Said) (work' : List ℕ) : Type 0 where
  pub says : (names listings table : List ℕ) → Ready Count s n (memory_of names arities listings table state value)
      → Answers Count s number n (memory_of names arities listings table state value) r (memory_of names arities listings table state value)
  pub shows : (names listings table : List ℕ) → Ready Count s n (memory_of names arities listings table state value)
      → Shown (done (session_of n (memory_of names arities listings table state value)) number Count (words_of Count s)) work'

pub record DidAnswered (s : List ℕ) (number : ℕ) (n : Numbers) (names arities listings table state : List ℕ) (r : Said) (state' : List ℕ) : Type 0 where
  pub says : (value : List ℕ) → Ready Did s n (memory_of names arities listings table state value)
      → Answers Did s number n (memory_of names arities listings table state value) r (memory_of names arities listings table state' value)
