-- Laws of a session's words.
use Rattle.std.specs.Prelude.{◌≡◌, true, not, List, ℕ, eqb}
use Rattle.std.proofs.Common.{ap, ◌∙◌}
use Rattle.basics.specs.Members.{clash}
use Rattle.facts.specs.declared.Live.{Live}
use Rattle.facts.specs.Words.{GoodLive}
use Rattle.memory.specs.declared.Numbers.{Numbers}
use Rattle.memory.specs.Inner.{with_state}
use Rattle.memory.specs.Memory.{Memory, memory_of, Stored}

-- a reward that was accepted has words
pub stored-reward : {n : Numbers} {w : Memory} → Stored n w → n.reward ≡ true → n.head.reward_words ≡ 0 → ⊥
stored-reward {n} g e z = clash e (g.reward ∙ ap (λ (x : ℕ). not (eqb x 0)) z)

-- words that have their room still have it, with another state
pub stored-state : {n : Numbers} {names ar ls tb st v : List ℕ} (st' : List ℕ) (l : Live)
    → Stored n (memory_of names ar ls tb st v) → GoodLive st' l → Stored (with_state n l) (memory_of names ar ls tb st' v)
stored-state st' l g h = record {
  vocabulary = g.vocabulary;
  building = g.building;
  listing-room = g.listing-room;
  whole = g.whole;
  reward = g.reward;
  live = h;
  value_room = g.value_room;
  value-rows = g.value-rows;
  holding = λ e. record { reward = (g.holding e).reward; listing = (g.holding e).listing; steps = (g.holding e).steps; power = (g.holding e).power };
}
