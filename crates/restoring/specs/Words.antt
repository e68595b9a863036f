-- The words of a session that are in use: numbers and tables agree in them. All others are working space: what a table has behind its counts, where a truth diagram
-- would begin that is not there, the key and the two words of equality, listings' words that are part of none, the value before the run, and the index of facts.
use Rattle.std.specs.Prelude.{◌≡◌, true, List, ℕ, ◌+◌, ◌*◌, ◌<◌, get_or, take}
use Rattle.label.specs.Limits.{predicate_count}
use Rattle.state.specs.Lent.{fact_words}
use Rattle.names.specs.Layout.{constants_at, declared_at, actions_at, parameters_at, variants_at}
use Rattle.session.specs.declared.Part.TheVariants.{Run}
use Rattle.facts.specs.Words.{facts_base}
use Rattle.model.specs.Layout.{part, action_words, variant_place, weight_words, variants_of, reward_words}
use Rattle.model_entry.specs.Building.{truth_place}
use Rattle.model_entry.specs.Starts.{Slot, reward, weight, truth, has_listing}
use Rattle.memory.specs.declared.Numbers.{Numbers}
use Rattle.memory.specs.Memory.{Memory, session_of, starts_of}

-- a listing of the model: how many words it has, and which
abbrev pub count_at : Numbers → Memory → Slot → ℕ
count_at n w reward = n.head.reward_words
count_at n w (weight a v) = get_or w.table (variant_place a v + 1) 0
count_at n w (truth a v p) = get_or w.table (truth_place (variant_place a v) p + 1) 0

abbrev pub listing_at : Numbers → Memory → Slot → List ℕ
listing_at n w reward = reward_words w.listings n.head
listing_at n w (weight a v) = weight_words w.listings w.table (variant_place a v)
listing_at n w (truth a v p) = weight_words w.listings w.table (truth_place (variant_place a v) p)

pub record SameWords (n : Numbers) (w : Memory) (n' : Numbers) (w' : Memory) : Type 0 where
  pub numbers : n ≡ n'
  -- names
  pub constants : part w.names constants_at (n.counts.constants * 2) ≡ part w'.names constants_at (n.counts.constants * 2)
  pub predicates : part w.names declared_at (n.counts.predicates * 2) ≡ part w'.names declared_at (n.counts.predicates * 2)
  pub actions : part w.names actions_at (n.counts.actions * 2) ≡ part w'.names actions_at (n.counts.actions * 2)
  pub parameters : part w.names parameters_at (n.counts.parameters * 2) ≡ part w'.names parameters_at (n.counts.parameters * 2)
  pub variants :
      part w.names variants_at ((n.counts.earlier + n.counts.variants) * 2) ≡ part w'.names variants_at ((n.counts.earlier + n.counts.variants) * 2)
  pub arities : w.arities ≡ w'.arities
  -- the model: parameters and variants of each action, whether each truth diagram is there, and the listings
  pub heads : (a : ℕ) → a < n.head.actions → part w.table (a * action_words) 2 ≡ part w'.table (a * action_words) 2
  pub counts : (a v : ℕ) → a < n.head.actions → v < variants_of w.table a → (p : ℕ) → 0 < p → p < predicate_count
      → count_at n w (truth a v p) ≡ count_at n' w' (truth a v p)
  pub starts : (s : Slot) → has_listing (session_of n w) s ≡ true → starts_of n w s ≡ starts_of n' w' s
  pub lengths : (s : Slot) → has_listing (session_of n w) s ≡ true → count_at n w s ≡ count_at n' w' s
  pub listings : (s : Slot) → has_listing (session_of n w) s ≡ true → listing_at n w s ≡ listing_at n' w' s
  -- the state, and the value
  pub constants-objects : take facts_base w.state ≡ take facts_base w'.state
  pub facts : part w.state facts_base (n.live.facts * fact_words) ≡ part w'.state facts_base (n.live.facts * fact_words)
  pub value : n.part ≡ Run → take (n.held.rows * 3) w.value ≡ take (n.held.rows * 3) w'.value
