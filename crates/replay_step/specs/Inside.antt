-- What the parts of the code require and answer. Nobody must believe these: Stepped has what the call promises.
use Rattle.std.specs.Prelude.{◌≡◌, true, ◌||◌, cond, List, [], ℕ, suc, ◌+◌, ◌*◌, ◌≤◌, length, get_or, take, eqb, ltb}
use Rattle.refusal.specs.declared.Refusal.TheVariants.{Crowded, Tally}
use Rattle.diagram.specs.Sizes.{highest_value}
use Rattle.diagram.specs.Words.{is_listing}
use Rattle.diagram.specs.Listing.{diagram_of}
use Rattle.diagram.specs.Variables.{is_plain}
use Rattle.state.specs.Lent.{fact_words, fact_count, is_state, all_below, most_facts}
use Rattle.fact_index.specs.Inner.{indexed_count, Indexed}
use Rattle.model.specs.Layout.{variant_words, weight_words}
use Rattle.valuing.specs.Walks.{bound_answer, is_few}
use Rattle.refusal.specs.declared.Refusal.{Refusal}
use Rattle.std.specs.Prelude.{Err, Ok, Result}

-- a weight's listing, which has no variable of either kind, a state with the index of its facts, and objects for the parameters
pub record Weighing (ar ws : List ℕ) (n : ℕ) (constants facts index os : List ℕ) : Type 0 where
  pub listed : is_listing ar ws ≡ true
  pub lent : is_state ar n constants facts ≡ true
  pub indexed : Indexed ar facts index (indexed_count facts index)
  pub objects : all_below n os ≡ true
  pub few : is_few ar n ws ≡ true
  pub plain : is_plain ar (diagram_of ws) ≡ true

-- the weight of the variant at a place of the table
pub record WeighingAt (ar listings table : List ℕ) (place n : ℕ) (constants facts index os : List ℕ) : Type 0 where
  pub room : place + variant_words ≤ length table
  pub inside : get_or table place 0 + get_or table (place + 1) 0 ≤ length listings
  pub weighing : Weighing ar (weight_words listings table place) n constants facts index os

-- the reward's listing, a state with the index of its facts, and the next one
pub record Rewarding (ar ws : List ℕ) (n : ℕ) (constants facts index next : List ℕ) : Type 0 where
  pub listed : is_listing ar ws ≡ true
  pub lent : is_state ar n constants facts ≡ true
  pub indexed : Indexed ar facts index (indexed_count facts index)
  pub lent-next : is_state ar n constants next ≡ true

-- the reward before the move, on the first line
unfoldable pub reward_before : List ℕ → List ℕ → ℕ → List ℕ → List ℕ → ℕ → Result ℕ Refusal
unfolding bound_answer
reward_before ar ws n constants facts count = cond (eqb count 0) (bound_answer ar ws n constants facts []) (Ok 0)

-- two answers added: the first refusal met
abbrev pub added_to : ℕ → Result ℕ Refusal → Result ℕ Refusal
added_to x (Ok y) = Ok (x + y)
added_to x (Err e) = Err e

abbrev pub both_added : Result ℕ Refusal → Result ℕ Refusal → Result ℕ Refusal
both_added (Ok x) v = added_to x v
both_added (Err e) v = Err e

-- the rewards met
unfoldable pub rewards_met : List ℕ → List ℕ → ℕ → List ℕ → List ℕ → List ℕ → ℕ → Result ℕ Refusal
unfolding reward_before bound_answer
rewards_met ar ws n constants facts next count = both_added (reward_before ar ws n constants facts count) (bound_answer ar ws n constants next [])

-- a value is no higher than a leaf may be
pub record Low (most : ℕ) (r : Result ℕ Refusal) : Type 0 where
  pub few : (v : ℕ) → r ≡ Ok v → v ≤ most

-- 23, or the line counted
unfoldable pub tallied_as : ℕ → ℕ → ℕ → ℕ → Result (ℕ × ℕ × ℕ) Refusal
tallied_as f count total met = cond (ltb highest_value (suc count) || ltb highest_value (total + met)) (Err Tally) (Ok (f, (suc count), (total + met)))

-- the same by what the rewards came to
abbrev pub told_as : ℕ → ℕ → ℕ → Result ℕ Refusal → Result (ℕ × ℕ × ℕ) Refusal
told_as f count total (Ok met) = tallied_as f count total met
told_as f count total (Err e) = Err e

-- 22, or what the rewards came to: F are the facts of the next state
unfoldable pub moved_as : List ℕ → List ℕ → ℕ → List ℕ → List ℕ → List ℕ → ℕ → ℕ → Result (ℕ × ℕ × ℕ) Refusal
unfolding tallied_as rewards_met
moved_as ar ws n constants facts F count total =
    cond (ltb most_facts (fact_count F)) (Err Crowded) (told_as (fact_count F) count total (rewards_met ar ws n constants facts F count))

-- the answer; the first f rows written are the facts of the next state, where the line is counted
pub record Moves (ar ws : List ℕ) (n : ℕ) (constants facts F : List ℕ) (count total : ℕ) (r : Result (ℕ × ℕ × ℕ) Refusal) (out : List ℕ) : Type 0 where
  pub answer : r ≡ moved_as ar ws n constants facts F count total
  pub written : (f c t : ℕ) → r ≡ Ok (f, c, t) → take (f * fact_words) out ≡ F
  pub few : (f c t : ℕ) → r ≡ Ok (f, c, t) → f ≤ most_facts
  pub room : most_facts * fact_words ≤ length out
