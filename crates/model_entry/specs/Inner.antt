-- What contracts of inner functions and proofs cite. Nothing here has to be believed.
use Rattle.std.specs.Prelude.{◌≡◌, List, ℕ, ◌+◌, ◌≤◌, ◌<◌, length, get_or}
use Rattle.label.specs.Limits.{predicate_count}
use Rattle.diagram.specs.Diagram.{Diagram}
use Rattle.mdp.specs.Model.{Action, Model, most_actions, most_variants}
use Rattle.model.specs.declared.Head.{Head}
use Rattle.model.specs.Layout.{table_words, variant_place, variants_of}
use Rattle.model_entry.specs.Building.{truth_place}
use Rattle.model_entry.specs.Starts.{Slot, starts_in, reward, weight, truth}

-- the model that a head's numbers, a reward and actions are
abbrev pub model_with : List ℕ → Head → Diagram → List Action → Model
model_with ar h d l = record {
  arities = ar;
  total = h.total;
  numerator = h.numerator;
  denominator = h.denominator;
  reward = d;
  actions = l;
}

-- ===== Words in use: the listings' first words, as many as the head says =====

-- the first a actions in the table have few variants each
pub record FewVariants (table : List ℕ) (a : ℕ) : Type 0 where
  pub room : table_words ≤ length table
  pub few : a ≤ most_actions
  pub each : (i : ℕ) → i < a → variants_of table i ≤ most_variants

-- ===== In words: what the functions of lines promise =====

-- the words have a listing for the slot
abbrev pub HasListing : List ℕ → Head → Slot → Type 0
HasListing table h reward = h.reward_words ≡ 0 → ⊥
HasListing table h (weight a v) = (a < h.actions) × (v < variants_of table a)
HasListing table h (truth a v p) =
    (0 < p) × (p < predicate_count) × (a < h.actions) × (v < variants_of table a) × (get_or table (truth_place (variant_place a v) p + 1) 0 ≡ 0 → ⊥)

-- a new listing begins behind the words in use, the others stay; without a reward its number stays too
pub record KeepsStarts (table : List ℕ) (h : Head) (table' : List ℕ) (h' : Head) : Type 0 where
  pub stays : (s : Slot) → HasListing table h s → starts_in table' h' s ≡ starts_in table h s
  pub new : (s : Slot) → HasListing table' h' s → (HasListing table h s → ⊥) → starts_in table' h' s ≡ h.words
  pub none : h'.reward_words ≡ 0 → h'.reward_start ≡ h.reward_start
