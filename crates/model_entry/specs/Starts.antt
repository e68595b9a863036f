-- Where the listings of a model begin in its words, and where behind one line more (document 01, section 'Text'): what a session does not tell of them.
use Rattle.std.specs.Prelude.{Bool, true, not, ◌&&◌, cond, List, ℕ, ◌*◌, length, get_or, leb, ltb}
use Rattle.diagram.specs.Diagram.{leaf}
use Rattle.regression.specs.Regression.{Truths}
use Rattle.mdp.specs.Model.{Variant, Action}
use Rattle.model.specs.declared.Head.{Head}
use Rattle.model.specs.Layout.{variant_place}
use Rattle.session.specs.Session.{Session}
use Rattle.session.specs.ModelLines.{is_some}
use Rattle.model_entry.specs.Building.{new_action, new_variant, truth_place}

-- the listings of a model: its reward, the weight of the variant v of the action a, and in it the truth diagram of the predicate p
pub data Slot : Type 0 where
  reward : Slot
  weight : (a v : ℕ) → Slot
  truth : (a v p : ℕ) → Slot

-- the variants of the action a, the truth diagrams of the variant v
abbrev pub variants_in : List Action → ℕ → List Variant
variants_in l a = (get_or l a (new_action 0)).variants

abbrev pub truths_at : List Variant → ℕ → Truths
truths_at l v = (get_or l v (new_variant (leaf 0))).truths

-- whether the session has one; equality, the predicate 0, has no truth diagram
unfoldable pub has_listing : Session → Slot → Bool
has_listing σ reward = σ.singles.reward
has_listing σ (weight a v) = ltb v (length (variants_in σ.model.actions a))
has_listing σ (truth a v p) = leb 1 p && is_some (truths_at (variants_in σ.model.actions a) v p)

-- whether there is a word that says where it begins: for the reward without one too
unfoldable pub has_start : Session → Slot → Bool
unfolding has_listing
has_start σ reward = true
has_start σ (weight a v) = has_listing σ (weight a v)
has_start σ (truth a v p) = has_listing σ (truth a v p)

-- the word at which each begins
abbrev pub SlotStarts : Type 0
SlotStarts = Slot → ℕ

abbrev pub starts_in : List ℕ → Head → SlotStarts
starts_in table h reward = h.reward_start
starts_in table h (weight a v) = get_or table (variant_place a v) 0
starts_in table h (truth a v p) = get_or table (truth_place (variant_place a v) p) 0

-- behind a line that leads from σ to σ': a new one begins behind the rows of all others, three words each; the others stay where they are
unfoldable pub starts_behind : Session → Session → SlotStarts → SlotStarts
unfolding has_listing
starts_behind σ σ' at s = cond (has_listing σ' s && not (has_listing σ s)) (σ.rows * 3) (at s)
