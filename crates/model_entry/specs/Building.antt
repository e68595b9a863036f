-- A model in lent words while its lines are read (document 01, section 'Text').
use Rattle.std.specs.Prelude.{◌≡◌, List, [], ℕ, zero, suc, ◌+◌, ◌*◌, ◌≤◌, ◌<◌, length, get_or}
use Rattle.label.specs.Limits.{predicate_count}
use Rattle.diagram.specs.Diagram.{Diagram}
use Rattle.diagram.specs.Listing.{listing, diagram_of}
use Rattle.mdp.specs.Model.{Variant, Action, most_actions, most_variants}
use Rattle.model.specs.declared.Head.{Head}
use Rattle.model.specs.Layout.{listing_words, table_words, variant_place, weight_words, variants_of, reward_words}
use Rattle.session.specs.ModelLines.{no_truths}

-- an action of c parameters that has no variant yet
abbrev pub new_action : ℕ → Action
new_action c = record { count = c; variants = [] }

-- a variant that has no truth diagram yet
abbrev pub new_variant : Diagram → Variant
new_variant d = record { weight = d; truths = no_truths }

-- ===== Words in use: the listings' first words, as many as the head says =====

-- two words at the place i of the table, where a listing begins and how many words it has: it lies within the words in use
abbrev pub Inside : List ℕ → ℕ → ℕ → Type 0
Inside table words i = get_or table i 0 + get_or table (i + 1) 0 ≤ words

-- where the two words for the truth diagram of the predicate p stand, in the variant at the place i
abbrev pub truth_place : ℕ → ℕ → ℕ
truth_place i p = i + 2 + p * 2

pub record SpannedVariant (table : List ℕ) (words i : ℕ) : Type 0 where
  pub weight : Inside table words i
  pub truths : (p : ℕ) → p < predicate_count → Inside table words (truth_place i p)

pub record SpannedAction (table : List ℕ) (words a : ℕ) : Type 0 where
  pub few : variants_of table a ≤ most_variants
  pub variants : (v : ℕ) → v < variants_of table a → SpannedVariant table words (variant_place a v)

-- the variants of the first a actions in the table
abbrev pub variants_before : List ℕ → ℕ → ℕ
variants_before table zero = 0
variants_before table (suc a) = variants_before table a + variants_of table a

-- counts within their limits, and every listing within the words in use
pub record Spanned (table : List ℕ) (h : Head) : Type 0 where
  pub room : table_words ≤ length table
  pub few : h.actions ≤ most_actions
  pub used : h.words ≤ listing_words
  pub reward : h.reward_start + h.reward_words ≤ h.words
  pub actions : (a : ℕ) → a < h.actions → SpannedAction table h.words a

-- ===== Listings =====

-- the words are the listing of their diagram; under which arity list, the model says
abbrev pub Canonical : List ℕ → Type 0
Canonical ws = listing (diagram_of ws) ≡ ws

pub record ListedVariant (listings table : List ℕ) (i : ℕ) : Type 0 where
  pub weight : Canonical (weight_words listings table i)
  pub truths : (p : ℕ) → 0 < p → p < predicate_count → (get_or table (truth_place i p + 1) 0 ≡ 0 → ⊥) → Canonical (weight_words listings table (truth_place i p))

-- the reward, if there is one, every weight and every truth diagram are listings
pub record Listed (listings table : List ℕ) (h : Head) : Type 0 where
  pub reward : (h.reward_words ≡ 0 → ⊥) → Canonical (reward_words listings h)
  pub variants : (a v : ℕ) → a < h.actions → v < variants_of table a → ListedVariant listings table (variant_place a v)

-- a model while its lines are read
pub record Building (listings table : List ℕ) (h : Head) : Type 0 where
  pub spanned : Spanned table h
  pub listed : Listed listings table h
