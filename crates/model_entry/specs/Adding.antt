-- What a line adds to a model in lent words: what is asked before it, and what holds then (document 01, section 'Text').
use Rattle.std.specs.Prelude.{◌≡◌, Bool, false, List, [], ◌∷◌, ◌++◌, ℕ, ◌+◌, ◌*◌, ◌-◌, ◌≤◌, ◌<◌, length, get_or, take}
use Rattle.label.specs.Limits.{predicate_count}
use Rattle.diagram.specs.Listing.{diagram_of}
use Rattle.mdp.specs.Model.{most_actions, most_variants}
use Rattle.session.specs.Session.{rewarded, with_actions}
use Rattle.model.specs.declared.Head.{Head}
use Rattle.model.specs.Layout.{listing_words, action_words, variant_words, variant_place, variants_of, model_of}
use Rattle.session.specs.ModelLines.{add_variant, last_variant, with_truth_at, truths_now, is_some}
use Rattle.model_entry.specs.Inner.{KeepsStarts}
use Rattle.model_entry.specs.Building.{new_action, new_variant, truth_place, Spanned, Canonical, Building}

-- ===== The head afterwards =====

-- one action more
abbrev pub more_actions : Head → Head
more_actions h = record {
  total = h.total;
  numerator = h.numerator;
  denominator = h.denominator;
  reward_start = h.reward_start;
  reward_words = h.reward_words;
  actions = h.actions + 1;
  words = h.words;
}

-- the next n words are in use too, and are the reward
abbrev pub reward_head : Head → ℕ → Head
reward_head h n = record {
  total = h.total;
  numerator = h.numerator;
  denominator = h.denominator;
  reward_start = h.words;
  reward_words = n;
  actions = h.actions;
  words = h.words + n;
}

-- the next n words are in use too
abbrev pub more_words : Head → ℕ → Head
more_words h n = record {
  total = h.total;
  numerator = h.numerator;
  denominator = h.denominator;
  reward_start = h.reward_start;
  reward_words = h.reward_words;
  actions = h.actions;
  words = h.words + n;
}

-- ===== What is asked before a line adds to the model, and what holds then =====

-- one action more
pub record ActionRoom (table : List ℕ) (h : Head) : Type 0 where
  pub spanned : Spanned table h
  pub more : h.actions < most_actions

pub record ActionAdded (table : List ℕ) (h : Head) (count : ℕ) (table' : List ℕ) (h' : Head) : Type 0 where
  pub answer : h' ≡ more_actions h
  pub variants : variants_of table' h.actions ≡ 0
  pub model : (ar listings : List ℕ) → model_of ar listings table' h'
      ≡ with_actions (model_of ar listings table h) ((model_of ar listings table h).actions ++ (new_action count ∷ []))
  pub building : (listings : List ℕ) → Building listings table h → Building listings table' h'
  pub starts : KeepsStarts table h table' h'

-- the first rows of the result buffer fit behind the words in use
pub record RowsRoom (listings : List ℕ) (h : Head) (out : List ℕ) (rows : ℕ) : Type 0 where
  pub words : listing_words ≤ length listings
  pub result : rows * 3 ≤ length out
  pub room : h.words + rows * 3 ≤ listing_words

-- a reward
pub record RewardAdded (listings : List ℕ) (h : Head) (out : List ℕ) (rows : ℕ) (listings' : List ℕ) (h' : Head) : Type 0 where
  pub answer : h' ≡ reward_head h (rows * 3)
  pub model : (ar table : List ℕ) → Spanned table h → model_of ar listings' table h' ≡ rewarded (model_of ar listings table h) (diagram_of (take (rows * 3) out))
  pub building : (table : List ℕ) → Building listings table h → Canonical (take (rows * 3) out) → Building listings' table h'
  pub starts : (table : List ℕ) → h.reward_words ≡ 0 → 0 < rows → KeepsStarts table h table h'

-- one variant more, of the last action
pub record VariantRoom (table : List ℕ) (h : Head) : Type 0 where
  pub spanned : Spanned table h
  pub some : 0 < h.actions
  pub more : variants_of table (h.actions - 1) < most_variants

pub record VariantAdded (listings table : List ℕ) (h : Head) (out : List ℕ) (rows : ℕ) (listings' table' : List ℕ) (h' : Head) : Type 0 where
  pub answer : h' ≡ more_words h (rows * 3)
  pub variants : variants_of table' (h.actions - 1) ≡ variants_of table (h.actions - 1) + 1
  pub model : (ar : List ℕ) → model_of ar listings' table' h'
      ≡ with_actions (model_of ar listings table h) (add_variant (model_of ar listings table h).actions (new_variant (diagram_of (take (rows * 3) out))))
  pub building : Building listings table h → Canonical (take (rows * 3) out) → Building listings' table' h'
  pub starts : KeepsStarts table h table' h'

-- a truth diagram of the predicate p, of the last variant of the last action
pub record TruthRoom (table : List ℕ) (h : Head) (p : ℕ) : Type 0 where
  pub spanned : Spanned table h
  pub some : 0 < h.actions
  pub has : 0 < variants_of table (h.actions - 1)
  pub declared : p < predicate_count

-- whether it has one already
pub record HasTruth (table : List ℕ) (h : Head) (p : ℕ) (b : Bool) : Type 0 where
  pub answer : (ar listings : List ℕ) → b ≡ is_some (truths_now (model_of ar listings table h).actions p)

pub record TruthAdded (listings table : List ℕ) (h : Head) (p : ℕ) (out : List ℕ) (rows : ℕ) (listings' table' : List ℕ) (h' : Head) : Type 0 where
  pub answer : h' ≡ more_words h (rows * 3)
  pub variants : variants_of table' (h.actions - 1) ≡ variants_of table (h.actions - 1)
  pub model : (ar : List ℕ) → model_of ar listings' table' h'
      ≡ with_actions (model_of ar listings table h)
      (last_variant (model_of ar listings table h).actions (λ truths. with_truth_at truths p (diagram_of (take (rows * 3) out))))
  pub building : Building listings table h → Canonical (take (rows * 3) out) → Building listings' table' h'
  pub starts : (ar : List ℕ) → is_some (truths_now (model_of ar listings table h).actions p) ≡ false → KeepsStarts table h table' h'

-- ===== What the inner functions leave =====

-- n words from the place i on are 0, and those before it stay
pub record Cleared (s : List ℕ) (i n : ℕ) (t : List ℕ) : Type 0 where
  pub size : length t ≡ length s
  pub before : (j : ℕ) → j < i → get_or t j 0 ≡ get_or s j 0
  pub zeros : (j : ℕ) → i ≤ j → j < i + n → get_or t j 0 ≡ 0

-- where a new variant of the action a is to stand
abbrev pub new_place : List ℕ → ℕ → ℕ
new_place table a = variant_place a (variants_of table a)

-- the action a has one variant more: its weight has n words from the word `start` on, it has no truth diagram, and the words before it stay
pub record Opened (table : List ℕ) (a start n : ℕ) (table' : List ℕ) : Type 0 where
  pub size : length table' ≡ length table
  pub before : (j : ℕ) → j < a * action_words + 1 → get_or table' j 0 ≡ get_or table j 0
  pub more : variants_of table' a ≡ variants_of table a + 1
  pub others : (j : ℕ) → a * action_words + 2 ≤ j → j < new_place table a → get_or table' j 0 ≡ get_or table j 0
  pub begins : get_or table' (new_place table a) 0 ≡ start
  pub counts : get_or table' (new_place table a + 1) 0 ≡ n
  pub zeros : (j : ℕ) → new_place table a + 2 ≤ j → j < new_place table a + variant_words → get_or table' j 0 ≡ 0

-- where the last variant of the last action stands
abbrev pub last_place : List ℕ → Head → ℕ
last_place table h = variant_place (h.actions - 1) (variants_of table (h.actions - 1) - 1)

-- the two words for the truth diagram of the predicate p stand at the place i, within the table
pub record TruthPlaced (table : List ℕ) (h : Head) (p i : ℕ) : Type 0 where
  pub place : i ≡ truth_place (last_place table h) p
  pub inside : i + 2 ≤ length table
