-- The lines (reward DIAGRAM), (variant n WEIGHT) and (becomes (p ?a ..) DIAGRAM) in lent words: what their functions require and promise (document 01,
-- section 'Text').
use Rattle.std.specs.Prelude.{◌≡◌, Bool, true, false, ◌||◌, List, ℕ, ◌+◌, ◌*◌, ◌-◌, ◌/◌, ◌≤◌, ◌<◌, length, get_or, take, ltb}
use Rattle.refusal.specs.declared.Refusal.TheVariants.{Name, Truth, Space}
use Rattle.diagram.specs.Sizes.{space_words}
use Rattle.diagram.specs.Diagram.{Diagram}
use Rattle.diagram.specs.Listing.{diagram_of}
use Rattle.diagram.specs.Validity.{Valid}
use Rattle.refusal.specs.Outcome.{Outcome, ok, and_then}
use Rattle.mdp.specs.Model.{most_variants}
use Rattle.regression.specs.Regression.{Truths}
use Rattle.regression.specs.RegressCall.{leaf_above}
use Rattle.words.specs.declared.Key.{Key}
use Rattle.text.specs.declared.Kind.{Kind}
use Rattle.text.specs.declared.Kind.TheVariants.{Reward, Variant, Becomes}
use Rattle.events.specs.declared.Event.{Event}
use Rattle.names.specs.Inner.{put_key}
use Rattle.names.specs.Layout.{variants_at}
use Rattle.reading.specs.declared.Binding.{Binding}
use Rattle.reading.specs.declared.Binding.TheVariants.{Only}
use Rattle.reading.specs.Head.{head_number, head_arguments}
use Rattle.reader.specs.declared.Scope.{Scope}
use Rattle.reader.specs.Callers.{judged_predicate, PredicateWithin}
use Rattle.session.specs.Session.{Names, refuse_if}
use Rattle.session.specs.Good.{most_variant_names}
use Rattle.session.specs.ModelLines.{most_model_rows, names_for, rows_with, is_some, truths_now}
use Rattle.declare.specs.declared.Counts.{Counts}
use Rattle.declare.specs.Tables.{names_of, GoodVocabulary}
use Rattle.model.specs.Layout.{listing_words, variants_of, model_of}
use Rattle.model_entry.specs.Building.{Spanned}
use Rattle.memory.specs.declared.Numbers.{Numbers}
use Rattle.memory.specs.declared.Said.{Said}
use Rattle.memory.specs.Inner.{LineOf, Ready, Answers}
use Rattle.memory.specs.Memory.{memory_of}
use Rattle.drawing.specs.Drawing.{drawn, DiagramAt}
use Rattle.refusal.specs.declared.Refusal.{Refusal}
use Rattle.std.specs.Prelude.{Err, Ok, Result}

-- ===== Room for one listing more =====

-- 9 where there is no room beside it, or r rows of model listings and those of the diagram are too many
abbrev pub roomed : Bool → ℕ → Outcome Diagram → Outcome Diagram
roomed full r o = and_then o (λ d. refuse_if (full || ltb most_model_rows (rows_with r d)) Space (ok d))

abbrev pub pick_built : Bool → Result ℕ Refusal → Result ℕ Refusal → Result ℕ Refusal
pick_built true x y = x
pick_built false x y = y

-- the same of the answer that building it gives
abbrev pub roomed_as : Bool → ℕ → Result ℕ Refusal → Result ℕ Refusal
roomed_as full r (Ok n) = pick_built (full || ltb most_model_rows (r + n)) (Err Space) (Ok n)
roomed_as full r (Err w) = Err w

-- ===== A truth diagram =====

-- 7 where the diagram has a leaf above 1
abbrev pub lowered : Outcome Diagram → Outcome Diagram
lowered o = and_then o (λ d. refuse_if (leaf_above 1 d) Truth (ok d))

-- the same of the answer that building it gives, its listing in the result buffer
abbrev pub lowered_as : List ℕ → Result ℕ Refusal → Result ℕ Refusal
lowered_as out (Ok n) = pick_built (leaf_above 1 (diagram_of (take (n * 3) out))) (Err Truth) (Ok n)
lowered_as out (Err w) = Err w

-- the rows that are built are a listing in the result buffer
pub record BuiltIn (ar : List ℕ) (b : Result ℕ Refusal) (out : List ℕ) : Type 0 where
  pub room : (n : ℕ) → b ≡ Ok n → n * 3 ≤ length out
  pub valid : (n : ℕ) → b ≡ Ok n → Valid ar (take (n * 3) out)

-- the predicate of a head: 2 where it is undeclared or has a truth diagram already
unfoldable pub truth_number : Names → Truths → List Event → Outcome ℕ
unfolding head_number
truth_number n truths es = and_then (head_number n.predicates es) (λ p. refuse_if (is_some (truths p)) Name (ok p))

-- behind it: its arguments, the words of its diagram, its diagram, 7, then 9
unfoldable pub truth_of : Names → List ℕ → ℕ → ℕ → List Event → Outcome Diagram
unfolding head_arguments drawn leaf_above
truth_of n ar p r es =
    and_then (head_arguments (get_or ar p 0) es) (λ h. roomed false r (lowered (drawn (names_for n ar Only n.parameters) h.rest h.variables)))

-- ===== What is lent to read a line =====

-- the bytes s are a line of the kind k; names, and room for the rows that its diagram forms
pub record Lent (k : Kind) (s : List ℕ) (n : Numbers) (names ar work : List ℕ) : Type 0 where
  pub line : LineOf k s
  pub vocabulary : GoodVocabulary names ar n.counts
  pub used : n.head.words ≤ listing_words
  pub work-room : space_words ≤ length work

-- and the words of the model's listings
pub record Listings (n : Numbers) (listings : List ℕ) : Type 0 where
  pub room : listing_words ≤ length listings
  pub whole : n.head.words / 3 * 3 ≡ n.head.words

-- the actions in the table, the last of them with as many variants as the names count
pub record LastOf (table : List ℕ) (n : Numbers) : Type 0 where
  pub spanned : Spanned table n.head
  pub some : 0 < n.head.actions
  pub variants : variants_of table (n.head.actions - 1) ≡ n.counts.variants

-- the names on the line of a weight or of a truth diagram: the parameters are those of the last action
abbrev pub action_scope : Numbers → Binding → Scope
action_scope n b = record { constants = n.counts.constants; predicates = n.counts.predicates; parameters = n.counts.parameters; binding = b }

-- For each line, what its function requires of what it is lent, and what it promises whatever stands in the words that it is not lent.

-- ===== (reward DIAGRAM) =====

pub record RewardReady (s : List ℕ) (n : Numbers) (names ar listings work : List ℕ) : Type 0 where
  pub lent : Lent Reward s n names ar work
  pub listed : Listings n listings

pub record RewardSays (s : List ℕ) (number : ℕ) (n : Numbers) (names ar listings : List ℕ) (r : Said) (listings' : List ℕ) : Type 0 where
  pub says : (table state value : List ℕ) → Ready Reward s n (memory_of names ar listings table state value)
      → Answers Reward s number n (memory_of names ar listings table state value) r (memory_of names ar listings' table state value)

-- ===== (variant n WEIGHT) =====

-- a diagram stands on the line from a place of it on
pub record WeightAt (s : List ℕ) (at : ℕ) : Type 0 where
  pub within : at ≤ length s
  pub there : DiagramAt s at

-- one variant more, by its name
abbrev pub more_variants : Counts → Counts
more_variants n = record {
  constants = n.constants;
  predicates = n.predicates;
  actions = n.actions;
  parameters = n.parameters;
  variants = n.variants + 1;
  earlier = n.earlier;
}

pub record VariantNamed (names : List ℕ) (n : Counts) (k : Key) (r : Counts) (names' : List ℕ) : Type 0 where
  pub counts : r ≡ more_variants n
  pub words : names' ≡ put_key names (variants_at + (n.earlier + n.variants) * 2) k

pub record VariantReady (s : List ℕ) (n : Numbers) (names ar listings table work : List ℕ) : Type 0 where
  pub lent : Lent Variant s n names ar work
  pub listed : Listings n listings
  pub last : LastOf table n
  pub room : n.counts.variants < most_variants → n.counts.earlier + n.counts.variants < most_variant_names

pub record VariantSays (s : List ℕ) (number : ℕ) (n : Numbers) (names ar listings table : List ℕ) (r : Said) (names' listings' table' : List ℕ) : Type 0 where
  pub says : (state value : List ℕ) → Ready Variant s n (memory_of names ar listings table state value)
      → Answers Variant s number n (memory_of names ar listings table state value) r (memory_of names' ar listings' table' state value)

-- ===== (becomes (p ?a ..) DIAGRAM) =====

-- a variant to which a truth diagram is added
pub record VariantOpen (table : List ℕ) (n : Numbers) : Type 0 where
  pub last : LastOf table n
  pub has : 0 < n.counts.variants

-- the predicate of the head, whatever listings the model has
pub record TruthOpens (n : Numbers) (names table : List ℕ) (es : List Event) (r : Result ℕ Refusal) : Type 0 where
  pub answer : (ar listings : List ℕ)
      → judged_predicate r ≡ truth_number (names_of names n.counts) (truths_now (model_of ar listings table n.head).actions) es
  pub within : PredicateWithin n.counts.predicates r

pub record BecomesReady (s : List ℕ) (n : Numbers) (names ar listings table work : List ℕ) : Type 0 where
  pub lent : Lent Becomes s n names ar work
  pub listed : Listings n listings
  pub opened : VariantOpen table n

pub record BecomesSays (s : List ℕ) (number : ℕ) (n : Numbers) (names ar listings table : List ℕ) (r : Said) (listings' table' : List ℕ) : Type 0 where
  pub says : (state value : List ℕ) → Ready Becomes s n (memory_of names ar listings table state value)
      → Answers Becomes s number n (memory_of names ar listings table state value) r (memory_of names ar listings' table' state value)
