-- A model in lent words (document 01, sections 'Text' and 'Backup'): its numbers, its listings one after another, and a table of where they stand.
use Rattle.std.specs.Prelude.{List, ℕ, ◌+◌, ◌*◌, get_or, take, drop}
use Rattle.diagram.specs.Listing.{diagram_of}
use Rattle.regression.specs.RegressCall.{truths_of}
use Rattle.names.specs.Many.{many}
use Rattle.mdp.specs.Model.{Variant, Action, Model}
use Rattle.model.specs.declared.Head.{Head}

-- all model listings together have 2,048 rows
abbrev pub listing_words : ℕ
listing_words = 6144

-- in the table: for each predicate two words, where its truth diagram begins and how many words it has
abbrev pub span_words : ℕ
span_words = 64

-- a variant: two words for its weight, then those of its truth diagrams
abbrev pub variant_words : ℕ
variant_words = 66

-- an action: its parameters, its variants, then room for eight variants
abbrev pub action_words : ℕ
action_words = 530

abbrev pub table_words : ℕ
table_words = 4240

-- n words from the place i on
abbrev pub part : List ℕ → ℕ → ℕ → List ℕ
part s i n = take n (drop i s)

-- where the variant v of the action a stands in the table
abbrev pub variant_place : ℕ → ℕ → ℕ
variant_place a v = a * action_words + 2 + v * variant_words

-- the words of the weight of the variant that stands at the place i
abbrev pub weight_words : List ℕ → List ℕ → ℕ → List ℕ
weight_words listings table i = part listings (get_or table i 0) (get_or table (i + 1) 0)

abbrev pub spans_at : List ℕ → ℕ → List ℕ
spans_at table i = part table (i + 2) span_words

unfoldable pub variant_at : List ℕ → List ℕ → ℕ → Variant
unfolding diagram_of truths_of
variant_at listings table i = record { weight = diagram_of (weight_words listings table i); truths = truths_of listings (spans_at table i) }

-- the action a: how many variants it has
abbrev pub variants_of : List ℕ → ℕ → ℕ
variants_of table a = get_or table (a * action_words + 1) 0

unfoldable pub action_at : List ℕ → List ℕ → ℕ → Action
unfolding many variant_at
action_at listings table a =
    record { count = get_or table (a * action_words) 0; variants = many (λ v. variant_at listings table (variant_place a v)) (variants_of table a) }

abbrev pub reward_words : List ℕ → Head → List ℕ
reward_words listings h = part listings h.reward_start h.reward_words

-- the model that the words are
unfoldable pub model_of : List ℕ → List ℕ → List ℕ → Head → Model
unfolding many action_at diagram_of
model_of ar listings table h = record {
  arities = ar;
  total = h.total;
  numerator = h.numerator;
  denominator = h.denominator;
  reward = diagram_of (reward_words listings h);
  actions = many (action_at listings table) h.actions;
}
