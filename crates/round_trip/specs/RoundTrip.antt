-- What is said of a form that is read again as a reward (document 02, L2): 'A reward read from this text, under the same constants and predicates declared in
-- the same order, has the very listing it was printed from.'
use Rattle.std.specs.Prelude.{◌≡◌, List, [], map, ℕ, ◌≤◌, ◌<◌, length, get_or}
use Rattle.refusal.specs.declared.Refusal.TheVariants.{Value}
use Rattle.refusal.specs.Outcome.{Outcome, ok, refused}
use Rattle.label.specs.Limits.{first_parameter}
use Rattle.label.specs.Labels.{predicate_of}
use Rattle.diagram.specs.Diagram.{Diagram, leaf, branch, EveryLabel}
use Rattle.diagram.specs.Listing.{listing}
use Rattle.rename.specs.Relabelling.{Terms}
use Rattle.label.specs.declared.Test.TheVariants.{Is}
use Rattle.words.specs.Words.{IsName}
use Rattle.words.specs.Keys.{key_of}
use Rattle.text.specs.Line.{GoodLine}
use Rattle.events.specs.Events.{diagram_events}
use Rattle.reading.specs.declared.Binding.TheVariants.{Any}
use Rattle.reading.specs.Reading.{Environment, Written}
use Rattle.reading.specs.Numbering.{reward_reading}
use Rattle.reading.specs.Tree.{Reading, ops_of}
use Rattle.reading.specs.Tree.Reading.{number, branch as conditional}
use Rattle.build.specs.Machine.{built_closed}
use Rattle.diagram_form.specs.Form.{Tables, form_tree, reward_of}

-- no two names are alike
abbrev pub Different : List (List ℕ) → Type 0
Different ns = (i j : ℕ) → i < length ns → j < length ns → get_or ns i [] ≡ get_or ns j [] → i ≡ j

abbrev pub AreNames : List (List ℕ) → Type 0
AreNames ns = (i : ℕ) → i < length ns → IsName (get_or ns i [])

-- what declarations leave: names, each once
pub record Declared (n : Tables) : Type 0 where
  pub constants-named : AreNames n.constants
  pub predicates-named : AreNames n.predicates
  pub constants-differ : Different n.constants
  pub predicates-differ : Different n.predicates

-- every constant and every predicate of d is declared; equality is predicate 0, and others are numbered from 1
pub record Covers (ar : List ℕ) (n : Tables) (d : Diagram) : Type 0 where
  pub constants : Terms ar (λ t. t < first_parameter → t < length n.constants) d
  pub predicates : EveryLabel (λ l. predicate_of l ≤ length n.predicates) d

-- 'under the same constants and predicates declared in the same order': the names on a reward line
abbrev pub reward_names : List ℕ → Tables → Environment
reward_names ar n =
    record { constants = map key_of n.constants; predicates = map key_of n.predicates; arities = ar; parameters = []; binding = Any }

-- the words of the form as a reward line's
abbrev pub words_read : List ℕ → Tables → Diagram → Outcome Written
words_read ar n d = reward_reading (reward_names ar n) (diagram_events (form_tree ar n d))

-- a diagram as it is written, each row as what it asks
unfoldable pub reading_of : Diagram → Reading
reading_of (leaf v) = number v
reading_of (branch l t f) = conditional (Is (record { packed = l })) (reading_of t) (reading_of f)

pub record RoundTrip (ar : List ℕ) (n : Tables) (d : Diagram) : Type 0 where
  -- the line is one of the grammar, within its limits: no 1
  pub well-formed : GoodLine (reward_of ar n d)
  -- no word of it is refused, nor their variables: no 2, 3, 6, 4 or 8
  pub words : Written
  pub accepted : words_read ar n d ≡ ok words
  pub operations : words.operations ≡ ops_of (reading_of d)
  -- where a reward is built from them and closed up, it is the very diagram, with the very listing
  pub same-diagram : (r : Diagram) → built_closed ar words.operations ≡ ok r → r ≡ d
  pub same-listing : (r : Diagram) → built_closed ar words.operations ≡ ok r → listing r ≡ listing d
  -- it is never refused for a value: no 11
  pub no_value : built_closed ar words.operations ≡ refused Value → ⊥
