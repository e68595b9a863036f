-- What contracts of inner functions and proofs cite. Nothing here has to be believed.
use Rattle.std.specs.Prelude.{◌≡◌, true, cond, List, [], ◌∷◌, ◌++◌, ℕ, suc, ◌+◌, ◌≤◌, ◌<◌, max, length}
use Rattle.refusal.specs.Outcome.{Outcome, and_then}
use Rattle.label.specs.Limits.{constant_count, first_parameter, parameter_count, first_variable, variable_count, first_minimum, minimum_count, predicate_count}
use Rattle.label.specs.Terms.{is_term}
use Rattle.label.specs.Labels.{are_arities, is_label}
use Rattle.label.specs.Renamings.{EachIn}
use Rattle.label.specs.declared.Test.{Test}
use Rattle.label.specs.declared.Test.TheVariants.{Always, Is}
use Rattle.diagram.specs.Sizes.{highest_value}
use Rattle.forms.specs.Tree as T
use Rattle.names.specs.Keys.{is_among}
use Rattle.words.specs.declared.Key.{Key}
use Rattle.events.specs.declared.Event.{Event}
use Rattle.reading.specs.declared.Binding.{Binding}
use Rattle.reading.specs.declared.Binding.TheVariants.{Any, None, Only}
use Rattle.reading.specs.Reading.{Environment, Met, Written, is_within, written}
use Rattle.reading.specs.Tree.{Reading, Result, resolve_diagram, ops_of, number, branch}
use Rattle.reading.specs.Occurrences.{variable_keys, minimum_keys}

-- after all words, more variables of a kind than the limit are 8
abbrev pub writing : Result Reading → Outcome Written
writing g = written g.met (ops_of g.value)

-- what the words of a diagram come to
unfoldable pub diagram_reading : Environment → T.Diagram → Met → Outcome Written
diagram_reading σ d m = and_then (resolve_diagram σ m d) writing

-- how many (if ..) are open together
abbrev pub depth : Reading → ℕ
depth (number v) = 0
depth (branch t h f) = suc (max (depth h) (depth f))

-- how many variables of each kind may be named
pub record Reach : Type 0 where
  pub variables : ℕ
  pub minimums : ℕ

-- which terms may be named, c parameters of the action and the variables n: constants, and of each other kind so many from its first on
pub record Named (c : ℕ) (n : Reach) (t : ℕ) : Type 0 where
  pub is-term : is_term t ≡ true
  pub parameters : first_parameter + c ≤ t → first_variable ≤ t
  pub variables : first_variable + n.variables ≤ t → first_minimum ≤ t
  pub minimums : t < first_minimum + n.minimums

-- n variables, and no minimum variable
abbrev pub maximum_reach : ℕ → Reach
maximum_reach n = record { variables = n; minimums = 0 }

-- in a reward up to the limits, in a weight none, in a truth diagram its arguments
abbrev pub reach : Binding → Met → Reach
reach Any m = record { variables = variable_count; minimums = minimum_count }
reach None m = maximum_reach 0
reach Only m = maximum_reach (length m.variables)

-- every label is one under the arity list and has only terms that P names; every leaf is at most 10^18
abbrev pub GoodTest : List ℕ → (ℕ → Type 0) → Test → Type 0
GoodTest ar P Always = Unit {0}
GoodTest ar P (Is l) = (is_label ar l.packed ≡ true) × EachIn ar P l.packed

abbrev pub GoodReading : List ℕ → (ℕ → Type 0) → Reading → Type 0
GoodReading ar P (number v) = v ≤ highest_value
GoodReading ar P (branch t h f) = GoodTest ar P t × GoodReading ar P h × GoodReading ar P f

-- names within their limits
pub record NamesFit (σ : Environment) : Type 0 where
  pub constants-few : length σ.constants ≤ constant_count
  pub predicates-few : length σ.predicates < predicate_count
  pub parameters-few : length σ.parameters ≤ parameter_count
  pub arity-list : are_arities σ.arities ≡ true

-- what the words of a line with the diagram d come to, where they are not refused: the operations of a diagram that is as deep as d at most and
-- names nothing unbound, and no more variables of a kind than the limit
pub record Sound (σ : Environment) (m : Met) (d : T.Diagram) (w : Written) : Type 0 where
  pub tree : Reading
  pub operations : w.operations ≡ ops_of tree
  pub good : GoodReading σ.arities (Named (length σ.parameters) (reach σ.binding m)) tree
  pub shallow : depth tree ≤ T.brackets d
  pub few : is_within w.met ≡ true

-- each once, behind those of vs
abbrev pub occurring : List Key → List Key → List Key
occurring vs [] = vs
occurring vs (k ∷ ks) = occurring (cond (is_among k vs) vs (vs ++ (k ∷ []))) ks

-- of each kind
abbrev pub occurring_met : Met → List Event → Met
occurring_met m es = record { variables = occurring m.variables (variable_keys es); minimums = occurring m.minimums (minimum_keys es) }
