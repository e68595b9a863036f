-- What the diagram on a line means, and what an accepted line with one leaves behind (document 01, section 'Text'; document 02, L2 and L12).
use Rattle.std.specs.Prelude.{◌≡◌, true, List, [], ℕ, ◌+◌, get_or}
use Rattle.refusal.specs.Outcome.{ok}
use Rattle.words.specs.Keys.{key_of}
use Rattle.words.specs.declared.Key.{Key}
use Rattle.forms.specs.Tree as T
use Rattle.text.specs.declared.Kind.TheVariants as K
use Rattle.text.specs.Line.{Words, Line, line_bytes, GoodLine}
use Rattle.text.specs.Line.Line.{line}
use Rattle.names.specs.Keys.{place_of, is_among}
use Rattle.diagram.specs.Diagram.{Diagram}
use Rattle.events.specs.Events.{diagram_events}
use Rattle.reading.specs.declared.Binding.TheVariants.{Any, None, Only}
use Rattle.reading.specs.Reading.{Environment, Met, arguments as arguments_met}
use Rattle.reading.specs.Numbering.{met_first}
use Rattle.reading.specs.Head.{head_keys}
use Rattle.reading.specs.Tree.{Reading, resolve_diagram}
use Rattle.build.specs.Build.{meaning}
use Rattle.answers.specs.declared.Answer.TheVariants as A
use Rattle.session.specs.Session.{Session}
use Rattle.session.specs.ModelLines.{names_for, with_reward, with_variant, with_truth}
use Rattle.session.specs.Replies.{reply}
use Rattle.uniqueness.specs.Meaning.{TheOnly, TheOnlyClosed}

-- ===== What is written =====

-- the tree t of a diagram, each name resolved in the order of the words, is r; the variables vs of each kind stand before it
pub record StandsFor (names : Environment) (vs : Met) (t : T.Diagram) (r : Reading) : Type 0 where
  pub met : Met
  pub resolved : resolve_diagram names vs t ≡ ok (record { value = r; met = met })

-- d is the only diagram that means what t writes. 'A diagram is a number, or (if ATOM DIAGRAM DIAGRAM)': the leaf that the choice c leads to, by the truth of
-- each ATOM, is build's `meaning` c.
pub record Writes (names : Environment) (vs : Met) (t : T.Diagram) (d : Diagram) : Type 0 where
  pub tree : Reading
  pub stands : StandsFor names vs t tree
  pub one : TheOnly names.arities (λ c. meaning c tree) d

-- 'a reward is closed up when read'
pub record WritesClosed (names : Environment) (vs : Met) (t : T.Diagram) (d : Diagram) : Type 0 where
  pub tree : Reading
  pub stands : StandsFor names vs t tree
  pub one : TheOnlyClosed names.arities (λ c. meaning c tree) d

-- ===== Accepted lines =====

-- (reward DIAGRAM): any variables of both kinds, those of a kind by ascending N where each is written so (document 02, L2 and L12), no parameter
pub record RewardOf (σ : Session) (t : T.Diagram) (τ : Session) : Type 0 where
  pub diagram : Diagram
  pub behind : τ ≡ with_reward σ diagram
  pub is : WritesClosed (names_for σ.names σ.model.arities Any []) (met_first (diagram_events t)) t diagram

-- (variant n WEIGHT): no variable, the parameters of the last action
pub record WeightOf (σ : Session) (n : List ℕ) (t : T.Diagram) (τ : Session) : Type 0 where
  pub diagram : Diagram
  pub behind : τ ≡ with_variant σ (key_of n) diagram
  pub is : Writes (names_for σ.names σ.model.arities None σ.names.parameters) (arguments_met []) t diagram

-- (becomes (p ?a ..) DIAGRAM): the arguments, numbered as the first variables in their order, and the parameters of the last action
abbrev pub predicate_number : Session → List ℕ → ℕ
predicate_number σ p = place_of (key_of p) σ.names.predicates + 1

pub record TruthOf (σ : Session) (p : List ℕ) (vs : List (List ℕ)) (t : T.Diagram) (τ : Session) : Type 0 where
  pub declared : is_among (key_of p) σ.names.predicates ≡ true
  pub arguments : List Key
  pub head : head_keys (get_or σ.model.arities (predicate_number σ p) 0) vs ≡ ok arguments
  pub diagram : Diagram
  pub behind : τ ≡ with_truth σ (predicate_number σ p) diagram
  pub is : Writes (names_for σ.names σ.model.arities Only σ.names.parameters) (arguments_met arguments) t diagram

-- ===== Demand 2 for texts =====

-- the line l, as line `number` of a text, is accepted in the session σ: such lines print nothing
abbrev pub Accepts : Session → ℕ → Line → Type 0
Accepts σ number l = (reply σ number (line_bytes l)).answer ≡ A.Nothing

abbrev pub behind_line : Session → ℕ → Line → Session
behind_line σ number l = (reply σ number (line_bytes l)).session

-- an accepted reward, weight or truth diagram is good, means what its tree writes (closed up for a reward), and is the only such diagram
pub record OnlyOnes (σ : Session) (number : ℕ) : Type 0 where
  pub reward : (t : Words K.Reward) → GoodLine (line K.Reward t) → Accepts σ number (line K.Reward t) → RewardOf σ t (behind_line σ number (line K.Reward t))
  pub weight : (w : Words K.Variant) → GoodLine (line K.Variant w) → Accepts σ number (line K.Variant w)
      → WeightOf σ w.0 w.1 (behind_line σ number (line K.Variant w))
  pub truth : (w : Words K.Becomes) → GoodLine (line K.Becomes w) → Accepts σ number (line K.Becomes w)
      → TruthOf σ w.0 w.1 w.2 (behind_line σ number (line K.Becomes w))
