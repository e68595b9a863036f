-- What contracts of inner functions and proofs cite. Nothing here has to be believed.
use Rattle.std.specs.Prelude.{◌≡◌, List, ℕ, ◌≤◌, ◌<◌, length, get_or}
use Rattle.std.proofs.Math.Option.{some}
use Rattle.label.specs.Limits.{first_parameter}
use Rattle.label.specs.Labels.{predicate_of, unpacked, terms_of}
use Rattle.diagram.specs.Diagram.{Diagram, EveryLabel}
use Rattle.state.specs.Terms.{Each}
use Rattle.words.specs.Words.{IsName}
use Rattle.words.specs.Keys.{key_of, name_of}
use Rattle.words.specs.declared.Key.{Key}
use Rattle.events.specs.Contents.{no_key}
use Rattle.mdp.specs.Model.{Variant, Action, Every}
use Rattle.session.specs.Session.{Session}
use Rattle.session.specs.Running.{tables_in}
use Rattle.text.specs.Line.{Line}
use Rattle.diagram_form.specs.Form.{reward_of}

-- ===== Diagrams and models =====

-- a constant is one of the first c; parameters and variables are not declared
abbrev pub Constant : ℕ → ℕ → Type 0
Constant c t = t < first_parameter → t < c

-- c constants and p predicates are declared: the predicate of the label l is equality, number 0, or one of them, and so its constants
pub record DeclaredLabel (ar : List ℕ) (c p l : ℕ) : Type 0 where
  pub predicate : predicate_of l ≤ p
  pub constants : Each (Constant c) (terms_of ar (unpacked l))

abbrev pub Declares : List ℕ → ℕ → ℕ → Diagram → Type 0
Declares ar c p d = EveryLabel (DeclaredLabel ar c p) d

-- so of a variant's weight and its truth diagrams
pub record DeclaredVariant (ar : List ℕ) (c p : ℕ) (v : Variant) : Type 0 where
  pub weight : Declares ar c p v.weight
  pub truths : (q : ℕ) (d : Diagram) → v.truths q ≡ some d → Declares ar c p d

abbrev pub DeclaredAction : List ℕ → ℕ → ℕ → Action → Type 0
DeclaredAction ar c p a = Every (DeclaredVariant ar c p) a.variants

-- ===== Sessions =====

-- the key of a name
pub record NameKey (k : Key) : Type 0 where
  pub named : IsName (name_of k)
  pub key : key_of (name_of k) ≡ k

-- keys of names, no two of them alike
pub record NameKeys (ks : List Key) : Type 0 where
  pub each : (i : ℕ) → i < length ks → NameKey (get_or ks i no_key)
  pub differ : (i j : ℕ) → i < length ks → j < length ks → get_or ks i no_key ≡ get_or ks j no_key → i ≡ j

-- with the keys cs of constants and ps of predicates: reward, actions and value diagram name only these
pub record DeclaredParts (cs ps : List Key) (ar : List ℕ) (reward : Diagram) (actions : List Action) (value : Diagram) : Type 0 where
  pub constants : NameKeys cs
  pub predicates : NameKeys ps
  pub in-reward : Declares ar (length cs) (length ps) reward
  pub in-actions : Every (DeclaredAction ar (length cs) (length ps)) actions
  pub in-value : Declares ar (length cs) (length ps) value

-- what holds from line to line. Before (start) the value diagram is leaf 0, and so is the reward before its line
abbrev pub DeclaredSession : Session → Type 0
DeclaredSession σ = DeclaredParts σ.names.constants σ.names.predicates σ.model.arities σ.model.reward σ.model.actions σ.held.diagram

-- the line (reward FORM) of the session's value diagram
abbrev pub value_line : Session → Line
value_line σ = reward_of σ.model.arities (tables_in σ.names) σ.held.diagram
