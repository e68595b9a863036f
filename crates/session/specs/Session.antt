-- A session: what the lines of a text declared, the model, the state and the value diagram (document 01, section 'Text').
use Rattle.std.specs.Prelude.{Bool, false, cond, List, [], ◌∷◌, ℕ, ◌-◌, replicate}
use Rattle.refusal.specs.declared.Refusal.{Refusal}
use Rattle.words.specs.declared.Key.{Key}
use Rattle.label.specs.Limits.{constant_count, predicate_count, equality_arity}
use Rattle.diagram.specs.Diagram.{Diagram, leaf}
use Rattle.refusal.specs.Outcome.{Outcome, refused}
use Rattle.mdp.specs.Model.{Action, Model}
use Rattle.mdp.specs.Runs.{Held}
use Rattle.session.specs.declared.Part.{Part}
use Rattle.session.specs.declared.Part.TheVariants.{Model as ModelPart}

-- names in the order of their lines: constants from 0, predicates from 1; the parameters and variants are those of the last action, `earlier` the variants of the
-- actions before it, one action's behind another's (document 02, L10)
pub record Names : Type 0 where
  pub constants : List Key
  pub predicates : List Key
  pub actions : List Key
  pub parameters : List Key
  pub variants : List Key
  pub earlier : List Key

-- which single forms were accepted
pub record Singles : Type 0 where
  pub total : Bool
  pub discount : Bool
  pub reward : Bool

-- a state as it is lent to the value operation: how many objects, 0 before an accepted (objects n); for each constant 1 where it is placed, and its
-- object; the facts as rows of words; how many (did ..) lines were accepted since they began, and the total of the rewards met (document 02, L10)
pub record Live : Type 0 where
  pub objects : ℕ
  pub placed : List ℕ
  pub constants : List ℕ
  pub facts : List ℕ
  pub count : ℕ
  pub total : ℕ

-- `rows` counts the rows of all model listings
pub record Session : Type 0 where
  pub part : Part
  pub names : Names
  pub singles : Singles
  pub model : Model
  pub rows : ℕ
  pub live : Live
  pub held : Held

-- W where no (total) line is accepted
abbrev pub default_total : ℕ
default_total = 100

-- G and D where no (discount) line is accepted: 'the missing line means 19 20' (document 02, L7)
abbrev pub default_numerator : ℕ
default_numerator = 19

abbrev pub default_denominator : ℕ
default_denominator = 20

-- before the first line: W, G and D are the defaults; 32 arities, the first of them 2
unfoldable pub opening : Session
opening = record {
  part = ModelPart;
  names = record { constants = []; predicates = []; actions = []; parameters = []; variants = []; earlier = [] };
  singles = record { total = false; discount = false; reward = false };
  model = record { arities = equality_arity ∷ replicate (predicate_count - 1) 0; total = default_total; numerator = default_numerator; denominator = default_denominator; reward = leaf 0; actions = [] };
  rows = 0;
  live = record { objects = 0; placed = replicate constant_count 0; constants = replicate constant_count 0; facts = []; count = 0; total = 0 };
  held = record { diagram = leaf 0; steps = 0 };
}

-- ===== A session with something new =====

-- the model with another reward
abbrev pub rewarded : Model → Diagram → Model
rewarded m d = record {
  arities = m.arities;
  total = m.total;
  numerator = m.numerator;
  denominator = m.denominator;
  reward = d;
  actions = m.actions;
}

-- the model with other actions
abbrev pub with_actions : Model → List Action → Model
with_actions m l = record {
  arities = m.arities;
  total = m.total;
  numerator = m.numerator;
  denominator = m.denominator;
  reward = m.reward;
  actions = l;
}

abbrev pub with_model : Session → Singles → Model → Session
with_model σ singles m = record {
  part = σ.part;
  names = σ.names;
  singles = singles;
  model = m;
  rows = σ.rows;
  live = σ.live;
  held = σ.held;
}

abbrev pub with_names : Session → Names → Session
with_names σ n = record {
  part = σ.part;
  names = n;
  singles = σ.singles;
  model = σ.model;
  rows = σ.rows;
  live = σ.live;
  held = σ.held;
}

-- the rows of all model listings
abbrev pub with_rows : Session → ℕ → Session
with_rows σ r = record {
  part = σ.part;
  names = σ.names;
  singles = σ.singles;
  model = σ.model;
  rows = r;
  live = σ.live;
  held = σ.held;
}

abbrev pub with_live : Session → Live → Session
with_live σ l = record {
  part = σ.part;
  names = σ.names;
  singles = σ.singles;
  model = σ.model;
  rows = σ.rows;
  live = l;
  held = σ.held;
}

-- another value diagram and another k, in a part of the text
abbrev pub with_held : Session → Part → Held → Session
with_held σ part h = record {
  part = part;
  names = σ.names;
  singles = σ.singles;
  model = σ.model;
  rows = σ.rows;
  live = σ.live;
  held = h;
}

-- refused with r if b, else what follows
abbrev pub refuse_if : {A : Type 0} → Bool → Refusal → Outcome A → Outcome A
refuse_if b r after = cond b (refused r) after
