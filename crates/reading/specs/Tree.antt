-- What a diagram of a line stands for: its tree with every name resolved, in the order of the words (document 01, section 'Text').
use Rattle.std.specs.Prelude.{ℕ, ◌+◌, cond, List, [], ◌∷◌, ◌++◌, eqb, leb, length, get_or}
use Rattle.refusal.specs.declared.Refusal.TheVariants.{Name, Arity, Range}
use Rattle.refusal.specs.Outcome.{Outcome, ok, refused, and_then}
use Rattle.label.specs.Limits.{equality}
use Rattle.label.specs.Labels.{atom_from, test_of}
use Rattle.label.specs.declared.Test.{Test}
use Rattle.diagram.specs.Sizes.{highest_value}
use Rattle.words.specs.Bytes.{value_of}
use Rattle.words.specs.Keys.{key_of}
use Rattle.forms.specs.Tree as T
use Rattle.forms.specs.Tree.Mark.{plain, variable, parameter, minimum}
use Rattle.forms.specs.Tree.Term.{term}
use Rattle.forms.specs.Tree.Atom.{equal, holds}
use Rattle.forms.specs.Tree.Diagram.{number as numeral, branch as conditional}
use Rattle.names.specs.Keys.{place_of, is_among}
use Rattle.reading.specs.Operations.{Op}
use Rattle.reading.specs.Operations.Op.{leaf_op, ask, step}
use Rattle.reading.specs.Reading.{Environment, constant_number, parameter_number, met, Met, variable_number}
use Rattle.reading.specs.Reading.{minimum_number, variable_met, minimum_met}

-- a diagram as it is written, each atom as what it asks
pub data Reading : Type 0 where
  number : ℕ → Reading
  branch : Test → Reading → Reading → Reading

-- what a part of the line stands for, and the variables met by its end
pub record Result (A : Type 0) : Type 0 where
  pub value : A
  pub met : Met

abbrev pub having : {A : Type 0} → Met → Outcome A → Outcome (Result A)
having m (ok x) = ok (record { value = x; met = m })
having m (refused r) = refused r

abbrev pub resolve_term : Environment → Met → T.Term → Outcome (Result ℕ)
resolve_term σ m (term plain n) = having m (constant_number σ.constants (key_of n))
resolve_term σ m (term variable n) =
    having (variable_met σ.binding m (key_of n)) (variable_number σ.binding (met σ.binding m.variables (key_of n)) (key_of n))
resolve_term σ m (term parameter n) = having m (parameter_number σ.parameters (key_of n))
resolve_term σ m (term minimum n) =
    having (minimum_met σ.binding m (key_of n)) (minimum_number σ.binding (met σ.binding m.minimums (key_of n)) (key_of n))

abbrev pub joined : ℕ → Result (List ℕ) → Outcome (Result (List ℕ))
joined t g = ok (record { value = t ∷ g.value; met = g.met })

abbrev pub resolve_terms : Environment → Met → List T.Term → Outcome (Result (List ℕ))
resolve_terms σ m [] = ok (record { value = []; met = m })
resolve_terms σ m (t ∷ ts) = and_then (resolve_term σ m t) (λ g. and_then (resolve_terms σ g.met ts) (joined g.value))

abbrev pub testing : ℕ → Result (List ℕ) → Outcome (Result Test)
testing p g = ok (record { value = test_of (atom_from p g.value); met = g.met })

-- the predicate's own word first (2, then 3), then its terms
abbrev pub resolve_atom : Environment → Met → T.Atom → Outcome (Result Test)
resolve_atom σ m (equal a b) = and_then (resolve_terms σ m (a ∷ b ∷ [])) (testing equality)
resolve_atom σ m (holds p ts) =
    cond (is_among (key_of p) σ.predicates)
    (cond (eqb (length ts) (get_or σ.arities (place_of (key_of p) σ.predicates + 1) 0))
    (and_then (resolve_terms σ m ts) (testing (place_of (key_of p) σ.predicates + 1)))
    (refused Arity))
    (refused Name)

abbrev pub branching : Test → Reading → Result Reading → Outcome (Result Reading)
branching t h g = ok (record { value = branch t h g.value; met = g.met })

-- the atom, the diagram for true, the diagram for false
abbrev pub resolve_diagram : Environment → Met → T.Diagram → Outcome (Result Reading)
resolve_diagram σ m (numeral n) =
    cond (leb (value_of n) highest_value) (ok (record { value = number (value_of n); met = m })) (refused Range)
resolve_diagram σ m (conditional a d e) =
    and_then (resolve_atom σ m a) (λ t.
    and_then (resolve_diagram σ t.met d) (λ h.
    and_then (resolve_diagram σ h.met e) (branching t.value h.value)))

-- the operations of a diagram: the test, the part for true, the part for false, the step
abbrev pub ops_of : Reading → List Op
ops_of (number v) = leaf_op v ∷ []
ops_of (branch t h f) = ask t ∷ (ops_of h ++ (ops_of f ++ (step ∷ [])))
