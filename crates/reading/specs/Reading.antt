-- A line's words with a diagram in it, one after another: what each word stands for, and the first fault (document 01, section 'Text',
-- and under the refusals: 'word by word 2, 3, 6, 4, with 3 found at the predicate's own word; then its diagram 8').
use Rattle.std.specs.Prelude.{ℕ, ◌+◌, ◌-◌, min, Bool, ◌&&◌, cond, List, [], ◌∷◌, ◌++◌, eqb, leb, length, get_or}
use Rattle.refusal.specs.declared.Refusal.TheVariants.{Form, Name, Arity, Range, Unbound, Variables}
use Rattle.refusal.specs.Outcome.{Outcome, ok, refused, and_then}
use Rattle.label.specs.Limits.{first_variable, variable_count, first_minimum, minimum_count, equality, equality_arity}
use Rattle.label.specs.Terms.{constant_term, parameter_term}
use Rattle.label.specs.Labels.{atom_from, test_of}
use Rattle.diagram.specs.Sizes.{highest_value}
use Rattle.words.specs.declared.Key.{Key}
use Rattle.names.specs.Keys.{place_of, is_among}
use Rattle.events.specs.declared.Event.{Event}
use Rattle.events.specs.declared.Event.TheVariants as E
use Rattle.reading.specs.declared.Binding.{Binding}
use Rattle.reading.specs.declared.Binding.TheVariants.{Any, None, Only}
use Rattle.reading.specs.Operations.{Op}
use Rattle.reading.specs.Operations.Op.{leaf_op, ask, step}

-- the names that stand for something on the line. Predicates are numbered from 1 as declared; a reward has no parameters, a weight and a truth
-- diagram have those of the action
pub record Environment : Type 0 where
  pub constants : List Key
  pub predicates : List Key
  pub arities : List ℕ
  pub parameters : List Key
  pub binding : Binding

-- terms

-- a name is a declared constant, or 2
unfoldable pub constant_number : List Key → Key → Outcome ℕ
constant_number ks k = cond (is_among k ks) (ok (constant_term (place_of k ks))) (refused Name)

-- !name is a parameter 'of this action', or 6
unfoldable pub parameter_number : List Key → Key → Outcome ℕ
parameter_number ks k = cond (is_among k ks) (ok (parameter_term (place_of k ks))) (refused Unbound)

-- the variables of one kind met so far, in the order of their first occurrence, after ?name or %name. One more than the limit is kept: a line
-- with more than that many is refused whatever the others are
unfoldable pub met : Binding → List Key → Key → List Key
met Any vs k = cond (is_among k vs) vs (cond (leb (length vs) variable_count) (vs ++ (k ∷ [])) vs)
met None vs k = vs
met Only vs k = vs

-- the variables met so far, kind by kind: ?x and %x are two variables (document 02, L12)
pub record Met : Type 0 where
  pub variables : List Key
  pub minimums : List Key

-- the arguments vs of a truth diagram; a weight has none
abbrev pub arguments : List Key → Met
arguments vs = record { variables = vs; minimums = [] }

-- the place of the last variable of a kind that has a number
abbrev pub last_variable : ℕ
last_variable = variable_count - 1

-- numbered by first occurrence, from the first number of the kind on. A variable past the last is given the last number: its line is refused
-- after its words (8)
unfoldable pub number_in : ℕ → List Key → Key → ℕ
number_in first vs k = first + min (place_of k vs) last_variable

-- ?name: in a reward any, in a weight none (6), in a truth diagram an argument or 6
unfoldable pub variable_number : Binding → List Key → Key → Outcome ℕ
variable_number Any vs k = ok (number_in first_variable vs k)
variable_number None vs k = refused Unbound
variable_number Only vs k = cond (is_among k vs) (ok (number_in first_variable vs k)) (refused Unbound)

-- %name: 'Allow %name in rewards as a minimum variable' (document 02, L12); in a weight and in a truth diagram it is 6
unfoldable pub minimum_number : Binding → List Key → Key → Outcome ℕ
minimum_number Any vs k = ok (number_in first_minimum vs k)
minimum_number None vs k = refused Unbound
minimum_number Only vs k = refused Unbound

-- atoms and operations

-- the atom under way: its predicate, its terms so far, how many are still due; and the operations so far
pub record Pass : Type 0 where
  pub predicate : ℕ
  pub terms : List ℕ
  pub due : ℕ
  pub operations : List Op

-- one operation more
abbrev pub more : Pass → Op → Pass
more p o = record { predicate = p.predicate; terms = p.terms; due = p.due; operations = p.operations ++ (o ∷ []) }

-- an atom is asked once none of its terms is due
unfoldable pub asked : Pass → Pass
asked p = cond (eqb p.due 0) (more p (ask (test_of (atom_from p.predicate p.terms)))) p

-- an atom of the predicate q begins, n terms due
abbrev pub beginning : Pass → ℕ → ℕ → Pass
beginning p q n = record { predicate = q; terms = []; due = n; operations = p.operations }

unfoldable pub begun : Pass → ℕ → ℕ → Pass
begun p q n = asked (beginning p q n)

-- the term t is the next one
abbrev pub filling : Pass → ℕ → Pass
filling p t = record { predicate = p.predicate; terms = p.terms ++ (t ∷ []); due = p.due - 1; operations = p.operations }

-- where no term is due the line is not the grammar
unfoldable pub term_word : Pass → Outcome ℕ → Outcome Pass
term_word p (ok t) = cond (eqb p.due 0) (refused Form) (ok (asked (filling p t)))
term_word p (refused r) = refused r

-- a leaf: 'number outside its range' is 4
unfoldable pub number_word : Pass → ℕ → Outcome Pass
number_word p v = cond (leb v highest_value) (ok (more p (leaf_op v))) (refused Range)

-- the name of an atom with n terms behind it: a declared predicate, or 2; n its arity, or 3
unfoldable pub atom_word : Environment → Pass → Key → ℕ → Outcome Pass
atom_word σ p k n =
    cond (is_among k σ.predicates)
    (cond (eqb n (get_or σ.arities (place_of k σ.predicates + 1) 0)) (ok (begun p (place_of k σ.predicates + 1) n)) (refused Arity))
    (refused Name)

-- words

-- one variable more of a kind
abbrev pub variable_met : Binding → Met → Key → Met
variable_met b m k = record { variables = met b m.variables k; minimums = m.minimums }

abbrev pub minimum_met : Binding → Met → Key → Met
minimum_met b m k = record { variables = m.variables; minimums = met b m.minimums k }

-- the variables after a word
abbrev pub met_at : Binding → Met → Event → Met
met_at b m (E.Name k) = m
met_at b m (E.Variable k) = variable_met b m k
met_at b m (E.Parameter k) = m
met_at b m (E.Minimum k) = minimum_met b m k
met_at b m (E.Number v) = m
met_at b m E.Equal = m
met_at b m (E.Holds k n) = m
met_at b m E.Step = m
met_at b m E.End = m

-- a word, judged with the variables m
unfoldable pub word : Environment → Met → Pass → Event → Outcome Pass
word σ m p (E.Name k) = term_word p (constant_number σ.constants k)
word σ m p (E.Variable k) = term_word p (variable_number σ.binding m.variables k)
word σ m p (E.Parameter k) = term_word p (parameter_number σ.parameters k)
word σ m p (E.Minimum k) = term_word p (minimum_number σ.binding m.minimums k)
word σ m p (E.Number v) = number_word p v
word σ m p E.Equal = ok (begun p equality equality_arity)
word σ m p (E.Holds k n) = atom_word σ p k n
word σ m p E.Step = ok (more p step)
word σ m p E.End = ok p

-- how far the words are read: the variables met, and the pass
pub record State : Type 0 where
  pub met : Met
  pub pass : Pass

abbrev pub with-pass : Met → Outcome Pass → Outcome State
with-pass m (ok p) = ok (record { met = m; pass = p })
with-pass m (refused r) = refused r

abbrev pub read_word : Environment → State → Event → Outcome State
read_word σ s e = with-pass (met_at σ.binding s.met e) (word σ (met_at σ.binding s.met e) s.pass e)

-- all words: the first fault decides
unfoldable pub read_words : Environment → List Event → State → Outcome State
read_words σ [] s = ok s
read_words σ (e ∷ es) s = and_then (read_word σ s e) (read_words σ es)

-- the whole pass

-- what is read: the variables, and the operations
pub record Written : Type 0 where
  pub met : Met
  pub operations : List Op

-- '8 judges each kind by itself' (document 02, L12)
abbrev pub is_within : Met → Bool
is_within m = leb (length m.variables) variable_count && leb (length m.minimums) minimum_count

-- after all words, more variables of a kind than the limit are 8
abbrev pub written : Met → List Op → Outcome Written
written m o = cond (is_within m) (ok (record { met = m; operations = o })) (refused Variables)

abbrev pub finished : State → Outcome Written
finished s = written s.met s.pass.operations

abbrev pub begin : Met → State
begin m = record {
  met = m;
  pass = record { predicate = equality; terms = []; due = 0; operations = [] };
}

-- the words es, the variables m known before them
unfoldable pub reading : Environment → List Event → Met → Outcome Written
reading σ es m = and_then (read_words σ es (begin m)) finished
