-- What the code's structs and answers stand for, and what its functions ask of their callers and promise.
use Rattle.std.specs.Prelude.{ℕ, ◌+◌, ◌*◌, ◌≤◌, ◌<◌, ◌≡◌, true, ◌&&◌, cond, leb, List, length, take, drop, set}
use Rattle.refusal.specs.declared.Refusal.TheVariants as F
use Rattle.refusal.specs.Outcome.{Outcome, ok, refused}
use Rattle.label.specs.Limits.{constant_count, parameter_count, predicate_count, term_base, term_end, most_places, variable_count, minimum_count}
use Rattle.label.specs.Labels.{are_arities, places_of, place_in, atom_from, unpacked}
use Rattle.label.specs.Callers.{Packable}
use Rattle.label.specs.declared.Atom.{Atom}
use Rattle.words.specs.declared.Key.{Key}
use Rattle.events.specs.Front.{events_of}
use Rattle.names.specs.Keys.{keys_at}
use Rattle.names.specs.Layout.{constants_at, declared_at, parameters_at, name_words}
use Rattle.reading.specs.Head.{Head}
use Rattle.reading.specs.Reading.{Environment, Met, Pass, State, Written}
use Rattle.reader.specs.declared.Scope.{Scope}
use Rattle.reader.specs.declared.Known.{Known}
use Rattle.reader.specs.declared.Progress.{Progress}
use Rattle.reader.specs.OperationWords.{ops_in}
use Rattle.refusal.specs.declared.Refusal.{Refusal}
use Rattle.std.specs.Prelude.{Result}
use Rattle.std.specs.Prelude.{Ok, Err}

-- a table of variables has a part for each kind, which keeps one more than the limit, of two words each: the maximum variables first
abbrev pub kept_count : ℕ
kept_count = variable_count + 1

abbrev pub part_words : ℕ
part_words = kept_count * 2

abbrev pub variable_words : ℕ
variable_words = part_words * 2

-- the variables of the table vs, so many of each kind
abbrev pub met_in : List ℕ → Known → Met
met_in vs n = record { variables = keys_at vs 0 n.variables; minimums = keys_at vs part_words n.minimums }

-- n arguments, and no minimum variable
abbrev pub argument_count : ℕ → Known
argument_count n = record { variables = n; minimums = 0 }

-- the names of the tables ns, as many as the scope counts
abbrev pub names_of : List ℕ → List ℕ → Scope → Environment
names_of ns ar s = record {
  constants = keys_at ns constants_at s.constants;
  predicates = keys_at ns declared_at s.predicates;
  arities = ar;
  parameters = keys_at ns parameters_at s.parameters;
  binding = s.binding;
}

-- the atom with the term t in place k
abbrev pub placed : Atom → ℕ → ℕ → Atom
placed a k t = atom_from a.predicate (set (places_of a) k t)

-- the atom under way, its unfilled places 0
abbrev pub atom_of : Progress → Atom
atom_of p = unpacked p.label.packed

-- the pass whose operations stand in os
abbrev pub pass_of : List ℕ → Progress → Pass
pass_of os p = record {
  predicate = (atom_of p).predicate;
  terms = take p.filled (places_of (atom_of p));
  due = p.due;
  operations = ops_in os p.operations;
}

abbrev pub judged_number : Result ℕ Refusal → Outcome ℕ
judged_number (Ok t) = ok t
judged_number (Err r) = refused r

abbrev pub judged_pass : List ℕ → Result Progress Refusal → Outcome Pass
judged_pass os (Ok p) = ok (pass_of os p)
judged_pass os (Err r) = refused r

-- and the state that its words have come to
abbrev pub state_of : List ℕ → Known → List ℕ → Progress → State
state_of vs n os p = record { met = met_in vs n; pass = pass_of os p }

-- the answer after all words, with n variables and m operations
abbrev pub read_answer : Known → ℕ → Result (ℕ × Known) Refusal
read_answer n m = cond (leb n.variables variable_count && leb n.minimums minimum_count) (Ok (m, n)) (Err F.Variables)

abbrev pub judged_written : List ℕ → List ℕ → Result (ℕ × Known) Refusal → Outcome Written
judged_written vs os (Ok (n, m)) = ok (record { met = met_in vs m; operations = ops_in os n })
judged_written vs os (Err r) = refused r

-- the predicate's number of a head
abbrev pub judged_predicate : Result ℕ Refusal → Outcome ℕ
judged_predicate (Ok i) = ok i
judged_predicate (Err r) = refused r

-- it is a declared one of n
abbrev pub PredicateWithin : ℕ → Result ℕ Refusal → Type 0
PredicateWithin n (Ok i) = (0 < i) × (i ≤ n)
PredicateWithin n (Err r) = Unit {0}

-- the promise of reading a head's predicate, n declared: the answer w
pub record Opens (n : ℕ) (w : Outcome ℕ) (r : Result ℕ Refusal) : Type 0 where
  pub answer : judged_predicate r ≡ w
  pub within : PredicateWithin n r

-- n arguments in vs, and the words of the line behind them
abbrev pub judged_head : List ℕ → List ℕ → ℕ → Result ℕ Refusal → Outcome Head
judged_head line vs n (Ok i) = ok (record { variables = keys_at vs 0 n; rest = events_of (drop i line) })
judged_head line vs n (Err r) = refused r

-- the place behind the head is one of the line
abbrev pub HeadWithin : List ℕ → Result ℕ Refusal → Type 0
HeadWithin line (Ok i) = i ≤ length line
HeadWithin line (Err r) = Unit {0}

-- the promise of reading a head's arguments: the answer w
pub record Heads (line : List ℕ) (n : ℕ) (w : Outcome Head) (r : Result ℕ Refusal) (vs' : List ℕ) : Type 0 where
  pub answer : judged_head line vs' n r ≡ w
  pub within : HeadWithin line r

-- the operations lie within the words os
abbrev pub ReadWithin : List ℕ → Result (ℕ × Known) Refusal → Type 0
ReadWithin os (Ok (n, m)) = n * 2 ≤ length os
ReadWithin os (Err r) = Unit {0}

-- the promise of reading a line's words: the answer w
pub record Reads (w : Outcome Written) (r : Result (ℕ × Known) Refusal) (vs' os' : List ℕ) : Type 0 where
  pub answer : judged_written vs' os' r ≡ w
  pub within : ReadWithin os' r

-- the tables of names, and the arity list
pub record Tables (ns ar : List ℕ) (s : Scope) : Type 0 where
  pub words : name_words ≤ length ns
  pub constants-fit : s.constants ≤ constant_count
  pub predicates-fit : s.predicates < predicate_count
  pub parameters-fit : s.parameters ≤ parameter_count
  pub arities-fit : are_arities ar ≡ true

-- a part of a table of variables
pub record Part (vs : List ℕ) (count : ℕ) : Type 0 where
  pub words : part_words ≤ length vs
  pub within : count ≤ kept_count

-- a table of variables
pub record Variables (vs : List ℕ) (n : Known) : Type 0 where
  pub words : variable_words ≤ length vs
  pub variables-fit : n.variables ≤ kept_count
  pub minimums-fit : n.minimums ≤ kept_count

-- what reading a line's words takes: a place of the line, tables, and two words of operations for each byte
pub record Readable (line : List ℕ) (place : ℕ) (ns ar vs os : List ℕ) (s : Scope) (known : Known) : Type 0 where
  pub within : place ≤ length line
  pub tables : Tables ns ar s
  pub variables : Variables vs known
  pub words : length line * 2 ≤ length os

-- an atom that packs, with places for the terms still due, and 0 in these
pub record Going (p : Progress) : Type 0 where
  pub packable : Packable (atom_of p)
  pub places : p.filled + p.due ≤ most_places
  pub unfilled : (k : ℕ) → p.filled ≤ k → place_in (atom_of p) k ≡ 0

-- and words for one operation more
pub record Room (os : List ℕ) (p : Progress) : Type 0 where
  pub going : Going p
  pub room : p.operations * 2 + 2 ≤ length os

-- a label whose place k is 0, and a term to stand there
pub record Fillable (l k t : ℕ) : Type 0 where
  pub packable : Packable (unpacked l)
  pub place : k < most_places
  pub zero : place_in (unpacked l) k ≡ 0
  pub term : t < term_base

abbrev pub TermBelow : Result ℕ Refusal → Type 0
TermBelow (Ok t) = t < term_end
TermBelow (Err r) = Unit {0}

-- what a word adds: at most one operation
pub record Advanced (p q : Progress) : Type 0 where
  pub going : Going q
  pub one : q.operations ≤ p.operations + 1

abbrev pub AdvancedBy : Progress → Result Progress Refusal → Type 0
AdvancedBy p (Ok q) = Advanced p q
AdvancedBy p (Err r) = Unit {0}

-- the promise of a function that resolves a term: the answer w
pub record Resolves (w : Outcome ℕ) (r : Result ℕ Refusal) : Type 0 where
  pub answer : judged_number r ≡ w
  pub below : TermBelow r

-- the promise of a function that meets a variable of one kind: the variables w in its part
pub record Meets (w : List Key) (r : ℕ) (vs' : List ℕ) : Type 0 where
  pub variables : keys_at vs' 0 r ≡ w
  pub table : Part vs' r

-- the promise of a function that meets a word: the variables w
pub record MeetsWord (w : Met) (r : Known) (vs' : List ℕ) : Type 0 where
  pub met : met_in vs' r ≡ w
  pub table : Variables vs' r

-- the promise of a function that goes on with the pass: the pass w, or the answer w
pub record Goes (p : Progress) (w : Pass) (r : Progress) (os' : List ℕ) : Type 0 where
  pub pass : pass_of os' r ≡ w
  pub advanced : Advanced p r

pub record Steps (p : Progress) (w : Outcome Pass) (r : Result Progress Refusal) (os' : List ℕ) : Type 0 where
  pub answer : judged_pass os' r ≡ w
  pub advanced : AdvancedBy p r
