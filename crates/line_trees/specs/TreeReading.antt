-- What the words of a diagram's tree stand for, and the first fault among them (document 01, section 'Text', and under the refusals: 'word by word 2, 3, 6, 4, with 3
-- found at the predicate's own word; then its diagram 8').
use Rattle.std.specs.Prelude.{not, cond, List, [], ◌∷◌, ◌++◌, ℕ, length, get_or, leb, eqb}
use Rattle.refusal.specs.declared.Refusal.{Refusal}
use Rattle.refusal.specs.declared.Refusal.TheVariants.{Name, Arity, Range, Unbound, Variables}
use Rattle.refusal.specs.Outcome.{Outcome, ok, and_then}
use Rattle.label.specs.Limits.{equality}
use Rattle.label.specs.Terms.{constant_term, parameter_term, variable_term, minimum_term}
use Rattle.label.specs.Labels.{atom_from, test_of}
use Rattle.label.specs.declared.Test.{Test}
use Rattle.diagram.specs.Sizes.{highest_value}
use Rattle.words.specs.Bytes.{value_of}
use Rattle.words.specs.Keys.{key_of}
use Rattle.words.specs.declared.Key.{Key}
use Rattle.names.specs.Keys.{place_of, is_among}
use Rattle.forms.specs.Tree as T
use Rattle.forms.specs.Tree.Mark.{plain, variable, parameter, minimum}
use Rattle.forms.specs.Tree.Term.{term}
use Rattle.forms.specs.Tree.Atom.{equal, holds}
use Rattle.forms.specs.Tree.Diagram.{number as numeral, branch as conditional}
use Rattle.reading.specs.Reading.{Met, arguments, is_within}
use Rattle.reading.specs.Numbering.{variables_first}
use Rattle.reading.specs.Tree.{Reading}
use Rattle.reading.specs.Tree.Reading.{number, branch}
use Rattle.session.specs.Session.{Session, refuse_if}
use Rattle.session.specs.Facts.{predicate_of}

-- ===== Variables: 'numbered .. by first occurrence on the line', from the first number of their kind on (document 02, L8 and L12) =====

-- the terms of an atom and of a diagram in the order of the words
abbrev pub atom_terms : T.Atom → List T.Term
atom_terms (equal a b) = a ∷ b ∷ []
atom_terms (holds p ts) = ts

abbrev pub diagram_terms : T.Diagram → List T.Term
diagram_terms (numeral n) = []
diagram_terms (conditional a d e) = atom_terms a ++ (diagram_terms d ++ diagram_terms e)

-- a variable behind others, each once
abbrev pub with_one : List Key → Key → List Key
with_one vs k = cond (is_among k vs) vs (vs ++ (k ∷ []))

-- the variables m, and behind them those of the terms, kind by kind: ?name and %name
abbrev pub variables_after : Met → List T.Term → Met
variables_after m [] = m
variables_after m (term plain n ∷ ts) = variables_after m ts
variables_after m (term parameter n ∷ ts) = variables_after m ts
variables_after m (term variable n ∷ ts) = variables_after (record { variables = with_one m.variables (key_of n); minimums = m.minimums }) ts
variables_after m (term minimum n ∷ ts) = variables_after (record { variables = m.variables; minimums = with_one m.minimums (key_of n) }) ts

-- the keys of the variables among the terms, as often as they are written
abbrev pub term_keys : List T.Term → Met
term_keys [] = arguments []
term_keys (term plain n ∷ ts) = term_keys ts
term_keys (term parameter n ∷ ts) = term_keys ts
term_keys (term variable n ∷ ts) = record { variables = key_of n ∷ (term_keys ts).variables; minimums = (term_keys ts).minimums }
term_keys (term minimum n ∷ ts) = record { variables = (term_keys ts).variables; minimums = key_of n ∷ (term_keys ts).minimums }

-- those of a reward: 'Where every variable of a reward is written in that way, N without leading zeros, the reader numbers them by ascending N instead of by first
-- occurrence' (document 02, L2), 'likewise, kind by kind' (L12)
abbrev pub first_variables : T.Diagram → Met
first_variables d = let ks = term_keys (diagram_terms d) in record { variables = variables_first ks.variables; minimums = variables_first ks.minimums }

abbrev pub reward_variables : T.Diagram → Met
reward_variables d = variables_after (first_variables d) (diagram_terms d)

-- ===== Names =====

-- a name among ks has the number of its place there, any other is refused
abbrev pub numbered : (ℕ → ℕ) → List Key → Refusal → List ℕ → Outcome ℕ
numbered f ks r n = refuse_if (not (is_among (key_of n) ks)) r (ok (f (place_of (key_of n) ks)))

-- on a line of the session σ that may name the parameters ps and the variables vs
module _ (σ : Session) (ps : List Key) (vs : Met) where
  -- a declared constant, or 2; a parameter or a variable that is allowed here, or 6
  abbrev pub term_number : T.Term → Outcome ℕ
  term_number (term plain n) = numbered constant_term σ.names.constants Name n
  term_number (term parameter n) = numbered parameter_term ps Unbound n
  term_number (term variable n) = numbered variable_term vs.variables Unbound n
  term_number (term minimum n) = numbered minimum_term vs.minimums Unbound n

  abbrev pub term_numbers : List T.Term → Outcome (List ℕ)
  term_numbers [] = ok []
  term_numbers (t ∷ ts) = and_then (term_number t) (λ x. and_then (term_numbers ts) (λ xs. ok (x ∷ xs)))

  -- what an atom asks: a declared predicate, or 2, with its arity, or 3; then its terms
  abbrev pub atom_test : T.Atom → Outcome Test
  atom_test (equal a b) = and_then (term_numbers (a ∷ b ∷ [])) (λ ts. ok (test_of (atom_from equality ts)))
  atom_test (holds p ts) =
      refuse_if (not (is_among (key_of p) σ.names.predicates)) Name
      (refuse_if (not (eqb (length ts) (get_or σ.model.arities (predicate_of σ.names (key_of p)) 0))) Arity
      (and_then (term_numbers ts) (λ us. ok (test_of (atom_from (predicate_of σ.names (key_of p)) us)))))

  -- a number in its range, or 4; the atom, the diagram for true, the diagram for false
  abbrev pub diagram_words : T.Diagram → Outcome Reading
  diagram_words (numeral n) = refuse_if (not (leb (value_of n) highest_value)) Range (ok (number (value_of n)))
  diagram_words (conditional a d e) =
      and_then (atom_test a) (λ t.
      and_then (diagram_words d) (λ h.
      and_then (diagram_words e) (λ f.
      ok (branch t h f))))

  -- after all words more variables of a kind than the limit are 8
  unfoldable pub read_tree : T.Diagram → Outcome Reading
  read_tree d = and_then (diagram_words d) (λ r. refuse_if (not (is_within vs)) Variables (ok r))
