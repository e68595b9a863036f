-- Cases of document 02, L2 and L12, on the definitions: which names are written in that way, and what is printed.
use Rattle.std.specs.Prelude.{◌≡◌, refl, true, false, List, [], ◌∷◌, ℕ}
use Rattle.label.specs.Labels.{predicate_of, place_at, unpacked, terms_of}
use Rattle.diagram.specs.Diagram.{Diagram, leaf, branch}
use Rattle.words.specs.Bytes.{is_digit, run, decimal, decimal_from}
use Rattle.words.specs.Words.{number_form}
use Rattle.words.specs.Keys.{little, key_of, bytes_within, name_of}
use Rattle.words.specs.declared.Key.{Key}
use Rattle.forms.specs.Tree as T
use Rattle.forms.specs.Tree.Mark.{variable, minimum}
use Rattle.forms.specs.Tree.Term.{term}
use Rattle.forms.specs.Tree.Atom.{holds}
use Rattle.forms.specs.Tree.Diagram.{number as numeral, branch as conditional}
use Rattle.answers.specs.Digits.{digits, digits_within}
use Rattle.events.specs.Events.{diagram_events}
use Rattle.reading.specs.Occurrences.{variable_keys}
use Rattle.reading.specs.Numbering.{is_numbered, number_of, inserted, variables_first, met_first}
use Rattle.diagram_form.specs.Form.{Tables, variable_name, term_tree, atom_tree, form_tree, form_bytes}

-- v0 and v10 are written in that way; v00, v01, v, v1a and w0 are not
pub names-written : (is_numbered (118 ∷ 48 ∷ []) ≡ true) × (is_numbered (118 ∷ 49 ∷ 48 ∷ []) ≡ true)
    × (is_numbered (118 ∷ 48 ∷ 48 ∷ []) ≡ false) × (is_numbered (118 ∷ 48 ∷ 49 ∷ []) ≡ false) × (is_numbered (118 ∷ []) ≡ false)
    × (is_numbered (118 ∷ 49 ∷ 97 ∷ []) ≡ false) × (is_numbered (119 ∷ 48 ∷ []) ≡ false)
unfolding is_numbered number_form run is_digit
names-written = (refl, refl, refl, refl, refl, refl, refl)

-- (if (q ?a) (if (p ?b ?a) 5 0) 0)
abbrev pub example : List ℕ → List ℕ → T.Diagram
example a b =
    conditional (holds (113 ∷ []) (term variable a ∷ []))
    (conditional (holds (112 ∷ []) (term variable b ∷ term variable a ∷ [])) (numeral (53 ∷ [])) (numeral (48 ∷ [])))
    (numeral (48 ∷ []))

-- the variables that have their number before the words
abbrev first_of : T.Diagram → List Key
first_of d = variables_first (variable_keys (diagram_events d))

-- written with ?v7 and ?v3, ?v3 comes first; with ?v07 for ?v7, first occurrence is back
pub variables-written : (first_of (example (118 ∷ 55 ∷ []) (118 ∷ 51 ∷ [])) ≡ key_of (118 ∷ 51 ∷ []) ∷ key_of (118 ∷ 55 ∷ []) ∷ [])
    × (first_of (example (118 ∷ 48 ∷ 55 ∷ []) (118 ∷ 51 ∷ [])) ≡ [])
unfolding variables_first is_numbered number_of inserted number_form run is_digit decimal decimal_from key_of little name_of bytes_within
variables-written = (refl, refl)

-- (if (p ?a %b) (if (p ?c %d) 5 0) 0)
abbrev pub both : List ℕ → List ℕ → List ℕ → List ℕ → T.Diagram
both a b c d =
    conditional (holds (112 ∷ []) (term variable a ∷ term minimum b ∷ []))
    (conditional (holds (112 ∷ []) (term variable c ∷ term minimum d ∷ [])) (numeral (53 ∷ [])) (numeral (48 ∷ [])))
    (numeral (48 ∷ []))

-- kind by kind (L12): with ?v7 %v1 and ?v3 %v0 both kinds are by ascending N; with %x for %v1 only the other kind is
pub kinds-written : (met_first (diagram_events (both (118 ∷ 55 ∷ []) (118 ∷ 49 ∷ []) (118 ∷ 51 ∷ []) (118 ∷ 48 ∷ [])))
    ≡ record { variables = key_of (118 ∷ 51 ∷ []) ∷ key_of (118 ∷ 55 ∷ []) ∷ []; minimums = key_of (118 ∷ 48 ∷ []) ∷ key_of (118 ∷ 49 ∷ []) ∷ [] })
    × (met_first (diagram_events (both (118 ∷ 55 ∷ []) (120 ∷ []) (118 ∷ 51 ∷ []) (118 ∷ 48 ∷ [])))
    ≡ record { variables = key_of (118 ∷ 51 ∷ []) ∷ key_of (118 ∷ 55 ∷ []) ∷ []; minimums = [] })
unfolding variables_first is_numbered number_of inserted number_form run is_digit decimal decimal_from key_of little name_of bytes_within
kinds-written = (refl, refl)

-- the constant hub and the predicate stock of the run in document 01
abbrev pub tables : Tables
tables = record { constants = (104 ∷ 117 ∷ 98 ∷ []) ∷ []; predicates = (115 ∷ 116 ∷ 111 ∷ 99 ∷ 107 ∷ []) ∷ [] }

-- (if (stock hub) 10 (if (stock ?v1) 5 0)), (if (= hub ?v0) 1 0), and with minimum variables (if (stock %v0) 1 0) and (if (= ?v0 %v1) 1 0)
pub forms-printed : (form_bytes (2 ∷ 1 ∷ []) tables (branch 281474976710656 (leaf 10) (branch 352943232516096 (leaf 5) (leaf 0)))
    ≡ 40 ∷ 105 ∷ 102 ∷ 32 ∷ 40 ∷ 115 ∷ 116 ∷ 111 ∷ 99 ∷ 107 ∷ 32 ∷ 104 ∷ 117 ∷ 98 ∷ 41 ∷ 32 ∷ 49 ∷ 48 ∷ 32 ∷ 40 ∷ 105 ∷ 102 ∷ 32 ∷ 40 ∷ 115 ∷ 116 ∷ 111 ∷ 99 ∷
    107 ∷ 32 ∷ 63 ∷ 118 ∷ 49 ∷ 41 ∷ 32 ∷ 53 ∷ 32 ∷ 48 ∷ 41 ∷ 41 ∷ [])
    × (form_bytes (2 ∷ 1 ∷ []) tables (branch 274877906944 (leaf 1) (leaf 0)) ≡ 40 ∷ 105 ∷ 102 ∷ 32 ∷ 40 ∷ 61 ∷ 32 ∷ 104 ∷ 117 ∷ 98 ∷ 32 ∷ 63 ∷ 118 ∷ 48 ∷ 41 ∷ 32 ∷ 49 ∷ 32 ∷ 48 ∷ 41 ∷ [])
    × (form_bytes (2 ∷ 1 ∷ []) tables (branch 422212465065984 (leaf 1) (leaf 0))
    ≡ 40 ∷ 105 ∷ 102 ∷ 32 ∷ 40 ∷ 115 ∷ 116 ∷ 111 ∷ 99 ∷ 107 ∷ 32 ∷ 37 ∷ 118 ∷ 48 ∷ 41 ∷ 32 ∷ 49 ∷ 32 ∷ 48 ∷ 41 ∷ [])
    × (form_bytes (2 ∷ 1 ∷ []) tables (branch 70922794958848 (leaf 1) (leaf 0))
    ≡ 40 ∷ 105 ∷ 102 ∷ 32 ∷ 40 ∷ 61 ∷ 32 ∷ 63 ∷ 118 ∷ 48 ∷ 32 ∷ 37 ∷ 118 ∷ 49 ∷ 41 ∷ 32 ∷ 49 ∷ 32 ∷ 48 ∷ 41 ∷ [])
unfolding form_tree atom_tree term_tree variable_name predicate_of place_at unpacked terms_of digits digits_within
forms-printed = (refl, refl, refl, refl)
