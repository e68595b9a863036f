-- The form that a diagram is printed as, its bytes, and when 19 is given (document 02, L2; both kinds of variables, L12).
use Rattle.std.specs.Prelude.{Bool, cond, ◌||◌, List, [], ◌∷◌, map, ℕ, suc, ◌+◌, ◌-◌, max, length, get_or, eqb, ltb}
use Rattle.label.specs.Limits.{first_variable, first_minimum, equality}
use Rattle.label.specs.Labels.{predicate_of, place_at, unpacked, terms_of}
use Rattle.diagram.specs.Diagram.{Diagram, leaf, branch}
use Rattle.words.specs.Keys.{name_of}
use Rattle.words.specs.declared.Key.{Key}
use Rattle.forms.specs.Tree as T
use Rattle.forms.specs.Tree.Mark.{plain, variable, minimum}
use Rattle.forms.specs.Tree.Term.{term}
use Rattle.forms.specs.Tree.Atom.{equal, holds}
use Rattle.forms.specs.Tree.Diagram.{number as numeral, branch as conditional}
use Rattle.text.specs.declared.Kind.TheVariants as K
use Rattle.text.specs.Line.{most_line_bytes, most_open_brackets, Line}
use Rattle.text.specs.Line.Line.{line}
use Rattle.answers.specs.Digits.{digits}

-- the names of constants and predicates in bytes, in the order of their declaration
pub record Tables : Type 0 where
  pub constants : List (List ℕ)
  pub predicates : List (List ℕ)

-- the tables of the keys that a session keeps
unfoldable pub tables_of : List Key → List Key → Tables
unfolding name_of
tables_of cs ps = record { constants = map name_of cs; predicates = map name_of ps }

-- ===== 'one nested form' =====

-- 'with variables ?v0, ?v1 and so on in their order': the name of variable i of a kind is v and i in decimal
unfoldable pub variable_name : ℕ → List ℕ
variable_name i = 118 ∷ digits i

-- a term: a constant by its name, a variable by its number in its kind; minimum variables are written '%v0, %v1 and so on' (document 02, L12). A value diagram
-- has no parameter
unfoldable pub term_tree : Tables → ℕ → T.Term
unfolding variable_name
term_tree n t =
    cond (ltb t first_variable) (term plain (get_or n.constants t []))
    (cond (ltb t first_minimum) (term variable (variable_name (t - first_variable))) (term minimum (variable_name (t - first_minimum))))

-- the test of a label: (= A B), the smaller term first as the label has it, or a predicate's name and its terms
unfoldable pub atom_tree : List ℕ → Tables → ℕ → T.Atom
unfolding term_tree
atom_tree ar n l =
    cond (eqb (predicate_of l) equality) (equal (term_tree n (place_at l 0)) (term_tree n (place_at l 1)))
    (holds (get_or n.predicates (predicate_of l - 1) []) (map (term_tree n) (terms_of ar (unpacked l))))

-- a leaf is its number, a branch (if ATOM DIAGRAM DIAGRAM). 'Shared rows are written out each time': the form follows the tree
unfoldable pub form_tree : List ℕ → Tables → Diagram → T.Diagram
unfolding atom_tree
form_tree ar n (leaf v) = numeral (digits v)
form_tree ar n (branch l t f) = conditional (atom_tree ar n l) (form_tree ar n t) (form_tree ar n f)

-- what (text) prints before its line feed
abbrev pub form_bytes : List ℕ → Tables → Diagram → List ℕ
form_bytes ar n d = T.diagram_bytes (form_tree ar n d)

-- 'the reward line made of the form'
abbrev pub reward_of : List ℕ → Tables → Diagram → Line
reward_of ar n d = line K.Reward (form_tree ar n d)

-- ===== 'New numbers: 19, the reward line made of the form would pass 4,095 bytes or 64 open brackets' =====

-- how many bytes: ?v or %v, and the digits of a variable
unfoldable pub term_length : Tables → ℕ → ℕ
term_length n t =
    cond (ltb t first_variable) (length (get_or n.constants t []))
    (cond (ltb t first_minimum) (2 + length (digits (t - first_variable))) (2 + length (digits (t - first_minimum))))

-- terms, each with a space before it
unfoldable pub terms_length : Tables → List ℕ → ℕ
unfolding term_length
terms_length n [] = 0
terms_length n (t ∷ ts) = 1 + term_length n t + terms_length n ts

-- (= A B) has five bytes besides its terms, (p ..) has two besides its name and its terms
unfoldable pub atom_length : List ℕ → Tables → ℕ → ℕ
unfolding term_length terms_length
atom_length ar n l =
    cond (eqb (predicate_of l) equality) (5 + term_length n (place_at l 0) + term_length n (place_at l 1))
    (2 + length (get_or n.predicates (predicate_of l - 1) []) + terms_length n (terms_of ar (unpacked l)))

-- (if ATOM DIAGRAM DIAGRAM) has seven besides its parts
unfoldable pub form_length : List ℕ → Tables → Diagram → ℕ
unfolding atom_length
form_length ar n (leaf v) = length (digits v)
form_length ar n (branch l t f) = 7 + atom_length ar n l + form_length ar n t + form_length ar n f

-- how many brackets are open together: an atom's own inside its (if ..)
unfoldable pub open_brackets : Diagram → ℕ
open_brackets (leaf v) = 0
open_brackets (branch l t f) = suc (max 1 (max (open_brackets t) (open_brackets f)))

-- (reward FORM) has nine bytes and one bracket besides its form
unfoldable pub is_too_long : List ℕ → Tables → Diagram → Bool
unfolding form_length open_brackets
is_too_long ar n d = ltb most_line_bytes (9 + form_length ar n d) || ltb most_open_brackets (1 + open_brackets d)
