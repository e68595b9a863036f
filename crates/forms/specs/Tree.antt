-- Terms, atoms and diagrams as trees, the bytes that a tree is written as, and which trees are well formed
-- (document 01, section 'Text').
use Rattle.std.specs.Prelude.{ℕ, suc, max, List, [], ◌∷◌, ◌++◌}
use Rattle.words.specs.Words.{IsName, IsNumber}

-- '?name is a variable, !name a parameter', '%name .. a minimum variable' (document 02, L12); a name alone is a constant
pub data Mark : Type 0 where
  plain variable parameter minimum : Mark

pub data Term : Type 0 where
  term : Mark → List ℕ → Term

-- 'An atom is (name TERM ..) or (= TERM TERM)'
pub data Atom : Type 0 where
  equal : Term → Term → Atom
  holds : List ℕ → List Term → Atom

-- 'A diagram is a number, or (if ATOM DIAGRAM DIAGRAM)'
pub data Diagram : Type 0 where
  number : List ℕ → Diagram
  branch : Atom → Diagram → Diagram → Diagram

-- 'one space between words': words of one kind, each with a space before it
abbrev pub many_bytes : {A : Type 0} → (A → List ℕ) → List A → List ℕ
many_bytes w [] = []
many_bytes w (x ∷ xs) = 32 ∷ (w x ++ many_bytes w xs)

-- ?, ! and %
abbrev pub mark_bytes : Mark → List ℕ
mark_bytes plain = []
mark_bytes variable = 63 ∷ []
mark_bytes parameter = 33 ∷ []
mark_bytes minimum = 37 ∷ []

abbrev pub term_bytes : Term → List ℕ
term_bytes (term m n) = mark_bytes m ++ n

-- (= TERM TERM), (name TERM ..)
abbrev pub atom_bytes : Atom → List ℕ
atom_bytes (equal a b) = 40 ∷ 61 ∷ 32 ∷ (term_bytes a ++ 32 ∷ (term_bytes b ++ 41 ∷ []))
atom_bytes (holds p ts) = 40 ∷ (p ++ (many_bytes term_bytes ts ++ 41 ∷ []))

-- (if ATOM DIAGRAM DIAGRAM)
abbrev pub diagram_bytes : Diagram → List ℕ
diagram_bytes (number ds) = ds
diagram_bytes (branch a d e) =
    40 ∷ 105 ∷ 102 ∷ 32 ∷ (atom_bytes a ++ 32 ∷ (diagram_bytes d ++ 32 ∷ (diagram_bytes e ++ 41 ∷ [])))

-- each of a list
abbrev pub All : {A : Type 0} → (A → Type 0) → List A → Type 0
All P [] = Unit {0}
All P (x ∷ xs) = P x × All P xs

abbrev pub GoodTerm : Term → Type 0
GoodTerm (term m n) = IsName n

abbrev pub GoodAtom : Atom → Type 0
GoodAtom (equal a b) = GoodTerm a × GoodTerm b
GoodAtom (holds p ts) = IsName p × All GoodTerm ts

abbrev pub GoodDiagram : Diagram → Type 0
GoodDiagram (number n) = IsNumber n
GoodDiagram (branch a d e) = GoodAtom a × GoodDiagram d × GoodDiagram e

-- how many 'brackets open together' a diagram has, those of atoms counted
abbrev pub brackets : Diagram → ℕ
brackets (number n) = 0
brackets (branch a d e) = suc (max 1 (max (brackets d) (brackets e)))
