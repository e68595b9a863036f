-- The kinds of lines, their key words, what stands behind them, and the bytes that a line is written as
-- (document 01, section 'Text').
use Rattle.std.specs.Prelude.{ℕ, suc, ◌≤◌, max, ◌≡◌, Bool, true, false, List, [], ◌∷◌, ◌++◌, length}
use Rattle.words.specs.Words.{IsName, IsNumber}
use Rattle.forms.specs.Tree.{Term, Diagram, many_bytes, term_bytes, diagram_bytes, All, GoodTerm, GoodDiagram, brackets}
use Rattle.forms.specs.declared.Sort.{Sort}
use Rattle.forms.specs.declared.Sort.TheVariants.{Name, Variable, Parameter, Any, Number}
use Rattle.text.specs.declared.Shape.{Shape}
use Rattle.text.specs.declared.Shape.TheVariants.{Nothing, One, Two, Listed, Paired, Drawn, Named, Headed, Never}
use Rattle.text.specs.declared.Kind.{Kind}
use Rattle.text.specs.declared.Kind.TheVariants as K

-- 'at most 4,095 bytes before it and 64 brackets open together'
abbrev pub most_line_bytes : ℕ
most_line_bytes = 4095

abbrev pub most_open_brackets : ℕ
most_open_brackets = 64

-- a kind of line: its key word, in bytes, and the shape of what stands behind it. (constant n), (predicate n arity), (total W),
-- (discount G D), (reward DIAGRAM), (action n !p ..), (variant n WEIGHT), (becomes (p ?a ..) DIAGRAM), (start), (objects n),
-- (is c o), (true p o ..), (value), (backup), (cut), (show), (reduce), (text), (best), (count n),
-- (did action variant object ..)
abbrev pub form_of : Kind → List ℕ × Shape
form_of K.Constant = (99 ∷ 111 ∷ 110 ∷ 115 ∷ 116 ∷ 97 ∷ 110 ∷ 116 ∷ [], One Name)
form_of K.Predicate = (112 ∷ 114 ∷ 101 ∷ 100 ∷ 105 ∷ 99 ∷ 97 ∷ 116 ∷ 101 ∷ [], Two Name Number)
form_of K.Total = (116 ∷ 111 ∷ 116 ∷ 97 ∷ 108 ∷ [], One Number)
form_of K.Discount = (100 ∷ 105 ∷ 115 ∷ 99 ∷ 111 ∷ 117 ∷ 110 ∷ 116 ∷ [], Two Number Number)
form_of K.Reward = (114 ∷ 101 ∷ 119 ∷ 97 ∷ 114 ∷ 100 ∷ [], Drawn)
form_of K.Action = (97 ∷ 99 ∷ 116 ∷ 105 ∷ 111 ∷ 110 ∷ [], Listed Parameter)
form_of K.Variant = (118 ∷ 97 ∷ 114 ∷ 105 ∷ 97 ∷ 110 ∷ 116 ∷ [], Named)
form_of K.Becomes = (98 ∷ 101 ∷ 99 ∷ 111 ∷ 109 ∷ 101 ∷ 115 ∷ [], Headed)
form_of K.Start = (115 ∷ 116 ∷ 97 ∷ 114 ∷ 116 ∷ [], Nothing)
form_of K.Objects = (111 ∷ 98 ∷ 106 ∷ 101 ∷ 99 ∷ 116 ∷ 115 ∷ [], One Number)
form_of K.Is = (105 ∷ 115 ∷ [], Two Name Number)
form_of K.True = (116 ∷ 114 ∷ 117 ∷ 101 ∷ [], Listed Number)
form_of K.Value = (118 ∷ 97 ∷ 108 ∷ 117 ∷ 101 ∷ [], Nothing)
form_of K.Backup = (98 ∷ 97 ∷ 99 ∷ 107 ∷ 117 ∷ 112 ∷ [], Nothing)
form_of K.Cut = (99 ∷ 117 ∷ 116 ∷ [], Nothing)
form_of K.Show = (115 ∷ 104 ∷ 111 ∷ 119 ∷ [], Nothing)
form_of K.Reduce = (114 ∷ 101 ∷ 100 ∷ 117 ∷ 99 ∷ 101 ∷ [], Nothing)
form_of K.Text = (116 ∷ 101 ∷ 120 ∷ 116 ∷ [], Nothing)
form_of K.Best = (98 ∷ 101 ∷ 115 ∷ 116 ∷ [], Nothing)
form_of K.Count = (99 ∷ 111 ∷ 117 ∷ 110 ∷ 116 ∷ [], One Number)
form_of K.Did = (100 ∷ 105 ∷ 100 ∷ [], Paired Number)
form_of K.Bad = ([], Never)

abbrev pub keyword : Kind → List ℕ
keyword k = (form_of k).0

abbrev pub shape_of : Kind → Shape
shape_of k = (form_of k).1

-- the shape of no line
abbrev pub is_never : Shape → Bool
is_never Nothing = false
is_never (One k) = false
is_never (Two k l) = false
is_never (Listed k) = false
is_never (Paired k) = false
is_never Drawn = false
is_never Named = false
is_never Headed = false
is_never Never = true

-- no kind of line: not the grammar
unfoldable pub is_bad : Kind → Bool
is_bad k = is_never (shape_of k)

-- ?name and !name
abbrev pub variable_bytes : List ℕ → List ℕ
variable_bytes n = 63 ∷ n

abbrev pub parameter_bytes : List ℕ → List ℕ
parameter_bytes n = 33 ∷ n

abbrev pub word_bytes : List ℕ → List ℕ
word_bytes n = n

-- a word of a sort: a name, the name behind ? or !, a term, or a number (a row of digits)
abbrev pub Item : Sort → Type 0
Item Name = List ℕ
Item Variable = List ℕ
Item Parameter = List ℕ
Item Any = Term
Item Number = List ℕ

abbrev pub item_bytes : (k : Sort) → Item k → List ℕ
item_bytes Name = word_bytes
item_bytes Variable = variable_bytes
item_bytes Parameter = parameter_bytes
item_bytes Any = term_bytes
item_bytes Number = word_bytes

abbrev pub GoodItem : (k : Sort) → Item k → Type 0
GoodItem Name = IsName
GoodItem Variable = IsName
GoodItem Parameter = IsName
GoodItem Any = GoodTerm
GoodItem Number = IsNumber

-- what stands in each shape: nothing, a word, two words, a name and words, two names and words, a diagram, a name and a
-- diagram, (p ?a ..) and a diagram
abbrev pub ShapeWords : Shape → Type 0
ShapeWords Nothing = Unit {0}
ShapeWords (One k) = Item k
ShapeWords (Two k l) = Item k × Item l
ShapeWords (Listed k) = List ℕ × List (Item k)
ShapeWords (Paired k) = List ℕ × List ℕ × List (Item k)
ShapeWords Drawn = Diagram
ShapeWords Named = List ℕ × Diagram
ShapeWords Headed = List ℕ × List (List ℕ) × Diagram
ShapeWords Never = ⊥

-- how it is written, with the space before it
abbrev pub shape_bytes : (h : Shape) → ShapeWords h → List ℕ
shape_bytes Nothing w = []
shape_bytes (One k) x = 32 ∷ item_bytes k x
shape_bytes (Two k l) w = 32 ∷ (item_bytes k w.0 ++ 32 ∷ item_bytes l w.1)
shape_bytes (Listed k) w = 32 ∷ (w.0 ++ many_bytes (item_bytes k) w.1)
shape_bytes (Paired k) w = 32 ∷ (w.0 ++ 32 ∷ (w.1 ++ many_bytes (item_bytes k) w.2))
shape_bytes Drawn d = 32 ∷ diagram_bytes d
shape_bytes Named w = 32 ∷ (w.0 ++ 32 ∷ diagram_bytes w.1)
shape_bytes Headed w = 32 ∷ 40 ∷ (w.0 ++ (many_bytes variable_bytes w.1 ++ 41 ∷ 32 ∷ diagram_bytes w.2))
shape_bytes Never w = []

abbrev pub GoodShape : (h : Shape) → ShapeWords h → Type 0
GoodShape Nothing w = Unit {0}
GoodShape (One k) x = GoodItem k x
GoodShape (Two k l) w = GoodItem k w.0 × GoodItem l w.1
GoodShape (Listed k) w = IsName w.0 × All (GoodItem k) w.1
GoodShape (Paired k) w = IsName w.0 × IsName w.1 × All (GoodItem k) w.2
GoodShape Drawn d = GoodDiagram d
GoodShape Named w = IsName w.0 × GoodDiagram w.1
GoodShape Headed w = IsName w.0 × All IsName w.1 × GoodDiagram w.2
GoodShape Never w = ⊥

-- how many brackets are open together, the line's own among them
abbrev pub shape_brackets : (h : Shape) → ShapeWords h → ℕ
shape_brackets Nothing w = 1
shape_brackets (One k) x = 1
shape_brackets (Two k l) w = 1
shape_brackets (Listed k) w = 1
shape_brackets (Paired k) w = 1
shape_brackets Drawn d = suc (brackets d)
shape_brackets Named w = suc (brackets w.1)
shape_brackets Headed w = suc (max 1 (brackets w.2))
shape_brackets Never w = 0

-- the same by the kind of line
abbrev pub Words : Kind → Type 0
Words k = ShapeWords (shape_of k)

abbrev pub words_bytes : (k : Kind) → Words k → List ℕ
words_bytes k w = shape_bytes (shape_of k) w

abbrev pub GoodWords : (k : Kind) → Words k → Type 0
GoodWords k w = GoodShape (shape_of k) w

abbrev pub open_brackets : (k : Kind) → Words k → ℕ
open_brackets k w = shape_brackets (shape_of k) w

-- 'One form a line'
pub data Line : Type 0 where
  line : (k : Kind) → Words k → Line

abbrev pub kind_of_line : Line → Kind
kind_of_line (line k w) = k

abbrev pub line_bytes : Line → List ℕ
line_bytes (line k w) = 40 ∷ (keyword k ++ (words_bytes k w ++ 41 ∷ []))

abbrev pub GoodLine : Line → Type 0
GoodLine (line k w) = GoodWords k w × (open_brackets k w ≤ most_open_brackets) × (length (line_bytes (line k w)) ≤ most_line_bytes)

-- k is the answer for the bytes s: the kind of the line that is written so, or Bad where there is none
pub record IsLine (s : List ℕ) (k : Kind) : Type 0 where
  pub written : is_bad k ≡ false → (w : Words k) × GoodLine (line k w) × (s ≡ line_bytes (line k w))
  pub only : (l : Line) → GoodLine l → s ≡ line_bytes l → kind_of_line l ≡ k
