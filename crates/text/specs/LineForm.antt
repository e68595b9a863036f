-- A line as a reader: its kind, or that the bytes are not of the grammar (document 01, section 'Text').
use Rattle.std.specs.Prelude.{ℕ, ◌+◌, ◌-◌, List, [], ◌∷◌, Bool, cond, ◌&&◌, leb, eqb, get_or, take, drop, length}
use Rattle.words.specs.Inner.{name_form}
use Rattle.words.specs.Keys.{key_of}
use Rattle.words.specs.declared.Key.{Key}
use Rattle.forms.specs.declared.Sort.{Sort}
use Rattle.forms.specs.declared.Sort.TheVariants.{Name, Variable}
use Rattle.forms.specs.Form.{◌▹◌, byte, form, item_form, plain_form, diagram_form}
use Rattle.text.specs.declared.Shape.{Shape}
use Rattle.text.specs.declared.Shape.TheVariants.{Nothing, One, Two, Listed, Paired, Drawn, Named, Headed, Never}
use Rattle.text.specs.declared.Kind.{Kind}
use Rattle.text.specs.declared.Kind.TheVariants.{Bad}
use Rattle.text.specs.Inner.{kinds}
use Rattle.text.specs.Line.{most_line_bytes, keyword, shape_of}
use Rattle.std.specs.Prelude.{None, Option, Some}

-- the two keys are one
unfoldable pub is_key : Key → Key → Bool
is_key k l = eqb k.a l.a && eqb k.b l.b

-- the first kind of the list whose key word has this key
abbrev pub kind_in : List Kind → Key → Kind
kind_in [] k = Bad
kind_in (x ∷ xs) k = cond (is_key k (key_of (keyword x))) x (kind_in xs k)

-- the kind of the line that begins with the name of this key
unfoldable pub kind_of : Key → Kind
kind_of k = kind_in kinds k

-- )
unfoldable pub end_form : List ℕ → Option ℕ
end_form s = Some 0 ▹ byte s 41

-- a word
unfoldable pub one_form : Sort → List ℕ → Option ℕ
one_form k s = Some 0 ▹ byte s 32 ▹ form s (item_form k) ▹ byte s 41

-- two words
unfoldable pub two_form : Sort → Sort → List ℕ → Option ℕ
two_form k l s = Some 0 ▹ byte s 32 ▹ form s (item_form k) ▹ byte s 32 ▹ form s (item_form l) ▹ byte s 41

-- a name and words
unfoldable pub listed_form : Sort → List ℕ → Option ℕ
listed_form k s = Some 0 ▹ byte s 32 ▹ form s (plain_form k)

-- two names and words
unfoldable pub paired_form : Sort → List ℕ → Option ℕ
paired_form k s = Some 0 ▹ byte s 32 ▹ form s (item_form Name) ▹ byte s 32 ▹ form s (plain_form k)

-- a diagram, inside one bracket
unfoldable pub drawn_form : List ℕ → Option ℕ
drawn_form s = Some 0 ▹ byte s 32 ▹ form s (diagram_form (length s + 1) 1) ▹ byte s 41

-- a name and a diagram
unfoldable pub named_form : List ℕ → Option ℕ
named_form s = Some 0 ▹ byte s 32 ▹ form s (item_form Name) ▹ byte s 32 ▹ form s (diagram_form (length s + 1) 1) ▹ byte s 41

-- (name ?a ..) and a diagram
unfoldable pub headed_form : List ℕ → Option ℕ
headed_form s =
    Some 0 ▹ byte s 32 ▹ byte s 40 ▹ form s (plain_form Variable) ▹ byte s 32 ▹ form s (diagram_form (length s + 1) 1) ▹ byte s 41

-- what stands behind the key word, with the line's closing bracket
unfoldable pub shape_form : Shape → List ℕ → Option ℕ
shape_form Nothing s = end_form s
shape_form (One k) s = one_form k s
shape_form (Two k l) s = two_form k l s
shape_form (Listed k) s = listed_form k s
shape_form (Paired k) s = paired_form k s
shape_form Drawn s = drawn_form s
shape_form Named s = named_form s
shape_form Headed s = headed_form s
shape_form Never s = None

unfoldable pub words_form : Kind → List ℕ → Option ℕ
words_form k s = shape_form (shape_of k) s

-- the kind k where the words behind the key word are all of the l bytes
abbrev pub whole : Option ℕ → ℕ → Kind → Kind
whole (Some m) l k = cond (eqb m l) k Bad
whole None l k = Bad

abbrev pub named : Option ℕ → (ℕ → Kind) → Kind
named (Some n) k = k n
named None k = Bad

-- a line behind its opening bracket
unfoldable pub form_kind : List ℕ → Kind
form_kind s =
    named (name_form s) (λ n. whole (words_form (kind_of (key_of (take n s))) (drop n s)) (length s - n) (kind_of (key_of (take n s))))

-- 'at most 4,095 bytes'
unfoldable pub line_kind : List ℕ → Kind
line_kind s = cond (leb (length s) most_line_bytes) (cond (eqb (get_or s 0 0) 40) (form_kind (drop 1 s)) Bad) Bad
