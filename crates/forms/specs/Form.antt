-- Terms, atoms and diagrams as readers by recursive descent: each definition says how many bytes the form takes at the
-- front of the bytes, or that they do not begin with one (document 01, section 'Text').
use Rattle.std.specs.Prelude.{ℕ, zero, suc, ◌+◌, List, Bool, ◌||◌, cond, leb, eqb, get_or, drop, length}
use Rattle.words.specs.Inner.{name_form}
use Rattle.words.specs.Words.{number_form}
use Rattle.forms.specs.declared.Sort.{Sort}
use Rattle.forms.specs.declared.Sort.TheVariants.{Name, Variable, Parameter, Any, Number}
use Rattle.std.specs.Prelude.{None, Option, Some}

infixl 20 ◌▹◌
-- first one form, then the next from the place where it ended
unfoldable pub ◌▹◌ : Option ℕ → (ℕ → Option ℕ) → Option ℕ
Some i ▹ k = k i
None ▹ k = None

-- the byte b at i
unfoldable pub byte : List ℕ → ℕ → ℕ → Option ℕ
byte s b i = cond (eqb (get_or s i 0) b) (Some (i + 1)) None

-- the form p at i
unfoldable pub form : List ℕ → (List ℕ → Option ℕ) → ℕ → Option ℕ
form s p i = p (drop i s) ▹ (λ n. Some (i + n))

-- the mark b and a name
unfoldable pub marked_form : ℕ → List ℕ → Option ℕ
marked_form b s = Some 0 ▹ byte s b ▹ form s name_form

-- ?, ! or %
unfoldable pub is_mark : ℕ → Bool
is_mark b = eqb b 63 || (eqb b 33 || eqb b 37)

-- name, ?name, !name or %name
unfoldable pub term_form : List ℕ → Option ℕ
term_form s = cond (is_mark (get_or s 0 0)) (form s name_form 1) (name_form s)

-- one word of a sort
unfoldable pub item_form : Sort → List ℕ → Option ℕ
item_form Name s = name_form s
item_form Variable s = marked_form 63 s
item_form Parameter s = marked_form 33 s
item_form Any s = term_form s
item_form Number s = number_form s

-- forms, each with a space before it; the second argument bounds how many
unfoldable pub many_form : (List ℕ → Option ℕ) → ℕ → List ℕ → Option ℕ
many_form p zero s = None
many_form p (suc f) s = cond (eqb (get_or s 0 0) 32) (form s p 1 ▹ form s (many_form p f)) (Some 0)

-- = TERM TERM )
unfoldable pub equality_form : List ℕ → Option ℕ
equality_form s = Some 0 ▹ byte s 61 ▹ byte s 32 ▹ form s (item_form Any) ▹ byte s 32 ▹ form s (item_form Any) ▹ byte s 41

-- name WORD .. ), words of a sort
unfoldable pub plain_form : Sort → List ℕ → Option ℕ
plain_form k s = name_form s ▹ form s (many_form (item_form k) (length s + 1)) ▹ byte s 41

unfoldable pub inner_form : List ℕ → Option ℕ
inner_form s = cond (eqb (get_or s 0 0) 61) (equality_form s) (plain_form Any s)

-- (= TERM TERM) or (name TERM ..)
unfoldable pub atom_form : List ℕ → Option ℕ
atom_form s = Some 0 ▹ byte s 40 ▹ form s inner_form

-- if ATOM, and the space behind it
unfoldable pub head_form : List ℕ → Option ℕ
head_form s = Some 0 ▹ byte s 105 ▹ byte s 102 ▹ byte s 32 ▹ form s atom_form ▹ byte s 32

-- if ATOM DIAGRAM DIAGRAM ), with d for the diagrams
unfoldable pub if_form : (List ℕ → Option ℕ) → List ℕ → Option ℕ
if_form d s = head_form s ▹ form s d ▹ byte s 32 ▹ form s d ▹ byte s 41

-- a number, or an if form behind a bracket. The first argument bounds the nesting. '64 brackets open together':
-- `depth` of them before this form, then the form's own and its atom's.
unfoldable pub diagram_form : ℕ → ℕ → List ℕ → Option ℕ
diagram_form zero depth s = None
diagram_form (suc f) depth s =
    cond (eqb (get_or s 0 0) 40)
    (cond (leb depth 62) (form s (if_form (diagram_form f (depth + 1))) 1) None)
    (number_form s)
