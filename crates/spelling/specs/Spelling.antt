-- What is measured and written of a listing's form (document 02, L2), with the names that a session keeps as keys in words.
use Rattle.std.specs.Prelude.{cond, List, [], ◌∷◌, ◌++◌, ℕ, ◌≤◌, ◌<◌, length}
use Rattle.label.specs.Limits.{constant_count, predicate_count}
use Rattle.diagram.specs.Diagram.{Diagram}
use Rattle.names.specs.Layout.{constants_at, declared_at, name_words}
use Rattle.names.specs.Keys.{keys_at}
use Rattle.diagram_form.specs.Form.{Tables, tables_of, form_bytes, form_length, is_too_long}
use Rattle.std.specs.Prelude.{None, Option, Some}

-- the names of so many constants and so many declared predicates
abbrev pub tables_at : List ℕ → ℕ → ℕ → Tables
tables_at names constants predicates = tables_of (keys_at names constants_at constants) (keys_at names declared_at predicates)

-- the words have room for them, and they are within their limits
pub record Named (names : List ℕ) (constants predicates : ℕ) : Type 0 where
  pub words : name_words ≤ length names
  pub constants-few : constants ≤ constant_count
  pub predicates-few : predicates < predicate_count

-- the bytes of the form, or 19
unfoldable pub measured : List ℕ → Tables → Diagram → Option ℕ
measured ar n d = cond (is_too_long ar n d) None (Some (form_length ar n d))

-- 'prints the value diagram .. on one line': the form and a line feed
abbrev pub form_line : List ℕ → Tables → Diagram → List ℕ
form_line ar n d = form_bytes ar n d ++ (10 ∷ [])
