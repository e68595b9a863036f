-- Inner contracts: the parts of a form as bytes, and what is counted row by row.
use Rattle.std.specs.Prelude.{◌≡◌, true, cond, List, [], ◌∷◌, ◌++◌, map, ℕ, ◌+◌, ◌-◌, ◌≤◌, ◌<◌, min, length, get_or, take, eqb}
use Rattle.label.specs.Limits.{equality}
use Rattle.label.specs.Labels.{predicate_of, places_of, unpacked}
use Rattle.diagram.specs.Words.{is_listing, row_count}
use Rattle.diagram.specs.Validity.{tree}
use Rattle.words.specs.Keys.{name_of}
use Rattle.names.specs.Layout.{declared_at}
use Rattle.names.specs.Keys.{keys_at}
use Rattle.forms.specs.Tree.{term_bytes, many_bytes}
use Rattle.diagram_form.specs.Form.{Tables, term_tree, form_bytes, form_length, open_brackets}
use Rattle.spelling.specs.Spelling.{tables_at, Named}

-- the listing and the names that a form is made of
pub record Spelt (ar names : List ℕ) (constants predicates : ℕ) (ws : List ℕ) : Type 0 where
  pub listing : is_listing ar ws ≡ true
  pub named : Named names constants predicates

-- name i of the n keys from base on; past them the empty one
unfoldable pub name_at : List ℕ → ℕ → ℕ → ℕ → List ℕ
name_at names base n i = get_or (map name_of (keys_at names base n)) i []

-- a term: no predicate has a part in it
unfoldable pub term_text : List ℕ → ℕ → ℕ → List ℕ
term_text names constants t = term_bytes (term_tree (tables_at names constants 0) t)

-- the first k places of the label l, a space before each
unfoldable pub places_text : List ℕ → ℕ → ℕ → ℕ → List ℕ
places_text names constants l k = many_bytes term_bytes (map (term_tree (tables_at names constants 0)) (take k (places_of (unpacked l))))

-- a test's bracket and the word of its predicate p: (= or (name
unfoldable pub head_text : List ℕ → ℕ → ℕ → List ℕ
head_text names predicates p = cond (eqb p equality) (40 ∷ 61 ∷ []) ((40 ∷ []) ++ name_at names declared_at predicates (p - 1))

-- what stands before the children of a branch: (if ATOM, and a space
unfoldable pub test_text : List ℕ → List ℕ → ℕ → ℕ → ℕ → List ℕ
test_text ar names constants predicates l =
    (40 ∷ 105 ∷ 102 ∷ 32 ∷ [])
    ++ (head_text names predicates (predicate_of l) ++ (places_text names constants l (get_or ar (predicate_of l) 0) ++ (41 ∷ 32 ∷ [])))

-- its bytes at most: (if, a name of 15 behind its bracket, six terms of at most 22 with a space before each
abbrev pub test_bytes : ℕ
test_bytes = 160

-- the form of row i, and a byte behind it
unfoldable pub row_text : List ℕ → Tables → List ℕ → ℕ → ℕ → List ℕ
row_text ar n ws i behind = form_bytes ar n (tree ws i) ++ (behind ∷ [])

-- what a form may have at most: a reward line's bytes less its own nine, its open brackets less its own one
abbrev pub most_form_bytes : ℕ
most_form_bytes = 4086

abbrev pub most_form_brackets : ℕ
most_form_brackets = 63

-- counts are held at one above the limit
abbrev pub held_bytes : ℕ → ℕ
held_bytes n = min n (most_form_bytes + 1)

abbrev pub held_open : ℕ → ℕ
held_open n = min n (most_form_brackets + 1)

-- the first i rows are counted
pub record ByteCounts (ar : List ℕ) (n : Tables) (ws bytes : List ℕ) (i : ℕ) : Type 0 where
  pub room : row_count ws ≤ length bytes
  pub each : (k : ℕ) → k < i → get_or bytes k 0 ≡ held_bytes (form_length ar n (tree ws k))

pub record OpenCounts (ws brackets : List ℕ) (i : ℕ) : Type 0 where
  pub room : row_count ws ≤ length brackets
  pub each : (k : ℕ) → k < i → get_or brackets k 0 ≡ held_open (open_brackets (tree ws k))
