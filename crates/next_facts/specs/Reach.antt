-- What a diagram can come to while some terms have no object yet: a leaf other than 0, or only 0.
use Rattle.std.specs.Prelude.{◌≡◌, Bool, not, ◌&&◌, ◌||◌, cond, List, ℕ, pred, ◌+◌, ◌*◌, ◌≤◌, ◌<◌, length, get_or, eqb}
use Rattle.label.specs.Limits.{equality, term_end, most_places}
use Rattle.label.specs.Labels.{predicate_of, place_at}
use Rattle.diagram.specs.Diagram.{Diagram, leaf, branch}
use Rattle.diagram.specs.Words.{row_count}
use Rattle.diagram.specs.Validity.{Valid, tree}
use Rattle.state.specs.Lent.{fact_words, fact_count, predicate_at, some_below}

-- what stands in `env`, a word for each term, where a term has no object: no object is that high
abbrev pub free : ℕ
free = 18446744073709551615

-- the word of place j of the label l
abbrev pub word_of : List ℕ → ℕ → ℕ → ℕ
word_of env l j = get_or env (place_at l j) 0

-- one of the first k places of l has no object
unfoldable pub is_open : List ℕ → ℕ → ℕ → Bool
is_open env l k = some_below k (λ j. eqb (word_of env l j) free)

-- the word w is an object, and another than o
unfoldable pub differs : ℕ → ℕ → Bool
differs w o = not (eqb w free) && not (eqb o w)

-- row i of the facts agrees with the label: its predicate, and the objects that the first k places have
unfoldable pub fits : List ℕ → List ℕ → ℕ → ℕ → ℕ → Bool
unfolding predicate_at differs
fits facts env l k i =
    eqb (predicate_at facts i) (predicate_of l) && not (some_below k (λ j. differs (word_of env l j) (get_or facts (i * fact_words + 1 + j) 0)))

-- the label can be true, whatever objects the others get; and false
unfoldable pub may_hold : List ℕ → List ℕ → ℕ → ℕ → Bool
unfolding is_open fits
may_hold facts env l k =
    cond (eqb (predicate_of l) equality) (is_open env l k || eqb (word_of env l 0) (word_of env l 1)) (some_below (fact_count facts) (fits facts env l k))

unfoldable pub may_fail : List ℕ → List ℕ → ℕ → ℕ → Bool
unfolding is_open may_hold
may_fail facts env l k = is_open env l k || not (may_hold facts env l k)

-- of two leaves the first, if it is not 0 and its edge is open, else the second by its edge; 0 for none
unfoldable pub pick_leaf : Bool → Bool → ℕ → ℕ → ℕ
pick_leaf m f x y = cond (m && not (eqb x 0)) x (cond f y 0)

-- a leaf other than 0 that open edges lead to, or 0
unfoldable pub reaches : (ℕ → Bool) → (ℕ → Bool) → Diagram → ℕ
unfolding pick_leaf
reaches m f (leaf v) = v
reaches m f (branch l t e) = pick_leaf (m l) (f l) (reaches m f t) (reaches m f e)

abbrev pub arity_of : List ℕ → ℕ → ℕ
arity_of ar l = get_or ar (predicate_of l) 0

unfoldable pub reach_in : List ℕ → List ℕ → List ℕ → Diagram → ℕ
unfolding reaches may_hold may_fail
reach_in ar facts env d = reaches (λ l. may_hold facts env l (arity_of ar l)) (λ l. may_fail facts env l (arity_of ar l)) d

-- the root of a listing comes to a leaf other than 0
unfoldable pub reached : List ℕ → List ℕ → List ℕ → List ℕ → Bool
unfolding reach_in
reached ar facts ws env = not (eqb (reach_in ar facts env (tree ws (pred (row_count ws)))) 0)

-- ===== What the functions ask =====

-- the first k places of l are terms, and env has a word for each term
pub record Placed (env : List ℕ) (l k : ℕ) : Type 0 where
  pub words : length env ≡ term_end
  pub most : k ≤ most_places
  pub below : (j : ℕ) → j < most_places → place_at l j < term_end

-- a listing, a word for each term, and room for a number for each row
pub record Reaching (ar ws env marks : List ℕ) : Type 0 where
  pub valid : Valid ar ws
  pub words : length env ≡ term_end
  pub places : row_count ws ≤ length marks

-- `marks` has for each of the first m rows the leaf that it comes to
pub record Marked (ar facts ws env marks : List ℕ) (m : ℕ) : Type 0 where
  pub each : (r : ℕ) → r < m → get_or marks r 0 ≡ reach_in ar facts env (tree ws r)
