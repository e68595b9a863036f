-- Valuations over invented objects, and the consistent combinations of the paths that they may follow (document 02, L13; R12 of source document 000).
use Rattle.std.specs.Prelude.{Bool, true, false, not, ◌&&◌, ◌||◌, cond, List, [], ◌∷◌, ◌++◌, map, reverse, ℕ, ◌+◌, length, get_or, eqb, ltb}
use Rattle.std.specs.Bool.{beq}
use Rattle.label.specs.Labels.{predicate_of, unpacked, terms_of}
use Rattle.label.specs.Renamings.{rank}
use Rattle.diagram.specs.Diagram.{Diagram}
use Rattle.diagram.specs.Words.{up_to, equal_lists}
use Rattle.diagram.specs.Variables.{variables}
use Rattle.paths.specs.Paths.{Literal, paths, literals}
use Rattle.paths.specs.Routes.{path_at}
use Rattle.state.specs.Max.{gather, those, tuples}

-- ===== Lists =====

-- a member passes the test
abbrev pub some_of : {A : Type 0} → (A → Bool) → List A → Bool
some_of p [] = false
some_of p (a ∷ l) = p a || some_of p l

-- ===== "run all valuations over as many invented objects as there are variables" =====

-- the invented objects are 0, 1, ..; a valuation is a list of them, one for each variable, the lowest variable's first. With no variable there is one.
-- "lowest objects first, the lowest variable changing slowest"
unfoldable pub valuations : List ℕ → Diagram → List (List ℕ)
unfolding tuples variables
valuations ar d = tuples (length (variables ar d)) (length (variables ar d))

-- the object of the variable t, one of vs
unfoldable pub object_of : List ℕ → List ℕ → ℕ → ℕ
object_of vs os t = get_or os (rank vs t) 0

-- ===== Ground literals =====

-- a predicate of objects, and whether it is taken as true
pub record Ground : Type 0 where
  pub predicate : ℕ
  pub objects : List ℕ
  pub sign : Bool

unfoldable pub ground_of : List ℕ → List ℕ → List ℕ → Literal → Ground
unfolding object_of
ground_of ar vs os l = record {
  predicate = predicate_of l.label;
  objects = map (object_of vs os) (terms_of ar (unpacked l.label));
  sign = l.sign;
}

-- one fact, by one literal true and by the other false
unfoldable pub opposed : Ground → Ground → Bool
opposed g h = eqb g.predicate h.predicate && (equal_lists g.objects h.objects && not (beq g.sign h.sign))

-- no fact is both true and false
unfoldable pub consistent : List Ground → Bool
unfolding opposed
consistent [] = true
consistent (g ∷ gs) = not (some_of (opposed g) gs) && consistent gs

-- ===== "collect every consistent combination" =====

-- the ground literals of path k under the valuation os
unfoldable pub grounds : List ℕ → Diagram → List ℕ → ℕ → List Ground
unfolding ground_of variables literals path_at
grounds ar d os k = map (ground_of ar (variables ar d) os) (literals (path_at d k))

-- a choice has a path for each valuation, by its number: here the ground literals of all
unfoldable pub facts : List ℕ → Diagram → List (List ℕ) → List ℕ → List Ground
unfolding grounds
facts ar d [] ks = []
facts ar d (os ∷ us) [] = []
facts ar d (os ∷ us) (k ∷ ks) = grounds ar d os k ++ facts ar d us ks

unfoldable pub is_consistent : List ℕ → Diagram → List (List ℕ) → List ℕ → Bool
unfolding facts consistent
is_consistent ar d us ks = consistent (facts ar d us ks)

-- the consistent choices of paths for valuations, the last of these first: each consistent choice for those before, with each path
unfoldable pub choices : List ℕ → Diagram → List (List ℕ) → List (List ℕ)
unfolding is_consistent paths
choices ar d [] = [] ∷ []
choices ar d (os ∷ us) = gather (λ ks. those (is_consistent ar d (os ∷ us)) (map (λ k. k ∷ ks) (up_to (length (paths d))))) (choices ar d us)

unfoldable pub combinations : List ℕ → Diagram → List (List ℕ)
unfolding choices valuations
combinations ar d = choices ar d (reverse (valuations ar d))

-- "after each, every consistent choice of paths for those so far counts as one formed"
unfoldable pub formed_by : List ℕ → Diagram → List (List ℕ) → ℕ
unfolding choices
formed_by ar d [] = 0
formed_by ar d (os ∷ us) = formed_by ar d us + length (choices ar d (os ∷ us))

unfoldable pub formed : List ℕ → Diagram → ℕ
unfolding formed_by valuations
formed ar d = formed_by ar d (reverse (valuations ar d))

-- ===== "the winning path of least place in a descending path order" =====

-- path j has its place before path k: a higher leaf; "among equal leaves true edge first from the root", as paths are numbered
unfoldable pub before : Diagram → ℕ → ℕ → Bool
unfolding path_at
before d j k = ltb (path_at d k).end (path_at d j).end || (eqb (path_at d j).end (path_at d k).end && ltb j k)

-- of k and others the path of least place
abbrev pub least_of : Diagram → ℕ → List ℕ → ℕ
least_of d k [] = k
least_of d k (j ∷ js) = least_of d (cond (before d j k) j k) js

-- the winning path of a combination; there is always a valuation
unfoldable pub winner : Diagram → List ℕ → ℕ
unfolding before
winner d [] = 0
winner d (k ∷ ks) = least_of d k ks

unfoldable pub winners : List ℕ → Diagram → List ℕ
unfolding winner combinations
winners ar d = map (winner d) (combinations ar d)
