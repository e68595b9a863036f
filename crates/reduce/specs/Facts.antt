-- Ground literals as numbers (document 02, L13: the facts of a combination).
use Rattle.std.specs.Prelude.{Bool, true, not, ◌&&◌, List, [], ◌∷◌, ◌++◌, map, ℕ, ◌+◌, ◌*◌, ◌/◌, eqb}
use Rattle.label.specs.Renamings.{renamed}
use Rattle.diagram.specs.Diagram.{Diagram}
use Rattle.diagram.specs.Variables.{variables}
use Rattle.paths.specs.Paths.{Literal, Path, literals}
use Rattle.paths.specs.Inner.{bit}
use Rattle.paths.specs.Routes.{path_at}
use Rattle.reduction.specs.Combinations.{some_of, object_of}

-- the fact that the label l is under a valuation of the variables vs: the label with the objects in the place of the variables
unfoldable pub fact_of : List ℕ → List ℕ → List ℕ → ℕ → ℕ
fact_of ar vs os l = renamed ar (object_of vs os) l

-- a ground literal: its fact's number twice, and one more where it is true
unfoldable pub code_of : (ℕ → ℕ) → Literal → ℕ
code_of fact l = fact l.label * 2 + bit l.sign

-- those of a path
unfoldable pub codes_of : (ℕ → ℕ) → Path → List ℕ
codes_of fact p = map (code_of fact) (literals p)

-- those of a choice of a path for each valuation
unfoldable pub choice_codes : List ℕ → Diagram → List (List ℕ) → List ℕ → List ℕ
choice_codes ar d [] ks = []
choice_codes ar d (os ∷ us) [] = []
choice_codes ar d (os ∷ us) (k ∷ ks) = codes_of (fact_of ar (variables ar d) os) (path_at d k) ++ choice_codes ar d us ks

-- one fact, once true and once false
unfoldable pub clashing : ℕ → ℕ → Bool
clashing x y = eqb (x / 2) (y / 2) && not (eqb x y)

-- no fact is both true and false
unfoldable pub is_clear : List ℕ → Bool
is_clear [] = true
is_clear (x ∷ xs) = not (some_of (clashing x) xs) && is_clear xs
