-- Paths of a diagram, their literals, and the edges that they go through (document 01, section 'Cut').
use Rattle.std.specs.Prelude.{Bool, true, false, ◌&&◌, ◌||◌, List, [], ◌∷◌, ◌++◌, map, ℕ}
use Rattle.std.specs.Bool.{beq}
use Rattle.label.specs.Labels.{unpacked, terms_of}
use Rattle.diagram.specs.Diagram.{Diagram, leaf, branch, same}

-- over 256 paths, those to leaf 0 included, is refusal 17
abbrev pub most_paths : ℕ
most_paths = 256

-- a label, and whether the path takes it as true
pub record Literal : Type 0 where
  pub label : ℕ
  pub sign : Bool

-- an edge on a path: the branch that it leaves, that branch's label, and the side. A row is told by its diagram, so that a row with several
-- parents is one row.
pub record Step : Type 0 where
  pub from : Diagram
  pub label : ℕ
  pub side : Bool

-- a path: its edges from the root on, and its leaf
pub record Path : Type 0 where
  pub steps : List Step
  pub end : ℕ

unfoldable pub step_before : Step → Path → Path
step_before s p = record { steps = s ∷ p.steps; end = p.end }

unfoldable pub paths : Diagram → List Path
unfolding step_before
paths (leaf v) = record { steps = []; end = v } ∷ []
paths (branch l t f) =
    map (step_before (record { from = branch l t f; label = l; side = true })) (paths t)
    ++ map (step_before (record { from = branch l t f; label = l; side = false })) (paths f)

-- the literals of a path
abbrev pub literal_of : Step → Literal
literal_of s = record { label = s.label; sign = s.side }

unfoldable pub literals : Path → List Literal
literals p = map literal_of p.steps

-- the terms in the literals
unfoldable pub terms_in : List ℕ → List Literal → List ℕ
terms_in ar [] = []
terms_in ar (l ∷ ls) = terms_of ar (unpacked l.label) ++ terms_in ar ls

-- the step is the edge of the row r on the side b
unfoldable pub is_edge : Diagram → Bool → Step → Bool
is_edge r b s = same r s.from && beq b s.side

abbrev pub some_step : (Step → Bool) → List Step → Bool
some_step f [] = false
some_step f (s ∷ ss) = f s || some_step f ss

-- the path goes through that edge
unfoldable pub through : Diagram → Bool → Path → Bool
unfolding is_edge
through r b p = some_step (is_edge r b) p.steps
