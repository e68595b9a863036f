-- Paths by number, as the code walks them.
use Rattle.std.specs.Prelude.{Bool, true, false, cond, [], ℕ, ◌-◌, length, ltb}
use Rattle.diagram.specs.Diagram.{Diagram, leaf, branch}
use Rattle.paths.specs.Paths.{Step, Path, step_before, paths}

-- the branch row's step to one side
abbrev pub step_on : Bool → ℕ → Diagram → Diagram → Step
step_on b l t f = record { from = branch l t f; label = l; side = b }

-- path k of a diagram, true branch first
unfoldable pub path_at : Diagram → ℕ → Path
unfolding paths step_before
path_at (leaf v) k = record { steps = []; end = v }
path_at (branch l t f) k =
    cond (ltb k (length (paths t))) (step_before (step_on true l t f) (path_at t k)) (step_before (step_on false l t f) (path_at f (k - length (paths t))))
