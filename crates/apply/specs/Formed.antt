-- The rows that a combination forms (document 01, section 'Combination').
use Rattle.std.specs.Prelude.{cond, List, [], ◌∷◌, ◌++◌, ℕ}
use Rattle.basics.specs.Members.{mem}
use Rattle.diagram.specs.Diagram.{Diagram, same}
use Rattle.apply.specs.Apply.{apply}
use Rattle.apply.specs.Pairs.{Pair}

-- equal rows are counted once
unfoldable pub add : Diagram → List Diagram → List Diagram
unfolding same
add d rs = cond (mem same d rs) rs (rs ++ (d ∷ []))

-- every pair forms its reduced diagram: the rows rs, and behind them those of the pairs ps
unfoldable pub formed : (ℕ → ℕ → ℕ) → List Diagram → List Pair → List Diagram
unfolding add apply
formed op rs [] = rs
formed op rs (p ∷ ps) = formed op (add (apply op p.0 p.1) rs) ps
