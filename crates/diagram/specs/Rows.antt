-- The rows of a diagram: its distinct parts, in the order in which a walk from the root, true branch first, finishes them
-- (document 01, section 'Terms, labels, listings').
use Rattle.std.specs.Prelude.{true, false, List, [], ◌∷◌, ◌++◌}
use Rattle.basics.specs.Members.{mem}
use Rattle.diagram.specs.Diagram.{Diagram, leaf, branch, same}

-- the rows rs, and behind them those of d that are not there yet
unfoldable pub onto : Diagram → List Diagram → List Diagram
onto (leaf v) rs = elim (mem same (leaf v) rs) [ true ↦ rs | false ↦ rs ++ (leaf v ∷ []) ]
onto (branch l t f) rs = elim (mem same (branch l t f) rs) [ true ↦ rs | false ↦ onto f (onto t rs) ++ (branch l t f ∷ []) ]

unfoldable pub rows : Diagram → List Diagram
unfolding onto
rows d = onto d []
