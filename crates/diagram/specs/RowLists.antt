-- Rows of a list by number.
use Rattle.std.specs.Prelude.{List, ℕ, get_or}
use Rattle.diagram.specs.Diagram.{Diagram, leaf}

-- the diagram of row k
abbrev pub row_tree : List Diagram → ℕ → Diagram
row_tree rs k = get_or rs k (leaf 0)
