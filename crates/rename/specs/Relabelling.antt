-- What is so of every term of a diagram.
use Rattle.std.specs.Prelude.{List, ℕ}
use Rattle.label.specs.Renamings.{EachIn}
use Rattle.diagram.specs.Diagram.{Diagram, EveryLabel}

-- P names every term of every label of d
abbrev pub Terms : List ℕ → (ℕ → Type 0) → Diagram → Type 0
Terms ar P d = EveryLabel (EachIn ar P) d
