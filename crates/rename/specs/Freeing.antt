-- Freeing the parameters of an action (document 01, section 'Regression'; document 02, L12: "Freeing leaves their numbers", those of minimum variables).
use Rattle.std.specs.Prelude.{List, ℕ}
use Rattle.label.specs.Renamings.{renamed, freeing}
use Rattle.diagram.specs.Diagram.{Diagram, relabel}

-- parameter i turned into variable i, the other variables moved up by the parameter count c; minimum variables stay
unfoldable pub freed : List ℕ → ℕ → Diagram → Diagram
unfolding relabel
freed ar c d = relabel (renamed ar (freeing c)) d
