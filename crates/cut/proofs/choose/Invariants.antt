use mathlib.Core.Path.{◌≡◌}
use lib.ListN.{length}
use Rattle.diagram.specs.Rows.{rows}
use Rattle.diagram.specs.Listing.{diagram_of}
use Rattle.cutting.specs.Cut.{choice, choice_below}
use Rattle.cut.specs.Choosing.{Known}
use Rattle.cut.proofs.choose.Given as goal

abbrev pub invariant-loop-i : goal.invariant-loop-i
invariant-loop-i l = (length l.memo ≡ 65536) × Known l.arities l.words l.memo l.n ×
    (choice l.arities (diagram_of l.words) ≡ choice_below l.arities (diagram_of l.words) (rows (diagram_of l.words)) l.i)
