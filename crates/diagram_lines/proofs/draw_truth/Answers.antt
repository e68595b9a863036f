use Rattle.diagram_lines.proofs.TruthLaws.{draws-built, draws-truth}
use Rattle.diagram_lines.proofs.draw_truth.Goals as goal

pub lower-low-requires : goal.lower-low-requires
lower-low-requires c =
    draws-built c.draw-built.ensures

pub returns : goal.returns
returns c =
    draws-truth _ c.draw-built.ensures c.lower-low.ensures c.room.ensures
