use native.Mathlib.Omega.{arith}
use lib.ListN.{length-replicate}
use Rattle.drawing.proofs.draw_with.Goals as goal

pub draw_in-requires-clause-line_in_bounds : goal.draw_in-requires-clause-line_in_bounds
draw_in-requires-clause-line_in_bounds g c =
    rw length-replicate c.requires.line_in_bounds

pub whole_as_slice-draw_in : goal.whole_as_slice-draw_in
whole_as_slice-draw_in g c =
    omega arith
