use Rattle.drawing.specs.Endings.{drawn_to}
use Rattle.drawing.proofs.draw.Goals as goal

pub returns : goal.returns
unfolding drawn_to
returns c =
    c.draw_to.ensures
