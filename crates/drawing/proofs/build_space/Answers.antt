use mathlib.Core.Path.{sym, ◌∙◌}
use Rattle.drawing.proofs.BuiltLaws.{few-suffice}
use Rattle.drawing.proofs.build_space.Goals as goal

pub returns : goal.returns
returns c =
    few-suffice (sym c.is_crowded.ensures ∙ c.if-is_crowded.false) c.build_with-r.ensures
