use Rattle.run_lines.proofs.TextLaws.{text-long, text-bytes, text-refused}
use Rattle.run_lines.proofs.text.Goals as goal

pub slice_bounds-measure-end : goal.slice_bounds-measure-end
slice_bounds-measure-end c =
    text-long c.requires

pub returns-in-Some : goal.returns-in-Some
returns-in-Some c =
    text-bytes c.measure-m.ensures c.in-Some.is

pub returns-in-None : goal.returns-in-None
returns-in-None c =
    text-refused c.measure-m.ensures c.in-None.is
