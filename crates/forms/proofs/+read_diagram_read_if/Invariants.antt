use Rattle.std.proofs.Common.{length}
use Rattle.forms.proofs.+read_diagram_read_if.Given as goal

abbrev pub decreases-read_diagram : goal.decreases-read_diagram
decreases-read_diagram l = length l.s.now

abbrev pub decreases-read_if : goal.decreases-read_if
decreases-read_if l = length l.s.now
