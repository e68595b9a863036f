use Rattle.std.proofs.Common.{length}
use Rattle.forms.proofs.+read_items.Given as goal

abbrev pub decreases-read_items : goal.decreases-read_items
decreases-read_items l = length l.s.now
