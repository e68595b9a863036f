use Rattle.std.proofs.Common.{◌+◌, ◌*◌}
use Rattle.listing.proofs.+visit_walk.Given as goal

abbrev pub decreases-visit : goal.decreases-visit
decreases-visit l = l.i * 2 + 1

abbrev pub decreases-walk : goal.decreases-walk
decreases-walk l = l.i * 2
