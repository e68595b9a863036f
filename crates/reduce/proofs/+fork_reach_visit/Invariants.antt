use Prim.Native.Nat.{◌+◌, ◌*◌}
use Rattle.reduce.proofs.+fork_reach_visit.Given as goal

abbrev pub decreases-fork : goal.decreases-fork
decreases-fork l = l.left * 4096 + l.r * 2 + 1

abbrev pub decreases-reach : goal.decreases-reach
decreases-reach l = l.left * 4096

abbrev pub decreases-visit : goal.decreases-visit
decreases-visit l = l.left * 4096 + l.r * 2 + 2
