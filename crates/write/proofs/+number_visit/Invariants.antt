use Prim.Native.Nat.{◌+◌, ◌*◌}
use Rattle.write.proofs.+number_visit.Given as goal

abbrev pub decreases-number : goal.decreases-number
decreases-number l = l.i * 2

abbrev pub decreases-visit : goal.decreases-visit
decreases-visit l = l.i * 2 + 1
