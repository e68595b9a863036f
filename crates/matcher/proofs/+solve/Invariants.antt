use Rattle.std.proofs.Common.{◌-◌, length}
use Rattle.matcher.proofs.TryingLaws.{Trying}
use Rattle.matcher.proofs.+solve.Given as goal

abbrev pub decreases-solve : goal.decreases-solve
decreases-solve l = length l.ord.now - l.k

abbrev pub invariant-loop-j : goal.invariant-loop-j
invariant-loop-j l =
    Trying l.ord l.into l.tab l.fn.theta l.fn.store l.k l.x l.bound l.vars l.total l.theta l.store l.mask l.j
