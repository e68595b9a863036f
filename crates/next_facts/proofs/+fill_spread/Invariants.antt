use Rattle.std.proofs.Common.{◌+◌, ◌-◌, ◌*◌}
use Rattle.next_facts.proofs.FillLaws.{Spreading}
use Rattle.next_facts.proofs.+fill_spread.Given as goal

abbrev pub decreases-fill : goal.decreases-fill
decreases-fill l = l.left * 2

abbrev pub decreases-spread : goal.decreases-spread
decreases-spread l = l.left * 2 + 1

abbrev pub invariant-spread-loop-v : goal.invariant-spread-loop-v
invariant-spread-loop-v l =
    Spreading l.arities l.facts l.words l.fn.env l.env l.fn.marks l.marks l.fn.out l.out l.p l.k l.n l.left l.count l.m l.v

abbrev pub decreases-spread-loop-v : goal.decreases-spread-loop-v
decreases-spread-loop-v l = l.n - l.v
