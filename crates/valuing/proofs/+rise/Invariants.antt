use Rattle.std.proofs.Common.{◌-◌, ◌≡◌, length}
use Rattle.label.specs.Limits.{first_minimum}
use Rattle.valuing.proofs.RisingLaws.{Trying}
use Rattle.valuing.proofs.+rise.Given as goal

abbrev pub decreases-rise : goal.decreases-rise
decreases-rise l = first_minimum - l.t

abbrev pub invariant-loop-v : goal.invariant-loop-v
invariant-loop-v l = (length l.low ≡ length l.fn.low) × Trying l.words l.low l.arities l.facts l.index l.marks l.fn.env l.env l.n l.t l.next l.most l.best l.v l.b

abbrev pub decreases-loop-v : goal.decreases-loop-v
decreases-loop-v l = l.n - l.v
