use Rattle.valuing.specs.Rising.{Next}
use Rattle.valuing.proofs.next_marked.Given as goal

abbrev pub invariant-loop-r : goal.invariant-loop-r
invariant-loop-r l = Next l.marks l.t l.r
