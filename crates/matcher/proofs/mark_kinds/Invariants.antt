use Rattle.matcher.specs.Parts.{Kinds}
use Rattle.matcher.proofs.mark_kinds.Given as goal

abbrev pub invariant-loop-j : goal.invariant-loop-j
invariant-loop-j l = Kinds l.into l.kinds l.j
