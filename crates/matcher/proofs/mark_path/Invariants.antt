use Rattle.matcher.specs.Stored.{Marking}
use Rattle.matcher.proofs.mark_path.Given as goal

abbrev pub invariant-loop-i : goal.invariant-loop-i
invariant-loop-i l = Marking l.arities l.initial.out l.out l.i
