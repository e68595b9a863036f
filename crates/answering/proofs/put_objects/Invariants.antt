use Rattle.answering.proofs.ObjectLaws.{ObjectsWritten}
use Rattle.answering.proofs.put_objects.Given as goal

abbrev pub invariant-loop-i : goal.invariant-loop-i
invariant-loop-i l = ObjectsWritten l.initial.out l.objects l.n l.at l.i l.end l.out
