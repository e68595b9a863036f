use Rattle.spelling.proofs.TestLaws.{PlacesWritten}
use Rattle.spelling.proofs.put_places.Given as goal

abbrev pub invariant-loop-k : goal.invariant-loop-k
invariant-loop-k l = PlacesWritten l.initial.out l.names l.constants l.label.packed l.at l.n l.k l.end l.out
