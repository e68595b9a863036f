use Rattle.model_entry.proofs.CountLaws.{Counting}
use Rattle.model_entry.proofs.variants_before.Given as goal

abbrev pub invariant-loop-i : goal.invariant-loop-i
invariant-loop-i l = Counting l.table l.a l.i l.n
