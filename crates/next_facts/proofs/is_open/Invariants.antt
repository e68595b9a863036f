use Rattle.next_facts.proofs.RowLaws.{Opening}
use Rattle.next_facts.proofs.is_open.Given as goal

abbrev pub invariant-loop-j : goal.invariant-loop-j
invariant-loop-j l = Opening l.env l.l.packed l.k l.j
