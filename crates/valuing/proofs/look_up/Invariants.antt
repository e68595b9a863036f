use Rattle.valuing.proofs.SearchLaws.{Looking}
use Rattle.valuing.proofs.look_up.Given as goal

abbrev pub invariant-loop-j : goal.invariant-loop-j
invariant-loop-j l = Looking l.arities l.env l.l.packed l.k l.j l.h
