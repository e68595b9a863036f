use Rattle.store.proofs.LoadLaws.{Loading}
use Rattle.store.proofs.load.Given as goal

abbrev pub invariant-loop-k : goal.invariant-loop-k
invariant-loop-k l = Loading l.arities l.words l.map l.initial.space l.count l.space l.heads l.links l.numbers l.n l.root l.k
