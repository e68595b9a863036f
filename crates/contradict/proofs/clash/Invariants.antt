use Rattle.label.specs.Inner.{map_of}
use Rattle.paths.specs.Inner.{literals_in}
use Rattle.contradiction.specs.Contradiction.{clashes}
use Rattle.contradict.proofs.LiteralLaws.{From}
use Rattle.contradict.proofs.clash.Given as goal

abbrev pub invariant-loop-x : goal.invariant-loop-x
invariant-loop-x l = From (clashes l.arities (map_of l.table) (literals_in l.literals)) l.literals l.x-index
