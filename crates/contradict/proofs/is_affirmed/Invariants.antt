use Rattle.label.specs.Inner.{map_of}
use Rattle.contradiction.specs.Contradiction.{affirms}
use Rattle.contradict.proofs.LiteralLaws.{From}
use Rattle.contradict.proofs.is_affirmed.Given as goal

abbrev pub invariant-loop-x : goal.invariant-loop-x
invariant-loop-x l = From (affirms l.arities (map_of l.table) l.k) l.literals l.x-index
