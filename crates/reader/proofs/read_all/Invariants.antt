use Rattle.reader.proofs.WordCode.{Loop}
use lib.ListN.{length}
use Prim.Native.Nat.{◌-◌}
use Rattle.reader.proofs.read_all.Given as goal

abbrev pub invariant-loop-place : goal.invariant-loop-place
invariant-loop-place l = Loop l.line l.at l.names l.arities l.initial.variables l.initial.operations l.scope l.initial.known l.variables l.operations l.place l.known l.pass

abbrev pub decreases-loop-place : goal.decreases-loop-place
decreases-loop-place l = length l.line - l.place
