use mathlib.Core.Path.{◌≡◌}
use Prim.Native.Nat.{◌-◌}
use lib.ListN.{length}
use Rattle.declare.proofs.ParameterLaws.{Naming-on}
use Rattle.declare.proofs.read_parameters.Given as goal

abbrev pub invariant-loop-place : goal.invariant-loop-place
invariant-loop-place l = Naming-on l.line l.at l.keys l.place l.n × (length l.keys ≡ length l.initial.keys)

abbrev pub decreases-loop-place : goal.decreases-loop-place
decreases-loop-place l = length l.line - l.place
