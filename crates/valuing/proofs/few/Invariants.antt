use mathlib.Core.Path.{◌≡◌}
use Prim.Native.Nat.{◌^◌, ◌≤◌}
use Rattle.state.specs.ValueCall.{most_valuations}
use Rattle.valuing.proofs.few.Given as goal

abbrev pub invariant-loop-i : goal.invariant-loop-i
invariant-loop-i l = (l.i ≤ l.v) × (l.p ≡ l.n ^ l.i) × (l.p ≤ most_valuations)
