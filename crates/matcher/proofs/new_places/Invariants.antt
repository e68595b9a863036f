use Prim.Native.Nat.{◌≤◌}
use Rattle.matcher.proofs.new_places.Given as goal

abbrev pub invariant-loop-k : goal.invariant-loop-k
invariant-loop-k l = l.n ≤ l.k
