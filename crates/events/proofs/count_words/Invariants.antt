use mathlib.Core.Path.{◌≡◌}
use Prim.Native.Nat.{◌≤◌, ◌+◌}
use lib.ListN.{drop}
use Rattle.events.specs.Front.{spaces}
use Rattle.events.proofs.count_words.Given as goal

abbrev pub invariant-loop-b : goal.invariant-loop-b
invariant-loop-b l = (l.n ≤ l.b-index) × (spaces l.s ≡ l.n + spaces (drop l.b-index l.s))
