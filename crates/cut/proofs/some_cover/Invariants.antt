use mathlib.Core.Path.{◌≡◌}
use mathlib.Core.Bool.{false}
use Prim.Native.Nat.{◌≤◌}
use lib.ListN.{length}
use Rattle.cut.specs.Choosing.{Known, cover_below}
use Rattle.cut.proofs.some_cover.Given as goal

abbrev pub invariant-loop-q : goal.invariant-loop-q
invariant-loop-q l = (length l.memo ≡ length l.initial.memo) × (length l.from ≡ length l.initial.from) × (l.q ≤ l.m)
    × Known l.arities l.words l.memo l.n × (cover_below l.arities l.words l.n l.sides l.side l.p l.q ≡ false)
