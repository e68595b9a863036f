use mathlib.Core.Path.{◌≡◌}
use mathlib.Core.List.{List}
use Prim.Native.Nat.{ℕ, ◌+◌, ◌≤◌, max}
use native.Mathlib.Omega.{arith}
use lib.ListN.{length, drop}
use Rattle.basics.specs.Tests.{Cmp, below, equal, above, cmp}
use Rattle.texts.specs.Ends.{line_length}
use Rattle.texts.specs.LineLaws.{line-stop, line-more, line-past}
use Rattle.texts.proofs.line_end.Goals as goal

-- no line feed is left from the place on
none-left : (s : List ℕ) (at i : ℕ) → (at ≤ length s → i ≤ length s) → length s ≤ i
    → at + line_length (drop at s) ≡ i + line_length (drop i s) → Cmp at (length s) → max at (length s) ≡ at + line_length (drop at s)
none-left s at i a h e (below k) = let b = a (omega arith) in omega (arith, b, k, h, e, line-past s i h)
none-left s at i a h e (equal k) = let b = a (omega arith) in omega (arith, b, k, h, e, line-past s i h)
none-left s at i a h e (above k) = omega (arith, k, line-past s at (omega arith))

pub returns-then-text-i-eq10 : goal.returns-then-text-i-eq10
returns-then-text-i-eq10 c =
    omega (arith, c.loop-i.invariant, line-stop c.args.text.now c.loop-i.i (omega arith) c.if-text-i-eq10.true)

pub loop-i-init : goal.loop-i-init
loop-i-init c =
    omega arith

pub loop-i-preserved : goal.loop-i-preserved
loop-i-preserved c =
    omega (arith, c.loop-i.invariant, line-more c.args.text.now c.loop-i.i (omega arith) c.if-text-i-eq10.false)

pub returns : goal.returns
returns c =
    let s = c.args.text.now in
    omega (arith, none-left s c.args.at c.loop-i.i c.loop-i.auto.i-end c.loop-i-test.false c.loop-i.invariant (cmp c.args.at (length s)))
