use mathlib.Core.Path.{◌∙◌}
use Prim.Native.Nat.{◌<◌}
use native.Mathlib.Omega.{arith}
use lib.ListN.{length-take}
use lib.Seq.{get_or-take}
use Rattle.write.proofs.NumberLaws.{unmark-start, unmark-on, unmark-end}
use Rattle.write.proofs.unmark.Goals as goal

pub loop-i-init : goal.loop-i-init
loop-i-init c =
    search unmark-start

pub loop-i-preserved : goal.loop-i-preserved
loop-i-preserved c =
    let h : c.loop-i.i-index < c.args.m = omega (arith, length-take c.args.m c.args.order.now) in
    unmark-on c.loop-i.invariant h (c.wide.ensures ∙ get_or-take c.args.m c.args.order.now c.loop-i.i-index 0 h)

pub returns : goal.returns
returns c =
    unmark-end c.loop-i.invariant (omega (arith, length-take c.args.m c.args.order.now, c.requires.few, c.requires.order-places))
