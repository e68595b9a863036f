use mathlib.Core.Path.{◌∙◌}
use Prim.Native.Nat.{◌<◌}
use native.Mathlib.Omega.{arith}
use lib.ListN.{length-take}
use lib.Seq.{get_or-take}
use Rattle.write.proofs.WriteLaws.{emit-start, emit-on}
use Rattle.write.proofs.emit.Goals as goal

pub loop-j-init : goal.loop-j-init
loop-j-init c =
    search emit-start

pub loop-j-preserved : goal.loop-j-preserved
loop-j-preserved c =
    let h : c.loop-j.j < c.args.m = omega (arith, length-take c.args.m c.args.order.now) in
    emit-on c.loop-j.invariant h (c.wide.ensures ∙ get_or-take c.args.m c.args.order.now c.loop-j.j 0 h) c.renumber.ensures c.put.ensures
