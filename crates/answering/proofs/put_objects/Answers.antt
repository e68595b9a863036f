use native.Mathlib.Omega.{arith}
use Rattle.answering.proofs.ObjectLaws.{objects-start, object-more}
use Rattle.answering.proofs.put_objects.Goals as goal

pub loop-i-init : goal.loop-i-init
loop-i-init c =
    search objects-start

pub loop-i-preserved : goal.loop-i-preserved
loop-i-preserved c =
    let byte = c.type_inv.objects c.loop-i.i in
    object-more c.requires c.loop-i.invariant c.loop-i-test.true c.if-i-n.false (omega (arith, byte)) c.put_field-end.auto.out (rw c.from.ensures at c.put_field-end.ensures)
