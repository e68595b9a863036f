use native.Mathlib.Omega.{arith}
use Rattle.model_entry.proofs.CountLaws.{count-start, count_most, count-on, count-end}
use Rattle.model_entry.proofs.variants_before.Goals as goal

pub loop-i-init : goal.loop-i-init
loop-i-init c =
    count-start

pub overflow_add-n-in-loop-i : goal.overflow_add-n-in-loop-i
overflow_add-n-in-loop-i c =
    omega (arith, count_most c.loop-i.invariant c.requires, c.requires.few, c.requires.each c.loop-i.i (omega arith))

pub loop-i-preserved : goal.loop-i-preserved
loop-i-preserved c =
    search count-on

pub returns : goal.returns
returns c =
    search count-end
