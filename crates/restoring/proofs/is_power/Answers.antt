use Rattle.restoring.proofs.PowerLaws.{power-one, divided-start, divided-low, divided-odd, divided-on, divided-end}
use Rattle.restoring.proofs.is_power.Goals as goal

pub returns-then-scale-eq1 : goal.returns-then-scale-eq1
returns-then-scale-eq1 c =
    power-one _ _ _ c.if-scale-eq1.true

pub loop-i-init : goal.loop-i-init
loop-i-init c =
    divided-start _ _ _

pub returns-then-x-scale : goal.returns-then-x-scale
returns-then-x-scale c =
    divided-low c.loop-i.invariant c.loop-i-test.true c.requires c.if-x-scale.true

pub returns-then-x-scale-ne0 : goal.returns-then-x-scale-ne0
returns-then-x-scale-ne0 c =
    divided-odd c.loop-i.invariant c.loop-i-test.true c.requires c.if-x-scale-ne0.true

pub loop-i-preserved : goal.loop-i-preserved
loop-i-preserved c =
    divided-on c.loop-i.invariant c.loop-i-test.true c.requires c.if-x-scale-ne0.false

pub returns : goal.returns
returns c =
    divided-end c.loop-i.invariant c.loop-i-test.false
