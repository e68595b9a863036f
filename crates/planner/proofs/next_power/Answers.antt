use Rattle.planner.proofs.PowerLaws.{scale_small, scale-some, power-steps, power-high, power-fits, power-next}
use borrow.Author.Rules.{rules}
use Rattle.planner.proofs.next_power.Goals as goal

pub overflow_mul-scale : goal.overflow_mul-scale
overflow_mul-scale c =
    let p = scale_small c.requires.numbers in search rules

pub returns-then-k-eq-STEPS : goal.returns-then-k-eq-STEPS
returns-then-k-eq-STEPS c =
    power-steps c.requires.numbers c.requires.powered c.if-k-eq-STEPS.true

pub nonzero_div-scale : goal.nonzero_div-scale
nonzero_div-scale c =
    let p = scale-some c.requires.numbers in search rules

pub returns-then-power-scale : goal.returns-then-power-scale
returns-then-power-scale c =
    power-high c.requires.numbers c.requires.powered c.if-power-scale.true

pub overflow_mul-result : goal.overflow_mul-result
overflow_mul-result c =
    let p = power-fits c.requires.numbers c.requires.powered c.if-power-scale.false in search rules

pub returns : goal.returns
returns c =
    power-next c.requires.numbers c.requires.powered c.if-k-eq-STEPS.false c.if-power-scale.false
