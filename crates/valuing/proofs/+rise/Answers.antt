use Rattle.std.proofs.Common.{refl, rules}
use Rattle.valuing.proofs.RisingLaws.{trying_start, trying-cut, trying-ready, trying-most, trying-on, trying-end, rise-falls}
use Rattle.valuing.proofs.+rise.Goals as goal

pub loop-v-init : goal.loop-v-init
loop-v-init t c = (refl, search trying_start)

pub returns-then-most-b : goal.returns-then-most-b
returns-then-most-b t c = trying-cut c.loop-v.invariant.1 c.if-most-b.true

pub rise-b-requires : goal.rise-b-requires
rise-b-requires t c = (
  rise-falls c.loop-v.invariant.1 c.decreases,
  (trying-ready c.loop-v.invariant.1 c.loop-v-test.true, (c.requires.used, trying-most c.loop-v.invariant.1 c.loop-v-test.true)),
)

pub loop-v-preserved : goal.loop-v-preserved
loop-v-preserved t c = (search rules, trying-on c.loop-v.invariant.1 c.loop-v-test.true c.rise-b.auto.low c.rise-b.ensures)

pub returns : goal.returns
returns t c = trying-end c.loop-v.invariant.1 c.loop-v-test.false
