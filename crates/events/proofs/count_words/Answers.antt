use native.Mathlib.Omega.{arith}
use Rattle.events.proofs.FrontCode.{spaces-stop, spaces-more, spaces-end, bit_is}
use Rattle.events.proofs.count_words.Goals as goal

pub returns-then-b-eq41 : goal.returns-then-b-eq41
returns-then-b-eq41 c =
    omega (arith, spaces-stop c.args.s.now c.loop-b.b-index c.loop-b-test.true c.if-b-eq41.true)

pub overflow_add-n : goal.overflow_add-n
overflow_add-n c =
    omega (arith, bit_is _ c.from-n.ensures)

pub loop-b-preserved : goal.loop-b-preserved
loop-b-preserved c =
    omega (
      arith,
      bit_is _ c.from-n.ensures,
      spaces-more c.args.s.now c.loop-b.b-index c.loop-b-test.true c.if-b-eq41.false,
    )

pub returns : goal.returns
returns c =
    omega (arith, spaces-end c.args.s.now c.loop-b.b-index c.loop-b-test.false)
