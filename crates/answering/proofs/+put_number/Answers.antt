use native.Mathlib.Omega.{arith}
use Rattle.answering.proofs.WriteLaws.{number-one, number_more, number-next, number-first, number-room}
use Rattle.answering.proofs.+put_number.Goals as goal

pub bounds-out-at : goal.bounds-out-at
bounds-out-at t c = number-first c.args.out.now c.args.at c.args.v c.requires

pub returns-then-v-le9 : goal.returns-then-v-le9
returns-then-v-le9 t c = number-one c.requires c.if-v-le9.true

pub put_number-i-requires : goal.put_number-i-requires
put_number-i-requires t c = (
  omega (arith, c.decreases, c.if-v-le9.false),
  number-room c.args.out.now c.args.at c.args.v c.requires c.if-v-le9.false,
)

pub bounds-out-i : goal.bounds-out-i
bounds-out-i t c = number-next c.requires c.if-v-le9.false c.put_number-i.ensures c.put_number-i.auto.out

pub returns : goal.returns
returns t c = number_more c.requires c.if-v-le9.false c.put_number-i.ensures
