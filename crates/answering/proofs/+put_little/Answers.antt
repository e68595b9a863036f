use native.Mathlib.Omega.{arith}
use Rattle.answering.proofs.KeyLaws.{little-end, little-none, little-first, little-room, little-more}
use Rattle.answering.proofs.+put_little.Goals as goal

pub returns-then-left-eq0 : goal.returns-then-left-eq0
returns-then-left-eq0 t c = little-end c.args.out.now c.args.at c.args.m c.if-left-eq0.true

pub returns-then-m-eq0 : goal.returns-then-m-eq0
returns-then-m-eq0 t c = little-none c.args.out.now c.args.at c.args.left c.if-m-eq0.true

pub bounds-out-at : goal.bounds-out-at
bounds-out-at t c = little-first c.args.out.now c.args.at c.args.left c.args.m c.requires c.if-left-eq0.false c.if-m-eq0.false

pub put_little-requires : goal.put_little-requires
put_little-requires t c = (
  omega (arith, c.decreases, c.if-left-eq0.false),
  little-room c.args.out.now c.args.at c.args.left c.args.m c.requires c.if-left-eq0.false c.if-m-eq0.false,
)

pub returns : goal.returns
returns t c = little-more c.args.out.now c.args.at c.args.left c.args.m c.requires c.if-left-eq0.false c.if-m-eq0.false c.put_little.ensures
