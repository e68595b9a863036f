use mathlib.Core.Path.{refl}
use native.Mathlib.Omega.{arith}
use borrow.Author.Rules.{rules}
use Rattle.reduce.proofs.BlockLaws.{table-start, table-blocked, table-room, table-base, table_more, table-end}
use Rattle.reduce.proofs.fill_facts.Goals as goal

pub loop-i-init : goal.loop-i-init
loop-i-init c =
    (refl, search rules, search rules, table-start c.requires)

pub fact_block-requires : goal.fact_block-requires
fact_block-requires c =
    table-blocked (c.requires) c.loop-i.facts c.loop-i.invariant.0 c.loop-i-test.true c.loop-i.invariant.2

pub overflow_add-base : goal.overflow_add-base
overflow_add-base c =
    omega (arith, table-room (c.requires) c.loop-i.facts c.loop-i.invariant.0 c.loop-i-test.true c.loop-i.invariant.2)

pub loop-i-preserved : goal.loop-i-preserved
loop-i-preserved c = (
  search rules,
  search rules,
  table-base (c.requires) c.loop-i.i c.loop-i.base c.loop-i.invariant.2,
  table_more (c.requires) c.loop-i.facts c.loop-i.invariant.0 c.loop-i-test.true
      c.loop-i.invariant.2 c.loop-i.invariant.3 c.fact_block.ensures,
)

pub returns : goal.returns
returns c =
    table-end (c.requires) c.loop-i.invariant.1 c.loop-i-test.false c.loop-i.invariant.3
