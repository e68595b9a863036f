use mathlib.Core.Path.{refl}
use native.Mathlib.Omega.{arith}
use borrow.Author.Rules.{rules}
use Rattle.paths.proofs.RouteLaws.{routed-at, routed-small}
use Rattle.cut.proofs.ChoosingLaws.{sides-none, sides-more, sides_all}
use Rattle.cut.proofs.find_sides.Goals as goal

pub loop-p-init : goal.loop-p-init
loop-p-init c =
    (refl, omega arith, sides-none _ _ _ _)

pub side_of-requires-clause-at : goal.side_of-requires-clause-at
side_of-requires-clause-at c =
    routed-at c.requires.routed c.loop-p-test.true

pub offset_bounds-sides-p : goal.offset_bounds-sides-p
offset_bounds-sides-p c =
    omega (arith, routed-small c.requires.routed c.loop-p-test.true)

pub bounds-sides-p : goal.bounds-sides-p
bounds-sides-p c =
    omega (arith, c.loop-p-test.true, c.requires.m_in_bounds, c.loop-p.invariant.0)

pub loop-p-preserved : goal.loop-p-preserved
loop-p-preserved c = (
  search rules,
  omega (arith, c.loop-p-test.true),
  sides-more c.loop-p.invariant.2 (omega (arith, c.loop-p-test.true, c.requires.m_in_bounds, c.loop-p.invariant.0)) c.side_of.ensures,
)

pub returns : goal.returns
returns c =
    sides_all c.loop-p.invariant.2 c.loop-p.invariant.1 c.loop-p-test.false
