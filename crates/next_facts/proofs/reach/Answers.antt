use borrow.Author.Rules.{rules}
use native.Mathlib.Omega.{arith}
use lib.ListN.{length-set}
use Rattle.next_facts.proofs.MarkLaws.{marking-start, marking-room, marking-on, marking-some, marking-root, marking-end}
use Rattle.next_facts.proofs.reach.Goals as goal

pub loop-i-init : goal.loop-i-init
loop-i-init c =
    (search rules, search marking-start)

pub mark-x-requires-clause-reaching : goal.mark-x-requires-clause-reaching
mark-x-requires-clause-reaching c =
    c.loop-i.invariant.1.reaching

pub mark-x-requires-clause-marked : goal.mark-x-requires-clause-marked
mark-x-requires-clause-marked c =
    c.loop-i.invariant.1.marked

pub mark-x-requires-clause-i_bound : goal.mark-x-requires-clause-i_bound
mark-x-requires-clause-i_bound c =
    c.loop-i-test.true

pub bounds-marks-i : goal.bounds-marks-i
bounds-marks-i c =
    search marking-room

pub loop-i-preserved : goal.loop-i-preserved
loop-i-preserved c =
    (simp length-set (search rules), search marking-on)

pub overflow_sub-result : goal.overflow_sub-result
overflow_sub-result c =
    search marking-some

pub offset_bounds-marks-rows : goal.offset_bounds-marks-rows
offset_bounds-marks-rows c =
    omega (arith, marking-root c.loop-i.invariant.1 c.loop-i-test.false)

pub bounds-marks-rows : goal.bounds-marks-rows
bounds-marks-rows c =
    search marking-root

pub returns : goal.returns
returns c =
    search marking-end
