use native.Mathlib.Omega.{arith}
use Rattle.next_facts.proofs.MarkLaws.{mark-leaf, mark-true, mark-false, mark-predicate, mark-arity, mark-placed, mark-same, mark-branch}
use Rattle.next_facts.proofs.mark.Goals as goal

pub returns-then-w : goal.returns-then-w
returns-then-w c =
    search mark-leaf

pub offset_bounds-marks-t : goal.offset_bounds-marks-t
offset_bounds-marks-t c =
    omega (arith, mark-true c.requires.reaching c.requires.marked c.requires.i_bound c.if-w.false)

pub bounds-marks-t : goal.bounds-marks-t
bounds-marks-t c =
    search mark-true

pub offset_bounds-marks-f : goal.offset_bounds-marks-f
offset_bounds-marks-f c =
    omega (arith, mark-false c.requires.reaching c.requires.marked c.requires.i_bound c.if-w.false)

pub bounds-marks-f : goal.bounds-marks-f
bounds-marks-f c =
    search mark-false

pub returns-then-x-y : goal.returns-then-x-y
returns-then-x-y c =
    search mark-same

pub offset_bounds-arities-p : goal.offset_bounds-arities-p
offset_bounds-arities-p c =
    omega (arith, mark-predicate c.requires.reaching c.requires.marked c.requires.i_bound c.if-w.false c.predicate-p.ensures)

pub bounds-arities-p : goal.bounds-arities-p
bounds-arities-p c =
    search mark-arity

pub is_open-opened-requires : goal.is_open-opened-requires
is_open-opened-requires c =
    search mark-placed

pub may_hold-may-requires-clause-placed : goal.may_hold-may-requires-clause-placed
may_hold-may-requires-clause-placed c =
    search mark-placed

pub returns : goal.returns
returns c =
    search mark-branch
