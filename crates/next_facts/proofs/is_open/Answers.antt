use native.Mathlib.Omega.{arith}
use Rattle.next_facts.proofs.RowLaws.{placed-few, placed-read, opening-start, opening-hit, opening_on, opening-end}
use Rattle.next_facts.proofs.is_open.Goals as goal

pub loop-j-init : goal.loop-j-init
loop-j-init c =
    search opening-start

pub place-t-requires : goal.place-t-requires
place-t-requires c =
    search placed-few

pub offset_bounds-env-t : goal.offset_bounds-env-t
offset_bounds-env-t c =
    omega (arith, placed-read c.loop-j.invariant.placed c.loop-j-test.true c.place-t.ensures)

pub bounds-env-t : goal.bounds-env-t
bounds-env-t c =
    search placed-read

pub returns-then-env-t : goal.returns-then-env-t
returns-then-env-t c =
    search opening-hit

pub loop-j-preserved : goal.loop-j-preserved
loop-j-preserved c =
    search opening_on

pub returns : goal.returns
returns c =
    search opening-end
