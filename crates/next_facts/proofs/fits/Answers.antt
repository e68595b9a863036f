use native.Mathlib.Omega.{arith}
use Rattle.next_facts.proofs.RowLaws.{fitting-not, fitting-start, fitting-few, fitting-fact, fitting-read, fitting-hit, fitting-on, fitting-end}
use Rattle.next_facts.proofs.fits.Goals as goal

pub returns-then-facts-i : goal.returns-then-facts-i
returns-then-facts-i c =
    search fitting-not

pub loop-j-init : goal.loop-j-init
loop-j-init c =
    search fitting-start

pub place-t-requires : goal.place-t-requires
place-t-requires c =
    search fitting-few

pub offset_bounds-env-t : goal.offset_bounds-env-t
offset_bounds-env-t c =
    omega (arith, fitting-read c.loop-j.invariant c.loop-j-test.true c.place-t.ensures)

pub bounds-env-t : goal.bounds-env-t
bounds-env-t c =
    search fitting-read

pub overflow_add-i-in-loop-j : goal.overflow_add-i-in-loop-j
overflow_add-i-in-loop-j c =
    omega (arith, fitting-fact c.loop-j.invariant c.loop-j-test.true)

pub offset_bounds-facts-i-in-loop-j : goal.offset_bounds-facts-i-in-loop-j
offset_bounds-facts-i-in-loop-j c =
    omega (arith, fitting-fact c.loop-j.invariant c.loop-j-test.true)

pub bounds-facts-i-in-loop-j : goal.bounds-facts-i-in-loop-j
bounds-facts-i-in-loop-j c =
    search fitting-fact

pub returns-then-differs : goal.returns-then-differs
returns-then-differs c =
    search fitting-hit

pub loop-j-preserved : goal.loop-j-preserved
loop-j-preserved c =
    search fitting-on

pub returns : goal.returns
returns c =
    search fitting-end
