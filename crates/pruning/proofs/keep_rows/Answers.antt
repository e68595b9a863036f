use mathlib.Core.Path.{refl}
use native.Mathlib.Omega.{arith}
use borrow.Author.Rules.{rules}
use Rattle.pruning.proofs.KeepingLaws.{keep-place, keep-few, keep-full, keep-fits, keep-on, keep-end}
use Rattle.pruning.proofs.keep_rows.Goals as goal

pub loop-i-init : goal.loop-i-init
loop-i-init c =
    (refl, refl, refl, refl, c.requires)

pub keep_row-requires-clause-keeping : goal.keep_row-requires-clause-keeping
keep_row-requires-clause-keeping c =
    c.loop-i.invariant.4

pub keep_row-requires-clause-i_bound : goal.keep_row-requires-clause-i_bound
keep_row-requires-clause-i_bound c =
    c.loop-i-test.true

pub returns-in_err-j : goal.returns-in_err-j
returns-in_err-j c = rw c.from_residual.ensures (keep-full c.loop-i.invariant.4 c.loop-i-test.true c.keep_row.ensures c.in_err-j.was)

pub overflow_cast-numbers : goal.overflow_cast-numbers
overflow_cast-numbers c =
    keep-fits c.loop-i.invariant.4 c.loop-i-test.true c.keep_row.ensures c.in_ok-j.was

pub offset_bounds-numbers-i : goal.offset_bounds-numbers-i
offset_bounds-numbers-i c =
    omega (arith, keep-few c.loop-i.invariant.4 c.loop-i-test.true)

pub bounds-numbers-i : goal.bounds-numbers-i
bounds-numbers-i c =
    keep-place c.loop-i.invariant.4 c.loop-i-test.true

pub loop-i-preserved : goal.loop-i-preserved
loop-i-preserved c =
    (search rules, search rules, search rules, search rules, keep-on c.loop-i.invariant.4 c.loop-i-test.true c.keep_row.ensures c.in_ok-j.was)

pub overflow_sub-n : goal.overflow_sub-n
overflow_sub-n c =
    omega (arith, c.loop-i.invariant.4.edged.some)

pub offset_bounds-numbers-n : goal.offset_bounds-numbers-n
offset_bounds-numbers-n c =
    omega (arith, c.loop-i.invariant.4.edged.some, c.loop-i.invariant.4.edged.rows.few)

pub bounds-numbers-n : goal.bounds-numbers-n
bounds-numbers-n c =
    omega (arith, c.loop-i.invariant.4.edged.some, c.loop-i.invariant.4.edged.rows.few, c.loop-i.invariant.4.places)

pub returns : goal.returns
returns c =
    keep-end c.loop-i.invariant.4 c.loop-i-test.false c.wide.ensures
