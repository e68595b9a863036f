use native.Mathlib.Omega.{arith}
use Rattle.valuing.proofs.FactLaws.{saying-not, saying-start, saying-on, saying-no, saying-all, placed-place, placed-term, placed_row}
use borrow.Author.Rules.{rules}
use Rattle.valuing.proofs.row_says.Goals as goal

pub returns-then-facts-i : goal.returns-then-facts-i
returns-then-facts-i c =
    search saying-not

pub loop-j-init : goal.loop-j-init
loop-j-init c =
    (search rules, search saying-start)

pub place-t-requires : goal.place-t-requires
place-t-requires c =
    search placed-place

pub bounds-facts-i-in-loop-j : goal.bounds-facts-i-in-loop-j
bounds-facts-i-in-loop-j c =
    search placed_row

pub offset_bounds-env-t : goal.offset_bounds-env-t
offset_bounds-env-t c =
    omega (arith, placed-term c.requires.placed c.loop-j-test.true c.place-t.ensures)

pub bounds-env-t : goal.bounds-env-t
bounds-env-t c =
    search placed-term

pub returns-then-facts-i-2 : goal.returns-then-facts-i-2
returns-then-facts-i-2 c =
    search saying-no

pub loop-j-preserved : goal.loop-j-preserved
loop-j-preserved c =
    (search rules, saying-on c.loop-j.invariant.1 c.place-t.ensures c.if-facts-i-2.false)

pub returns : goal.returns
returns c =
    search saying-all
