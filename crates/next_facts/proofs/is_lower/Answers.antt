use native.Mathlib.Omega.{arith}
use Rattle.next_facts.proofs.KeepLaws.{lowering-start, lowering-first, lowering-second, lowering-found, lowering-on, never}
use Rattle.next_facts.proofs.is_lower.Goals as goal

pub loop-j-init : goal.loop-j-init
loop-j-init c =
    search lowering-start

pub overflow_add-x : goal.overflow_add-x
overflow_add-x c =
    omega (arith, lowering-first c.loop-j.invariant c.loop-j-test.true)

pub offset_bounds-facts-a : goal.offset_bounds-facts-a
offset_bounds-facts-a c =
    omega (arith, lowering-first c.loop-j.invariant c.loop-j-test.true)

pub bounds-facts-a : goal.bounds-facts-a
bounds-facts-a c =
    search lowering-first

pub overflow_add-y : goal.overflow_add-y
overflow_add-y c =
    omega (arith, lowering-second c.loop-j.invariant c.loop-j-test.true)

pub offset_bounds-facts-b : goal.offset_bounds-facts-b
offset_bounds-facts-b c =
    omega (arith, lowering-second c.loop-j.invariant c.loop-j-test.true)

pub bounds-facts-b : goal.bounds-facts-b
bounds-facts-b c =
    search lowering-second

pub returns-then-x-y : goal.returns-then-x-y
returns-then-x-y c =
    lowering-found c.loop-j.invariant c.loop-j-test.true

pub loop-j-preserved : goal.loop-j-preserved
loop-j-preserved c =
    search lowering-on

pub returns : goal.returns
returns c =
    λ e. never e
