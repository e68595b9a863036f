use Prim.Native.Nat.{min}
use mathlib.Core.Path.{◌∙◌, ap}
use native.Mathlib.Omega.{arith}
use borrow.Author.Rules.{rules}
use lib.Seq.{take_all}
use Rattle.words.specs.Bytes.{decimal_from, decimal, over, value_of}
use Rattle.words.specs.ByteLaws.{run_at, digit-range, decimal-more}
use Rattle.words.proofs.value.Goals as goal

pub loop-b-init : goal.loop-b-init
unfolding decimal_from decimal value_of
loop-b-init c =
    omega arith

pub overflow_sub-b : goal.overflow_sub-b
overflow_sub-b c =
    search (rules, run_at, digit-range, decimal-more)

pub loop-b-preserved : goal.loop-b-preserved
loop-b-preserved c =
    omega (arith, decimal-more c.args.s.now c.loop-b.b-index c.loop-b-test.true)

pub returns : goal.returns
unfolding decimal_from decimal value_of
returns c =
    c.loop-b.invariant ∙ ap (λ l. min over (decimal l)) (take_all c.loop-b.b-index c.args.s.now c.loop-b-test.false)
