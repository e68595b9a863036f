use borrow.Author.Rules.{rules}
use mathlib.Core.Path.{sym}
use native.Mathlib.Nat.{pow-zero}
use native.Mathlib.Omega.{arith}
use Rattle.valuing.proofs.CheckLaws.{few-none, few-large, few_past, few-all, few-fits, few_on}
use Rattle.valuing.proofs.few.Goals as goal

pub returns-then-v-eq0 : goal.returns-then-v-eq0
returns-then-v-eq0 c =
    search few-none

pub returns-then-n-gt-VALUATIONS : goal.returns-then-n-gt-VALUATIONS
returns-then-n-gt-VALUATIONS c =
    search few-large

pub loop-i-init : goal.loop-i-init
loop-i-init c =
    (search rules, sym (pow-zero _), search rules)

pub overflow_mul-p : goal.overflow_mul-p
overflow_mul-p c =
    omega (arith, few-fits _ _ c.loop-i.invariant.2 c.if-n-gt-VALUATIONS.false)

pub returns-then-p-gt-VALUATIONS : goal.returns-then-p-gt-VALUATIONS
returns-then-p-gt-VALUATIONS c =
    search few_past

pub loop-i-preserved : goal.loop-i-preserved
loop-i-preserved c =
    (search rules, search few_on, search rules)

pub returns : goal.returns
returns c =
    search few-all
