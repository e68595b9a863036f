use borrow.Author.Rules.{rules}
use native.Mathlib.Omega.{arith}
use Rattle.next_facts.proofs.StartLaws.{begun-none, begun-on, begun-end}
use Rattle.next_facts.proofs.start.Goals as goal

pub loop-t-init : goal.loop-t-init
loop-t-init c =
    (search rules, search begun-none)

pub bounds-env-t : goal.bounds-env-t
bounds-env-t c =
    omega (arith, c.loop-t.invariant.1.words)

pub loop-t-preserved : goal.loop-t-preserved
loop-t-preserved c =
    (search rules, search begun-on)

pub returns : goal.returns
returns c =
    search begun-end
