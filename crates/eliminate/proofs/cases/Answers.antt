use Rattle.eliminate.proofs.SetLaws.{case-start, case-on}
use native.Mathlib.Omega.{arith}
use Rattle.eliminate.proofs.cases.Goals as goal

pub loop-c-init : goal.loop-c-init
loop-c-init c =
    search case-start

pub loop-c-preserved : goal.loop-c-preserved
loop-c-preserved c =
    case-on c.loop-c.invariant _ c.loop-c-test.true c.decode.ensures c.truth.ensures (grind arith)
