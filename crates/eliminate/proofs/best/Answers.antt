use Rattle.eliminate.proofs.BestLaws.{best-start, best-looking, best-on}
use Rattle.std.proofs.lemmas.Bool.Decides.{nat_tests}
use native.Mathlib.Omega.{arith}
use Rattle.eliminate.proofs.best.Goals as goal

pub loop-c-init : goal.loop-c-init
loop-c-init c =
    search best-start

pub look-requires : goal.look-requires
look-requires c =
    best-looking c.loop-c.invariant c.decode.ensures

pub loop-c-preserved : goal.loop-c-preserved
loop-c-preserved c =
    best-on c.loop-c.invariant c.loop-c-test.true c.decode.ensures c.look.ensures (grind (arith, nat_tests))
