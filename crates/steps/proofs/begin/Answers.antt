use Rattle.steps.specs.GivenLaws.{begun}
use native.Mathlib.Omega.{arith}
use lib.ListN.{length-set}
use Rattle.steps.proofs.begin.Goals as goal

pub bounds-out-1 : goal.bounds-out-1
bounds-out-1 c =
    simp length-set (omega arith)

pub bounds-out-2 : goal.bounds-out-2
bounds-out-2 c =
    simp length-set (omega arith)

pub returns : goal.returns
returns c =
    begun c.args.out.now c.requires
