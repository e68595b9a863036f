use native.Mathlib.Omega.{arith}
use lib.ListN.{length-set}
use Rattle.reader.proofs.PassCode.{add_goes}
use Rattle.reader.proofs.add.Goals as goal

pub bounds-operations-n-2 : goal.bounds-operations-n-2
bounds-operations-n-2 c =
    simp length-set (omega arith)

pub returns : goal.returns
returns c =
    search add_goes
