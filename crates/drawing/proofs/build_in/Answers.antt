use lib.Dec.{lit≤}
use Rattle.drawing.proofs.BuiltLaws.{tables-ready, ran-builds}
use Rattle.drawing.proofs.build_in.Goals as goal

pub build_rows-requires-clause-ops : goal.build_rows-requires-clause-ops
build_rows-requires-clause-ops c =
    c.requires.ops

pub build_rows-requires-clause-ready : goal.build_rows-requires-clause-ready
build_rows-requires-clause-ready c =
    tables-ready c.requires.roomy 4096 2048 2048 (lit≤ tt) (lit≤ tt) (lit≤ tt)

pub returns : goal.returns
returns c =
    ran-builds c.build_rows.ensures
