use Prim.Native.Nat.{◌+◌}
use lib.Dec.{lit≤}
use Rattle.label.specs.Limits.{first_minimum}
use Rattle.paths.specs.Paths.{most_paths}
use Rattle.cut.proofs.ChoosingLaws.{ask-enterable, room-made, face-made}
use Rattle.cut.proofs.has_cover.Goals as goal

pub target-a-requires-clause-enterable : goal.target-a-requires-clause-enterable
target-a-requires-clause-enterable c =
    ask-enterable c.requires.asking c.requires.p_lt_m (room-made (first_minimum + most_paths) (lit≤ tt))

pub some_cover-requires-clause-facing : goal.some_cover-requires-clause-facing
some_cover-requires-clause-facing c =
    face-made (first_minimum + most_paths) (lit≤ tt) c.target-a.ensures
