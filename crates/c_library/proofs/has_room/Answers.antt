use Rattle.c_library.proofs.SessionLaws.{room-numbers, room-arities, room-state}
use Rattle.c_library.proofs.has_room.Goals as goal

pub returns-then-numbers-lt-NUMBER_WORDS : goal.returns-then-numbers-lt-NUMBER_WORDS
returns-then-numbers-lt-NUMBER_WORDS c =
    search room-numbers

pub returns-then-arities-ne-PREDICATES : goal.returns-then-arities-ne-PREDICATES
returns-then-arities-ne-PREDICATES c =
    search room-arities

pub returns : goal.returns
returns c =
    search room-state
