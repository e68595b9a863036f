use Rattle.facts.proofs.StateLaws.{place-unknown, place-again, place-beyond, place-room, place-done}
use Rattle.facts.proofs.place.Goals as goal

pub returns-then-c-n : goal.returns-then-c-n
returns-then-c-n c =
    search place-unknown

pub returns-then-state-c-eq1 : goal.returns-then-state-c-eq1
returns-then-state-c-eq1 c =
    search place-again

pub returns-then-o-live : goal.returns-then-o-live
returns-then-o-live c =
    search place-beyond

pub bounds-state-c-3 : goal.bounds-state-c-3
bounds-state-c-3 c =
    search place-room

pub returns : goal.returns
returns c =
    search place-done
