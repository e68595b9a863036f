use Rattle.facts.proofs.FactLaws.{note-find, note-again, note-space, note-done}
use Rattle.facts.proofs.note.Goals as goal

pub is_fact-requires-clause-findable : goal.is_fact-requires-clause-findable
is_fact-requires-clause-findable c =
    search note-find

pub returns-then-is_fact : goal.returns-then-is_fact
returns-then-is_fact c =
    search note-again

pub returns-then-live-ge-FACTS : goal.returns-then-live-ge-FACTS
returns-then-live-ge-FACTS c =
    search note-space

pub returns : goal.returns
returns c =
    search note-done
