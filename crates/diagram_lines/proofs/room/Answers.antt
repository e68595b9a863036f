use Rattle.diagram_lines.proofs.RoomLaws.{room-full, room-none, room-some}
use Rattle.diagram_lines.proofs.room.Goals.{then-full-via-then-full, then-full-via-else-full+then-rows-words}
use Rattle.diagram_lines.proofs.room.Goals as goal

pub returns-then-full : goal.returns-then-full
returns-then-full c =
    elim c.then-full.branch [
      | then-full-via-then-full w ↦ room-full _ c.in_ok-rows.was w.if-full.true
      | then-full-via-else-full+then-rows-words w ↦ room-none c.requires c.in_ok-rows.was w.if-full.false w.if-rows-words.true
    ]

pub returns : goal.returns
returns c =
    room-some c.requires c.in_ok-rows.was c.if-full.false c.if-rows-words.false
