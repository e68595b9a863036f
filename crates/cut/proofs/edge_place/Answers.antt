use Rattle.cut.proofs.WritingLaws.{place-true, place-false}
use Rattle.cut.proofs.edge_place.Goals as goal

pub returns-then-side : goal.returns-then-side
returns-then-side c =
    place-true _ c.if-side.true

pub returns-else-side : goal.returns-else-side
returns-else-side c =
    place-false _ c.if-side.false
