use Rattle.valuing.proofs.SearchLaws.{follow-true, follow-false}
use Rattle.valuing.proofs.follow.Goals as goal

pub returns-then-answer : goal.returns-then-answer
returns-then-answer c =
    search follow-true

pub returns : goal.returns
returns c =
    search follow-false
