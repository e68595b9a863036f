use Rattle.valuing.proofs.RisingLaws.{first-ready}
use Rattle.valuing.proofs.rise_all.Goals as goal

pub rise-requires-clause-rising : goal.rise-requires-clause-rising
rise-requires-clause-rising c =
    search first-ready
