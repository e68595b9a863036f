use Rattle.valuing.proofs.ClimbLaws.{tables-liftable, climb-few, climb-many}
use Rattle.valuing.proofs.climb.Goals as goal

pub returns-then-few : goal.returns-then-few
returns-then-few c =
    search climb-few

pub lifted-requires : goal.lifted-requires
lifted-requires c =
    search tables-liftable

pub returns : goal.returns
returns c =
    search climb-many
