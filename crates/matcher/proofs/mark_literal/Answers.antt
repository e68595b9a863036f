use Rattle.matcher.proofs.MarkLaws.{predicate-within, literal-few, literal-marked}
use Rattle.matcher.proofs.mark_literal.Goals as goal

pub bounds-arities-p : goal.bounds-arities-p
bounds-arities-p c =
    predicate-within c.requires c.predicate-p.ensures

pub mark_places-requires-clause-n_le_most_places : goal.mark_places-requires-clause-n_le_most_places
mark_places-requires-clause-n_le_most_places c =
    literal-few (c.requires) c.predicate-p.ensures

pub returns : goal.returns
returns c =
    literal-marked (c.requires) c.predicate-p.ensures c.mark_places.ensures
