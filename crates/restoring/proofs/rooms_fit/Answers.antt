use Rattle.restoring.proofs.TestLaws.{rooms-names, rooms-arities, rooms-listings, rooms-table, rooms-state, rooms-value}
use Rattle.restoring.proofs.rooms_fit.Goals as goal

pub returns-then-names-lt-WORDS : goal.returns-then-names-lt-WORDS
returns-then-names-lt-WORDS c =
    rooms-names _ _ _ _ _ _ c.if-names-lt-WORDS.true

pub returns-then-arities-ne-PREDICATES : goal.returns-then-arities-ne-PREDICATES
returns-then-arities-ne-PREDICATES c =
    rooms-arities _ _ _ _ _ _ c.if-names-lt-WORDS.false c.if-arities-ne-PREDICATES.true

pub returns-then-listings-lt-LISTING_WORDS : goal.returns-then-listings-lt-LISTING_WORDS
returns-then-listings-lt-LISTING_WORDS c =
    rooms-listings _ _ _ _ _ _ c.if-names-lt-WORDS.false c.if-arities-ne-PREDICATES.false c.if-listings-lt-LISTING_WORDS.true

pub returns-then-table-lt-TABLE_WORDS : goal.returns-then-table-lt-TABLE_WORDS
returns-then-table-lt-TABLE_WORDS c =
    rooms-table _ _ _ _ _ _ c.if-names-lt-WORDS.false c.if-arities-ne-PREDICATES.false c.if-listings-lt-LISTING_WORDS.false c.if-table-lt-TABLE_WORDS.true

pub returns-then-state-lt-WORDS : goal.returns-then-state-lt-WORDS
returns-then-state-lt-WORDS c =
    rooms-state _ _ _ _ _ _ c.if-names-lt-WORDS.false c.if-arities-ne-PREDICATES.false c.if-listings-lt-LISTING_WORDS.false c.if-table-lt-TABLE_WORDS.false c.if-state-lt-WORDS.true

pub returns : goal.returns
returns c =
    rooms-value _ _ _ _ _ _ c.if-names-lt-WORDS.false c.if-arities-ne-PREDICATES.false c.if-listings-lt-LISTING_WORDS.false c.if-table-lt-TABLE_WORDS.false c.if-state-lt-WORDS.false
