use Rattle.c_library.proofs.SessionLaws.{rooms-numbers, rooms-names, rooms-arities, rooms-listings, rooms-table, rooms-state, rooms-value}
use Rattle.c_library.proofs.has_rooms.Goals as goal

pub returns-then-numbers-lt-NUMBER_WORDS : goal.returns-then-numbers-lt-NUMBER_WORDS
returns-then-numbers-lt-NUMBER_WORDS c =
    rooms-numbers c.args.numbers c.args.names c.args.arities c.args.listings c.args.table c.args.state c.args.value c.if-numbers-lt-NUMBER_WORDS.true

pub returns-then-names-ne-WORDS : goal.returns-then-names-ne-WORDS
returns-then-names-ne-WORDS c =
    rooms-names c.args.numbers c.args.names c.args.arities c.args.listings c.args.table c.args.state c.args.value
    c.if-numbers-lt-NUMBER_WORDS.false c.if-names-ne-WORDS.true

pub returns-then-arities-ne-PREDICATES : goal.returns-then-arities-ne-PREDICATES
returns-then-arities-ne-PREDICATES c =
    rooms-arities c.args.numbers c.args.names c.args.arities c.args.listings c.args.table c.args.state c.args.value
    c.if-numbers-lt-NUMBER_WORDS.false c.if-names-ne-WORDS.false c.if-arities-ne-PREDICATES.true

pub returns-then-listings-ne-LISTING_WORDS : goal.returns-then-listings-ne-LISTING_WORDS
returns-then-listings-ne-LISTING_WORDS c =
    rooms-listings c.args.numbers c.args.names c.args.arities c.args.listings c.args.table c.args.state c.args.value
    c.if-numbers-lt-NUMBER_WORDS.false c.if-names-ne-WORDS.false c.if-arities-ne-PREDICATES.false c.if-listings-ne-LISTING_WORDS.true

pub returns-then-table-ne-TABLE_WORDS : goal.returns-then-table-ne-TABLE_WORDS
returns-then-table-ne-TABLE_WORDS c =
    rooms-table c.args.numbers c.args.names c.args.arities c.args.listings c.args.table c.args.state c.args.value
    c.if-numbers-lt-NUMBER_WORDS.false c.if-names-ne-WORDS.false c.if-arities-ne-PREDICATES.false c.if-listings-ne-LISTING_WORDS.false c.if-table-ne-TABLE_WORDS.true

pub returns-then-state-ne-WORDS : goal.returns-then-state-ne-WORDS
returns-then-state-ne-WORDS c =
    rooms-state c.args.numbers c.args.names c.args.arities c.args.listings c.args.table c.args.state c.args.value
    c.if-numbers-lt-NUMBER_WORDS.false c.if-names-ne-WORDS.false c.if-arities-ne-PREDICATES.false
    c.if-listings-ne-LISTING_WORDS.false c.if-table-ne-TABLE_WORDS.false c.if-state-ne-WORDS.true

pub returns : goal.returns
returns c =
    rooms-value c.args.numbers c.args.names c.args.arities c.args.listings c.args.table c.args.state c.args.value
    c.if-numbers-lt-NUMBER_WORDS.false c.if-names-ne-WORDS.false c.if-arities-ne-PREDICATES.false
    c.if-listings-ne-LISTING_WORDS.false c.if-table-ne-TABLE_WORDS.false c.if-state-ne-WORDS.false
