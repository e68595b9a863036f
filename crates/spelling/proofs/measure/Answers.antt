use Rattle.spelling.specs.Spelling.{tables_at}
use Rattle.spelling.proofs.RowLaws.{spelt, some-row}
use Rattle.spelling.proofs.CountLaws.{rows_few, too-many-bytes, too-many-brackets, not-too-many}
use Rattle.spelling.proofs.measure.Goals as goal

pub count_rows-requires-clause-spelt : goal.count_rows-requires-clause-spelt
count_rows-requires-clause-spelt c =
    spelt c.requires.words_value c.requires.named

pub count_rows-requires-clause-words_in_bounds : goal.count_rows-requires-clause-words_in_bounds
count_rows-requires-clause-words_in_bounds c =
    rows_few c.args.arities.now c.args.words.now c.requires.words_value

pub count_rows-requires-clause-words_in_bounds_2 : goal.count_rows-requires-clause-words_in_bounds_2
count_rows-requires-clause-words_in_bounds_2 c =
    rows_few c.args.arities.now c.args.words.now c.requires.words_value

pub overflow_sub-root : goal.overflow_sub-root
overflow_sub-root c =
    some-row c.args.arities.now c.args.names.now c.args.words.now c.args.constants c.args.predicates c.requires.words_value

pub returns-then-bytes-root-gt-FORM_BYTES : goal.returns-then-bytes-root-gt-FORM_BYTES
returns-then-bytes-root-gt-FORM_BYTES c =
    let a = c.args in
    let tables = tables_at a.names.now a.constants a.predicates in
    let counts = c.count_rows.ensures in
    too-many-bytes a.arities.now tables a.words.now c.requires.words_value counts.byte_counts c.if-bytes-root-gt-FORM_BYTES.true

pub returns-then-brackets-root-gt-FORM_BRACKETS : goal.returns-then-brackets-root-gt-FORM_BRACKETS
returns-then-brackets-root-gt-FORM_BRACKETS c =
    let a = c.args in
    let tables = tables_at a.names.now a.constants a.predicates in
    let counts = c.count_rows.ensures in
    too-many-brackets a.arities.now tables a.words.now c.requires.words_value counts.byte_counts counts.open_counts c.if-bytes-root-gt-FORM_BYTES.false c.if-brackets-root-gt-FORM_BRACKETS.true

pub returns : goal.returns
returns c =
    let a = c.args in
    let tables = tables_at a.names.now a.constants a.predicates in
    let counts = c.count_rows.ensures in
    not-too-many a.arities.now tables a.words.now c.requires.words_value counts.byte_counts counts.open_counts c.if-bytes-root-gt-FORM_BYTES.false c.if-brackets-root-gt-FORM_BRACKETS.false
