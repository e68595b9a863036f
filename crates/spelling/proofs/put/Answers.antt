use Rattle.spelling.proofs.RowLaws.{spelt, some-row, root-row, root-room, root-wrote}
use Rattle.spelling.proofs.put.Goals as goal

pub overflow_sub-root : goal.overflow_sub-root
overflow_sub-root c =
    some-row c.args.arities.now c.args.names.now c.args.words.now c.args.constants c.args.predicates c.requires.words_value

pub put_row-requires-clause-spelt : goal.put_row-requires-clause-spelt
put_row-requires-clause-spelt c =
    spelt c.requires.words_value c.requires.named

pub put_row-requires-clause-i_bound : goal.put_row-requires-clause-i_bound
put_row-requires-clause-i_bound c = root-row c.args.arities.now c.args.names.now c.args.words.now c.args.constants c.args.predicates c.requires.words_value

pub put_row-requires-clause-behind_in_bounds : goal.put_row-requires-clause-behind_in_bounds
put_row-requires-clause-behind_in_bounds c =
    root-room c.args.arities.now c.args.names.now c.args.words.now c.args.constants c.args.predicates c.requires.words_value c.args.out.now c.args.at c.requires.words_in_bounds

pub returns : goal.returns
returns c = root-wrote c.args.arities.now c.args.names.now c.args.words.now c.args.constants c.args.predicates c.requires.words_value c.put_row.ensures
