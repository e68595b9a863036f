use Rattle.diagram_lines.proofs.TruthLaws.{becomes-arity, becomes-known, read-refused, read-drawable, read-drawn}
use borrow.Author.Rules.{rules}
use Rattle.diagram_lines.proofs.LineLaws.{line-begins}
use Rattle.std.proofs.lemmas.Result.{err_from_is_err_and}
use Rattle.diagram_lines.proofs.read_truth.Goals as goal

pub bounds-arities-p : goal.bounds-arities-p
bounds-arities-p c =
    becomes-known c.requires.lent _ c.requires.p_lt_predicate_count

pub draw_truth-requires-clause-drawable : goal.draw_truth-requires-clause-drawable
draw_truth-requires-clause-drawable c =
    read-drawable c.requires.lent _ c.first_word-first.ensures c.head_arguments.ensures c.in_ok-at.was (search rules) c.requires.result_words_in_bounds

pub draw_truth-requires-clause-words_le_listing_words : goal.draw_truth-requires-clause-words_le_listing_words
draw_truth-requires-clause-words_le_listing_words c =
    c.requires.lent.used

pub returns-in_err-at : goal.returns-in_err-at
returns-in_err-at c =
    let p = err_from_is_err_and c.from_residual.result c.from_residual.ensures.1 in
    rw (p.1, p.2) (read-refused c.requires.lent _ c.first_word-first.ensures c.head_arguments.ensures c.in_err-at.was)

pub returns : goal.returns
returns c =
    read-drawn c.requires.lent _ c.first_word-first.ensures c.head_arguments.ensures c.in_ok-at.was
    c.draw_truth.ensures

pub head_arguments-requires : goal.head_arguments-requires
head_arguments-requires c =
    let h = becomes-arity c.requires.lent c.args.p in
    record { at_in_bounds = line-begins c.requires.lent.line c.first_word-first.ensures; arity_in_bounds = search rules }
