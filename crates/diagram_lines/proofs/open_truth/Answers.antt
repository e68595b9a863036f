use Rattle.diagram_lines.proofs.LineLaws.{line-begins}
use Rattle.diagram_lines.proofs.TruthLaws.{open-refused, open-room, open_twice, open-found}
use Rattle.std.proofs.lemmas.Result.{err_from_is_err_and}
use Rattle.diagram_lines.proofs.open_truth.Goals as goal

pub head_predicate-requires-clause-at_in_bounds : goal.head_predicate-requires-clause-at_in_bounds
head_predicate-requires-clause-at_in_bounds c =
    line-begins c.requires.line_of c.first_word-first.ensures

pub returns-in_err-p : goal.returns-in_err-p
returns-in_err-p c =
    let p = err_from_is_err_and c.from_residual.result c.from_residual.ensures.1 in
    rw (p.1, p.2) (open-refused c.args.line.now c.args.n c.args.names.now c.args.table.now c.first_word-first.ensures c.head_predicate.ensures c.in_err-p.was)

pub has_truth-requires : goal.has_truth-requires
has_truth-requires c =
    open-room c.args.line.now c.args.n c.args.names.now c.args.table.now c.first_word-first.ensures c.head_predicate.ensures
    c.in_ok-p.was c.requires.good_names c.requires.variant_open

pub returns-then-has_truth : goal.returns-then-has_truth
returns-then-has_truth c =
    open_twice c.args.line.now c.args.n c.args.names.now c.args.table.now c.first_word-first.ensures c.head_predicate.ensures c.in_ok-p.was
    c.has_truth.ensures c.if-has_truth.true

pub returns : goal.returns
returns c =
    open-found c.args.line.now c.args.n c.args.names.now c.args.table.now c.first_word-first.ensures c.head_predicate.ensures c.in_ok-p.was
    c.has_truth.ensures c.if-has_truth.false
