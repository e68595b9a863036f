use Rattle.spelling.proofs.RowLaws.{form-past, form-full, form-at}
use Rattle.spelling.proofs.put_form.Goals as goal

pub returns-then-out-at : goal.returns-then-out-at
returns-then-out-at c =
    form-past c.args.arities.now c.args.names.now c.args.words.now c.args.constants c.args.predicates c.requires.words_value c.args.out.now c.args.at c.requires.n_value c.if-out-at.true

pub returns-then-out-at-2 : goal.returns-then-out-at-2
returns-then-out-at-2 c =
    let a = c.args in
    let q = c.requires in
    form-full a.arities.now a.names.now a.words.now a.constants a.predicates q.words_value a.out.now a.at q.n_value c.if-out-at.false c.if-out-at-2.true

pub returns : goal.returns
returns c =
    form-at c.args.arities.now c.args.names.now c.args.words.now c.args.constants c.args.predicates c.requires.words_value c.args.out.now c.args.at c.requires.n_value
    c.if-out-at.false c.if-out-at-2.false c.put.ensures
