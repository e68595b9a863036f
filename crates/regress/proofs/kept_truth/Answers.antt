use Rattle.regress.proofs.KeptLaws.{asking-below, kept-hit, kept-stop, kept_small, kept-place, kept_new}
use borrow.Author.Rules.{rules}
use Rattle.std.proofs.lemmas.Result.{err_from_is_err_and}
use Rattle.regress.proofs.kept_truth.Goals as goal

pub returns-then-e-label : goal.returns-then-e-label
returns-then-e-label c =
    kept-hit c.requires.asking c.requires.ready c.requires.keeps c.slot-h.ensures c.if-e-label.true

pub returns-in_err-i : goal.returns-in_err-i
returns-in_err-i c =
    let p = err_from_is_err_and c.from_residual.result c.from_residual.ensures.1 in
    rw (p.1, p.2, ← c.in_err-i.was) (kept-stop c.requires.asking c.requires.ready c.requires.keeps c.slot-h.ensures c.form_truth.ensures c.in_err-i.was)

pub overflow_mul-kept : goal.overflow_mul-kept
overflow_mul-kept c =
    let p = asking-below c.requires.asking in search rules

pub overflow_add-kept : goal.overflow_add-kept
overflow_add-kept c =
    let p = asking-below c.requires.asking in let q = kept_small c.requires.asking c.requires.ready c.requires.keeps c.slot-h.ensures c.form_truth.ensures c.in_ok-i.was in search rules

pub bounds-kept-h-2 : goal.bounds-kept-h-2
bounds-kept-h-2 c =
    kept-place c.requires.asking c.requires.ready c.requires.keeps c.slot-h.ensures c.form_truth.ensures c.in_ok-i.was

pub returns : goal.returns
returns c =
    kept_new c.requires.asking c.requires.ready c.requires.keeps c.slot-h.ensures c.form_truth.ensures c.in_ok-i.was
