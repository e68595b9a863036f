use Rattle.combine.proofs.FormLaws.{loop-start, loop-formable, loop-full, loop-step, loop-end}
use Rattle.combine.proofs.form.Goals as goal

pub loop-k-init : goal.loop-k-init
loop-k-init c =
    loop-start c.requires.holds

pub form_at-requires-clause-formable_at : goal.form_at-requires-clause-formable_at
form_at-requires-clause-formable_at c =
    loop-formable c.requires.formable c.loop-k.invariant c.loop-k-test.true

pub returns-in_err-row : goal.returns-in_err-row
returns-in_err-row c =
    rw c.from_residual.ensures (loop-full c.requires.formable c.loop-k.invariant c.loop-k-test.true c.form_at.ensures c.in_err-row.was)

pub loop-k-preserved : goal.loop-k-preserved
loop-k-preserved c =
    loop-step c.requires.formable c.loop-k.invariant c.loop-k-test.true c.form_at.ensures c.in_ok-row.was
    c.form_at.auto.space c.form_at.auto.heads c.form_at.auto.links

pub returns : goal.returns
returns c =
    loop-end c.requires.formable c.loop-k.invariant c.loop-k-test.false
