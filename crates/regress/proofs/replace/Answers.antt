use Rattle.regress.proofs.RowsLaws.{going_start, going-taskable, going-few, going-tasked, going-stop, going-small, going_on, going_end, ready_on}
use borrow.Author.Rules.{rules}
use mathlib.Core.Path.{refl, sym, ◌∙◌}
use Rattle.regression.specs.Regression.{replacement}
use Rattle.std.proofs.lemmas.Result.{err_from_is_err_and}
use Rattle.regress.proofs.replace.Goals as goal

pub loop-k-init : goal.loop-k-init
loop-k-init c =
    (refl, refl, refl, refl, refl, c.requires.ready, going_start _ _ _ 1024 c.requires.words_value refl)

pub slice_bounds-task_at-end : goal.slice_bounds-task_at-end
slice_bounds-task_at-end c =
    sym c.loop-k.invariant.6.places

pub task_at-task-requires : goal.task_at-task-requires
task_at-task-requires c =
    going-taskable c.loop-k.invariant.6 c.loop-k-test.true

pub replaced_row-requires-clause-tasked : goal.replaced_row-requires-clause-tasked
replaced_row-requires-clause-tasked c =
    going-tasked c.loop-k.invariant.6 c.loop-k-test.true c.task_at-task.ensures

pub returns-in_err-root : goal.returns-in_err-root
unfolding replacement
returns-in_err-root c =
    let p = err_from_is_err_and c.from_residual.result c.from_residual.ensures.1 in
    rw (p.1, p.2, ← c.in_err-root.was) (going-stop c.loop-k.invariant.6 c.loop-k-test.true c.task_at-task.ensures c.replaced_row.ensures c.in_err-root.was)

pub overflow_cast-numbers : goal.overflow_cast-numbers
overflow_cast-numbers c =
    let p = going-small c.loop-k.invariant.6 c.loop-k-test.true c.task_at-task.ensures c.replaced_row.ensures c.in_ok-root.was in
    search rules

pub offset_bounds-numbers-k : goal.offset_bounds-numbers-k
offset_bounds-numbers-k c =
    let p = going-few c.loop-k.invariant.6 c.loop-k-test.true in search rules

pub bounds-numbers-k : goal.bounds-numbers-k
bounds-numbers-k c =
    going-few c.loop-k.invariant.6 c.loop-k-test.true

pub loop-k-preserved : goal.loop-k-preserved
loop-k-preserved c = (
  c.replaced_row.auto.plan ∙ c.loop-k.invariant.0,
  c.replaced_row.auto.index ∙ c.loop-k.invariant.1,
  c.replaced_row.auto.space ∙ c.loop-k.invariant.2,
  c.replaced_row.auto.heads ∙ c.loop-k.invariant.3,
  c.replaced_row.auto.links ∙ c.loop-k.invariant.4,
  ready_on c.loop-k.invariant.5 c.replaced_row.ensures c.replaced_row.auto.plan c.in_ok-root.was,
  going_on c.loop-k.invariant.6 c.loop-k-test.true c.task_at-task.ensures c.replaced_row.ensures c.in_ok-root.was,
)

pub returns : goal.returns
unfolding replacement
returns c =
    going_end c.loop-k.invariant.6 c.loop-k-test.false c.loop-k.invariant.5.space c.loop-k.invariant.5.clean
