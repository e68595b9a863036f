use mathlib.Core.Path.{refl, ◌∙◌}
use Rattle.answering.proofs.TableLaws.{end-start, end-past, end-full, end_more, end-done}
use Rattle.answering.proofs.lines_end.Goals as goal

pub returns-then-limit-at : goal.returns-then-limit-at
returns-then-limit-at c =
    search end-past

pub loop-k-init : goal.loop-k-init
loop-k-init c =
    (search end-start, refl)

pub returns-then-limit-end : goal.returns-then-limit-end
returns-then-limit-end c =
    search end-full

pub loop-k-preserved : goal.loop-k-preserved
loop-k-preserved c =
    (search end_more, c.table_line-m.auto.line ∙ c.loop-k.invariant.1)

pub returns : goal.returns
returns c =
    search end-done
