use mathlib.Core.Path.{refl, ◌∙◌}
use Rattle.answering.proofs.TableLaws.{lines_start, lines-room, written-more}
use Rattle.answering.proofs.write_lines.Goals as goal

pub loop-k-init : goal.loop-k-init
loop-k-init c =
    (search lines_start, refl)

pub put_bytes-end-requires : goal.put_bytes-end-requires
put_bytes-end-requires c =
    search lines-room

pub loop-k-preserved : goal.loop-k-preserved
loop-k-preserved c =
    (search written-more, c.table_line-m.auto.line ∙ c.loop-k.invariant.1)
