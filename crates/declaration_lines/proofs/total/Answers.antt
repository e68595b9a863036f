use Rattle.declaration_lines.proofs.SaysLaws.{total-done, total-refused}
use Rattle.declaration_lines.proofs.total.Goals as goal

pub returns-then-is_total : goal.returns-then-is_total
returns-then-is_total c =
    search total-done

pub returns : goal.returns
returns c =
    search total-refused
