use Rattle.desk_lines.proofs.FindLaws.{find-name, find-count, find-variant, find-range, find-done}
use Rattle.desk_lines.proofs.find.Goals as goal

pub returns-then-a-n : goal.returns-then-a-n
returns-then-a-n c =
    search find-name

pub returns-then-objects-table : goal.returns-then-objects-table
returns-then-objects-table c =
    search find-count

pub returns-then-v-table : goal.returns-then-v-table
returns-then-v-table c =
    search find-variant

pub returns-then-objects : goal.returns-then-objects
returns-then-objects c =
    search find-done

pub returns : goal.returns
returns c =
    search find-range
