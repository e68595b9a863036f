use Rattle.write.proofs.ResultLaws.{write-down, write-emittable, write-many, write-rows}
use Rattle.write.proofs.write.Goals as goal

pub number-m-requires-clause-downward : goal.number-m-requires-clause-downward
number-m-requires-clause-downward c = search write-down

pub returns-then-m-gt-ROWS : goal.returns-then-m-gt-ROWS
returns-then-m-gt-ROWS c = search write-many

pub emit-requires : goal.emit-requires
emit-requires c = search write-emittable

pub returns : goal.returns
returns c = search write-rows
