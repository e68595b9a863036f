use lib.Dec.{lit≤}
use Rattle.regress.proofs.AnswerLaws.{list-writable, list-answer}
use Rattle.regress.proofs.list_result.Goals as goal

pub write-requires : goal.write-requires
write-requires c =
    list-writable c.requires 2048 2048 (lit≤ tt) (lit≤ tt)

pub returns : goal.returns
returns c =
    list-answer c.write.ensures c.ok_or.ensures.value
