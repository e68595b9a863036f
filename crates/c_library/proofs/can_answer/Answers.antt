use Rattle.c_library.proofs.SessionLaws.{answer-work, answer-rest}
use Rattle.c_library.proofs.can_answer.Goals as goal

pub returns-then-work-lt-WORK_WORDS : goal.returns-then-work-lt-WORK_WORDS
returns-then-work-lt-WORK_WORDS c =
    search answer-work

pub returns : goal.returns
returns c =
    search answer-rest
