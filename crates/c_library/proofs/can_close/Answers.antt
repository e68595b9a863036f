use Rattle.c_library.proofs.SessionLaws.{close-numbers, close-plain}
use Rattle.c_library.proofs.can_close.Goals as goal

pub returns-then-numbers-lt-NUMBER_WORDS : goal.returns-then-numbers-lt-NUMBER_WORDS
returns-then-numbers-lt-NUMBER_WORDS c =
    close-numbers c.args.numbers.now c.if-numbers-lt-NUMBER_WORDS.true

pub returns : goal.returns
returns c =
    close-plain c.args.numbers.now c.if-numbers-lt-NUMBER_WORDS.false c.is_plain.ensures
