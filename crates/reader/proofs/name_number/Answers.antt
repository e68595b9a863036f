use Rattle.reader.proofs.NumberCode.{name-other, name-whole, rest-short}
use Rattle.reader.proofs.name_number.Goals as goal

pub returns-then-byte_at-ne-LETTER_V : goal.returns-then-byte_at-ne-LETTER_V
returns-then-byte_at-ne-LETTER_V c =
    search name-other

pub whole_number-requires : goal.whole_number-requires
whole_number-requires c =
    search rest-short

pub returns : goal.returns
returns c =
    search name-whole
