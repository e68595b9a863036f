use Rattle.combination.proofs.SharedLaws.{finish-able, finish-at, finish-pairs, finish-value, finish-space}
use Rattle.combination.proofs.finish.Goals as goal

pub finish_rows-requires : goal.finish_rows-requires
finish_rows-requires c =
    finish-able c.requires c.in-At.is

pub returns-in-At : goal.returns-in-At
returns-in-At c =
    finish-at c.in-At.is c.finish_rows.ensures

pub returns-in-TooManyPairs : goal.returns-in-TooManyPairs
returns-in-TooManyPairs c =
    finish-pairs c.in-TooManyPairs.is

pub returns-in-TooHighValue : goal.returns-in-TooHighValue
returns-in-TooHighValue c =
    finish-value c.in-TooHighValue.is

pub returns-in-NoRoom : goal.returns-in-NoRoom
returns-in-NoRoom c =
    finish-space c.in-NoRoom.is
