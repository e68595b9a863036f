use Rattle.spelling.proofs.NameLaws.{name-past, named-room, named-wrote}
use Rattle.spelling.proofs.put_name.Goals as goal

pub returns-then-i-n : goal.returns-then-i-n
returns-then-i-n c =
    search name-past

pub put_key-requires : goal.put_key-requires
put_key-requires c =
    search named-room

pub returns : goal.returns
returns c =
    search named-wrote
