use Rattle.answering.proofs.KeyLaws.{key-first, key-next, key-whole}
use Rattle.answering.proofs.put_key.Goals as goal

pub put_little-end-requires : goal.put_little-end-requires
put_little-end-requires c =
    search key-first

pub put_little-requires : goal.put_little-requires
put_little-requires c =
    search key-next

pub returns : goal.returns
returns c =
    search key-whole
