use Rattle.memory.proofs.StoreLaws.{stored}
use Rattle.memory.proofs.store.Goals as goal

pub returns : goal.returns
returns c =
    stored _ _ _ c.args.words.now c.part_word.ensures c.flag_word.ensures c.flag_word-2.ensures c.flag_word-3.ensures c.flag_word-4.ensures c.put_front.ensures
