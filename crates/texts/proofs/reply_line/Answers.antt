use Rattle.texts.proofs.SendLaws.{sent-puttable, sent}
use Rattle.texts.proofs.reply_line.Goals as goal

pub put_reply-put-requires : goal.put_reply-put-requires
put_reply-put-requires c =
    sent-puttable c.requires.kept c.answer-said.ensures

pub returns : goal.returns
returns c =
    sent c.requires.kept c.answer-said.ensures (c.put_reply-put.ensures.placed, c.put_reply-put.ensures.work_len_bound)
