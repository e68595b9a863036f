use Rattle.lines.proofs.ReplyLaws.{kept-counted, answer-ready, answer-blank, answer-refused, answer-done}
use Rattle.lines.proofs.answer.Goals as goal

pub returns-then-line-eq0 : goal.returns-then-line-eq0
returns-then-line-eq0 c =
    answer-blank c.requires.kept _ _ c.if-line-eq0.true

pub allowed-requires : goal.allowed-requires
allowed-requires c =
    kept-counted c.requires.kept

pub perform-requires-clause-ready : goal.perform-requires-clause-ready
perform-requires-clause-ready c =
    answer-ready c.requires.kept c.rule_of-rule.ensures c.allowed.ensures
    c.read_line-kind.ensures.exact c.in-Ok.is

pub perform-requires-clause-work_words_in_bounds : goal.perform-requires-clause-work_words_in_bounds
perform-requires-clause-work_words_in_bounds c =
    c.requires.work_words_in_bounds

pub returns-in-Ok : goal.returns-in-Ok
returns-in-Ok c =
    answer-done c.requires.kept c.rule_of-rule.ensures c.allowed.ensures c.if-line-eq0.false c.read_line-kind.ensures.form
    c.in-Ok.is c.perform.ensures

pub returns-in-Err : goal.returns-in-Err
returns-in-Err c =
    answer-refused c.requires.kept c.rule_of-rule.ensures c.allowed.ensures _ _ c.if-line-eq0.false c.read_line-kind.ensures.form
    c.in-Err.is
