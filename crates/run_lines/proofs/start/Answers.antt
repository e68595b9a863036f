use Rattle.run_lines.proofs.StartLaws.{start-weighable, start-takeable, start-begins, start-fails}
use Rattle.run_lines.proofs.start.Goals as goal

pub weigh-requires : goal.weigh-requires
weigh-requires c =
    start-weighable c.requires

pub take_reward-rows-requires : goal.take_reward-rows-requires
take_reward-rows-requires c =
    start-takeable c.requires

pub returns-in-Ok : goal.returns-in-Ok
returns-in-Ok c =
    start-begins c.requires c.weigh.ensures
    c.in-Ok.is c.take_reward-rows.ensures c.take_reward-rows.auto.value c.running.ensures

pub returns-in-Err : goal.returns-in-Err
returns-in-Err c =
    start-fails c.requires c.weigh.ensures c.in-Err.is
