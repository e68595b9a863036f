use Rattle.diagram_lines.proofs.RewardLaws.{reward-refused, reward-room, reward-accepted}
use Rattle.diagram_lines.proofs.reward.Goals as goal

pub add_reward-head-requires : goal.add_reward-head-requires
add_reward-head-requires c =
    reward-room _ _ _ _ _ c.read_reward-built.ensures c.requires c.in-Ok.is

pub returns-in-Err : goal.returns-in-Err
returns-in-Err c =
    reward-refused _ _ _ _ _ c.read_reward-built.ensures _ c.in-Err.is

pub returns-in-Ok : goal.returns-in-Ok
returns-in-Ok c =
    reward-accepted _ _ _ _ _ c.read_reward-built.ensures c.requires c.in-Ok.is c.add_reward-head.ensures c.add_reward-head.auto.listings _
