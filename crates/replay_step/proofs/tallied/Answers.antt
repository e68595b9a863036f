use Rattle.replay_step.proofs.RewardLaws.{tally-count, tally-total, tally-done}
use Rattle.replay_step.proofs.tallied.Goals.{then-lines-gt-VALUE-via-then-lines-gt-VALUE, then-lines-gt-VALUE-via-else-lines-gt-VALUE+then-sum-gt-VALUE}
use Rattle.replay_step.proofs.tallied.Goals as goal

pub returns-then-lines-gt-VALUE : goal.returns-then-lines-gt-VALUE
returns-then-lines-gt-VALUE c =
    elim c.then-lines-gt-VALUE.branch [
      | then-lines-gt-VALUE-via-then-lines-gt-VALUE w ↦ tally-count _ _ _ _ w.if-lines-gt-VALUE.true
      | then-lines-gt-VALUE-via-else-lines-gt-VALUE+then-sum-gt-VALUE w ↦ tally-total _ _ _ _ w.if-lines-gt-VALUE.false w.if-sum-gt-VALUE.true
    ]

pub returns : goal.returns
returns c =
    tally-done _ _ _ _ c.if-lines-gt-VALUE.false c.if-sum-gt-VALUE.false
