use lib.Dec.{lit≤}
use Rattle.replay_step.proofs.WeightLaws.{high-room}
use Rattle.replay_step.proofs.RewardLaws.{before-none, before-first}
use Rattle.replay_step.proofs.reward_before.Goals as goal

pub returns-then-count-ne0 : goal.returns-then-count-ne0
returns-then-count-ne0 c =
    before-none _ _ _ _ _ _ c.if-count-ne0.true

pub value_indexed-requires-clause-words_value : goal.value_indexed-requires-clause-words_value
value_indexed-requires-clause-words_value c =
    c.requires.words_value

pub value_indexed-requires-clause-facts_value : goal.value_indexed-requires-clause-facts_value
value_indexed-requires-clause-facts_value c =
    c.requires.facts_value

pub value_indexed-requires-clause-indexed : goal.value_indexed-requires-clause-indexed
value_indexed-requires-clause-indexed c =
    c.requires.indexed

pub value_indexed-requires-clause-most_rows_in_bounds : goal.value_indexed-requires-clause-most_rows_in_bounds
value_indexed-requires-clause-most_rows_in_bounds c =
    high-room 1024 (lit≤ tt)

pub returns : goal.returns
returns c =
    before-first _ _ _ _ _ _ c.if-count-ne0.false c.value_indexed.ensures
