use Rattle.replay_step.proofs.StepLaws.{move-ready, reward-listed}
use Rattle.model.proofs.CheckLaws.{part-words}
use Rattle.replay_step.proofs.StepLaws.{place_inside, weight-ready, step-weightless, step-moved}
use borrow.Author.Rules.{rules}
use Rattle.replay_step.proofs.step.Goals as goal

pub overflow_mul-place-2 : goal.overflow_mul-place-2
overflow_mul-place-2 c =
    let p = place_inside c.requires in search rules

pub overflow_add-place-2 : goal.overflow_add-place-2
overflow_add-place-2 c =
    let p = place_inside c.requires in search rules

pub has_no_weight-requires : goal.has_no_weight-requires
has_no_weight-requires c =
    weight-ready c.requires

pub returns-then-has_no_weight : goal.returns-then-has_no_weight
returns-then-has_no_weight c =
    step-weightless c.requires c.has_no_weight.ensures c.if-has_no_weight.true

pub returns : goal.returns
returns c =
    let words = part-words c.args.listings.now c.args.head.reward_start c.args.head.reward_words in
    step-moved c.requires words c.has_no_weight.ensures c.if-has_no_weight.false
    c.moved.ensures

pub moved-requires : goal.moved-requires
moved-requires c =
    let words = part-words c.args.listings.now c.args.head.reward_start c.args.head.reward_words in
    record {
      moving = move-ready c.requires;
      words_value = reward-listed c.requires words;
      indexed = c.requires.indexed;
      count_le_highest_value = c.requires.count-few;
      total_le_highest_value = c.requires.total-few;
    }
