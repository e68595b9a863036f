use Rattle.model.proofs.CheckLaws.{part-words}
use Rattle.planner.proofs.VariantLaws.{reward-scalable, reward-given}
use Rattle.planner.proofs.scale_reward.Goals as goal

pub times_leaf-requires : goal.times_leaf-requires
times_leaf-requires c =
    reward-scalable c.requires (part-words c.args.listings.now c.args.head.reward_start c.args.head.reward_words)

pub returns : goal.returns
returns c =
    reward-given c.requires (part-words c.args.listings.now c.args.head.reward_start c.args.head.reward_words) c.times_leaf.ensures
