use Rattle.model.proofs.CheckLaws.{part-words}
use Rattle.planner.proofs.HeldLaws.{taking-there, taking-room, taking-taken}
use Rattle.planner.proofs.take_reward.Goals as goal

pub copy-requires : goal.copy-requires
copy-requires c =
    let e = part-words c.args.listings.now c.args.head.reward_start c.args.head.reward_words in
    record { count_in_bounds = taking-there c.requires e; count_in_bounds_2 = taking-room c.requires e }

pub returns : goal.returns
returns c =
    taking-taken c.requires (part-words c.args.listings.now c.args.head.reward_start c.args.head.reward_words) c.copy.ensures
