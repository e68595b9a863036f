use lib.Dec.{lit≤}
use Rattle.valuing.specs.WalkLaws.{topping-room, prepared}
use Rattle.replay_step.proofs.WeightLaws.{high-room, high-kept, climb-refused, climb-none}
use Rattle.replay_step.proofs.is_weightless.Goals as goal

pub tops-requires : goal.tops-requires
tops-requires c =
    topping-room _ _ _ c.requires.listed (high-room 1024 (lit≤ tt))

pub climb-v-requires-clause-prepared : goal.climb-v-requires-clause-prepared
climb-v-requires-clause-prepared c =
    prepared _ _ _ _ _ _ _ c.requires.listed c.requires.lent (high-kept 1024 c.tops.new.high (lit≤ tt) c.tops.auto.high) c.tops.ensures c.requires.indexed

pub returns-in_default : goal.returns-in_default
returns-in_default c =
    climb-refused _ _ _ _ _ _ c.requires.few c.climb-v.ensures c.in_default.is

pub returns : goal.returns
returns c =
    climb-none _ _ _ _ _ _ c.requires.few c.climb-v.ensures c.in-Ok.is
