use Rattle.label.specs.Limits.{first_minimum}
use mathlib.Core.Path.{refl}
use Rattle.matcher.proofs.PartLaws.{parted-start, parted-ready, parted-fail, parted-next, parted-end}
use Rattle.std.proofs.lemmas.Bool.{not_from_false}
use Rattle.std.proofs.lemmas.Bool.{not_from_true}
use Rattle.matcher.proofs.search_parts.Goals as goal

pub loop-k-init : goal.loop-k-init
loop-k-init c =
    parted-start c.requires first_minimum refl

pub match_part-requires : goal.match_part-requires
match_part-requires c =
    parted-ready c.loop-k.invariant c.next_part-e.ensures

pub returns-then-not-match_part : goal.returns-then-not-match_part
returns-then-not-match_part c =
    parted-fail c.loop-k.invariant c.next_part-e.ensures c.match_part.ensures (not_from_false _ c.if-not-match_part.true)

pub loop-k-preserved : goal.loop-k-preserved
loop-k-preserved c =
    parted-next c.loop-k.invariant c.next_part-e.ensures c.match_part.ensures (not_from_true _ c.if-not-match_part.false) c.next_part-e.auto.seen c.match_part.auto.tab
    c.match_part.auto.theta

pub returns : goal.returns
returns c =
    parted-end c.loop-k.invariant c.loop-k-test.false
