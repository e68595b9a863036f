use Rattle.combination.proofs.CallLaws.{as_first, as-second, as_plain}
use Rattle.diagram.specs.Listing.{diagram_of}
use Rattle.std.proofs.lemmas.Bool.{not_from_false}
use Rattle.std.proofs.lemmas.Bool.{not_from_true}
use Rattle.combination.proofs.max_as.Goals as goal

pub returns-then-not-is_plain : goal.returns-then-not-is_plain
returns-then-not-is_plain c =
    as_first c.args.arities.now (diagram_of c.args.x.now) (diagram_of c.args.y.now) c.in-Shared.is c.is_plain.ensures (not_from_false _ c.if-not-is_plain.true)

pub returns-then-not-is_plain-2 : goal.returns-then-not-is_plain-2
returns-then-not-is_plain-2 c =
    as-second c.args.arities.now (diagram_of c.args.x.now) (diagram_of c.args.y.now) c.in-Shared.is c.is_plain.ensures (not_from_true _ c.if-not-is_plain.false)
    c.is_plain-2.ensures (not_from_false _ c.if-not-is_plain-2.true)

pub returns : goal.returns
returns c =
    as_plain c.args.arities.now (diagram_of c.args.x.now) (diagram_of c.args.y.now) c.in-Shared.is c.is_plain.ensures (not_from_true _ c.if-not-is_plain.false)
    c.is_plain-2.ensures (not_from_true _ c.if-not-is_plain-2.false)
