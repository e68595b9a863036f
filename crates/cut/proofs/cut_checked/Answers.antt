use Rattle.cut.proofs.CallLaws.{cut-minimum, cut-choosable}
use Rattle.std.proofs.lemmas.Bool.{not_from_false}
use Rattle.std.proofs.lemmas.Bool.{not_from_true}
use Rattle.cut.proofs.cut_checked.Goals as goal

pub cut_plain-requires : goal.cut_plain-requires
cut_plain-requires c =
    cut-choosable c.requires c.is_plain.ensures (not_from_true _ c.if-not-is_plain.false)

pub returns-then-not-is_plain-clause-value : goal.returns-then-not-is_plain-clause-value
returns-then-not-is_plain-clause-value c =
    (cut-minimum c.requires c.is_plain.ensures (not_from_false _ c.if-not-is_plain.true)).0

pub returns-then-not-is_plain-clause-out_after : goal.returns-then-not-is_plain-clause-out_after
returns-then-not-is_plain-clause-out_after c =
    (cut-minimum c.requires c.is_plain.ensures (not_from_false _ c.if-not-is_plain.true)).1
