use Rattle.combination.proofs.CallLaws.{call-first, call-second, call-out, call-work, call-able, call-done}
use Rattle.std.proofs.lemmas.Bool.{not_from_false}
use Rattle.std.proofs.lemmas.Bool.{not_from_true}
use Rattle.combination.proofs.combine.Goals as goal

pub combine_named-requires : goal.combine_named-requires
combine_named-requires c =
    call-able c.args.op c.args.names c.args.arities.now c.args.x.now c.args.y.now c.args.out.now c.args.work.now c.check.ensures
    (not_from_true _ c.if-not-check.false) c.check-2.ensures (not_from_true _ c.if-not-check-2.false) c.if-out-lt-RESULT_WORDS.false c.if-work-lt-SPACE_WORDS.false

pub returns-then-not-check-clause-value : goal.returns-then-not-check-clause-value
returns-then-not-check-clause-value c =
    (call-first c.args.op c.args.names c.args.arities.now c.args.x.now c.args.y.now c.args.out.now c.args.work.now c.check.ensures (not_from_false _ c.if-not-check.true)).0

pub returns-then-not-check-clause-out_after : goal.returns-then-not-check-clause-out_after
returns-then-not-check-clause-out_after c =
    (call-first c.args.op c.args.names c.args.arities.now c.args.x.now c.args.y.now c.args.out.now c.args.work.now c.check.ensures (not_from_false _ c.if-not-check.true)).1

pub returns-then-not-check-2-clause-value : goal.returns-then-not-check-2-clause-value
returns-then-not-check-2-clause-value c =
    (call-second c.args.op c.args.names c.args.arities.now c.args.x.now c.args.y.now c.args.out.now c.args.work.now c.check.ensures
    (not_from_true _ c.if-not-check.false) c.check-2.ensures (not_from_false _ c.if-not-check-2.true)).0

pub returns-then-not-check-2-clause-out_after : goal.returns-then-not-check-2-clause-out_after
returns-then-not-check-2-clause-out_after c =
    (call-second c.args.op c.args.names c.args.arities.now c.args.x.now c.args.y.now c.args.out.now c.args.work.now c.check.ensures
    (not_from_true _ c.if-not-check.false) c.check-2.ensures (not_from_false _ c.if-not-check-2.true)).1

pub returns-then-out-lt-RESULT_WORDS-clause-value : goal.returns-then-out-lt-RESULT_WORDS-clause-value
returns-then-out-lt-RESULT_WORDS-clause-value c =
    (call-out c.args.op c.args.names c.args.arities.now c.args.x.now c.args.y.now c.args.out.now c.args.work.now c.check.ensures (not_from_true _ c.if-not-check.false)
    c.check-2.ensures (not_from_true _ c.if-not-check-2.false) c.if-out-lt-RESULT_WORDS.true).0

pub returns-then-out-lt-RESULT_WORDS-clause-out_after : goal.returns-then-out-lt-RESULT_WORDS-clause-out_after
returns-then-out-lt-RESULT_WORDS-clause-out_after c =
    (call-out c.args.op c.args.names c.args.arities.now c.args.x.now c.args.y.now c.args.out.now c.args.work.now c.check.ensures (not_from_true _ c.if-not-check.false)
    c.check-2.ensures (not_from_true _ c.if-not-check-2.false) c.if-out-lt-RESULT_WORDS.true).1

pub returns-then-work-lt-SPACE_WORDS-clause-value : goal.returns-then-work-lt-SPACE_WORDS-clause-value
returns-then-work-lt-SPACE_WORDS-clause-value c =
    (call-work c.args.op c.args.names c.args.arities.now c.args.x.now c.args.y.now c.args.out.now c.args.work.now c.check.ensures
    (not_from_true _ c.if-not-check.false) c.check-2.ensures (not_from_true _ c.if-not-check-2.false) c.if-work-lt-SPACE_WORDS.true).0

pub returns-then-work-lt-SPACE_WORDS-clause-out_after : goal.returns-then-work-lt-SPACE_WORDS-clause-out_after
returns-then-work-lt-SPACE_WORDS-clause-out_after c =
    (call-work c.args.op c.args.names c.args.arities.now c.args.x.now c.args.y.now c.args.out.now c.args.work.now c.check.ensures
    (not_from_true _ c.if-not-check.false) c.check-2.ensures (not_from_true _ c.if-not-check-2.false) c.if-work-lt-SPACE_WORDS.true).1

pub returns-clause-value : goal.returns-clause-value
returns-clause-value c =
    (call-done c.args.op c.args.names c.args.arities.now c.args.x.now c.args.y.now c.args.out.now c.args.work.now c.check.ensures
    (not_from_true _ c.if-not-check.false) c.check-2.ensures (not_from_true _ c.if-not-check-2.false) c.if-out-lt-RESULT_WORDS.false c.if-work-lt-SPACE_WORDS.false c.combine_named.ensures).0

pub returns-clause-out_after : goal.returns-clause-out_after
returns-clause-out_after c =
    (call-done c.args.op c.args.names c.args.arities.now c.args.x.now c.args.y.now c.args.out.now c.args.work.now c.check.ensures
    (not_from_true _ c.if-not-check.false) c.check-2.ensures (not_from_true _ c.if-not-check-2.false) c.if-out-lt-RESULT_WORDS.false c.if-work-lt-SPACE_WORDS.false c.combine_named.ensures).1
