use Rattle.cut.proofs.CallLaws.{call-listing, call-out, call-work, call-cuttable, call-done}
use Rattle.std.proofs.lemmas.Bool.{not_from_false}
use Rattle.std.proofs.lemmas.Bool.{not_from_true}
use Rattle.cut.proofs.cut.Goals as goal

pub cut_checked-requires : goal.cut_checked-requires
cut_checked-requires c =
    let checked = not_from_true _ c.if-not-check.false in
    call-cuttable c.args.arities.now c.args.words.now c.args.out.now c.args.work.now c.check.ensures checked c.if-out-lt-RESULT_WORDS.false c.if-work-lt-SPACE_WORDS.false

pub returns-then-not-check-clause-value : goal.returns-then-not-check-clause-value
returns-then-not-check-clause-value c =
    (call-listing c.args.arities.now c.args.words.now c.args.out.now c.args.work.now c.check.ensures (not_from_false _ c.if-not-check.true)).0

pub returns-then-not-check-clause-out_after : goal.returns-then-not-check-clause-out_after
returns-then-not-check-clause-out_after c =
    (call-listing c.args.arities.now c.args.words.now c.args.out.now c.args.work.now c.check.ensures (not_from_false _ c.if-not-check.true)).1

pub returns-then-out-lt-RESULT_WORDS-clause-value : goal.returns-then-out-lt-RESULT_WORDS-clause-value
returns-then-out-lt-RESULT_WORDS-clause-value c =
    (call-out c.args.arities.now c.args.words.now c.args.out.now c.args.work.now c.check.ensures (not_from_true _ c.if-not-check.false) c.if-out-lt-RESULT_WORDS.true).0

pub returns-then-out-lt-RESULT_WORDS-clause-out_after : goal.returns-then-out-lt-RESULT_WORDS-clause-out_after
returns-then-out-lt-RESULT_WORDS-clause-out_after c =
    (call-out c.args.arities.now c.args.words.now c.args.out.now c.args.work.now c.check.ensures (not_from_true _ c.if-not-check.false) c.if-out-lt-RESULT_WORDS.true).1

pub returns-then-work-lt-SPACE_WORDS-clause-value : goal.returns-then-work-lt-SPACE_WORDS-clause-value
returns-then-work-lt-SPACE_WORDS-clause-value c =
    (call-work c.args.arities.now c.args.words.now c.args.out.now c.args.work.now c.check.ensures (not_from_true _ c.if-not-check.false) c.if-work-lt-SPACE_WORDS.true).0

pub returns-then-work-lt-SPACE_WORDS-clause-out_after : goal.returns-then-work-lt-SPACE_WORDS-clause-out_after
returns-then-work-lt-SPACE_WORDS-clause-out_after c =
    (call-work c.args.arities.now c.args.words.now c.args.out.now c.args.work.now c.check.ensures (not_from_true _ c.if-not-check.false) c.if-work-lt-SPACE_WORDS.true).1

pub returns-clause-value : goal.returns-clause-value
returns-clause-value c =
    (call-done c.args.arities.now c.args.words.now c.args.out.now c.args.work.now c.check.ensures (not_from_true _ c.if-not-check.false) c.if-out-lt-RESULT_WORDS.false c.if-work-lt-SPACE_WORDS.false
    (c.cut_checked.ensures.value, c.cut_checked.ensures.out_after)).0

pub returns-clause-out_after : goal.returns-clause-out_after
returns-clause-out_after c =
    (call-done c.args.arities.now c.args.words.now c.args.out.now c.args.work.now c.check.ensures (not_from_true _ c.if-not-check.false) c.if-out-lt-RESULT_WORDS.false c.if-work-lt-SPACE_WORDS.false
    (c.cut_checked.ensures.value, c.cut_checked.ensures.out_after)).1
