use Rattle.reduce.proofs.CheckLaws.{call-listing, call-out, call-work, call-listed, call-unbound, call-reducible, call-done}
use Rattle.std.proofs.lemmas.Bool.{not_from_false}
use Rattle.std.proofs.lemmas.Bool.{not_from_true}
use Rattle.reduce.proofs.reduce.Goals as goal

pub has_parameter-requires : goal.has_parameter-requires
has_parameter-requires c =
    call-listed c.args.arities.now c.args.words.now c.args.out.now c.args.work.now c.check.ensures (not_from_true _ c.if-not-check.false)

pub reduce_checked-requires : goal.reduce_checked-requires
reduce_checked-requires c =
    let checked = not_from_true _ c.if-not-check.false in
    let a = c.args in
    call-reducible a.arities.now a.words.now a.out.now a.work.now c.check.ensures checked c.if-out-lt-RESULT_WORDS.false c.if-work-lt-SPACE_WORDS.false

pub returns-then-not-check-clause-value : goal.returns-then-not-check-clause-value
returns-then-not-check-clause-value c =
    (call-listing c.args.arities.now c.args.words.now c.args.out.now c.args.work.now c.check.ensures (not_from_false _ c.if-not-check.true)).0

pub returns-then-not-check-clause-out_after : goal.returns-then-not-check-clause-out_after
returns-then-not-check-clause-out_after c =
    (call-listing c.args.arities.now c.args.words.now c.args.out.now c.args.work.now c.check.ensures (not_from_false _ c.if-not-check.true)).1

pub returns-then-out-lt-RESULT_WORDS-clause-value : goal.returns-then-out-lt-RESULT_WORDS-clause-value
returns-then-out-lt-RESULT_WORDS-clause-value c =
    (call-out c.args.arities.now c.args.words.now c.args.out.now c.args.work.now c.check.ensures (not_from_true _ c.if-not-check.false) c.if-out-lt-RESULT_WORDS.true).0

pub returns-then-out-lt-RESULT_WORDS-clause-out_after : goal.returns-then-out-lt-RESULT_WORDS-clause-out_after
returns-then-out-lt-RESULT_WORDS-clause-out_after c =
    (call-out c.args.arities.now c.args.words.now c.args.out.now c.args.work.now c.check.ensures (not_from_true _ c.if-not-check.false) c.if-out-lt-RESULT_WORDS.true).1

pub returns-then-work-lt-SPACE_WORDS-clause-value : goal.returns-then-work-lt-SPACE_WORDS-clause-value
returns-then-work-lt-SPACE_WORDS-clause-value c =
    (call-work c.args.arities.now c.args.words.now c.args.out.now c.args.work.now c.check.ensures (not_from_true _ c.if-not-check.false) c.if-work-lt-SPACE_WORDS.true).0

pub returns-then-work-lt-SPACE_WORDS-clause-out_after : goal.returns-then-work-lt-SPACE_WORDS-clause-out_after
returns-then-work-lt-SPACE_WORDS-clause-out_after c =
    (call-work c.args.arities.now c.args.words.now c.args.out.now c.args.work.now c.check.ensures (not_from_true _ c.if-not-check.false) c.if-work-lt-SPACE_WORDS.true).1

pub returns-then-has_parameter-clause-value : goal.returns-then-has_parameter-clause-value
returns-then-has_parameter-clause-value c =
    let checked = not_from_true _ c.if-not-check.false in
    let a = c.args in
    let found = c.has_parameter.ensures in
    (call-unbound a.arities.now a.words.now a.out.now a.work.now c.check.ensures checked c.if-out-lt-RESULT_WORDS.false c.if-work-lt-SPACE_WORDS.false found c.if-has_parameter.true).0

pub returns-then-has_parameter-clause-out_after : goal.returns-then-has_parameter-clause-out_after
returns-then-has_parameter-clause-out_after c =
    let checked = not_from_true _ c.if-not-check.false in
    let a = c.args in
    let found = c.has_parameter.ensures in
    (call-unbound a.arities.now a.words.now a.out.now a.work.now c.check.ensures checked c.if-out-lt-RESULT_WORDS.false c.if-work-lt-SPACE_WORDS.false found c.if-has_parameter.true).1

pub returns-clause-value : goal.returns-clause-value
returns-clause-value c =
    (call-done c.args.arities.now c.args.words.now c.args.out.now c.args.work.now c.check.ensures (not_from_true _ c.if-not-check.false) c.if-out-lt-RESULT_WORDS.false c.if-work-lt-SPACE_WORDS.false
    c.has_parameter.ensures c.if-has_parameter.false c.reduce_checked.ensures).0

pub returns-clause-out_after : goal.returns-clause-out_after
returns-clause-out_after c =
    (call-done c.args.arities.now c.args.words.now c.args.out.now c.args.work.now c.check.ensures (not_from_true _ c.if-not-check.false) c.if-out-lt-RESULT_WORDS.false c.if-work-lt-SPACE_WORDS.false
    c.has_parameter.ensures c.if-has_parameter.false c.reduce_checked.ensures).1
