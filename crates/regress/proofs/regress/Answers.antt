use Rattle.std.proofs.lemmas.Result.{err_from_is_err_and}
use Rattle.regress.proofs.AnswerLaws.{regress-none, regress-unlisted, regress-short, regress-narrow, regress-lent, regress-regressable, regress-faulty, regress-passed}
use Rattle.std.proofs.lemmas.Bool.{not_from_false}
use Rattle.std.proofs.lemmas.Bool.{not_from_true}
use Rattle.regress.proofs.regress.Goals as goal

pub judge_all-requires : goal.judge_all-requires
judge_all-requires c =
    let checked = not_from_true _ c.if-not-check.false in
    let listed = not_from_true _ c.if-not-are_listed.false in
    regress-lent _ _ _ _ c.args.out.now c.args.work.now c.check.ensures checked c.are_listed.ensures listed c.if-out-lt-RESULT_WORDS.false c.if-work-lt-SPACE_WORDS.false

pub regress_checked-requires : goal.regress_checked-requires
regress_checked-requires c =
    let checked = not_from_true _ c.if-not-check.false in
    let listed = not_from_true _ c.if-not-are_listed.false in
    regress-regressable _ _ _ _ c.args.out.now c.args.work.now c.check.ensures checked c.are_listed.ensures listed c.if-out-lt-RESULT_WORDS.false c.if-work-lt-SPACE_WORDS.false

pub returns-then-not-check-clause-value : goal.returns-then-not-check-clause-value
returns-then-not-check-clause-value c =
    (regress-none _ _ _ _ c.args.out.now c.args.work.now c.check.ensures (not_from_false _ c.if-not-check.true)).0

pub returns-then-not-check-clause-out_after : goal.returns-then-not-check-clause-out_after
returns-then-not-check-clause-out_after c =
    (regress-none _ _ _ _ c.args.out.now c.args.work.now c.check.ensures (not_from_false _ c.if-not-check.true)).1

pub returns-then-not-are_listed-clause-value : goal.returns-then-not-are_listed-clause-value
returns-then-not-are_listed-clause-value c =
    (regress-unlisted _ _ _ _ c.args.out.now c.args.work.now c.check.ensures (not_from_true _ c.if-not-check.false) c.are_listed.ensures (not_from_false _ c.if-not-are_listed.true)).0

pub returns-then-not-are_listed-clause-out_after : goal.returns-then-not-are_listed-clause-out_after
returns-then-not-are_listed-clause-out_after c =
    (regress-unlisted _ _ _ _ c.args.out.now c.args.work.now c.check.ensures (not_from_true _ c.if-not-check.false) c.are_listed.ensures (not_from_false _ c.if-not-are_listed.true)).1

pub returns-then-out-lt-RESULT_WORDS-clause-value : goal.returns-then-out-lt-RESULT_WORDS-clause-value
returns-then-out-lt-RESULT_WORDS-clause-value c =
    let checked = not_from_true _ c.if-not-check.false in
    let listed = not_from_true _ c.if-not-are_listed.false in
    (regress-short _ _ _ _ c.args.out.now c.args.work.now c.check.ensures checked c.are_listed.ensures listed c.if-out-lt-RESULT_WORDS.true).0

pub returns-then-out-lt-RESULT_WORDS-clause-out_after : goal.returns-then-out-lt-RESULT_WORDS-clause-out_after
returns-then-out-lt-RESULT_WORDS-clause-out_after c =
    let checked = not_from_true _ c.if-not-check.false in
    let listed = not_from_true _ c.if-not-are_listed.false in
    (regress-short _ _ _ _ c.args.out.now c.args.work.now c.check.ensures checked c.are_listed.ensures listed c.if-out-lt-RESULT_WORDS.true).1

pub returns-then-work-lt-SPACE_WORDS-clause-value : goal.returns-then-work-lt-SPACE_WORDS-clause-value
returns-then-work-lt-SPACE_WORDS-clause-value c =
    let checked = not_from_true _ c.if-not-check.false in
    let listed = not_from_true _ c.if-not-are_listed.false in
    (regress-narrow _ _ _ _ c.args.out.now c.args.work.now c.check.ensures checked c.are_listed.ensures listed c.if-work-lt-SPACE_WORDS.true).0

pub returns-then-work-lt-SPACE_WORDS-clause-out_after : goal.returns-then-work-lt-SPACE_WORDS-clause-out_after
returns-then-work-lt-SPACE_WORDS-clause-out_after c =
    let checked = not_from_true _ c.if-not-check.false in
    let listed = not_from_true _ c.if-not-are_listed.false in
    (regress-narrow _ _ _ _ c.args.out.now c.args.work.now c.check.ensures checked c.are_listed.ensures listed c.if-work-lt-SPACE_WORDS.true).1

pub returns-clause-value : goal.returns-clause-value
returns-clause-value c =
    let checked = not_from_true _ c.if-not-check.false in
    let listed = not_from_true _ c.if-not-are_listed.false in
    (regress-passed _ _ _ _ c.args.out.now c.args.work.now c.check.ensures checked c.are_listed.ensures listed c.if-out-lt-RESULT_WORDS.false
    c.if-work-lt-SPACE_WORDS.false c.judge_all.ensures c.in_ok-judge_all.was (c.regress_checked.ensures.value, c.regress_checked.ensures.out_after)).0

pub returns-clause-out_after : goal.returns-clause-out_after
returns-clause-out_after c =
    let checked = not_from_true _ c.if-not-check.false in
    let listed = not_from_true _ c.if-not-are_listed.false in
    (regress-passed _ _ _ _ c.args.out.now c.args.work.now c.check.ensures checked c.are_listed.ensures listed c.if-out-lt-RESULT_WORDS.false
    c.if-work-lt-SPACE_WORDS.false c.judge_all.ensures c.in_ok-judge_all.was (c.regress_checked.ensures.value, c.regress_checked.ensures.out_after)).1

pub returns-in_err-judge_all-clause-value : goal.returns-in_err-judge_all-clause-value
returns-in_err-judge_all-clause-value c =
    let checked = not_from_true _ c.if-not-check.false in
    let listed = not_from_true _ c.if-not-are_listed.false in
    let p = err_from_is_err_and c.from_residual.result c.from_residual.ensures.1 in
    rw (p.1, p.2) (regress-faulty _ _ _ _ c.args.out.now c.args.work.now c.check.ensures checked c.are_listed.ensures listed c.if-out-lt-RESULT_WORDS.false c.if-work-lt-SPACE_WORDS.false
    c.judge_all.ensures c.in_err-judge_all.was).0

pub returns-in_err-judge_all-clause-out_after : goal.returns-in_err-judge_all-clause-out_after
returns-in_err-judge_all-clause-out_after c =
    let checked = not_from_true _ c.if-not-check.false in
    let listed = not_from_true _ c.if-not-are_listed.false in
    (regress-faulty _ _ _ _ c.args.out.now c.args.work.now c.check.ensures checked c.are_listed.ensures listed c.if-out-lt-RESULT_WORDS.false c.if-work-lt-SPACE_WORDS.false
    c.judge_all.ensures c.in_err-judge_all.was).1
