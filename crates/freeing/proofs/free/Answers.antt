use lib.ListN.{length}
use Rattle.freeing.proofs.FreeLaws.{free-none, free-short, free-narrow, free-many, free-task, free-done}
use Rattle.freeing.proofs.free.Goals as goal

pub free_checked-requires : goal.free_checked-requires
free_checked-requires c =
    free-task c.args.arities.now c.args.words.now c.args.count c.args.out.now (length c.args.work.now) c.check.ensures
    c.if-not-check.false c.if-out-lt-RESULT_WORDS.false c.if-work-lt-SPACE_WORDS.false c.if-count-gt-PARAMETERS.false

pub returns-then-not-check-clause-value : goal.returns-then-not-check-clause-value
returns-then-not-check-clause-value c =
    (free-none c.args.arities.now c.args.words.now c.args.count c.args.out.now (length c.args.work.now) c.check.ensures
    c.if-not-check.true).0

pub returns-then-not-check-clause-out_after : goal.returns-then-not-check-clause-out_after
returns-then-not-check-clause-out_after c =
    (free-none c.args.arities.now c.args.words.now c.args.count c.args.out.now (length c.args.work.now) c.check.ensures
    c.if-not-check.true).1

pub returns-then-out-lt-RESULT_WORDS-clause-value : goal.returns-then-out-lt-RESULT_WORDS-clause-value
returns-then-out-lt-RESULT_WORDS-clause-value c =
    (free-short c.args.arities.now c.args.words.now c.args.count c.args.out.now (length c.args.work.now) c.check.ensures
    c.if-not-check.false c.if-out-lt-RESULT_WORDS.true).0

pub returns-then-out-lt-RESULT_WORDS-clause-out_after : goal.returns-then-out-lt-RESULT_WORDS-clause-out_after
returns-then-out-lt-RESULT_WORDS-clause-out_after c =
    (free-short c.args.arities.now c.args.words.now c.args.count c.args.out.now (length c.args.work.now) c.check.ensures
    c.if-not-check.false c.if-out-lt-RESULT_WORDS.true).1

pub returns-then-work-lt-SPACE_WORDS-clause-value : goal.returns-then-work-lt-SPACE_WORDS-clause-value
returns-then-work-lt-SPACE_WORDS-clause-value c =
    (free-narrow c.args.arities.now c.args.words.now c.args.count c.args.out.now (length c.args.work.now) c.check.ensures
    c.if-not-check.false c.if-work-lt-SPACE_WORDS.true).0

pub returns-then-work-lt-SPACE_WORDS-clause-out_after : goal.returns-then-work-lt-SPACE_WORDS-clause-out_after
returns-then-work-lt-SPACE_WORDS-clause-out_after c =
    (free-narrow c.args.arities.now c.args.words.now c.args.count c.args.out.now (length c.args.work.now) c.check.ensures
    c.if-not-check.false c.if-work-lt-SPACE_WORDS.true).1

pub returns-then-count-gt-PARAMETERS-clause-value : goal.returns-then-count-gt-PARAMETERS-clause-value
returns-then-count-gt-PARAMETERS-clause-value c =
    (free-many c.args.arities.now c.args.words.now c.args.count c.args.out.now (length c.args.work.now) c.check.ensures
    c.if-not-check.false c.if-out-lt-RESULT_WORDS.false c.if-work-lt-SPACE_WORDS.false c.if-count-gt-PARAMETERS.true).0

pub returns-then-count-gt-PARAMETERS-clause-out_after : goal.returns-then-count-gt-PARAMETERS-clause-out_after
returns-then-count-gt-PARAMETERS-clause-out_after c =
    (free-many c.args.arities.now c.args.words.now c.args.count c.args.out.now (length c.args.work.now) c.check.ensures
    c.if-not-check.false c.if-out-lt-RESULT_WORDS.false c.if-work-lt-SPACE_WORDS.false c.if-count-gt-PARAMETERS.true).1

pub returns-clause-value : goal.returns-clause-value
returns-clause-value c =
    (free-done c.args.arities.now c.args.words.now c.args.count c.args.out.now (length c.args.work.now) c.check.ensures
    c.if-not-check.false c.if-out-lt-RESULT_WORDS.false c.if-work-lt-SPACE_WORDS.false c.if-count-gt-PARAMETERS.false c.free_checked.ensures).0

pub returns-clause-out_after : goal.returns-clause-out_after
returns-clause-out_after c =
    (free-done c.args.arities.now c.args.words.now c.args.count c.args.out.now (length c.args.work.now) c.check.ensures
    c.if-not-check.false c.if-out-lt-RESULT_WORDS.false c.if-work-lt-SPACE_WORDS.false c.if-count-gt-PARAMETERS.false c.free_checked.ensures).1
