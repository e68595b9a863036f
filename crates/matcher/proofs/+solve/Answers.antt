use mathlib.Core.Path.{refl, ap}
use mathlib.Core.Bool.{not}
use native.Mathlib.Omega.{arith}
use Rattle.std.specs.Prelude.{[]}
use Rattle.matcher.proofs.SolveLaws.{known-images}
use Rattle.matcher.proofs.TryingLaws.{trying_start, trying-end, trying-misfit, trying-next, trying-up, trying-failed}
use Rattle.matcher.proofs.LevelLaws.{solve-end, solve-recalled, level-slots}
use Rattle.matcher.proofs.KnownLaws.{unmet-post, met_next, met-post}
use Rattle.matcher.proofs.+solve.Goals.{then-attempt+else-is_handed_up, else-attempt}
use Rattle.matcher.proofs.+solve.Goals as goal

pub returns-then-k-ord : goal.returns-then-k-ord
returns-then-k-ord t c = solve-end c.if-k-ord.true c.requires

pub is_met-requires-clause-images : goal.is_met-requires-clause-images
is_met-requires-clause-images t c =
    known-images [] c.requires.tabled c.requires.ranged c.requires.replacing (omega (arith, c.requires.most, c.if-k-ord.false)) refl
    c.all_known.ensures c.if-all_known.true

pub returns-then-not-is_met : goal.returns-then-not-is_met
returns-then-not-is_met t c =
    unmet-post c.requires c.if-k-ord.false refl c.all_known.ensures c.if-all_known.true c.variables_of.ensures c.is_met.ensures (ap not c.if-not-is_met.true)

pub solve-requires : goal.solve-requires
solve-requires t c = (
  omega (arith, c.decreases, c.requires.most, c.if-k-ord.false),
  met_next c.requires c.if-k-ord.false refl c.all_known.ensures c.if-all_known.true,
)

pub returns-then-all_known : goal.returns-then-all_known
returns-then-all_known t c =
    met-post c.requires c.if-k-ord.false refl c.all_known.ensures c.if-all_known.true c.is_met.ensures (ap not c.if-not-is_met.false) c.solve.ensures

pub returns-then-not-is_found : goal.returns-then-not-is_found
returns-then-not-is_found t c = solve-recalled c.requires c.recall-past.ensures c.is_found.ensures (ap not c.if-not-is_found.true)

pub loop-j-init : goal.loop-j-init
loop-j-init t c = trying_start c.requires c.if-k-ord.false refl c.variables_of-vars.ensures c.way_count-total.ensures

pub attempt-requires-clause-slots : goal.attempt-requires-clause-slots
attempt-requires-clause-slots t c = level-slots c.loop-j.invariant.level

pub solve-answer-requires : goal.solve-answer-requires
solve-answer-requires t c = (
  omega (arith, c.decreases, c.requires.most, c.if-k-ord.false),
  trying-next c.loop-j.invariant c.loop-j-test.true c.attempt.ensures c.attempt.auto.theta c.if-attempt.true,
)

pub returns-then-is_handed_up : goal.returns-then-is_handed_up
returns-then-is_handed_up t c =
    trying-up c.loop-j.invariant c.loop-j-test.true c.attempt.ensures c.attempt.auto.theta c.if-attempt.true c.solve-answer.ensures
    c.is_handed_up.ensures c.if-is_handed_up.true

pub loop-j-preserved : goal.loop-j-preserved
loop-j-preserved t c =
    elim c.if-attempt.branch [
      | then-attempt+else-is_handed_up w ↦ rw (w.theta-is, w.store-is, w.mask-is)
          (trying-failed c.loop-j.invariant c.loop-j-test.true c.attempt.ensures c.attempt.auto.theta w.if-attempt.true w.solve-answer.ensures
          w.is_handed_up.ensures w.if-is_handed_up.false w.mask_of.ensures w.solve-answer.auto.theta w.solve-answer.auto.store)
      | else-attempt w ↦ rw (w.theta-is, w.store-is, w.mask-is)
          (trying-misfit c.loop-j.invariant c.loop-j-test.true c.attempt.ensures c.attempt.auto.theta w.if-attempt.false)
    ]

pub returns : goal.returns
returns t c = trying-end c.loop-j.invariant c.loop-j-test.false c.remember.ensures c.remember.auto.store
