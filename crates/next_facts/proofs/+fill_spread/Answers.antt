use native.Mathlib.Omega.{arith}
use mathlib.Core.Path.{◌∙◌, ap}
use lib.ListN.{length}
use Rattle.std.proofs.lemmas.Bool.{not_from_false, not_from_true}
use Rattle.next_facts.proofs.FillLaws.{fill_none, fill-row, fill-left, fill_on, spreading-start, spreading-room, spreading-fillable}
use Rattle.next_facts.proofs.FillLaws.{spreading-many, spreading-on, spreading-env, spreading-end}
use Rattle.next_facts.proofs.+fill_spread.Goals as goal

pub fill-reach-requires : goal.fill-reach-requires
fill-reach-requires t c =
    c.requires.reaching

pub fill-returns-then-not-reach : goal.fill-returns-then-not-reach
fill-returns-then-not-reach t c =
    fill_none _ _ _ _ _ _ _ c.requires c.reach.ensures (not_from_false _ c.if-not-reach.true)

pub fill-put-requires-clause-k_in_bounds : goal.fill-put-requires-clause-k_in_bounds
fill-put-requires-clause-k_in_bounds t c =
    omega (arith, c.requires.reaching.words, c.requires.most)

pub fill-put-requires-clause-k_le_most_places : goal.fill-put-requires-clause-k_le_most_places
fill-put-requires-clause-k_le_most_places t c =
    c.requires.most

pub fill-put-requires-clause-room : goal.fill-put-requires-clause-room
fill-put-requires-clause-room t c =
    c.requires.room

pub fill-returns-then-left-eq0 : goal.fill-returns-then-left-eq0
fill-returns-then-left-eq0 t c =
    fill-row _ _ _ _ _ _ _ c.requires c.reach.ensures (not_from_true _ c.if-not-reach.false)
    c.if-left-eq0.true c.put.ensures

pub fill-spread-requires : goal.fill-spread-requires
fill-spread-requires t c =
    (omega (arith, c.decreases), fill_on c.requires c.reach.auto.marks c.if-left-eq0.false)

pub fill-returns : goal.fill-returns
fill-returns t c =
    fill-left _ _ _ _ _ _ _ c.requires c.reach.ensures
    (not_from_true _ c.if-not-reach.false)
    c.if-left-eq0.false c.spread.ensures

pub spread-loop-v-init : goal.spread-loop-v-init
spread-loop-v-init t c =
    spreading-start _ _ _ c.requires

pub spread-bounds-env-t-in-loop-v : goal.spread-bounds-env-t-in-loop-v
spread-bounds-env-t-in-loop-v t c =
    spreading-room c.loop-v.invariant

pub spread-fill-requires : goal.spread-fill-requires
spread-fill-requires t c = (omega (arith, c.decreases), spreading-fillable c.loop-v.invariant c.loop-v-test.true)

pub spread-shape_of-env-in_err-m : goal.spread-shape_of-env-in_err-m
spread-shape_of-env-in_err-m t c =
    spreading-env c.loop-v.invariant
    c.fill.auto.env

pub spread-shape_of-marks-in_err-m : goal.spread-shape_of-marks-in_err-m
spread-shape_of-marks-in_err-m t c =
    c.fill.auto.marks ∙ c.loop-v.invariant.marks-same

pub spread-shape_of-out-in_err-m : goal.spread-shape_of-out-in_err-m
spread-shape_of-out-in_err-m t c =
    c.fill.auto.out ∙ c.loop-v.invariant.out-same

pub spread-returns-in_err-m : goal.spread-returns-in_err-m
spread-returns-in_err-m t c =
    rw c.from_residual.ensures (spreading-many c.loop-v.invariant c.loop-v-test.true c.fill.ensures c.in_err-m.was)

pub spread-loop-v-preserved : goal.spread-loop-v-preserved
spread-loop-v-preserved t c =
    spreading-on c.loop-v.invariant
    c.loop-v-test.true
    c.fill.ensures c.fill.auto.env c.fill.auto.marks c.fill.auto.out c.in_ok-m.was

pub spread-bounds-env-t-2 : goal.spread-bounds-env-t-2
spread-bounds-env-t-2 t c =
    spreading-room c.loop-v.invariant

pub spread-shape_of-env : goal.spread-shape_of-env
spread-shape_of-env t c =
    ap length c.loop-v.invariant.before

pub spread-shape_of-marks : goal.spread-shape_of-marks
spread-shape_of-marks t c =
    c.loop-v.invariant.marks-same

pub spread-shape_of-out : goal.spread-shape_of-out
spread-shape_of-out t c =
    c.loop-v.invariant.out-same

pub spread-returns : goal.spread-returns
spread-returns t c =
    spreading-end c.loop-v.invariant c.loop-v-test.false
