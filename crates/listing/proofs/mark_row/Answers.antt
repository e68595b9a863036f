use native.Mathlib.Omega.{arith}
use Prim.Native.Nat.{◌<◌}
use Rattle.label.specs.Limits.{most_places}
use Rattle.listing.proofs.MarkLaws.{mark-leaf, predicate-below, predicate-within, few-places, place-within, places-start, places-next, mark-branch}
use Rattle.listing.proofs.mark_row.Goals as goal

pub returns-then-l : goal.returns-then-l
returns-then-l c =
    search mark-leaf

pub offset_bounds-arities-predicate : goal.offset_bounds-arities-predicate
offset_bounds-arities-predicate c =
    omega (arith, predicate-below _ _ _ _ c.if-l.false c.requires c.predicate.ensures)

pub bounds-arities-predicate : goal.bounds-arities-predicate
bounds-arities-predicate c =
    search predicate-within

pub loop-k-init : goal.loop-k-init
loop-k-init c =
    places-start _ _ (search few-places)

pub offset_bounds-marks-place : goal.offset_bounds-marks-place
offset_bounds-marks-place c =
    let k-few : c.loop-k.k < most_places = omega (arith, c.loop-k.invariant.few) in
    omega (arith, place-within _ _ _ _ c.if-l.false c.requires k-few c.place.ensures)

pub bounds-marks-place : goal.bounds-marks-place
bounds-marks-place c =
    let k-few : c.loop-k.k < most_places = omega (arith, c.loop-k.invariant.few) in
    omega (arith, c.requires.whole, c.loop-k.auto.marks, place-within _ _ _ _ c.if-l.false c.requires k-few c.place.ensures)

pub loop-k-preserved : goal.loop-k-preserved
loop-k-preserved c =
    search places-next

pub returns : goal.returns
returns c =
    search mark-branch
