use native.Mathlib.Omega.{arith}
use Rattle.plan.specs.Plan.{went_of}
use Rattle.plan.proofs.StepLaws.{word-full, word-to}
use Rattle.plan.proofs.VisitLaws.{ready-key, ready-index, visit-packable, visit-answer, visit-new, below_end, high-few, low-few, high-less, low-less}
use Rattle.plan.proofs.VisitLaws.{high-ready, high-full, low-ready, low-full, low-index, below-branch}
use Rattle.plan.proofs.+below_visit.Goals as goal

pub below-add-requires-clause-index : goal.below-add-requires-clause-index
below-add-requires-clause-index t c = ready-index c.requires.ready

pub below-returns-then-l : goal.below-returns-then-l
below-returns-then-l t c =
    below_end c.requires.ready c.requires.count_value c.pair_label-l.ensures c.if-l.true (ready-key c.requires.ready) c.add.ensures

pub below-key-on_high-requires : goal.below-key-on_high-requires
below-key-on_high-requires t c =
    high-few c.requires.ready c.requires.count_value c.pair_label-l.ensures c.if-l.false c.successors-s.ensures

pub below-key-on_low-requires : goal.below-key-on_low-requires
below-key-on_low-requires t c =
    low-few c.requires.ready c.requires.count_value c.pair_label-l.ensures c.if-l.false c.successors-s.ensures

pub below-visit-high-requires : goal.below-visit-high-requires
below-visit-high-requires t c = (
  omega (
    arith,
    c.decreases,
    high-less c.requires.ready c.requires.count_value c.pair_label-l.ensures c.if-l.false c.successors-s.ensures c.key-on_high.ensures c.key-on_low.ensures,
  ),
  high-ready c.requires.ready c.requires.count_value c.pair_label-l.ensures c.if-l.false c.successors-s.ensures c.key-on_high.ensures c.key-on_low.ensures,
)

pub below-returns-then-high-eq-FULL : goal.below-returns-then-high-eq-FULL
unfolding went_of
below-returns-then-high-eq-FULL t c =
    high-full c.requires.ready c.requires.count_value c.pair_label-l.ensures c.if-l.false c.successors-s.ensures
    c.key-on_high.ensures c.key-on_low.ensures c.visit-high.ensures (word-full _ c.if-high-eq-FULL.true)

pub below-visit-low-requires : goal.below-visit-low-requires
below-visit-low-requires t c = (
  omega (
    arith,
    c.decreases,
    low-less c.requires.ready c.requires.count_value c.pair_label-l.ensures c.if-l.false c.successors-s.ensures c.key-on_high.ensures c.key-on_low.ensures,
  ),
  low-ready c.requires.ready c.requires.count_value c.pair_label-l.ensures c.if-l.false c.successors-s.ensures
      c.key-on_high.ensures c.key-on_low.ensures c.visit-high.ensures (word-to _ c.if-high-eq-FULL.false),
)

pub below-returns-then-low-eq-FULL : goal.below-returns-then-low-eq-FULL
unfolding went_of
below-returns-then-low-eq-FULL t c =
    low-full c.requires.ready c.requires.count_value c.pair_label-l.ensures c.if-l.false c.successors-s.ensures
    c.key-on_high.ensures c.key-on_low.ensures c.visit-high.ensures (word-to _ c.if-high-eq-FULL.false)
    c.visit-low.ensures (word-full _ c.if-low-eq-FULL.true)

pub below-add-requires-2-clause-index : goal.below-add-requires-2-clause-index
below-add-requires-2-clause-index t c =
    low-index c.requires.ready c.requires.count_value c.pair_label-l.ensures c.if-l.false c.successors-s.ensures
    c.key-on_high.ensures c.key-on_low.ensures c.visit-high.ensures (word-to _ c.if-high-eq-FULL.false)
    c.visit-low.ensures (word-to _ c.if-low-eq-FULL.false)

pub below-returns : goal.below-returns
below-returns t c =
    below-branch c.requires.ready c.requires.count_value c.pair_label-l.ensures c.if-l.false c.successors-s.ensures
    c.key-on_high.ensures c.key-on_low.ensures c.visit-high.ensures (word-to _ c.if-high-eq-FULL.false)
    c.visit-low.ensures (word-to _ c.if-low-eq-FULL.false) (ready-key c.requires.ready) c.add-2.ensures

pub visit-find-at-requires-clause-index : goal.visit-find-at-requires-clause-index
visit-find-at-requires-clause-index t c = ready-index c.requires

pub visit-packed-requires : goal.visit-packed-requires
visit-packed-requires t c = visit-packable c.requires (ready-key c.requires) c.find-at.ensures c.if-at-ne0.true

pub visit-returns-then-at-ne0 : goal.visit-returns-then-at-ne0
visit-returns-then-at-ne0 t c = visit-answer c.requires (ready-key c.requires) c.find-at.ensures c.if-at-ne0.true c.packed.ensures

pub visit-below-requires : goal.visit-below-requires
visit-below-requires t c =
    (omega (arith, c.decreases), (c.requires, visit-new c.requires (ready-key c.requires) c.find-at.ensures c.if-at-ne0.false))
