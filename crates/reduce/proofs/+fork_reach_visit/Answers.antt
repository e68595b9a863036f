use mathlib.Core.Path.{◌∙◌}
use Rattle.reduce.proofs.VisitLaws.{raw-label, label-raw, high-few, high-place, high_small, code-small, row-high, row_low, fork-first, further-high, fork-full}
use Rattle.reduce.proofs.VisitLaws.{long, longer, fork-place, fork-second, further-low, fork-done, reach-full, winner-below, reach-place, reach-last, reach-searching}
use Rattle.reduce.proofs.VisitLaws.{reach-standing, reach-on, visit-path, visit-count, visit-leaf, standing-high, visit-true, standing-low, visit-false, visit-fork}
use native.Mathlib.Omega.{arith}
use Rattle.reduce.proofs.+fork_reach_visit.Goals as goal

pub fork-offset_bounds-counts-t : goal.fork-offset_bounds-counts-t
fork-offset_bounds-counts-t t c =
    omega (arith, high-few c.requires.searching c.requires.standing (raw-label _ _ c.requires.fact))

pub fork-bounds-counts-t : goal.fork-bounds-counts-t
fork-bounds-counts-t t c =
    high-place c.requires.searching c.requires.standing (raw-label _ _ c.requires.fact)

pub fork-overflow_add-behind : goal.fork-overflow_add-behind
fork-overflow_add-behind t c =
    omega (arith, high_small c.requires.searching c.requires.standing (raw-label _ _ c.requires.fact))

pub fork-overflow_mul-code : goal.fork-overflow_mul-code
fork-overflow_mul-code t c =
    omega (arith, code-small c.requires.searching c.requires.standing (raw-label _ _ c.requires.fact))

pub fork-overflow_add-known : goal.fork-overflow_add-known
fork-overflow_add-known t c =
    omega (arith, code-small c.requires.searching c.requires.standing (raw-label _ _ c.requires.fact))

pub fork-visit-a-requires : goal.fork-visit-a-requires
fork-visit-a-requires t c =
    let q = c.requires in
    let e = raw-label _ _ q.fact in
    (omega (arith, c.decreases, row-high q.searching q.standing e), (fork-first q.searching q.standing e _, further-high q.searching q.standing e))

pub fork-shape_of-known-then-a-gt-FORMED : goal.fork-shape_of-known-then-a-gt-FORMED
fork-shape_of-known-then-a-gt-FORMED t c =
    long c.requires.searching c.requires.standing (raw-label _ _ c.requires.fact) c.visit-a.ensures c.visit-a.auto.known c.visit-a.auto.wins

pub fork-returns-then-a-gt-FORMED : goal.fork-returns-then-a-gt-FORMED
fork-returns-then-a-gt-FORMED t c =
    let e = raw-label _ _ c.requires.fact in
    fork-full c.requires.searching c.requires.standing e c.visit-a.ensures c.visit-a.auto.known c.visit-a.auto.wins c.if-a-gt-FORMED.true

pub fork-bounds-known-count-2 : goal.fork-bounds-known-count-2
fork-bounds-known-count-2 t c =
    let e = raw-label _ _ c.requires.fact in
    fork-place c.requires.searching c.requires.standing e c.visit-a.ensures c.visit-a.auto.known c.visit-a.auto.wins

pub fork-visit-requires : goal.fork-visit-requires
fork-visit-requires t c =
    let q = c.requires in
    let e = raw-label _ _ q.fact in (
      omega (arith, c.decreases, row_low q.searching q.standing e),
      (fork-second q.searching q.standing e c.visit-a.ensures c.visit-a.auto.known c.visit-a.auto.wins c.if-a-gt-FORMED.false, further-low q.searching q.standing e),
    )

pub fork-shape_of-known : goal.fork-shape_of-known
fork-shape_of-known t c =
    longer c.requires.searching c.requires.standing (raw-label _ _ c.requires.fact) c.visit-a.ensures c.visit-a.auto.known c.visit-a.auto.wins c.visit.auto.known

pub fork-shape_of-wins : goal.fork-shape_of-wins
fork-shape_of-wins t c =
    c.visit.auto.wins ∙ c.visit-a.auto.wins

pub fork-returns : goal.fork-returns
fork-returns t c =
    let e = raw-label _ _ c.requires.fact in
    fork-done c.requires.searching c.requires.standing e c.visit-a.ensures c.visit-a.auto.known c.visit-a.auto.wins c.if-a-gt-FORMED.false c.visit.ensures

pub reach-returns-then-formed-eq-FORMED : goal.reach-returns-then-formed-eq-FORMED
reach-returns-then-formed-eq-FORMED t c =
    reach-full c.requires.searching c.requires.k_lt_m c.requires.count_bound c.if-formed-eq-FORMED.true

pub reach-offset_bounds-wins-b : goal.reach-offset_bounds-wins-b
reach-offset_bounds-wins-b t c =
    omega (arith, winner-below c.requires.searching c.requires.k_lt_m c.requires.count_bound c.if-formed-eq-FORMED.false c.better-b.ensures, c.requires.searching.routed.few)

pub reach-bounds-wins-b : goal.reach-bounds-wins-b
reach-bounds-wins-b t c =
    reach-place c.requires.searching c.requires.k_lt_m c.requires.count_bound c.if-formed-eq-FORMED.false c.better-b.ensures

pub reach-returns-then-left-eq0 : goal.reach-returns-then-left-eq0
reach-returns-then-left-eq0 t c =
    reach-last c.requires.searching c.requires.k_lt_m c.requires.count_bound c.if-formed-eq-FORMED.false c.better-b.ensures c.if-left-eq0.true

pub reach-visit-requires : goal.reach-visit-requires
reach-visit-requires t c = (
  omega (arith, c.decreases, c.if-left-eq0.false, c.requires.searching.routed.rows.few),
  (
    reach-searching c.requires.searching c.requires.k_lt_m c.requires.count_bound c.if-formed-eq-FORMED.false c.better-b.ensures c.if-left-eq0.false,
    reach-standing c.requires.searching c.requires.k_lt_m
        c.requires.count_bound c.if-formed-eq-FORMED.false c.better-b.ensures c.if-left-eq0.false,
  ),
)

pub reach-returns : goal.reach-returns
reach-returns t c =
    reach-on c.requires.searching c.requires.k_lt_m c.requires.count_bound c.if-formed-eq-FORMED.false c.better-b.ensures c.if-left-eq0.false c.visit.ensures

pub visit-reach-requires : goal.visit-reach-requires
visit-reach-requires t c =
    (omega (arith, c.decreases), (c.requires.searching, (visit-path c.requires.searching c.requires.standing c.if-words-r.true, visit-count c.requires.searching c.requires.standing)))

pub visit-returns-then-words-r : goal.visit-returns-then-words-r
visit-returns-then-words-r t c =
    visit-leaf c.requires.searching c.requires.standing c.if-words-r.true c.reach.ensures

pub visit-visit-requires : goal.visit-visit-requires
visit-visit-requires t c =
    let q = c.requires in
    (omega (arith, c.decreases, row-high q.searching q.standing c.if-words-r.false), (q.searching, standing-high q.searching q.standing c.if-words-r.false))

pub visit-returns-then-s-eq1 : goal.visit-returns-then-s-eq1
visit-returns-then-s-eq1 t c =
    visit-true c.requires.searching c.requires.standing c.if-words-r.false c.sign_of-s.ensures c.if-s-eq1.true c.visit.ensures

pub visit-offset_bounds-counts-t : goal.visit-offset_bounds-counts-t
visit-offset_bounds-counts-t t c =
    omega (arith, high-few c.requires.searching c.requires.standing c.if-words-r.false)

pub visit-bounds-counts-t : goal.visit-bounds-counts-t
visit-bounds-counts-t t c =
    high-place c.requires.searching c.requires.standing c.if-words-r.false

pub visit-overflow_add-behind : goal.visit-overflow_add-behind
visit-overflow_add-behind t c =
    omega (arith, high_small c.requires.searching c.requires.standing c.if-words-r.false)

pub visit-visit-requires-then-s-eq0 : goal.visit-visit-requires-then-s-eq0
visit-visit-requires-then-s-eq0 t c =
    (omega (arith, c.decreases, row_low c.requires.searching c.requires.standing c.if-words-r.false), (c.requires.searching, standing-low c.requires.searching c.requires.standing c.if-words-r.false))

pub visit-returns-then-s-eq0 : goal.visit-returns-then-s-eq0
visit-returns-then-s-eq0 t c =
    visit-false c.requires.searching c.requires.standing c.if-words-r.false c.sign_of-s.ensures c.if-s-eq0.true c.visit-then-s-eq0.ensures

pub visit-fork-requires : goal.visit-fork-requires
visit-fork-requires t c =
    (omega (arith, c.decreases), (c.requires.searching, (c.requires.standing, label-raw _ _ c.if-words-r.false)))

pub visit-returns : goal.visit-returns
visit-returns t c =
    visit-fork c.requires.searching c.requires.standing c.if-words-r.false c.sign_of-s.ensures c.if-s-eq1.false c.if-s-eq0.false c.fork.ensures
