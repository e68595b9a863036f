use mathlib.Core.Path.{◌∙◌}
use native.Mathlib.Omega.{arith}
use Rattle.texts.proofs.RunLaws.{lengths-same, answering-first, of-lines, answering-lines, next-inside, answering-next, end_later, answering-done}
use Rattle.texts.proofs.CarriedLaws.{standing-first, standing-done, standing-next}
use Rattle.texts.proofs.answer_whole.Goals as goal

pub loop-end-init : goal.loop-end-init
loop-end-init c =
    (answering-first c.args.free c.requires, lengths-same _ _, c.next_end-end.ensures, standing-first _ _ _ _ _ _)

pub next_line-r-requires-clause-going : goal.next_line-r-requires-clause-going
next_line-r-requires-clause-going c =
    c.loop-end.invariant.0.going

pub next_line-r-requires-clause-lines_lt_most_lines : goal.next_line-r-requires-clause-lines_lt_most_lines
next_line-r-requires-clause-lines_lt_most_lines c =
    answering-lines c.loop-end.invariant.0 c.loop-end.invariant.2 c.loop-end-test.true
    (of-lines _ _ _) c.requires.lines

pub next_line-r-requires-clause-work_words_in_bounds : goal.next_line-r-requires-clause-work_words_in_bounds
next_line-r-requires-clause-work_words_in_bounds c =
    omega (arith, c.requires.work-room, c.loop-end.invariant.1.work-room)

pub loop-end-smaller : goal.loop-end-smaller
loop-end-smaller c =
    let i = c.loop-end.invariant in
    omega (arith, c.loop-end-test.true, end_later i.0 i.2 c.loop-end-test.true c.next_line-r.ensures.steps c.next_line-r.auto.out c.next_end-end-in-loop-end.ensures)

pub loop-end-preserved : goal.loop-end-preserved
loop-end-preserved c = (
  answering-next c.loop-end.invariant.0 c.loop-end.invariant.2 c.loop-end-test.true c.next_line-r.ensures.steps c.next_line-r.auto.out,
  record {
    names = c.next_line-r.auto.names ∙ c.loop-end.invariant.1.names;
    arities = c.next_line-r.auto.arities ∙ c.loop-end.invariant.1.arities;
    listings = c.next_line-r.auto.listings ∙ c.loop-end.invariant.1.listings;
    table = c.next_line-r.auto.table ∙ c.loop-end.invariant.1.table;
    state = c.next_line-r.auto.state ∙ c.loop-end.invariant.1.state;
    value = c.next_line-r.auto.value ∙ c.loop-end.invariant.1.value;
    work-room = c.next_line-r.auto.work ∙ c.loop-end.invariant.1.work-room;
  },
  c.next_end-end-in-loop-end.ensures,
  standing-next c.loop-end.invariant.0 c.loop-end.invariant.3 c.loop-end.invariant.2 c.loop-end-test.true c.next_line-r.ensures.steps c.next_line-r.auto.out c.next_line-r.ensures.carried,
)

pub next_end-end-requires : goal.next_end-end-requires
next_end-end-requires c =
    c.requires.going.within

pub overflow_add-next : goal.overflow_add-next
overflow_add-next c =
    omega (arith, c.loop-end-test.true, c.well_formed)

pub slice_bounds-next_line-count : goal.slice_bounds-next_line-count
slice_bounds-next_line-count c =
    next-inside c.loop-end.invariant.0 c.loop-end.invariant.2 c.loop-end-test.true

pub slice_bounds-next_line-start : goal.slice_bounds-next_line-start
slice_bounds-next_line-start c =
    next-inside c.loop-end.invariant.0 c.loop-end.invariant.2 c.loop-end-test.true

pub slice_bounds-next_line-end : goal.slice_bounds-next_line-end
slice_bounds-next_line-end c =
    omega (arith, c.loop-end-test.true)

pub returns : goal.returns
returns c =
    record {
      reaches = answering-done c.loop-end.invariant.0 c.loop-end.invariant.2 c.loop-end-test.false;
      carried_over = standing-done c.loop-end.invariant.0 c.loop-end.invariant.3 c.loop-end.invariant.2 c.loop-end-test.false;
    }
