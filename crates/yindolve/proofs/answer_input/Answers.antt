use lib.Seq.{length-take-le}
use mathlib.Core.Path.{refl, subst, ◌∙◌}
use native.Mathlib.Omega.{arith}
use Rattle.yindolve.specs.Program.{Ends}
use Rattle.yindolve.proofs.HandLaws.{answerable}
use Rattle.yindolve.proofs.EndLaws.{run-start, free, taken, reads, run-next, run-less}
use Rattle.yindolve.proofs.FinishLaws.{run-few, run_ends}
use Rattle.yindolve.proofs.answer_input.Goals as goal

pub begin-p-requires : goal.begin-p-requires
begin-p-requires c = record { arities_len = c.requires.rooms.arities; state_words_in_bounds = c.requires.rooms.state }

pub slice_bounds-answer_whole-end : goal.slice_bounds-answer_whole-end
slice_bounds-answer_whole-end c = (taken c.loop-open.invariant.0 c.loop-open-test.true c.refill-f.ensures c.refill-f.auto.block).1

pub slice_bounds-answer_whole-end-in-loop-open : goal.slice_bounds-answer_whole-end-in-loop-open
slice_bounds-answer_whole-end-in-loop-open c =
    omega (arith, length-take-le c.refill-f.result.n c.refill-f.new.block (taken c.loop-open.invariant.0 c.loop-open-test.true c.refill-f.ensures c.refill-f.auto.block).1)

pub slice_bounds-write-end : goal.slice_bounds-write-end
slice_bounds-write-end c = c.answer_whole-r.ensures.reaches.going.within

pub slice_bounds-write-end-in-loop-open : goal.slice_bounds-write-end-in-loop-open
slice_bounds-write-end-in-loop-open c =
    omega (arith, length-take-le c.answer_whole-r.result.position.end c.answer_whole-r.new.out c.answer_whole-r.ensures.reaches.going.within)

pub finish-requires : goal.finish-requires
finish-requires c = record {
  end_value = c.loop-open.invariant.0.hand.none;
  lines_lt_most_lines = run-few c.loop-open.invariant.0;
  most_bytes_in_bounds = omega (arith, c.requires.most_bytes_in_bounds, c.loop-open.invariant.1.buffer);
}

pub loop-open-init : goal.loop-open-init
loop-open-init c = (
  run-start c.args.block.now c.start-t.ensures (c.begin-p.ensures.says c.args.names.now c.args.listings.now c.args.table.now c.args.value.now
      c.args.out.now c.requires.rooms),
  record { names = refl; arities = refl; listings = refl; table = refl; state = refl; value = refl; working = refl; blocks = refl; buffer = refl },
)

pub refill-f-requires-clause-count_in_bounds : goal.refill-f-requires-clause-count_in_bounds
refill-f-requires-clause-count_in_bounds c =
    free c.loop-open.invariant.0 (omega (arith, c.requires.line_room_in_bounds, c.loop-open.invariant.1.blocks))

pub refill-f-requires-clause-count_in_bounds_2 : goal.refill-f-requires-clause-count_in_bounds_2
refill-f-requires-clause-count_in_bounds_2 c =
    c.loop-open.invariant.0.inside

pub answer_whole-r-requires : goal.answer_whole-r-requires
answer_whole-r-requires c =
    let h = taken c.loop-open.invariant.0 c.loop-open-test.true c.refill-f.ensures c.refill-f.auto.block in
    answerable h.0 h.1 (reads c.loop-open.invariant.0 c.loop-open-test.true c.refill-f.ensures c.refill-f.auto.block) (omega (arith, c.requires.work_words_in_bounds, c.loop-open.invariant.1.working))

pub keep_rest-rest-requires : goal.keep_rest-rest-requires
keep_rest-rest-requires c =
    let h = taken c.loop-open.invariant.0 c.loop-open-test.true c.refill-f.ensures c.refill-f.auto.block in
    record {
      at_le_n = omega (arith, c.answer_whole-r.ensures.reaches.inside, length-take-le c.refill-f.result.n c.refill-f.new.block h.1);
      n_in_bounds = h.1;
    }

pub loop-open-smaller : goal.loop-open-smaller
loop-open-smaller c =
    let i = c.loop-open.invariant in
    run-less i.0 c.loop-open-test.true c.refill-f.ensures c.refill-f.auto.block (omega (arith, c.requires.most_bytes_in_bounds, i.1.buffer)) c.answer_whole-r.ensures.reaches
    c.write-t.ensures c.keep_rest-rest.ensures c.keep_rest-rest.auto.block c.is_open-open.ensures

pub loop-open-preserved : goal.loop-open-preserved
loop-open-preserved c = (
  run-next c.loop-open.invariant.0 c.loop-open-test.true c.refill-f.ensures c.refill-f.auto.block (omega (arith, c.requires.most_bytes_in_bounds, c.loop-open.invariant.1.buffer))
      c.answer_whole-r.ensures.reaches c.write-t.ensures c.keep_rest-rest.ensures c.keep_rest-rest.auto.block c.emptied-p.ensures
      c.is_open-open.ensures,
  record {
    names = c.answer_whole-r.auto.names ∙ c.loop-open.invariant.1.names;
    arities = c.answer_whole-r.auto.arities ∙ c.loop-open.invariant.1.arities;
    listings = c.answer_whole-r.auto.listings ∙ c.loop-open.invariant.1.listings;
    table = c.answer_whole-r.auto.table ∙ c.loop-open.invariant.1.table;
    state = c.answer_whole-r.auto.state ∙ c.loop-open.invariant.1.state;
    value = c.answer_whole-r.auto.value ∙ c.loop-open.invariant.1.value;
    working = c.answer_whole-r.auto.work ∙ c.loop-open.invariant.1.working;
    blocks = c.keep_rest-rest.auto.block ∙ c.refill-f.auto.block ∙ c.loop-open.invariant.1.blocks;
    buffer = c.answer_whole-r.auto.out ∙ c.loop-open.invariant.1.buffer;
  },
)

pub returns : goal.returns
returns c =
    subst (λ n. Ends n c.finish.result) c.loop-open.invariant.1.blocks (run_ends c.loop-open.invariant.0 c.loop-open-test.false c.finish.ensures)
