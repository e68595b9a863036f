use native.Mathlib.Omega.{arith}
use Rattle.texts.proofs.RunLaws.{run-answerable, run-ending, run_ends}
use Rattle.texts.proofs.run_in.Goals as goal

pub answer_whole-r-requires : goal.answer_whole-r-requires
answer_whole-r-requires c =
    run-answerable (c.begin-first.ensures.says c.args.names.now c.args.listings.now
    c.args.table.now c.args.value.now c.args.out.now c.requires.rooms) (omega (arith, c.well_formed)) c.requires.work_words_in_bounds

pub end_behind-requires : goal.end_behind-requires
end_behind-requires c =
    run-ending (c.begin-first.ensures.says c.args.names.now
    c.args.listings.now c.args.table.now c.args.value.now c.args.out.now c.requires.rooms) (omega (arith, c.well_formed)) c.answer_whole-r.ensures.reaches

pub returns : goal.returns
returns c =
    run_ends (c.begin-first.ensures.says c.args.names.now c.args.listings.now c.args.table.now c.args.value.now c.args.out.now c.requires.rooms) c.answer_whole-r.ensures.reaches
    c.answer_whole-r.auto.out c.end_behind.ensures

pub begin-first-requires-clause-arities_len : goal.begin-first-requires-clause-arities_len
begin-first-requires-clause-arities_len c =
    c.requires.rooms.arities

pub begin-first-requires-clause-state_words_in_bounds : goal.begin-first-requires-clause-state_words_in_bounds
begin-first-requires-clause-state_words_in_bounds c =
    c.requires.rooms.state
