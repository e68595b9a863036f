use Rattle.c_library.proofs.SessionLaws.{given, line_refused, line-live, line_kept, line-few, line-done}
use Rattle.memory.specs.Memory.{memory_of}
use native.Mathlib.Omega.{arith}
use Rattle.c_library.proofs.yindolve_line.Goals as goal

pub returns-then-refusal-ne0 : goal.returns-then-refusal-ne0
returns-then-refusal-ne0 c =
    line_refused c.args.line.now c.args.numbers.now (memory_of c.args.names.now c.args.arities.now c.args.listings.now c.args.table.now c.args.state.now c.args.value.now)
    c.args.work.now c.args.answer.now c.enter-refusal.ensures c.if-refusal-ne0.true

pub position-p-requires : goal.position-p-requires
position-p-requires c =
    (given c.args.numbers.now (memory_of c.args.names.now c.args.arities.now c.args.listings.now c.args.table.now c.args.state.now c.args.value.now)
    c.args.work.now c.args.answer.now 1 c.enter-refusal.ensures c.if-refusal-ne0.false).numbers-room

pub remake_index-requires : goal.remake_index-requires
remake_index-requires c =
    let g = given c.args.numbers.now (memory_of c.args.names.now c.args.arities.now c.args.listings.now c.args.table.now c.args.state.now c.args.value.now)
    c.args.work.now c.args.answer.now 1 c.enter-refusal.ensures c.if-refusal-ne0.false in
    line-live g c.position-p.ensures

pub overflow_add-number : goal.overflow_add-number
overflow_add-number c =
    let g = given c.args.numbers.now (memory_of c.args.names.now c.args.arities.now c.args.listings.now c.args.table.now c.args.state.now c.args.value.now)
    c.args.work.now c.args.answer.now 1 c.enter-refusal.ensures c.if-refusal-ne0.false in
    omega (arith, line-few g c.position-p.ensures)

pub reply_line-sent-requires : goal.reply_line-sent-requires
reply_line-sent-requires c =
    let g = given c.args.numbers.now (memory_of c.args.names.now c.args.arities.now c.args.listings.now c.args.table.now c.args.state.now c.args.value.now)
    c.args.work.now c.args.answer.now 1 c.enter-refusal.ensures c.if-refusal-ne0.false in
    record { kept = line_kept g c.position-p.ensures c.remake_index.ensures; work_words_in_bounds = g.work-room }

pub store-requires : goal.store-requires
store-requires c =
    (given c.args.numbers.now (memory_of c.args.names.now c.args.arities.now c.args.listings.now c.args.table.now c.args.state.now c.args.value.now)
    c.args.work.now c.args.answer.now 1 c.enter-refusal.ensures c.if-refusal-ne0.false).numbers-room

pub returns : goal.returns
returns c =
    let g = given c.args.numbers.now (memory_of c.args.names.now c.args.arities.now c.args.listings.now c.args.table.now c.args.state.now c.args.value.now)
    c.args.work.now c.args.answer.now 1 c.enter-refusal.ensures c.if-refusal-ne0.false in
    line-done c.args.line.now g c.enter-refusal.ensures c.if-refusal-ne0.false _ c.position-p.ensures c.met_behind-met.ensures c.remake_index.ensures
    c.reply_line-sent.ensures c.store.ensures c.end_of.ensures
