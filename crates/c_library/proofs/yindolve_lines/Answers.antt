use Rattle.c_library.proofs.SessionLaws.{given, line-live, lines-refused, lines-answerable, lines-done}
use lib.ListN.{length}
use Rattle.memory.specs.Memory.{memory_of}
use Rattle.c_library.proofs.yindolve_lines.Goals as goal

pub returns-then-refusal-ne0 : goal.returns-then-refusal-ne0
returns-then-refusal-ne0 c =
    lines-refused c.args.block.now c.args.numbers.now (memory_of c.args.names.now c.args.arities.now c.args.listings.now c.args.table.now c.args.state.now c.args.value.now)
    c.args.work.now c.args.answers.now c.enter-refusal.ensures c.if-refusal-ne0.true

pub position-first-requires : goal.position-first-requires
position-first-requires c =
    (given c.args.numbers.now (memory_of c.args.names.now c.args.arities.now c.args.listings.now c.args.table.now c.args.state.now c.args.value.now)
    c.args.work.now c.args.answers.now (length c.args.block.now) c.enter-refusal.ensures c.if-refusal-ne0.false).numbers-room

pub remake_index-requires : goal.remake_index-requires
remake_index-requires c =
    let g = given c.args.numbers.now (memory_of c.args.names.now c.args.arities.now c.args.listings.now c.args.table.now c.args.state.now c.args.value.now)
    c.args.work.now c.args.answers.now (length c.args.block.now) c.enter-refusal.ensures c.if-refusal-ne0.false in
    line-live g c.position-first.ensures

pub answer_whole-reached-requires : goal.answer_whole-reached-requires
answer_whole-reached-requires c =
    let g = given c.args.numbers.now (memory_of c.args.names.now c.args.arities.now c.args.listings.now c.args.table.now c.args.state.now c.args.value.now)
    c.args.work.now c.args.answers.now (length c.args.block.now) c.enter-refusal.ensures c.if-refusal-ne0.false in
    lines-answerable g c.position-first.ensures c.remake_index.ensures

pub store-requires : goal.store-requires
store-requires c =
    (given c.args.numbers.now (memory_of c.args.names.now c.args.arities.now c.args.listings.now c.args.table.now c.args.state.now c.args.value.now)
    c.args.work.now c.args.answers.now (length c.args.block.now) c.enter-refusal.ensures c.if-refusal-ne0.false).numbers-room

pub returns : goal.returns
returns c =
    let g = given c.args.numbers.now (memory_of c.args.names.now c.args.arities.now c.args.listings.now c.args.table.now c.args.state.now c.args.value.now)
    c.args.work.now c.args.answers.now (length c.args.block.now) c.enter-refusal.ensures c.if-refusal-ne0.false in
    lines-done g c.enter-refusal.ensures c.if-refusal-ne0.false c.position-first.ensures c.remake_index.ensures c.answer_whole-reached.ensures.reaches c.answer_whole-reached.ensures.carried_over _ _
    c.store.ensures
