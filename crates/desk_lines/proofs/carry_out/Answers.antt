use native.Mathlib.Omega.{arith}
use Rattle.facts.specs.WordLaws.{empty-row}
use Rattle.desk_lines.proofs.DidLaws.{log-findable, objects-few, objects-room, carry-movable, carry-done, carry-refused}
use Rattle.std.proofs.lemmas.Result.{err_from_is_err_and}
use Rattle.desk_lines.proofs.carry_out.Goals as goal

pub read_tuple-objects-requires-clause-empty_row : goal.read_tuple-objects-requires-clause-empty_row
read_tuple-objects-requires-clause-empty_row c =
    empty-row

pub find-requires : goal.find-requires
find-requires c =
    log-findable c.requires.log_task

pub overflow_add-end : goal.overflow_add-end
overflow_add-end c =
    omega (arith, objects-few c.requires.log_task c.read_tuple-objects.ensures c.find.ensures c.in_ok-a.was)

pub slice_bounds-replay-end : goal.slice_bounds-replay-end
slice_bounds-replay-end c =
    objects-room c.requires.log_task c.read_tuple-objects.ensures c.find.ensures c.in_ok-a.was

pub replay-requires : goal.replay-requires
replay-requires c =
    carry-movable c.requires.log_task c.read_tuple-objects.ensures c.find.ensures c.in_ok-a.was

pub returns : goal.returns
returns c =
    carry-done c.requires.log_task c.read_tuple-objects.ensures c.find.ensures c.in_ok-a.was
    c.replay.ensures

pub returns-in_err-a : goal.returns-in_err-a
returns-in_err-a c =
    let p = err_from_is_err_and c.from_residual.result c.from_residual.ensures.1 in
    rw (p.1, p.2) (carry-refused c.requires.log_task c.read_tuple-objects.ensures c.find.ensures c.in_err-a.was)
