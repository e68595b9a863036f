use lib.Dec.{lit≤}
use Rattle.planner.proofs.HeldLaws.{replace-long, replace-copies, replace-result}
use Rattle.run_lines.proofs.ReduceLaws.{reduce-able, reduce-wrote, reduce-left, reduce-stays}
use Rattle.run_lines.proofs.reduce.Goals as goal

pub slice_bounds-reduce_checked-end-2 : goal.slice_bounds-reduce_checked-end-2
slice_bounds-reduce_checked-end-2 c =
    replace-long c.requires

pub reduce_checked-r-requires : goal.reduce_checked-r-requires
reduce_checked-r-requires c =
    reduce-able c.requires 3072 (lit≤ tt)

pub returns-in-Ok : goal.returns-in-Ok
returns-in-Ok c =
    reduce-left (replace-result c.requires (reduce-wrote c.requires c.reduce_checked-r.ensures c.in-Ok.is) c.copy.ensures) c.copy.auto.out c.running.ensures

pub returns-in-Err : goal.returns-in-Err
returns-in-Err c =
    reduce-stays c.reduce_checked-r.ensures.answer c.in-Err.is

pub copy-requires : goal.copy-requires
copy-requires c =
    let h = replace-copies c.requires (reduce-wrote c.requires c.reduce_checked-r.ensures c.in-Ok.is) in
    record { count_in_bounds = h.0; count_in_bounds_2 = h.1 }
