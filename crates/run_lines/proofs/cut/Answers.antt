use lib.Dec.{lit≤}
use Rattle.planner.proofs.HeldLaws.{replace-long, replace-copies, replace-result, cut-able, cut-wrote}
use Rattle.run_lines.proofs.CutLaws.{cut_left, cut-stays}
use Rattle.run_lines.proofs.cut.Goals as goal

pub slice_bounds-cut_checked-end-2 : goal.slice_bounds-cut_checked-end-2
slice_bounds-cut_checked-end-2 c =
    replace-long c.requires

pub cut_checked-r-requires : goal.cut_checked-r-requires
cut_checked-r-requires c =
    cut-able c.requires 3072 (lit≤ tt)

pub returns-in-Done : goal.returns-in-Done
returns-in-Done c =
    let r = c.cut_checked-r.ensures in
    let done = c.in-Done.is in
    cut_left r.value done (replace-result c.requires (cut-wrote c.requires r.value _ r.out_after done) c.copy.ensures) c.copy.auto.out c.running.ensures

pub returns-in-Refused : goal.returns-in-Refused
returns-in-Refused c =
    cut-stays c.cut_checked-r.ensures.value c.in-Refused.is

pub copy-requires : goal.copy-requires
copy-requires c =
    let h = replace-copies c.requires (cut-wrote c.requires c.cut_checked-r.ensures.value _ c.cut_checked-r.ensures.out_after c.in-Done.is) in
    record { count_in_bounds = h.0; count_in_bounds_2 = h.1 }
