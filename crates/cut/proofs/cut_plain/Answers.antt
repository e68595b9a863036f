use lib.Dec.{lit≤}
use Rattle.cut.proofs.CallLaws.{cut-rows, cut-some, cut-room, cut-many, cut-routed, cut-nothing, cut-writable, cut-true, cut-false}
use Rattle.cut.proofs.cut_plain.Goals as goal

pub count_paths-requires-clause-rows : goal.count_paths-requires-clause-rows
count_paths-requires-clause-rows c =
    cut-rows c.requires

pub count_paths-requires-clause-n_in_bounds : goal.count_paths-requires-clause-n_in_bounds
count_paths-requires-clause-n_in_bounds c =
    cut-room c.requires 1024 (lit≤ tt)

pub overflow_sub-m : goal.overflow_sub-m
overflow_sub-m c =
    cut-some c.requires

pub choose-requires-clause-routed : goal.choose-requires-clause-routed
choose-requires-clause-routed c =
    cut-routed (c.requires) c.count_paths.ensures c.if-m-gt-PATHS.false

pub write_left-left-requires : goal.write_left-left-requires
write_left-left-requires c =
    cut-writable (c.requires) c.count_paths.ensures c.if-m-gt-PATHS.false c.choose.ensures c.in-Some.is

pub returns-then-m-gt-PATHS-clause-value : goal.returns-then-m-gt-PATHS-clause-value
returns-then-m-gt-PATHS-clause-value c =
    (cut-many c.requires c.count_paths.ensures c.if-m-gt-PATHS.true).0

pub returns-then-m-gt-PATHS-clause-out_after : goal.returns-then-m-gt-PATHS-clause-out_after
returns-then-m-gt-PATHS-clause-out_after c =
    (cut-many c.requires c.count_paths.ensures c.if-m-gt-PATHS.true).1

pub returns-in_default-clause-value : goal.returns-in_default-clause-value
returns-in_default-clause-value c =
    (cut-nothing (c.requires) c.count_paths.ensures c.if-m-gt-PATHS.false c.choose.ensures c.in_default.is).0

pub returns-in_default-clause-out_after : goal.returns-in_default-clause-out_after
returns-in_default-clause-out_after c =
    (cut-nothing (c.requires) c.count_paths.ensures c.if-m-gt-PATHS.false c.choose.ensures c.in_default.is).1

pub returns-then-side-clause-value : goal.returns-then-side-clause-value
returns-then-side-clause-value c =
    (cut-true (c.requires) c.count_paths.ensures c.if-m-gt-PATHS.false c.choose.ensures c.in-Some.is c.write_left-left.ensures c.if-side.true).0

pub returns-then-side-clause-out_after : goal.returns-then-side-clause-out_after
returns-then-side-clause-out_after c =
    (cut-true (c.requires) c.count_paths.ensures c.if-m-gt-PATHS.false c.choose.ensures c.in-Some.is c.write_left-left.ensures c.if-side.true).1

pub returns-clause-value : goal.returns-clause-value
returns-clause-value c =
    (cut-false (c.requires) c.count_paths.ensures c.if-m-gt-PATHS.false c.choose.ensures c.in-Some.is c.write_left-left.ensures c.if-side.false).0

pub returns-clause-out_after : goal.returns-clause-out_after
returns-clause-out_after c =
    (cut-false (c.requires) c.count_paths.ensures c.if-m-gt-PATHS.false c.choose.ensures c.in-Some.is c.write_left-left.ensures c.if-side.false).1
