use native.Mathlib.Omega.{arith}
use Rattle.eliminate.proofs.WorkLaws.{work-full, work-leaf, work-branching, work-sums, work-table}
use Rattle.eliminate.proofs.work_row.Goals as goal

pub returns-then-used-eq-ENTRIES : goal.returns-then-used-eq-ENTRIES
returns-then-used-eq-ENTRIES c =
    work-full c.requires _ c.if-words-i.true c.if-used-eq-ENTRIES.true

pub returns-then-words-i : goal.returns-then-words-i
returns-then-words-i c =
    work-leaf c.requires _ c.if-words-i.true c.if-used-eq-ENTRIES.false

pub branch_table-requires : goal.branch_table-requires
branch_table-requires c =
    work-branching c.requires c.if-words-i.false

pub overflow_add-result-2 : goal.overflow_add-result-2
overflow_add-result-2 c =
    omega (arith, work-sums c.requires _ c.branch_table.ensures c.in_ok-kept.was)

pub overflow_add-result-3 : goal.overflow_add-result-3
overflow_add-result-3 c =
    omega (arith, work-sums c.requires _ c.branch_table.ensures c.in_ok-kept.was)

pub returns : goal.returns
returns c =
    work-table c.requires _ c.branch_table.ensures c.in_ok-kept.was c.branch_table.auto.space c.branch_table.auto.env
