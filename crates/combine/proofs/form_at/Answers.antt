use Rattle.combine.proofs.FormLaws.{branch-children}
use Rattle.combine.proofs.FormLaws.{branch-out, high-entry, leaf-out, low-entry}
use Rattle.combine.proofs.form_at.Goals as goal

pub returns-then-label : goal.returns-then-label
returns-then-label c =
    search leaf-out

pub second_at-high-requires : goal.second_at-high-requires
second_at-high-requires c =
    search high-entry

pub second_at-low-requires : goal.second_at-low-requires
second_at-low-requires c =
    search low-entry

pub branch-space-requires-clause-children : goal.branch-space-requires-clause-children
branch-space-requires-clause-children c =
    search branch-children

pub returns : goal.returns
returns c =
    search branch-out
