use Rattle.diagram_lines.proofs.TruthLaws.{lower-room, lower_long, lower-valid, lower_high, lower-low}
use borrow.Author.Rules.{rules}
use Rattle.diagram_lines.proofs.lower.Goals as goal

pub overflow_mul-rows : goal.overflow_mul-rows
overflow_mul-rows c =
    let h = lower-room c.requires c.in_ok-rows.was in search rules

pub slice_bounds-has_high_leaf-end : goal.slice_bounds-has_high_leaf-end
slice_bounds-has_high_leaf-end c =
    lower_long c.requires c.in_ok-rows.was

pub has_high_leaf-requires : goal.has_high_leaf-requires
has_high_leaf-requires c =
    lower-valid c.requires c.in_ok-rows.was

pub returns-then-has_high_leaf : goal.returns-then-has_high_leaf
returns-then-has_high_leaf c =
    lower_high _ c.in_ok-rows.was c.has_high_leaf.ensures c.if-has_high_leaf.true

pub returns : goal.returns
returns c =
    lower-low _ c.in_ok-rows.was c.has_high_leaf.ensures c.if-has_high_leaf.false
