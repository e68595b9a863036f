use Rattle.diagram_lines.proofs.BecomesLaws.{becomes-unopened, becomes-declared, becomes-refused, becomes-room, becomes-some, becomes-place, becomes-accepted}
use Rattle.diagram_lines.proofs.becomes.Goals as goal

pub read_truth-built-requires-clause-lent : goal.read_truth-built-requires-clause-lent
read_truth-built-requires-clause-lent c =
    c.requires.lent

pub read_truth-built-requires-clause-p_lt_predicate_count : goal.read_truth-built-requires-clause-p_lt_predicate_count
read_truth-built-requires-clause-p_lt_predicate_count c =
    becomes-declared c.args.line.now _ _ _ c.args.listings.now _ c.open_truth-opened.ensures c.in-Ok.is c.requires.lent.vocabulary

pub add_truth-head-requires-clause-rows_room : goal.add_truth-head-requires-clause-rows_room
add_truth-head-requires-clause-rows_room c =
    becomes-room _ _ _ _ _ _ c.open_truth-opened.ensures c.in-Ok.is c.read_truth-built.ensures c.requires c.in-Ok-built.is

pub add_truth-head-requires-clause-rows_nonzero : goal.add_truth-head-requires-clause-rows_nonzero
add_truth-head-requires-clause-rows_nonzero c =
    becomes-some _ _ _ _ _ _ c.open_truth-opened.ensures c.in-Ok.is c.read_truth-built.ensures c.requires c.in-Ok-built.is

pub add_truth-head-requires-clause-truth_room : goal.add_truth-head-requires-clause-truth_room
add_truth-head-requires-clause-truth_room c =
    becomes-place _ _ _ _ _ _ c.open_truth-opened.ensures c.in-Ok.is c.read_truth-built.ensures c.requires c.in-Ok-built.is

pub returns-in-Err : goal.returns-in-Err
returns-in-Err c =
    becomes-unopened _ _ _ _ _ _ c.open_truth-opened.ensures _ c.in-Err.is

pub returns-in-Err-built : goal.returns-in-Err-built
returns-in-Err-built c =
    becomes-refused _ _ _ _ _ _ c.open_truth-opened.ensures c.in-Ok.is c.read_truth-built.ensures _ c.in-Err-built.is

pub returns-in-Ok-built : goal.returns-in-Ok-built
returns-in-Ok-built c =
    becomes-accepted _ _ _ _ _ _ c.open_truth-opened.ensures c.in-Ok.is c.read_truth-built.ensures c.requires c.in-Ok-built.is
    c.add_truth-head.ensures c.add_truth-head.auto.listings _
