use Rattle.memory.specs.WordLaws.{second-in}
use Rattle.text.specs.declared.Kind.TheVariants.{True}
use Rattle.facts.specs.WordLaws.{empty-row}
use Rattle.state_lines.proofs.SaysLaws.{true-done, true-refused}
use Rattle.state_lines.proofs.tell.Goals as goal

pub read_tuple-objects-requires-clause-at_in_bounds : goal.read_tuple-objects-requires-clause-at_in_bounds
read_tuple-objects-requires-clause-at_in_bounds c =
    search (second-in True)

pub read_tuple-objects-requires-clause-empty_row : goal.read_tuple-objects-requires-clause-empty_row
read_tuple-objects-requires-clause-empty_row c =
    empty-row

pub returns-in-Ok : goal.returns-in-Ok
returns-in-Ok c =
    true-done _ _ _ _ c.first_word.ensures c.next_event-next.ensures c.key_in-key.ensures c.read_tuple-objects.ensures c.tell.ensures
    c.in-Ok.is c.with_state.ensures

pub returns-in-Err : goal.returns-in-Err
returns-in-Err c =
    search true-refused
