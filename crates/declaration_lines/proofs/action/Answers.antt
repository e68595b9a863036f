use Rattle.memory.specs.WordLaws.{second-in}
use Rattle.text.specs.declared.Kind.TheVariants.{Action}
use Rattle.declaration_lines.proofs.SaysLaws.{action-keys, action-fits, action-done, action-refused}
use Rattle.declaration_lines.proofs.action.Goals as goal

pub action-requires-clause-at_in_bounds : goal.action-requires-clause-at_in_bounds
action-requires-clause-at_in_bounds c =
    search (second-in Action)

pub action-requires-clause-line_in_bounds : goal.action-requires-clause-line_in_bounds
action-requires-clause-line_in_bounds c =
    search action-keys

pub add_action-head-requires : goal.add_action-head-requires
add_action-head-requires c =
    search action-fits

pub returns-in-Ok : goal.returns-in-Ok
returns-in-Ok c =
    action-done _ _ c.first_word.ensures c.next_event-next.ensures
    c.key_in-key.ensures c.action.ensures c.in-Ok.is
    c.add_action-head.ensures c.with_tables.ensures

pub returns-in-Err : goal.returns-in-Err
returns-in-Err c =
    search action-refused
