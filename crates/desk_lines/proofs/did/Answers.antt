use Rattle.text.specs.declared.Kind.TheVariants.{Did}
use Rattle.memory.specs.WordLaws.{second-in}
use Rattle.desk_lines.proofs.DidLaws.{third-in, did-done, did-refused}
use Rattle.desk_lines.proofs.did.Goals as goal

pub next_event-second-requires : goal.next_event-second-requires
next_event-second-requires c =
    search (second-in Did)

pub carry_out-requires-clause-at_in_bounds : goal.carry_out-requires-clause-at_in_bounds
carry_out-requires-clause-at_in_bounds c =
    third-in _ (second-in Did _ c.first_word.ensures c.next_event-first.ensures c.requires.begins) c.next_event-second.ensures

pub carry_out-requires-clause-line_len_bound : goal.carry_out-requires-clause-line_len_bound
carry_out-requires-clause-line_len_bound c =
    c.requires.ends

pub carry_out-requires-clause-log_task : goal.carry_out-requires-clause-log_task
carry_out-requires-clause-log_task c =
    c.requires.log

pub returns-in-Ok : goal.returns-in-Ok
returns-in-Ok c =
    did-done _ _ _ _ _ _ _ c.first_word.ensures c.next_event-first.ensures c.key_in-action.ensures c.next_event-second.ensures
    c.key_in-variant.ensures c.carry_out.ensures c.in-Ok.is c.moved.ensures

pub returns-in-Err : goal.returns-in-Err
returns-in-Err c =
    did-refused _ _ _ _ _ _ _ c.first_word.ensures c.next_event-first.ensures c.key_in-action.ensures c.next_event-second.ensures
    c.key_in-variant.ensures c.carry_out.ensures c.in-Err.is
