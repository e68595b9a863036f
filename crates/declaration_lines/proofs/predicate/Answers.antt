use Rattle.memory.specs.WordLaws.{second-in}
use Rattle.text.specs.declared.Kind.TheVariants.{Predicate}
use Rattle.declaration_lines.proofs.SaysLaws.{predicate-done, predicate-refused}
use Rattle.declaration_lines.proofs.predicate.Goals as goal

pub next_event-second-requires : goal.next_event-second-requires
next_event-second-requires c =
    search (second-in Predicate)

pub returns-in-Ok : goal.returns-in-Ok
returns-in-Ok c =
    predicate-done _ _ c.first_word.ensures c.next_event-first.ensures
    c.key_in-key.ensures c.next_event-second.ensures c.number_in-arity.ensures
    c.predicate.ensures c.in-Ok.is c.with_tables.ensures

pub returns-in-Err : goal.returns-in-Err
returns-in-Err c =
    search predicate-refused
