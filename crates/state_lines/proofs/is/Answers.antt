use Rattle.memory.specs.WordLaws.{second-in}
use Rattle.text.specs.declared.Kind.TheVariants.{Is}
use Rattle.state_lines.proofs.SaysLaws.{is-done, is-refused}
use Rattle.state_lines.proofs.is.Goals as goal

pub next_event-second-requires : goal.next_event-second-requires
next_event-second-requires c =
    search (second-in Is)

pub returns-in-Ok : goal.returns-in-Ok
returns-in-Ok c =
    search is-done

pub returns-in-Err : goal.returns-in-Err
returns-in-Err c =
    search is-refused
