use Rattle.next_facts.proofs.StartLaws.{parameter-given, parameter-none}
use Rattle.next_facts.proofs.parameter.Goals as goal

pub returns-then-i-objects : goal.returns-then-i-objects
returns-then-i-objects c =
    search parameter-given

pub returns : goal.returns
returns c =
    search parameter-none
