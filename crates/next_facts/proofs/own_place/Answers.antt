use Rattle.next_facts.proofs.CallLaws.{place-own, place-past}
use Rattle.next_facts.proofs.own_place.Goals as goal

pub returns-then-i-k : goal.returns-then-i-k
returns-then-i-k c =
    search place-own

pub returns : goal.returns
returns c =
    search place-past
