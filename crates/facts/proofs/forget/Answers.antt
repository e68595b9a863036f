use Rattle.facts.proofs.IndexLaws.{forget-none, forget-rows}
use Rattle.facts.proofs.forget.Goals as goal

pub returns-then-live-eq0 : goal.returns-then-live-eq0
returns-then-live-eq0 c =
    search forget-none

pub unindex-requires-clause-indexed : goal.unindex-requires-clause-indexed
unindex-requires-clause-indexed c =
    search forget-rows
