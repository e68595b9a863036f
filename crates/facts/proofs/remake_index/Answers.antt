use Rattle.facts.proofs.IndexLaws.{remade-none, remade-rows}
use Rattle.facts.proofs.remake_index.Goals as goal

pub returns-then-live-eq0 : goal.returns-then-live-eq0
returns-then-live-eq0 c =
    search remade-none

pub returns : goal.returns
returns c =
    search remade-rows
