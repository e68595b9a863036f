use Rattle.next_facts.proofs.CallLaws.{walk-read, walk-fillable, walk-filled}
use Rattle.next_facts.proofs.fill_by.Goals as goal

pub bounds-arities-p : goal.bounds-arities-p
bounds-arities-p c =
    walk-read c.requires

pub fill-requires : goal.fill-requires
fill-requires c =
    walk-fillable c.requires c.start.ensures

pub returns : goal.returns
returns c =
    walk-filled _ _ _ _ _ c.start.ensures c.fill.ensures
