use borrow.Author.Rules.{rules}
use Rattle.regress.proofs.TruthLaws.{arguing-start, arguing-room, arguing-on, arguing-end}
use Rattle.regress.proofs.argument_map.Goals as goal

pub offset_bounds-arities-p : goal.offset_bounds-arities-p
offset_bounds-arities-p c =
    let p = arguing-room c.requires c.predicate-p.ensures in search rules

pub bounds-arities-p : goal.bounds-arities-p
bounds-arities-p c =
    arguing-room c.requires c.predicate-p.ensures

pub loop-t-init : goal.loop-t-init
loop-t-init c =
    (search rules, search arguing-start)

pub loop-t-preserved : goal.loop-t-preserved
loop-t-preserved c =
    (search rules, search arguing-on)

pub returns : goal.returns
returns c =
    search arguing-end
