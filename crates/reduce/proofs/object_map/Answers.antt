use mathlib.Core.Path.{refl}
use borrow.Author.Rules.{rules}
use Rattle.reduce.proofs.TableLaws.{rank-start, map-start, map_more, map-end}
use Rattle.reduce.proofs.object_map.Goals as goal

pub loop-t-init : goal.loop-t-init
loop-t-init c =
    (refl, rank-start _, map-start _ _ _)

pub loop-t-preserved : goal.loop-t-preserved
loop-t-preserved c =
    (search rules, c.rank_after-c.ensures, search map_more)

pub returns : goal.returns
returns c =
    search map-end
