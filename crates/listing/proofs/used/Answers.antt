use Rattle.listing.proofs.MarkLaws.{mark-start, mark-next, mark-end}
use Rattle.listing.proofs.used.Goals as goal

pub loop-i-init : goal.loop-i-init
loop-i-init c =
    mark-start c.requires.marks_len (c.fill.ensures.after (λ y e. e))

pub loop-i-preserved : goal.loop-i-preserved
loop-i-preserved c =
    search mark-next

pub returns : goal.returns
returns c =
    search mark-end
