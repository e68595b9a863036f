use borrow.Author.Rules.{rules}
use Rattle.matcher.proofs.BindLaws.{binding-start, binding-fails, binding-next}
use Rattle.matcher.proofs.bind.Goals as goal

pub loop-k-init : goal.loop-k-init
loop-k-init c =
    binding-start _ _ _ _ _

pub returns-then-not-place : goal.returns-then-not-place
returns-then-not-place c =
    search (rules, binding-fails)

pub loop-k-preserved : goal.loop-k-preserved
loop-k-preserved c =
    search (rules, binding-next)
