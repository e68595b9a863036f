use Rattle.session.proofs.rule_of.Goals as goal

pub returns-in-Constant : goal.returns-in-Constant
returns-in-Constant c =
    rw (c.in-Constant.is, c.in-Model.is)

pub returns-in-Predicate : goal.returns-in-Predicate
returns-in-Predicate c =
    rw (c.in-Predicate.is, c.in-Model.is)

pub returns-in-Total : goal.returns-in-Total
returns-in-Total c =
    rw (c.in-Total.is, c.in-Model.is)

pub returns-in-Discount : goal.returns-in-Discount
returns-in-Discount c =
    rw (c.in-Discount.is, c.in-Model.is)

pub returns-in-Reward : goal.returns-in-Reward
returns-in-Reward c =
    rw (c.in-Reward.is, c.in-Model.is)

pub returns-in-Action : goal.returns-in-Action
returns-in-Action c =
    rw (c.in-Action.is, c.in-Model.is)

pub returns-in-Variant : goal.returns-in-Variant
returns-in-Variant c =
    rw (c.in-Variant.is, c.in-Model.is)

pub returns-in-Becomes : goal.returns-in-Becomes
returns-in-Becomes c =
    rw (c.in-Becomes.is, c.in-Model.is)

pub returns-in-Start : goal.returns-in-Start
returns-in-Start c =
    rw (c.in-Start.is, c.in-Model.is)

pub returns-in-Objects : goal.returns-in-Objects
returns-in-Objects c =
    rw (c.in-Objects.is, c.in-Model.is)

pub returns-in-Is : goal.returns-in-Is
returns-in-Is c =
    rw (c.in-Is.is, c.in-Model.is)

pub returns-in-True : goal.returns-in-True
returns-in-True c =
    rw (c.in-True.is, c.in-Model.is)

pub returns-in-Value : goal.returns-in-Value
returns-in-Value c =
    rw (c.in-Value.is, c.in-Model.is)

pub returns-in-Backup : goal.returns-in-Backup
returns-in-Backup c =
    rw (c.in-Backup.is, c.in-Model.is)

pub returns-in-Cut : goal.returns-in-Cut
returns-in-Cut c =
    rw (c.in-Cut.is, c.in-Model.is)

pub returns-in-Show : goal.returns-in-Show
returns-in-Show c =
    rw (c.in-Show.is, c.in-Model.is)

pub returns-in-Reduce : goal.returns-in-Reduce
returns-in-Reduce c =
    rw (c.in-Reduce.is, c.in-Model.is)

pub returns-in-Text : goal.returns-in-Text
returns-in-Text c =
    rw (c.in-Text.is, c.in-Model.is)

pub returns-in-Best : goal.returns-in-Best
returns-in-Best c =
    rw (c.in-Best.is, c.in-Model.is)

pub returns-in-Count : goal.returns-in-Count
returns-in-Count c =
    rw (c.in-Count.is, c.in-Model.is)

pub returns-in-Did : goal.returns-in-Did
returns-in-Did c =
    rw (c.in-Did.is, c.in-Model.is)

pub returns-in-Bad : goal.returns-in-Bad
returns-in-Bad c =
    rw (c.in-Bad.is, c.in-Model.is)

pub returns-in-Constant-kind : goal.returns-in-Constant-kind
returns-in-Constant-kind c =
    rw (c.in-Constant-kind.is, c.in-Run.is)

pub returns-in-Predicate-kind : goal.returns-in-Predicate-kind
returns-in-Predicate-kind c =
    rw (c.in-Predicate-kind.is, c.in-Run.is)

pub returns-in-Total-kind : goal.returns-in-Total-kind
returns-in-Total-kind c =
    rw (c.in-Total-kind.is, c.in-Run.is)

pub returns-in-Discount-kind : goal.returns-in-Discount-kind
returns-in-Discount-kind c =
    rw (c.in-Discount-kind.is, c.in-Run.is)

pub returns-in-Reward-kind : goal.returns-in-Reward-kind
returns-in-Reward-kind c =
    rw (c.in-Reward-kind.is, c.in-Run.is)

pub returns-in-Action-kind : goal.returns-in-Action-kind
returns-in-Action-kind c =
    rw (c.in-Action-kind.is, c.in-Run.is)

pub returns-in-Variant-kind : goal.returns-in-Variant-kind
returns-in-Variant-kind c =
    rw (c.in-Variant-kind.is, c.in-Run.is)

pub returns-in-Becomes-kind : goal.returns-in-Becomes-kind
returns-in-Becomes-kind c =
    rw (c.in-Becomes-kind.is, c.in-Run.is)

pub returns-in-Start-kind : goal.returns-in-Start-kind
returns-in-Start-kind c =
    rw (c.in-Start-kind.is, c.in-Run.is)

pub returns-in-Objects-kind : goal.returns-in-Objects-kind
returns-in-Objects-kind c =
    rw (c.in-Objects-kind.is, c.in-Run.is)

pub returns-in-Is-kind : goal.returns-in-Is-kind
returns-in-Is-kind c =
    rw (c.in-Is-kind.is, c.in-Run.is)

pub returns-in-True-kind : goal.returns-in-True-kind
returns-in-True-kind c =
    rw (c.in-True-kind.is, c.in-Run.is)

pub returns-in-Value-kind : goal.returns-in-Value-kind
returns-in-Value-kind c =
    rw (c.in-Value-kind.is, c.in-Run.is)

pub returns-in-Backup-kind : goal.returns-in-Backup-kind
returns-in-Backup-kind c =
    rw (c.in-Backup-kind.is, c.in-Run.is)

pub returns-in-Cut-kind : goal.returns-in-Cut-kind
returns-in-Cut-kind c =
    rw (c.in-Cut-kind.is, c.in-Run.is)

pub returns-in-Show-kind : goal.returns-in-Show-kind
returns-in-Show-kind c =
    rw (c.in-Show-kind.is, c.in-Run.is)

pub returns-in-Reduce-kind : goal.returns-in-Reduce-kind
returns-in-Reduce-kind c =
    rw (c.in-Reduce-kind.is, c.in-Run.is)

pub returns-in-Text-kind : goal.returns-in-Text-kind
returns-in-Text-kind c =
    rw (c.in-Text-kind.is, c.in-Run.is)

pub returns-in-Best-kind : goal.returns-in-Best-kind
returns-in-Best-kind c =
    rw (c.in-Best-kind.is, c.in-Run.is)

pub returns-in-Count-kind : goal.returns-in-Count-kind
returns-in-Count-kind c =
    rw (c.in-Count-kind.is, c.in-Run.is)

pub returns-in-Did-kind : goal.returns-in-Did-kind
returns-in-Did-kind c =
    rw (c.in-Did-kind.is, c.in-Run.is)

pub returns-in-Bad-kind : goal.returns-in-Bad-kind
returns-in-Bad-kind c =
    rw (c.in-Bad-kind.is, c.in-Run.is)
