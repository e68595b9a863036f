use Rattle.lines.proofs.PlaceLaws.{place-no-form, place-misplaced, place-anywhere, place-total, place-discount, place-reward}
use Rattle.lines.proofs.PlaceLaws.{place-action, place-variant, place-whole, place-objects, place-placed, place-move, place-constants}
use Rattle.lines.proofs.allowed.Goals as goal

pub returns-in-NoForm : goal.returns-in-NoForm
returns-in-NoForm c =
    search place-no-form

pub returns-in-Misplaced : goal.returns-in-Misplaced
returns-in-Misplaced c =
    search place-misplaced

pub returns-in-Anywhere : goal.returns-in-Anywhere
returns-in-Anywhere c =
    search place-anywhere

pub returns-in-OneTotal : goal.returns-in-OneTotal
returns-in-OneTotal c =
    search place-total

pub returns-in-OneDiscount : goal.returns-in-OneDiscount
returns-in-OneDiscount c =
    search place-discount

pub returns-in-OneReward : goal.returns-in-OneReward
returns-in-OneReward c =
    search place-reward

pub returns-in-AfterAction : goal.returns-in-AfterAction
returns-in-AfterAction c =
    search place-action

pub returns-in-AfterVariant : goal.returns-in-AfterVariant
returns-in-AfterVariant c =
    search place-variant

pub returns-in-WholeModel : goal.returns-in-WholeModel
returns-in-WholeModel c =
    search place-whole

pub returns-in-AfterObjects : goal.returns-in-AfterObjects
returns-in-AfterObjects c =
    search place-objects

pub returns-in-WholeState : goal.returns-in-WholeState
returns-in-WholeState c =
    search place-placed

pub returns-in-MoveState : goal.returns-in-MoveState
returns-in-MoveState c =
    search place-move

pub returns-in-Constants : goal.returns-in-Constants
returns-in-Constants c =
    search place-constants
