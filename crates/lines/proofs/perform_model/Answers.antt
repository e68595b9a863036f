use borrow.Enum.Refused.{opened}
use Rattle.lines.proofs.KindLaws.{none-of-model}
use Rattle.lines.proofs.AnswerLaws.{ready-as, constant-answers, predicate-answers, total-answers, discount-answers, reward-answers, action-answers}
use Rattle.lines.proofs.AnswerLaws.{variant-answers, becomes-answers}
use Rattle.declaration_lines.specs.LineLaws.{for-constant, for-predicate, for-total, for-discount, for-action}
use Rattle.diagram_lines.specs.ReadyLaws.{reward-ready, variant-ready, becomes-ready}
use Rattle.lines.proofs.perform_model.Goals as goal

pub constant-requires : goal.constant-requires
constant-requires c =
    for-constant (ready-as c.in-Constant.is c.requires.model_ready.ready)

pub predicate-requires : goal.predicate-requires
predicate-requires c =
    for-predicate (ready-as c.in-Predicate.is c.requires.model_ready.ready)

pub total-requires : goal.total-requires
total-requires c =
    for-total (ready-as c.in-Total.is c.requires.model_ready.ready)

pub discount-requires : goal.discount-requires
discount-requires c =
    for-discount (ready-as c.in-Discount.is c.requires.model_ready.ready)

pub reward-requires : goal.reward-requires
reward-requires c =
    reward-ready (ready-as c.in-Reward.is c.requires.model_ready.ready) c.requires.work_words_in_bounds

pub action-requires : goal.action-requires
action-requires c =
    for-action (ready-as c.in-Action.is c.requires.model_ready.ready) c.requires.work_words_in_bounds

pub variant-requires : goal.variant-requires
variant-requires c =
    variant-ready (ready-as c.in-Variant.is c.requires.model_ready.ready) c.requires.work_words_in_bounds

pub becomes-requires : goal.becomes-requires
becomes-requires c =
    becomes-ready (ready-as c.in-Becomes.is c.requires.model_ready.ready) c.requires.work_words_in_bounds

pub returns-in-Constant : goal.returns-in-Constant
returns-in-Constant c =
    record { says = λ state value h. constant-answers _ h c.in-Constant.is c.constant.ensures }

pub returns-in-Predicate : goal.returns-in-Predicate
returns-in-Predicate c =
    record { says = λ state value h. predicate-answers _ h c.in-Predicate.is c.predicate.ensures }

pub returns-in-Total : goal.returns-in-Total
returns-in-Total c =
    record { says = λ state value h. total-answers _ h c.in-Total.is c.total.ensures }

pub returns-in-Discount : goal.returns-in-Discount
returns-in-Discount c =
    record { says = λ state value h. discount-answers _ h c.in-Discount.is c.discount.ensures }

pub returns-in-Reward : goal.returns-in-Reward
returns-in-Reward c =
    record { says = λ state value h. reward-answers _ h c.in-Reward.is c.reward.ensures }

pub returns-in-Action : goal.returns-in-Action
returns-in-Action c =
    record { says = λ state value h. action-answers _ h c.in-Action.is c.action.ensures }

pub returns-in-Variant : goal.returns-in-Variant
returns-in-Variant c =
    record { says = λ state value h. variant-answers _ h c.in-Variant.is c.variant.ensures }

pub returns-in-Becomes : goal.returns-in-Becomes
returns-in-Becomes c =
    record { says = λ state value h. becomes-answers _ h c.in-Becomes.is c.becomes.ensures }

pub returns-in_default : goal.returns-in_default
returns-in_default c =
    absurd (none-of-model c.args.kind c.requires.kind_value (opened c.in_default.in_default-own.keys9))
