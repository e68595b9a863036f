use Rattle.restoring.proofs.TestLaws.{reward-none, reward-empty, reward-some}
use Rattle.std.proofs.lemmas.Bool.{not_from_false}
use Rattle.std.proofs.lemmas.Bool.{not_from_true}
use Rattle.restoring.proofs.reward_fits.Goals as goal

pub returns-then-not-accepted : goal.returns-then-not-accepted
returns-then-not-accepted c =
    reward-none _ _ _ _ (not_from_false _ c.if-not-accepted.true)

pub returns-then-count-eq0 : goal.returns-then-count-eq0
returns-then-count-eq0 c =
    reward-empty _ _ _ _ (not_from_true _ c.if-not-accepted.false) c.if-count-eq0.true

pub returns : goal.returns
returns c =
    reward-some _ _ _ _ (not_from_true _ c.if-not-accepted.false) c.if-count-eq0.false c.is_value.ensures
