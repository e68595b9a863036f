use native.Mathlib.Omega.{arith}
use Rattle.declare.proofs.TableLaws.{discount-none, discount-over, discount-some}
use Rattle.declare.proofs.is_discount.Goals as goal
use Rattle.declare.proofs.is_discount.Goals.{then-d-ne0, else-d-ne0}

pub returns-then-d-le-DENOMINATOR : goal.returns-then-d-le-DENOMINATOR
returns-then-d-le-DENOMINATOR c =
    search discount-some

pub returns-else-d-le-DENOMINATOR : goal.returns-else-d-le-DENOMINATOR
returns-else-d-le-DENOMINATOR c =
    elim c.if-d-ne0.branch [
      | then-d-ne0 w ↦ discount-over _ _ w.if-d-ne0.true (omega arith) w.t-4-is
      | else-d-ne0 w ↦ search discount-none
    ]
