use Rattle.best_move.proofs.DigitLaws.{power-room, power-on}
use Prim.Native.Nat.{ℕ, ◌^◌}
use native.Mathlib.Omega.{arith}
use mathlib.Core.Path.{ap, sym, ◌∙◌}
use native.Mathlib.Nat.{pow-zero}
use Rattle.best_move.proofs.tuple_count.Goals as goal

pub loop-k-init : goal.loop-k-init
loop-k-init c =
    (omega arith, sym (pow-zero _))

pub overflow_mul-p : goal.overflow_mul-p
overflow_mul-p c =
    omega (arith, power-room c.requires c.loop-k-test.true c.loop-k.invariant.1)

pub loop-k-preserved : goal.loop-k-preserved
loop-k-preserved c =
    (omega arith, power-on _ _ c.loop-k.invariant.1)

pub returns : goal.returns
returns c =
    c.loop-k.invariant.1 ∙ ap (λ (x : ℕ). c.args.n ^ x) (omega arith)
