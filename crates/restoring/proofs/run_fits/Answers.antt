use Rattle.restoring.proofs.TestLaws.{run_none, run_long, run-rest, scale-some, scale-few}
use native.Mathlib.Omega.{arith}
use lib.Seq.{length-take-le}
use mathlib.Core.Path.{sym}
use Rattle.std.proofs.lemmas.Bool.{not_from_false}
use Rattle.std.proofs.lemmas.Bool.{not_from_true}
use Rattle.restoring.proofs.run_fits.Goals as goal

pub slice_bounds-is_value-end : goal.slice_bounds-is_value-end
slice_bounds-is_value-end c =
    sym (length-take-le _ _ c.requires.rows_in_bounds)

pub returns-then-not-is_value : goal.returns-then-not-is_value
returns-then-not-is_value c =
    run_none _ _ _ _ c.is_value.ensures (not_from_false _ c.if-not-is_value.true)

pub returns-then-steps-gt-STEPS : goal.returns-then-steps-gt-STEPS
returns-then-steps-gt-STEPS c =
    run_long _ _ _ _ c.is_value.ensures (not_from_true _ c.if-not-is_value.false) c.if-steps-gt-STEPS.true

pub overflow_mul-h : goal.overflow_mul-h
overflow_mul-h c =
    omega (arith, scale-few c.args.h c.requires.h_value)

pub is_power-requires : goal.is_power-requires
is_power-requires c =
    scale-some c.args.h c.requires.h_value

pub returns : goal.returns
returns c =
    run-rest _ _ _ _ c.is_value.ensures (not_from_true _ c.if-not-is_value.false) c.if-steps-gt-STEPS.false c.is_power.ensures
