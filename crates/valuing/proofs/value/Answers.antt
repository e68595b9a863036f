use Prim.Native.Nat.{ℕ}
use lib.ListN.{length-replicate}
use Rattle.label.specs.Limits.{term_end}
use Rattle.valuing.proofs.CheckLaws.{value-1, value-2, value-3, value-4, state-some, few-marks, in-state, fits-listing, fits-valid, fits-state}
use Rattle.std.proofs.lemmas.Bool.{not_from_true}
use Rattle.valuing.proofs.value.Goals as goal

pub returns-then-not-check : goal.returns-then-not-check
returns-then-not-check c =
    search value-1

pub returns-then-not-state_fits : goal.returns-then-not-state_fits
returns-then-not-state_fits c =
    search value-2

pub used-requires-clause-valid : goal.used-requires-clause-valid
used-requires-clause-valid c =
    fits-valid _ _ c.check.ensures (not_from_true _ c.if-not-check.false)

pub used-requires-clause-marks_len : goal.used-requires-clause-marks_len
used-requires-clause-marks_len c =
    length-replicate {A = ℕ} term_end 0

pub returns-then-has_parameter : goal.returns-then-has_parameter
returns-then-has_parameter c =
    search value-3

pub is_small-small-requires-clause-n_nonzero : goal.is_small-small-requires-clause-n_nonzero
is_small-small-requires-clause-n_nonzero c =
    state-some _ _ _ _ c.state_fits.ensures (not_from_true _ c.if-not-state_fits.false)

pub value_by-requires : goal.value_by-requires
value_by-requires c =
    let listed = fits-listing _ _ c.check.ensures (not_from_true _ c.if-not-check.false) in
    let lent = fits-state _ _ _ _ c.state_fits.ensures (not_from_true _ c.if-not-state_fits.false) in
    record {
      in_state = in-state listed lent c.used.ensures c.is_plain-plain.ensures;
      few_value = few-marks _ _ c.used.ensures _ c.is_small-small.ensures;
    }

pub returns : goal.returns
returns c =
    search value-4
