use Prim.Native.Nat.{ℕ}
use lib.ListN.{length-replicate}
use Rattle.label.specs.Limits.{term_end}
use Rattle.diagram.specs.ListingValid.{listing-is-valid}
use Rattle.valuing.proofs.CheckLaws.{lent-some, few-marks, in-state}
use Rattle.valuing.proofs.value_listed.Goals as goal

pub used-requires-clause-valid : goal.used-requires-clause-valid
used-requires-clause-valid c =
    listing-is-valid _ _ c.requires.words_value

pub used-requires-clause-marks_len : goal.used-requires-clause-marks_len
used-requires-clause-marks_len c =
    length-replicate {A = ℕ} term_end 0

pub is_small-small-requires-clause-n_nonzero : goal.is_small-small-requires-clause-n_nonzero
is_small-small-requires-clause-n_nonzero c =
    search lent-some

pub value_by-requires-clause-in_state : goal.value_by-requires-clause-in_state
value_by-requires-clause-in_state c =
    in-state c.requires.words_value c.requires.facts_value c.used.ensures c.is_plain-plain.ensures

pub value_by-requires-clause-few_value : goal.value_by-requires-clause-few_value
value_by-requires-clause-few_value c =
    few-marks _ _ c.used.ensures _ c.is_small-small.ensures
