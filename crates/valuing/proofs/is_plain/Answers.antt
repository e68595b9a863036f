use Prim.Native.Nat.{ℕ}
use lib.ListN.{length-replicate}
use Rattle.label.specs.Limits.{term_end}
use Rattle.diagram.specs.ListingValid.{listing-is-valid}
use Rattle.valuing.proofs.CheckLaws.{plain-marks}
use Rattle.valuing.proofs.is_plain.Goals as goal

pub used-requires-clause-valid : goal.used-requires-clause-valid
used-requires-clause-valid c =
    listing-is-valid _ _ c.requires

pub used-requires-clause-marks_len : goal.used-requires-clause-marks_len
used-requires-clause-marks_len c =
    length-replicate {A = ℕ} term_end 0

pub returns : goal.returns
returns c =
    search plain-marks
