use Rattle.checking.proofs.TestLaws.{lacks-is}
use Rattle.diagram.specs.ListingValid.{listing-is-valid}
use mathlib.Core.Path.{refl}
use Rattle.checking.proofs.lacks.Goals as goal

pub used-requires-clause-valid : goal.used-requires-clause-valid
used-requires-clause-valid c =
    listing-is-valid _ _ c.requires.words_value

pub used-requires-clause-marks_len : goal.used-requires-clause-marks_len
used-requires-clause-marks_len c =
    refl

pub returns : goal.returns
returns c =
    lacks-is _ _ _ _ c.used.ensures c.requires.n_bound c.any_set.ensures
