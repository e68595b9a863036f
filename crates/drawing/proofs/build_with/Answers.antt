use native.Mathlib.Omega.{arith}
use Rattle.drawing.proofs.BuiltLaws.{made-roomy}
use Rattle.drawing.proofs.build_with.Goals as goal

pub build_in-requires-clause-roomy : goal.build_in-requires-clause-roomy
build_in-requires-clause-roomy g c =
    made-roomy _ _ c.requires.room (omega arith) c.requires.space_words_in_bounds

pub whole_as_slice-build_in : goal.whole_as_slice-build_in
whole_as_slice-build_in g c =
    omega arith
