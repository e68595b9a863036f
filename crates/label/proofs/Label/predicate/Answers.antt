use mathlib.Core.Path.{refl}
use Rattle.label.specs.Labels.{predicate_of}
use Rattle.label.proofs.Label.predicate.Goals as goal

pub returns : goal.returns
unfolding predicate_of
returns c =
    refl
