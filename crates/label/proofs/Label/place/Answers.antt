use mathlib.Core.Path.{refl}
use Rattle.label.specs.Labels.{place_at}
use Rattle.label.proofs.Label.place.Goals as goal

pub returns : goal.returns
unfolding place_at
returns c =
    refl
