use mathlib.Core.Path.{refl}
use Rattle.count_states.proofs.StateLaws.{facts-prepared}
use Rattle.count_states.proofs.value_facts.Goals as goal

pub climb-r-requires-clause-prepared : goal.climb-r-requires-clause-prepared
climb-r-requires-clause-prepared c =
    search facts-prepared

pub climb-r-requires-clause-objects_value : goal.climb-r-requires-clause-objects_value
climb-r-requires-clause-objects_value c =
    refl
