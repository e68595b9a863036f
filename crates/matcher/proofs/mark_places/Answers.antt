use mathlib.Core.Path.{refl}
use Rattle.matcher.specs.Search.{along}
use Rattle.matcher.proofs.MarkLaws.{places-next}
use Rattle.matcher.proofs.mark_places.Goals as goal

pub loop-k-init : goal.loop-k-init
unfolding along
loop-k-init c = refl

pub loop-k-preserved : goal.loop-k-preserved
loop-k-preserved c =
    places-next _ _ _ c.loop-k.invariant c.place-t.ensures
