use Rattle.std.proofs.Common.{◌≡◌}
use Rattle.label.specs.Labels.{place_at}
use Rattle.listing.specs.Used.{marked}
use Rattle.matcher.specs.Search.{along}
use Rattle.matcher.proofs.mark_places.Given as goal

abbrev pub invariant-loop-k : goal.invariant-loop-k
invariant-loop-k l = l.marks ≡ marked (along (place_at l.l) l.k) l.initial.marks
