use Rattle.best_move.proofs.ActionLaws.{Acting}
use Rattle.state.specs.Lent.{state_of}
use Rattle.diagram.specs.Listing.{diagram_of}
use lib.ListN.{length}
use mathlib.Core.Path.{◌≡◌}
use Rattle.best_move.proofs.try_actions.Given as goal

abbrev pub invariant-loop-a : goal.invariant-loop-a
invariant-loop-a l = (length l.work ≡ length l.initial.work) × Acting l.arities l.listings l.table l.head (state_of l.arities l.n l.constants l.facts) (diagram_of l.value) l.n l.l l.a
