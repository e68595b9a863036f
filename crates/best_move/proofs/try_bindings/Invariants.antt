use Rattle.best_move.proofs.LeadLaws.{Binding}
use Rattle.state.specs.Lent.{state_of}
use Rattle.diagram.specs.Listing.{diagram_of}
use Rattle.best_move.proofs.try_bindings.Given as goal

abbrev pub invariant-loop-i : goal.invariant-loop-i
invariant-loop-i l = Binding l.arities (state_of l.arities l.n l.constants l.facts) l.action (diagram_of l.words) l.n l.count l.total l.initial.l l.l l.i
