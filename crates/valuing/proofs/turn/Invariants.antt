use mathlib.Core.Path.{◌≡◌}
use lib.ListN.{length}
use Rattle.valuing.specs.Rising.{turned}
use Rattle.valuing.proofs.StartLaws.{Topped}
use Rattle.valuing.proofs.turn.Given as goal

abbrev pub invariant-loop-i : goal.invariant-loop-i
invariant-loop-i l = (length l.low ≡ length l.initial.low) × Topped (turned l.best) l.words l.low l.i
