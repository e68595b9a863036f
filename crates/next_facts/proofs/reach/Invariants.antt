use mathlib.Core.Path.{◌≡◌}
use lib.ListN.{length}
use Rattle.next_facts.proofs.MarkLaws.{Marking}
use Rattle.next_facts.proofs.reach.Given as goal

abbrev pub invariant-loop-i : goal.invariant-loop-i
invariant-loop-i l = (length l.marks ≡ length l.initial.marks) × Marking l.arities l.facts l.words l.env l.marks l.i
