use mathlib.Core.Path.{◌≡◌}
use lib.ListN.{length}
use Rattle.valuing.proofs.StartLaws.{Topped}
use Rattle.valuing.proofs.tops.Given as goal

abbrev pub invariant-loop-i : goal.invariant-loop-i
invariant-loop-i l = (length l.high ≡ length l.initial.high) × Topped (λ x. x) l.words l.high l.i
