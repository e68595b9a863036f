use mathlib.Core.Path.{◌≡◌}
use Prim.Native.Nat.{◌≤◌}
use lib.ListN.{length}
use Rattle.label.specs.Limits.{first_variable}
use Rattle.valuing.specs.Search.{Placing}
use Rattle.valuing.proofs.start.Given as goal

abbrev pub invariant-loop-t : goal.invariant-loop-t
invariant-loop-t l = (length l.env ≡ length l.initial.env) × (l.t ≤ first_variable) × Placing l.constants l.objects l.initial.env l.env l.t
