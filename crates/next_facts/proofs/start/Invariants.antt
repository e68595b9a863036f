use Prim.Native.Nat.{◌≤◌}
use Rattle.label.specs.Limits.{term_end}
use Rattle.next_facts.specs.Filling.{Begun}
use Rattle.next_facts.proofs.start.Given as goal

abbrev pub invariant-loop-t : goal.invariant-loop-t
invariant-loop-t l = (l.t ≤ term_end) × Begun l.constants l.objects l.k l.env l.t
