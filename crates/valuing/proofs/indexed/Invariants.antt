use Rattle.fact_index.specs.SearchLaws.{Chain}
use Rattle.valuing.specs.Asking.{says}
use Rattle.valuing.proofs.indexed.Given as goal

abbrev pub invariant-loop-at : goal.invariant-loop-at
invariant-loop-at l = Chain l.facts l.index (says l.facts l.env l.l.packed l.k) l.bucket l.at

abbrev pub decreases-loop-at : goal.decreases-loop-at
decreases-loop-at l = l.at
