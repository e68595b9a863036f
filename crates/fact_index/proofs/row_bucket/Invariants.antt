use Prim.Native.Nat.{◌*◌}
use lib.ListN.{get_or}
use Rattle.state.specs.Lent.{fact_words}
use Rattle.fact_index.specs.Inner.{object_at}
use Rattle.fact_index.specs.IndexLaws.{Hashing}
use Rattle.fact_index.proofs.row_bucket.Given as goal

abbrev pub invariant-loop-j : goal.invariant-loop-j
invariant-loop-j l = Hashing (get_or l.facts (l.i * fact_words) 0) (object_at l.facts l.i) l.j l.h
