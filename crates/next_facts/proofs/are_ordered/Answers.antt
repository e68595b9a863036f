use native.Mathlib.Omega.{arith}
use Rattle.next_facts.proofs.KeepLaws.{ordering-start, ordering-back, ordering-read, ordering-ask, ordering-on, ordering-end, never}
use Rattle.std.proofs.lemmas.Bool.{not_from_true}
use Rattle.next_facts.proofs.are_ordered.Goals as goal

pub loop-i-init : goal.loop-i-init
loop-i-init c =
    search ordering-start

pub overflow_sub-a : goal.overflow_sub-a
overflow_sub-a c =
    omega (arith, ordering-back c.loop-i.invariant c.loop-i-test.true)

pub offset_bounds-facts-a : goal.offset_bounds-facts-a
offset_bounds-facts-a c =
    omega (arith, ordering-read c.loop-i.invariant c.loop-i-test.true)

pub bounds-facts-a : goal.bounds-facts-a
bounds-facts-a c =
    search ordering-read

pub returns-then-not-is_lower : goal.returns-then-not-is_lower
returns-then-not-is_lower c =
    λ e. never e

pub loop-i-preserved : goal.loop-i-preserved
loop-i-preserved c =
    ordering-on c.loop-i.invariant c.loop-i-test.true c.word_at-k.ensures
    c.is_lower.ensures (not_from_true _ c.if-not-is_lower.false)

pub returns : goal.returns
returns c =
    ordering-end c.loop-i.invariant c.loop-i-test.false

pub is_lower-requires-clause-k_le_most_places : goal.is_lower-requires-clause-k_le_most_places
is_lower-requires-clause-k_le_most_places c = (ordering-ask c.loop-i.invariant c.loop-i-test.true c.word_at-k.ensures).2
