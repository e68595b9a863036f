use Rattle.matcher.specs.Search.{Placing}
use Rattle.matcher.proofs.first_places.Given as goal

abbrev pub invariant-loop-m : goal.invariant-loop-m
invariant-loop-m l = Placing l.ord l.initial.tab l.tab l.m
