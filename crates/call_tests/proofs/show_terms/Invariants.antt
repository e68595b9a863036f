use Rattle.call_tests.proofs.show_terms.Given as goal

abbrev pub decreases-loop-unit : goal.decreases-loop-unit
decreases-loop-unit g l = l.unit
