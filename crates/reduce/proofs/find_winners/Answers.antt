use lib.Dec.{lit≤}
use native.Mathlib.Omega.{arith}
use Rattle.reduce.proofs.WinningLaws.{win-tabling, all-some, win-searching, win-standing, win_done}
use Rattle.reduce.proofs.find_winners.Goals as goal

pub fill_facts-requires : goal.fill_facts-requires
fill_facts-requires c =
    win-tabling c.requires 1024 (lit≤ tt)

pub overflow_sub-all : goal.overflow_sub-all
overflow_sub-all c =
    omega (arith, all-some c.requires)

pub returns : goal.returns
returns c =
    win_done c.requires c.fill_facts.ensures c.find_leaves.ensures c.visit.ensures

pub visit-requires-clause-searching : goal.visit-requires-clause-searching
visit-requires-clause-searching c =
    win-searching c.requires c.fill_facts.ensures c.find_leaves.ensures 1024 (lit≤ tt) c.fill_facts.auto.facts

pub visit-requires-clause-standing : goal.visit-requires-clause-standing
visit-requires-clause-standing c = win-standing c.requires c.fill_facts.ensures c.find_leaves.ensures
