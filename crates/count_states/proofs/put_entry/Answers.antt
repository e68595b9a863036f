use Rattle.count_states.specs.Table.{put_entry}
use native.Mathlib.Omega.{arith}
use lib.ListN.{length-set}
use borrow.Author.Rules.{rules}
use Rattle.count_states.proofs.put_entry.Goals as goal

pub bounds-table-i-2 : goal.bounds-table-i-2
bounds-table-i-2 c =
    simp length-set (omega arith)

pub returns : goal.returns
unfolding put_entry
returns c =
    search rules
