use lib.ListN.{length-set}
use Rattle.facts.proofs.FactLaws.{tell-name, tell-room, tell-arity, tell-range, tell-done}
use borrow.Author.Rules.{rules}
use Rattle.facts.proofs.tell.Goals as goal

pub returns-then-i-n : goal.returns-then-i-n
returns-then-i-n c =
    search tell-name

pub bounds-arities-p : goal.bounds-arities-p
bounds-arities-p c =
    search tell-room

pub returns-then-o-arities : goal.returns-then-o-arities
returns-then-o-arities c =
    search tell-arity

pub note-requires-clause-row_len : goal.note-requires-clause-row_len
note-requires-clause-row_len c =
    simp length-set (search rules)

pub returns-then-o : goal.returns-then-o
returns-then-o c =
    search tell-done

pub returns : goal.returns
returns c =
    search tell-range
