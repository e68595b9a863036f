use Rattle.freeing.proofs.FreeLaws.{task-valid, own-unbound, own-variables, own-freeable, own-done}
use borrow.Author.Rules.{rules}
use Rattle.freeing.proofs.free_checked.Goals as goal

pub used-requires-clause-valid : goal.used-requires-clause-valid
used-requires-clause-valid c =
    task-valid c.requires

pub returns-then-any_set : goal.returns-then-any_set
returns-then-any_set c =
    own-unbound c.requires c.used.ensures c.any_set.ensures c.if-any_set.true

pub returns-then-any_set-2 : goal.returns-then-any_set-2
returns-then-any_set-2 c =
    own-variables c.requires c.used.ensures c.any_set.ensures c.if-any_set.false c.any_set-2.ensures c.if-any_set-2.true

pub write_freed-requires-clause-freeable : goal.write_freed-requires-clause-freeable
write_freed-requires-clause-freeable c =
    search (rules, task-valid, own-unbound, own-variables, own-freeable, own-done)

pub returns : goal.returns
returns c =
    own-done c.requires c.used.ensures c.any_set.ensures c.if-any_set.false c.any_set-2.ensures c.if-any_set-2.false
    c.write_freed.ensures
