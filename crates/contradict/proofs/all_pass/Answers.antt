use Rattle.contradict.proofs.PathLaws.{passed_none, path-small, path-route, passed-more, passed-stop, passed-all}
use borrow.Author.Rules.{rules}
use Rattle.contradict.proofs.all_pass.Goals as goal

pub returns-then-not-passes : goal.returns-then-not-passes
returns-then-not-passes c =
    search (rules, passed_none, path-small, path-route, passed-more, passed-stop, passed-all)

pub returns : goal.returns
returns c =
    passed-all c.requires c.args.w c.loop-k.invariant c.loop-k-test.false
