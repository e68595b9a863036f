use borrow.Author.Rules.{rules}
use Rattle.matcher.proofs.SomeWayLaws.{ways-no}
use Rattle.matcher.proofs.have_ways.Goals as goal

pub returns-then-not-has_way : goal.returns-then-not-has_way
returns-then-not-has_way c =
    search (rules, ways-no)
