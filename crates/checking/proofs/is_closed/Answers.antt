use Rattle.checking.proofs.TestLaws.{closed-few, copy-closable, closed-tells}
use lib.Dec.{lit≤}
use borrow.Author.Rules.{rules}
use Rattle.diagram.specs.Sizes.{result_words}
use Rattle.checking.proofs.is_closed.Goals as goal

pub close_up-requires : goal.close_up-requires
close_up-requires c =
    copy-closable _ _ c.requires result_words (lit≤ tt) c.copy.ensures

pub begins-requires : goal.begins-requires
begins-requires c =
    let p = closed-few _ _ c.requires in search rules

pub returns : goal.returns
returns c =
    closed-tells _ _ c.requires result_words (lit≤ tt) c.copy.ensures c.close_up.ensures c.begins.ensures

pub copy-requires-clause-count_in_bounds_2 : goal.copy-requires-clause-count_in_bounds_2
copy-requires-clause-count_in_bounds_2 c =
    search (rules, closed-few, copy-closable, closed-tells)
