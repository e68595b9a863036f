use mathlib.Core.Path.{◌∙◌}
use Rattle.facts.proofs.TupleLaws.{count-start, count-out, count-end, count-on, count-shrinks, count-row, count-few}
use borrow.Author.Rules.{rules}
use Rattle.facts.proofs.read_tuple.Goals as goal

pub loop-place-init : goal.loop-place-init
loop-place-init c =
    (search rules, search count-start)

pub returns-then-is_end : goal.returns-then-is_end
returns-then-is_end c =
    search count-end

pub keep-requires : goal.keep-requires
keep-requires c =
    search count-row

pub add-t-requires : goal.add-t-requires
add-t-requires c =
    search count-few

pub loop-place-smaller : goal.loop-place-smaller
loop-place-smaller c =
    search count-shrinks

pub loop-place-preserved : goal.loop-place-preserved
loop-place-preserved c =
    (c.keep.auto.row ∙ c.loop-place.invariant.0, search count-on)

pub returns : goal.returns
returns c =
    search count-out
