use Rattle.facts.proofs.FactLaws.{look-start, look-head, look-row, look-link, look-less, look_hit, look-on, look_none}
use Rattle.facts.proofs.is_fact.Goals as goal

pub bounds-index-bucket : goal.bounds-index-bucket
bounds-index-bucket c =
    search look-head

pub loop-at-init : goal.loop-at-init
loop-at-init c =
    search look-start

pub row_is-requires-clause-fact_words_in_bounds : goal.row_is-requires-clause-fact_words_in_bounds
row_is-requires-clause-fact_words_in_bounds c =
    search look-row

pub returns-then-row_is : goal.returns-then-row_is
returns-then-row_is c =
    search look_hit

pub bounds-index-i : goal.bounds-index-i
bounds-index-i c =
    search look-link

pub loop-at-smaller : goal.loop-at-smaller
loop-at-smaller c =
    search look-less

pub loop-at-preserved : goal.loop-at-preserved
loop-at-preserved c =
    search look-on

pub returns : goal.returns
returns c =
    search look_none
