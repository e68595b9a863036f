use native.Mathlib.Omega.{arith}
use Rattle.fact_index.specs.SearchLaws.{chain_head, chain-start, chain-row, chain_link, chain-less, chain-hit, chain-on, chain-none}
use Rattle.valuing.proofs.FactLaws.{asks}
use Rattle.valuing.proofs.indexed.Goals as goal

pub offset_bounds-index-bucket : goal.offset_bounds-index-bucket
offset_bounds-index-bucket c =
    omega (arith, chain_head (asks c.requires))

pub bounds-index-bucket : goal.bounds-index-bucket
bounds-index-bucket c =
    chain_head (asks c.requires)

pub loop-at-init : goal.loop-at-init
loop-at-init c =
    chain-start (asks c.requires)

pub row_says-requires-clause-fact_words_in_bounds : goal.row_says-requires-clause-fact_words_in_bounds
row_says-requires-clause-fact_words_in_bounds c =
    search chain-row

pub returns-then-row_says : goal.returns-then-row_says
returns-then-row_says c =
    search chain-hit

pub bounds-index-i : goal.bounds-index-i
bounds-index-i c =
    search chain_link

pub loop-at-smaller : goal.loop-at-smaller
loop-at-smaller c =
    search chain-less

pub loop-at-preserved : goal.loop-at-preserved
loop-at-preserved c =
    search chain-on

pub returns : goal.returns
returns c =
    search chain-none
