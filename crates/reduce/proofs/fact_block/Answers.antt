use lib.Dec.{lit≤}
use Rattle.label.specs.Limits.{term_end}
use Rattle.reduce.proofs.BlockLaws.{block-terms, block-done}
use Rattle.reduce.proofs.fact_block.Goals as goal

pub fact_rows-requires-clause-term_map : goal.fact_rows-requires-clause-term_map
fact_rows-requires-clause-term_map c =
    block-terms (c.requires) term_end c.objects_into.ensures c.object_map.ensures c.object_map.auto.map (lit≤ tt)

pub returns : goal.returns
returns c =
    block-done (c.requires) term_end c.objects_into.ensures c.object_map.ensures c.fact_rows.ensures
