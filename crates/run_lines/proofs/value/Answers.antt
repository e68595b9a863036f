use Prim.Native.Nat.{◌*◌}
use Rattle.state.specs.Lent.{fact_words}
use Rattle.facts.specs.Words.{facts_base}
use Rattle.facts.specs.PartLaws.{part-lent}
use Rattle.run_lines.proofs.ValueLaws.{rows_long, constants-long, value_lent, value-indexed, value_read_lem, value-refused}
use Rattle.run_lines.proofs.value.Goals as goal

pub slice_bounds-value_indexed-end : goal.slice_bounds-value_indexed-end
slice_bounds-value_indexed-end c =
    rows_long c.requires

pub slice_bounds-value_indexed-end-2 : goal.slice_bounds-value_indexed-end-2
slice_bounds-value_indexed-end-2 c =
    constants-long c.requires

pub returns-in-Ok : goal.returns-in-Ok
returns-in-Ok c =
    value_read_lem (part-lent c.args.state.now facts_base (c.args.n.live.facts * fact_words)) c.value_indexed-v.ensures c.in-Ok.is

pub returns-in-Err : goal.returns-in-Err
returns-in-Err c =
    value-refused (part-lent c.args.state.now facts_base (c.args.n.live.facts * fact_words)) c.value_indexed-v.ensures c.in-Err.is

pub value_indexed-v-requires : goal.value_indexed-v-requires
value_indexed-v-requires c =
    let lent = part-lent c.args.state.now facts_base (c.args.n.live.facts * fact_words) in
    record {
      words_value = c.requires.listing;
      facts_value = value_lent c.requires lent;
      indexed = value-indexed c.requires lent;
      most_rows_in_bounds = c.requires.room;
    }
