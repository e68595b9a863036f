use Rattle.diagram_lines.proofs.LineLaws.{line-begins}
use Rattle.diagram_lines.proofs.VariantLaws.{variant-named, variant-refused, variant-room, variant-place, variant-words, variant-accepted}
use Rattle.diagram_lines.proofs.variant.Goals as goal

pub next_event-first-requires : goal.next_event-first-requires
next_event-first-requires c =
    line-begins c.requires.lent.line c.first_word.ensures

pub read_weight-built-requires-clause-lent : goal.read_weight-built-requires-clause-lent
read_weight-built-requires-clause-lent c =
    c.requires.lent

pub read_weight-built-requires-clause-weight_at : goal.read_weight-built-requires-clause-weight_at
read_weight-built-requires-clause-weight_at c =
    (variant-named c.requires.lent.line c.first_word.ensures c.next_event-first.ensures c.key_in-key.ensures).weight

pub name_variant-counts-requires : goal.name_variant-counts-requires
name_variant-counts-requires c =
    let x = variant-named c.requires.lent.line c.first_word.ensures c.next_event-first.ensures c.key_in-key.ensures in
    variant-words _ _ _ _ _ _ x c.read_weight-built.ensures c.requires c.in-Ok.is

pub returns-in-Err : goal.returns-in-Err
returns-in-Err c =
    let x = variant-named c.requires.lent.line c.first_word.ensures c.next_event-first.ensures c.key_in-key.ensures in
    variant-refused _ _ _ _ _ _ x c.read_weight-built.ensures _ c.in-Err.is

pub returns-in-Ok : goal.returns-in-Ok
returns-in-Ok c =
    let x = variant-named c.requires.lent.line c.first_word.ensures c.next_event-first.ensures c.key_in-key.ensures in
    variant-accepted _ _ _ _ _ _ x c.read_weight-built.ensures c.requires c.in-Ok.is c.add_variant-head.ensures c.add_variant-head.auto.listings
    c.name_variant-counts.ensures _

pub add_variant-head-requires : goal.add_variant-head-requires
add_variant-head-requires c =
    let x = variant-named c.requires.lent.line c.first_word.ensures c.next_event-first.ensures c.key_in-key.ensures in
    record {
      rows_room = variant-room _ _ _ _ _ _ x c.read_weight-built.ensures c.requires c.in-Ok.is;
      variant_room = variant-place _ _ _ _ _ _ x c.read_weight-built.ensures c.requires c.in-Ok.is;
    }
