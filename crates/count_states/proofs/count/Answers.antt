use Rattle.fact_index.specs.IndexLaws.{clean-zeros}
use lib.Dec.{lit≤}
use Rattle.count_states.proofs.StateLaws.{countable-declared, high-room, count-valuing, count-many, ground-rows-room, count-choices, count-spreading, count-done}
use Rattle.count_states.proofs.count.Goals as goal

pub ground_count-g-requires : goal.ground_count-g-requires
ground_count-g-requires c =
    search countable-declared

pub returns-then-g-gt-GROUND : goal.returns-then-g-gt-GROUND
returns-then-g-gt-GROUND c =
    search count-many

pub write_ground-requires-clause-declared : goal.write_ground-requires-clause-declared
write_ground-requires-clause-declared c =
    countable-declared c.requires

pub write_ground-requires-clause-fact_words_in_bounds : goal.write_ground-requires-clause-fact_words_in_bounds
write_ground-requires-clause-fact_words_in_bounds c =
    ground-rows-room c.requires c.ground_count-g.ensures c.if-g-gt-GROUND.false 112 (lit≤ tt)

pub tops-requires : goal.tops-requires
tops-requires c =
    high-room c.requires 1024 (lit≤ tt)

pub count_choices-requires-clause-valuing : goal.count_choices-requires-clause-valuing
count_choices-requires-clause-valuing c =
    count-valuing c.requires 1024 (lit≤ tt) c.tops.auto.high c.tops.ensures c.is_few-few.ensures c.is_plain-plain.ensures

pub count_choices-requires-clause-choices : goal.count_choices-requires-clause-choices
count_choices-requires-clause-choices c =
    count-choices c.requires c.ground_count-g.ensures _ c.if-g-gt-GROUND.false c.write_ground.ensures 112 (lit≤ tt) c.write_ground.auto.rows

pub count_choices-requires-clause-clean : goal.count_choices-requires-clause-clean
count_choices-requires-clause-clean c =
    clean-zeros 1040 (lit≤ tt)

pub count_choices-requires-clause-spreading : goal.count_choices-requires-clause-spreading
count_choices-requires-clause-spreading c =
    count-spreading c.requires c.ground_count-g.ensures _ c.if-g-gt-GROUND.false c.write_ground.ensures

pub returns : goal.returns
returns c =
    count-done c.requires c.ground_count-g.ensures _ c.if-g-gt-GROUND.false c.write_ground.ensures c.count_choices.ensures
