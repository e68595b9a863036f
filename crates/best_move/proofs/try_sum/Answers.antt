use lib.Dec.{lit≤}
use Rattle.valuing.specs.WalkLaws.{topping-room, prepared}
use Rattle.best_move.proofs.ActionLaws.{placed-some, placed-tupled, high-room, high-kept}
use Rattle.best_move.proofs.try_sum.Goals as goal

pub tops-requires : goal.tops-requires
tops-requires c =
    topping-room _ _ _ c.requires.words_value (high-room 1024 (lit≤ tt))

pub is_few-few-requires : goal.is_few-few-requires
is_few-few-requires c =
    record { words_value = c.requires.words_value; n_nonzero = placed-some c.requires.placed }

pub tuple_count-total-requires : goal.tuple_count-total-requires
tuple_count-total-requires c =
    placed-tupled c.requires.placed c.requires.count_le_parameter_count

pub try_bindings-requires : goal.try_bindings-requires
try_bindings-requires c =
    record {
      prepared = prepared _ _ _ _ _ _ _ c.requires.words_value c.requires.placed.lent (high-kept 1024 c.tops.new.high (lit≤ tt) c.tops.auto.high) c.tops.ensures c.requires.placed.indexed;
      few_value = c.is_few-few.ensures;
      tupled = placed-tupled c.requires.placed c.requires.count_le_parameter_count;
      total_value = c.tuple_count-total.ensures;
      leading = c.requires.leading;
      plain_value = c.is_plain-plain.ensures;
    }
