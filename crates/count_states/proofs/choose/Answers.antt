use Rattle.count_states.proofs.ChoiceLaws.{pick-start, pick-from, pick-room, pick_odd, pick_even, pick_end}
use Rattle.count_states.proofs.choose.Goals as goal
use Rattle.count_states.proofs.choose.Goals.{then-rest-eq1, else-rest-eq1}

pub loop-i-init : goal.loop-i-init
loop-i-init c =
    search pick-start

pub copy_row-requires-clause-fact_words_in_bounds : goal.copy_row-requires-clause-fact_words_in_bounds
copy_row-requires-clause-fact_words_in_bounds c =
    search pick-from

pub copy_row-requires-clause-fact_words_in_bounds_2 : goal.copy_row-requires-clause-fact_words_in_bounds_2
copy_row-requires-clause-fact_words_in_bounds_2 c =
    search pick-room

pub loop-i-preserved : goal.loop-i-preserved
loop-i-preserved c =
    elim c.if-rest-eq1.branch [
      | then-rest-eq1 w ↦ rw (w.facts-is, w.m-is) (search (pick_odd, w.copy_row.ensures, w.if-rest-eq1.true))
      | else-rest-eq1 w ↦ rw (w.facts-is, w.m-is) (search (pick_even, w.if-rest-eq1.false))
    ]

pub returns : goal.returns
returns c =
    search pick_end
