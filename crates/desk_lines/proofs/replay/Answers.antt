use native.Mathlib.Omega.{arith}
use Rattle.desk_lines.proofs.DidLaws.{facts-held, rows_few, rows-room, facts-room, moved-room, moved-clean, replay-done, replay-refused}
use Rattle.std.proofs.lemmas.Result.{err_from_is_err_and}
use Rattle.desk_lines.proofs.replay.Goals as goal

pub unindex-requires-clause-state_words_in_bounds : goal.unindex-requires-clause-state_words_in_bounds
unindex-requires-clause-state_words_in_bounds c =
    c.requires.live.room

pub unindex-requires-clause-rows_le_most_facts : goal.unindex-requires-clause-rows_le_most_facts
unindex-requires-clause-rows_le_most_facts c =
    c.requires.live.facts

pub unindex-requires-clause-indexed : goal.unindex-requires-clause-indexed
unindex-requires-clause-indexed c =
    facts-held c.requires

pub overflow_mul-m : goal.overflow_mul-m
overflow_mul-m c =
    omega (arith, rows_few c.requires c.step_in.ensures c.in_ok-m.was)

pub copy_facts-requires-clause-words_in_bounds : goal.copy_facts-requires-clause-words_in_bounds
copy_facts-requires-clause-words_in_bounds c =
    rows-room c.requires c.step_in.ensures c.in_ok-m.was

pub copy_facts-requires-clause-words_in_bounds_2 : goal.copy_facts-requires-clause-words_in_bounds_2
copy_facts-requires-clause-words_in_bounds_2 c =
    facts-room c.requires c.step_in.ensures c.unindex.ensures c.in_ok-m.was

pub index-requires-clause-state_words_in_bounds : goal.index-requires-clause-state_words_in_bounds
index-requires-clause-state_words_in_bounds c =
    moved-room c.requires c.step_in.ensures c.unindex.ensures c.in_ok-m.was c.copy_facts.ensures

pub index-requires-clause-rows_le_most_facts : goal.index-requires-clause-rows_le_most_facts
index-requires-clause-rows_le_most_facts c =
    rows_few c.requires c.step_in.ensures c.in_ok-m.was

pub index-requires-clause-clean : goal.index-requires-clause-clean
index-requires-clause-clean c =
    moved-clean c.requires c.step_in.ensures c.unindex.ensures c.in_ok-m.was c.copy_facts.ensures

pub returns : goal.returns
returns c =
    replay-done c.requires c.step_in.ensures c.unindex.ensures c.in_ok-m.was c.copy_facts.ensures
    c.index.ensures

pub returns-in_err-m : goal.returns-in_err-m
returns-in_err-m c =
    let p = err_from_is_err_and c.from_residual.result c.from_residual.ensures.1 in
    rw (p.1, p.2) (replay-refused c.requires c.step_in.ensures c.in_err-m.was)
