use Rattle.answering.proofs.TableLaws.{measured-full, measured-room, measured-at}
use Rattle.answering.proofs.put_table.Goals as goal

pub returns-in_err-lines_end : goal.returns-in_err-lines_end
returns-in_err-lines_end c =
    rw c.from_residual.ensures (search (measured-full, c.in_err-lines_end.was))

pub write_lines-requires-clause-n_in_bounds : goal.write_lines-requires-clause-n_in_bounds
write_lines-requires-clause-n_in_bounds c =
    search (measured-room, c.in_ok-lines_end.was)

pub returns : goal.returns
returns c =
    search (measured-at, c.in_ok-lines_end.was)
