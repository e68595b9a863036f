use Rattle.std.proofs.lemmas.Result.{err_from_is_err_and}
use Rattle.reader.proofs.PassCode.{term-below, term-number, term-refused}
use Rattle.reader.proofs.read_term.Goals as goal

pub give-requires-clause-t_lt_term_end : goal.give-requires-clause-t_lt_term_end
give-requires-clause-t_lt_term_end c =
    search (term-below, c.in_ok-t.was)

pub returns-in_err-t : goal.returns-in_err-t
returns-in_err-t c =
    let p = err_from_is_err_and c.from_residual.result c.from_residual.ensures.1 in
    rw (p.1, p.2) (search (term-refused, c.in_err-t.was))

pub returns : goal.returns
returns c =
    search (term-number, c.in_ok-t.was)
