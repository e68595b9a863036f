use native.Mathlib.Omega.{arith}
use Rattle.answering.proofs.TableLaws.{rows-put}
use Rattle.answering.proofs.put_rows.Goals as goal

pub returns-clause-n_len_bound : goal.returns-clause-n_len_bound
returns-clause-n_len_bound c = (rows-put c.args.words.now c.args.n (λ i. omega (arith, c.type_inv.words i)) c.put_table.ensures).1
