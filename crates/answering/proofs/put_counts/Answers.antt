use native.Mathlib.Omega.{arith}
use Rattle.answering.proofs.TableLaws.{counts-put}
use Rattle.answering.proofs.put_counts.Goals as goal

pub returns-clause-n_len_bound : goal.returns-clause-n_len_bound
returns-clause-n_len_bound c = (counts-put c.args.table.now c.args.n (λ i. omega (arith, c.type_inv.table i)) c.put_table.ensures).1
