use Rattle.store.proofs.LoadLaws.{load-start, load-formable, load_full, load_fits, load-on, load-end}
use Rattle.store.proofs.load.Goals as goal

pub loop-k-init : goal.loop-k-init
loop-k-init c =
    search load-start

pub form-requires-clause-formable : goal.form-requires-clause-formable
form-requires-clause-formable c =
    search load-formable

pub returns-in_err-i : goal.returns-in_err-i
returns-in_err-i c = rw c.from_residual.ensures (search (load_full, c.in_err-i.was))

pub overflow_cast-numbers : goal.overflow_cast-numbers
overflow_cast-numbers c =
    search (load_fits, c.in_ok-i.was)

pub loop-k-preserved : goal.loop-k-preserved
loop-k-preserved c =
    search (load-on, c.in_ok-i.was)

pub returns : goal.returns
returns c =
    search load-end
