use Rattle.reader.proofs.NumberCode.{whole-none, whole-short, whole-digits, whole-all}
use Rattle.reader.proofs.whole_number.Goals as goal

pub returns-in_err-n : goal.returns-in_err-n
returns-in_err-n c =
    rw c.from_residual.ensures (search (whole-none, c.in_err-n.was))

pub returns-then-n-s : goal.returns-then-n-s
returns-then-n-s c =
    search (whole-short, c.in_ok-n.was)

pub value-requires : goal.value-requires
value-requires c =
    search (whole-digits, c.in_ok-n.was)

pub returns : goal.returns
returns c =
    search (whole-all, c.in_ok-n.was)
