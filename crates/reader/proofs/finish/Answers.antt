use Rattle.reader.proofs.WordCode.{finish-variables, finish-minimums, finish-done}
use Rattle.reader.proofs.finish.Goals as goal

pub returns-then-known-gt-VARIABLES : goal.returns-then-known-gt-VARIABLES
returns-then-known-gt-VARIABLES c =
    search finish-variables

pub returns-then-known-gt-VARIABLES-2 : goal.returns-then-known-gt-VARIABLES-2
returns-then-known-gt-VARIABLES-2 c =
    search finish-minimums

pub returns : goal.returns
returns c =
    search finish-done
