use Rattle.apart.proofs.ApartLaws.{variables-fit, minimums-fit, aside-variables, aside-minimums, aside-from}
use Rattle.apart.proofs.set_aside.Goals as goal

pub overflow_add-n : goal.overflow_add-n
overflow_add-n c =
    search variables-fit

pub returns-then-n-count_variables-gt-VARIABLES : goal.returns-then-n-count_variables-gt-VARIABLES
returns-then-n-count_variables-gt-VARIABLES c =
    search aside-variables

pub overflow_add-k : goal.overflow_add-k
overflow_add-k c =
    search minimums-fit

pub returns-then-k-count_minimums-gt-MINIMUMS : goal.returns-then-k-count_minimums-gt-MINIMUMS
returns-then-k-count_minimums-gt-MINIMUMS c =
    search aside-minimums

pub returns : goal.returns
returns c =
    search aside-from
