use Rattle.spelling.proofs.NameLaws.{constant-room, constant-term, variable-room, variable-term, minimum-room, minimum-term}
use Rattle.spelling.proofs.put_term.Goals as goal

pub put_name-requires-clause-i_in_bounds : goal.put_name-requires-clause-i_in_bounds
put_name-requires-clause-i_in_bounds c =
    search constant-room

pub returns-then-t-lt-FIRST_VARIABLE : goal.returns-then-t-lt-FIRST_VARIABLE
returns-then-t-lt-FIRST_VARIABLE c =
    search constant-term

pub put_variable-requires : goal.put_variable-requires
put_variable-requires c =
    search variable-room

pub returns-then-t-lt-FIRST_MINIMUM : goal.returns-then-t-lt-FIRST_MINIMUM
returns-then-t-lt-FIRST_MINIMUM c =
    search variable-term

pub put_variable-requires-2 : goal.put_variable-requires-2
put_variable-requires-2 c =
    search minimum-room

pub returns : goal.returns
returns c =
    search minimum-term
