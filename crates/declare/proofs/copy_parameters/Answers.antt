use borrow.Author.Rules.{rules}
use Rattle.declare.proofs.ParameterLaws.{copy_start, copy-on, copy-room, copy-end}
use Rattle.declare.proofs.copy_parameters.Goals as goal

pub loop-i-init : goal.loop-i-init
loop-i-init c =
    (search copy_start, search rules)

pub put-requires : goal.put-requires
put-requires c =
    search copy-room

pub loop-i-preserved : goal.loop-i-preserved
loop-i-preserved c =
    (search copy-on, search rules)

pub returns : goal.returns
returns c =
    search copy-end
