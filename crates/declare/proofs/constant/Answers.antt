use Rattle.declare.proofs.TableLaws.{constant-name, constant-space, constant-done}
use Rattle.declare.proofs.constant.Goals as goal

pub returns-then-is_declared : goal.returns-then-is_declared
returns-then-is_declared c =
    search constant-name

pub returns-then-n : goal.returns-then-n
returns-then-n c =
    search constant-space

pub returns : goal.returns
returns c =
    search constant-done
