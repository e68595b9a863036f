use Rattle.reduce.proofs.SearchLaws.{sign-found, sign-on, sign-none}
use Rattle.reduce.proofs.sign_of.Goals as goal

pub returns-then-x-fact : goal.returns-then-x-fact
returns-then-x-fact c =
    search sign-found

pub loop-c-preserved : goal.loop-c-preserved
loop-c-preserved c =
    search sign-on

pub returns : goal.returns
returns c =
    search sign-none
