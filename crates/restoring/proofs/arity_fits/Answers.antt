use Rattle.restoring.proofs.TestLaws.{arity-declared, arity-none}
use lib.ListN.{get_or}
use Rattle.restoring.proofs.arity_fits.Goals as goal

pub returns-then-p-n : goal.returns-then-p-n
returns-then-p-n c =
    arity-declared _ _ (get_or c.args.arities.now c.args.p 0) c.if-p-n.true

pub returns : goal.returns
returns c =
    arity-none _ _ c.if-p-n.false c.word_at.ensures
