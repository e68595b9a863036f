use Rattle.texts.proofs.MoveLaws.{end-closed, end_rest}
use Rattle.texts.proofs.end.Goals as goal

pub returns-then-count-eq0 : goal.returns-then-count-eq0
returns-then-count-eq0 c =
    end-closed c.args.p c.args.out.now c.requires.end_in_bounds c.if-count-eq0.true c.close.ensures

pub returns : goal.returns
returns c =
    end_rest c.args.p c.args.out.now c.if-count-eq0.false c.close_rest.ensures
