use Rattle.cut.proofs.ChoosingLaws.{free_other, free-zero, free-covered}
use Rattle.cut.proofs.is_free.Goals as goal

pub returns-then-sides-p : goal.returns-then-sides-p
returns-then-sides-p c =
    free_other c.requires.asking c.requires.p_lt_m _ c.if-sides-p.true

pub returns-then-leaves-p-eq0 : goal.returns-then-leaves-p-eq0
returns-then-leaves-p-eq0 c =
    free-zero c.requires.asking c.requires.p_lt_m _ c.if-sides-p.false c.if-leaves-p-eq0.true

pub returns : goal.returns
returns c =
    free-covered c.requires.asking c.requires.p_lt_m _ c.if-sides-p.false c.if-leaves-p-eq0.false c.has_cover.ensures
