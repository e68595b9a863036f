use Rattle.cut.proofs.ChoosingLaws.{ask-at, ask-enterable, cover-through, cover-low, cover-asked}
use Rattle.cut.proofs.is_cover.Goals as goal

pub returns-then-sides-q : goal.returns-then-sides-q
returns-then-sides-q c =
    cover-through c.requires.asking c.requires.p_lt_m c.requires.q_lt_m _ c.if-sides-q.true

pub returns-then-leaves-q : goal.returns-then-leaves-q
returns-then-leaves-q c =
    cover-low c.requires.asking c.requires.p_lt_m c.requires.q_lt_m _ c.if-sides-q.false c.if-leaves-q.true

pub is_covered-requires-clause-p_lt_most_paths : goal.is_covered-requires-clause-p_lt_most_paths
is_covered-requires-clause-p_lt_most_paths c =
    (ask-at c.requires.asking c.requires.p_lt_m).2

pub is_covered-requires-clause-enterable : goal.is_covered-requires-clause-enterable
is_covered-requires-clause-enterable c =
    ask-enterable c.requires.asking c.requires.q_lt_m c.requires.facing.room

pub returns : goal.returns
returns c =
    cover-asked c.requires.asking c.requires.p_lt_m c.requires.q_lt_m _ c.if-sides-q.false c.if-leaves-q.false c.is_covered.ensures
