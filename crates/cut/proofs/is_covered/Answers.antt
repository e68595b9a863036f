use Rattle.cut.proofs.ChoosingLaws.{pair-yes, pair-no, pair-new-yes, pair-new-no}
use Rattle.cut.proofs.is_covered.Goals as goal

pub returns-then-known-eq1 : goal.returns-then-known-eq1
returns-then-known-eq1 c =
    pair-yes c.requires.known c.requires.p_lt_most_paths c.requires.enterable c.wide-known.ensures c.if-known-eq1.true

pub returns-then-known-ne0 : goal.returns-then-known-ne0
returns-then-known-ne0 c =
    pair-no c.requires.known c.requires.p_lt_most_paths c.requires.enterable c.wide-known.ensures c.if-known-eq1.false c.if-known-ne0.true

pub returns-then-covers : goal.returns-then-covers
returns-then-covers c =
    pair-new-yes c.requires.known c.requires.p_lt_most_paths c.requires.enterable (c.covers.ensures.each _ c.requires.held) c.if-covers.true

pub returns : goal.returns
returns c =
    pair-new-no c.requires.known c.requires.p_lt_most_paths c.requires.enterable (c.covers.ensures.each _ c.requires.held) c.if-covers.false
