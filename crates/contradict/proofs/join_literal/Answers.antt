use Prim.Native.Nat.{◌/◌}
use Rattle.contradict.proofs.TableLaws.{first_below, second_below, taken-even, taken-other, taken-equality}
use Rattle.contradict.proofs.join_literal.Goals as goal

pub returns-then-x-eq0 : goal.returns-then-x-eq0
returns-then-x-eq0 c =
    taken-even c.if-x-eq0.true

pub returns-then-a-ne-EQUALITY : goal.returns-then-a-ne-EQUALITY
returns-then-a-ne-EQUALITY c =
    taken-other c.args.x c.unpack-a.ensures c.if-a-ne-EQUALITY.true

pub join-requires-clause-t_lt_term_end : goal.join-requires-clause-t_lt_term_end
join-requires-clause-t_lt_term_end c =
    first_below (c.args.x / 2) c.requires.in_range c.unpack-a.ensures

pub join-requires-clause-u_lt_term_end : goal.join-requires-clause-u_lt_term_end
join-requires-clause-u_lt_term_end c =
    second_below (c.args.x / 2) c.requires.in_range c.unpack-a.ensures

pub returns : goal.returns
returns c =
    taken-equality c.args.x c.unpack-a.ensures c.if-x-eq0.false c.if-a-ne-EQUALITY.false c.join.ensures
