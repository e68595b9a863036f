use native.Mathlib.Omega.{arith}
use Rattle.reduce.proofs.SearchLaws.{better-first, better-higher, better-lower, better-sooner, better-stays}
use Rattle.reduce.proofs.better.Goals as goal

pub returns-then-best-m : goal.returns-then-best-m
returns-then-best-m c =
    search better-first

pub returns-then-leaves-best : goal.returns-then-leaves-best
returns-then-leaves-best c =
    search better-higher

pub returns-then-leaves-k : goal.returns-then-leaves-k
returns-then-leaves-k c =
    search better-lower

pub returns : goal.returns
returns c =
    let sooner = better-sooner c.requires.leaves c.requires.best_le_m c.requires.k_lt_m c.if-best-m.false c.if-leaves-best.false c.if-leaves-k.false in
    let stays = better-stays c.requires.leaves c.requires.best_le_m c.requires.k_lt_m c.if-best-m.false c.if-leaves-best.false c.if-leaves-k.false in
    grind arith
