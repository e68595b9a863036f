use native.Mathlib.Omega.{arith}
use lib.Dec.{lit<}
use Rattle.next_facts.proofs.RowLaws.{hold-fact, hold-open, hold-equal, two-read}
use Rattle.next_facts.proofs.may_hold.Goals as goal

pub returns-then-predicate-ne-EQUALITY : goal.returns-then-predicate-ne-EQUALITY
returns-then-predicate-ne-EQUALITY c =
    search hold-fact

pub returns-then-opened : goal.returns-then-opened
returns-then-opened c =
    search hold-open

pub offset_bounds-env-t : goal.offset_bounds-env-t
offset_bounds-env-t c =
    omega (arith, two-read c.requires.placed (lit< tt) c.place-t.ensures)

pub bounds-env-t : goal.bounds-env-t
bounds-env-t c =
    two-read c.requires.placed (lit< tt) c.place-t.ensures

pub offset_bounds-env-u : goal.offset_bounds-env-u
offset_bounds-env-u c =
    omega (arith, two-read c.requires.placed (lit< tt) c.place-u.ensures)

pub bounds-env-u : goal.bounds-env-u
bounds-env-u c =
    two-read c.requires.placed (lit< tt) c.place-u.ensures

pub returns : goal.returns
returns c =
    search hold-equal
