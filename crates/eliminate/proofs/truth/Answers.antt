use native.Mathlib.Omega.{arith}
use Rattle.eliminate.proofs.TruthLaws.{asked-term, tell-equal, tell-said}
use Rattle.eliminate.proofs.truth.Goals as goal

pub offset_bounds-env-t : goal.offset_bounds-env-t
offset_bounds-env-t c =
    omega (arith, asked-term c.requires.labelled 0 (omega arith) c.place-t.ensures)

pub bounds-env-t : goal.bounds-env-t
bounds-env-t c =
    omega (arith, asked-term c.requires.labelled 0 (omega arith) c.place-t.ensures, c.requires.places)

pub offset_bounds-env-u : goal.offset_bounds-env-u
offset_bounds-env-u c =
    omega (arith, asked-term c.requires.labelled 1 (omega arith) c.place-u.ensures)

pub bounds-env-u : goal.bounds-env-u
bounds-env-u c =
    omega (arith, asked-term c.requires.labelled 1 (omega arith) c.place-u.ensures, c.requires.places)

pub returns-then-predicate-eq-EQUALITY : goal.returns-then-predicate-eq-EQUALITY
returns-then-predicate-eq-EQUALITY c =
    tell-equal _ _ _ _ c.requires c.predicate.ensures c.if-predicate-eq-EQUALITY.true c.place-t.ensures c.place-u.ensures

pub returns : goal.returns
returns c =
    search tell-said
