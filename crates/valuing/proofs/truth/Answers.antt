use native.Mathlib.Omega.{arith}
use Rattle.valuing.proofs.SearchLaws.{truth-read, truth-predicate, truth-term, truth-equal, truth-asked, truth-found}
use Rattle.valuing.proofs.truth.Goals as goal

pub offset_bounds-env-t : goal.offset_bounds-env-t
offset_bounds-env-t c =
    omega (arith, truth-term c.requires c.predicate-p.ensures c.if-p-eq-EQUALITY.true (omega arith) c.place-t.ensures)

pub bounds-env-t : goal.bounds-env-t
bounds-env-t c =
    truth-term c.requires c.predicate-p.ensures c.if-p-eq-EQUALITY.true (omega arith) c.place-t.ensures

pub offset_bounds-env-u : goal.offset_bounds-env-u
offset_bounds-env-u c =
    omega (arith, truth-term c.requires c.predicate-p.ensures c.if-p-eq-EQUALITY.true (omega arith) c.place-u.ensures)

pub bounds-env-u : goal.bounds-env-u
bounds-env-u c =
    truth-term c.requires c.predicate-p.ensures c.if-p-eq-EQUALITY.true (omega arith) c.place-u.ensures

pub returns-then-p-eq-EQUALITY : goal.returns-then-p-eq-EQUALITY
returns-then-p-eq-EQUALITY c =
    search truth-equal

pub offset_bounds-arities-q : goal.offset_bounds-arities-q
offset_bounds-arities-q c =
    omega (arith, truth-predicate c.requires c.predicate-p.ensures)

pub bounds-arities-q : goal.bounds-arities-q
bounds-arities-q c =
    search truth-read

pub found-requires : goal.found-requires
found-requires c =
    search truth-asked

pub returns : goal.returns
returns c =
    search truth-found
