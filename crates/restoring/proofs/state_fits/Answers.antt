use Rattle.restoring.proofs.TestLaws.{state-many, state-long, state-log, state-none, state-rest}
use native.Mathlib.Omega.{arith}
use lib.Seq.{length-take-le}
use mathlib.Core.Path.{sym}
use Rattle.std.proofs.lemmas.Bool.{not_from_false}
use Rattle.std.proofs.lemmas.Bool.{not_from_true}
use Rattle.restoring.proofs.state_fits.Goals as goal

pub returns-then-objects-gt-OBJECTS : goal.returns-then-objects-gt-OBJECTS
returns-then-objects-gt-OBJECTS c =
    state-many _ _ _ c.if-objects-gt-OBJECTS.true

pub returns-then-rows-gt-FACTS : goal.returns-then-rows-gt-FACTS
returns-then-rows-gt-FACTS c =
    state-long _ _ _ c.if-rows-gt-FACTS.true

pub returns-then-not-log_fits : goal.returns-then-not-log_fits
returns-then-not-log_fits c =
    state-log _ _ _ c.log_fits.ensures (not_from_false _ c.if-not-log_fits.true)

pub returns-then-objects-eq0 : goal.returns-then-objects-eq0
returns-then-objects-eq0 c =
    state-none _ _ _ c.log_fits.ensures (not_from_true _ c.if-not-log_fits.false) c.if-rows-gt-FACTS.false c.if-objects-eq0.true

pub slice_bounds-state_fits-end : goal.slice_bounds-state_fits-end
slice_bounds-state_fits-end c =
    sym (length-take-le 16 c.args.state.now (omega (arith, c.requires)))

pub returns : goal.returns
returns c =
    state-rest _ _ _ c.log_fits.ensures (not_from_true _ c.if-not-log_fits.false) c.if-objects-gt-OBJECTS.false c.if-rows-gt-FACTS.false
    c.if-objects-eq0.false c.state_fits.ensures
