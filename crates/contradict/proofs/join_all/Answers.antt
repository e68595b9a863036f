use mathlib.Core.Path.{refl}
use Rattle.contradict.proofs.TableLaws.{last-below, represented-start, represented-next}
use Rattle.contradict.proofs.join_all.Goals as goal

pub loop-j-init : goal.loop-j-init
loop-j-init c =
    represented-start _ c.separate.ensures

pub loop-j-preserved : goal.loop-j-preserved
loop-j-preserved c =
    represented-next c.loop-j.invariant c.loop-j-test.true c.loop-j.auto.j refl (c.requires.all_in_range.each _ (last-below c.loop-j-test.true c.loop-j.auto.j)) c.join_literal.ensures
