use native.Mathlib.Omega.{arith}
use mathlib.Core.Path.{refl}
use borrow.Author.Rules.{rules}
use Rattle.reduce.proofs.TableLaws.{fill_start, fill_more, fill_end}
use Rattle.reduce.proofs.fact_rows.Goals as goal

pub loop-r-init : goal.loop-r-init
loop-r-init c =
    (refl, search rules, fill_start _ _ _ _ _)

pub loop-r-preserved : goal.loop-r-preserved
loop-r-preserved c =
    (search rules, search rules, fill_more c.loop-r.invariant.2 (omega (arith, c.loop-r-test.true, c.loop-r.invariant.0, c.requires.n_in_bounds)) c.fact_word.ensures)

pub returns : goal.returns
returns c =
    search fill_end
