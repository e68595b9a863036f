use mathlib.Core.Path.{refl, ◌∙◌}
use native.Mathlib.Omega.{arith}
use Rattle.lines.proofs.OpenLaws.{opening-arities}
use Rattle.lines.proofs.open_arities.Goals as goal

pub returns : goal.returns
returns c =
    opening-arities c.fill.new.self (c.fill.ensures.len ∙ c.requires) (λ i h. c.fill.ensures.clones i 0 (omega arith) refl)
