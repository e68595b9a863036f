use Rattle.std.specs.Prelude.{◌≡◌, refl, ℕ, Option, None, Some}
use Rattle.std.specs.Option.{ok_or}
use Rattle.std.proofs.Common.{◌∙◌}
use Rattle.refusal.specs.declared.Refusal.TheVariants.{Space}
use Rattle.diagram.specs.Sizes.{space_rows}
use Rattle.regress.specs.Tasks.{told_as}
use Rattle.regress.proofs.told.Goals as goal

told-is : (f : Option (ℕ × ℕ)) → ok_or f (Space, space_rows) ≡ told_as f
told-is None = refl
told-is (Some (i, n)) = refl

pub returns : goal.returns
returns c =
    c.ok_or.ensures.value ∙ told-is c.args.f
