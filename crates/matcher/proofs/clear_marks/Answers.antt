use native.Mathlib.Omega.{arith}
use lib.ListN.{length, get_or-append}
use lib.Seq.{length-take-le}
use mathlib.Core.Path.{◌≡◌, refl, ◌∙◌}
use Rattle.std.proofs.lemmas.Slice.{drop-append-drop}
use Rattle.label.specs.Limits.{first_minimum}
use Rattle.matcher.proofs.clear_marks.Goals as goal

pub returns : goal.returns
returns c =
    let long : length c.fill.new.self ≡ first_minimum = c.fill.ensures.len ∙ length-take-le first_minimum c.args.out.now c.requires in record {
      clear = λ t h. get_or-append c.fill.new.self _ 0 t (omega arith) ∙ c.fill.ensures.clones t 0 (omega arith) refl;
      behind = drop-append-drop first_minimum c.args.out.now c.fill.new.self first_minimum (omega arith) long;
    }
