use native.Mathlib.Omega.{arith}
use mathlib.Core.Path.{◌≡◌, refl, ◌∙◌}
use Prim.Native.Nat.{◌+◌, ◌-◌}
use lib.ListN.{length, drop, length-drop}
use lib.Seq.{length-take-le}
use Rattle.model.specs.Layout.{span_words}
use Rattle.model_entry.proofs.VariantLaws.{words-cleared}
use Rattle.model_entry.proofs.clear.Goals as goal

pub returns : goal.returns
returns c =
    let n = c.args.first + span_words - c.args.first in
    let long : length c.fill.new.self ≡ n = c.fill.ensures.len ∙ length-take-le n (drop c.args.first c.args.table.now) (rw length-drop (omega arith)) in
    words-cleared c.args.table.now c.fill.new.self c.args.first n c.requires (omega arith) long (λ j h. c.fill.ensures.clones j 0 (omega arith) refl)
