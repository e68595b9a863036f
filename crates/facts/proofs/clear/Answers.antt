use native.Mathlib.Omega.{arith}
use mathlib.Core.Path.{◌≡◌, refl, sym, ◌∙◌}
use lib.ListN.{length, length-append, length-drop, get_or-append}
use lib.Seq.{length-take-le}
use Rattle.std.proofs.lemmas.Slice.{drop-append-drop}
use Rattle.facts.specs.Words.{facts_base}
use Rattle.facts.proofs.clear.Goals as goal

pub slice_bounds-fill-end-2 : goal.slice_bounds-fill-end-2
slice_bounds-fill-end-2 c =
    sym (length-take-le facts_base c.args.state.now (omega arith))

pub returns : goal.returns
returns c =
    let long : length c.fill.new.self ≡ facts_base = c.fill.ensures.len ∙ length-take-le facts_base c.args.state.now (omega arith) in record {
      cleared = record {
        size = rw (length-append, length-drop) (omega arith);
        zeros = λ i h. get_or-append c.fill.new.self _ 0 i (omega arith) ∙ c.fill.ensures.clones i 0 (omega arith) refl;
      };
      rest = drop-append-drop facts_base c.args.state.now c.fill.new.self facts_base (omega arith) long;
    }
