use native.Mathlib.Omega.{arith}
use mathlib.Core.Path.{◌≡◌, refl, ◌∙◌}
use lib.ListN.{length}
use Rattle.fact_index.specs.Index.{buckets}
use Rattle.facts.specs.Words.{index_base}
use Rattle.facts.specs.PartLaws.{length_part}
use Rattle.facts.proofs.IndexLaws.{heads-cleared}
use Rattle.facts.proofs.clear_heads.Goals as goal

pub returns : goal.returns
returns c =
    let long : length c.fill.new.self ≡ buckets = c.fill.ensures.len ∙ length_part c.args.state.now index_base buckets (omega arith) in
    heads-cleared c.args.state.now c.fill.new.self c.requires long (λ j h. c.fill.ensures.clones j 0 (omega arith) refl)
