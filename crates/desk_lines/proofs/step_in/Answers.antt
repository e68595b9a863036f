use Prim.Native.Nat.{◌*◌}
use Rattle.state.specs.Lent.{fact_words}
use Rattle.facts.specs.Words.{facts_base}
use Rattle.facts.specs.PartLaws.{part-lent}
use Rattle.desk_lines.proofs.DidLaws.{constants-long, step-task, step-hand}
use Rattle.desk_lines.proofs.step_in.Goals as goal

pub slice_bounds-step-end : goal.slice_bounds-step-end
slice_bounds-step-end c =
    constants-long c.requires.movable

pub step-requires : goal.step-requires
step-requires c =
    step-task c.requires.movable (part-lent c.args.state.now facts_base (c.args.live.facts * fact_words)) c.requires.fact_words_in_bounds

pub returns : goal.returns
returns c =
    step-hand c.requires.movable (part-lent c.args.state.now facts_base (c.args.live.facts * fact_words)) c.step.ensures
