use native.Mathlib.Omega.{arith}
use Rattle.matcher.proofs.CoversLaws.{remembers-empty, decide-start, decided, unweary}
use Rattle.matcher.proofs.decide.Goals as goal

pub solve-answer-requires : goal.solve-answer-requires
solve-answer-requires c =
    decide-start c.requires (remembers-empty 1 (omega arith))

pub returns : goal.returns
returns c =
    decided c.requires c.solve-answer.ensures (unweary c.is_weary.ensures c.if-is_weary.false) c.is_found.ensures
