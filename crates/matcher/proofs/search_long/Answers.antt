use native.Mathlib.Omega.{arith}
use Rattle.matcher.specs.Failure.{store_words}
use Rattle.matcher.proofs.CoversLaws.{remembers-empty, decide-start, decided-long}
use Rattle.matcher.proofs.search_long.Goals as goal

pub solve-answer-requires : goal.solve-answer-requires
solve-answer-requires c =
    decide-start c.requires (remembers-empty store_words (omega arith))

pub returns : goal.returns
returns c =
    decided-long store_words (omega arith) c.requires c.solve-answer.ensures c.is_found.ensures
