use Rattle.fact_index.specs.IndexLaws.{clean-zeros}
use Rattle.valuing.proofs.number_with.Goals as goal

pub number_in-requires-clause-clean : goal.number_in-requires-clause-clean
number_in-requires-clause-clean g c =
    clean-zeros _ c.requires.buckets_le_words
