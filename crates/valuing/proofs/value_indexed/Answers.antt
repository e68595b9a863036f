use mathlib.Core.Path.{refl}
use Prim.Native.Nat.{ℕ}
use lib.ListN.{length-replicate}
use Rattle.label.specs.Limits.{term_end}
use Rattle.diagram.specs.ListingValid.{listing-is-valid}
use Rattle.valuing.proofs.CheckLaws.{lent-some, few-marks, plain-marks, in-state, bound-few, bound-many}
use Rattle.valuing.proofs.value_indexed.Goals as goal

pub used-requires-clause-valid : goal.used-requires-clause-valid
used-requires-clause-valid c =
    listing-is-valid _ _ c.requires.words_value

pub used-requires-clause-marks_len : goal.used-requires-clause-marks_len
used-requires-clause-marks_len c =
    length-replicate {A = ℕ} term_end 0

pub is_small-requires-clause-n_nonzero : goal.is_small-requires-clause-n_nonzero
is_small-requires-clause-n_nonzero c =
    search lent-some

pub number_of-requires-clause-in_state : goal.number_of-requires-clause-in_state
number_of-requires-clause-in_state c =
    in-state c.requires.words_value c.requires.facts_value c.used.ensures c.is_plain-plain.ensures

pub returns-then-is_small : goal.returns-then-is_small
returns-then-is_small c =
    bound-few _ _ _ _ _ _ (few-marks _ _ c.used.ensures _ c.is_small.ensures) c.if-is_small.true c.number_of.ensures

pub by_tables-requires-clause-words_value : goal.by_tables-requires-clause-words_value
by_tables-requires-clause-words_value c =
    c.requires.words_value

pub by_tables-requires-clause-facts_value : goal.by_tables-requires-clause-facts_value
by_tables-requires-clause-facts_value c =
    c.requires.facts_value

pub by_tables-requires-clause-objects_value : goal.by_tables-requires-clause-objects_value
by_tables-requires-clause-objects_value c =
    refl

pub by_tables-requires-clause-plain_value : goal.by_tables-requires-clause-plain_value
by_tables-requires-clause-plain_value c =
    plain-marks _ _ c.used.ensures c.is_plain-plain.ensures

pub returns : goal.returns
returns c =
    bound-many _ _ _ _ _ _ (few-marks _ _ c.used.ensures _ c.is_small.ensures) c.if-is_small.false c.by_tables.ensures
