use Rattle.count_states.proofs.StateLaws.{chosen-length, chosen-state, chosen-value}
use Rattle.count_states.proofs.value_choice.Goals as goal

pub slice_bounds-value_facts-end-2 : goal.slice_bounds-value_facts-end-2
slice_bounds-value_facts-end-2 c =
    chosen-length c.choose-m.ensures

pub value_facts-requires-clause-facts_value : goal.value_facts-requires-clause-facts_value
value_facts-requires-clause-facts_value c =
    chosen-state c.requires.choices c.choose-m.ensures

pub returns-clause-value : goal.returns-clause-value
returns-clause-value c =
    chosen-value _ _ _ _ c.choose-m.ensures c.value_facts.ensures.value

pub returns-clause-clean_2 : goal.returns-clause-clean_2
returns-clause-clean_2 c =
    c.value_facts.ensures.clean_2
