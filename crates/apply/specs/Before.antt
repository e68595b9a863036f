-- What a combination answered before request L4 (document 01, section 'Combination'): a pair ended only where both are leaves, as those of a sum do. `ZeroLaws` compares.
use Rattle.std.specs.Prelude.{cond, List, ℕ, length, ltb}
use Rattle.refusal.specs.declared.Refusal.TheVariants.{Variables, Pairs, Value, Space}
use Rattle.diagram.specs.Sizes.{most_rows, space_rows, most_pairs}
use Rattle.diagram.specs.Diagram.{Diagram}
use Rattle.diagram.specs.Rows.{rows}
use Rattle.apply.specs.declared.Operation.{Operation}
use Rattle.apply.specs.declared.Operation.TheVariants.{Sum}
use Rattle.apply.specs.declared.Names.{Names}
use Rattle.apply.specs.declared.Combined.{Combined}
use Rattle.apply.specs.declared.Combined.TheVariants.{Done, Refused}
use Rattle.apply.specs.Pairs.{Pair, pairs, pair_count, overflows}
use Rattle.apply.specs.Formed.{formed}
use Rattle.apply.specs.Combination.{operate, left_operand, right_operand, combination, too_many, operand_rows}

-- the pairs, each that is not both leaves with its two successors
abbrev pub all_pairs : Diagram → Diagram → List Pair
all_pairs a b = pairs Sum a b

abbrev pub all_count : Diagram → Diagram → ℕ
all_count a b = pair_count Sum a b

-- the checks in order: variables (8), pairs (10), value (11), space (9)
unfoldable pub answer_before : Operation → Names → List ℕ → Diagram → Diagram → Combined
answer_before op names ar a b =
    cond (too_many names ar a b) (Refused Variables)
    (cond (ltb most_pairs (all_count (left_operand names ar a b) (right_operand names ar a b))) (Refused Pairs)
    (cond (overflows (operate op) (all_pairs (left_operand names ar a b) (right_operand names ar a b))) (Refused Value)
    (cond (ltb space_rows (length (formed (operate op) (operand_rows names ar a b) (all_pairs (left_operand names ar a b) (right_operand names ar a b))))) (Refused Space)
    (cond (ltb most_rows (length (rows (combination op names ar a b)))) (Refused Space)
    (Done (length (rows (combination op names ar a b))) (all_count (left_operand names ar a b) (right_operand names ar a b)))))))

-- the same answer with another count of pairs
abbrev pub recounted : ℕ → Combined → Combined
recounted k (Done n m) = Done n k
recounted k (Refused r) = Refused r
