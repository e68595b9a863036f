-- What a combination answers and writes (document 01, sections 'Combination' and 'Refusals by trade word'; document 02, L12).
use Rattle.std.specs.Prelude.{Bool, false, cond, not, ◌&&◌, ◌||◌, List, [], ◌++◌, ℕ, ◌+◌, ◌*◌, max, length, drop, ltb}
use Rattle.label.specs.Limits.{variable_count, minimum_count}
use Rattle.refusal.specs.declared.Refusal.TheVariants.{Listing, Buffer, Variables, Pairs, Value, Space}
use Rattle.diagram.specs.Sizes.{most_rows, space_rows, most_pairs, result_words, space_words}
use Rattle.diagram.specs.Diagram.{Diagram}
use Rattle.diagram.specs.Rows.{onto, rows}
use Rattle.diagram.specs.Words.{is_listing}
use Rattle.diagram.specs.Listing.{listing, diagram_of}
use Rattle.diagram.specs.Variables.{variables, minimums, is_plain, closed, after}
use Rattle.apply.specs.declared.Operation.{Operation}
use Rattle.apply.specs.declared.Operation.TheVariants.{Sum, Product, Max}
use Rattle.apply.specs.declared.Names.{Names}
use Rattle.apply.specs.declared.Names.TheVariants.{Apart, Shared}
use Rattle.apply.specs.declared.Combined.{Combined}
use Rattle.apply.specs.declared.Combined.TheVariants.{Done, Refused}
use Rattle.apply.specs.Apply.{apply}
use Rattle.apply.specs.Pairs.{pairs, pair_count, overflows}
use Rattle.apply.specs.Formed.{formed}

-- sum, product and max are offered
abbrev pub operate : Operation → ℕ → ℕ → ℕ
operate Sum v w = v + w
operate Product v w = v * w
operate Max v w = max v w

-- apart: the first operand is closed up, the second's variables follow after; shared: names stay
abbrev pub left_operand : Names → List ℕ → Diagram → Diagram → Diagram
left_operand Apart ar a b = closed ar a
left_operand Shared ar a b = a

abbrev pub right_operand : Names → List ℕ → Diagram → Diagram → Diagram
right_operand Apart ar a b = after ar a b
right_operand Shared ar a b = b

-- results are closed up only when apart
abbrev pub finished : Names → List ℕ → Diagram → Diagram
finished Apart ar d = closed ar d
finished Shared ar d = d

-- the result
unfoldable pub combination : Operation → Names → List ℕ → Diagram → Diagram → Diagram
combination op names ar a b = finished names ar (apply (operate op) (left_operand names ar a b) (right_operand names ar a b))

-- more than 64 variables of a kind, those of both operands together when apart; shared names are 64 at most (rename `variables-few`)
abbrev pub too_many : Names → List ℕ → Diagram → Diagram → Bool
too_many Apart ar a b =
    ltb variable_count (length (variables ar a) + length (variables ar b)) || ltb minimum_count (length (minimums ar a) + length (minimums ar b))
too_many Shared ar a b = false

-- an apart call forms both operands' rows as renamed; other lent listings form none
abbrev pub operand_rows : Names → List ℕ → Diagram → Diagram → List Diagram
operand_rows Apart ar a b = onto (after ar a b) (onto (closed ar a) [])
operand_rows Shared ar a b = []

-- every pair forms its reduced diagram; equal rows are counted once, none given up; closing up and writing a result form none
unfoldable pub rows_formed : Operation → Names → List ℕ → Diagram → Diagram → ℕ
rows_formed op names ar a b =
    length (formed (operate op) (operand_rows names ar a b) (pairs op (left_operand names ar a b) (right_operand names ar a b)))

-- the operation's own checks, in order: variables (8), pairs (10), value (11), space (9)
unfoldable pub diagram_answer : Operation → Names → List ℕ → Diagram → Diagram → Combined
diagram_answer op names ar a b =
    cond (too_many names ar a b) (Refused Variables)
    (cond (ltb most_pairs (pair_count op (left_operand names ar a b) (right_operand names ar a b))) (Refused Pairs)
    (cond (overflows (operate op) (pairs op (left_operand names ar a b) (right_operand names ar a b))) (Refused Value)
    (cond (ltb space_rows (rows_formed op names ar a b)) (Refused Space)
    (cond (ltb most_rows (length (rows (combination op names ar a b)))) (Refused Space)
    (Done (length (rows (combination op names ar a b))) (pair_count op (left_operand names ar a b) (right_operand names ar a b)))))))

-- "a max asked for with shared names is done apart if either side has" a minimum variable
abbrev pub done_as : Operation → Names → List ℕ → Diagram → Diagram → Names
done_as Sum names ar a b = names
done_as Product names ar a b = names
done_as Max Apart ar a b = Apart
done_as Max Shared ar a b = cond (is_plain ar a && is_plain ar b) Shared Apart

-- a library call checks 14 by operand, then 18, then the operation's own
unfoldable pub combine_answer : Operation → Names → List ℕ → List ℕ → List ℕ → ℕ → ℕ → Combined
combine_answer op names ar x y out_length work_length =
    cond (not (is_listing ar x)) (Refused Listing)
    (cond (not (is_listing ar y)) (Refused Listing)
    (cond (ltb out_length result_words || ltb work_length space_words) (Refused Buffer)
    (diagram_answer op (done_as op names ar (diagram_of x) (diagram_of y)) ar (diagram_of x) (diagram_of y))))

-- the result buffer after the call: words behind a result stay, and a refused call changes none
abbrev pub written : Combined → List ℕ → List ℕ → List ℕ
written (Done n m) ws out = ws ++ drop (length ws) out
written (Refused r) ws out = out

unfoldable pub combine_result : Operation → Names → List ℕ → List ℕ → List ℕ → ℕ → List ℕ → List ℕ
combine_result op names ar x y work_length out =
    written (combine_answer op names ar x y (length out) work_length)
    (listing (combination op (done_as op names ar (diagram_of x) (diagram_of y)) ar (diagram_of x) (diagram_of y))) out
