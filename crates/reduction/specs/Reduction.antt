-- Reduction by model checking: what is left, and what refuses it (document 02, L13).
use Rattle.std.specs.Prelude.{Bool, true, false, not, ◌&&◌, ◌||◌, cond, List, ℕ, ◌*◌, ◌^◌, length, eqb, ltb}
use Rattle.refusal.specs.declared.Refusal.TheVariants.{Unbound, Listing, Paths, Buffer, Kinds, Runs, Combinations}
use Rattle.refusal.specs.Outcome.{Outcome, ok, refused}
use Rattle.label.specs.Limits.{equality, first_parameter, parameter_count}
use Rattle.label.specs.Terms.{is_constant}
use Rattle.label.specs.Labels.{predicate_of, unpacked, terms_of}
use Rattle.diagram.specs.Diagram.{Diagram, leaf, branch}
use Rattle.diagram.specs.Rows.{rows}
use Rattle.diagram.specs.Sizes.{result_words, space_words}
use Rattle.diagram.specs.Words.{is_listing}
use Rattle.diagram.specs.Listing.{listing, diagram_of}
use Rattle.diagram.specs.Variables.{variables, is_plain, closed}
use Rattle.regression.specs.RegressCall.{any_occurs}
use Rattle.paths.specs.Paths.{paths, most_paths, through}
use Rattle.paths.specs.Routes.{path_at}
use Rattle.cutting.specs.Cut.{reduced, written}
use Rattle.reduction.specs.Combinations.{some_of, winners, formed}
use Rattle.refusal.specs.declared.Refusal.{Refusal}
use Rattle.std.specs.Prelude.{Err, Ok, Result}

-- ===== "turn every edge on no winning path to 0, then reduce and close up" =====

-- the edge of the row r on the side b is on one of these paths
unfoldable pub is_on : Diagram → List ℕ → Diagram → Bool → Bool
unfolding through path_at
is_on d ks r b = some_of (λ k. through r b (path_at d k)) ks

-- the edges that stay are those that the test names by row and side; every other one goes to leaf 0, all at once
unfoldable pub keeping : (Diagram → Bool → Bool) → Diagram → Diagram
keeping stays (leaf v) = leaf v
keeping stays (branch l t f) =
    branch l
    (cond (stays (branch l t f) true) (keeping stays t) (leaf 0))
    (cond (stays (branch l t f) false) (keeping stays f) (leaf 0))

unfoldable pub reduced_diagram : List ℕ → Diagram → Diagram
unfolding keeping is_on winners reduced closed
reduced_diagram ar d = closed ar (reduced (keeping (is_on d (winners ar d)) d))

-- ===== What refuses it =====

-- neither equality nor a constant is present
unfoldable pub is_general : List ℕ → Diagram → Bool
is_general ar (leaf v) = true
is_general ar (branch l t f) =
    not (eqb (predicate_of l) equality) && (not (some_of is_constant (terms_of ar (unpacked l))) && (is_general ar t && is_general ar f))

-- 26: "equality, a constant or a minimum variable is present"
unfoldable pub has_kinds : List ℕ → Diagram → Bool
unfolding is_general is_plain
has_kinds ar d = not (is_general ar d && is_plain ar d)

-- 27: "valuations times paths pass 512"
abbrev pub most_runs : ℕ
most_runs = 512

unfoldable pub runs : List ℕ → Diagram → ℕ
unfolding variables paths
runs ar d = length (variables ar d) ^ length (variables ar d) * length (paths d)

-- 28: "combinations formed pass 100,000"
abbrev pub most_formed : ℕ
most_formed = 100000

-- the diagram that is left, or why there is none: 26, 27 and 28 "in this order and after 17"
unfoldable pub reduce_answer : List ℕ → Diagram → Outcome Diagram
unfolding has_kinds runs formed reduced_diagram paths
reduce_answer ar d =
    cond (ltb most_paths (length (paths d))) (refused Paths)
    (cond (has_kinds ar d) (refused Kinds)
    (cond (ltb most_runs (runs ar d)) (refused Runs)
    (cond (ltb most_formed (formed ar d)) (refused Combinations)
    (ok (reduced_diagram ar d)))))

-- ===== What the call answers =====

-- a parameter occurs in d
unfoldable pub has_parameter : List ℕ → Diagram → Bool
unfolding any_occurs
has_parameter ar d = any_occurs ar d first_parameter parameter_count

-- what a reduction of the words ws answers, with n words of result buffer and m of working space: "Library calls check 14 by operand, then 18"; then 6 for a parameter
unfoldable pub reduce_call : List ℕ → List ℕ → ℕ → ℕ → Outcome Diagram
reduce_call ar ws n m =
    cond (not (is_listing ar ws)) (refused Listing)
    (cond (ltb n result_words || ltb m space_words) (refused Buffer)
    (cond (has_parameter ar (diagram_of ws)) (refused Unbound)
    (reduce_answer ar (diagram_of ws))))

-- "printing (reduce rows)"
abbrev pub answer_of : Outcome Diagram → Result ℕ Refusal
answer_of (ok r) = Ok (length (rows r))
answer_of (refused x) = Err x

-- the result buffer after a reduction: the listing of what is left, the words behind it as they were; after a refusal as it was
abbrev pub buffer_of : List ℕ → Outcome Diagram → List ℕ
buffer_of out (ok r) = written (listing r) out
buffer_of out (refused x) = out
