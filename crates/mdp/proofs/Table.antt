-- The ten marked cases of document 01's checklist, and cases of document 02, L13 and L12, computed from the definitions.
use Rattle.std.specs.Prelude.{◌≡◌, refl, [], ◌∷◌, ◌+◌, ◌-◌, replicate}
use Rattle.refusal.specs.declared.Refusal.TheVariants.{Value, Scale, Nothing, Minimum, Kinds}
use Rattle.refusal.specs.Outcome.{ok, refused, and_then}
use Rattle.label.specs.Limits.{predicate_count, equality_arity, first_variable, first_minimum, leaf_mark}
use Rattle.label.specs.Terms.{is_constant, is_variable}
use Rattle.label.specs.Labels.{terms_of, unpacked, predicate_of, packed, test_of, equates}
use Rattle.label.specs.Renamings.{moved, renamed, mapped, placed, numbering, freeing}
use Rattle.diagram.specs.Sizes.{highest_value}
use Rattle.diagram.specs.Diagram.{leaf, branch}
use Rattle.diagram.specs.Listing.{listing}
use Rattle.diagram.specs.Variables.{variables, closed, after}
use Rattle.apply.specs.Apply.{apply}
use Rattle.apply.specs.Pairs.{ends, pairs, pair_count, overflows}
use Rattle.apply.specs.Formed.{formed}
use Rattle.apply.specs.declared.Operation.TheVariants.{Sum, Max}
use Rattle.apply.specs.declared.Names.TheVariants.{Shared}
use Rattle.apply.specs.declared.Combined.TheVariants.{Done, Refused}
use Rattle.apply.specs.Combination.{rows_formed, combination, diagram_answer}
use Rattle.state.specs.State.{meaning}
use Rattle.minimum.specs.Number.{number}
use Rattle.regression.specs.Step.{label_test}
use Rattle.regression.specs.Regression.{truth_at}
use Rattle.cutting.specs.declared.Edge.TheVariants.{False}
use Rattle.cutting.specs.declared.Cut.TheVariants.{Done as CutDone, Refused as CutRefused}
use Rattle.cutting.specs.Cut.{diagram_answer as cut_answer}
use Rattle.reduction.specs.Combinations.{formed as combinations_formed}
use Rattle.reduction.specs.Reduction.{reduced_diagram, reduce_answer}
use Rattle.mdp.specs.Model.{scale}
use Rattle.mdp.specs.Example.{for_first, stock, run_model, everywhere, nothing_true, stock_at_hub}
use Rattle.mdp.specs.Cases.{shown, eight_model, ab, ba, linked, pair_model, path_to_zero}
use Rattle.mdp.specs.Backup.{combined, backup}
use Rattle.mdp.specs.Runs.{a_backup, a_cut, a_reduce, run}

-- The run's three values; both cut answers; 10^18 + 0 passes and 10^18 + 1 is refused; with S = 8 the 19th backup passes and the 20th is 12; the truth
-- diagram of p(?a ?b) testing p(?a ?b), used at p(?b ?a), is the test of p(?b ?a).
pub table : (shown run_model [] nothing_true ≡ (0, 0, 1))
    × (shown run_model (a_backup ∷ a_cut ∷ []) nothing_true ≡ (30, 1, 8))
    × (shown run_model (a_backup ∷ a_cut ∷ a_cut ∷ []) stock_at_hub ≡ (120, 1, 8))
    × (cut_answer run_model.arities (run run_model (a_backup ∷ [])).diagram ≡ CutDone 5 False 5)
    × (cut_answer run_model.arities (run run_model (a_backup ∷ a_cut ∷ [])).diagram ≡ CutRefused Nothing)
    × (diagram_answer Sum Shared run_model.arities (leaf highest_value) (leaf 0) ≡ Done 1 1)
    × (diagram_answer Sum Shared run_model.arities (leaf highest_value) (leaf 1) ≡ Refused Value)
    × ((run eight_model (replicate 19 a_backup)).steps ≡ 19)
    × (backup eight_model 19 (run eight_model (replicate 19 a_backup)).diagram ≡ refused Scale)
    × (and_then (truth_at (equality_arity ∷ 2 ∷ replicate (predicate_count - 2) 0) (for_first (label_test ab)) ba []) (λ r. ok r.0) ≡ ok (label_test ba))
unfolding run number meaning scale cut_answer diagram_answer combination rows_formed formed ends pairs pair_count overflows apply
    backup truth_at variables closed after moved test_of equates renamed numbering freeing mapped placed packed unpacked predicate_of terms_of is_variable
table = (refl, refl, refl, refl, refl, refl, refl, refl, refl, refl)

-- What several paths do together: where p(?b ?a) holds, p(?b ?b) holds or not, and each way another path has the leaf 1. No single one covers both ways, so that a cut
-- finds nothing (16); a reduction takes the test of p(?b ?a) away. It forms 28 combinations, those for the first valuations counted too.
pub table-reduction : (cut_answer pair_model.arities pair_model.reward ≡ CutRefused Nothing)
    × ((run pair_model (a_cut ∷ [])).diagram ≡ linked (branch ba (leaf 1) (leaf 0)))
    × ((run pair_model (a_cut ∷ a_reduce ∷ [])).diagram ≡ linked (leaf 0))
    × (combinations_formed pair_model.arities pair_model.reward ≡ 28)
unfolding run cut_answer combinations_formed variables closed moved test_of equates renamed numbering mapped placed packed unpacked predicate_of terms_of is_constant is_variable
table-reduction = (refl, refl, refl, refl)

-- Where nothing holds every path that is followed has the leaf 0, and one of them wins too: it leads over the false edge of p(?a ?a), on which no other winning path lies.
pub table-path-to-zero : reduced_diagram pair_model.arities path_to_zero ≡ path_to_zero
unfolding reduced_diagram variables closed moved test_of equates renamed numbering mapped placed packed unpacked predicate_of terms_of is_constant is_variable
table-path-to-zero = refl

-- the rows that the run shows after its backup, its labels with the numbers of document 02, L8: stock(hub) is 2^48, hub = ?v0 is 64 · 2^32
pub run-rows : listing (run run_model (a_backup ∷ [])).diagram
    ≡ leaf_mark ∷ 120 ∷ 0
    ∷ leaf_mark ∷ 30 ∷ 0
    ∷ 281474976710656 ∷ 0 ∷ 1
    ∷ leaf_mark ∷ 0 ∷ 0
    ∷ 281474976710656 ∷ 0 ∷ 3
    ∷ 274877906944 ∷ 2 ∷ 4
    ∷ []
unfolding listing run scale diagram_answer combination rows_formed formed ends pairs pair_count overflows apply
    backup truth_at variables closed after moved test_of equates renamed numbering freeing mapped placed packed unpacked predicate_of terms_of is_variable
run-rows = refl

-- Minimum variables (document 02, L12). A max asked for with shared names is done apart if either side has one: 7 if stock(%v0), else 3 if stock(%v1), else 7; shared it would
-- be 7. Without them it is shared. With stock at one of two objects the higher of 3 and 3 is 3. A cut is 25, a reduction 26. One backup fills the other object with 3 chances
-- of 4, of 10 each; with stock nowhere it fills one of two in vain.
pub table-minimum : (combined Max Shared run_model.arities (branch (stock first_minimum) (leaf 7) (leaf 3)) (branch (stock first_minimum) (leaf 3) (leaf 7))
    ≡ ok (branch (stock first_minimum) (leaf 7) (branch (stock (first_minimum + 1)) (leaf 3) (leaf 7))))
    × (combined Max Shared run_model.arities (branch (stock first_variable) (leaf 7) (leaf 3)) (branch (stock first_variable) (leaf 3) (leaf 7)) ≡ ok (leaf 7))
    × (number stock_at_hub [] (meaning run_model.arities (branch (stock first_minimum) (leaf 7) (branch (stock (first_minimum + 1)) (leaf 3) (leaf 7)))) ≡ 3)
    × (cut_answer run_model.arities everywhere.reward ≡ CutRefused Minimum)
    × (reduce_answer run_model.arities everywhere.reward ≡ refused Kinds)
    × (shown everywhere (a_backup ∷ []) stock_at_hub ≡ (30, 1, 8))
    × (shown everywhere (a_backup ∷ []) nothing_true ≡ (0, 1, 8))
unfolding run number meaning scale cut_answer reduce_answer combined diagram_answer combination rows_formed formed ends pairs pair_count overflows apply
    backup truth_at variables closed after moved test_of equates renamed numbering freeing mapped placed packed unpacked predicate_of terms_of is_constant is_variable
table-minimum = (refl, refl, refl, refl, refl, refl, refl)
