-- The ways through the exported calls: an answer taken apart and given as numbers.
use mathlib.Core.Path.{◌≡◌, sym, ap, ◌∙◌}
use mathlib.Core.Bool.{Bool, true, false}
use mathlib.Core.List.{List}
use Prim.Native.Nat.{ℕ}
use lib.ListN.{length}
use Rattle.refusal.specs.declared.Refusal.{Refusal}
use Rattle.refusal.specs.declared.Refusal.TheVariants.{Listing}
use Rattle.refusal.specs.Numbers.{number_of}
use Rattle.apply.specs.declared.Operation.{Operation}
use Rattle.apply.specs.declared.Names.{Names}
use Rattle.apply.specs.declared.Combined.{Combined}
use Rattle.apply.specs.declared.Combined.TheVariants.{Done as CombinedDone, Refused as CombinedRefused}
use Rattle.apply.specs.Combination.{combine_answer, combine_result}
use Rattle.regression.specs.RegressCall.{regress_answer, regress_result, free_answer, free_result}
use Rattle.cutting.specs.declared.Edge.{Edge}
use Rattle.cutting.specs.declared.Cut.{Cut}
use Rattle.cutting.specs.declared.Cut.TheVariants.{Done as CutDone, Refused as CutRefused}
use Rattle.cutting.specs.Cut.{cut_answer, cut_buffer}
use Rattle.reduction.specs.Reduction.{reduce_call, answer_of, buffer_of}
use Rattle.elimination.specs.Answer.{value_answer}
use Rattle.texts.specs.declared.Ran.{Ran}
use Rattle.texts.specs.declared.Ran.TheVariants.{Done as RanDone, Full}
use Rattle.texts.specs.Running.{filled, Fills}
use Rattle.c_library.specs.Answers.{combined_number, combined_rows, combined_pairs, rows_number, rows_after, cut_number, cut_row, edge_number, cut_edge}
use Rattle.c_library.specs.Answers.{cut_rows, valued_number, valued_value, listing_number, full_number, ran_number, ran_bytes, ran_lines}
use Rattle.c_library.specs.Calls.{Combines, Regresses, Frees, Cuts, Reduces, Values, Runs}
use Rattle.std.specs.Prelude.{Err, Ok, Result}

module _ {op : Operation} {names : Names} {ar x y out work : List ℕ} (rows pairs : ℕ) {a : Combined} {out' : List ℕ}
    (q : a ≡ combine_answer op names ar x y (length out) (length work)) (b : out' ≡ combine_result op names ar x y (length work) out) where
  pub combined-done : {n p : ℕ} → a ≡ CombinedDone n p → Combines op names ar x y out work rows pairs 0 out' n p
  combined-done e = record {
    answer = ap combined_number (sym e ∙ q);
    buffer = b;
    row_count = ap (λ (z : Combined). combined_rows z rows) (sym e ∙ q);
    pair-count = ap (λ (z : Combined). combined_pairs z pairs) (sym e ∙ q);
  }

  pub combined-refused : {why : Refusal} {k : ℕ} → a ≡ CombinedRefused why → k ≡ number_of why → Combines op names ar x y out work rows pairs k out' rows pairs
  combined-refused e h = record {
    answer = h ∙ ap combined_number (sym e ∙ q);
    buffer = b;
    row_count = ap (λ (z : Combined). combined_rows z rows) (sym e ∙ q);
    pair-count = ap (λ (z : Combined). combined_pairs z pairs) (sym e ∙ q);
  }

module _ {ar words out work : List ℕ} (row edge rows : ℕ) {a : Cut} {out' : List ℕ}
    (q : a ≡ cut_answer ar words (length out) (length work)) (b : out' ≡ cut_buffer ar words out (length work)) where
  pub cut-done : {k n g : ℕ} {e : Edge} → a ≡ CutDone k e n → g ≡ edge_number e → Cuts ar words out work row edge rows 0 out' k g n
  cut-done h i = record {
    answer = ap cut_number (sym h ∙ q);
    buffer = b;
    row_cut = ap (λ (z : Cut). cut_row z row) (sym h ∙ q);
    edge-cut = i ∙ ap (λ (z : Cut). cut_edge z edge) (sym h ∙ q);
    row_count = ap (λ (z : Cut). cut_rows z rows) (sym h ∙ q);
  }

  pub cut-refused : {why : Refusal} {k : ℕ} → a ≡ CutRefused why → k ≡ number_of why → Cuts ar words out work row edge rows k out' row edge rows
  cut-refused e h = record {
    answer = h ∙ ap cut_number (sym e ∙ q);
    buffer = b;
    row_cut = ap (λ (z : Cut). cut_row z row) (sym e ∙ q);
    edge-cut = ap (λ (z : Cut). cut_edge z edge) (sym e ∙ q);
    row_count = ap (λ (z : Cut). cut_rows z rows) (sym e ∙ q);
  }

module _ {ar words out work : List ℕ} (rows : ℕ) {a : Result ℕ Refusal} {out' : List ℕ}
    (q : a ≡ answer_of (reduce_call ar words (length out) (length work))) (b : out' ≡ buffer_of out (reduce_call ar words (length out) (length work))) where
  pub reduced-done : {n : ℕ} → a ≡ Ok n → Reduces ar words out work rows 0 out' n
  reduced-done e = record { answer = ap rows_number (sym e ∙ q); buffer = b; row_count = ap (λ (z : Result ℕ Refusal). rows_after z rows) (sym e ∙ q) }

  pub reduced-refused : {why : Refusal} {k : ℕ} → a ≡ Err why → k ≡ number_of why → Reduces ar words out work rows k out' rows
  reduced-refused e h = record { answer = h ∙ ap rows_number (sym e ∙ q); buffer = b; row_count = ap (λ (z : Result ℕ Refusal). rows_after z rows) (sym e ∙ q) }

module _ {ar words : List ℕ} {n : ℕ} {constants facts : List ℕ} (value : ℕ) {a : Result ℕ Refusal} (q : a ≡ value_answer ar words n constants facts) where
  pub valued-done : {v : ℕ} → a ≡ Ok v → Values ar words n constants facts value 0 v
  valued-done e = record { answer = ap valued_number (sym e ∙ q); highest = ap (λ (z : Result ℕ Refusal). valued_value z value) (sym e ∙ q) }

  pub valued-refused : {why : Refusal} {k : ℕ} → a ≡ Err why → k ≡ number_of why → Values ar words n constants facts value k value
  valued-refused e h = record { answer = h ∙ ap valued_number (sym e ∙ q); highest = ap (λ (z : Result ℕ Refusal). valued_value z value) (sym e ∙ q) }

module _ {b c : Bool} (q : b ≡ c) where
  pub listing-is : b ≡ true → 0 ≡ listing_number c
  listing-is e = ap listing_number (sym e ∙ q)

  pub listing-not : {k : ℕ} → b ≡ false → k ≡ number_of Listing → k ≡ listing_number c
  listing-not e h = h ∙ ap listing_number (sym e ∙ q)

module _ (text : List ℕ) {out : List ℕ} (lines : ℕ) {a : Ran} {out' : List ℕ} (x : Fills (filled (length out) text) out a out') where
  pub ran-done : {n : ℕ} → a ≡ RanDone n → Runs text out lines 0 out' n lines
  ran-done e = record {
    answer = ap ran_number (sym e ∙ x.answer);
    buffer = x.result;
    byte-count = ap ran_bytes (sym e ∙ x.answer);
    line-count = ap (λ (z : Ran). ran_lines z lines) (sym e ∙ x.answer);
  }

  pub ran-full : {n k : ℕ} → a ≡ Full n k → Runs text out lines full_number out' n k
  ran-full e = record {
    answer = ap ran_number (sym e ∙ x.answer);
    buffer = x.result;
    byte-count = ap ran_bytes (sym e ∙ x.answer);
    line-count = ap (λ (z : Ran). ran_lines z lines) (sym e ∙ x.answer);
  }
