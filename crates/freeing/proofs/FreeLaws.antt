-- Laws of the code of freeing.
use mathlib.Core.Path.{◌≡◌, refl, sym, ap, ◌∙◌}
use mathlib.Core.Bool.{Bool, true, false}
use mathlib.Core.List.{List, [], ◌∷◌, ◌++◌}
use Prim.Native.Nat.{ℕ, suc, ◌+◌, ◌-◌, ◌/◌, ◌≤◌, ◌<◌}
use native.Mathlib.Omega.{arith}
use lib.ListN.{length, drop, length-map}
use lib.Dec.{ltb}
use borrow.Author.Tests.{lt-ltb}
use Rattle.refusal.specs.declared.Refusal.{Refusal}
use Rattle.refusal.specs.declared.Refusal.TheVariants.{Listing, Buffer, Unbound, Range, Variables}
use Rattle.refusal.specs.Outcome.{ok, refused}
use Rattle.basics.specs.Tests.{Cmp, below, equal, above, cmp, or-one, or-other}
use Rattle.basics.specs.Members.{clash}
use Rattle.label.specs.Limits.{first_parameter, parameter_count, first_variable, first_minimum, term_end}
use Rattle.label.specs.Terms.{is_term}
use Rattle.label.proofs.LabelLaws.{low-term}
use Rattle.label.specs.Inner.{map_of}
use Rattle.label.specs.Renamings.{renamed, freeing}
use Rattle.diagram.specs.Sizes.{result_words, space_words}
use Rattle.diagram.specs.Diagram.{relabel}
use Rattle.diagram.specs.Rows.{rows}
use Rattle.diagram.specs.Words.{is_listing, row_count, up_to}
use Rattle.diagram.specs.WordLaws.{length-up_to}
use Rattle.diagram.specs.Listing.{listing, diagram_of, Good}
use Rattle.diagram.specs.Validity.{Valid, tree}
use Rattle.diagram.specs.DiagramOfListing.{rows_are}
use Rattle.diagram.specs.ListingValid.{listing-is-valid}
use Rattle.diagram.specs.Listings.{is-listing-good, is-listing-diagram}
use Rattle.diagram.specs.Variables.{occurs}
use Rattle.listing.specs.Used.{Used}
use Rattle.rename.specs.Calls.{Renamable}
use Rattle.rename.specs.Maps.{tabled}
use Rattle.rename.specs.MapLaws.{free-terms}
use Rattle.rename.specs.Inner.{relabelled, Freeable}
use Rattle.rename.specs.Freeing.{freed}
use Rattle.rename.specs.FreeingLaws.{freed-rows}
use Rattle.rename.specs.VariableLaws.{occurs-term}
use Rattle.rename.specs.RenamedWords.{freed-words}
use Rattle.regression.specs.RegressCall.{any_occurs, freed_outcome, written_as, free_outcome, free_answer, free_result, free_own}
use Rattle.regression.proofs.RegressCallLaws.{any-quiet}
use Rattle.regression.proofs.FreeCallLaws.{free_own_lem, free-listing, free-buffer, free-range, free-refused, freed-refused}
use Rattle.freeing.specs.FreeTasks.{any_set, FreeTask, FreedWith}
use Rattle.freeing.specs.MarkLaws.{used-any}
use Rattle.std.specs.Prelude.{Err, Ok, Result}

-- `write_freed`
length-relabelled : (g : ℕ → ℕ) (ws : List ℕ) → length (relabelled g ws) ≡ length ws
length-relabelled g [] = refl
length-relabelled g (x ∷ []) = refl
length-relabelled g (x ∷ y ∷ []) = refl
length-relabelled g (x ∷ y ∷ z ∷ ws) = ap (λ n. suc (suc (suc n))) (length-relabelled g ws)

module _ {ar words : List ℕ} {count : ℕ} {out : List ℕ} (task : FreeTask ar words count out) where
  pub task-renamable : (rest : List ℕ) {map : List ℕ} → map ≡ tabled (freeing count) term_end ++ rest → Renamable ar words map out
  task-renamable rest {map} e = record { listing = task.listing; terms = rw e (free-terms count rest task.few); room = task.room }

  pub task-written : (rest : List ℕ) {map out' : List ℕ} → Freeable ar count (diagram_of words) → map ≡ tabled (freeing count) term_end ++ rest
      → out' ≡ relabelled (renamed ar (map_of map)) words ++ drop (length words) out → out' ≡ written_as (ok (freed ar count (diagram_of words))) out
  task-written rest {map} {out'} free e w =
      w ∙ (λ i. is i ++ drop (size i) out)
    where
      is : relabelled (renamed ar (map_of map)) words ≡ listing (freed ar count (diagram_of words))
      is =
          ap (λ (m : List ℕ). relabelled (renamed ar (map_of m)) words) e
          ∙ ap (relabelled (renamed ar (map_of (tabled (freeing count) term_end ++ rest)))) (sym (is-listing-diagram ar words task.listing))
          ∙ freed-words ar count (diagram_of words) (is-listing-good ar words task.listing) free rest

      size : length words ≡ length (listing (freed ar count (diagram_of words)))
      size = sym (length-relabelled (renamed ar (map_of map)) words) ∙ ap length is

  -- `freed`
  pub task-valid : Valid ar words
  task-valid = listing-is-valid ar words task.listing

  module _ {ms : List ℕ} (u : Used ar (diagram_of words) ms) {b : Bool} (p : b ≡ any_set ms (first_parameter + count) (parameter_count - count)) where
    unbound : any_set ms (first_parameter + count) (parameter_count - count) ≡ any_occurs ar (diagram_of words) (first_parameter + count) (parameter_count - count)
    unbound = used-any ar (diagram_of words) ms u (first_parameter + count) (parameter_count - count) (omega arith)

    pub own-unbound : b ≡ true → FreedWith (free_own ar words count) (Err Unbound) out out
    unfolding free_own
    own-unbound e = let q = sym unbound ∙ sym p ∙ e in record { answer = rw q; result = rw q }

    module _ (e : b ≡ false) {c : Bool} (r : c ≡ any_set ms (first_minimum - count) count) where
      past : any_set ms (first_minimum - count) count ≡ any_occurs ar (diagram_of words) (first_minimum - count) count
      past = used-any ar (diagram_of words) ms u (first_minimum - count) count (omega (arith, task.few))

      pub own-variables : c ≡ true → FreedWith (free_own ar words count) (Err Variables) out out
      unfolding free_own freed_outcome
      own-variables h = let q = sym unbound ∙ sym p ∙ e in let k = sym past ∙ sym r ∙ h in record { answer = rw (q, k); result = rw (q, k) }

      pub own-freeable : c ≡ false → Freeable ar count (diagram_of words)
      own-freeable h = record {
        count = task.few;
        parameters = λ t o l. parameter t o l (kind t o);
        variables = λ t o l m. variable t o m (cmp (t + count) first_minimum);
      }
        where
          good : Good ar (diagram_of words)
          good = is-listing-good ar words task.listing

          kind : (t : ℕ) → occurs ar t (diagram_of words) ≡ true → is_term t ≡ true
          kind t o = occurs-term ar (diagram_of words) t good.fine o

          quiet : (t : ℕ) → first_parameter + count ≤ t → t < first_parameter + parameter_count → occurs ar t (diagram_of words) ≡ false
          quiet t i j =
              any-quiet ar (diagram_of words) (first_parameter + count) (parameter_count - count) (sym unbound ∙ sym p ∙ e) t i (omega (arith, task.few))

          parameter : (t : ℕ) → occurs ar t (diagram_of words) ≡ true → t < first_variable → is_term t ≡ true → t < first_parameter + count
          parameter t o l k = go (cmp t (first_parameter + count))
            where
              go : Cmp t (first_parameter + count) → t < first_parameter + count
              go (below x) = x
              go (equal x) = clash o (quiet t (omega arith) (low-term t k l))
              go (above x) = clash o (quiet t (omega arith) (low-term t k l))

          variable : (t : ℕ) → occurs ar t (diagram_of words) ≡ true → t < first_minimum → Cmp (t + count) first_minimum → t + count < first_minimum
          variable t o m (below x) = x
          variable t o m (equal x) =
              clash o (any-quiet ar (diagram_of words) (first_minimum - count) count (sym past ∙ sym r ∙ h) t (omega arith) (omega (arith, task.few)))
          variable t o m (above x) =
              clash o (any-quiet ar (diagram_of words) (first_minimum - count) count (sym past ∙ sym r ∙ h) t (omega arith) (omega (arith, task.few)))

      pub own-done : c ≡ false → {out' : List ℕ} → out' ≡ written_as (ok (freed ar count (diagram_of words))) out
          → FreedWith (free_own ar words count) (Ok (length words / 3)) out out'
      unfolding free_own freed_outcome freed
      own-done h {out'} w =
          let q = sym unbound ∙ sym p ∙ e in
          let k = sym past ∙ sym r ∙ h in
          record { answer = rw (q, k) (ap Ok count-is); result = rw (q, k) w }
        where
          good : Good ar (diagram_of words)
          good = is-listing-good ar words task.listing

          count-is : length words / 3 ≡ length (rows (relabel (renamed ar (freeing count)) (diagram_of words)))
          count-is =
              sym (ap length (rows_are ar words task-valid) ∙ length-map (up_to (row_count words)) (tree words) ∙ length-up_to (row_count words))
              ∙ sym (freed-rows ar count (diagram_of words) good (own-freeable h))

-- `free`
module _ (ar words : List ℕ) (count : ℕ) (out : List ℕ) (w : ℕ) where
  abbrev Says : Result ℕ Refusal → List ℕ → Type 0
  Says r out' = (r ≡ free_answer ar words count (length out) w) × (out' ≡ free_result ar words count w out)

  says : {why : Refusal} → free_outcome ar words count (length out) w ≡ refused why → Says (Err why) out
  says {why} e = (sym (free-refused ar words count (length out) w why e), sym (freed-refused ar words count w out why e))

  module _ {b : Bool} (p : b ≡ is_listing ar words) where
    pub free-none : b ≡ false → Says (Err Listing) out
    free-none e = says (free-listing ar words count (length out) w (sym p ∙ e))

    module _ (e : b ≡ true) where
      pub free-short : length out < result_words → Says (Err Buffer) out
      free-short h = says (free-buffer ar words count (length out) w (sym p ∙ e) (or-one _ _ (lt-ltb (length out) result_words h)))

      pub free-narrow : w < space_words → Says (Err Buffer) out
      free-narrow h = says (free-buffer ar words count (length out) w (sym p ∙ e) (or-other (ltb (length out) result_words) _ (lt-ltb w space_words h)))

      module _ (h : result_words ≤ length out) (k : space_words ≤ w) where
        pub free-many : parameter_count < count → Says (Err Range) out
        free-many l = says (free-range ar words count (length out) w (sym p ∙ e) h k l)

        pub free-task : count ≤ parameter_count → FreeTask ar words count out
        free-task l =
            let v = listing-is-valid ar words (sym p ∙ e) in
            record { listing = sym p ∙ e; few = l; room = omega (arith, v.whole, v.few) }

        pub free-done : count ≤ parameter_count → {r : Result ℕ Refusal} {out' : List ℕ} → FreedWith (free_own ar words count) r out out' → Says r out'
        unfolding free_answer free_result
        free-done l g = let z = free_own_lem ar words count (length out) w (sym p ∙ e) h k l in (rw z g.answer, rw z g.result)
