-- The ways out of `reduce_checked`.
use mathlib.Core.Path.{◌≡◌, refl, sym, ap, ap₂, subst, ◌∙◌}
use mathlib.Core.Bool.{Bool, true, false, not, ◌||◌, cond}
use mathlib.Core.List.{List}
use Prim.Native.Nat.{ℕ, suc, pred, ◌-◌, ◌*◌, ◌/◌, ◌^◌, ◌≤◌, ◌<◌, min}
use native.Mathlib.Omega.{arith}
use native.Mathlib.Nat.{mul-le-mul, mul-le-mul_left}
use lib.ListN.{length, get_or, replicate, length-replicate}
use lib.Dec.{ltb}
use borrow.Author.Tests.{lt-ltb, le-ltb, not-true, not-false}
use Rattle.refusal.specs.declared.Refusal.{Refusal}
use Rattle.refusal.specs.declared.Refusal.TheVariants.{Unbound, Listing, Paths, Buffer, Kinds, Runs}
use Rattle.refusal.specs.Outcome.{Outcome, refused}
use Rattle.basics.specs.Tests.{Cmp, cmp, below, equal, above, or-one, or-other}
use Rattle.label.specs.Limits.{variable_count}
use Rattle.listing.specs.Used.{Used, marked_variables}
use Rattle.listing.specs.UsedLaws.{marked-variables}
use Rattle.diagram.specs.Sizes.{most_rows, result_words, space_words}
use Rattle.diagram.specs.Diagram.{Diagram}
use Rattle.diagram.specs.Words.{row_count, is_listing}
use Rattle.diagram.specs.Listing.{diagram_of}
use Rattle.diagram.specs.Validity.{Valid, tree}
use Rattle.diagram.specs.Variables.{variables}
use Rattle.diagram.specs.DiagramOfListing.{diagram-is}
use Rattle.diagram.specs.ListingValid.{listing-is-valid}
use Rattle.rename.specs.VariableLaws.{variables-few}
use Rattle.paths.specs.Paths.{paths, most_paths}
use Rattle.paths.specs.PathLaws.{listing-rows, paths-some}
use Rattle.paths.specs.Inner.{Rows, Counted, Routed}
use Rattle.reduction.specs.Reduction.{has_kinds, most_runs, runs, reduce_answer, answer_of, buffer_of, has_parameter, reduce_call}
use Rattle.reduce.specs.Winning.{Plain, ReduceCallAnswered, Reducible}
use Rattle.reduce.proofs.CallLaws.{answer-paths, answer-kinds, answer-runs}
use Rattle.std.specs.Prelude.{Err, Result}

answered : (ar ws out : List ℕ) (x : Refusal) → reduce_answer ar (diagram_of ws) ≡ refused x → ReduceCallAnswered ar ws out (Err x) out
answered ar ws out x e = record { answer = sym (ap answer_of e); words = sym (ap (buffer_of out) e) }

module _ {ar ws out work : List ℕ} (g : Reducible ar ws out work) where
  pub check-valid : Valid ar ws
  check-valid = listing-is-valid ar ws g.listing

  abbrev d : Diagram
  d = diagram_of ws

  pub check-rows : Rows ws (length ws / 3)
  check-rows = listing-rows ar ws g.listing

  pub check-some : 1 ≤ length ws / 3
  check-some = check-valid.some

  pub check-room : (x : ℕ) → most_rows ≤ x → length ws / 3 ≤ length {A = ℕ} (replicate x 0)
  check-room x h = rw length-replicate (omega (arith, check-valid.few))

  root_is : tree ws (length ws / 3 - 1) ≡ d
  root_is = let e : length ws / 3 - 1 ≡ pred (row_count ws) = omega arith in ap (tree ws) e ∙ sym (diagram-is ar ws check-valid)

  module _ {counts : List ℕ} (c : Counted ws counts (length ws / 3)) where
    abbrev M : ℕ
    M = get_or counts (length ws / 3 - 1) 0

    count-is : M ≡ min 257 (length (paths d))
    count-is = c.each (length ws / 3 - 1) (omega (arith, check-some)) ∙ ap (λ (x : Diagram). min 257 (length (paths x))) root_is

    pub check-many : most_paths < M → ReduceCallAnswered ar ws out (Err Paths) out
    check-many h = answered ar ws out Paths (answer-paths ar d (omega (arith, count-is)))

    module _ (h : M ≤ most_paths) where
      few : length (paths d) ≡ M
      few = omega (arith, count-is)

      some : 1 ≤ M
      some = omega (arith, few, paths-some d)

      routed : Routed ws counts (length ws / 3) M
      routed = record {
        rows = check-rows;
        some = check-some;
        counted = c;
        all = ap (λ (x : Diagram). length (paths x)) root_is ∙ few;
        few = h;
      }

      module _ {b : Bool} (q : b ≡ has_kinds ar d) where
        pub check-kinds : b ≡ true → ReduceCallAnswered ar ws out (Err Kinds) out
        check-kinds e = answered ar ws out Kinds (answer-kinds ar d (omega (arith, few)) (sym q ∙ e))

        module _ (e : b ≡ false) {used : List ℕ} (u : Used ar d used) {v : ℕ} (k : v ≡ marked_variables used) where
          kinds : has_kinds ar d ≡ false
          kinds = sym q ∙ e

          count : v ≡ length (variables ar d)
          count = k ∙ marked-variables ar d used u

          pub check-variables : v ≤ variable_count
          check-variables = omega (arith, count, variables-few ar d)

          runs-are : runs ar d ≡ v ^ v * M
          unfolding runs
          runs-are = ap₂ (λ (x y : ℕ). x ^ x * y) (sym count) few

          module _ {all : ℕ} (a : all ≡ min (suc most_runs) (v ^ v)) where
            pub check-small : all * M ≤ suc most_runs * most_paths
            check-small = mul-le-mul (let z : all ≤ suc most_runs = omega arith in z) h

            pub check-runs : most_runs < all * M → ReduceCallAnswered ar ws out (Err Runs) out
            check-runs l = answered ar ws out Runs (answer-runs ar d (omega (arith, few)) kinds (subst (λ (x : ℕ). most_runs < x) (sym runs-are) (go (cmp most_runs (v ^ v)))))
              where
                same : v ^ v ≤ most_runs → most_runs < v ^ v * M
                same s = subst (λ (x : ℕ). most_runs < x * M) (let z : all ≡ v ^ v = omega arith in z) l

                go : Cmp most_runs (v ^ v) → most_runs < v ^ v * M
                go (below s) = let z = mul-le-mul_left (v ^ v) some in omega (arith, z)
                go (equal s) = same (omega arith)
                go (above s) = same (omega arith)

            pub check-plain : all * M ≤ most_runs → Plain ar ws counts used (length ws / 3) M v all out work
            check-plain l =
                let z = mul-le-mul_left all some in
                record {
                  listing = g.listing;
                  whole = refl;
                  routed = routed;
                  marks = u;
                  count = count;
                  power = omega (arith, z);
                  few = l;
                  kinds = kinds;
                  out-room = g.out-room;
                  work-room = g.work-room;
                }

-- ===== `reduce` =====
abbrev pub Promised : List ℕ → List ℕ → List ℕ → List ℕ → Result ℕ Refusal → List ℕ → Type 0
Promised ar ws out work r out' = (r ≡ answer_of (reduce_call ar ws (length out) (length work))) × (out' ≡ buffer_of out (reduce_call ar ws (length out) (length work)))

module _ (ar ws out work : List ℕ) where
  abbrev Call : Outcome Diagram
  Call = reduce_call ar ws (length out) (length work)

  pick : Bool → Bool → Bool → Outcome Diagram → Outcome Diagram
  pick a b c x = cond (not a) (refused Listing) (cond b (refused Buffer) (cond c (refused Unbound) x))

  call-pick : Call ≡ pick (is_listing ar ws) (ltb (length out) result_words || ltb (length work) space_words) (has_parameter ar (diagram_of ws)) (reduce_answer ar (diagram_of ws))
  unfolding reduce_call pick
  call-pick = refl

  not_made : (x : Refusal) → Call ≡ refused x → Promised ar ws out work (Err x) out
  not_made x e = (sym (ap answer_of e), sym (ap (buffer_of out) e))

  module _ {b : Bool} (e : b ≡ is_listing ar ws) where
    pub call-listing : not b ≡ true → Promised ar ws out work (Err Listing) out
    unfolding pick
    call-listing f = not_made Listing
        (call-pick
        ∙ ap (λ (a : Bool). pick a (ltb (length out) result_words || ltb (length work) space_words) (has_parameter ar (diagram_of ws)) (reduce_answer ar (diagram_of ws)))
        (sym e ∙ not-true b f))

    module _ (f : not b ≡ false) where
      pub call-listed : is_listing ar ws ≡ true
      call-listed = sym e ∙ not-false b f

      small : (ltb (length out) result_words || ltb (length work) space_words) ≡ true → Call ≡ refused Buffer
      unfolding pick
      small q = call-pick ∙ ap₂ (λ (a c : Bool). pick a c (has_parameter ar (diagram_of ws)) (reduce_answer ar (diagram_of ws))) call-listed q

      pub call-out : length out < result_words → Promised ar ws out work (Err Buffer) out
      call-out h = not_made Buffer (small (or-one _ _ (lt-ltb (length out) result_words h)))

      pub call-work : length work < space_words → Promised ar ws out work (Err Buffer) out
      call-work h = not_made Buffer (small (or-other (ltb (length out) result_words) _ (lt-ltb (length work) space_words h)))

      module _ (h : result_words ≤ length out) (k : space_words ≤ length work) where
        large : (ltb (length out) result_words || ltb (length work) space_words) ≡ false
        large = ap₂ (λ (a c : Bool). a || c) (le-ltb (length out) result_words h) (le-ltb (length work) space_words k)

        asked : (c : Bool) → has_parameter ar (diagram_of ws) ≡ c → Call ≡ pick true false c (reduce_answer ar (diagram_of ws))
        asked c q =
            call-pick ∙ ap₂ (λ (a x : Bool). pick a x (has_parameter ar (diagram_of ws)) (reduce_answer ar (diagram_of ws))) call-listed large
            ∙ ap (λ (x : Bool). pick true false x (reduce_answer ar (diagram_of ws))) q

        pub call-reducible : Reducible ar ws out work
        call-reducible = record { listing = call-listed; out-room = h; work-room = k }

        module _ {p : Bool} (q : p ≡ has_parameter ar (diagram_of ws)) where
          pub call-unbound : p ≡ true → Promised ar ws out work (Err Unbound) out
          unfolding pick
          call-unbound z = not_made Unbound (asked true (sym q ∙ z))

          pub call-done : p ≡ false → {r : Result ℕ Refusal} {out' : List ℕ} → ReduceCallAnswered ar ws out r out' → Promised ar ws out work r out'
          unfolding pick
          call-done z {r} {out'} a = let e : Call ≡ reduce_answer ar (diagram_of ws) = asked false (sym q ∙ z) in (a.answer ∙ sym (ap answer_of e), a.words ∙ sym (ap (buffer_of out) e))
