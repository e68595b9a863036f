-- The ways out of the public call.
use mathlib.Core.Path.{◌≡◌, refl, sym, ap, subst, ◌∙◌}
use mathlib.Core.Bool.{Bool, true, false, not, cond, ◌&&◌}
use mathlib.Core.List.{List}
use Prim.Native.Nat.{ℕ, ◌≤◌, ◌<◌}
use lib.ListN.{length}
use lib.Dec.{eqb, ltb}
use borrow.Author.Tests.{lt-ltb}
use Rattle.basics.specs.Tests.{or-one, or-other}
use Rattle.refusal.specs.declared.Refusal.{Refusal}
use Rattle.refusal.specs.declared.Refusal.TheVariants.{Listing, Buffer}
use Rattle.diagram.specs.Sizes.{result_words, space_words}
use Rattle.diagram.specs.Diagram.{Diagram}
use Rattle.diagram.specs.Words.{is_listing}
use Rattle.diagram.specs.Listing.{diagram_of, listing}
use Rattle.diagram.specs.ListingValid.{listing-is-valid}
use Rattle.diagram.specs.Variables.{is_plain}
use Rattle.listing.specs.Used.{Used, marked_minimums}
use Rattle.listing.specs.UsedLaws.{marked-plain}
use Rattle.apply.specs.declared.Operation.{Operation}
use Rattle.apply.specs.declared.Operation.TheVariants.{Max}
use Rattle.apply.specs.declared.Names.{Names}
use Rattle.apply.specs.declared.Names.TheVariants.{Apart, Shared}
use Rattle.apply.specs.declared.Combined.{Combined}
use Rattle.apply.specs.declared.Combined.TheVariants.{Refused}
use Rattle.apply.specs.Combination.{combination, done_as, combine_answer, combine_result, written}
use Rattle.apply.proofs.CombinationLaws.{answer-first, answer-second, answer-buffer, answer-diagrams, result-refused}
use Rattle.combine.specs.Calls.{Callable, CombineAnswered}

-- `if !test(..)`
passed : {b x : Bool} → b ≡ x → not b ≡ false → x ≡ true
passed {b} {x} e f = sym e ∙ go b f
  where
    go : (y : Bool) → not y ≡ false → y ≡ true
    go true q = refl
    go false q = sym q

failed : {b x : Bool} → b ≡ x → not b ≡ true → x ≡ false
failed {b} {x} e f = sym e ∙ go b f
  where
    go : (y : Bool) → not y ≡ true → y ≡ false
    go true q = sym q
    go false q = refl

-- what the marks say of a listing
pub plain-is : {b : Bool} {ar : List ℕ} {d : Diagram} {ms : List ℕ} → Used ar d ms → b ≡ eqb (marked_minimums ms) 0 → b ≡ is_plain ar d
plain-is {b} {ar} {d} {ms} u e = e ∙ marked-plain ar d ms u

-- max_as
module _ (ar : List ℕ) (a b : Diagram) {names : Names} (e : names ≡ Shared) {p : Bool} (q : p ≡ is_plain ar a) where
  as-shared : done_as Max names ar a b ≡ cond (is_plain ar a && is_plain ar b) Shared Apart
  as-shared = ap (λ (n : Names). done_as Max n ar a b) e

  pub as_first : not p ≡ true → Apart ≡ done_as Max names ar a b
  as_first f = sym (as-shared ∙ rw (failed q f))

  module _ (f : not p ≡ false) {r : Bool} (s : r ≡ is_plain ar b) where
    pub as-second : not r ≡ true → Apart ≡ done_as Max names ar a b
    as-second g = sym (as-shared ∙ rw (passed q f, failed s g))

    pub as_plain : not r ≡ false → Shared ≡ done_as Max names ar a b
    as_plain g = sym (as-shared ∙ rw (passed q f, passed s g))

-- done_as
pub as-max : {op : Operation} (names : Names) (ar : List ℕ) (a b : Diagram) {n : Names} → op ≡ Max → n ≡ done_as Max names ar a b → n ≡ done_as op names ar a b
as-max names ar a b e q = q ∙ ap (λ (o : Operation). done_as o names ar a b) (sym e)

-- what the call promises: the answer, and the result buffer
abbrev pub Promised : Operation → Names → List ℕ → List ℕ → List ℕ → List ℕ → List ℕ → Combined → List ℕ → Type 0
Promised op names ar x y out work r out' = (r ≡ combine_answer op names ar x y (length out) (length work)) × (out' ≡ combine_result op names ar x y (length work) out)

module _ (op : Operation) (names : Names) (ar x y out work : List ℕ) where
  refused : (r : Refusal) → combine_answer op names ar x y (length out) (length work) ≡ Refused r → Promised op names ar x y out work (Refused r) out
  refused r e = (sym e, sym (result-refused op names ar x y (length work) out r e))

  module _ {b : Bool} (e : b ≡ is_listing ar x) where
    pub call-first : not b ≡ true → Promised op names ar x y out work (Refused Listing) out
    call-first f = refused Listing (answer-first op names ar x y (length out) (length work) (failed e f))

    module _ (f : not b ≡ false) {c : Bool} (d : c ≡ is_listing ar y) where
      pub call-second : not c ≡ true → Promised op names ar x y out work (Refused Listing) out
      call-second g = refused Listing (answer-second op names ar x y (length out) (length work) (passed e f) (failed d g))

      module _ (g : not c ≡ false) where
        pub call-out : length out < result_words → Promised op names ar x y out work (Refused Buffer) out
        call-out h = refused Buffer (answer-buffer op names ar x y (length out) (length work) (passed e f) (passed d g) (or-one _ _ (lt-ltb (length out) result_words h)))

        pub call-work : length work < space_words → Promised op names ar x y out work (Refused Buffer) out
        call-work h =
            refused Buffer (answer-buffer op names ar x y (length out) (length work) (passed e f) (passed d g)
            (or-other (ltb (length out) result_words) _ (lt-ltb (length work) space_words h)))

        module _ (h : result_words ≤ length out) (k : space_words ≤ length work) where
          pub call-able : Callable ar x y out work
          call-able = record { first = listing-is-valid ar x (passed e f); second = listing-is-valid ar y (passed d g); out-room = h; work-room = k }

          pub call-done : {r : Combined} {out' : List ℕ} → CombineAnswered op (done_as op names ar (diagram_of x) (diagram_of y)) ar x y out r out'
              → Promised op names ar x y out work r out'
          unfolding combine_result
          call-done {r} {out'} a =
              let z : r ≡ combine_answer op names ar x y (length out) (length work) =
              a.answer ∙ sym (answer-diagrams op names ar x y (length out) (length work) (passed e f) (passed d g) h k) in
              let n = done_as op names ar (diagram_of x) (diagram_of y) in
              (z, a.words ∙ ap (λ (q : Combined). written q (listing (combination op n ar (diagram_of x) (diagram_of y))) out) z)

-- the arm of the match that names n
pub call-named : {op : Operation} {m n p : Names} {ar x y out : List ℕ} {r : Combined} {out' : List ℕ} → m ≡ p → m ≡ n → CombineAnswered op n ar x y out r out'
    → CombineAnswered op p ar x y out r out'
call-named {op} {m} {n} {p} {ar} {x} {y} {out} {r} {out'} q e a = subst (λ (k : Names). CombineAnswered op k ar x y out r out') (sym e ∙ q) a
