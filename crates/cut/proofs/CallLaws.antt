-- The ways out of `cut_checked` and of the public call.
use mathlib.Core.Path.{◌≡◌, refl, sym, ap, ap₂, subst, ◌∙◌}
use mathlib.Core.Bool.{Bool, true, false, not, ◌||◌, cond}
use mathlib.Core.List.{List}
use Prim.Native.Nat.{ℕ, zero, suc, pred, ◌-◌, ◌/◌, ◌≤◌, ◌<◌, min}
use native.Mathlib.Omega.{arith}
use lib.ListN.{length, get_or, replicate, length-replicate, length-map}
use lib.Dec.{eqb, ltb}
use borrow.Author.Tests.{lt-ltb, le-ltb, not-true, not-false}
use Rattle.basics.specs.Tests.{or-one, or-other}
use Rattle.refusal.specs.declared.Refusal.{Refusal}
use Rattle.refusal.specs.declared.Refusal.TheVariants.{Listing, Buffer, Paths, Minimum, Nothing as NoEdge}
use Rattle.listing.specs.Used.{Used, marked_minimums}
use Rattle.listing.specs.UsedLaws.{marked-plain}
use Rattle.diagram.specs.Sizes.{most_rows, result_words, space_words}
use Rattle.diagram.specs.Diagram.{Diagram}
use Rattle.diagram.specs.Rows.{rows}
use Rattle.diagram.specs.RowLists.{row_tree}
use Rattle.diagram.specs.Words.{row_count, up_to, is_listing}
use Rattle.diagram.specs.WordLaws.{length-up_to}
use Rattle.diagram.specs.Listing.{listing, diagram_of}
use Rattle.diagram.specs.Validity.{Valid, tree}
use Rattle.diagram.specs.Variables.{is_plain}
use Rattle.diagram.specs.DiagramOfListing.{diagram-is, rows_are}
use Rattle.diagram.specs.ListingValid.{listing-is-valid}
use Rattle.paths.specs.Paths.{paths, most_paths}
use Rattle.cutting.specs.Cut.{Choice, goes, stays, may_go, choice_below, choice, chosen_answer, diagram_answer, cut_diagram, written, answer_buffer, cut_answer, cut_buffer}
use Rattle.cutting.proofs.TruthLaws.{minimum-first}
use Rattle.paths.specs.Inner.{Rows, Counted, Routed}
use Rattle.cutting.specs.declared.Edge.TheVariants.{True, False}
use Rattle.cutting.specs.declared.Cut.{Cut}
use Rattle.cutting.specs.declared.Cut.TheVariants.{Done, Refused}
use Rattle.cut.specs.Calls.{Cuttable, Choosable, Writable, Trimmed}
use Rattle.cut.specs.Choosing.{chosen_as}
use Rattle.paths.specs.PathLaws.{listing-rows}
use Rattle.std.specs.Prelude.{None, Option, Some}
use Rattle.std.proofs.lemmas.Option.{some_pair_parts}

-- what is promised where the listing is checked
abbrev pub Answers : List ℕ → List ℕ → List ℕ → Cut → List ℕ → Type 0
Answers ar ws out r out' = (r ≡ diagram_answer ar (diagram_of ws)) × (out' ≡ answer_buffer ar ws out r)

-- the answers by their cases
module _ (ar : List ℕ) (d : Diagram) where
  answer-many : is_plain ar d ≡ true → most_paths < length (paths d) → diagram_answer ar d ≡ Refused Paths
  unfolding diagram_answer
  answer-many p h = rw (p, lt-ltb most_paths (length (paths d)) h)

  answer-few : is_plain ar d ≡ true → length (paths d) ≤ most_paths → diagram_answer ar d ≡ chosen_answer ar d (choice ar d)
  unfolding diagram_answer
  answer-few p h = rw (p, le-ltb most_paths (length (paths d)) h)

  answer-none : chosen_answer ar d stays ≡ Refused NoEdge
  unfolding chosen_answer
  answer-none = refl

  answer-true : (k : ℕ) → chosen_answer ar d (goes k true) ≡ Done k True (length (rows (cut_diagram ar d k true)))
  unfolding chosen_answer
  answer-true k = refl

  answer-false : (k : ℕ) → chosen_answer ar d (goes k false) ≡ Done k False (length (rows (cut_diagram ar d k false)))
  unfolding chosen_answer
  answer-false k = refl

buffer-refused : (ar ws out : List ℕ) (x : Refusal) → answer_buffer ar ws out (Refused x) ≡ out
unfolding answer_buffer
buffer-refused ar ws out x = refl

buffer-true : (ar ws out : List ℕ) (k n : ℕ) → answer_buffer ar ws out (Done k True n) ≡ written (listing (cut_diagram ar (diagram_of ws) k true)) out
unfolding answer_buffer
buffer-true ar ws out k n = refl

buffer-false : (ar ws out : List ℕ) (k n : ℕ) → answer_buffer ar ws out (Done k False n) ≡ written (listing (cut_diagram ar (diagram_of ws) k false)) out
unfolding answer_buffer
buffer-false ar ws out k n = refl

-- the chosen row is one of the rows
chosen-row : (ar : List ℕ) (d : Diagram) (rs : List Diagram) (n k : ℕ) (b : Bool) → choice_below ar d rs n ≡ goes k b → k < n
unfolding choice_below
chosen-row ar d rs zero k b e = absurd (let z : ◌≡◌ {A = ℕ} 0 1 = cc in omega arith)
chosen-row ar d rs (suc n) k b e = go (may_go ar d true (row_tree rs n)) (may_go ar d false (row_tree rs n)) e (chosen-row ar d rs n k b)
  where
    go : (x y : Bool) → cond x (goes n true) (cond y (goes n false) (choice_below ar d rs n)) ≡ goes k b → (choice_below ar d rs n ≡ goes k b → k < n) → k < suc n
    go true y q rec = let z : n ≡ k = cc in omega arith
    go false true q rec = let z : n ≡ k = cc in omega arith
    go false false q rec = let z = rec q in omega arith

-- what was chosen is the choice
chosen-edge : (c : Choice) {k : ℕ} {b : Bool} → Some (k, b) ≡ chosen_as c → c ≡ goes k b
chosen-edge (goes j x) {k} {b} e =
    let p = some_pair_parts k j b x e in
    ap₂ goes (sym p.0) (sym p.1)
chosen-edge stays e = absurd (let z : ◌≡◌ {A = ℕ} 0 1 = cc in omega arith)

chosen_none : (c : Choice) → None ≡ chosen_as c → c ≡ stays
chosen_none (goes j x) e = absurd (let z : ◌≡◌ {A = ℕ} 0 1 = cc in omega arith)
chosen_none stays e = refl

-- `is_plain`
pub plain-is : {ar : List ℕ} {d : Diagram} {marks : List ℕ} {b : Bool} → Used ar d marks → b ≡ eqb (marked_minimums marks) 0 → b ≡ is_plain ar d
plain-is {ar} {d} {marks} u e = e ∙ marked-plain ar d marks u

-- `cut_checked`
module _ {ar ws out work : List ℕ} (g : Cuttable ar ws out work) {b : Bool} (e : b ≡ is_plain ar (diagram_of ws)) where
  pub cut-minimum : not b ≡ true → Answers ar ws out (Refused Minimum) out
  cut-minimum f = (sym (minimum-first ar (diagram_of ws) (sym e ∙ not-true b f)), sym (buffer-refused ar ws out Minimum))

  pub cut-choosable : not b ≡ false → Choosable ar ws out work
  cut-choosable f = record { call = g; plain = sym e ∙ not-false b f }

-- `cut_plain`
module _ {ar ws out work : List ℕ} (g : Choosable ar ws out work) where
  valid : Valid ar ws
  valid = listing-is-valid ar ws g.call.listing

  abbrev D : Diagram
  D = diagram_of ws

  pub cut-rows : Rows ws (length ws / 3)
  cut-rows = listing-rows ar ws g.call.listing

  pub cut-some : 1 ≤ length ws / 3
  cut-some = valid.some

  pub cut-room : (x : ℕ) → most_rows ≤ x → length ws / 3 ≤ length {A = ℕ} (replicate x 0)
  cut-room x h = rw length-replicate (omega (arith, valid.few))

  root_is : tree ws (length ws / 3 - 1) ≡ D
  root_is = let e : length ws / 3 - 1 ≡ pred (row_count ws) = omega arith in ap (tree ws) e ∙ sym (diagram-is ar ws valid)

  module _ {counts : List ℕ} (c : Counted ws counts (length ws / 3)) where
    abbrev M : ℕ
    M = get_or counts (length ws / 3 - 1) 0

    count-is : M ≡ min 257 (length (paths D))
    count-is = c.each (length ws / 3 - 1) (omega (arith, cut-some)) ∙ ap (λ (d : Diagram). min 257 (length (paths d))) root_is

    pub cut-many : 256 < M → Answers ar ws out (Refused Paths) out
    cut-many h = (sym (answer-many ar D g.plain (omega (arith, count-is))), sym (buffer-refused ar ws out Paths))

    module _ (h : M ≤ 256) where
      few : length (paths D) ≡ M
      few = omega (arith, count-is)

      pub cut-routed : Routed ws counts (length ws / 3) M
      cut-routed = record {
        rows = cut-rows;
        some = cut-some;
        counted = c;
        all = ap (λ (d : Diagram). length (paths d)) root_is ∙ few;
        few = h;
      }

      answer-is : diagram_answer ar D ≡ chosen_answer ar D (choice ar D)
      answer-is = answer-few ar D g.plain (omega (arith, few))

      module _ {x : Option (ℕ × Bool)} (e : x ≡ chosen_as (choice ar D)) where
        pub cut-nothing : x ≡ None → Answers ar ws out (Refused NoEdge) out
        cut-nothing q = (
          sym (answer-is ∙ ap (chosen_answer ar D) (chosen_none (choice ar D) (sym q ∙ e)) ∙ answer-none ar D),
          sym (buffer-refused ar ws out NoEdge),
        )

        module _ {k : ℕ} {b : Bool} (q : x ≡ Some (k, b)) where
          choice-is : choice ar D ≡ goes k b
          choice-is = chosen-edge (choice ar D) (sym q ∙ e)

          row_below : k < row_count ws
          unfolding choice
          row_below =
              let l : length (rows D) ≡ row_count ws = ap length (rows_are ar ws valid) ∙ length-map (up_to (row_count ws)) (tree ws) ∙ length-up_to (row_count ws) in
              let z = chosen-row ar D (rows D) (length (rows D)) k b choice-is in
              omega (arith, l, z)

          pub cut-writable : Writable ar ws out work k
          cut-writable = record { call = g.call; few = omega (arith, few); row = row_below }

          module _ {r : ℕ} {out' : List ℕ} (t : Trimmed ar ws k b out r out') where
            pub cut-true : b ≡ true → Answers ar ws out (Done k True r) out'
            cut-true z =
                let u : Trimmed ar ws k true out r out' = subst (λ (y : Bool). Trimmed ar ws k y out r out') z t in (
                  ap (Done k True) u.answer ∙ sym (answer-is ∙ ap (chosen_answer ar D) (choice-is ∙ ap (goes k) z) ∙ answer-true ar D k),
                  u.words ∙ sym (buffer-true ar ws out k r),
                )

            pub cut-false : b ≡ false → Answers ar ws out (Done k False r) out'
            cut-false z =
                let u : Trimmed ar ws k false out r out' = subst (λ (y : Bool). Trimmed ar ws k y out r out') z t in (
                  ap (Done k False) u.answer ∙ sym (answer-is ∙ ap (chosen_answer ar D) (choice-is ∙ ap (goes k) z) ∙ answer-false ar D k),
                  u.words ∙ sym (buffer-false ar ws out k r),
                )

-- what the call promises: the answer, and the result buffer
abbrev pub Promised : List ℕ → List ℕ → List ℕ → List ℕ → Cut → List ℕ → Type 0
Promised ar ws out work r out' = (r ≡ cut_answer ar ws (length out) (length work)) × (out' ≡ cut_buffer ar ws out (length work))

abbrev pick : Bool → Bool → Cut → Cut
pick a b x = cond (not a) (Refused Listing) (cond b (Refused Buffer) x)

module _ (ar ws out work : List ℕ) where
  call-pick : cut_answer ar ws (length out) (length work) ≡ pick (is_listing ar ws) (ltb (length out) result_words || ltb (length work) space_words) (diagram_answer ar (diagram_of ws))
  unfolding cut_answer
  call-pick = refl

  promise : (r : Cut) {out' : List ℕ} → r ≡ cut_answer ar ws (length out) (length work) → out' ≡ answer_buffer ar ws out r → Promised ar ws out work r out'
  unfolding cut_buffer
  promise r e q = (e, q ∙ ap (answer_buffer ar ws out) e)

  refused : (x : Refusal) → Refused x ≡ cut_answer ar ws (length out) (length work) → Promised ar ws out work (Refused x) out
  refused x e = promise (Refused x) e (sym (buffer-refused ar ws out x))

  call_none : is_listing ar ws ≡ false → Refused Listing ≡ cut_answer ar ws (length out) (length work)
  call_none e = sym (call-pick ∙ ap (λ (a : Bool). pick a (ltb (length out) result_words || ltb (length work) space_words) (diagram_answer ar (diagram_of ws))) e)

  call-small : is_listing ar ws ≡ true → (ltb (length out) result_words || ltb (length work) space_words) ≡ true → Refused Buffer ≡ cut_answer ar ws (length out) (length work)
  call-small e f = sym (call-pick ∙ ap₂ (λ (a b : Bool). pick a b (diagram_answer ar (diagram_of ws))) e f)

  call-all : is_listing ar ws ≡ true → result_words ≤ length out → space_words ≤ length work → diagram_answer ar (diagram_of ws) ≡ cut_answer ar ws (length out) (length work)
  call-all e h k =
      let l : (ltb (length out) result_words || ltb (length work) space_words) ≡ false = rw (le-ltb (length out) result_words h) (le-ltb (length work) space_words k) in
      sym (call-pick ∙ ap₂ (λ (a b : Bool). pick a b (diagram_answer ar (diagram_of ws))) e l)

  module _ {b : Bool} (e : b ≡ is_listing ar ws) where
    pub call-listing : not b ≡ true → Promised ar ws out work (Refused Listing) out
    call-listing f = refused Listing (call_none (sym e ∙ not-true b f))

    module _ (f : not b ≡ false) where
      listed : is_listing ar ws ≡ true
      listed = sym e ∙ not-false b f

      pub call-out : length out < result_words → Promised ar ws out work (Refused Buffer) out
      call-out h = refused Buffer (call-small listed (or-one _ _ (lt-ltb (length out) result_words h)))

      pub call-work : length work < space_words → Promised ar ws out work (Refused Buffer) out
      call-work h = refused Buffer (call-small listed (or-other (ltb (length out) result_words) _ (lt-ltb (length work) space_words h)))

      module _ (h : result_words ≤ length out) (k : space_words ≤ length work) where
        pub call-cuttable : Cuttable ar ws out work
        call-cuttable = record { listing = listed; out-room = h; work-room = k }

        pub call-done : {r : Cut} {out' : List ℕ} → (r ≡ diagram_answer ar (diagram_of ws)) × (out' ≡ answer_buffer ar ws out r) → Promised ar ws out work r out'
        call-done {r} p = promise r (p.0 ∙ call-all listed h k) p.1
