-- A form that is read again as a reward is accepted: no 10, 11 or 9 while it is built (document 02, L2).
use Rattle.std.specs.Prelude.{◌≡◌, true, false, ℕ, suc, ◌+◌, ◌*◌, ◌≤◌, ◌<◌, length}
use Rattle.std.proofs.Math.Path.{refl, ap}
use Rattle.std.proofs.Common.{◌∙◌, le-ltb}
use mathlib.Core.List.{List, []}
use native.Mathlib.Omega.{arith}
use Rattle.basics.specs.Members.{mem, Within}
use Rattle.refusal.specs.declared.Refusal.{Refusal}
use Rattle.refusal.specs.Outcome.{Outcome, ok, refused, and_then}
use Rattle.diagram.specs.Sizes.{most_rows, space_rows, most_pairs}
use Rattle.diagram.specs.Diagram.{Diagram, leaf, branch, same, Ordered, Reduced}
use Rattle.diagram.specs.Canonicity.{from-ordered}
use Rattle.diagram.specs.Listing.{Fine}
use Rattle.diagram.specs.Rows.{rows}
use Rattle.diagram.specs.Inner.{size}
use Rattle.diagram.specs.Variables.{closed}
use Rattle.apply.specs.declared.Operation.TheVariants.{Sum, Product}
use Rattle.apply.specs.Apply.{node}
use Rattle.regression.specs.Calls.{form, combine}
use Rattle.regression.specs.Step.{label_test, test_diagram, exchanged, row_step}
use Rattle.reading.specs.Inner.{depth}
use Rattle.reading.specs.Tree.{ops_of}
use Rattle.build.specs.Build.{read_diagram, held, reward_diagram}
use Rattle.build.specs.Machine.{most_tests, built_closed}
use Rattle.build.specs.MachineLaws.{built-reward}
use Rattle.session.specs.Good.{GoodValue}
use Rattle.diagram_form.specs.Form.{Tables, is_too_long}
use Rattle.diagram_form.proofs.FormLaws.{form-brackets, not-too-long}
use Rattle.round_trip.specs.RoundTrip.{Declared, Covers, reading_of}
use Rattle.round_trip.proofs.RoundTripLaws.{reading-depth, round_trip}
use Rattle.acceptance.specs.FormedRows.{three_digits, low_leaves, other_test, formed_rows}
use Rattle.acceptance.proofs.FormedRowLaws.{low-leaf, Holds, low-formed, holds-formed}
use Rattle.acceptance.specs.ReadAgain.{ReadAgain}
use Rattle.acceptance.proofs.ByteLaws.{form-few}
use Rattle.acceptance.proofs.PairCountLaws.{test-pairs, sum-pairs}
use Rattle.acceptance.proofs.RowStepLaws.{from-root, exchanged-test, test-times, other-times, sum_is, fine-node}
use Rattle.acceptance.proofs.RoomLaws.{RowsIn, rows-node, Room, room-none, Fits, fits-bind, fits-form, fits-combine}

holds_rows : (all : List Diagram) (d : Diagram) → Holds all d → RowsIn all d
holds_rows all (leaf v) h = h
holds_rows all (branch l t f) h = (h.0.sum, holds_rows all t h.1, holds_rows all f h.2)

-- ===== The build, test by test =====

module _ (ar : List ℕ) (all : List Diagram) (few : length all ≤ space_rows) (low : Within same (low_leaves three_digits) all) where
  leaf-in : (v : ℕ) → v < three_digits → mem same (leaf v) all ≡ true
  leaf-in v h = low (leaf v) (low-leaf v three_digits h)

  step_fits : (l : ℕ) (t f : Diagram) → Ordered (branch l t f) → Reduced (branch l t f) → Fine ar (branch l t f) → Holds all (branch l t f)
      → 4 * size (branch l t f) + 3 ≤ most_pairs → (rs : List Diagram) → Room all rs → Fits all (branch l t f) (row_step (label_test l) t f) rs
  unfolding row_step size
  step_fits l t f o r fine h s rs room =
      let zero_in = leaf-in 0 (omega arith) in
      let one_in = leaf-in 1 (omega arith) in
      let t-in = holds_rows all t h.1 in
      let f-in = holds_rows all f h.2 in
      fits-bind all T D (form T) _ rs (fits-form all few T rs (h.0.test, one_in, zero_in) room) (λ rs₁ room₁.
      fits-bind all U D (form (exchanged T)) _ rs₁ (rw (exchanged-test l) (fits-form all few U rs₁ (h.0.exchange, zero_in, one_in) room₁)) (λ rs₂ room₂.
      fits-bind all L D (combine Product T t) _ rs₂
      (fits-combine all few ar Product T t L rs₂ (test-times l t o.1 r.1) (omega (arith, test-pairs Product l 1 0 t (from-root l t o.1)))
      (fine-node ar l t (leaf 0) (fine.0, fine.1, omega arith)) (rows-node all l t (leaf 0) h.0.left t-in zero_in) room₂) (λ rs₃ room₃.
      fits-bind all R D (combine Product U f) _ rs₃
      (fits-combine all few ar Product U f R rs₃ (other-times l f o.2 r.2) (omega (arith, test-pairs Product l 0 1 f (from-root l f o.2)))
      (fine-node ar l (leaf 0) f (fine.0, omega arith, fine.2)) (rows-node all l (leaf 0) f h.0.right zero_in f-in) room₃) (λ rs₄ room₄.
      fits-combine all few ar Sum L R D rs₄ (sum_is l t f o r) (omega (arith, sum-pairs l t f)) fine (h.0.sum, t-in, f-in) room₄))))
    where
      T : Diagram
      T = label_test l

      U : Diagram
      U = other_test l

      L : Diagram
      L = node l t (leaf 0)

      R : Diagram
      R = node l (leaf 0) f

      D : Diagram
      D = branch l t f

  read_fits : (d : Diagram) → Ordered d → Reduced d → Fine ar d → Holds all d → 4 * size d + 3 ≤ most_pairs
      → (rs : List Diagram) → Room all rs → Fits all d (read_diagram (reading_of d)) rs
  unfolding read_diagram reading_of test_diagram size
  read_fits (leaf v) o r fine h s rs room = fits-form all few (leaf v) rs h room
  read_fits (branch l t f) o r fine h s rs room =
      fits-bind all t (branch l t f) (read_diagram (reading_of t)) _ rs
      (read_fits t (from-ordered (suc l) t o.1) r.1 fine.1 h.1 (omega arith) rs room) (λ rs₁ room₁.
      fits-bind all f (branch l t f) (read_diagram (reading_of f)) _ rs₁
      (read_fits f (from-ordered (suc l) f o.2) r.2 fine.2 h.2 (omega arith) rs₁ room₁)
      (step_fits l t f o r fine h s))

-- ===== The theorem =====

module _ (ar : List ℕ) (n : Tables) (d : Diagram) (value : GoodValue ar d) (declared : Declared n) (covers : Covers ar n d) (short : is_too_long ar n d ≡ false) where
  shallow : depth (reading_of d) ≤ most_tests
  shallow = omega (arith, reading-depth d, form-brackets ar n d, (not-too-long ar n d short).brackets)

  read : Fits (formed_rows d) d (read_diagram (reading_of d)) []
  read =
      let few = form-few ar n d declared covers short in
      read_fits ar (formed_rows d) few.rows (low-formed d) d value.listed.ordered value.listed.reduced value.listed.fine (holds-formed d) few.tests []
      (room-none (formed_rows d))

  -- a reward built from the words of a form is the very diagram: no 10, 11 or 9
  pub form-accepted : built_closed ar (ops_of (reading_of d)) ≡ ok d
  unfolding reward_diagram
  form-accepted =
      built-reward ar (reading_of d) shallow
      ∙ ap (λ (o : Outcome (Diagram × List Diagram)). and_then o (λ p. held (closed ar p.0))) read.gives
      ∙ ap held value.is-closed
      ∙ rw (le-ltb most_rows (length (rows d)) value.listed.few) refl

  -- so the round trip, with its reward built
  pub reward-accepted : ReadAgain ar n d
  reward-accepted =
      let trip = round_trip ar n d value declared covers short in
      record { trip = trip; built = ap (built_closed ar) trip.operations ∙ form-accepted }

-- no number is met while it is built
pub not-refused : {ar : List ℕ} {n : Tables} {d : Diagram} (again : ReadAgain ar n d) (r : Refusal)
    → built_closed ar again.trip.words.operations ≡ refused r → ⊥
not-refused again r e = let z : ◌≡◌ {A = ℕ} 0 1 = cc in absurd (omega arith)
