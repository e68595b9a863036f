-- What is built from a text's words never meets 11: each product of a row step is 0 or a part of the diagram, and the sum is what is written.
use Rattle.std.proofs.Math.Path.{◌≡◌}
use Rattle.std.specs.Prelude.{refl, Bool, List, [], length, ltb}
use Rattle.std.proofs.Common.{sym, ap, ◌∙◌, subst, arith}
use Rattle.std.proofs.Math.Bool.{true, false, not, cond}
use Prim.Native.Nat.{ℕ, ◌+◌, ◌-◌, ◌*◌, ◌≤◌}
use Rattle.refusal.specs.declared.Refusal.TheVariants.{Pairs, Value, Space}
use Rattle.refusal.specs.Outcome.{Outcome, ok, refused, and_then}
use Rattle.label.specs.Labels.{is_label}
use Rattle.label.specs.declared.Test.{Test}
use Rattle.label.specs.declared.Test.TheVariants.{Always, Is}
use Rattle.diagram.specs.Sizes.{highest_value, most_rows, space_rows, most_pairs}
use Rattle.diagram.specs.Diagram.{Diagram, leaf, branch, eval, Ordered, EveryLabel}
use Rattle.diagram.specs.Variables.{closed}
use Rattle.diagram.specs.Listing.{Fine}
use Rattle.diagram.specs.Rows.{onto, rows}
use Rattle.apply.specs.declared.Operation.{Operation}
use Rattle.apply.specs.declared.Operation.TheVariants.{Sum, Product}
use Rattle.apply.specs.Apply.{apply}
use Rattle.apply.specs.ApplyLaws.{eval_apply, ordered-apply}
use Rattle.apply.proofs.GoodLaws.{every-apply, fine-calm}
use Rattle.apply.specs.Pairs.{pairs, pair_count, overflows}
use Rattle.apply.specs.Combination.{operate}
use Rattle.regression.specs.Calls.{Run, bind, form, combine}
use Rattle.regression.specs.Result.{asked, stepped}
use Rattle.regression.specs.Step.{test_diagram, exchanged, row_step}
use Rattle.regression.proofs.StepLaws.{most-eval, eval-test, eval-exchanged, ordered-test, from-exchanged, every-exchanged}
use Rattle.reading.specs.Inner.{depth}
use Rattle.reading.specs.Tree.{Reading, ops_of}
use Rattle.reading.specs.Tree.Reading.{number, branch as conditional}
use Rattle.build.specs.Build.{meaning, read_diagram, held, reward_diagram}
use Rattle.build.specs.Written.{diagram_for, EachAsked, EachValue}
use Rattle.build.specs.Machine.{most_tests, built_closed}
use Rattle.build.specs.MachineLaws.{built-reward}
use Rattle.build.specs.ReadingLaws.{fine-made, ordered-for, eval-for, labels-for, meaning-most, fine-for}
use Rattle.round_trip.specs.RoundTrip.{reading_of}

-- ===== Steps that never meet 11 =====

-- an answer is x, or a refusal but 11
abbrev pub NoValue : Diagram → Outcome (Diagram × List Diagram) → Type 0
NoValue x (ok p) = p.0 ≡ x
NoValue x (refused r) = r ≡ Value → ⊥

space-other : Space ≡ Value → ⊥
space-other e = let z : ◌≡◌ {A = ℕ} 0 1 = cc in absurd (omega arith)

pairs-other : Pairs ≡ Value → ⊥
pairs-other e = let z : ◌≡◌ {A = ℕ} 0 1 = cc in absurd (omega arith)

form-calm : (d : Diagram) (rs : List Diagram) → NoValue d (form d rs)
unfolding form
form-calm d rs = go (ltb space_rows (length (onto d rs)))
  where
    go : (b : Bool) → NoValue d (cond b (refused Space) (ok (d, onto d rs)))
    go true = space-other
    go false = refl

combine-calm : (op : Operation) (a b : Diagram) → overflows (operate op) (pairs op a b) ≡ false → (rs : List Diagram) → NoValue (apply (operate op) a b) (combine op a b rs)
unfolding combine
combine-calm op a b e rs = rw e (go (ltb most_pairs (pair_count op a b)))
  where
    go : (p : Bool) → NoValue (apply (operate op) a b) (cond p (refused Pairs) (form (apply (operate op) a b) rs))
    go true = pairs-other
    go false = form-calm (apply (operate op) a b) rs

bind-calm : (x y : Diagram) (m : Run Diagram) (f : Diagram → Run Diagram) → ((rs : List Diagram) → NoValue x (m rs)) → ((rs : List Diagram) → NoValue y (f x rs))
    → (rs : List Diagram) → NoValue y (bind m f rs)
bind-calm x y m f p q rs = go (m rs) (p rs)
  where
    go : (o : Outcome (Diagram × List Diagram)) → NoValue x o → NoValue y (and_then o (λ r. f r.0 r.1))
    go (ok r) e = subst (λ (z : Diagram). NoValue y (f z r.1)) (sym e) (q r.1)
    go (refused r) e = e

-- ===== Products and sums in their range =====

module _ (ar : List ℕ) where
  fine_of : (d : Diagram) → Ordered d → EveryLabel (λ l. is_label ar l ≡ true) d → ((c : ℕ → Bool) → eval c d ≤ highest_value) → Fine ar d
  fine_of d o l h = fine-made ar d l (most-eval highest_value 0 d o h)

  product-fine : (T : Diagram) (b : (ℕ → Bool) → Bool) (r : Reading) → Ordered T → EveryLabel (λ l. is_label ar l ≡ true) T → ((c : ℕ → Bool) → eval c T ≡ cond (b c) 1 0)
      → EachAsked (λ l. is_label ar l ≡ true) r → EachValue r → Fine ar (apply ◌*◌ T (diagram_for r))
  product-fine T b r o l t a v =
      fine_of (apply ◌*◌ T (diagram_for r)) (ordered-apply ◌*◌ T (diagram_for r) o (ordered-for r))
      (every-apply ◌*◌ (λ l. is_label ar l ≡ true) T (diagram_for r) l (labels-for (λ l. is_label ar l ≡ true) r a))
      (λ c. rw (eval_apply ◌*◌ c T (diagram_for r), t c, eval-for c r) (go (b c) (meaning c r) (meaning-most c r v)))
    where
      go : (x : Bool) (y : ℕ) → y ≤ highest_value → cond x 1 0 * y ≤ highest_value
      go true y h = omega arith
      go false y h = omega arith

  -- ===== The row step, and a diagram of a text =====

  test-labels : (t : Test) (x y : Reading) → EachAsked (λ l. is_label ar l ≡ true) (conditional t x y) → EveryLabel (λ l. is_label ar l ≡ true) (test_diagram t)
  unfolding test_diagram
  test-labels Always x y a = tt
  test-labels (Is l) x y a = (a.0, tt, tt)

  true-asked : (t : Test) (x y : Reading) → EachAsked (λ l. is_label ar l ≡ true) (conditional t x y) → EachAsked (λ l. is_label ar l ≡ true) x
  true-asked Always x y a = a.0
  true-asked (Is l) x y a = a.1

  false-asked : (t : Test) (x y : Reading) → EachAsked (λ l. is_label ar l ≡ true) (conditional t x y) → EachAsked (λ l. is_label ar l ≡ true) y
  false-asked Always x y a = a.1
  false-asked (Is l) x y a = a.2

  eval-other : (c : ℕ → Bool) (t : Test) → eval c (exchanged (test_diagram t)) ≡ cond (not (asked c t)) 1 0
  eval-other c t = eval-exchanged c (test_diagram t) ∙ ap (λ (x : ℕ). 1 - x) (eval-test c t) ∙ go (asked c t)
    where
      go : (b : Bool) → 1 - cond b 1 0 ≡ cond (not b) 1 0
      go true = refl
      go false = refl

  step-calm : (t : Test) (x y : Reading) → EachAsked (λ l. is_label ar l ≡ true) (conditional t x y) → EachValue (conditional t x y)
      → (rs : List Diagram) → NoValue (diagram_for (conditional t x y)) (row_step (test_diagram t) (diagram_for x) (diagram_for y) rs)
  unfolding row_step diagram_for stepped
  step-calm t x y a v =
      let T = test_diagram t in
      let U = exchanged T in
      let left = apply ◌*◌ T (diagram_for x) in
      let right = apply ◌*◌ U (diagram_for y) in
      let whole = apply ◌+◌ left right in
      let labels = test-labels t x y a in
      let p = product-fine T (λ c. asked c t) x (ordered-test t) labels (λ c. eval-test c t) (true-asked t x y a) v.0 in
      let q =
      product-fine U (λ c. not (asked c t)) y (from-exchanged 0 T (ordered-test t)) (every-exchanged _ T labels) (λ c. eval-other c t) (false-asked t x y a) v.1 in
      bind-calm T whole (form T) _ (form-calm T)
      (bind-calm U whole (form U) _ (form-calm U)
      (bind-calm left whole (combine Product T (diagram_for x)) _ (combine-calm Product T (diagram_for x) (fine-calm Product ar T (diagram_for x) p))
      (bind-calm right whole (combine Product U (diagram_for y)) _ (combine-calm Product U (diagram_for y) (fine-calm Product ar U (diagram_for y) q))
      (combine-calm Sum left right (fine-calm Sum ar left right (fine-for ar (conditional t x y) a v))))))

  read-calm : (r : Reading) → EachAsked (λ l. is_label ar l ≡ true) r → EachValue r → (rs : List Diagram) → NoValue (diagram_for r) (read_diagram r rs)
  unfolding read_diagram diagram_for
  read-calm (number v) a h = form-calm (leaf v)
  read-calm (conditional t x y) a h =
      let whole = diagram_for (conditional t x y) in
      bind-calm (diagram_for x) whole (read_diagram x) _ (read-calm x (true-asked t x y a) h.0)
      (bind-calm (diagram_for y) whole (read_diagram y) _ (read-calm y (false-asked t x y a) h.1) (step-calm t x y a h))

  -- what a text's words come to never meets 11 when its reward is built
  pub reward-no-value : (r : Reading) → EachAsked (λ l. is_label ar l ≡ true) r → EachValue r → reward_diagram ar r ≡ refused Value → ⊥
  unfolding reward_diagram
  reward-no-value r a h = go (read_diagram r []) (read-calm r a h [])
    where
      end : (d : Diagram) (b : Bool) → cond b (refused Space) (ok d) ≡ refused Value → ⊥
      end d true e = let z : ◌≡◌ {A = ℕ} 0 1 = cc in absurd (omega arith)
      end d false e = let z : ◌≡◌ {A = ℕ} 0 1 = cc in absurd (omega arith)

      go : (o : Outcome (Diagram × List Diagram)) → NoValue (diagram_for r) o → and_then o (λ p. held (closed ar p.0)) ≡ refused Value → ⊥
      go (ok p) n e = end (closed ar p.0) (ltb most_rows (length (rows (closed ar p.0)))) e
      go (refused s) n e = let z : s ≡ Value = cc in n z

fine-asked : (ar : List ℕ) (d : Diagram) → Fine ar d → EachAsked (λ l. is_label ar l ≡ true) (reading_of d)
unfolding reading_of
fine-asked ar (leaf v) h = tt
fine-asked ar (branch l t f) h = (h.0, fine-asked ar t h.1, fine-asked ar f h.2)

fine-values : (ar : List ℕ) (d : Diagram) → Fine ar d → EachValue (reading_of d)
unfolding reading_of
fine-values ar (leaf v) h = h
fine-values ar (branch l t f) h = (fine-values ar t h.1, fine-values ar f h.2)

-- so the words of a form
pub form-no-value : (ar : List ℕ) (d : Diagram) → Fine ar d → depth (reading_of d) ≤ most_tests → built_closed ar (ops_of (reading_of d)) ≡ refused Value → ⊥
form-no-value ar d h s e = reward-no-value ar (reading_of d) (fine-asked ar d h) (fine-values ar d h) (sym (built-reward ar (reading_of d) s) ∙ e)
