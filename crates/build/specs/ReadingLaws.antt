-- The diagram of a text is the reduced ordered diagram with the meaning that is written.
use Rattle.std.specs.Prelude.{◌≡◌, refl, Bool, true, false, cond, List, [], ℕ, ◌≤◌, length, ltb}
use Rattle.std.proofs.Common.{sym, subst, ◌∙◌, arith, ltb-false}
use Rattle.refusal.specs.declared.Refusal.TheVariants.{Space}
use Rattle.label.specs.Labels.{are_arities, is_label}
use Rattle.label.specs.declared.Test.TheVariants.{Always, Is}
use Rattle.diagram.specs.Sizes.{most_rows, highest_value}
use Rattle.diagram.specs.Diagram.{Diagram, leaf, branch, eval, Ordered, Reduced, EveryLabel}
use Rattle.diagram.specs.Rows.{rows}
use Rattle.diagram.specs.Listing.{Fine, Good}
use Rattle.diagram.specs.Variables.{closed}
use Rattle.rename.specs.ClosingLaws.{closed-count, closed-good}
use Rattle.refusal.specs.Outcome.{ok, refused, Accepted}
use Rattle.refusal.specs.OutcomeLaws.{accepted-ok, accepted-refused, accepted-then}
use Rattle.regression.proofs.CallLaws.{Gives, gives-bind, gives-mono, form-gives}
use Rattle.regression.specs.Step.{test_diagram}
use Rattle.regression.proofs.StepLaws.{most-eval, eval-test, ordered-test, step_gives, eval-stepped, from-stepped, reduced-stepped, every-stepped}
use Rattle.regression.specs.Result.{AtMost, asked, stepped}
use Rattle.build.specs.Build.{meaning, read_diagram, held, text_diagram, reward_diagram}
use Rattle.build.specs.Written.{diagram_for, EachAsked, EachValue}
use Rattle.reading.specs.Tree.{Reading}
use Rattle.reading.specs.Tree.Reading.{branch as conditional, number}

-- labels and leaves in their ranges
pub fine-made : (ar : List ℕ) (d : Diagram) → EveryLabel (λ l. is_label ar l ≡ true) d → AtMost highest_value d → Fine ar d
fine-made ar (leaf v) h m = m
fine-made ar (branch l t f) h m = (h.0, fine-made ar t h.1 m.0, fine-made ar f h.2 m.1)

read-gives : (r : Reading) → Gives (λ x. x ≡ diagram_for r) (read_diagram r)
unfolding read_diagram diagram_for
read-gives (number v) = form-gives (leaf v)
read-gives (conditional t h f) =
    gives-bind _ _ (read-gives h) (λ x hx.
    gives-bind _ _ (read-gives f) (λ y hy.
    gives-mono (step_gives (test_diagram t) x y) (λ z hz. hz ∙ (λ i. stepped (test_diagram t) (hx i) (hy i)))))

-- it is ordered and reduced
pub ordered-for : (r : Reading) → Ordered (diagram_for r)
unfolding diagram_for
ordered-for (number v) = tt
ordered-for (conditional t h f) = from-stepped 0 (test_diagram t) (diagram_for h) (diagram_for f) (ordered-test t) (ordered-for h) (ordered-for f)

pub reduced-for : (r : Reading) → Reduced (diagram_for r)
unfolding diagram_for
reduced-for (number v) = tt
reduced-for (conditional t h f) = reduced-stepped (test_diagram t) (diagram_for h) (diagram_for f)

-- it means what is written
pub eval-for : (c : ℕ → Bool) (r : Reading) → eval c (diagram_for r) ≡ meaning c r
unfolding diagram_for eval
eval-for c (number v) = refl
eval-for c (conditional t h f) =
    eval-stepped c (test_diagram t) (diagram_for h) (diagram_for f) (asked c t) (eval-test c t)
    ∙ (λ i. cond (asked c t) (eval-for c h i) (eval-for c f i))

-- and its labels are asked there
pub labels-for : (P : ℕ → Type 0) (r : Reading) → EachAsked P r → EveryLabel P (diagram_for r)
unfolding diagram_for test_diagram
labels-for P (number v) g = tt
labels-for P (conditional Always h f) g = every-stepped P (test_diagram Always) (diagram_for h) (diagram_for f) tt (labels-for P h g.0) (labels-for P f g.1)
labels-for P (conditional (Is l) h f) g =
    every-stepped P (test_diagram (Is l)) (diagram_for h) (diagram_for f) (g.0, tt, tt) (labels-for P h g.1) (labels-for P f g.2)

-- no leaf is above the highest value
pub meaning-most : (c : ℕ → Bool) (r : Reading) → EachValue r → meaning c r ≤ highest_value
meaning-most c (number v) g = g
meaning-most c (conditional t h f) g = go (asked c t) (meaning-most c h g.0) (meaning-most c f g.1)
  where
    go : (b : Bool) → meaning c h ≤ highest_value → meaning c f ≤ highest_value → cond b (meaning c h) (meaning c f) ≤ highest_value
    go true x y = x
    go false x y = y

most-for : (r : Reading) → EachValue r → AtMost highest_value (diagram_for r)
most-for r g = most-eval highest_value 0 (diagram_for r) (ordered-for r) (λ c. rw (eval-for c r) (meaning-most c r g))

-- a result that is held
pub record Held (d x : Diagram) : Type 0 where
  pub is : x ≡ d
  pub few : length (rows d) ≤ most_rows

held-is : (d : Diagram) → Accepted (Held d) (held d)
held-is d = go (ltb most_rows (length (rows d))) refl
  where
    go : (b : Bool) → ltb most_rows (length (rows d)) ≡ b → Accepted (Held d) (cond b (refused Space) (ok d))
    go true e = accepted-refused
    go false e = accepted-ok (record { is = refl; few = ltb-false most_rows (length (rows d)) e })

pub text-held : (r : Reading) → Accepted (Held (diagram_for r)) (text_diagram r)
unfolding text_diagram
text-held r =
    accepted-then (read_diagram r []) ((read-gives r).given [])
    (λ p h. subst (λ (d : Diagram). Accepted (Held d) (held p.0)) h (held-is p.0))

pub reward-held : (ar : List ℕ) (r : Reading) → Accepted (Held (closed ar (diagram_for r))) (reward_diagram ar r)
unfolding reward_diagram
reward-held ar r =
    accepted-then (read_diagram r []) ((read-gives r).given [])
    (λ p h. subst (λ (d : Diagram). Accepted (Held (closed ar d)) (held (closed ar p.0))) h (held-is (closed ar p.0)))

-- so it is fine, and good with few rows
pub fine-for : (ar : List ℕ) (r : Reading) → EachAsked (λ l. is_label ar l ≡ true) r → EachValue r → Fine ar (diagram_for r)
fine-for ar r l v = fine-made ar (diagram_for r) (labels-for (λ k. is_label ar k ≡ true) r l) (most-for r v)

good-for : (ar : List ℕ) (r : Reading) → are_arities ar ≡ true → EachAsked (λ l. is_label ar l ≡ true) r → EachValue r → length (rows (diagram_for r)) ≤ most_rows
    → Good ar (diagram_for r)
good-for ar r a l v h = record { arities = a; ordered = ordered-for r; reduced = reduced-for r; fine = fine-for ar r l v; few = h }

-- an accepted diagram of a text has a listing, and so has a reward's
pub text-good : (ar : List ℕ) (r : Reading) (d : Diagram) → are_arities ar ≡ true → EachAsked (λ l. is_label ar l ≡ true) r → EachValue r
    → text_diagram r ≡ ok d → Good ar d
text-good ar r d a l v e =
    let h = (text-held r).given d e in
    subst (Good ar) (sym h.is) (good-for ar r a l v h.few)

pub reward-good : (ar : List ℕ) (r : Reading) (d : Diagram) → are_arities ar ≡ true → EachAsked (λ l. is_label ar l ≡ true) r → EachValue r
    → reward_diagram ar r ≡ ok d → Good ar d
reward-good ar r d a l v e =
    let h = (reward-held ar r).given d e in
    let n = closed-count ar (diagram_for r) a (fine-for ar r l v) in
    subst (Good ar) (sym h.is) (closed-good ar (diagram_for r) (good-for ar r a l v (omega (arith, n, h.few))))
