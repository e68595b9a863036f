-- What a reading stands for is a good diagram, and has only the terms that the reading names.
use Rattle.std.specs.Prelude.{◌≡◌, Bool, true, false, cond, List, [], ◌∷◌, ℕ, ◌≤◌, length}
use Rattle.std.proofs.Common.{sym, subst, ◌∙◌, arith}
use Rattle.label.specs.Labels.{are_arities, is_label, terms_of, unpacked}
use Rattle.label.specs.Renamings.{EachIn}
use Rattle.label.specs.declared.Test.{Test}
use Rattle.label.specs.declared.Test.TheVariants.{Always, Is}
use Rattle.diagram.specs.Sizes.{most_rows, highest_value}
use Rattle.diagram.specs.Diagram.{Diagram, leaf, branch, relabel, eval, Ordered, Reduced, EveryLabel}
use Rattle.diagram.specs.Rows.{rows}
use Rattle.diagram.specs.Listing.{Fine, Good}
use Rattle.rename.specs.Ascending.{All}
use Rattle.rename.specs.TermLaws.{each-terms}
use Rattle.rename.specs.ClosingLaws.{closed-count, closed-good, closed-twice}
use Rattle.state.specs.State.{atom_of, meaning}
use Rattle.state.specs.Terms.{Each, Terms}
use Rattle.state.proofs.ValueLaws.{Terms-mono}
use Rattle.refusal.specs.Outcome.{ok}
use Rattle.regression.specs.Step.{test_diagram}
use Rattle.regression.proofs.StepLaws.{eval-most, most-eval, eval-test, ordered-test, eval-stepped, from-stepped, reduced-stepped, every-stepped}
use Rattle.regression.specs.Result.{AtMost, asked, stepped}
use Rattle.regression.specs.Parameters.{Allowed, Within}
use Rattle.reduction.proofs.ClosedLaws.{within-closed}
use Rattle.reading.specs.Inner.{depth, Reach, Named, GoodTest, GoodReading}
use Rattle.reading.specs.Tree.{Reading, ops_of}
use Rattle.reading.specs.Tree.Reading.{branch as conditional, number}
use Rattle.build.specs.Written.{diagram_for}
use Rattle.build.specs.Machine.{most_tests, built, built_closed}
use Rattle.build.specs.MachineLaws.{built-text, built-reward}
use Rattle.build.specs.ReadingLaws.{text-held, reward-held}
use Rattle.session.specs.Good.{GoodValue}

-- a label under the arity list that has only terms of P
abbrev Labelled : List ℕ → (ℕ → Type 0) → ℕ → Type 0
Labelled ar P l = (is_label ar l ≡ true) × EachIn ar P l

-- ordered and reduced, its labels and leaves in their ranges: all but the count of its rows
record Drawn (ar : List ℕ) (P : ℕ → Type 0) (d : Diagram) : Type 0 where
  ordered : Ordered d
  reduced : Reduced d
  labels : EveryLabel (Labelled ar P) d
  most : AtMost highest_value d

module _ (ar : List ℕ) (P : ℕ → Type 0) where
  test-labels : (t : Test) → GoodTest ar P t → EveryLabel (Labelled ar P) (test_diagram t)
  unfolding test_diagram
  test-labels Always h = tt
  test-labels (Is l) h = (h, tt, tt)

  drawn-step : (t : Test) (x y : Diagram) → GoodTest ar P t → Drawn ar P x → Drawn ar P y → Drawn ar P (stepped (test_diagram t) x y)
  drawn-step t x y h p q = record {
    ordered = ordered;
    reduced = reduced-stepped (test_diagram t) x y;
    labels = every-stepped (Labelled ar P) (test_diagram t) x y (test-labels t h) p.labels q.labels;
    most = most-eval highest_value 0 (stepped (test_diagram t) x y) ordered (λ c. rw (eval-stepped c (test_diagram t) x y (asked c t) (eval-test c t)) (either c (asked c t)));
  }
    where
      ordered : Ordered (stepped (test_diagram t) x y)
      ordered = from-stepped 0 (test_diagram t) x y (ordered-test t) p.ordered q.ordered

      either : (c : ℕ → Bool) (b : Bool) → cond b (eval c x) (eval c y) ≤ highest_value
      either c true = eval-most highest_value c x p.most
      either c false = eval-most highest_value c y q.most

  drawn : (r : Reading) → GoodReading ar P r → Drawn ar P (diagram_for r)
  unfolding diagram_for
  drawn (number v) g = record { ordered = tt; reduced = tt; labels = tt; most = g }
  drawn (conditional t h f) g = drawn-step t (diagram_for h) (diagram_for f) g.0 (drawn h g.1) (drawn f g.2)

  labelled-fine : (d : Diagram) → EveryLabel (Labelled ar P) d → AtMost highest_value d → Fine ar d
  labelled-fine (leaf v) h m = m
  labelled-fine (branch l t f) h m = (h.0.0, labelled-fine t h.1 m.0, labelled-fine f h.2 m.1)

  all-each : (ts : List ℕ) → All P ts → Each P ts
  all-each [] h = tt
  all-each (t ∷ ts) h = (h.0, all-each ts h.1)

  labelled-terms : (d : Diagram) → EveryLabel (Labelled ar P) d → Terms P (meaning ar d)
  unfolding meaning relabel atom_of
  labelled-terms (leaf v) h = tt
  labelled-terms (branch l t f) h = (all-each (terms_of ar (unpacked l)) (each-terms P ar l h.0.1), labelled-terms t h.1, labelled-terms f h.2)

-- ===== What is built =====

-- a diagram with c parameters and, of each kind, n variables at most
pub record Read (ar : List ℕ) (c : ℕ) (n : Reach) (d : Diagram) : Type 0 where
  pub listed : Good ar d
  pub terms : Terms (Named c n) (meaning ar d)

pub read-within : (ar : List ℕ) (c : ℕ) (n : Reach) (d : Diagram) → Read ar c n d → Within c (meaning ar d)
read-within ar c n d r = record { terms = Terms-mono (Named c n) (Allowed c) (λ t h. h.parameters) (meaning ar d) r.terms }

module _ (ar : List ℕ) (arities : are_arities ar ≡ true) where
  drawn-read : (c : ℕ) (n : Reach) (d : Diagram) → Drawn ar (Named c n) d → length (rows d) ≤ most_rows → Read ar c n d
  drawn-read c n d g few = record {
    listed = record { arities = arities; ordered = g.ordered; reduced = g.reduced; fine = labelled-fine ar (Named c n) d g.labels g.most; few = few };
    terms = labelled-terms ar (Named c n) d g.labels;
  }

  -- a diagram of a text
  pub built-read : (c : ℕ) (n : Reach) (r : Reading) → GoodReading ar (Named c n) r → depth r ≤ most_tests → (d : Diagram) → built (ops_of r) ≡ ok d → Read ar c n d
  built-read c n r good shallow d e =
      let h = (text-held r).given d (sym (built-text r shallow) ∙ e) in
      subst (Read ar c n) (sym h.is) (drawn-read c n (diagram_for r) (drawn ar (Named c n) r good) h.few)

  -- closed up it is a reward
  pub built-good : (n : Reach) (r : Reading) → GoodReading ar (Named 0 n) r → depth r ≤ most_tests → (d : Diagram) → built_closed ar (ops_of r) ≡ ok d → GoodValue ar d
  built-good n r good shallow d e =
      let h = (reward-held ar r).given d (sym (built-reward ar r shallow) ∙ e) in
      let x : Diagram = diagram_for r in
      let g = drawn ar (Named 0 n) r good in
      let count = closed-count ar x arities (labelled-fine ar (Named 0 n) x g.labels g.most) in
      let y = drawn-read 0 n x g (omega (arith, h.few)) in
      subst (GoodValue ar) (sym h.is)
      (record {
        listed = closed-good ar x y.listed;
        is-closed = closed-twice ar x y.listed;
        within = within-closed 0 ar x y.listed (read-within ar 0 n x y);
      })
