-- Laws of the diagrams that replacement and regression give: meaning, order, reduction, leaves, labels, terms.
use Rattle.std.specs.Prelude.{◌≡◌, refl, Bool, true, cond, List, [], ◌∷◌, ℕ, zero, suc, ◌-◌, ◌≤◌, ◌<◌, length, get_or, eqb}
use Rattle.std.proofs.Common.{ap, ap₂, sym, ◌∙◌, subst, eqb-true, lt-ltb, le-ltb}
use Rattle.std.proofs.Math.Option.{Option, some, none}
use native.Mathlib.Omega.{arith}
use Rattle.std.proofs.lemmas.Bool.{eqb-false}
use Rattle.basics.specs.Tests.{Flag, is_true, is_false, flag}
use Rattle.label.specs.Limits.{first_variable, predicate_count}
use Rattle.label.specs.Terms.{is_term, is_constant}
use Rattle.label.specs.Labels.{are_arities, places_of, predicate_of, unpacked, is_label, terms_of}
use Rattle.label.proofs.LabelLaws.{used-term, label-fits}
use Rattle.label.specs.Renamings.{moved}
use Rattle.label.specs.declared.Label.{Label}
use Rattle.label.specs.declared.Test.{Test}
use Rattle.label.specs.declared.Test.TheVariants.{Always, Is}
use Rattle.diagram.specs.Sizes.{most_rows, highest_value}
use Rattle.diagram.specs.Diagram.{Diagram, leaf, branch, eval, relabel, Ordered, Reduced, EveryLabel}
use Rattle.diagram.specs.Rows.{rows}
use Rattle.diagram.specs.Listing.{Fine, Good}
use Rattle.apply.proofs.GoodLaws.{fine-every}
use Rattle.state.specs.State.{Atomic, atom_of, meaning, State, holds, value}
use Rattle.state.specs.Terms.{Each, args, Terms}
use Rattle.state.proofs.ValueLaws.{by-low}
use Rattle.minimum.proofs.PlainLaws.{each_take}
use Rattle.regression.specs.Step.{label_test, test_diagram}
use Rattle.regression.proofs.StepLaws.{eval-most, most-eval, eval-test, ordered-test, every-test, eval-stepped, from-stepped, reduced-stepped, every-stepped}
use Rattle.regression.proofs.MovedLaws.{moved_to, moved_holds, moved-label, moved-each}
use Rattle.regression.specs.Regression.{argument, Truths, truth_of}
use Rattle.regression.proofs.RegressionLaws.{rebuilt-leaf, rebuilt-branch}
use Rattle.regression.specs.Result.{rebuilt, replaced, truth_given, truth_diagram, regressed_diagram, AtMost, asked}
use Rattle.regression.specs.Parameters.{Labels, GoodTruth, GoodTruths}

-- a diagram's meaning by its labels
pub eval-meaning : (h : Atomic → Bool) (ar : List ℕ) (d : Diagram) → eval h (meaning ar d) ≡ eval (λ l. h (atom_of ar l)) d
unfolding meaning relabel eval
eval-meaning h ar (leaf v) = refl
eval-meaning h ar (branch l t f) = ap₂ (cond (h (atom_of ar l))) (eval-meaning h ar t) (eval-meaning h ar f)

pub value-meaning : (s : State) (ar : List ℕ) (d : Diagram) (θ : ℕ → ℕ) → value s (meaning ar d) θ ≡ eval (λ l. holds s θ (atom_of ar l)) d
unfolding value
value-meaning s ar d θ = eval-meaning (holds s θ) ar d

-- its terms by its labels
pub terms-every : (P : ℕ → Type 0) (ar : List ℕ) (d : Diagram) → Terms P (meaning ar d) → EveryLabel (λ l. Each P (args (atom_of ar l))) d
unfolding meaning relabel
terms-every P ar (leaf v) w = tt
terms-every P ar (branch l t f) w = (w.0, terms-every P ar t w.1, terms-every P ar f w.2)

pub every-terms : (P : ℕ → Type 0) (ar : List ℕ) (d : Diagram) → EveryLabel (λ l. Each P (args (atom_of ar l))) d → Terms P (meaning ar d)
unfolding meaning relabel
every-terms P ar (leaf v) w = tt
every-terms P ar (branch l t f) w = (w.0, every-terms P ar t w.1, every-terms P ar f w.2)

pub every-both : (P Q : ℕ → Type 0) (d : Diagram) → EveryLabel P d → EveryLabel Q d → EveryLabel (λ l. P l × Q l) d
every-both P Q (leaf v) x y = tt
every-both P Q (branch l t f) x y = ((x.0, y.0), every-both P Q t x.1 y.1, every-both P Q f x.2 y.2)

-- choices that agree on the labels
pub eval-agree : (c b : ℕ → Bool) (P : ℕ → Type 0) → ((l : ℕ) → P l → c l ≡ b l) → (d : Diagram) → EveryLabel P d → eval c d ≡ eval b d
unfolding eval
eval-agree c b P h (leaf v) w = refl
eval-agree c b P h (branch l t f) w = rw (h l w.0, eval-agree c b P h t w.1, eval-agree c b P h f w.2) refl

-- every row, T given for its label
pub eval-rebuilt : (c b : ℕ → Bool) (T : ℕ → Diagram) (P : ℕ → Type 0) → ((l : ℕ) → P l → eval c (T l) ≡ cond (b l) 1 0)
    → (d : Diagram) → EveryLabel P d → eval c (rebuilt T d) ≡ eval b d
unfolding eval
eval-rebuilt c b T P h (leaf v) w = ap (eval c) (rebuilt-leaf T v)
eval-rebuilt c b T P h (branch l t f) w =
    ap (eval c) (rebuilt-branch T l t f) ∙ eval-stepped c (T l) (rebuilt T t) (rebuilt T f) (b l) (h l w.0)
    ∙ ap₂ (cond (b l)) (eval-rebuilt c b T P h t w.1) (eval-rebuilt c b T P h f w.2)

pub ordered-rebuilt : (T : ℕ → Diagram) → ((l : ℕ) → Ordered (T l)) → (d : Diagram) → Ordered (rebuilt T d)
ordered-rebuilt T h (leaf v) = rw (rebuilt-leaf T v) tt
ordered-rebuilt T h (branch l t f) =
    rw (rebuilt-branch T l t f) (from-stepped 0 (T l) (rebuilt T t) (rebuilt T f) (h l) (ordered-rebuilt T h t) (ordered-rebuilt T h f))

pub reduced-rebuilt : (T : ℕ → Diagram) (d : Diagram) → Reduced (rebuilt T d)
reduced-rebuilt T (leaf v) = rw (rebuilt-leaf T v) tt
reduced-rebuilt T (branch l t f) = rw (rebuilt-branch T l t f) (reduced-stepped (T l) (rebuilt T t) (rebuilt T f))

pub every-rebuilt : (P Q : ℕ → Type 0) (T : ℕ → Diagram) → ((l : ℕ) → P l → EveryLabel Q (T l)) → (d : Diagram) → EveryLabel P d → EveryLabel Q (rebuilt T d)
every-rebuilt P Q T h (leaf v) w = rw (rebuilt-leaf T v) tt
every-rebuilt P Q T h (branch l t f) w =
    rw (rebuilt-branch T l t f) (every-stepped Q (T l) (rebuilt T t) (rebuilt T f) (h l w.0) (every-rebuilt P Q T h t w.1) (every-rebuilt P Q T h f w.2))

-- replacement
pub eval-replaced : (c : ℕ → Bool) (ar : List ℕ) (σ : ℕ → ℕ) (d : Diagram) → eval c (replaced ar σ d) ≡ eval (λ l. asked c (moved ar σ l)) d
unfolding replaced
eval-replaced c ar σ d =
    eval-rebuilt c (λ l. asked c (moved ar σ l)) (λ l. test_diagram (moved ar σ l)) (λ l. Unit {0}) (λ l u. eval-test c (moved ar σ l)) d (every_any d)
  where
    every_any : (d : Diagram) → EveryLabel (λ l. Unit {0}) d
    every_any (leaf v) = tt
    every_any (branch l t f) = (tt, every_any t, every_any f)

pub ordered-replaced : (ar : List ℕ) (σ : ℕ → ℕ) (d : Diagram) → Ordered (replaced ar σ d)
unfolding replaced
ordered-replaced ar σ d = ordered-rebuilt (λ l. test_diagram (moved ar σ l)) (λ l. ordered-test (moved ar σ l)) d

pub most-replaced : (b : ℕ) (ar : List ℕ) (σ : ℕ → ℕ) (d : Diagram) → AtMost b d → AtMost b (replaced ar σ d)
most-replaced b ar σ d h = most-eval b 0 (replaced ar σ d) (ordered-replaced ar σ d) (λ c. rw (eval-replaced c ar σ d) (eval-most b _ d h))

-- a test's label
test-label : (x : Test) (k : ℕ) → test_diagram x ≡ label_test k → (Q : ℕ → Type 0) → ((j : Label) → x ≡ Is j → Q j.packed) → Q k
unfolding test_diagram
test-label Always k e Q h = let z : ◌≡◌ {A = ℕ} 0 1 = cc in absurd (omega arith)
test-label (Is j) k e Q h = let q : j.packed ≡ k = cc in subst Q q (h j refl)

-- replacement by terms: what it says, its labels and its terms
module _ (ar : List ℕ) (good : are_arities ar ≡ true) (σ : ℕ → ℕ) (terms : (t : ℕ) → is_term t ≡ true → is_term (σ t) ≡ true) where
  pub value-replaced : (s : State) (θ : ℕ → ℕ) (d : Diagram) → Labels ar d → value s (meaning ar (replaced ar σ d)) θ ≡ value s (meaning ar d) (λ t. θ (σ t))
  value-replaced s θ d w =
      value-meaning s ar (replaced ar σ d) θ ∙ eval-replaced (λ k. holds s θ (atom_of ar k)) ar σ d
      ∙ eval-agree (λ l. asked (λ k. holds s θ (atom_of ar k)) (moved ar σ l)) (λ l. holds s (λ t. θ (σ t)) (atom_of ar l)) (λ l. is_label ar l ≡ true)
      (λ l h. moved_holds ar σ l s θ (moved_to ar good σ terms l h)) d w
      ∙ sym (value-meaning s ar d (λ t. θ (σ t)))

  pub labels-replaced : (d : Diagram) → Labels ar d → Labels ar (replaced ar σ d)
  unfolding replaced
  labels-replaced d w = every-rebuilt (λ l. is_label ar l ≡ true) (λ l. is_label ar l ≡ true) (λ l. test_diagram (moved ar σ l))
      (λ l h. every-test (λ k. is_label ar k ≡ true) (moved ar σ l) (λ k e. test-label (moved ar σ l) k e (λ j. is_label ar j ≡ true) (moved-label ar σ l (moved_to ar good σ terms l h))))
      d w

  pub terms-replaced : (P Q : ℕ → Type 0) → ((t : ℕ) → P t → Q (σ t)) → (d : Diagram) → Labels ar d → Terms P (meaning ar d) → Terms Q (meaning ar (replaced ar σ d))
  unfolding replaced
  terms-replaced P Q m d w v = every-terms Q ar (replaced ar σ d) (every-rebuilt (λ l. (is_label ar l ≡ true) × Each P (args (atom_of ar l))) (λ l. Each Q (args (atom_of ar l)))
      (λ l. test_diagram (moved ar σ l))
      (λ l h. every-test (λ k. Each Q (args (atom_of ar k))) (moved ar σ l) (λ k e. test-label (moved ar σ l) k e (λ j. Each Q (args (atom_of ar j)))
      (moved-each ar σ l (moved_to ar good σ terms l h.0) P Q m h.1)))
      d (every-both (λ l. is_label ar l ≡ true) (λ l. Each P (args (atom_of ar l))) d w (terms-every P ar d v)))

-- the terms of a label are terms
abbrev Term : ℕ → Type 0
Term t = is_term t ≡ true

zero-term : is_term 0 ≡ true
unfolding is_term is_constant
zero-term = refl

pub label-terms : (ar : List ℕ) (l : ℕ) → is_label ar l ≡ true → Each Term (terms_of ar (unpacked l))
unfolding terms_of
label-terms ar l h =
    each_take Term (get_or ar (unpacked l).predicate 0) (places_of (unpacked l)) (λ k i j. used-term _ k _ i ((label-fits ar l h).places-fit.fits k j))

-- the arguments of p replaced by terms
pub argument-low : (ts : List ℕ) (t : ℕ) → t < first_variable → argument ts t ≡ t
unfolding argument
argument-low ts t h = rw (lt-ltb t first_variable h)

pub argument-high : (ts : List ℕ) (t : ℕ) → first_variable ≤ t → argument ts t ≡ get_or ts (t - first_variable) 0
unfolding argument
argument-high ts t h = rw (le-ltb t first_variable h)

each_at : (P : ℕ → Type 0) → P 0 → (ts : List ℕ) → Each P ts → (i : ℕ) → P (get_or ts i 0)
each_at P z [] w i = z
each_at P z (t ∷ ts) w zero = w.0
each_at P z (t ∷ ts) w (suc i) = each_at P z ts w.1 i

-- what is no variable stays; a variable becomes one of the terms, or constant 0 past them
pub argument-in : (P : ℕ → Type 0) → P 0 → (ts : List ℕ) → Each P ts → (t : ℕ) → (t < first_variable → P t) → P (argument ts t)
argument-in P z ts w t h = by-low (P (argument ts t)) first_variable t
    (λ k. rw (argument-low ts t k) (h k))
    (λ k. rw (argument-high ts t k) (each_at P z ts w (t - first_variable)))

pub argument-terms : (ts : List ℕ) → Each Term ts → (t : ℕ) → is_term t ≡ true → is_term (argument ts t) ≡ true
argument-terms ts w t h = argument-in Term zero-term ts w t (λ k. h)

-- a truth diagram that is used is one of a predicate that is no equality
truth-of-some : (truths : Truths) (p : ℕ) (d : Diagram) → truth_of truths p ≡ some d → (0 < p) × (truths p ≡ some d)
unfolding truth_of
truth-of-some truths p d e = go (flag (eqb p 0))
  where
    go : Flag (eqb p 0) → (0 < p) × (truths p ≡ some d)
    go (is_true q) = let z : none ≡ some d = rw q at e in let y : ◌≡◌ {A = ℕ} 0 1 = cc in absurd (omega arith)
    go (is_false q) = (let n = eqb-false p 0 q in omega arith, rw q at e)

pub label-predicate : (ar : List ℕ) (l : ℕ) → is_label ar l ≡ true → predicate_of l < predicate_count
unfolding predicate_of unpacked
label-predicate ar l h = (label-fits ar l h).predicate-fits

truth-good : (ar : List ℕ) (truths : Truths) → GoodTruths ar truths → (l : ℕ) → is_label ar l ≡ true → (d : Diagram) → truth_of truths (predicate_of l) ≡ some d
    → GoodTruth ar d
truth-good ar truths g l h d e = let x = truth-of-some truths (predicate_of l) d e in g.each (predicate_of l) d x.0 (label-predicate ar l h) x.1

-- T for a label: order, reduction, leaves 0 and 1, labels, terms
module _ (ar : List ℕ) (l : ℕ) where
  given-ordered : (o : Option Diagram) → Ordered (truth_given ar o l)
  unfolding truth_given
  given-ordered none = (omega arith, tt, tt)
  given-ordered (some d) = ordered-replaced ar (argument (terms_of ar (unpacked l))) d

  given-bits : (o : Option Diagram) → ((d : Diagram) → o ≡ some d → GoodTruth ar d) → AtMost 1 (truth_given ar o l)
  unfolding truth_given
  given-bits none g = (omega arith, omega arith)
  given-bits (some d) g = most-replaced 1 ar (argument (terms_of ar (unpacked l))) d (g d refl).bits

  module _ (good : are_arities ar ≡ true) (h : is_label ar l ≡ true) where
    given-labels : (o : Option Diagram) → ((d : Diagram) → o ≡ some d → GoodTruth ar d) → Labels ar (truth_given ar o l)
    unfolding truth_given
    given-labels none g = (h, tt, tt)
    given-labels (some d) g =
        labels-replaced ar good (argument (terms_of ar (unpacked l))) (argument-terms (terms_of ar (unpacked l)) (label-terms ar l h)) d (g d refl).labels

    given-terms : (P : ℕ → Type 0) → P 0 → (o : Option Diagram) → ((d : Diagram) → o ≡ some d → GoodTruth ar d)
        → ((d : Diagram) → o ≡ some d → Terms (λ t. t < first_variable → P t) (meaning ar d))
        → Each P (args (atom_of ar l)) → Terms P (meaning ar (truth_given ar o l))
    unfolding truth_given atom_of meaning relabel
    given-terms P z none g m w = (w, tt, tt)
    given-terms P z (some d) g m w =
        terms-replaced ar good (argument (terms_of ar (unpacked l))) (argument-terms (terms_of ar (unpacked l)) (label-terms ar l h))
        (λ t. t < first_variable → P t) P (argument-in P z (terms_of ar (unpacked l)) w) d (g d refl).labels (m d refl)

module _ (ar : List ℕ) (truths : Truths) where
  pub ordered-truth : (l : ℕ) → Ordered (truth_diagram ar truths l)
  unfolding truth_diagram
  ordered-truth l = given-ordered ar l (truth_of truths (predicate_of l))

  pub most-truth : GoodTruths ar truths → (l : ℕ) → is_label ar l ≡ true → AtMost 1 (truth_diagram ar truths l)
  unfolding truth_diagram
  most-truth g l h = given-bits ar l (truth_of truths (predicate_of l)) (truth-good ar truths g l h)

  pub labels-truth : are_arities ar ≡ true → GoodTruths ar truths → (l : ℕ) → is_label ar l ≡ true → Labels ar (truth_diagram ar truths l)
  unfolding truth_diagram
  labels-truth good g l h = given-labels ar l good h (truth_of truths (predicate_of l)) (truth-good ar truths g l h)

-- regression: order and reduction
pub ordered-regressed : (ar : List ℕ) (truths : Truths) (d : Diagram) → Ordered (regressed_diagram ar truths d)
unfolding regressed_diagram
ordered-regressed ar truths d = ordered-rebuilt (truth_diagram ar truths) (ordered-truth ar truths) d

pub reduced-regressed : (ar : List ℕ) (truths : Truths) (d : Diagram) → Reduced (regressed_diagram ar truths d)
unfolding regressed_diagram
reduced-regressed ar truths d = reduced-rebuilt (truth_diagram ar truths) d

-- each choice leads to a leaf of the old diagram: that of the truths that T gives
pub bit : (x : ℕ) → x ≤ 1 → x ≡ cond (eqb x 1) 1 0
bit x l = go (flag (eqb x 1))
  where
    go : Flag (eqb x 1) → x ≡ cond (eqb x 1) 1 0
    go (is_true e) = rw e (eqb-true x 1 e)
    go (is_false e) = rw e (let n = eqb-false x 1 e in omega arith)

pub eval-regressed : (ar : List ℕ) (truths : Truths) → GoodTruths ar truths → (c : ℕ → Bool) (d : Diagram) → Labels ar d
    → eval c (regressed_diagram ar truths d) ≡ eval (λ l. eqb (eval c (truth_diagram ar truths l)) 1) d
unfolding regressed_diagram
eval-regressed ar truths g c d w =
    eval-rebuilt c (λ l. eqb (eval c (truth_diagram ar truths l)) 1) (truth_diagram ar truths) (λ l. is_label ar l ≡ true)
    (λ l h. bit (eval c (truth_diagram ar truths l)) (eval-most 1 c (truth_diagram ar truths l) (most-truth ar truths g l h))) d w

pub most-regressed : (ar : List ℕ) (truths : Truths) → GoodTruths ar truths → (b : ℕ) (d : Diagram) → Labels ar d → AtMost b d → AtMost b (regressed_diagram ar truths d)
most-regressed ar truths g b d w h =
    most-eval b 0 (regressed_diagram ar truths d) (ordered-regressed ar truths d) (λ c. rw (eval-regressed ar truths g c d w) (eval-most b _ d h))

pub labels-regressed : (ar : List ℕ) (truths : Truths) → are_arities ar ≡ true → GoodTruths ar truths → (d : Diagram) → Labels ar d → Labels ar (regressed_diagram ar truths d)
unfolding regressed_diagram
labels-regressed ar truths good g d w =
    every-rebuilt (λ l. is_label ar l ≡ true) (λ l. is_label ar l ≡ true) (truth_diagram ar truths) (labels-truth ar truths good g) d w

-- its terms: those of the old diagram, and what the truth diagrams have but their arguments
pub terms-regressed : (ar : List ℕ) (truths : Truths) → are_arities ar ≡ true → GoodTruths ar truths → (P : ℕ → Type 0) → P 0
    → ((p : ℕ) (t : Diagram) → 0 < p → p < predicate_count → truths p ≡ some t → Terms (λ x. x < first_variable → P x) (meaning ar t))
    → (d : Diagram) → Labels ar d → Terms P (meaning ar d) → Terms P (meaning ar (regressed_diagram ar truths d))
unfolding regressed_diagram truth_diagram
terms-regressed ar truths good g P z m d w v =
    every-terms P ar (regressed_diagram ar truths d) (every-rebuilt (λ l. (is_label ar l ≡ true) × Each P (args (atom_of ar l))) (λ l. Each P (args (atom_of ar l)))
    (truth_diagram ar truths)
    (λ l h. terms-every P ar (truth_diagram ar truths l) (given-terms ar l good h.0 P z (truth_of truths (predicate_of l)) (truth-good ar truths g l h.0)
    (λ t e. let x = truth-of-some truths (predicate_of l) t e in m (predicate_of l) t x.0 (label-predicate ar l h.0) x.1) h.1))
    d (every-both (λ l. is_label ar l ≡ true) (λ l. Each P (args (atom_of ar l))) d w (terms-every P ar d v)))

-- a good result
most-fine : (ar : List ℕ) (d : Diagram) → Fine ar d → AtMost highest_value d
most-fine ar (leaf v) h = h
most-fine ar (branch l t f) h = (most-fine ar t h.1, most-fine ar f h.2)

fine-most : (ar : List ℕ) (d : Diagram) → Labels ar d → AtMost highest_value d → Fine ar d
fine-most ar (leaf v) w h = h
fine-most ar (branch l t f) w h = (w.0, fine-most ar t w.1 h.0, fine-most ar f w.2 h.1)

pub good-regressed : (ar : List ℕ) (truths : Truths) (d : Diagram) → GoodTruths ar truths → Good ar d → length (rows (regressed_diagram ar truths d)) ≤ most_rows
    → Good ar (regressed_diagram ar truths d)
good-regressed ar truths d g h n = record {
  arities = h.arities;
  ordered = ordered-regressed ar truths d;
  reduced = reduced-regressed ar truths d;
  fine = fine-most ar (regressed_diagram ar truths d) (labels-regressed ar truths h.arities g d (fine-every ar d h.fine))
      (most-regressed ar truths g highest_value d (fine-every ar d h.fine) (most-fine ar d h.fine));
  few = n;
}
