-- Laws of what the calls answer: one for each check, and what an accepted call is.
use Rattle.std.specs.Prelude.{◌≡◌, refl, Bool, true, false, not, ◌&&◌, ◌||◌, List, ℕ, zero, suc, ◌+◌, ◌-◌, ◌≤◌, ◌<◌, length, get_or, eqb}
use Rattle.std.proofs.Common.{sym, ◌∙◌, subst, arith}
use Rattle.std.proofs.Math.Option.{Option, some, none}
use Rattle.std.proofs.Math.Dec.{ltb}
use borrow.Author.Tests.{ltb-false, le-ltb, eqb-true, eq-eqb, ne_eqb, not-false}
use Rattle.refusal.specs.declared.Refusal.{Refusal}
use Rattle.refusal.specs.declared.Refusal.TheVariants.{Listing, Buffer, Truth, Unbound}
use Rattle.refusal.specs.Outcome.{Outcome, refused, Accepted}
use Rattle.refusal.specs.OutcomeLaws.{accepted-cond}
use Rattle.basics.specs.Tests.{and_left, and_right, Flag, is_true, is_false, flag, Either, one, other, either, Cmp, below, equal, above, cmp, neither}
use Rattle.basics.specs.Members.{clash}
use Rattle.label.specs.Limits.{predicate_count}
use Rattle.label.specs.Labels.{is_label}
use Rattle.diagram.specs.Sizes.{result_words, space_words}
use Rattle.diagram.specs.Diagram.{Diagram, leaf, branch, EveryLabel}
use Rattle.diagram.specs.Words.{is_listing}
use Rattle.diagram.specs.Listing.{diagram_of}
use Rattle.diagram.specs.Listings.{is-listing-good}
use Rattle.diagram.specs.Variables.{occurs}
use Rattle.apply.proofs.GoodLaws.{fine-every}
use Rattle.regression.specs.Regression.{Truths, regressed}
use Rattle.regression.specs.Result.{AtMost}
use Rattle.regression.specs.Parameters.{GoodTruth, GoodTruths}
use Rattle.regression.specs.Tells.{Tells}
use Rattle.regression.proofs.TellsLaws.{regressed-tells}
use Rattle.regression.specs.RegressCall.{truth_count, truth_words, truths_of, are_listings, leaf_above, any_occurs}
use Rattle.regression.specs.RegressCall.{unbound_variable, check_truth, check_truths, regress_outcome, regress_answer, regress_result}
use Rattle.std.specs.Prelude.{Err}

-- the laws of `truths_of`, `are_listings`, `leaf_above`, `any_occurs` and `check_truths`: nothing else unfolds them
pub truths-none : (truths spans : List ℕ) (p : ℕ) → truth_count spans p ≡ 0 → truths_of truths spans p ≡ none
unfolding truths_of
truths-none truths spans p e = rw (eq-eqb (truth_count spans p) 0 e)

pub truths-some : (truths spans : List ℕ) (p : ℕ) → (truth_count spans p ≡ 0 → ⊥) → truths_of truths spans p ≡ some (diagram_of (truth_words truths spans p))
unfolding truths_of
truths-some truths spans p e = rw (ne_eqb (truth_count spans p) 0 e)

pub listings-none : (ar truths spans : List ℕ) (p : ℕ) → are_listings ar truths spans p 0 ≡ true
unfolding are_listings
listings-none ar truths spans p = refl

pub listings-cons : (ar truths spans : List ℕ) (p n : ℕ) → are_listings ar truths spans p (suc n)
    ≡ ((eqb (truth_count spans p) 0 || is_listing ar (truth_words truths spans p)) && are_listings ar truths spans (suc p) n)
unfolding are_listings
listings-cons ar truths spans p n = refl

pub above-leaf : (m v : ℕ) → leaf_above m (leaf v) ≡ ltb m v
unfolding leaf_above
above-leaf m v = refl

pub above-branch : (m l : ℕ) (t f : Diagram) → leaf_above m (branch l t f) ≡ (leaf_above m t || leaf_above m f)
unfolding leaf_above
above-branch m l t f = refl

pub any_none : (ar : List ℕ) (d : Diagram) (t : ℕ) → any_occurs ar d t 0 ≡ false
unfolding any_occurs
any_none ar d t = refl

pub any-cons : (ar : List ℕ) (d : Diagram) (t n : ℕ) → any_occurs ar d t (suc n) ≡ (occurs ar t d || any_occurs ar d (suc t) n)
unfolding any_occurs
any-cons ar d t n = refl

pub checks-none : {A : Type 0} (ar : List ℕ) (truths : Truths) (p : ℕ) (after : Outcome A) → check_truths ar truths p 0 after ≡ after
unfolding check_truths
checks-none ar truths p after = refl

pub checks-cons : {A : Type 0} (ar : List ℕ) (truths : Truths) (p n : ℕ) (after : Outcome A)
    → check_truths ar truths p (suc n) after ≡ check_truth ar (get_or ar p 0) (truths p) (check_truths ar truths (suc p) n after)
unfolding check_truths
checks-cons ar truths p n after = refl

-- what they mean
pub listings-at : (ar truths spans : List ℕ) (p n : ℕ) → are_listings ar truths spans p n ≡ true → (q : ℕ) → p ≤ q → q < p + n → (truth_count spans q ≡ 0 → ⊥)
    → is_listing ar (truth_words truths spans q) ≡ true
listings-at ar truths spans p zero h q i j e = absurd (omega arith)
listings-at ar truths spans p (suc n) h q i j e = go (cmp p q) (listings-at ar truths spans (suc p) n (and_right first _ both))
  where
    first : Bool
    first = eqb (truth_count spans p) 0 || is_listing ar (truth_words truths spans p)

    both : (first && are_listings ar truths spans (suc p) n) ≡ true
    both = rw (listings-cons ar truths spans p n) at h

    here : Either (eqb (truth_count spans q) 0) (is_listing ar (truth_words truths spans q)) → is_listing ar (truth_words truths spans q) ≡ true
    here (one k) = absurd (e (eqb-true _ _ k))
    here (other k) = k

    go : Cmp p q → ((r : ℕ) → suc p ≤ r → r < suc p + n → (truth_count spans r ≡ 0 → ⊥) → is_listing ar (truth_words truths spans r) ≡ true)
        → is_listing ar (truth_words truths spans q) ≡ true
    go (below k) ih = ih q (omega arith) (omega arith) e
    go (equal k) ih =
        here (either (eqb (truth_count spans q) 0) _ (subst (λ (r : ℕ). (eqb (truth_count spans r) 0 || is_listing ar (truth_words truths spans r)) ≡ true) k (and_left first _ both)))
    go (above k) ih = absurd (omega arith)

pub above_most : (m : ℕ) (d : Diagram) → leaf_above m d ≡ false → AtMost m d
above_most m (leaf v) h = ltb-false m v (rw (above-leaf m v) at h)
above_most m (branch l t f) h =
    let x = neither (leaf_above m t) (leaf_above m f) (rw (above-branch m l t f) at h) in
    (above_most m t x.0, above_most m f x.1)

pub any-quiet : (ar : List ℕ) (d : Diagram) (t n : ℕ) → any_occurs ar d t n ≡ false → (u : ℕ) → t ≤ u → u < t + n → occurs ar u d ≡ false
any-quiet ar d t zero h u i j = absurd (omega arith)
any-quiet ar d t (suc n) h u i j = go (cmp t u) (neither (occurs ar t d) (any_occurs ar d (suc t) n) (rw (any-cons ar d t n) at h)) (any-quiet ar d (suc t) n)
  where
    go : Cmp t u → (occurs ar t d ≡ false) × (any_occurs ar d (suc t) n ≡ false)
        → (any_occurs ar d (suc t) n ≡ false → (v : ℕ) → suc t ≤ v → v < suc t + n → occurs ar v d ≡ false) → occurs ar u d ≡ false
    go (below k) x ih = ih x.1 u (omega arith) (omega arith)
    go (equal k) x ih = subst (λ (v : ℕ). occurs ar v d ≡ false) k x.0
    go (above k) x ih = absurd (omega arith)

pub quiet-any : (ar : List ℕ) (d : Diagram) (t n : ℕ) → ((u : ℕ) → t ≤ u → u < t + n → occurs ar u d ≡ false) → any_occurs ar d t n ≡ false
quiet-any ar d t zero h = any_none ar d t
quiet-any ar d t (suc n) h =
    rw (any-cons ar d t n, h t (omega arith) (omega arith), quiet-any ar d (suc t) n (λ u i j. h u (omega arith) (omega arith)))

-- a truth diagram that passes 7 and 6: no leaf above 1, no variable but the arguments
pub record Passes (ar : List ℕ) (n : ℕ) (d : Diagram) : Type 0 where
  pub bits : leaf_above 1 d ≡ false
  pub bound : unbound_variable ar n d ≡ false

-- the truth diagrams of the n predicates from p on pass
pub record PassAll (ar : List ℕ) (truths : Truths) (p n : ℕ) : Type 0 where
  pub each : (q : ℕ) (d : Diagram) → p ≤ q → q < p + n → truths q ≡ some d → Passes ar (get_or ar q 0) d

-- an accepted answer has P where the checks are passed and what comes after has it
pub accepted-checks : {A : Type 0} {P : A → Type 0} (ar : List ℕ) (truths : Truths) (p n : ℕ) (after : Outcome A) → (PassAll ar truths p n → Accepted P after)
    → Accepted P (check_truths ar truths p n after)
accepted-checks {A} {P} ar truths p zero after h =
    rw (checks-none ar truths p after) (h (record { each = λ q d i j e. absurd (omega arith) }))
accepted-checks {A} {P} ar truths p (suc n) after h = rw (checks-cons ar truths p n after) (go (truths p) refl (accepted-checks ar truths (suc p) n after))
  where
    rest : Outcome A
    rest = check_truths ar truths (suc p) n after

    all : ((d : Diagram) → truths p ≡ some d → Passes ar (get_or ar p 0) d) → PassAll ar truths (suc p) n → PassAll ar truths p (suc n)
    all x y = record { each = λ q d i j e. pick q d i j e (cmp p q) }
      where
        pick : (q : ℕ) (d : Diagram) → p ≤ q → q < p + suc n → truths q ≡ some d → Cmp p q → Passes ar (get_or ar q 0) d
        pick q d i j e (below k) = y.each q d (omega arith) (omega arith) e
        pick q d i j e (equal k) = subst (λ (r : ℕ). Passes ar (get_or ar r 0) d) k (x d (rw k e))
        pick q d i j e (above k) = absurd (omega arith)

    go : (o : Option Diagram) → truths p ≡ o → ((PassAll ar truths (suc p) n → Accepted P after) → Accepted P (check_truths ar truths (suc p) n after))
        → Accepted P (check_truth ar (get_or ar p 0) o (check_truths ar truths (suc p) n after))
    go none e ih = ih (λ y. h (all (λ d k. let z : none ≡ some d = sym e ∙ k in let w : ◌≡◌ {A = ℕ} 0 1 = cc in absurd (omega arith)) y))
    go (some t) e ih = accepted-cond (leaf_above 1 t) Truth _ (λ b. accepted-cond (unbound_variable ar (get_or ar p 0) t) Unbound _ (λ u.
        ih (λ y. h (all (λ d k. let z : some t ≡ some d = sym e ∙ k in let q : t ≡ d = cc in subst (Passes ar (get_or ar p 0)) q (record { bits = b; bound = u })) y))))

-- what passes the checks are good truth diagrams
pub truths-passed : (ar truths spans : List ℕ) → are_listings ar truths spans 1 (predicate_count - 1) ≡ true → PassAll ar (truths_of truths spans) 1 (predicate_count - 1)
    → GoodTruths ar (truths_of truths spans)
truths-passed ar truths spans h pass = record { each = λ p d i j e. go p d i j e (flag (eqb (truth_count spans p) 0)) }
  where
    go : (p : ℕ) (d : Diagram) → 0 < p → p < predicate_count → truths_of truths spans p ≡ some d → Flag (eqb (truth_count spans p) 0) → GoodTruth ar d
    go p d i j e (is_true k) =
        let z : none ≡ some d = sym (truths-none truths spans p (eqb-true _ _ k)) ∙ e in
        let w : ◌≡◌ {A = ℕ} 0 1 = cc in
        absurd (omega arith)
    go p d i j e (is_false k) =
        let n : truth_count spans p ≡ 0 → ⊥ = λ q. clash (eq-eqb _ _ q) k in
        let z : some (diagram_of (truth_words truths spans p)) ≡ some d = sym (truths-some truths spans p n) ∙ e in
        let q : diagram_of (truth_words truths spans p) ≡ d = cc in
        let l = listings-at ar truths spans 1 (predicate_count - 1) h p (omega arith) (omega arith) n in
        let g = is-listing-good ar (truth_words truths spans p) l in
        record {
          labels = subst (λ (x : Diagram). EveryLabel (λ l. is_label ar l ≡ true) x) q (fine-every ar (diagram_of (truth_words truths spans p)) g.fine);
          bits = above_most 1 d (pass.each p d (omega arith) (omega arith) e).bits;
        }

-- the checks of a regression, in order
module _ (ar value truths spans : List ℕ) (out_length work_length : ℕ) where
  pub regress-value : is_listing ar value ≡ false → regress_outcome ar value truths spans out_length work_length ≡ refused Listing
  unfolding regress_outcome
  regress-value e = rw e

  pub regress-truths : is_listing ar value ≡ true → are_listings ar truths spans 1 (predicate_count - 1) ≡ false
      → regress_outcome ar value truths spans out_length work_length ≡ refused Listing
  unfolding regress_outcome
  regress-truths e d = rw (e, d)

  pub regress-buffer : is_listing ar value ≡ true → are_listings ar truths spans 1 (predicate_count - 1) ≡ true → (ltb out_length result_words || ltb work_length space_words) ≡ true
      → regress_outcome ar value truths spans out_length work_length ≡ refused Buffer
  unfolding regress_outcome
  regress-buffer e d h = rw (e, d, h)

  pub regress-checks : is_listing ar value ≡ true → are_listings ar truths spans 1 (predicate_count - 1) ≡ true → result_words ≤ out_length → space_words ≤ work_length
      → regress_outcome ar value truths spans out_length work_length
      ≡ check_truths ar (truths_of truths spans) 1 (predicate_count - 1) (regressed ar (truths_of truths spans) (diagram_of value))
  unfolding regress_outcome
  regress-checks e d h k = rw (e, d, le-ltb out_length result_words h, le-ltb work_length space_words k)

  -- an accepted regression: its listing says of a state what the value listing says of the next one
  pub regress-tells : Accepted (Tells ar (truths_of truths spans) (diagram_of value)) (regress_outcome ar value truths spans out_length work_length)
  unfolding regress_outcome
  regress-tells =
      accepted-cond (not (is_listing ar value)) Listing _ (λ v.
      accepted-cond (not (are_listings ar truths spans 1 (predicate_count - 1))) Listing _ (λ l.
      accepted-cond (ltb out_length result_words || ltb work_length space_words) Buffer _ (λ b.
      accepted-checks ar (truths_of truths spans) 1 (predicate_count - 1) _ (λ pass.
      regressed-tells ar (truths_of truths spans) (diagram_of value) (truths-passed ar truths spans (not-false _ l) pass) (is-listing-good ar value (not-false _ v))))))

pub regress-refused : (ar value truths spans : List ℕ) (out_length work_length : ℕ) (r : Refusal) → regress_outcome ar value truths spans out_length work_length ≡ refused r
    → regress_answer ar value truths spans out_length work_length ≡ Err r
unfolding regress_answer
regress-refused ar value truths spans out_length work_length r e = rw e

pub result-refused : (ar value truths spans : List ℕ) (work_length : ℕ) (out : List ℕ) (r : Refusal)
    → regress_outcome ar value truths spans (length out) work_length ≡ refused r → regress_result ar value truths spans work_length out ≡ out
unfolding regress_result
result-refused ar value truths spans work_length out r e = rw e
