-- Laws of the scale, and of a backup as a whole.
use mathlib.Core.Path.{◌≡◌, refl, sym, ap, subst, ◌∙◌}
use mathlib.Core.Bool.{Bool, true, false, ◌||◌, cond}
use mathlib.Core.List.{List}
use Prim.Native.Nat.{ℕ, suc, ◌*◌, ◌/◌, ◌^◌, ◌≤◌, ◌<◌}
use native.Mathlib.Omega.{arith}
use native.Mathlib.Nat.{pow-suc, mul-le-mul, div-lt_iff_lt-mul, le-div_iff_mul-le}
use lib.ListN.{length}
use lib.Dec.{eqb, ltb}
use borrow.Author.Tests.{lt-ltb, le-ltb, eq-eqb, ne_eqb}
use Rattle.refusal.specs.declared.Refusal.{Refusal}
use Rattle.refusal.specs.declared.Refusal.TheVariants.{Scale}
use Rattle.refusal.specs.Outcome.{Outcome, ok, refused, Accepted}
use Rattle.refusal.specs.OutcomeLaws.{accepted-refused}
use Rattle.diagram.specs.Sizes.{highest_value}
use Rattle.diagram.specs.Diagram.{Diagram}
use Rattle.diagram.specs.Rows.{rows}
use Rattle.diagram.specs.Listing.{Good}
use Rattle.regression.specs.RegressCall.{written_as}
use Rattle.mdp.specs.Model.{Model, scale}
use Rattle.mdp.specs.Backup.{highest_scale, most_steps, scale_ends, backup, row_of_calls}
use Rattle.mdp.proofs.StepLaws.{backup-ends, backup-row, on-scale}
use Rattle.model.specs.declared.Head.{Head}
use Rattle.model.specs.Inner.{Laid}
use Rattle.model.specs.Layout.{model_of}
use Rattle.steps.specs.Steps.{step_as, Wrote}
use Rattle.planner.specs.Backed.{backed_step, scale_of, power_as, Numbers, Powered, backed_as, BackedUp}
use Rattle.std.specs.Prelude.{Err, None, Ok, Option, Result, Some}

-- ===== The next power =====

module _ {h : Head} (n : Numbers h) where
  pub scale_small : h.total * h.denominator ≤ 1000000000000
  scale_small = omega (arith, mul-le-mul n.total-few n.denominator-few)

  pub scale-some : 0 < h.total * h.denominator
  scale-some = omega (arith, mul-le-mul n.total-some n.denominator-some)

  module _ {k power : ℕ} (p : Powered h k power) where
    next-is : power * scale_of h ≡ scale_of h ^ suc k
    next-is = ap (λ (x : ℕ). x * scale_of h) p.is ∙ sym (pow-suc (scale_of h) k)

    pub power-steps : k ≡ most_steps → None ≡ power_as (scale_of h) k
    unfolding power_as
    power-steps e = go (ltb highest_scale (scale_of h ^ suc k))
      where
        go : (b : Bool) → None ≡ cond (b || eqb k most_steps) None (Some (scale_of h ^ suc k))
        go true = refl
        go false = rw (eq-eqb k most_steps e)

    pub power-high : highest_scale / (h.total * h.denominator) < power → None ≡ power_as (scale_of h) k
    unfolding power_as
    power-high l =
        let q : highest_scale < power * scale_of h = (div-lt_iff_lt-mul {k = scale_of h} {x = highest_scale} {y = power} scale-some).0 l in
        let r : highest_scale < scale_of h ^ suc k = subst (λ (x : ℕ). highest_scale < x) next-is q in
        rw (lt-ltb highest_scale (scale_of h ^ suc k) r)

    pub power-fits : power ≤ highest_scale / (h.total * h.denominator) → power * (h.total * h.denominator) ≤ highest_scale
    power-fits l = (le-div_iff_mul-le {k = scale_of h} {x = power} {y = highest_scale} scale-some).0 l

    pub power-next : (k ≡ most_steps → ⊥) → power ≤ highest_scale / (h.total * h.denominator) → Some (power * (h.total * h.denominator)) ≡ power_as (scale_of h) k
    unfolding power_as
    power-next e l =
        let r : scale_of h ^ suc k ≤ highest_scale = subst (λ (x : ℕ). x ≤ highest_scale) next-is (power-fits l) in
        ap Some next-is ∙ rw (le-ltb highest_scale (scale_of h ^ suc k) r, ne_eqb k most_steps e)

-- ===== A backup =====

pub laid-numbers : {ar listings table : List ℕ} {h : Head} → Laid ar listings table h → Numbers h
unfolding model_of
laid-numbers t = let g = t.good in record { total-some = g.total-some; total-few = g.total-few; denominator-some = g.denominator-some; denominator-few = g.denominator-few }

power-ends : (s k : ℕ) → power_as s k ≡ None → (ltb highest_scale (s ^ suc k) || eqb k most_steps) ≡ true
unfolding power_as
power-ends s k e = go (ltb highest_scale (s ^ suc k) || eqb k most_steps) e
  where
    go : (b : Bool) → cond b None (Some (s ^ suc k)) ≡ None → b ≡ true
    go true q = refl
    go false q = let z : ◌≡◌ {A = ℕ} 0 1 = cc in absurd (omega arith)

power-goes : (s k x : ℕ) → power_as s k ≡ Some x → ((ltb highest_scale (s ^ suc k) || eqb k most_steps) ≡ false) × (s ^ suc k ≡ x)
unfolding power_as
power-goes s k x e = go (ltb highest_scale (s ^ suc k) || eqb k most_steps) e
  where
    go : (b : Bool) → cond b None (Some (s ^ suc k)) ≡ Some x → (b ≡ false) × (s ^ suc k ≡ x)
    go true q = let z : ◌≡◌ {A = ℕ} 0 1 = cc in absurd (omega arith)
    go false q = (refl, cc)

module _ {ar listings table : List ℕ} {h : Head} (t : Laid ar listings table h) (k : ℕ) {p : Option ℕ} (e : p ≡ power_as (scale_of h) k) where
  abbrev M : Model
  M = model_of ar listings table h

  scale-is : scale M ≡ scale_of h
  unfolding scale model_of
  scale-is = refl

  ends_is : scale_ends M k ≡ (ltb highest_scale (scale_of h ^ suc k) || eqb k most_steps)
  unfolding scale_ends scale model_of
  ends_is = refl

  pub backed-ends : p ≡ None → (d : Diagram) {value : List ℕ} → BackedUp ar M k d (Err Scale) value value
  backed-ends q d {value} =
      let z = backup-ends M k d (ends_is ∙ power-ends (scale_of h) k (sym e ∙ q)) in
      record {
        answer = ap (backed_as (scale M ^ suc k)) (sym z);
        words = ap (λ (o : Outcome Diagram). written_as o value) (sym z);
        good = subst (Accepted (Good ar)) (sym z) accepted-refused;
      }

  module _ {s : ℕ} (q : p ≡ Some s) where
    goes : scale_ends M k ≡ false
    goes = ends_is ∙ (power-goes (scale_of h) k s (sym e ∙ q)).0

    power-is : scale M ^ suc k ≡ s
    power-is = ap (λ (x : ℕ). x ^ suc k) scale-is ∙ (power-goes (scale_of h) k s (sym e ∙ q)).1

    pub next-few : s ≤ highest_value
    next-few = subst (λ (x : ℕ). x ≤ highest_value) power-is (on-scale M k goes).0

    backup-is : (d : Diagram) → backup M k d ≡ row_of_calls M s d
    backup-is d = backup-row M k d goes ∙ ap (λ (x : ℕ). row_of_calls M x d) power-is

    module _ (d : Diagram) {r : Result ℕ Refusal} {value value' : List ℕ} (w : Wrote ar (row_of_calls M s d) r value value') where
      words_are : value' ≡ written_as (backup M k d) value
      words_are = w.words ∙ ap (λ (o : Outcome Diagram). written_as o value) (sym (backup-is d))

      good-are : Accepted (Good ar) (backup M k d)
      good-are = subst (Accepted (Good ar)) (sym (backup-is d)) w.good

      backed-done : {n : ℕ} → r ≡ Ok n → BackedUp ar M k d (Ok (n, s)) value value'
      backed-done {n} x = record {
        answer = go (row_of_calls M s d) (sym w.answer ∙ x) ∙ ap (λ (z : ℕ). backed_as z (row_of_calls M s d)) (sym power-is)
            ∙ ap (backed_as (scale M ^ suc k)) (sym (backup-is d));
        words = words_are;
        good = good-are;
      }
        where
          go : (o : Outcome Diagram) → step_as o ≡ Ok n → Ok (n, s) ≡ backed_as s o
          go (ok c) y = let z : length (rows c) ≡ n = cc in ap (λ (m : ℕ). Ok (m, s)) (sym z)
          go (refused f) y = let z : ◌≡◌ {A = ℕ} 0 1 = cc in absurd (omega arith)

      backed-refused : {x : Refusal} → r ≡ Err x → BackedUp ar M k d (Err x) value value'
      backed-refused {x} y = record { answer = go (row_of_calls M s d) (sym w.answer ∙ y) ∙ ap (backed_as (scale M ^ suc k)) (sym (backup-is d)); words = words_are; good = good-are }
        where
          go : (o : Outcome Diagram) → step_as o ≡ Err x → Err x ≡ backed_as (scale M ^ suc k) o
          go (ok c) u = let z : ◌≡◌ {A = ℕ} 0 1 = cc in absurd (omega arith)
          go (refused f) u = let z : f ≡ x = cc in ap Err (sym z)

      pub backed-told : {b : Result (ℕ × ℕ) Refusal} → b ≡ backed_step s r → BackedUp ar M k d b value value'
      backed-told {b} h = subst (λ (x : Result (ℕ × ℕ) Refusal). BackedUp ar M k d x value value') (sym h) (go r refl)
        where
          go : (x : Result ℕ Refusal) → r ≡ x → BackedUp ar M k d (backed_step s r) value value'
          go (Ok n) y = rw y (backed-done y)
          go (Err x) y = rw y (backed-refused y)
