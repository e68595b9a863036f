-- What it says of a session that a line stands where it may (document 01, section 'Text').
use Rattle.std.proofs.Math.Path.{◌≡◌, refl, sym, subst}
use Rattle.std.proofs.Common.{ap, ◌∙◌, arith}
use Rattle.std.specs.Prelude.{Bool, true, false, not, ℕ, ◌≤◌, length, leb}
use borrow.Author.Tests.{leb-true}
use Rattle.basics.specs.Tests.{and_left}
use Rattle.refusal.specs.declared.Refusal.{Refusal}
use Rattle.refusal.specs.declared.Refusal.TheVariants.{Place, Missing}
use Rattle.refusal.specs.Outcome.{Outcome, ok}
use Rattle.text.specs.declared.Kind.TheVariants as K
use Rattle.session.specs.declared.Part.{Part}
use Rattle.session.specs.declared.Part.TheVariants.{Model, Run}
use Rattle.session.specs.declared.Rule.{Rule}
use Rattle.session.specs.declared.Rule.TheVariants as R
use Rattle.session.specs.Place.{rule_of}
use Rattle.session.specs.Session.{Session, refuse_if}
use Rattle.session.specs.Replies.{is_whole, has_objects, is_placed, unless, allowed}

pub model-run : {A : Type 0} → Model ≡ Run → A
model-run e = let z : ◌≡◌ {A = ℕ} 0 1 = cc in absurd (omega arith)

-- a rule that is Misplaced in one part: the session is in the other
module _ (σ : Session) (rule : Part → Rule) where
  pub in-model : rule Run ≡ R.Misplaced → (p : Part) → allowed σ (rule p) ≡ ok tt → p ≡ Model
  unfolding allowed
  in-model q Model a = refl
  in-model q Run a = let e = sym (ap (allowed σ) q) ∙ a in let z : ◌≡◌ {A = ℕ} 0 1 = cc in absurd (omega arith)

  pub in-run : rule Model ≡ R.Misplaced → (p : Part) → allowed σ (rule p) ≡ ok tt → p ≡ Run
  unfolding allowed
  in-run q Run a = refl
  in-run q Model a = let e = sym (ap (allowed σ) q) ∙ a in let z : ◌≡◌ {A = ℕ} 0 1 = cc in absurd (omega arith)

test-passed : (r : Refusal) (b : Bool) → ◌≡◌ {A = Outcome (Unit {0})} (refuse_if (not b) r (ok tt)) (ok tt) → b ≡ true
test-passed r true e = refl
test-passed r false e = let z : ◌≡◌ {A = ℕ} 0 1 = cc in absurd (omega arith)

unless-passed : (b : Bool) → unless (not b) ≡ ok tt → b ≡ true
unless-passed = test-passed Place

unless-off : (b : Bool) → unless b ≡ ok tt → b ≡ false
unless-off true e = let z : ◌≡◌ {A = ℕ} 0 1 = cc in absurd (omega arith)
unless-off false e = refl

module _ (σ : Session) where
  pub reward-new : σ.part ≡ Model → allowed σ (rule_of K.Reward σ.part) ≡ ok tt → σ.singles.reward ≡ false
  unfolding allowed
  reward-new p a = unless-off σ.singles.reward (subst (λ q. allowed σ (rule_of K.Reward q) ≡ ok tt) p a)

  pub becomes-variant : σ.part ≡ Model → allowed σ (rule_of K.Becomes σ.part) ≡ ok tt → 1 ≤ length σ.names.variants
  unfolding allowed
  becomes-variant p a = leb-true 1 _ (unless-passed (leb 1 (length σ.names.variants)) (subst (λ q. allowed σ (rule_of K.Becomes q) ≡ ok tt) p a))

  pub start-model : σ.part ≡ Model → allowed σ (rule_of K.Start σ.part) ≡ ok tt → is_whole σ ≡ true
  unfolding allowed
  start-model p a = unless-passed (is_whole σ) (subst (λ q. allowed σ (rule_of K.Start q) ≡ ok tt) p a)

  pub variant-action : σ.part ≡ Model → allowed σ (rule_of K.Variant σ.part) ≡ ok tt → 1 ≤ length σ.names.actions
  unfolding allowed
  variant-action p a = leb-true 1 _ (unless-passed (leb 1 (length σ.names.actions)) (subst (λ q. allowed σ (rule_of K.Variant q) ≡ ok tt) p a))

  pub value-placed : σ.part ≡ Run → allowed σ (rule_of K.Value σ.part) ≡ ok tt → is_placed σ ≡ true
  unfolding allowed
  value-placed p a = unless-passed (is_placed σ) (subst (λ q. allowed σ (rule_of K.Value q) ≡ ok tt) p a)

  pub value-allowed : σ.part ≡ Run → is_placed σ ≡ true → allowed σ (rule_of K.Value σ.part) ≡ ok tt
  unfolding allowed
  value-allowed p e = subst (λ q. allowed σ (rule_of K.Value q) ≡ ok tt) (sym p) (ap (λ b. unless (not b)) e)

  pub best-placed : σ.part ≡ Run → allowed σ (rule_of K.Best σ.part) ≡ ok tt → is_placed σ ≡ true
  unfolding allowed
  best-placed p a = test-passed Missing (is_placed σ) (subst (λ q. allowed σ (rule_of K.Best q) ≡ ok tt) p a)

  pub did-placed : σ.part ≡ Run → allowed σ (rule_of K.Did σ.part) ≡ ok tt → is_placed σ ≡ true
  unfolding allowed
  did-placed p a = unless-passed (is_placed σ) (subst (λ q. allowed σ (rule_of K.Did q) ≡ ok tt) p a)

  pub did-allowed : σ.part ≡ Run → is_placed σ ≡ true → allowed σ (rule_of K.Did σ.part) ≡ ok tt
  unfolding allowed
  did-allowed p e = subst (λ q. allowed σ (rule_of K.Did q) ≡ ok tt) (sym p) (ap (λ b. unless (not b)) e)

  pub placed-objects : is_placed σ ≡ true → 1 ≤ σ.live.objects
  placed-objects e = leb-true 1 σ.live.objects (and_left (has_objects σ) _ e)
