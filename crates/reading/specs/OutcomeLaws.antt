-- Answers that are no refusal, taken apart; two answers that agree.
use Rattle.std.specs.Prelude.{ℕ, ◌≡◌, refl, Bool, true, false, cond}
use Rattle.std.proofs.Common.{arith}
use Rattle.refusal.specs.declared.Refusal.{Refusal}
use Rattle.refusal.specs.Outcome.{Outcome, ok, refused, and_then}

pub apart : {A : Type 0} {r : Refusal} {g : A} → ◌≡◌ {A = Outcome A} (refused r) (ok g) → ⊥
apart e = let z : ◌≡◌ {A = ℕ} 0 1 = cc in omega arith

pub ok-one : {A : Type 0} {x y : A} → ok x ≡ ok y → x ≡ y
ok-one e = cc

-- a tested answer passed its test
pub chosen : {A : Type 0} (b : Bool) (o : Outcome A) (r : Refusal) (y : A) → cond b o (refused r) ≡ ok y → (b ≡ true) × (o ≡ ok y)
chosen true o r y e = (refl, e)
chosen false o r y e = absurd (apart e)

pub passed : {A : Type 0} (b : Bool) (x : A) (r : Refusal) (y : A) → cond b (ok x) (refused r) ≡ ok y → (b ≡ true) × (x ≡ y)
passed true x r y e = (refl, ok-one e)
passed false x r y e = absurd (apart e)

-- in a chain each answers
pub record Chain {A B : Type 0} (o : Outcome A) (f : A → Outcome B) (y : B) : Type 0 where
  pub first : A
  pub answers : o ≡ ok first
  pub then : f first ≡ ok y

pub chained : {A B : Type 0} (o : Outcome A) (f : A → Outcome B) (y : B) → and_then o f ≡ ok y → Chain o f y
chained (ok x) f y e = record { first = x; answers = refl; then = e }
chained (refused r) f y e = absurd (apart e)

-- both are answers, and P holds of them, or both are the same refusal
abbrev pub Match : {A B : Type 0} → (A → B → Type 0) → Outcome A → Outcome B → Type 0
Match P (ok a) (ok b) = P a b
Match P (ok a) (refused r) = ⊥
Match P (refused r) (ok b) = ⊥
Match P (refused r) (refused s) = r ≡ s
