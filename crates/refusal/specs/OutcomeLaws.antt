-- Steps that may be refused: what holds of the answer.
use Rattle.std.specs.Prelude.{◌≡◌, refl, Bool, true, false, cond, ℕ}
use Rattle.std.proofs.Common.{arith}
use Rattle.refusal.specs.declared.Refusal.{Refusal}
use Rattle.refusal.specs.Outcome.{Outcome, ok, refused, and_then, Accepted}

pub accepted-ok : {A : Type 0} {P : A → Type 0} {a : A} → P a → Accepted P (ok a)
accepted-ok {A} {P} {a} p = record { given = λ b e. let q : a ≡ b = cc in rw q at p }

pub accepted-refused : {A : Type 0} {P : A → Type 0} {r : Refusal} → Accepted P (refused r)
accepted-refused = record { given = λ b e. let z : ◌≡◌ {A = ℕ} 0 1 = cc in absurd (omega arith) }

pub accepted-then : {A B : Type 0} {P : A → Type 0} {Q : B → Type 0} {f : A → Outcome B} (o : Outcome A)
    → Accepted P o → ((a : A) → P a → Accepted Q (f a)) → Accepted Q (and_then o f)
accepted-then (ok a) m k = k a (m.given a refl)
accepted-then (refused r) m k = accepted-refused

-- the next step knows what the first one gave
pub accepted-next : {A B : Type 0} {P : B → Type 0} (o : Outcome A) (f : A → Outcome B) → ((a : A) → o ≡ ok a → Accepted P (f a)) → Accepted P (and_then o f)
accepted-next o f h = accepted-then o (record { given = λ a e. e }) h

pub accepted-cond : {A : Type 0} {P : A → Type 0} (b : Bool) (r : Refusal) (o : Outcome A) → (b ≡ false → Accepted P o) → Accepted P (cond b (refused r) o)
accepted-cond true r o h = accepted-refused
accepted-cond false r o h = h refl

pub accepted-mono : {A : Type 0} {P Q : A → Type 0} {o : Outcome A} → Accepted P o → ((a : A) → P a → Q a) → Accepted Q o
accepted-mono m k = record { given = λ a e. k a (m.given a e) }
