-- Steps that may be refused (document 01, section 'Refusals by trade word').
use Rattle.std.specs.Prelude.{◌≡◌}
use Rattle.refusal.specs.declared.Refusal.{Refusal}

-- an answer, or why there is none
pub data Outcome (A : Type 0) : Type 0 where
  ok : A → Outcome A
  refused : Refusal → Outcome A

-- one step, then the next; the first refusal met is the answer
abbrev pub and_then : {A B : Type 0} → Outcome A → (A → Outcome B) → Outcome B
and_then (ok a) f = f a
and_then (refused r) f = refused r

-- if an answer is given, it has P
pub record Accepted {A : Type 0} (P : A → Type 0) (o : Outcome A) : Type 0 where
  pub given : (a : A) → o ≡ ok a → P a
