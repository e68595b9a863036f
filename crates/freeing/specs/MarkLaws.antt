-- Laws of the marks of terms: whether one of them is set, and whether one of the terms occurs.
use Rattle.std.specs.Prelude.{◌≡◌, refl, Bool, true, false, not, ◌||◌, cond, List, ℕ, zero, suc, ◌+◌, ◌≤◌, ◌<◌, length, get_or, take, drop, eqb}
use Rattle.std.specs.List.{list_any}
use Rattle.std.proofs.Common.{sym, ap, ◌∙◌, arith, drop-cons, eq-eqb, ne_eqb}
use Rattle.basics.specs.Tests.{Cmp, below, equal, above, cmp, or-other}
use Rattle.label.specs.Limits.{term_end}
use Rattle.diagram.specs.Diagram.{Diagram}
use Rattle.diagram.specs.Variables.{occurs}
use Rattle.listing.specs.Used.{Used}
use Rattle.regression.specs.RegressCall.{any_occurs}
use Rattle.regression.proofs.RegressCallLaws.{any_none, any-cons}
use Rattle.freeing.specs.FreeTasks.{any_set}

-- `any_set`
place : (ms : List ℕ) {t u : ℕ} → t ≡ u → get_or ms t 0 ≡ get_or ms u 0
place ms e = ap (λ (k : ℕ). get_or ms k 0) e

some_at : (ms : List ℕ) (t n k : ℕ) → k < n → (get_or ms (t + k) 0 ≡ 0 → ⊥) → any_set ms t n ≡ true
unfolding any_set
some_at ms t zero k h e = absurd (omega arith)
some_at ms t (suc n) zero h e = rw (ne_eqb (get_or ms t 0) 0 (λ z. e (place ms (let q : t + 0 ≡ t = omega arith in q) ∙ z)))
some_at ms t (suc n) (suc k) h e =
    or-other (not (eqb (get_or ms t 0) 0)) _ (some_at ms (suc t) n k (omega arith) (λ z. e (place ms (let q : t + suc k ≡ suc t + k = omega arith in q) ∙ z)))

none-at : (ms : List ℕ) (t n : ℕ) → ((j : ℕ) → j < n → get_or ms (t + j) 0 ≡ 0) → any_set ms t n ≡ false
unfolding any_set
none-at ms t zero e = refl
none-at ms t (suc n) e =
    rw (
      eq-eqb (get_or ms t 0) 0 (place ms (let q : t ≡ t + 0 = omega arith in q) ∙ e 0 (omega arith)),
      none-at ms (suc t) n (λ j h. place ms (let q : suc t + j ≡ t + suc j = omega arith in q) ∙ e (suc j) (omega arith)),
    )

-- the first k of the n marks are not set
pub record Passed (ms : List ℕ) (t n k : ℕ) : Type 0 where
  pub within : k ≤ n
  pub zeros : (j : ℕ) → j < k → get_or ms (t + j) 0 ≡ 0

pub passed_start : (ms : List ℕ) (t n : ℕ) → Passed ms t n 0
passed_start ms t n = record { within = omega arith; zeros = λ j h. absurd (omega arith) }

module _ {ms : List ℕ} {t n k : ℕ} (p : Passed ms t n k) where
  pub passed_on : k < n → get_or ms (t + k) 0 ≡ 0 → Passed ms t n (k + 1)
  passed_on h e = record { within = omega arith; zeros = λ j l. go j (cmp j k) l }
    where
      go : (j : ℕ) → Cmp j k → j < k + 1 → get_or ms (t + j) 0 ≡ 0
      go j (below q) l = p.zeros j q
      go j (equal q) l = place ms (ap (◌+◌ t) q) ∙ e
      go j (above q) l = absurd (omega arith)

  pub passed-some : k < n → (get_or ms (t + k) 0 ≡ 0 → ⊥) → true ≡ any_set ms t n
  passed-some h e = sym (some_at ms t n k h e)

  pub passed_none : n ≤ k → false ≡ any_set ms t n
  passed_none h = sym (none-at ms t n (λ j l. p.zeros j (omega arith)))

-- the n marks from t on as a list
pub any_listed : (ms : List ℕ) (t n : ℕ) → t + n ≤ length ms → list_any (λ (x : ℕ). not (eqb x 0)) (take n (drop t ms)) ≡ any_set ms t n
unfolding any_set
any_listed ms t zero h = refl
any_listed ms t (suc n) h =
    let l : t < length ms = omega arith in
    rw (drop-cons ms t 0) (ap (λ (b : Bool). not (eqb (get_or ms t 0) 0) || b) (any_listed ms (suc t) n (omega arith)))

-- marks of the terms that occur
pub used-any : (ar : List ℕ) (d : Diagram) (ms : List ℕ) → Used ar d ms → (t n : ℕ) → t + n ≤ term_end → any_set ms t n ≡ any_occurs ar d t n
unfolding any_set
used-any ar d ms u t zero h = sym (any_none ar d t)
used-any ar d ms u t (suc n) h =
    rw (any-cons ar d t n, used-any ar d ms u (suc t) n (omega arith), u.each t (omega arith)) (go (occurs ar t d))
  where
    go : (b : Bool) → (not (eqb (cond b 1 0) 0) || any_occurs ar d (suc t) n) ≡ (b || any_occurs ar d (suc t) n)
    go true = refl
    go false = refl
