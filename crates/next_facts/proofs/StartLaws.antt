-- Laws of the words that terms begin with, and of the words of a row.
use mathlib.Core.Path.{◌≡◌, refl, sym, subst, ◌∙◌}
use mathlib.Core.List.{List, [], ◌∷◌}
use Prim.Native.Nat.{ℕ, zero, suc, ◌+◌, ◌-◌, ◌≤◌, ◌<◌}
use native.Mathlib.Omega.{arith}
use lib.ListN.{length, get_or, set, length-set, get_or-eq_default}
use lib.Seq.{get_or-set_same, get_or-set_other}
use borrow.Author.Tests.{lt-ltb, le-ltb, eq-eqb, ne_eqb, le-leb, lt-leb}
use Rattle.basics.specs.Tests.{Cmp, below, equal, above, cmp}
use Rattle.label.specs.Limits.{first_parameter, first_variable, term_end}
use Rattle.next_facts.specs.Reach.{free}
use Rattle.next_facts.specs.Filling.{parameter_word, first_word, Begun, row_word}

-- `parameter`
any-default : (xs : List ℕ) (i d e : ℕ) → i < length xs → get_or xs i d ≡ get_or xs i e
any-default [] i d e l = absurd (omega arith)
any-default (x ∷ xs) zero d e l = refl
any-default (x ∷ xs) (suc i) d e l = any-default xs i d e (omega arith)

module _ (constants os : List ℕ) (i : ℕ) where
  pub parameter-given : i < length os → get_or os i 0 ≡ parameter_word constants os i
  parameter-given h = any-default os i 0 (get_or constants 0 0) h

  pub parameter-none : {w : ℕ} → length os ≤ i → w ≡ get_or constants 0 0 → w ≡ parameter_word constants os i
  parameter-none h e = e ∙ sym (get_or-eq_default os (get_or constants 0 0) h)

-- `first_word`
module _ (constants os : List ℕ) (k t : ℕ) where
  pub word-constant : {w : ℕ} → t < first_parameter → w ≡ get_or constants t 0 → w ≡ first_word constants os k t
  unfolding first_word
  word-constant h e = rw (lt-ltb t first_parameter h) e

  module _ (h : first_parameter ≤ t) where
    pub word-parameter : {w : ℕ} → t < first_variable → w ≡ parameter_word constants os (t - first_parameter) → w ≡ first_word constants os k t
    unfolding first_word
    word-parameter l e = rw (le-ltb t first_parameter h, lt-ltb t first_variable l) e

    module _ (l : first_variable ≤ t) where
      pub word-argument : t - first_variable < k → free ≡ first_word constants os k t
      unfolding first_word
      word-argument d = rw (le-ltb t first_parameter h, le-ltb t first_variable l, lt-ltb (t - first_variable) k d) refl

      pub word-other : {w : ℕ} → k ≤ t - first_variable → w ≡ get_or constants 0 0 → w ≡ first_word constants os k t
      unfolding first_word
      word-other d e = rw (le-ltb t first_parameter h, le-ltb t first_variable l, le-ltb (t - first_variable) k d) e

-- `start`
pub begun-none : (constants os : List ℕ) (k : ℕ) {env : List ℕ} → length env ≡ term_end → Begun constants os k env 0
begun-none constants os k h = record { words = h; each = λ t l. absurd (omega arith) }

pub begun-on : {constants os : List ℕ} {k : ℕ} {env : List ℕ} {t w : ℕ} → Begun constants os k env t → t < term_end → w ≡ first_word constants os k t
    → Begun constants os k (set env t w) (t + 1)
begun-on {constants} {os} {k} {env} {t} {w} b h e = record { words = length-set env t w ∙ b.words; each = λ u l. go u l (cmp u t) }
  where
    go : (u : ℕ) → u < t + 1 → Cmp u t → get_or (set env t w) u 0 ≡ first_word constants os k u
    go u l (below q) = get_or-set_other env t u w 0 (omega arith) ∙ b.each u q
    go u l (equal q) = subst (λ (y : ℕ). get_or (set env t w) y 0 ≡ first_word constants os k y) (sym q) (get_or-set_same env t w 0 (omega (arith, b.words)) ∙ e)
    go u l (above q) = absurd (omega arith)

pub begun-end : {constants os : List ℕ} {k : ℕ} {env : List ℕ} {t : ℕ} → Begun constants os k env t → t ≤ term_end → term_end ≤ t → Begun constants os k env term_end
begun-end {constants} {os} {k} {env} b l m = subst (Begun constants os k env) (omega arith) b

-- `row_word`
module _ (ws : List ℕ) (at p k i : ℕ) where
  pub word_first : i ≡ 0 → p ≡ row_word ws at p k i
  unfolding row_word
  word_first e = rw (eq-eqb i 0 e) refl

  module _ (n : i ≡ 0 → ⊥) where
    pub word-behind : k < i → 0 ≡ row_word ws at p k i
    unfolding row_word
    word-behind h = rw (ne_eqb i 0 n, lt-leb i k h) refl

    pub word-object : i ≤ k → get_or ws (at + (i - 1)) 0 ≡ row_word ws at p k i
    unfolding row_word
    word-object h = rw (ne_eqb i 0 n, le-leb i k h) refl
