-- Laws of the words of a lent truth diagram.
use mathlib.Core.Path.{◌≡◌, refl, sym, ◌∙◌}
use mathlib.Core.Bool.{not}
use mathlib.Core.List.{List}
use Prim.Native.Nat.{ℕ, ◌+◌, ◌*◌, ◌-◌, ◌≤◌}
use native.Mathlib.Omega.{arith}
use lib.ListN.{length, get_or, take, drop, length-drop, drop_of_length-le}
use lib.Seq.{take_all, take-nil}
use lib.Dec.{eqb}
use borrow.Author.Tests.{eq-eqb, ne_eqb}
use Rattle.regression.specs.RegressCall.{truth_words}
use Rattle.truths.specs.TruthChecks.{has_truth}

-- `part`
pub part_none : (ws : List ℕ) (first count : ℕ) → length ws ≤ first → take 0 (drop 0 ws) ≡ take count (drop first ws)
part_none ws first count h = sym (rw (drop_of_length-le ws h) (take-nil count))

pub part-rest : (ws : List ℕ) (first count : ℕ) → length ws - first ≤ count → take (length ws - first) (drop first ws) ≡ take count (drop first ws)
part-rest ws first count h =
    take_all (length ws - first) (drop first ws) (omega (arith, length-drop first ws)) ∙ sym (take_all count (drop first ws) (omega (arith, length-drop first ws)))

pub part-some : (ws : List ℕ) (first count : ℕ) → take (first + count - first) (drop first ws) ≡ take count (drop first ws)
part-some ws first count = let e : first + count - first ≡ count = omega arith in rw e refl

-- `has_truth`
pub has-none : (spans : List ℕ) {p : ℕ} → p ≡ 0 → not (eqb p 0) ≡ has_truth spans p
unfolding has_truth
has-none spans {p} e = rw (eq-eqb p 0 e)

pub has_words : (spans : List ℕ) {p w : ℕ} → (p ≡ 0 → ⊥) → w ≡ get_or spans (p * 2 + 1) 0 → not (eqb w 0) ≡ has_truth spans p
unfolding has_truth
has_words spans {p} {w} n e = rw (ne_eqb p 0 n, e)

-- `truth_words`
pub words_are : (truths spans : List ℕ) (p : ℕ) {first count : ℕ} {ws : List ℕ} → first ≡ get_or spans (p * 2) 0 → count ≡ get_or spans (p * 2 + 1) 0
    → ws ≡ take count (drop first truths) → ws ≡ truth_words truths spans p
words_are truths spans p e d q = q ∙ (λ i. take (d i) (drop (e i) truths))
