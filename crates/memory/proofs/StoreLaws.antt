-- Laws of a session's numbers as words, on the ways through the code.
use mathlib.Core.Path.{◌≡◌, sym, ap, ◌∙◌}
use mathlib.Core.Bool.{Bool, cond}
use mathlib.Core.List.{List, ◌++◌}
use Prim.Native.Nat.{ℕ}
use borrow.Author.Tests.{eq-eqb, ne_eqb}
use lib.ListN.{get_or, drop}
use Rattle.session.specs.declared.Part.{Part}
use Rattle.session.specs.declared.Part.TheVariants.{Model, Run}
use Rattle.memory.specs.declared.Numbers.{Numbers}
use Rattle.memory.specs.Saving.{number_words, part_word, part_of, flag_word, saved_behind, saved_words, numbers_in, numbers_at}

pub part-model : (v : ℕ) → v ≡ 0 → Model ≡ part_of v
part-model v e = ap (λ (b : Bool). cond b Model Run) (sym (eq-eqb v 0 e))

pub part-run : (v : ℕ) → (v ≡ 0 → ⊥) → Run ≡ part_of v
part-run v f = ap (λ (b : Bool). cond b Model Run) (sym (ne_eqb v 0 f))

pub stored : (n : Numbers) (lines : ℕ) (met : Bool) (s : List ℕ) {part total discount reward written : ℕ} {out : List ℕ}
    → part ≡ part_word n.part → total ≡ flag_word n.total → discount ≡ flag_word n.discount → reward ≡ flag_word n.reward
    → written ≡ flag_word met → out ≡ saved_behind part total discount reward n lines written ++ drop number_words s
    → out ≡ saved_words n lines met ++ drop number_words s
unfolding saved_words
stored n lines met s a b c d f e = e ∙ (λ i. saved_behind (a i) (b i) (c i) (d i) n lines (f i) ++ drop number_words s)

pub loaded : (s : List ℕ) {part : Part} → part ≡ part_of (get_or s 0 0) → numbers_in part s ≡ numbers_at s
unfolding numbers_at
loaded s e = ap (λ (p : Part). numbers_in p s) e
