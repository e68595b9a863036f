-- What was stored is read back, whatever stands behind it.
use Rattle.std.specs.Prelude.{◌≡◌, refl, Bool, true, false, List, ◌++◌, ℕ}
use Rattle.session.specs.declared.Part.{Part}
use Rattle.session.specs.declared.Part.TheVariants.{Model, Run}
use Rattle.memory.specs.declared.Numbers.{Numbers}
use Rattle.memory.specs.Saving.{part_word, part_of, flag_word, flag_of, saved_words, numbers_at, lines_at, met_at}

part-back : (p : Part) → part_of (part_word p) ≡ p
part-back Model = refl
part-back Run = refl

flag-back : (b : Bool) → flag_of (flag_word b) ≡ b
flag-back true = refl
flag-back false = refl

pub saved-numbers : (n : Numbers) (lines : ℕ) (met : Bool) (t : List ℕ) → numbers_at (saved_words n lines met ++ t) ≡ n
unfolding numbers_at saved_words
saved-numbers n lines met t = λ i. record {
  part = part-back n.part i;
  total = flag-back n.total i;
  discount = flag-back n.discount i;
  reward = flag-back n.reward i;
  counts = n.counts;
  head = n.head;
  live = n.live;
  held = n.held;
}

pub saved-lines : (n : Numbers) (lines : ℕ) (met : Bool) (t : List ℕ) → lines_at (saved_words n lines met ++ t) ≡ lines
unfolding saved_words
saved-lines n lines met t = refl

pub saved-met : (n : Numbers) (lines : ℕ) (met : Bool) (t : List ℕ) → met_at (saved_words n lines met ++ t) ≡ met
unfolding saved_words
saved-met n lines met t = flag-back met
