-- `take_while` takes a run from the front.
use Rattle.std.specs.Prelude.{◌≡◌, ℕ, suc, ◌+◌, List, [], ◌∷◌, Bool, length, take}
use Rattle.std.specs.List.{prefix_len}
use Rattle.std.proofs.Common.{refl, arith, ◌∙◌}
use Rattle.std.proofs.lemmas.List.Folds.{length-prefix_len}
use Rattle.words.specs.Bytes.{run}

prefix-run : (p : ℕ → Bool) (s : List ℕ) → prefix_len p s ≡ run p s
unfolding run
prefix-run p [] = refl
prefix-run p (b ∷ s) = let e : 1 + prefix_len p s ≡ suc (run p s) = omega (arith, prefix-run p s) in rw e refl

pub length-taken : (p : ℕ → Bool) (s : List ℕ) → length (take (prefix_len p s) s) ≡ run p s
length-taken p s = length-prefix_len p s ∙ prefix-run p s
