-- Laws of where listings begin: a line that adds none leaves them.
use Rattle.std.specs.Prelude.{◌≡◌, refl, List, ℕ}
use Rattle.std.proofs.Common.{◌∙◌, arith}
use Rattle.model.specs.declared.Head.{Head}
use Rattle.model_entry.specs.Inner.{HasListing, KeepsStarts}
use Rattle.model_entry.specs.Starts.{Slot, reward, weight, truth, starts_in}

module _ (table : List ℕ) (h h' : Head) (a : h'.actions ≡ h.actions) (b : h'.reward_start ≡ h.reward_start) (c : h'.reward_words ≡ h.reward_words) where
  begins-same : (s : Slot) → starts_in table h' s ≡ starts_in table h s
  begins-same reward = b
  begins-same (weight i v) = refl
  begins-same (truth i v p) = refl

  has-before : (s : Slot) → HasListing table h' s → HasListing table h s
  has-before reward x = λ z. x (c ∙ z)
  has-before (weight i v) x = (omega (arith, x.0), x.1)
  has-before (truth i v p) x = (x.0, x.1, omega (arith, x.2), x.3, x.4)

  -- the same table, and a head with as many actions and the same reward
  pub starts-same : KeepsStarts table h table h'
  starts-same = record { stays = λ s x. begins-same s; new = λ s x n. absurd (n (has-before s x)); none = λ z. b }
