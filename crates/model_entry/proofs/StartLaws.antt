-- Laws of where listings begin: where an action or a variant is new, and where a reward is.
use mathlib.Core.Path.{◌≡◌, refl, ◌∙◌}
use mathlib.Core.List.{List}
use Prim.Native.Nat.{ℕ, ◌+◌, ◌*◌, ◌<◌}
use native.Mathlib.Omega.{arith}
use lib.ListN.{get_or}
use Rattle.label.specs.Limits.{predicate_count}
use Rattle.model.specs.declared.Head.{Head}
use Rattle.model.specs.Layout.{variant_words, variant_place, variants_of}
use Rattle.model_entry.specs.Building.{truth_place}
use Rattle.model_entry.specs.Inner.{HasListing, KeepsStarts}
use Rattle.model_entry.specs.Starts.{Slot, reward, weight, truth, starts_in}
use Rattle.model_entry.specs.Adding.{reward_head}
use Rattle.model_entry.specs.WordLaws.{Same}

-- a new variant at the place i: its weight begins at the word w, and it has no truth diagram
pub record NewVariant (t : List ℕ) (w i : ℕ) : Type 0 where
  pub begins : get_or t i 0 ≡ w
  pub none : (p : ℕ) → p < predicate_count → get_or t (truth_place i p + 1) 0 ≡ 0

-- the reward stays, and the words of every variant; the others are new
module _ (t t' : List ℕ) (h h' : Head) (b : h'.reward_start ≡ h.reward_start) (c : h'.reward_words ≡ h.reward_words)
    (same : (a v : ℕ) → a < h.actions → v < variants_of t a → Same t t' (variant_place a v) variant_words)
    (fresh : (a v : ℕ) → a < h'.actions → v < variants_of t' a → (a < h.actions → v < variants_of t a → ⊥) → NewVariant t' h.words (variant_place a v)) where
  stays-kept : (s : Slot) → HasListing t h s → starts_in t' h' s ≡ starts_in t h s
  stays-kept reward x = b
  stays-kept (weight a v) x = same a v x.0 x.1 (variant_place a v) (omega arith) (omega arith)
  stays-kept (truth a v p) x = same a v x.2 x.3 (truth_place (variant_place a v) p) (omega arith) (omega (arith, x.1))

  new-kept : (s : Slot) → HasListing t' h' s → (HasListing t h s → ⊥) → starts_in t' h' s ≡ h.words
  new-kept reward x n = absurd (n (λ z. x (c ∙ z)))
  new-kept (weight a v) x n = (fresh a v x.0 x.1 (λ p q. n (p, q))).begins
  new-kept (truth a v p) x n =
      let old : a < h.actions → v < variants_of t a → ⊥ =
      λ f g. n (x.0, x.1, f, g, λ z. x.4 (same a v f g (truth_place (variant_place a v) p + 1) (omega arith) (omega (arith, x.1)) ∙ z)) in
      absurd (x.4 ((fresh a v x.2 x.3 old).none p x.1))

  pub starts-kept : KeepsStarts t h t' h'
  starts-kept = record { stays = stays-kept; new = new-kept; none = λ z. b }

-- the first reward
module _ (t : List ℕ) (h : Head) (rows : ℕ) (none_yet : h.reward_words ≡ 0) (some-rows : 0 < rows) where
  stays-rewarded : (s : Slot) → HasListing t h s → starts_in t (reward_head h (rows * 3)) s ≡ starts_in t h s
  stays-rewarded reward x = absurd (x none_yet)
  stays-rewarded (weight a v) x = refl
  stays-rewarded (truth a v p) x = refl

  new-rewarded : (s : Slot) → HasListing t (reward_head h (rows * 3)) s → (HasListing t h s → ⊥) → starts_in t (reward_head h (rows * 3)) s ≡ h.words
  new-rewarded reward x n = refl
  new-rewarded (weight a v) x n = absurd (n x)
  new-rewarded (truth a v p) x n = absurd (n x)

  pub starts-rewarded : KeepsStarts t h t (reward_head h (rows * 3))
  starts-rewarded = record { stays = stays-rewarded; new = new-rewarded; none = λ z. absurd (omega (arith, some-rows, z)) }
