-- Laws of counting the variants of the first actions.
use mathlib.Core.Path.{◌≡◌, refl, ap, ◌∙◌}
use mathlib.Core.List.{List}
use Prim.Native.Nat.{ℕ, suc, ◌+◌, ◌*◌, ◌≤◌, ◌<◌}
use native.Mathlib.Omega.{arith}
use Rattle.mdp.specs.Model.{most_variants}
use Rattle.model.specs.Layout.{variants_of}
use Rattle.model_entry.specs.Inner.{FewVariants}
use Rattle.model_entry.specs.Building.{variants_before}
use Rattle.model_entry.specs.NameLaws.{before-few}

-- n variants of the first i actions
pub record Counting (table : List ℕ) (a i n : ℕ) : Type 0 where
  pub below : i ≤ a
  pub sum : n ≡ variants_before table i

pub count-start : {table : List ℕ} {a : ℕ} → Counting table a 0 0
count-start = record { below = omega arith; sum = refl }

module _ {table : List ℕ} {a i n : ℕ} (c : Counting table a i n) where
  pub count_most : FewVariants table a → n ≤ i * most_variants
  count_most f = omega (arith, c.sum, before-few f i c.below)

  pub count-on : i < a → Counting table a (i + 1) (n + variants_of table i)
  count-on h =
      let e : suc i ≡ i + 1 = omega arith in
      record { below = omega arith; sum = ap (λ (k : ℕ). k + variants_of table i) c.sum ∙ ap (variants_before table) e }

  pub count-end : a ≤ i → n ≡ variants_before table a
  count-end h = let e : i ≡ a = omega (arith, c.below) in c.sum ∙ ap (variants_before table) e
