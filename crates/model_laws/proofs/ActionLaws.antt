-- The list of actions: with one more, with a variant more in the last of them, and with other truth diagrams in its last variant.
use Rattle.std.specs.Prelude.{◌≡◌, ℕ, suc, ◌+◌, ◌*◌, ◌≤◌, ◌<◌, length}
use Rattle.std.proofs.Math.Path.{refl}
use Rattle.std.proofs.Common.{sym, subst, ◌∙◌, arith, length-append}
use mathlib.Core.List.{List, [], ◌∷◌, ◌++◌}
use Rattle.state.specs.Max.{sum_of}
use Rattle.regression.specs.Regression.{Truths}
use Rattle.mdp.specs.Model.{Variant, Action, Every, GoodVariant, GoodAction, most_variants}
use Rattle.session.specs.ModelLines.{add_variant, last_truths, last_variant}
use Rattle.session.specs.Good.{LastAction, variant_count}

-- ===== Lists =====

pub length_more : {A : Type 0} (l : List A) (a : A) → length (l ++ (a ∷ [])) ≡ suc (length l)
length_more l a = omega (arith, length-append l (a ∷ []))

pub every_more : {A : Type 0} (P : A → Type 0) (l : List A) (a : A) → Every P l → P a → Every P (l ++ (a ∷ []))
every_more P [] a h p = (p, tt)
every_more P (b ∷ l) a h p = (h.0, every_more P l a h.1 p)

pub every-mono : {A : Type 0} (P Q : A → Type 0) → ((a : A) → P a → Q a) → (l : List A) → Every P l → Every Q l
every-mono P Q f [] h = tt
every-mono P Q f (a ∷ l) h = (f a h.0, every-mono P Q f l h.1)

pub sum_more : {A : Type 0} (f : A → ℕ) (l : List A) (a : A) → sum_of (l ++ (a ∷ [])) f ≡ sum_of l f + f a
unfolding sum_of
sum_more f [] a = omega arith
sum_more f (b ∷ l) a = omega (arith, sum_more f l a)

-- ===== One action more =====

pub last_more : (l : List Action) (a : Action) → LastAction (l ++ (a ∷ [])) a.count (length a.variants)
last_more [] a = (refl, refl)
last_more (b ∷ []) a = (refl, refl)
last_more (b ∷ c ∷ l) a = last_more (c ∷ l) a

pub variants-more : (l : List Action) (a : Action) → variant_count (l ++ (a ∷ [])) ≡ variant_count l + length a.variants
unfolding variant_count
variants-more l a = sum_more (λ b. length b.variants) l a

-- at most 8 for each action
pub variants-most : (ar : List ℕ) (l : List Action) → Every (GoodAction ar) l → variant_count l ≤ length l * most_variants
unfolding variant_count sum_of
variants-most ar [] e = omega arith
variants-most ar (a ∷ l) e = omega (arith, e.0.variants-few, variants-most ar l e.1)

-- ===== A variant more in the last action =====

module _ (v : Variant) where
  pub length-added : (l : List Action) → length (add_variant l v) ≡ length l
  length-added [] = refl
  length-added (a ∷ []) = refl
  length-added (a ∷ b ∷ l) = omega (arith, length-added (b ∷ l))

  pub last-added : (c n : ℕ) (l : List Action) → 1 ≤ length l → LastAction l c n → LastAction (add_variant l v) c (suc n)
  last-added c n [] some h = absurd (omega arith)
  last-added c n (a ∷ []) some h = (h.0, omega (arith, length_more a.variants v, h.1))
  last-added c n (a ∷ b ∷ []) some h = last-added c n (b ∷ []) (omega arith) h
  last-added c n (a ∷ b ∷ d ∷ l) some h = last-added c n (b ∷ d ∷ l) (omega arith) h

  pub every-added : (ar : List ℕ) (c n : ℕ) → n < most_variants → GoodVariant ar c v → (l : List Action) → LastAction l c n → Every (GoodAction ar) l
      → Every (GoodAction ar) (add_variant l v)
  every-added ar c n room g [] h e = tt
  every-added ar c n room g (a ∷ []) h e = (
    record {
      few = e.0.few;
      variants-few = omega (arith, length_more a.variants v, h.1);
      variants = every_more (GoodVariant ar a.count) a.variants v e.0.variants (subst (λ (x : ℕ). GoodVariant ar x v) (sym h.0) g);
    },
    tt,
  )
  every-added ar c n room g (a ∷ b ∷ l) h e = (e.0, every-added ar c n room g (b ∷ l) h e.1)

  pub variants-added : (l : List Action) → 1 ≤ length l → variant_count (add_variant l v) ≡ suc (variant_count l)
  unfolding variant_count sum_of
  variants-added [] some = absurd (omega arith)
  variants-added (a ∷ []) some = omega (arith, length_more a.variants v)
  variants-added (a ∷ b ∷ l) some = omega (arith, variants-added (b ∷ l) (omega arith))

-- ===== Other truth diagrams in the last variant =====

abbrev pub with_truths : Variant → (Truths → Truths) → Variant
with_truths v f = record { weight = v.weight; truths = f v.truths }

module _ (f : Truths → Truths) where
  length-truths : (l : List Variant) → length (last_truths l f) ≡ length l
  length-truths [] = refl
  length-truths (v ∷ []) = refl
  length-truths (v ∷ w ∷ l) = omega (arith, length-truths (w ∷ l))

  every-truths : (P : Variant → Type 0) → ((v : Variant) → P v → P (with_truths v f)) → (l : List Variant) → Every P l → Every P (last_truths l f)
  every-truths P g [] h = tt
  every-truths P g (v ∷ []) h = (g v h.0, tt)
  every-truths P g (v ∷ w ∷ l) h = (h.0, every-truths P g (w ∷ l) h.1)

  pub length_last : (l : List Action) → length (last_variant l f) ≡ length l
  length_last [] = refl
  length_last (a ∷ []) = refl
  length_last (a ∷ b ∷ l) = omega (arith, length_last (b ∷ l))

  pub last-kept : (c n : ℕ) (l : List Action) → LastAction l c n → LastAction (last_variant l f) c n
  last-kept c n [] h = h
  last-kept c n (a ∷ []) h = (h.0, length-truths a.variants ∙ h.1)
  last-kept c n (a ∷ b ∷ []) h = last-kept c n (b ∷ []) h
  last-kept c n (a ∷ b ∷ d ∷ l) h = last-kept c n (b ∷ d ∷ l) h

  pub every-last : (ar : List ℕ) (c n : ℕ) → ((v : Variant) → GoodVariant ar c v → GoodVariant ar c (with_truths v f)) → (l : List Action) → LastAction l c n
      → Every (GoodAction ar) l → Every (GoodAction ar) (last_variant l f)
  every-last ar c n g [] h e = tt
  every-last ar c n g (a ∷ []) h e = (
    record {
      few = e.0.few;
      variants-few = omega (arith, length-truths a.variants, e.0.variants-few);
      variants = every-truths (GoodVariant ar a.count) (subst (λ (x : ℕ). (v : Variant) → GoodVariant ar x v → GoodVariant ar x (with_truths v f)) (sym h.0) g)
          a.variants e.0.variants;
    },
    tt,
  )
  every-last ar c n g (a ∷ b ∷ l) h e = (e.0, every-last ar c n g (b ∷ l) h e.1)

  pub variants-kept : (l : List Action) → variant_count (last_variant l f) ≡ variant_count l
  unfolding variant_count sum_of
  variants-kept [] = refl
  variants-kept (a ∷ []) = omega (arith, length-truths a.variants)
  variants-kept (a ∷ b ∷ l) = omega (arith, variants-kept (b ∷ l))
