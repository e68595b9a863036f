-- Laws of the search for the winning paths.
use mathlib.Core.Path.{◌≡◌, refl, sym, ap, ap₂, ◌∙◌}
use mathlib.Core.Bool.{cond}
use mathlib.Core.List.{List, ◌∷◌}
use Prim.Native.Nat.{ℕ, zero, suc, ◌+◌, ◌-◌, ◌/◌, ◌%◌, ◌≤◌, ◌<◌}
use native.Mathlib.Omega.{arith}
use native.Mathlib.Numerals.{add-one}
use lib.ListN.{length, get_or, set}
use lib.Seq.{get_or-set_same, get_or-set_other}
use lib.Dec.{eqb}
use borrow.Author.Tests.{eq-eqb, ne_eqb, lt-ltb, le-ltb}
use Rattle.diagram.specs.Diagram.{Diagram}
use Rattle.diagram.specs.Validity.{tree}
use Rattle.paths.specs.Inner.{Leaves}
use Rattle.paths.specs.Routes.{path_at}
use Rattle.reduction.specs.Combinations.{before}
use Rattle.reduce.specs.Searching.{stacked, sign_of, better_of, Same}

-- ===== What is known =====
pub stacked-more : (s : List ℕ) (c : ℕ) → stacked s (suc c) ≡ get_or s c 0 ∷ stacked s c
unfolding stacked
stacked-more s c = refl

stacked-same : (s s' : List ℕ) (c : ℕ) → Same c s s' → stacked s' c ≡ stacked s c
unfolding stacked
stacked-same s s' zero h = refl
stacked-same s s' (suc c) h = ap₂ ◌∷◌ (h c (omega arith)) (stacked-same s s' c (λ i l. h i (omega arith)))

-- one more is known
pub stacked-set : (s s' : List ℕ) (c x : ℕ) → Same c s s' → c < length s' → stacked (set s' c x) (c + 1) ≡ x ∷ stacked s c
stacked-set s s' c x h l =
    ap (stacked (set s' c x)) (add-one c) ∙ stacked-more (set s' c x) c
    ∙ ap₂ ◌∷◌ (get_or-set_same s' c x 0 l) (stacked-same s (set s' c x) c (λ i k. get_or-set_other s' c i x 0 (λ z. omega arith) ∙ h i k))

-- `sign_of`
module _ (s : List ℕ) (f : ℕ) where
  abbrev pub Passed : ℕ → ℕ → Type 0
  Passed count c = sign_of (stacked s count) f ≡ sign_of (stacked s c) f

  sign-cons : (x : ℕ) (xs : List ℕ) → sign_of (x ∷ xs) f ≡ cond (eqb (x / 2) f) (x % 2) (sign_of xs f)
  unfolding sign_of
  sign-cons x xs = refl

  at_last : (c : ℕ) → (c ≡ 0 → ⊥) → sign_of (stacked s c) f ≡ cond (eqb (get_or s (c - 1) 0 / 2) f) (get_or s (c - 1) 0 % 2) (sign_of (stacked s (c - 1)) f)
  at_last c h =
      let e : c ≡ suc (c - 1) = omega arith in
      ap (λ (k : ℕ). sign_of (stacked s k) f) e ∙ ap (λ (xs : List ℕ). sign_of xs f) (stacked-more s (c - 1)) ∙ sign-cons (get_or s (c - 1) 0) (stacked s (c - 1))

  pub sign-found : (count c : ℕ) → Passed count c → 0 < c → get_or s (c - 1) 0 / 2 ≡ f → get_or s (c - 1) 0 % 2 ≡ sign_of (stacked s count) f
  sign-found count c p h e = sym (p ∙ at_last c (omega arith) ∙ rw (eq-eqb (get_or s (c - 1) 0 / 2) f e))

  pub sign-on : (count c : ℕ) → Passed count c → 0 < c → (get_or s (c - 1) 0 / 2 ≡ f → ⊥) → Passed count (c - 1)
  sign-on count c p h e = p ∙ at_last c (omega arith) ∙ rw (ne_eqb (get_or s (c - 1) 0 / 2) f e)

  pub sign-none : (count c : ℕ) → Passed count c → c ≤ 0 → 2 ≡ sign_of (stacked s count) f
  unfolding sign_of stacked
  sign-none count c p h = let e : c ≡ 0 = omega arith in sym (p ∙ ap (λ (k : ℕ). sign_of (stacked s k) f) e)

-- ===== Leaves =====
-- `better`
module _ {ws leaves : List ℕ} {n m : ℕ} (l : Leaves ws leaves n m) {best k : ℕ} (h : best ≤ m) (j : k < m) where
  abbrev D : Diagram
  D = tree ws (n - 1)

  pub better-first : best ≡ m → k ≡ better_of D m best k
  unfolding better_of
  better-first e = rw (eq-eqb best m e)

  module _ (e : best ≡ m → ⊥) where
    best-leaf : get_or leaves best 0 ≡ (path_at D best).end
    best-leaf = l.each best (omega arith)

    path-leaf : get_or leaves k 0 ≡ (path_at D k).end
    path-leaf = l.each k j

    pub better-higher : get_or leaves best 0 < get_or leaves k 0 → k ≡ better_of D m best k
    unfolding better_of before
    better-higher q = rw (ne_eqb best m e, lt-ltb (path_at D best).end (path_at D k).end (omega (arith, best-leaf, path-leaf)))

    module _ (q : get_or leaves k 0 ≤ get_or leaves best 0) where
      pub better-lower : get_or leaves k 0 < get_or leaves best 0 → best ≡ better_of D m best k
      unfolding better_of before
      better-lower p = rw (
        ne_eqb best m e,
        le-ltb (path_at D best).end (path_at D k).end (omega (arith, best-leaf, path-leaf)),
        ne_eqb (path_at D k).end (path_at D best).end (λ z. omega (arith, best-leaf, path-leaf)),
      )

      module _ (p : get_or leaves best 0 ≤ get_or leaves k 0) where
        same-leaf : (path_at D k).end ≡ (path_at D best).end
        same-leaf = sym path-leaf ∙ (let z : get_or leaves k 0 ≡ get_or leaves best 0 = omega arith in z) ∙ best-leaf

        pub better-sooner : k < best → k ≡ better_of D m best k
        unfolding better_of before
        better-sooner o = rw (
          ne_eqb best m e,
          le-ltb (path_at D best).end (path_at D k).end (omega (arith, best-leaf, path-leaf)),
          eq-eqb (path_at D k).end (path_at D best).end same-leaf,
          lt-ltb k best o,
        )

        pub better-stays : best ≤ k → best ≡ better_of D m best k
        unfolding better_of before
        better-stays o = rw (
          ne_eqb best m e,
          le-ltb (path_at D best).end (path_at D k).end (omega (arith, best-leaf, path-leaf)),
          eq-eqb (path_at D k).end (path_at D best).end same-leaf,
          le-ltb k best o,
        )
