-- The order of valuations and that of paths are document 02's.
use Rattle.std.specs.Prelude.{◌≡◌, refl, ◌⊎◌, ℕ, zero, suc, ◌-◌, ◌≤◌, ◌<◌, length}
use Rattle.std.proofs.Common.{sym, subst, inl, inr, arith}
use mathlib.Core.List.Memᴰ
use mathlib.Core.List.{List, [], ◌∷◌, ◌++◌, map, Memᴰ}
use Rattle.basics.specs.Tests.{Cmp, cmp, below, equal, above}
use Rattle.diagram.specs.Diagram.{Diagram, leaf, branch}
use Rattle.diagram.specs.Words.{up_to}
use Rattle.paths.specs.Paths.{Path, step_before, paths}
use Rattle.paths.specs.PathLaws.{mem-unmap, paths-leaf, paths-branch, path-high, path-low}
use Rattle.paths.specs.Routes.{path_at}
use Rattle.state.specs.Max.{gather, tuples}
use Rattle.reduction.specs.Inner.{Sorted, Sooner, parts, along}
use Rattle.reduction.specs.Claims.{Lower, differs, onwards}
use Rattle.reduction.proofs.ListLaws.{in-gather, in-up_to}

-- ===== Sorted lists =====
module _ {A : Type 0} (R : A → A → Type 0) where
  pub sorted-append : (l m : List A) → Sorted R l → Sorted R m → ((a b : A) → Memᴰ a l → Memᴰ b m → R a b) → Sorted R (l ++ m)
  sorted-append [] m u v w = v
  sorted-append (x ∷ l) m u v w = (
    (λ b i. go b (Memᴰ.append_cases l i)),
    sorted-append l m u.1 v (λ a b i j. w a b (Memᴰ.tail i) j),
  )
    where
      go : (b : A) → Memᴰ b l ⊎ Memᴰ b m → R x b
      go b (inl i) = u.0 b i
      go b (inr i) = w x b (Memᴰ.head refl) i

module _ {A B : Type 0} (R : A → A → Type 0) (S : B → B → Type 0) where
  pub sorted-map : (f : A → B) (l : List A) → ((a b : A) → R a b → S (f a) (f b)) → Sorted R l → Sorted S (map f l)
  sorted-map f [] h u = tt
  sorted-map f (x ∷ l) h u = (
    (λ b i. let r = mem-unmap f l b i in subst (S (f x)) (sym r.2) (h x r.0 (u.0 r.0 r.1))),
    sorted-map f l h u.1,
  )

  sorted-gather : (f : A → List B) (l : List A) → ((a b : A) (x y : B) → R a b → Memᴰ x (f a) → Memᴰ y (f b) → S x y) → ((a : A) → Sorted S (f a)) → Sorted R l
      → Sorted S (gather f l)
  sorted-gather f [] h each u = tt
  sorted-gather f (a ∷ l) h each u = sorted-append S (f a) (gather f l) (each a) (sorted-gather f l h each u.1)
      (λ x y i j. let r = in-gather f l y j in h a r.0 x y (u.0 r.0 r.1) i r.2)

sorted-up_to : (n : ℕ) → Sorted ◌<◌ (up_to n)
sorted-up_to zero = tt
sorted-up_to (suc n) = sorted-append ◌<◌ (up_to n) (n ∷ []) (sorted-up_to n) ((λ b i. absurd (Memᴰ.not-nil i)), tt) (λ a b i j. last a b (in-up_to n a i) j)
  where
    last : (a b : ℕ) → a < n → Memᴰ b (n ∷ []) → a < b
    last a b h (Memᴰ.head e) = omega arith
    last a b h (Memᴰ.tail i) = absurd (Memᴰ.not-nil i)

-- ===== Valuations =====

-- "lowest objects first, the lowest variable changing slowest"
pub tuples-order : (n c : ℕ) → Sorted Lower (tuples n c)
unfolding tuples
tuples-order n zero = ((λ b i. absurd (Memᴰ.not-nil i)), tt)
tuples-order n (suc c) = sorted-gather ◌<◌ Lower (λ o. map (o ∷◌) (tuples n c)) (up_to n)
    (λ a b x y h i j.
    let u = mem-unmap (a ∷◌) (tuples n c) x i in
    let v = mem-unmap (b ∷◌) (tuples n c) y j in
    subst (λ z. Lower z y) (sym u.2) (subst (Lower (a ∷ u.0)) (sym v.2) (differs h)))
    (λ a. sorted-map Lower Lower (a ∷◌) (tuples n c) (λ x y h. onwards h) (tuples-order n c))
    (sorted-up_to n)

-- ===== Paths =====

-- "true edge first from the root": so paths are numbered
pub paths-order : (d : Diagram) (j k : ℕ) → j < k → k < length (paths d) → Sooner (path_at d j).steps (path_at d k).steps
paths-order (leaf v) j k h m = absurd (omega (arith, paths-leaf v))
paths-order (branch l t f) j k h m = go (cmp j (length (paths t))) (cmp k (length (paths t))) (paths-order t j k h) (paths-order f (j - length (paths t)) (k - length (paths t)))
  where
    n : ℕ
    n = length (paths t)

    Goal : Type 0
    Goal = Sooner (path_at (branch l t f) j).steps (path_at (branch l t f) k).steps

    from-both : (p q : Path) → path_at (branch l t f) j ≡ p → path_at (branch l t f) k ≡ q → Sooner p.steps q.steps → Goal
    from-both p q x y w = subst (λ (z : Path). Sooner z.steps (path_at (branch l t f) k).steps) (sym x) (subst (λ (z : Path). Sooner p.steps z.steps) (sym y) w)

    high : j < n → n ≤ k → Goal
    high a b = from-both _ _ (path-high l j t f a) (path-low l k t f b) (unfold step_before in parts)

    low : n ≤ j → (j - n < k - n → k - n < length (paths f) → Sooner (path_at f (j - n)).steps (path_at f (k - n)).steps) → Goal
    low a rf = from-both _ _ (path-low l j t f a) (path-low l k t f (omega arith)) (unfold step_before in (along (rf (omega arith) (omega (arith, paths-branch l t f)))))

    go : Cmp j n → Cmp k n → (k < length (paths t) → Sooner (path_at t j).steps (path_at t k).steps)
        → (j - n < k - n → k - n < length (paths f) → Sooner (path_at f (j - n)).steps (path_at f (k - n)).steps) → Goal
    go (below a) (below b) rt rf = from-both _ _ (path-high l j t f a) (path-high l k t f b) (unfold step_before in (along (rt b)))
    go (below a) (equal b) rt rf = high a (omega arith)
    go (below a) (above b) rt rf = high a (omega arith)
    go (equal a) b rt rf = low (omega arith) rf
    go (above a) b rt rf = low (omega arith) rf
