-- Laws of gathered lists, of lists without some of their members, and of lists with each member once.
use Rattle.std.specs.Prelude.{◌≡◌, refl, ◌⊎◌, Bool, true, false, cond, ℕ, zero, suc, ◌+◌, ◌*◌, ◌<◌, length, get_or}
use Rattle.std.proofs.Common.{sym, ap, ◌∙◌, subst, inl, inr, arith, length-append}
use mathlib.Core.List.Memᴰ
use mathlib.Core.List.{List, [], ◌∷◌, ◌++◌, map, reverse, reverse-cons, Memᴰ}
use Rattle.basics.specs.Tests.{Cmp, cmp, below, equal, above, Either, one, other, either, or-one, or-other}
use Rattle.basics.specs.Members.{clash}
use Rattle.diagram.specs.Words.{up_to}
use Rattle.paths.specs.PathLaws.{mem-unmap}
use Rattle.state.specs.Max.{gather, those}
use Rattle.reduction.specs.Combinations.{some_of}
use Rattle.reduction.specs.Inner.{Once}

-- ===== Members =====
pub gather-in : {A B : Type 0} (f : A → List B) (l : List A) (a : A) (b : B) → Memᴰ a l → Memᴰ b (f a) → Memᴰ b (gather f l)
gather-in {A = A} {B = B} f [] a b x'' n = elim x'' [ ]
gather-in f (x ∷ l) a b (Memᴰ.head e) n = Memᴰ.append_left (gather f l) (subst (λ z. Memᴰ b (f z)) e n)
gather-in f (x ∷ l) a b (Memᴰ.tail m) n = Memᴰ.append_right (f x) (gather-in f l a b m n)

pub in-gather : {A B : Type 0} (f : A → List B) (l : List A) (b : B) → Memᴰ b (gather f l) → (a : A) × Memᴰ a l × Memᴰ b (f a)
in-gather f [] b m = absurd (Memᴰ.not-nil m)
in-gather {A} f (x ∷ l) b m = go (Memᴰ.append_cases (f x) m) (in-gather f l b)
  where
    go : Memᴰ b (f x) ⊎ Memᴰ b (gather f l) → (Memᴰ b (gather f l) → (a : A) × Memᴰ a l × Memᴰ b (f a))
        → (a : A) × Memᴰ a (x ∷ l) × Memᴰ b (f a)
    go (inl n) ih = (x, Memᴰ.head refl, n)
    go (inr n) ih = let r = ih n in (r.0, Memᴰ.tail r.1, r.2)

pub those-in : {A : Type 0} (p : A → Bool) (l : List A) (a : A) → Memᴰ a l → p a ≡ true → Memᴰ a (those p l)
those-in {A = A} p [] a m e = elim m [ ]
those-in {A} p (x ∷ l) a m e = go (p x) refl m (those-in p l a)
  where
    go : (b : Bool) → p x ≡ b → Memᴰ a (x ∷ l) → (Memᴰ a l → p a ≡ true → Memᴰ a (those p l)) → Memᴰ a (cond b (x ∷ those p l) (those p l))
    go true q (Memᴰ.head z) ih = Memᴰ.head z
    go true q (Memᴰ.tail n) ih = Memᴰ.tail (ih n e)
    go false q (Memᴰ.head z) ih = clash e (ap p z ∙ q)
    go false q (Memᴰ.tail n) ih = ih n e

pub in-those : {A : Type 0} (p : A → Bool) (l : List A) (a : A) → Memᴰ a (those p l) → Memᴰ a l × (p a ≡ true)
in-those p [] a m = absurd (Memᴰ.not-nil m)
in-those p (x ∷ l) a m = go (p x) refl m (in-those p l a)
  where
    go : (b : Bool) → p x ≡ b → Memᴰ a (cond b (x ∷ those p l) (those p l)) → (Memᴰ a (those p l) → Memᴰ a l × (p a ≡ true))
        → Memᴰ a (x ∷ l) × (p a ≡ true)
    go true q (Memᴰ.head z) ih = (Memᴰ.head z, ap p z ∙ q)
    go true q (Memᴰ.tail n) ih = let r = ih n in (Memᴰ.tail r.0, r.1)
    go false q n ih = let r = ih n in (Memᴰ.tail r.0, r.1)

pub some_of-in : {A : Type 0} (p : A → Bool) (l : List A) (a : A) → Memᴰ a l → p a ≡ true → some_of p l ≡ true
some_of-in {A = A} p [] a x'' e = elim x'' [ ]
some_of-in p (x ∷ l) a (Memᴰ.head z) e = or-one (p x) (some_of p l) (sym (ap p z) ∙ e)
some_of-in p (x ∷ l) a (Memᴰ.tail n) e = or-other (p x) (some_of p l) (some_of-in p l a n e)

pub in-some_of : {A : Type 0} (p : A → Bool) (l : List A) → some_of p l ≡ true → (a : A) × Memᴰ a l × (p a ≡ true)
in-some_of p [] e = clash e refl
in-some_of {A} p (x ∷ l) e = go (either (p x) (some_of p l) e) (in-some_of p l)
  where
    go : Either (p x) (some_of p l) → (some_of p l ≡ true → (a : A) × Memᴰ a l × (p a ≡ true)) → (a : A) × Memᴰ a (x ∷ l) × (p a ≡ true)
    go (one q) ih = (x, Memᴰ.head refl, q)
    go (other q) ih = let r = ih q in (r.0, Memᴰ.tail r.1, r.2)

pub up_to-in : (n k : ℕ) → k < n → Memᴰ k (up_to n)
up_to-in zero k h = absurd (omega arith)
up_to-in (suc n) k h = go (cmp k n) (up_to-in n k)
  where
    go : Cmp k n → (k < n → Memᴰ k (up_to n)) → Memᴰ k (up_to n ++ (n ∷ []))
    go (below q) ih = Memᴰ.append_left (n ∷ []) (ih q)
    go (equal q) ih = Memᴰ.append_right (up_to n) (Memᴰ.head q)
    go (above q) ih = absurd (omega arith)

pub in-up_to : (n k : ℕ) → Memᴰ k (up_to n) → k < n
in-up_to zero k m = absurd (Memᴰ.not-nil m)
in-up_to (suc n) k m = go (Memᴰ.append_cases (up_to n) m) (in-up_to n k)
  where
    go : Memᴰ k (up_to n) ⊎ Memᴰ k (n ∷ []) → (Memᴰ k (up_to n) → k < n) → k < suc n
    go (inl i) ih = let h = ih i in omega arith
    go (inr (Memᴰ.head e)) ih = omega arith
    go (inr (Memᴰ.tail i)) ih = absurd (Memᴰ.not-nil i)

pub reverse-in : {A : Type 0} (l : List A) (a : A) → Memᴰ a l → Memᴰ a (reverse l)
reverse-in {A = A} [] a x' = elim x' [ ]
reverse-in (x ∷ l) a (Memᴰ.head e) = subst (Memᴰ a) (sym (reverse-cons x l)) (Memᴰ.append_right (reverse l) (Memᴰ.head e))
reverse-in (x ∷ l) a (Memᴰ.tail m) = subst (Memᴰ a) (sym (reverse-cons x l)) (Memᴰ.append_left (x ∷ []) (reverse-in l a m))

-- the place of a member
pub place_of : {A : Type 0} (x a : A) (l : List A) → Memᴰ a l → (k : ℕ) × (k < length l) × (get_or l k x ≡ a)
place_of {A = A} x a [] x'' = elim x'' [ ]
place_of x a (y ∷ l) (Memᴰ.head e) = (0, omega arith, sym e)
place_of x a (y ∷ l) (Memᴰ.tail m) = let r = place_of x a l m in (suc r.0, omega (arith, r.1), r.2)

-- ===== Each member once =====
pub once-append : {A : Type 0} (l m : List A) → Once l → Once m → ((a : A) → Memᴰ a l → Memᴰ a m → ⊥) → Once (l ++ m)
once-append [] m u v w = v
once-append (x ∷ l) m u v w = (
  (λ i. go (Memᴰ.append_cases l i)),
  once-append l m u.1 v (λ a i j. w a (Memᴰ.tail i) j),
)
  where
    go : Memᴰ x l ⊎ Memᴰ x m → ⊥
    go (inl i) = u.0 i
    go (inr i) = w x (Memᴰ.head refl) i

pub once-map : {A B : Type 0} (f : A → B) (l : List A) → ((a b : A) → f a ≡ f b → a ≡ b) → Once l → Once (map f l)
once-map f [] inj u = tt
once-map f (x ∷ l) inj u = (
  (λ i. let r = mem-unmap f l (f x) i in u.0 (subst (λ z. Memᴰ z l) (sym (inj x r.0 r.2)) r.1)),
  once-map f l inj u.1,
)

pub once-those : {A : Type 0} (p : A → Bool) (l : List A) → Once l → Once (those p l)
once-those p [] u = tt
once-those p (x ∷ l) u = go (p x) (once-those p l u.1)
  where
    go : (b : Bool) → Once (those p l) → Once (cond b (x ∷ those p l) (those p l))
    go true ih = ((λ i. u.0 (in-those p l x i).0), ih)
    go false ih = ih

-- lists that members give have nothing in common if what is given tells whose it is
pub once-gather : {A B : Type 0} (f : A → List B) (g : B → A) (l : List A) → ((a : A) (b : B) → Memᴰ b (f a) → g b ≡ a) → ((a : A) → Once (f a)) → Once l → Once (gather f l)
once-gather f g [] back each u = tt
once-gather f g (x ∷ l) back each u = once-append (f x) (gather f l) (each x) (once-gather f g l back each u.1)
    (λ b i j. let r = in-gather f l b j in u.0 (subst (λ z. Memᴰ z l) (sym (back r.0 b r.2) ∙ back x b i) r.1))

pub once-up_to : (n : ℕ) → Once (up_to n)
once-up_to zero = tt
once-up_to (suc n) = once-append (up_to n) (n ∷ []) (once-up_to n) ((λ i. Memᴰ.not-nil i), tt) (λ a i j. let h = in-up_to n a i in last a j h)
  where
    last : (a : ℕ) → Memᴰ a (n ∷ []) → a < n → ⊥
    last a (Memᴰ.head e) h = omega arith
    last a (Memᴰ.tail i) h = Memᴰ.not-nil i

-- ===== Counts =====
pub gather-length : {A B : Type 0} (f : A → List B) (l : List A) (n : ℕ) → ((a : A) → length (f a) ≡ n) → length (gather f l) ≡ length l * n
gather-length f [] n h = omega arith
gather-length f (x ∷ l) n h = let z : suc (length l) * n ≡ n + length l * n = omega arith in length-append (f x) (gather f l) ∙ omega (arith, h x, gather-length f l n h)
