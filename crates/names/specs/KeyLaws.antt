-- Laws of keys in a table: the search by places, one key more, tables whose words stay.
use Rattle.std.specs.Prelude.{Bool, true, false, ◌≡◌, refl, List, [], ◌∷◌, ◌++◌, ℕ, zero, suc, ◌+◌, ◌*◌, ◌<◌, ◌≤◌, length, get_or, set, eqb}
use Rattle.std.proofs.Common.{sym, subst, ◌∙◌, suc-le-suc, le_of_suc-le-suc, arith, length-set, get_or-set_same, get_or-set_other}
use borrow.Author.Tests.{eqb-true, eq-eqb, lt-ltb, le-ltb}
use Rattle.basics.specs.Tests.{and_left, and_right}
use Rattle.basics.specs.Members.{clash}
use Rattle.words.specs.declared.Key.{Key}
use Rattle.names.specs.Many.{many}
use Rattle.names.specs.ManyLaws.{length-many, get_d-many, many-ext, many_more}
use Rattle.names.specs.Inner.{put_key}
use Rattle.names.specs.Keys.{same_key, key_at, keys_at, place_of, is_among}

pub key-ext : (x y : Key) → x.a ≡ y.a → x.b ≡ y.b → x ≡ y
key-ext x y p q = λ i. record { a = p i; b = q i }

-- the test of two keys

pub same_true : (x y : Key) → same_key x y ≡ true → x ≡ y
unfolding same_key
same_true x y e = key-ext x y (eqb-true _ _ (and_left _ _ e)) (eqb-true _ _ (and_right (eqb x.a y.a) _ e))

pub same_refl : (x : Key) → same_key x x ≡ true
unfolding same_key
same_refl x = rw (eq-eqb x.a x.a refl, eq-eqb x.b x.b refl)

pub same_false : (x y : Key) → same_key x y ≡ false → x ≡ y → ⊥
same_false x y e p = clash (subst (λ (z : Key). same_key x z ≡ true) p (same_refl x)) e

pub same_not : (x y : Key) → (x ≡ y → ⊥) → same_key x y ≡ false
same_not x y f = go (same_key x y) refl
  where
    go : (b : Bool) → same_key x y ≡ b → same_key x y ≡ false
    go true e = absurd (f (same_true x y e))
    go false e = e

-- the search, by places

hit : (d : Key) (xs : List Key) (k : Key) (i : ℕ) → i < length xs → get_or xs i d ≡ k → ((j : ℕ) → j < i → get_or xs j d ≡ k → ⊥)
    → place_of k xs ≡ i
unfolding place_of
hit d [] k i h e f = absurd (omega arith)
hit d (x ∷ xs) k zero h e f = rw (e, same_refl k)
hit d (x ∷ xs) k (suc i) h e f =
    rw (same_not x k (f 0 (omega arith)), hit d xs k i (le_of_suc-le-suc h) e (λ j l. f (suc j) (suc-le-suc l)))

miss : (d : Key) (xs : List Key) (k : Key) → ((j : ℕ) → j < length xs → get_or xs j d ≡ k → ⊥) → place_of k xs ≡ length xs
unfolding place_of
miss d [] k f = refl
miss d (x ∷ xs) k f = rw (same_not x k (f 0 (omega arith)), miss d xs k (λ j l. f (suc j) (suc-le-suc l)))

module _ (s : List ℕ) (base n : ℕ) (k : Key) where
  pub place_at : (i : ℕ) → i < n → key_at s base i ≡ k → ((j : ℕ) → j < i → key_at s base j ≡ k → ⊥) → place_of k (keys_at s base n) ≡ i
  unfolding keys_at
  place_at i h e f =
      hit k (many (key_at s base) n) k i (rw length-many h) (get_d-many (key_at s base) k n i h ∙ e)
      (λ j l p. f j l (sym (get_d-many (key_at s base) k n j (omega arith)) ∙ p))

  pub place_none : ((j : ℕ) → j < n → key_at s base j ≡ k → ⊥) → place_of k (keys_at s base n) ≡ n
  unfolding keys_at
  place_none f =
      miss k (many (key_at s base) n) k
      (λ j l p. let m : j < n = (rw length-many at l) in f j m (sym (get_d-many (key_at s base) k n j m) ∙ p))
      ∙ length-many (key_at s base) n

pub length-keys : (s : List ℕ) (base n : ℕ) → length (keys_at s base n) ≡ n
unfolding keys_at
length-keys s base n = length-many (key_at s base) n

-- whether the key is there, by its place

module _ (s : List ℕ) (base n : ℕ) (k : Key) {i : ℕ} (p : i ≡ place_of k (keys_at s base n)) where
  pub among-at : i < n → is_among k (keys_at s base n) ≡ true
  unfolding is_among
  among-at h = lt-ltb (place_of k (keys_at s base n)) (length (keys_at s base n)) (omega (arith, length-keys s base n))

  pub among_none : n ≤ i → is_among k (keys_at s base n) ≡ false
  unfolding is_among
  among_none h = le-ltb (place_of k (keys_at s base n)) (length (keys_at s base n)) (omega (arith, length-keys s base n))

-- the words from base on, size of them, are the same in s and in t
pub record Same (s t : List ℕ) (base size : ℕ) : Type 0 where
  pub word : (i : ℕ) → base ≤ i → i < base + size → get_or t i 0 ≡ get_or s i 0

key-same : (s t : List ℕ) (base n : ℕ) → Same s t base (n * 2) → (i : ℕ) → i < n → key_at t base i ≡ key_at s base i
unfolding key_at
key-same s t base n h i l =
    key-ext _ _ (h.word (base + i * 2) (omega arith) (omega arith)) (h.word (base + i * 2 + 1) (omega arith) (omega arith))

-- a table whose words stay
pub keys-same : (s t : List ℕ) (base n : ℕ) → Same s t base (n * 2) → keys_at t base n ≡ keys_at s base n
unfolding keys_at
keys-same s t base n h = many-ext (key_at t base) (key_at s base) n (key-same s t base n h)

-- what writing a key leaves

pub length-put : (s : List ℕ) (i : ℕ) (k : Key) → length (put_key s i k) ≡ length s
unfolding put_key
length-put s i k = rw (length-set, length-set)

put_other : (s : List ℕ) (i : ℕ) (k : Key) (j : ℕ) → (j ≡ i → ⊥) → (j ≡ i + 1 → ⊥) → get_or (put_key s i k) j 0 ≡ get_or s j 0
unfolding put_key
put_other s i k j p q = rw (get_or-set_other, get_or-set_other)

pub put-before : (s : List ℕ) (i : ℕ) (k : Key) (base size : ℕ) → base + size ≤ i → Same s (put_key s i k) base size
put-before s i k base size h = record { word = λ j l m. put_other s i k j (λ e. omega arith) (λ e. omega arith) }

pub put-behind : (s : List ℕ) (i : ℕ) (k : Key) (base size : ℕ) → i + 2 ≤ base → Same s (put_key s i k) base size
put-behind s i k base size h = record { word = λ j l m. put_other s i k j (λ e. omega arith) (λ e. omega arith) }

put-key : (s : List ℕ) (base n : ℕ) (k : Key) → base + n * 2 + 2 ≤ length s → key_at (put_key s (base + n * 2) k) base n ≡ k
unfolding put_key key_at
put-key s base n k h =
    let t : List ℕ = set s (base + n * 2) k.a in
    key-ext _ _
    (get_or-set_other t (base + n * 2 + 1) (base + n * 2) k.b 0 (λ e. omega arith) ∙ get_or-set_same s (base + n * 2) k.a 0 (omega arith))
    (get_or-set_same t (base + n * 2 + 1) k.b 0 (rw length-set (omega arith)))

-- one key more
pub keys-more : (s : List ℕ) (base n : ℕ) (k : Key) → base + n * 2 + 2 ≤ length s
    → keys_at (put_key s (base + n * 2) k) base (n + 1) ≡ keys_at s base n ++ (k ∷ [])
unfolding keys_at
keys-more s base n k h =
    many_more (key_at s base) (key_at (put_key s (base + n * 2) k) base) n k
    (key-same s (put_key s (base + n * 2) k) base n (put-before s (base + n * 2) k base (n * 2) (omega arith)))
    (put-key s base n k h)
