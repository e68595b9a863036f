-- A predicate's ground facts by their numbers: the tuple with the number t has t's digits.
use mathlib.Core.Path.{◌≡◌, refl, ap, sym, ◌∙◌}
use mathlib.Core.List.{List, [], ◌∷◌, ◌++◌, map}
use Prim.Native.Nat.{ℕ, zero, suc, ◌+◌, ◌*◌, ◌/◌, ◌%◌, ◌^◌, ◌≤◌, ◌<◌}
use native.Mathlib.Omega.{arith}
use native.Mathlib.Nat.{pow-zero, pow-suc, pow-succ', one-le-pow, mul-le-mul_right, add-mul, mul_assoc, div-add-mod', div-lt_iff_lt-mul, mod-lt}
use lib.ListN.{length, get_or, length-append, length-map, get_or-append}
use lib.Seq.{get_or-append-add, get_or_at, ext_get_or}
use Rattle.basics.specs.Tests.{Cmp, cmp, below, equal, above}
use Rattle.state.specs.Max.{tuples}
use Rattle.spread.specs.Ground.{Ground, ground, joined, facts_of}
use Rattle.spread.proofs.GroundLaws.{length-joined, tuples-joined, length-tuples}
use Rattle.count_states.specs.Facts.{digits, first_facts}

-- ===== Lists by index =====
at_same : {A : Type 0} (xs : List A) (d : A) {i j : ℕ} → i ≡ j → get_or xs i d ≡ get_or xs j d
at_same xs d e = ap (λ i. get_or xs i d) e

pub map_at : {A B : Type 0} (g : A → B) (xs : List A) (i : ℕ) (d : B) (e : A) → i < length xs → get_or (map g xs) i d ≡ g (get_or xs i e)
map_at g [] i d e h = absurd (omega arith)
map_at g (x ∷ xs) zero d e h = refl
map_at g (x ∷ xs) (suc i) d e h = map_at g xs i d e (omega arith)

-- lists of length m one behind the other: element b of list a
joined_at : {A : Type 0} (m : ℕ) (f : ℕ → List A) (d : A) → ((i : ℕ) → length (f i) ≡ m) → (n a b : ℕ) → a < n → b < m → get_or (joined n f) (a * m + b) d ≡ get_or (f a) b d
unfolding joined
joined_at m f d e zero a b h l = absurd (omega arith)
joined_at m f d e (suc n) a b h l = go (cmp a n) (joined_at m f d e n a b)
  where
    size : length (joined n f) ≡ n * m
    size = length-joined n m f e

    go : Cmp a n → (a < n → b < m → get_or (joined n f) (a * m + b) d ≡ get_or (f a) b d) → get_or (joined n f ++ f n) (a * m + b) d ≡ get_or (f a) b d
    go (below k) ih =
        let q : (a + 1) * m ≤ n * m = mul-le-mul_right m (omega arith) in
        let r : (a + 1) * m ≡ a * m + m = omega (arith, add-mul a 1 m) in
        get_or-append (joined n f) (f n) d (a * m + b) (omega (arith, size)) ∙ ih k l
    go (equal k) ih =
        let q : a * m + b ≡ length (joined n f) + b = ap (λ x. x * m + b) k ∙ ap (λ x. x + b) (sym size) in
        at_same (joined n f ++ f n) d q ∙ get_or-append-add (joined n f) (f n) b d ∙ ap (λ x. get_or (f x) b d) (sym k)
    go (above k) ih = absurd (omega arith)

-- ===== Tuples by number =====
module _ (n : ℕ) (some : 0 < n) where
  -- behind the tuples of k objects in place a
  heads-at : (k a b : ℕ) → a < n → b < n ^ k → get_or (tuples n (suc k)) (a * n ^ k + b) [] ≡ a ∷ get_or (tuples n k) b []
  heads-at k a b h l =
      ap (λ ts. get_or ts (a * n ^ k + b) []) (tuples-joined n k)
      ∙ joined_at (n ^ k) (λ o. map (λ os. o ∷ os) (tuples n k)) [] (λ o. length-map (tuples n k) (λ os. o ∷ os) ∙ length-tuples n k) n a b h l
      ∙ map_at (λ os. a ∷ os) (tuples n k) b [] [] (omega (arith, length-tuples n k))

  none : (r : ℕ) → get_or (tuples n 0) 0 [] ++ (r ∷ []) ≡ r ∷ get_or (tuples n 0) 0 []
  unfolding tuples
  none r = refl

  -- the last object is the lowest digit
  pub tuples-last : (k q r : ℕ) → q < n ^ k → r < n → get_or (tuples n (suc k)) (q * n + r) [] ≡ get_or (tuples n k) q [] ++ (r ∷ [])
  tuples-last zero q r h l =
      let z = pow-zero n in
      let e : q ≡ 0 = omega arith in
      at_same (tuples n 1) [] (rw (e, z) (omega arith)) ∙ heads-at 0 r 0 l (omega arith) ∙ sym (ap (λ x. get_or (tuples n 0) x [] ++ (r ∷ [])) e ∙ none r)
  tuples-last (suc k) q r h l =
      let m : ℕ = n ^ k in
      let a : ℕ = q / m in
      let b : ℕ = q % m in
      let one : 1 ≤ m = one-le-pow k n some in
      let sum : q ≡ a * m + b = sym (div-add-mod' q m) in
      let top : a < n = (div-lt_iff_lt-mul {k = m} {x = q} {y = n} one).1 (rw (← pow-succ' n k) h) in
      let rest : b < m = mod-lt q one in
      let w : n ^ suc k ≡ m * n = pow-suc n k in
      let far : (b + 1) * n ≤ m * n = mul-le-mul_right n (omega arith) in
      let more : (b + 1) * n ≡ b * n + n = omega (arith, add-mul b 1 n) in
      let low : b * n + r < n ^ suc k = omega arith in
      let place : q * n + r ≡ a * n ^ suc k + (b * n + r)
      = ap (λ x. x * n + r) sum ∙ ap (λ x. x + r) (add-mul (a * m) b n ∙ ap (λ x. x + b * n) (mul_assoc a m n ∙ ap (λ x. a * x) (sym w)))
      ∙ (let g : ℕ = a * n ^ suc k in let f : ℕ = b * n in let p : (g + f) + r ≡ g + (f + r) = omega arith in p) in
      at_same (tuples n (suc (suc k))) [] place
      ∙ heads-at (suc k) a (b * n + r) top low
      ∙ ap (λ os. a ∷ os) (tuples-last k b r rest l)
      ∙ ap (λ os. os ++ (r ∷ [])) (sym (at_same (tuples n (suc k)) [] sum ∙ heads-at k a b top rest))

  pub tuple-digits : (k t : ℕ) → t < n ^ k → get_or (tuples n k) t [] ≡ digits n k t
  unfolding digits tuples
  tuple-digits zero t h = let z = pow-zero n in let e : t ≡ 0 = omega arith in rw e
  tuple-digits (suc k) t h =
      let q : t / n < n ^ k = (div-lt_iff_lt-mul {k = n} {x = t} {y = n ^ k} some).1 (rw (← pow-suc n k) h) in
      at_same (tuples n (suc k)) [] (sym (div-add-mod' t n)) ∙ tuples-last k (t / n) (t % n) q (mod-lt t some) ∙ ap (λ os. os ++ (t % n ∷ [])) (tuple-digits k (t / n) q)

-- ===== Facts by number =====
pub length_digits : (n k t : ℕ) → length (digits n k t) ≡ k
unfolding digits
length_digits n zero t = refl
length_digits n (suc k) t = length-append (digits n k (t / n)) (t % n ∷ []) ∙ (let e = length_digits n k (t / n) in omega arith)

length-facts : (n p k m : ℕ) → length (first_facts n p k m) ≡ m
unfolding first_facts
length-facts n p k zero = refl
length-facts n p k (suc m) = length-append (first_facts n p k m) (ground p (digits n k m) ∷ []) ∙ (let e = length-facts n p k m in omega arith)

facts_at : (n p k m i : ℕ) (d : Ground) → i < m → get_or (first_facts n p k m) i d ≡ ground p (digits n k i)
unfolding first_facts
facts_at n p k zero i d h = absurd (omega arith)
facts_at n p k (suc m) i d h = go (cmp i m) (facts_at n p k m i d)
  where
    size : length (first_facts n p k m) ≡ m
    size = length-facts n p k m

    go : Cmp i m → (i < m → get_or (first_facts n p k m) i d ≡ ground p (digits n k i)) → get_or (first_facts n p k m ++ (ground p (digits n k m) ∷ [])) i d ≡ ground p (digits n k i)
    go (below l) ih = get_or-append (first_facts n p k m) (ground p (digits n k m) ∷ []) d i (omega (arith, size)) ∙ ih l
    go (equal l) ih = get_or_at (first_facts n p k m) (ground p (digits n k m)) [] d i (size ∙ sym l) ∙ ap (λ x. ground p (digits n k x)) (sym l)
    go (above l) ih = absurd (omega arith)

-- all of them are the predicate's
pub facts-all : (ar : List ℕ) (n p : ℕ) → 0 < n → first_facts n p (get_or ar p 0) (n ^ get_or ar p 0) ≡ facts_of ar n p
unfolding facts_of
facts-all ar n p some = ext_get_or (ground 0 []) (first_facts n p k (n ^ k)) (map (ground p) (tuples n k)) size each
  where
    k : ℕ
    k = get_or ar p 0

    size : length (first_facts n p k (n ^ k)) ≡ length (map (ground p) (tuples n k))
    size = length-facts n p k (n ^ k) ∙ sym (length-map (tuples n k) (ground p) ∙ length-tuples n k)

    each : (i : ℕ) → i < length (first_facts n p k (n ^ k)) → get_or (first_facts n p k (n ^ k)) i (ground 0 []) ≡ get_or (map (ground p) (tuples n k)) i (ground 0 [])
    each i h =
        let l : i < n ^ k = omega (arith, length-facts n p k (n ^ k)) in
        facts_at n p k (n ^ k) i (ground 0 []) l
        ∙ sym (map_at (ground p) (tuples n k) i (ground 0 []) [] (omega (arith, length-tuples n k)) ∙ ap (ground p) (tuple-digits n some k i l))
