-- The tuples of objects by number: the digits of the number.
use mathlib.Core.Path.{◌≡◌, refl, sym, ap, ap₂, subst, ◌∙◌}
use mathlib.Core.Bool.{true}
use mathlib.Core.List.{List, [], ◌∷◌, ◌++◌, map}
use Prim.Native.Nat.{ℕ, zero, suc, ◌+◌, ◌-◌, ◌*◌, ◌/◌, ◌%◌, ◌^◌, ◌≤◌, ◌<◌}
use native.Mathlib.Omega.{arith}
use native.Mathlib.Nat.{
  add-zero,
  add-suc,
  zero-mul,
  suc-mul,
  mul-one,
  mul_assoc,
  pow-zero,
  pow-suc,
  pow-succ',
  pow-le-pow_left,
  pow-le-pow_right,
  mod-lt,
  mod-eq_of_lt,
  zero-mod,
  zero-div,
  mul-add-div_right,
  mul-add-mod_self_right,
  div-lt_iff_lt-mul,
}
use native.Mathlib.Numerals.{add-one}
use lib.ListN.{length, get_or, set, take, drop, replicate, length-append, length-set}
use lib.Dec.{ltb, lit<}
use lib.Seq.{append_snoc, drop-cons, drop-set-lt, get_or-set_same, lt-length-set, take_at}
use borrow.Author.Tests.{lt-ltb, ltb-true}
use Rattle.basics.specs.Tests.{and_left, and_right}
use Rattle.diagram.specs.Words.{up_to}
use Rattle.state.specs.Lent.{all_below}
use Rattle.state.specs.Max.{gather, tuples}
use Rattle.state.proofs.MaxLaws.{gather-last}
use Rattle.names.specs.Many.{many}
use Rattle.names.specs.ManyLaws.{many-ext}
use Rattle.best_move.specs.Inside.{digits, Tupled}

-- ===== Lists =====

append-none : {A : Type 0} (l : List A) → l ++ [] ≡ l
append-none [] = refl
append-none (a ∷ l) = ap (a ∷◌) (append-none l)

append-append : {A : Type 0} (x y z : List A) → (x ++ y) ++ z ≡ x ++ (y ++ z)
append-append [] y z = refl
append-append (a ∷ x) y z = ap (a ∷◌) (append-append x y z)

map-append : {A B : Type 0} (g : A → B) (x y : List A) → map g (x ++ y) ≡ map g x ++ map g y
map-append g [] y = refl
map-append g (a ∷ x) y = ap (g a ∷◌) (map-append g x y)

map-many : {A B : Type 0} (g : A → B) (f : ℕ → A) (n : ℕ) → map g (many f n) ≡ many (λ j. g (f j)) n
unfolding many
map-many g f zero = refl
map-many g f (suc n) = map-append g (many f n) (f n ∷ []) ∙ ap (λ l. l ++ (g (f n) ∷ [])) (map-many g f n)

many-both : {A : Type 0} (f : ℕ → A) (a b : ℕ) → many f (a + b) ≡ many f a ++ many (λ j. f (a + j)) b
unfolding many
many-both f a zero = ap (many f) (add-zero a) ∙ sym (append-none (many f a))
many-both f a (suc b) =
    ap (many f) (add-suc a b) ∙ ap (λ l. l ++ (f (a + b) ∷ [])) (many-both f a b)
    ∙ append-append (many f a) (many (λ j. f (a + j)) b) (f (a + b) ∷ [])

-- ===== Digits =====

pub length_digits : (n c i : ℕ) → length (digits n c i) ≡ c
unfolding digits
length_digits n zero i = refl
length_digits n (suc c) i = rw (length-append, length_digits n c (i / n), add-one)

below_last : (n : ℕ) (l : List ℕ) (o : ℕ) → all_below n l ≡ true → o < n → all_below n (l ++ (o ∷ [])) ≡ true
below_last n [] o e h = rw (lt-ltb o n h)
below_last n (a ∷ l) o e h = rw (and_left (ltb a n) (all_below n l) e, below_last n l o (and_right (ltb a n) (all_below n l) e) h)

pub digits-below : (n c i : ℕ) → 0 < n → all_below n (digits n c i) ≡ true
unfolding digits
digits-below n zero i h = refl
digits-below n (suc c) i h = below_last n (digits n c (i / n)) (i % n) (digits-below n c (i / n) h) (mod-lt i h)

abbrev pub zeros : ℕ → List ℕ
zeros c = replicate c 0

replicate-last : (c : ℕ) → zeros c ++ (0 ∷ []) ≡ zeros (suc c)
replicate-last zero = refl
replicate-last (suc c) = ap (0 ∷◌) (replicate-last c)

pub digits-zero : (n c : ℕ) → digits n c 0 ≡ zeros c
unfolding digits
digits-zero n zero = refl
digits-zero n (suc c) = rw (zero-div n, zero-mod n, digits-zero n c) (replicate-last c)

-- the first digit
digits-first : (n : ℕ) → 0 < n → (c o j : ℕ) → o < n → j < n ^ c → digits n (suc c) (o * n ^ c + j) ≡ o ∷ digits n c j
unfolding digits
digits-first n h zero o j l k =
    let p = pow-zero n in
    let z : j ≡ 0 = omega arith in
    let e : o * n ^ 0 + j ≡ o = rw (p, z, mul-one o) (add-zero o) in
    ap (λ x. x ∷ []) (ap (λ x. x % n) e ∙ mod-eq_of_lt l)
digits-first n h (suc c) o j l k =
    let e : o * n ^ suc c + j ≡ o * n ^ c * n + j = ap (λ x. x + j) (ap (λ x. o * x) (pow-suc n c) ∙ sym (mul_assoc o (n ^ c) n)) in
    let q : (o * n ^ suc c + j) / n ≡ o * n ^ c + j / n = ap (λ x. x / n) e ∙ mul-add-div_right h (o * n ^ c) j in
    let r : (o * n ^ suc c + j) % n ≡ j % n = ap (λ x. x % n) e ∙ mul-add-mod_self_right (o * n ^ c) n j in
    let m : j < n ^ c * n = subst (λ x. j < x) (pow-suc n c) k in
    rw (q, r, digits-first n h c o (j / n) l ((div-lt_iff_lt-mul h).1 m))

-- the tuples whose first object is below m
tuples-first : (n c m : ℕ) → 0 < n → tuples n c ≡ many (digits n c) (n ^ c) → m ≤ n
    → gather (λ o. map (o ∷◌) (tuples n c)) (up_to m) ≡ many (digits n (suc c)) (m * n ^ c)
unfolding many
tuples-first n c zero h e l = rw (zero-mul (n ^ c))
tuples-first n c (suc m) h e l =
    gather-last (λ o. map (o ∷◌) (tuples n c)) (up_to m) m
    ∙ ap (λ x. x ++ map (m ∷◌) (tuples n c)) (tuples-first n c m h e (omega arith))
    ∙ ap (λ x. many (digits n (suc c)) (m * n ^ c) ++ x) (
    ap (map (m ∷◌)) e ∙ map-many (m ∷◌) (digits n c) (n ^ c)
    ∙ many-ext (λ j. m ∷ digits n c j) (λ j. digits n (suc c) (m * n ^ c + j)) (n ^ c) (λ j k. sym (digits-first n h c m j l k)))
    ∙ sym (many-both (digits n (suc c)) (m * n ^ c) (n ^ c))
    ∙ ap (many (digits n (suc c))) (sym (suc-mul m (n ^ c)))

-- the tuples are the digits of 0, 1, .., n^c - 1
pub tuples-digits : (n c : ℕ) → 0 < n → tuples n c ≡ many (digits n c) (n ^ c)
unfolding tuples many digits
tuples-digits n zero h = sym (ap (many (digits n 0)) (pow-zero n))
tuples-digits n (suc c) h = tuples-first n c n h (tuples-digits n c h) (omega arith) ∙ ap (many (digits n (suc c))) (sym (pow-succ' n c))

-- ===== objects_at =====

-- the digits from place k on are written, and the rest is to be taken apart
pub record Dividing (os₀ : List ℕ) (n c i : ℕ) (os : List ℕ) (rest k : ℕ) : Type 0 where
  pub within : k ≤ c
  pub kept : length os ≡ length os₀
  pub left : digits n k rest ++ drop k os ≡ digits n c i ++ drop c os₀

pub dividing-start : (os : List ℕ) (n c i : ℕ) → Dividing os n c i os i c
dividing-start os n c i = record { within = omega arith; kept = refl; left = refl }

module _ {os₀ : List ℕ} {n c i : ℕ} {os : List ℕ} {rest k : ℕ} (d : Dividing os₀ n c i os rest k) where
  pub dividing-on : c ≤ length os₀ → 0 < k → Dividing os₀ n c i (set os (k - 1) (rest % n)) (rest / n) (k - 1)
  unfolding digits
  dividing-on m h =
      let w = d.within in
      let p = d.kept in
      let j : ℕ = k - 1 in
      let x : ℕ = rest % n in
      let z : k ≡ suc j = omega arith in
      let l : j < length os = omega arith in
      let u : drop j (set os j x) ≡ x ∷ drop (suc j) os =
      drop-cons (set os j x) j 0 (lt-length-set os j x l) ∙ ap₂ ◌∷◌ (get_or-set_same os j x 0 l) (drop-set-lt (suc j) os j x (omega arith)) in
      let v : (digits n j (rest / n) ++ (x ∷ [])) ++ drop (suc j) os ≡ digits n c i ++ drop c os₀ = subst (λ y. digits n y rest ++ drop y os ≡ digits n c i ++ drop c os₀) z d.left in
      record {
        within = omega arith;
        kept = length-set os j x ∙ p;
        left = ap (λ y. digits n j (rest / n) ++ y) u ∙ sym (append_snoc (digits n j (rest / n)) x (drop (suc j) os)) ∙ v;
      }

  pub dividing-end : k ≤ 0 → os ≡ digits n c i ++ drop c os₀
  unfolding digits
  dividing-end h =
      let z : k ≡ 0 = omega arith in
      subst (λ y. digits n y rest ++ drop y os ≡ digits n c i ++ drop c os₀) z d.left

-- the words written, alone
pub digits-taken : (n c i : ℕ) (rest : List ℕ) {os : List ℕ} → os ≡ digits n c i ++ rest → take c os ≡ digits n c i
digits-taken n c i rest {os} e = ap (take c) e ∙ take_at (digits n c i) rest c (length_digits n c i)

pub digits-count : (n c i : ℕ) (rest : List ℕ) {os : List ℕ} → os ≡ digits n c i ++ rest → c ≡ length (take c os)
digits-count n c i rest e = sym (ap length (digits-taken n c i rest e) ∙ length_digits n c i)

pub taken-below : (n c i : ℕ) (rest : List ℕ) {os : List ℕ} → 0 < n → os ≡ digits n c i ++ rest → all_below n (take c os) ≡ true
taken-below n c i rest h e = ap (all_below n) (digits-taken n c i rest e) ∙ digits-below n c i h

-- before zeros
pub digits-read : (n c i m k : ℕ) {os : List ℕ} → os ≡ digits n c i ++ drop c (replicate m 0) → get_or os k 0 ≡ get_or (digits n c i) k 0
digits-read n c i m k {os} e = ap (λ (x : List ℕ). get_or x k 0) e ∙ zeros-behind (digits n c i) (drop c (replicate m 0)) k (λ j. zeros-dropped c m j)
  where
    zeros-read : (m j : ℕ) → get_or (zeros m) j 0 ≡ 0
    zeros-read zero j = refl
    zeros-read (suc m) zero = refl
    zeros-read (suc m) (suc j) = zeros-read m j

    zeros-dropped : (c m j : ℕ) → get_or (drop c (zeros m)) j 0 ≡ 0
    zeros-dropped zero m j = zeros-read m j
    zeros-dropped (suc c) zero j = refl
    zeros-dropped (suc c) (suc m) j = zeros-dropped c m j

    zeros-behind : (l r : List ℕ) (k : ℕ) → ((j : ℕ) → get_or r j 0 ≡ 0) → get_or (l ++ r) k 0 ≡ get_or l k 0
    zeros-behind [] r k h = h k
    zeros-behind (a ∷ l) r zero h = refl
    zeros-behind (a ∷ l) r (suc k) h = zeros-behind l r k h

pub digit-less : (n c i k : ℕ) → 0 < n → get_or (digits n c i) k 0 < n
digit-less n c i k h = go (digits n c i) k (digits-below n c i h)
  where
    go : (l : List ℕ) (k : ℕ) → all_below n l ≡ true → get_or l k 0 < n
    go [] k e = h
    go (a ∷ l) zero e = ltb-true a n (and_left (ltb a n) (all_below n l) e)
    go (a ∷ l) (suc k) e = go l k (and_right (ltb a n) (all_below n l) e)

-- ===== tuple_count =====

pub power-room : {n c k p : ℕ} → Tupled n c → k < c → p ≡ n ^ k → p * n ≤ 16777216
power-room {n} {c} {k} {p} t h e =
    let few = t.few in
    let a : n ^ suc k ≤ 64 ^ suc k = pow-le-pow_left t.objects-few (suc k) in
    let b : 64 ^ suc k ≤ 64 ^ 4 = pow-le-pow_right (lit< tt) {i = suc k} {j = 4} (omega arith) in
    let q : p * n ≡ n ^ suc k = ap (λ x. x * n) e ∙ sym (pow-suc n k) in
    omega arith

pub power-on : (n k : ℕ) {p : ℕ} → p ≡ n ^ k → p * n ≡ n ^ (k + 1)
power-on n k {p} e = ap (λ x. x * n) e ∙ sym (pow-suc n k) ∙ ap (λ x. n ^ x) (sym (add-one k))
