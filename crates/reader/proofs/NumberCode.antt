-- What the code that numbers a reward's variables needs to know.
use Prim.Native.Nat.{ℕ, zero, suc, ◌+◌, ◌-◌, ◌*◌, ◌/◌, ◌%◌, ◌≤◌, ◌<◌}
use Rattle.std.specs.Option.{unwrap_or}
use mathlib.Core.Path.{◌≡◌, refl, sym, ap, ap₂, ◌∙◌, subst}
use mathlib.Core.Bool.{Bool, true, false, cond}
use mathlib.Core.List.{List, [], ◌∷◌, ◌++◌, append-nil, append_assoc}
use native.Mathlib.Omega.{arith}
use borrow.Author.Tests.{lt-ltb, le-ltb, eq-eqb, ne_eqb, eqb-true, eqb-false}
use lib.Dec.{eqb}
use lib.ListN.{length, get_or, take, drop, set, length-set, length-append, length-drop, take-append-drop}
use lib.Seq.{take-suc-set, take_all, drop-cons, drop-length, drop-set-lt, length-take-le, ext_get_or, get_or-set_same, get_or-set_other}
use Rattle.basics.specs.Tests.{Flag, is_true, is_false, flag, Cmp, below, equal, above, cmp}
use Rattle.words.specs.Bytes.{is_digit, run, decimal_from, decimal, over, value_of}
use Rattle.words.specs.ByteLaws.{digit-range}
use Rattle.words.specs.Words.{number_form}
use Rattle.words.specs.WordLaws.{number-inv, value-exact}
use Rattle.words.specs.Keys.{bytes_within, name_of}
use Rattle.words.specs.declared.Key.{Key}
use Rattle.names.specs.ManyLaws.{get_d-many}
use Rattle.names.specs.Inner.{put_key}
use Rattle.names.specs.Keys.{key_at, keys_at}
use Rattle.names.specs.KeyLaws.{key-ext, length-keys, keys-more, length-put}
use Rattle.reading.specs.Numbering.{takes, is_numbered, number_of}
use Rattle.reader.specs.declared.Pair.{Pair}
use Rattle.reader.specs.Gathering.{whole_number, numbered_as, paired, moved, Spelt, Insertable}
use Rattle.reader.specs.Callers.{Part, Meets}
use Rattle.std.specs.Prelude.{Option}
use Rattle.std.specs.Prelude.{Some, None}

-- ===== The bytes of a key =====

-- the bytes written so far, and those still to come
pub record Spelling (out₀ : List ℕ) (at m left : ℕ) (out : List ℕ) (i rest : ℕ) : Type 0 where
  pub within : i ≤ left
  pub size : length out ≡ length out₀
  pub still : take (at + i) out ++ bytes_within (left - i) rest ≡ take at out₀ ++ bytes_within left m

no_bytes : (left : ℕ) → bytes_within left 0 ≡ []
unfolding bytes_within
no_bytes zero = refl
no_bytes (suc left) = refl

bytes-first : (left m : ℕ) → (m ≡ 0 → ⊥) → bytes_within (suc left) m ≡ m % 256 ∷ bytes_within left (m / 256)
unfolding bytes_within
bytes-first left m f = rw (ne_eqb m 0 f)

bytes-length : (left m : ℕ) → length (bytes_within left m) ≤ left
unfolding bytes_within
bytes-length zero m = omega arith
bytes-length (suc left) m = go (eqb m 0) (bytes-length left (m / 256))
  where
    go : (b : Bool) → length (bytes_within left (m / 256)) ≤ left → length (cond b [] (m % 256 ∷ bytes_within left (m / 256))) ≤ suc left
    go true h = omega arith
    go false h = omega arith

spelt : (out₀ : List ℕ) (at left : ℕ) (out bytes : List ℕ) (r : ℕ) → at + left ≤ length out₀ → r ≤ length out → take r out ≡ take at out₀ ++ bytes → Spelt out₀ at bytes r out
spelt out₀ at left out bytes r h l e = record {
  place = sym (length-take-le r out l) ∙ ap length e ∙ length-append (take at out₀) bytes ∙ ap (λ (n : ℕ). n + length bytes) (length-take-le at out₀ (omega arith));
  words = e;
}

module _ {out₀ : List ℕ} {at m left : ℕ} where
  pub spell-start : Spelling out₀ at m left out₀ 0 m
  spell-start =
      let p : at + 0 ≡ at = omega arith in
      let q : left - 0 ≡ left = omega arith in
      record { within = omega arith; size = refl; still = ap₂ (λ (x y : ℕ). take x out₀ ++ bytes_within y m) p q }

  module _ {out : List ℕ} {i rest : ℕ} (h : at + left ≤ length out₀) (s : Spelling out₀ at m left out i rest) where
    ended : bytes_within (left - i) rest ≡ [] → Spelt out₀ at (bytes_within left m) (at + i) out
    ended e =
        spelt out₀ at left out (bytes_within left m) (at + i) h (omega (arith, s.within, s.size))
        (sym (append-nil (take (at + i) out)) ∙ ap (λ (b : List ℕ). take (at + i) out ++ b) (sym e) ∙ s.still)

    pub spell-zero : rest ≡ 0 → Spelt out₀ at (bytes_within left m) (at + i) out
    spell-zero e = ended (ap (bytes_within (left - i)) e ∙ no_bytes (left - i))

    pub spell-end : left ≤ i → Spelt out₀ at (bytes_within left m) (at + left) out
    unfolding bytes_within
    spell-end l =
        let z : left - i ≡ 0 = omega arith in
        let e : at + i ≡ at + left = omega (arith, s.within) in
        subst (λ (r : ℕ). Spelt out₀ at (bytes_within left m) r out) e (ended (ap (λ (n : ℕ). bytes_within n rest) z))

    pub spell-more : i < left → (rest ≡ 0 → ⊥) → Spelling out₀ at m left (set out (at + i) (rest % 256)) (i + 1) (rest / 256)
    spell-more l f =
        let b : ℕ = rest % 256 in
        let n : ℕ = left - (i + 1) in
        let behind : List ℕ = bytes_within n (rest / 256) in
        let p : at + (i + 1) ≡ suc (at + i) = omega arith in
        let q : suc n ≡ left - i = omega arith in
        record {
          within = omega arith;
          size = length-set out (at + i) b ∙ s.size;
          still =
              ap (λ (x : ℕ). take x (set out (at + i) b) ++ behind) p
              ∙ ap (λ (x : List ℕ). x ++ behind) (take-suc-set out (at + i) b (omega (arith, s.size)))
              ∙ append_assoc (take (at + i) out) (b ∷ []) behind
              ∙ ap (λ (x : List ℕ). take (at + i) out ++ x) (sym (bytes-first n rest f))
              ∙ ap (λ (x : ℕ). take (at + i) out ++ bytes_within x rest) q
              ∙ s.still;
        }

-- ===== The number of a name =====

-- no more than n digits behind v
unfoldable most : ℕ → ℕ → ℕ
most zero v = v
most (suc n) v = most n (v * 10 + 9)

most-above : (n v w : ℕ) → v ≤ w → v ≤ most n w
unfolding most
most-above zero v w h = h
most-above (suc n) v w h = most-above n v (w * 10 + 9) (omega arith)

decimal-most : (n : ℕ) (s : List ℕ) (v w : ℕ) → v ≤ w → run is_digit s ≡ length s → length s ≤ n → decimal_from v s ≤ most n w
unfolding decimal_from run most
decimal-most n [] v w h e l = most-above n v w h
decimal-most zero (b ∷ s) v w h e l = absurd (omega arith)
decimal-most (suc n) (b ∷ s) v w h e l =
    go (flag (is_digit b)) (λ (g : v * 10 + (b - 48) ≤ w * 10 + 9) (d : run is_digit s ≡ length s). decimal-most n s (v * 10 + (b - 48)) (w * 10 + 9) g d (omega arith))
  where
    go : Flag (is_digit b) → (v * 10 + (b - 48) ≤ w * 10 + 9 → run is_digit s ≡ length s → decimal_from (v * 10 + (b - 48)) s ≤ most n (w * 10 + 9))
        → decimal_from (v * 10 + (b - 48)) s ≤ most n (w * 10 + 9)
    go (is_true d) ih =
        let r = digit-range b d in
        let q : suc (run is_digit s) ≡ suc (length s) = rw d at e in
        ih (omega (arith, r)) (omega arith)
    go (is_false d) ih = let q : 0 ≡ suc (length s) = rw d at e in absurd (omega arith)

most-few : most 14 0 < over
unfolding most
most-few = omega arith

digits-exact : (s : List ℕ) → run is_digit s ≡ length s → length s ≤ 14 → value_of s ≡ decimal s
unfolding decimal
digits-exact s e l = value-exact s (omega (arith, decimal-most 14 s 0 0 (omega arith) e l, most-few))

module _ (s : List ℕ) {t : Option ℕ} (q : t ≡ number_form s) where
  pub whole-none : t ≡ None → None ≡ whole_number s
  whole-none e = rw (← q, e)

  module _ {n : ℕ} (e : t ≡ Some n) where
    pub whole-short : (n ≡ length s → ⊥) → None ≡ whole_number s
    whole-short f = rw (← q, e, ne_eqb n (length s) f)

    module _ (w : n ≡ length s) where
      pub whole-digits : run is_digit s ≡ length s
      whole-digits = sym (number-inv s (sym q ∙ e)).1 ∙ w

      pub whole-all : {v : ℕ} → length s ≤ 14 → v ≡ value_of s → Some v ≡ whole_number s
      whole-all l p = rw (← q, e, eq-eqb n (length s) w) (ap Some (p ∙ digits-exact s whole-digits l))

module _ (s : List ℕ) {b : ℕ} (q : b ≡ get_or s 0 0) where
  pub name-other : (b ≡ 118 → ⊥) → None ≡ numbered_as s
  unfolding is_numbered
  name-other f = rw (ne_eqb (get_or s 0 0) 118 (λ (e : get_or s 0 0 ≡ 118). f (q ∙ e)))

  pub name-whole : b ≡ 118 → {w : List ℕ} {r : Option ℕ} → w ≡ drop 1 s → r ≡ whole_number w → r ≡ numbered_as s
  unfolding is_numbered number_of
  name-whole e p g = g ∙ ap whole_number p ∙ rw (eq-eqb (get_or s 0 0) 118 (sym q ∙ e)) (go (takes (length (drop 1 s)) (number_form (drop 1 s))))
    where
      go : (x : Bool) → cond x (Some (decimal (drop 1 s))) None ≡ cond x (Some (cond x (decimal (drop 1 s)) 0)) None
      go true = refl
      go false = refl

pub rest-short : (s : List ℕ) {w : List ℕ} → length s ≤ 15 → w ≡ drop 1 s → length w ≤ 14
rest-short s h e = omega (arith, ap length e, length-drop 1 s)

module _ (k : Key) {out₀ out₁ : List ℕ} {m : ℕ} (x : Spelt out₀ 0 (bytes_within 8 k.a) m out₁) (l : length out₁ ≡ 15) where
  pub middle-room : m + 7 ≤ length out₁
  middle-room = omega (arith, x.place, bytes-length 8 k.a)

  module _ {out₂ : List ℕ} {e : ℕ} (y : Spelt out₁ m (bytes_within 7 k.b) e out₂) (n : length out₂ ≡ length out₁) where
    pub end-room : e ≤ length out₂
    end-room = omega (arith, x.place, y.place, bytes-length 8 k.a, bytes-length 7 k.b)

    pub name-taken : e ≡ length (take e out₂)
    name-taken = sym (length-take-le e out₂ end-room)

    pub name-short : length (take e out₂) ≤ 15
    name-short = omega (arith, name-taken, end-room)

    spelt-name : take e out₂ ≡ name_of k
    unfolding name_of
    spelt-name = y.words ∙ ap (λ (s : List ℕ). s ++ bytes_within 7 k.b) x.words

    pub key-number : {r : Option ℕ} → r ≡ numbered_as (take e out₂) → r ≡ numbered_as (name_of k)
    key-number q = q ∙ ap numbered_as spelt-name

module _ (s : List ℕ) {t : Option ℕ} (q : t ≡ numbered_as s) where
  pub order-number : {n : ℕ} → t ≡ Some n → n ≡ number_of s
  order-number {n} e = go (is_numbered s) (sym e ∙ q)
    where
      go : (b : Bool) → Some n ≡ cond b (Some (number_of s)) None → n ≡ number_of s
      go true z = cc
      go false z = let y : ◌≡◌ {A = ℕ} 0 1 = cc in absurd (omega arith)

  pub order_is : {n : ℕ} → t ≡ Some n → is_numbered s ≡ true
  order_is {n} e = go (is_numbered s) (sym e ∙ q)
    where
      go : (b : Bool) → Some n ≡ cond b (Some (number_of s)) None → b ≡ true
      go true z = refl
      go false z = let y : ◌≡◌ {A = ℕ} 0 1 = cc in absurd (omega arith)

  pub order-not : t ≡ None → is_numbered s ≡ false
  order-not e = go (is_numbered s) (sym e ∙ q)
    where
      go : (b : Bool) → None ≡ cond b (Some (number_of s)) None → b ≡ false
      go true z = let y : ◌≡◌ {A = ℕ} 0 1 = cc in absurd (omega arith)
      go false z = refl

  pub order_other : t ≡ None → 0 ≡ number_of s
  unfolding number_of
  order_other e = rw (order-not e)

  pub order-is : {v : ℕ} → v ≡ unwrap_or t 0 → v ≡ number_of s
  order-is e = e ∙ go t refl
    where
      go : (o : Option ℕ) → t ≡ o → unwrap_or o 0 ≡ number_of s
      go (Some n) i = order-number i
      go None i = order_other i

-- ===== Sorted in =====

pub pair-less : (x : Key) (n : ℕ) (y : Key) (m : ℕ) → n < m → record { low = x; high = y; order = m } ≡ paired x n y m
pair-less x n y m h = rw (lt-ltb n m h)

pub pair-more : (x : Key) (n : ℕ) (y : Key) (m : ℕ) → m ≤ n → record { low = y; high = x; order = n } ≡ paired x n y m
pair-more x n y m h = rw (le-ltb n m h)

-- the places before i are passed, and the variable carried is sorted in among the others
pub record Inserting (vs₀ : List ℕ) (count : ℕ) (k : Key) (vs : List ℕ) (i : ℕ) (carried : Key) (n : ℕ) : Type 0 where
  pub within : i ≤ count
  pub size : length vs ≡ length vs₀
  pub number : n ≡ number_of (name_of carried)
  pub still : moved k (keys_at vs₀ 0 count) ≡ take i (keys_at vs 0 count) ++ moved carried (drop i (keys_at vs 0 count))

key-there : (vs : List ℕ) (n i : ℕ) (d : Key) → i < n → get_or (keys_at vs 0 n) i d ≡ key_at vs 0 i
unfolding keys_at
key-there vs n i d h = get_d-many (key_at vs 0) d n i h

key-put-same : (vs : List ℕ) (i : ℕ) (k : Key) → i * 2 + 2 ≤ length vs → key_at (put_key vs (i * 2) k) 0 i ≡ k
unfolding put_key key_at
key-put-same vs i k h =
    let t : List ℕ = set vs (i * 2) k.a in
    key-ext _ _
    (get_or-set_other t (i * 2 + 1) (0 + i * 2) k.b 0 (λ e. omega arith) ∙ ap (λ (j : ℕ). get_or t j 0) (omega arith) ∙ get_or-set_same vs (i * 2) k.a 0 (omega arith))
    (ap (λ (j : ℕ). get_or (set t (i * 2 + 1) k.b) j 0) (omega arith) ∙ get_or-set_same t (i * 2 + 1) k.b 0 (rw length-set (omega arith)))

key-put-other : (vs : List ℕ) (i : ℕ) (k : Key) (j : ℕ) → (j ≡ i → ⊥) → key_at (put_key vs (i * 2) k) 0 j ≡ key_at vs 0 j
unfolding put_key key_at
key-put-other vs i k j f =
    let t : List ℕ = set vs (i * 2) k.a in
    key-ext _ _
    (get_or-set_other t (i * 2 + 1) (0 + j * 2) k.b 0 (λ e. omega arith) ∙ get_or-set_other vs (i * 2) (0 + j * 2) k.a 0 (λ e. f (omega arith)))
    (get_or-set_other t (i * 2 + 1) (0 + j * 2 + 1) k.b 0 (λ e. f (omega arith)) ∙ get_or-set_other vs (i * 2) (0 + j * 2 + 1) k.a 0 (λ e. omega arith))

-- a key put at a place of the table
keys-put : (vs : List ℕ) (n i : ℕ) (k : Key) → i < n → n * 2 ≤ length vs → keys_at (put_key vs (i * 2) k) 0 n ≡ set (keys_at vs 0 n) i k
keys-put vs n i k h l =
    ext_get_or k (keys_at (put_key vs (i * 2) k) 0 n) (set (keys_at vs 0 n) i k) (length-keys (put_key vs (i * 2) k) 0 n ∙ sym (length-set (keys_at vs 0 n) i k ∙ length-keys vs 0 n)) (λ j m.
    let w : j < n = omega (arith, length-keys (put_key vs (i * 2) k) 0 n) in
    key-there (put_key vs (i * 2) k) n j k w ∙ go j w (flag (eqb j i)))
  where
    go : (j : ℕ) → j < n → Flag (eqb j i) → key_at (put_key vs (i * 2) k) 0 j ≡ get_or (set (keys_at vs 0 n) i k) j k
    go j w (is_true e) =
        let z : j ≡ i = eqb-true j i e in
        ap (key_at (put_key vs (i * 2) k) 0) z
        ∙ key-put-same vs i k (omega arith)
        ∙ sym (get_or-set_same (keys_at vs 0 n) i k k (omega (arith, length-keys vs 0 n)))
        ∙ ap (λ (x : ℕ). get_or (set (keys_at vs 0 n) i k) x k) (sym z)
    go j w (is_false e) =
        let z : j ≡ i → ⊥ = eqb-false j i e in
        key-put-other vs i k j z ∙ sym (key-there vs n j k w) ∙ sym (get_or-set_other (keys_at vs 0 n) i j k k z)

module _ {vs₀ : List ℕ} {count : ℕ} {k : Key} {number : ℕ} (g : Insertable vs₀ count k number) where
  pub insert-start : Inserting vs₀ count k vs₀ 0 k number
  insert-start = record { within = omega arith; size = refl; number = g.number; still = refl }

  module _ {vs : List ℕ} {i n : ℕ} {carried : Key} (s : Inserting vs₀ count k vs i carried n) where
    abbrev K : List Key
    K = keys_at vs 0 count

    table : Part vs count
    table = record { words = omega (arith, s.size, g.table.words); within = g.table.within }

    whole : take i K ++ drop i K ≡ K
    whole = take-append-drop i K

    pub insert-end : count ≤ i → {vs' : List ℕ} → vs' ≡ put_key vs (count * 2) carried → Meets (moved k (keys_at vs₀ 0 count)) (count + 1) vs'
    unfolding moved
    insert-end l {vs'} e =
        let z : vs' ≡ put_key vs (0 + count * 2) carried = e ∙ ap (λ (j : ℕ). put_key vs j carried) (omega arith) in
        let o : i ≡ length K = omega (arith, s.within, length-keys vs 0 count) in
        let none : drop i K ≡ [] = ap (λ (j : ℕ). drop j K) o ∙ drop-length K in
        rw z (record {
          variables =
              keys-more vs 0 count carried (omega (arith, g.room, g.table.words, s.size))
              ∙ ap (λ (x : List Key). x ++ (carried ∷ [])) (sym (take_all i K (omega arith)))
              ∙ ap (λ (x : List Key). take i K ++ moved carried x) (sym none)
              ∙ sym s.still;
          table = record { words = rw (length-put vs (0 + count * 2) carried) table.words; within = omega (arith, g.room) };
        })

    module _ (l : i < count) {x : Key} {m : ℕ} (p : x ≡ key_at vs 0 i) (q : m ≡ number_of (name_of x)) where
      first : drop i K ≡ x ∷ drop (suc i) K
      first = drop-cons K i x (omega (arith, length-keys vs 0 count)) ∙ ap (λ (y : Key). y ∷ drop (suc i) K) (key-there vs count i x l ∙ sym p)

      pub insert-same : n ≡ m → Meets (moved k (keys_at vs₀ 0 count)) count vs
      unfolding moved
      insert-same e = record {
        variables =
            sym whole
            ∙ ap (λ (y : List Key). take i K ++ y) (first ∙ sym (moved_same carried x (drop (suc i) K) (sym s.number ∙ e ∙ q)) ∙ ap (moved carried) (sym first))
            ∙ sym s.still;
        table = table;
      }
        where
          moved_same : (a b : Key) (xs : List Key) → number_of (name_of a) ≡ number_of (name_of b) → moved a (b ∷ xs) ≡ b ∷ xs
          moved_same a b xs h = rw (le-ltb (number_of (name_of a)) (number_of (name_of b)) (omega arith), eq-eqb (number_of (name_of a)) (number_of (name_of b)) h)

      pub insert-more : (n ≡ m → ⊥) → {r : Pair} → r ≡ paired carried n x m → {vs' : List ℕ} → vs' ≡ put_key vs (i * 2) r.low
          → Inserting vs₀ count k vs' (i + 1) r.high r.order
      unfolding moved
      insert-more f {r} e {vs'} w = go (cmp n m)
        where
          xs : List Key
          xs = drop (suc i) K

          same_size : length vs' ≡ length vs₀
          same_size = ap length w ∙ length-put vs (i * 2) r.low ∙ s.size

          keys : keys_at vs' 0 count ≡ set K i r.low
          keys = ap (λ (y : List ℕ). keys_at y 0 count) w ∙ keys-put vs count i r.low l (omega (arith, table.words, g.room))

          step : moved carried (x ∷ xs) ≡ r.low ∷ moved r.high xs
              → moved k (keys_at vs₀ 0 count) ≡ take (i + 1) (keys_at vs' 0 count) ++ moved r.high (drop (i + 1) (keys_at vs' 0 count))
          step h =
              let o : i + 1 ≡ suc i = omega arith in
              s.still
              ∙ ap (λ (y : List Key). take i K ++ moved carried y) first
              ∙ ap (λ (y : List Key). take i K ++ y) h
              ∙ sym (append_assoc (take i K) (r.low ∷ []) (moved r.high xs))
              ∙ ap (λ (y : List Key). y ++ moved r.high xs) (sym (take-suc-set K i r.low (omega (arith, length-keys vs 0 count))))
              ∙ ap (λ (y : List Key). take (suc i) (set K i r.low) ++ moved r.high y) (sym (drop-set-lt (suc i) K i r.low (omega arith)))
              ∙ ap₂ (λ (j : ℕ) (y : List Key). take j y ++ moved r.high (drop j y)) (sym o) (sym keys)

          made : moved carried (x ∷ xs) ≡ r.low ∷ moved r.high xs → r.order ≡ number_of (name_of r.high) → Inserting vs₀ count k vs' (i + 1) r.high r.order
          made h o = record { within = omega arith; size = same_size; number = o; still = step h }

          go : Cmp n m → Inserting vs₀ count k vs' (i + 1) r.high r.order
          go (below h) =
              let y : r ≡ record { low = carried; high = x; order = m } = e ∙ sym (pair-less carried n x m h) in
              made (rw (y, lt-ltb (number_of (name_of carried)) (number_of (name_of x)) (omega (arith, s.number, q)))) (rw y q)
          go (equal h) = absurd (f h)
          go (above h) =
              let y : r ≡ record { low = x; high = carried; order = n } = e ∙ sym (pair-more carried n x m (omega arith)) in
              made (rw (
                y,
                le-ltb (number_of (name_of carried)) (number_of (name_of x)) (omega (arith, s.number, q)),
                ne_eqb (number_of (name_of carried)) (number_of (name_of x)) (λ (z : number_of (name_of carried) ≡ number_of (name_of x)). f (s.number ∙ z ∙ sym q)),
              )) (rw y s.number)
