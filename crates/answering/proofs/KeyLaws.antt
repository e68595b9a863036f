-- Laws of the name of a key written as bytes.
use mathlib.Core.Path.{◌≡◌, refl, ap, ◌∙◌}
use mathlib.Core.Bool.{Bool, true, false, cond}
use mathlib.Core.List.{List, [], ◌∷◌, ◌++◌}
use Prim.Native.Nat.{ℕ, zero, suc, ◌+◌, ◌-◌, ◌/◌, ◌%◌, ◌≤◌, ◌<◌}
use native.Mathlib.Omega.{arith}
use lib.ListN.{length, set, length-set, length-append}
use lib.Dec.{eqb}
use borrow.Author.Tests.{ne_eqb}
use Rattle.words.specs.declared.Key.{Key}
use Rattle.words.specs.Keys.{bytes_within, name_of}
use Rattle.answering.specs.Wrote.{Wrote}
use Rattle.answering.proofs.WriteLaws.{wrote_nothing, wrote_then, one_byte}

-- the bytes that a number is made of

within_none : (left : ℕ) → bytes_within left 0 ≡ []
unfolding bytes_within
within_none zero = refl
within_none (suc left) = refl

within_more : (left m : ℕ) → (left ≡ 0 → ⊥) → (m ≡ 0 → ⊥) → bytes_within left m ≡ (m % 256 ∷ []) ++ bytes_within (left - 1) (m / 256)
unfolding bytes_within
within_more zero m h e = absurd (h refl)
within_more (suc left) m h e = let p : suc left - 1 ≡ left = omega arith in rw (p, ne_eqb m 0 e)

within-short : (left m : ℕ) → length (bytes_within left m) ≤ left
unfolding bytes_within
within-short zero m = omega arith
within-short (suc left) m = go (eqb m 0) (within-short left (m / 256))
  where
    go : (b : Bool) → length (bytes_within left (m / 256)) ≤ left → length (cond b [] (m % 256 ∷ bytes_within left (m / 256))) ≤ suc left
    go true h = omega arith
    go false h = omega arith

pub little-end : (s : List ℕ) (place : ℕ) {left : ℕ} (m : ℕ) → left ≡ 0 → Wrote s place (bytes_within left m) place s
unfolding bytes_within
little-end s place m e = rw e (wrote_nothing s place)

pub little-none : (s : List ℕ) (place left : ℕ) {m : ℕ} → m ≡ 0 → Wrote s place (bytes_within left m) place s
little-none s place left e = rw (e, within_none left) (wrote_nothing s place)

module _ (s : List ℕ) (place left m : ℕ) (room : place + length (bytes_within left m) ≤ length s) (h : left ≡ 0 → ⊥) (e : m ≡ 0 → ⊥) where
  pub little-first : place < length s
  little-first = let p = ap length (within_more left m h e) in omega arith

  pub little-room : place + 1 + length (bytes_within (left - 1) (m / 256)) ≤ length (set s place (m % 256))
  little-room = let p = ap length (within_more left m h e) in omega (arith, length-set s place (m % 256))

  pub little-more : {s' : List ℕ} {r : ℕ} → Wrote (set s place (m % 256)) (place + 1) (bytes_within (left - 1) (m / 256)) r s'
      → Wrote s place (bytes_within left m) r s'
  little-more p = rw (within_more left m h e) (wrote_then (omega (arith, little-first)) (one_byte s place (m % 256) little-first) p)

pub same_set : (s s' : List ℕ) (i b : ℕ) → length s' ≡ length (set s i b) → length s' ≡ length s
same_set s s' i b e = e ∙ length-set s i b

-- the name of a key

pub name-short : (k : Key) → length (name_of k) ≤ 15
unfolding name_of
name-short k = omega (arith, length-append (bytes_within 8 k.a) (bytes_within 7 k.b), within-short 8 k.a, within-short 7 k.b)

module _ (s : List ℕ) (place : ℕ) (k : Key) (room : place + length (name_of k) ≤ length s) where
  key-length : length (name_of k) ≡ length (bytes_within 8 k.a) + length (bytes_within 7 k.b)
  unfolding name_of
  key-length = length-append (bytes_within 8 k.a) (bytes_within 7 k.b)

  pub key-first : place + length (bytes_within 8 k.a) ≤ length s
  key-first = omega (arith, key-length)

  module _ {s₁ : List ℕ} {q : ℕ} (x : Wrote s place (bytes_within 8 k.a) q s₁) where
    pub key-next : length s₁ ≡ length s → q + length (bytes_within 7 k.b) ≤ length s₁
    key-next e = omega (arith, key-length, x.behind)

    pub key-whole : {s₂ : List ℕ} {r : ℕ} → Wrote s₁ q (bytes_within 7 k.b) r s₂ → Wrote s place (name_of k) r s₂
    unfolding name_of
    key-whole y = wrote_then (omega (arith, key-first, x.behind)) x y
