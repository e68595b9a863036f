-- Eight bytes fit a word, and the loop from the last byte down.
use Prim.Native.Nat.{ℕ, zero, suc, ◌+◌, ◌*◌, ◌-◌, ◌<◌, ◌≤◌}
use mathlib.Core.Path.{◌≡◌, sym, ap, ◌∙◌}
use mathlib.Core.List.{List}
use native.Mathlib.Omega.{arith}
use lib.ListN.{length, get_or, take, drop, drop_of_length-le, length-drop}
use lib.Seq.{drop-cons, take_all}
use Rattle.words.specs.Keys.{little, key_of}
use Rattle.words.specs.declared.Key.{Key}

unfoldable pub pow : ℕ → ℕ
pow zero = 1
pow (suc k) = pow k * 256

pub pow-top : (k : ℕ) → k ≤ 7 → pow k ≤ 72057594037927936
unfolding pow
pow-top zero h = omega arith
pow-top (suc zero) h = omega arith
pow-top (suc (suc zero)) h = omega arith
pow-top (suc (suc (suc zero))) h = omega arith
pow-top (suc (suc (suc (suc zero)))) h = omega arith
pow-top (suc (suc (suc (suc (suc zero))))) h = omega arith
pow-top (suc (suc (suc (suc (suc (suc zero)))))) h = omega arith
pow-top (suc (suc (suc (suc (suc (suc (suc zero))))))) h = omega arith
pow-top (suc (suc (suc (suc (suc (suc (suc (suc k)))))))) h = absurd (omega arith)

-- what the loop knows when i bytes are left
pub record Part (s : List ℕ) (i v : ℕ) : Type 0 where
  pub within : i ≤ length s
  pub short : length s ≤ 8
  pub is : v ≡ little (drop i s)
  pub below : v < pow (length s - i)

pub part-fits : {s : List ℕ} {i v : ℕ} → Part s i v → 0 < i → v < 72057594037927936
part-fits {s} {i} {v} p h = omega (arith, p.below, p.within, p.short, pow-top (length s - i) (omega (arith, p.short, p.within)))

pub part-start : (s : List ℕ) → length s ≤ 8 → Part s (length s) 0
unfolding little pow
part-start s h = record {
  within = omega arith;
  short = h;
  is = sym (ap little (drop_of_length-le s {i = length s} (omega arith)));
  below = let e : length s - length s ≡ 0 = omega arith in rw e (omega arith);
}

pow-suc : (n i : ℕ) → 0 < i → i ≤ n → pow (n - (i - 1)) ≡ pow (n - i) * 256
unfolding pow
pow-suc n i h l = let e : n - (i - 1) ≡ suc (n - i) = omega arith in rw e

little-suc : (s : List ℕ) (j : ℕ) → j < length s → little (drop j s) ≡ get_or s j 0 + little (drop (suc j) s) * 256
unfolding little
little-suc s j h = rw (drop-cons s j 0 h)

pub part-more : {s : List ℕ} {i v b : ℕ} → Part s i v → 0 < i → b ≡ get_or s (i - 1) 0 → get_or s (i - 1) 0 < 256 → Part s (i - 1) (v * 256 + b)
part-more {s} {i} {v} {b} p h e l =
    let w = p.within in
    let q : suc (i - 1) ≡ i = omega arith in
    let d : little (drop (suc (i - 1)) s) ≡ v = rw q (sym p.is) in
    record {
      within = omega arith;
      short = p.short;
      is = rw (little-suc s (i - 1) (omega arith), d) (omega arith);
      below = omega (arith, p.below, pow-suc (length s) i h w);
    }

key-eq : (x y : Key) → x.a ≡ y.a → x.b ≡ y.b → x ≡ y
key-eq x y p q = λ i. record { a = p i; b = q i }

pub key-short : (s : List ℕ) {a : ℕ} → length s ≤ 8 → a ≡ little s → record { a = a; b = 0 } ≡ key_of s
unfolding key_of little
key-short s {a} h e = key-eq _ _ (e ∙ sym (ap little (take_all 8 s h))) (sym (ap little (drop_of_length-le s h)))

pub key-long : (s : List ℕ) {a b : ℕ} → a ≡ little (take 8 s) → b ≡ little (take (length s - 8) (drop 8 s)) → record { a = a; b = b } ≡ key_of s
unfolding key_of
key-long s {a} {b} e f = key-eq _ _ e (f ∙ ap little (take_all (length s - 8) (drop 8 s) (omega (arith, length-drop 8 s))))
