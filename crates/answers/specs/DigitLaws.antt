-- The digits of a number read back as the number, and are a number as texts have it.
use Rattle.std.specs.Prelude.{ℕ, zero, suc, ◌+◌, ◌*◌, ◌-◌, ◌/◌, ◌%◌, ◌≤◌, ◌<◌, ◌≡◌, refl, Bool, true, false, cond, ◌||◌, not, List, [], ◌∷◌, ◌++◌, leb, eqb, length, get_or}
use Rattle.std.proofs.Common.{ap, ◌∙◌, arith, le-leb, leb-false, ne_eqb, length-append}
use Rattle.std.proofs.Math.Decide.{dec_lt}
use Rattle.std.proofs.lemmas.Bool.{lt-leb}
use Rattle.std.proofs.Math.ListN.{get_or-append}
use Rattle.words.specs.Bytes.{run, is_digit, decimal_from, decimal, over, value_of}
use Rattle.words.specs.Words.{IsNumber}
use Rattle.words.specs.WordLaws.{value-exact}
use Rattle.answers.specs.Digits.{digits_within, digits}

-- any count above the number will do
within-any : (m n v : ℕ) → v < m → v < n → digits_within m v ≡ digits_within n v
unfolding digits_within
within-any zero n v l h = absurd (omega arith)
within-any (suc m) zero v l h = absurd (omega arith)
within-any (suc m) (suc n) v l h = go (leb v 9) refl (λ (g : 9 < v). within-any m n (v / 10) (omega arith) (omega arith))
  where
    go : (b : Bool) → leb v 9 ≡ b → (9 < v → digits_within m (v / 10) ≡ digits_within n (v / 10))
        → cond b ((v + 48) ∷ []) (digits_within m (v / 10) ++ ((v % 10 + 48) ∷ []))
        ≡ cond b ((v + 48) ∷ []) (digits_within n (v / 10) ++ ((v % 10 + 48) ∷ []))
    go true e ih = refl
    go false e ih = ap (λ (x : List ℕ). x ++ ((v % 10 + 48) ∷ [])) (ih (leb-false v 9 e))

pub digits-one : (v : ℕ) → v ≤ 9 → digits v ≡ (v + 48) ∷ []
unfolding digits digits_within
digits-one v h = rw (le-leb v 9 h)

pub digits_more : (v : ℕ) → 9 < v → digits v ≡ digits (v / 10) ++ ((v % 10 + 48) ∷ [])
unfolding digits digits_within
digits_more v h =
    rw (lt-leb v 9 h) (ap (λ (x : List ℕ). x ++ ((v % 10 + 48) ∷ [])) (within-any v (suc (v / 10)) (v / 10) (omega arith) (omega arith)))

-- what holds of one digit, and of a number's digits where it holds of the digits but the last, holds of all digits
module _ (P : ℕ → List ℕ → Type 0)
    (one : (v : ℕ) → v ≤ 9 → P v ((v + 48) ∷ []))
    (more : (v : ℕ) → 9 < v → P (v / 10) (digits (v / 10)) → P v (digits (v / 10) ++ ((v % 10 + 48) ∷ []))) where
  by-digits-within : (n v : ℕ) → v < n → P v (digits v)
  by-digits-within zero v l = absurd (omega arith)
  by-digits-within (suc n) v l = go (dec_lt 9 v) (λ (g : 9 < v). by-digits-within n (v / 10) (omega arith))
    where
      go : Dec (9 < v) → (9 < v → P (v / 10) (digits (v / 10))) → P v (digits v)
      go (yes h) ih = rw (digits_more v h) (more v h (ih h))
      go (no h) ih = rw (digits-one v (omega arith)) (one v (omega arith))

  by_digits : (v : ℕ) → P v (digits v)
  by_digits v = by-digits-within (suc v) v (omega arith)

decimal-last : (v : ℕ) (s : List ℕ) (b : ℕ) → decimal_from v (s ++ (b ∷ [])) ≡ decimal_from v s * 10 + (b - 48)
unfolding decimal_from
decimal-last v [] b = refl
decimal-last v (a ∷ s) b = decimal-last (v * 10 + (a - 48)) s b

-- they read back as the number
pub digits-read : (v : ℕ) → decimal (digits v) ≡ v
unfolding decimal decimal_from
digits-read v =
    by_digits (λ v s. decimal s ≡ v) (λ v h. digit v h)
    (λ v h e. decimal-last 0 (digits (v / 10)) (v % 10 + 48) ∙ lowest v (decimal (digits (v / 10))) e)
    v
  where
    digit : (v : ℕ) → v ≤ 9 → decimal ((v + 48) ∷ []) ≡ v
    digit v h = omega arith

    lowest : (v x : ℕ) → x ≡ v / 10 → x * 10 + ((v % 10 + 48) - 48) ≡ v
    lowest v x e = omega arith

-- so a text reads it as the number, up to 10^18
pub digits_value : (v : ℕ) → v < over → value_of (digits v) ≡ v
digits_value v h = value-exact (digits v) (omega (arith, digits-read v)) ∙ digits-read v

is_digit_lem : (d : ℕ) → d ≤ 9 → is_digit (d + 48) ≡ true
unfolding is_digit
is_digit_lem d h = rw (le-leb 48 (d + 48) (omega arith), le-leb (d + 48) 57 (omega arith))

run-last : (s : List ℕ) (b : ℕ) → run is_digit s ≡ length s → is_digit b ≡ true → run is_digit (s ++ (b ∷ [])) ≡ length (s ++ (b ∷ []))
unfolding run
run-last [] b e h = rw h
run-last (a ∷ s) b e h = go (is_digit a) (λ (g : run is_digit s ≡ length s). run-last s b g h) e
  where
    go : (t : Bool) → (run is_digit s ≡ length s → run is_digit (s ++ (b ∷ [])) ≡ length (s ++ (b ∷ []))) → cond t (suc (run is_digit s)) 0 ≡ suc (length s)
        → cond t (suc (run is_digit (s ++ (b ∷ [])))) 0 ≡ suc (length (s ++ (b ∷ [])))
    go true ih e = ap suc (ih (omega arith))
    go false ih e = absurd (omega arith)

run-digits : (v : ℕ) → run is_digit (digits v) ≡ length (digits v)
unfolding run
run-digits v =
    by_digits (λ v s. run is_digit s ≡ length s) (λ v h. run-last [] (v + 48) refl (is_digit_lem v h))
    (λ v h e. run-last (digits (v / 10)) (v % 10 + 48) e (is_digit_lem (v % 10) (omega arith)))
    v

pub digits-some : (v : ℕ) → 0 < length (digits v)
digits-some v =
    by_digits (λ v s. 0 < length s) (λ v h. omega arith)
    (λ v h e. omega (arith, length-append (digits (v / 10)) ((v % 10 + 48) ∷ [])))
    v

-- the first digit of a number above 0 is above 0
first_above : (v : ℕ) → 0 < v → eqb (get_or (digits v) 0 0) 48 ≡ false
first_above v =
    by_digits (λ v s. 0 < v → eqb (get_or s 0 0) 48 ≡ false) (λ v h p. ne_eqb (v + 48) 48 (omega arith))
    (λ v h e p. rw (get_or-append (digits (v / 10)) ((v % 10 + 48) ∷ []) 0 0 (digits-some (v / 10))) (e (omega arith)))
    v

-- decimal without leading zeros
pub digits_number : (v : ℕ) → IsNumber (digits v)
digits_number v = (digits-some v, run-digits v, go (dec_lt 0 v))
  where
    go : Dec (0 < v) → (not (eqb (get_or (digits v) 0 0) 48) || eqb (length (digits v)) 1) ≡ true
    go (yes h) = rw (first_above v h)
    go (no h) = let e : v ≡ 0 = omega arith in rw (e, digits-one 0 (omega arith))

-- 10^n
unfoldable power : ℕ → ℕ
power zero = 1
power (suc n) = 10 * power n

short : (n v : ℕ) → v < 10 * power n → length (digits v) ≤ suc n
unfolding power
short zero v h = rw (digits-one v (omega arith)) (omega arith)
short (suc n) v h = go (dec_lt 9 v) (short n (v / 10) (omega arith))
  where
    go : Dec (9 < v) → length (digits (v / 10)) ≤ suc n → length (digits v) ≤ suc (suc n)
    go (yes g) ih = rw (digits_more v g) (omega (arith, length-append (digits (v / 10)) ((v % 10 + 48) ∷ [])))
    go (no g) ih = rw (digits-one v (omega arith)) (omega arith)

-- a machine word has at most 20 digits
pub digits-short : (v : ℕ) → v < 18446744073709551616 → length (digits v) ≤ 20
unfolding power
digits-short v h = short 19 v (omega arith)

-- and a byte at most 3
pub digits-byte : (v : ℕ) → v < 256 → length (digits v) ≤ 3
unfolding power
digits-byte v h = short 2 v (omega arith)
