-- Laws of runs of bytes, of parts and of values of digits.
use Rattle.std.specs.Prelude.{◌≡◌, refl, List, [], ◌∷◌, ◌++◌, Bool, true, false, leb, ℕ, zero, suc, ◌+◌, ◌-◌, ◌*◌, ◌≤◌, ◌<◌, length, get_or, take, drop}
use Rattle.std.proofs.Common.{sym, ◌∙◌, leb-true, add-one, arith, drop_of_length-le, length-drop, take-suc, take_all}
use Rattle.std.proofs.Math.Path.{ap}
use Rattle.std.proofs.Math.Bool.{cond}
use Rattle.std.proofs.lemmas.Bool.{false≢true}
use Rattle.std.proofs.Math.ListN.{get_or-eq_default}
use Rattle.std.proofs.Math.Seq.{drop-cons}
use Rattle.std.proofs.Math.Decide.{dec_lt}
use Rattle.basics.specs.Tests.{and_left, and_right, Either, either}
use Rattle.basics.specs.Tests.Either.{one, other}
use Rattle.words.specs.Bytes.{run, is_letter, is_digit, is_name_byte, decimal_from, decimal}

-- `&s[i..]` is `drop i s`
pub part-tail : (i : ℕ) (s : List ℕ) → take (length s - i) (drop i s) ≡ drop i s
part-tail i s = take_all (length s - i) (drop i s) (omega (arith, length-drop i s))

-- a byte that is not 0 is within the bytes
pub inside : (s : List ℕ) (i b : ℕ) → get_or s i 0 ≡ b → 0 < b → i < length s
inside s i b e h = go (dec_lt i (length s))
  where
    go : Dec (i < length s) → i < length s
    go (yes l) = l
    go (no f) = let z : length s ≤ i = omega arith in let g = get_or-eq_default s 0 z in absurd (omega arith)

module _ (p : ℕ → Bool) (s : List ℕ) (i : ℕ) where
  pub run_more : i < length s → p (get_or s i 0) ≡ true → run p (drop i s) ≡ suc (run p (drop (i + 1) s))
  unfolding run
  run_more h e = rw (add-one, drop-cons s i 0 h) (ap (λ (b : Bool). cond b (suc (run p (drop (suc i) s))) 0) e)

  pub run-stop : i < length s → p (get_or s i 0) ≡ false → run p (drop i s) ≡ 0
  unfolding run
  run-stop h e = rw (drop-cons s i 0 h) (ap (λ (b : Bool). cond b (suc (run p (drop (suc i) s))) 0) e)

  pub run_end : length s ≤ i → run p (drop i s) ≡ 0
  unfolding run
  run_end h = ap (run p) (drop_of_length-le s h)

-- each byte that a run passes is of the run's kind
pub run_at : (p : ℕ → Bool) (s : List ℕ) (k : ℕ) → k < run p s → p (get_or s k 0) ≡ true
unfolding run
run_at p [] k h = absurd (omega arith)
run_at p (b ∷ s) zero h = go (p b) refl h
  where
    go : (t : Bool) → p b ≡ t → zero < cond t (suc (run p s)) 0 → p b ≡ true
    go true e h = e
    go false e h = absurd (omega arith)
run_at p (b ∷ s) (suc k) h = go (p b) (run_at p s k) h
  where
    go : (t : Bool) → (k < run p s → p (get_or s k 0) ≡ true) → suc k < cond t (suc (run p s)) 0 → p (get_or s k 0) ≡ true
    go true ih h = ih (omega arith)
    go false ih h = absurd (omega arith)

pub run-le : (p : ℕ → Bool) (s : List ℕ) → run p s ≤ length s
unfolding run
run-le p [] = omega arith
run-le p (b ∷ s) = go (p b) (run-le p s)
  where
    go : (t : Bool) → run p s ≤ length s → cond t (suc (run p s)) 0 ≤ suc (length s)
    go true h = omega arith
    go false h = omega arith

-- the part that a run passes is a run itself
pub run_take : (p : ℕ → Bool) (s : List ℕ) → run p (take (run p s) s) ≡ length (take (run p s) s)
unfolding run
run_take p [] = refl
run_take p (b ∷ s) = go (p b) refl (run_take p s)
  where
    go : (t : Bool) → p b ≡ t → run p (take (run p s) s) ≡ length (take (run p s) s)
        → run p (take (cond t (suc (run p s)) 0) (b ∷ s)) ≡ length (take (cond t (suc (run p s)) 0) (b ∷ s))
    go true e ih = rw e (ap suc ih)
    go false e ih = refl

-- a run ends where the next byte is of another kind
pub run-zero : (p : ℕ → Bool) (q : List ℕ) → p (get_or q 0 0) ≡ false → run p q ≡ 0
unfolding run
run-zero p [] h = refl
run-zero p (b ∷ q) h = rw h

pub run-append : (p : ℕ → Bool) (n q : List ℕ) → run p n ≡ length n → p (get_or q 0 0) ≡ false → run p (n ++ q) ≡ length n
unfolding run
run-append p [] q e h = run-zero p q h
run-append p (b ∷ n) q e h = go (p b) (λ g. run-append p n q g h) e
  where
    go : (t : Bool) → (run p n ≡ length n → run p (n ++ q) ≡ length n) → cond t (suc (run p n)) 0 ≡ suc (length n)
        → cond t (suc (run p (n ++ q))) 0 ≡ suc (length n)
    go true ih e = ap suc (ih (omega arith))
    go false ih e = absurd (omega arith)

pub run-pos : (p : ℕ → Bool) (s : List ℕ) → p 0 ≡ false → p (get_or s 0 0) ≡ true → 0 < run p s
unfolding run
run-pos p [] h e = absurd (false≢true (sym h ∙ e))
run-pos p (b ∷ s) h e = rw e (omega arith)

pub digit-range : (b : ℕ) → is_digit b ≡ true → (48 ≤ b) × (b ≤ 57)
unfolding is_digit
digit-range b e =
    (leb-true 48 b (and_left (leb 48 b) (leb b 57) e), leb-true b 57 (and_right (leb 48 b) (leb b 57) e))

pub letter-range : (b : ℕ) → is_letter b ≡ true → (97 ≤ b) × (b ≤ 122)
unfolding is_letter
letter-range b e =
    (leb-true 97 b (and_left (leb 97 b) (leb b 122) e), leb-true b 122 (and_right (leb 97 b) (leb b 122) e))

pub name-range : (b : ℕ) → is_name_byte b ≡ true → (48 ≤ b) × (b ≤ 122)
unfolding is_name_byte
name-range b e = go (either (is_letter b) (is_digit b) e)
  where
    go : Either (is_letter b) (is_digit b) → (48 ≤ b) × (b ≤ 122)
    go (one h) = omega (arith, letter-range b h)
    go (other h) = omega (arith, digit-range b h)

pub letter-name : (b : ℕ) → is_letter b ≡ true → is_name_byte b ≡ true
unfolding is_name_byte
letter-name b e = rw e

decimal-snoc : (v : ℕ) (s : List ℕ) (b : ℕ) → decimal_from v (s ++ (b ∷ [])) ≡ decimal_from v s * 10 + (b - 48)
unfolding decimal_from
decimal-snoc v [] b = refl
decimal-snoc v (a ∷ s) b = decimal-snoc (v * 10 + (a - 48)) s b

pub decimal-more : (s : List ℕ) (i : ℕ) → i < length s
    → decimal (take (i + 1) s) ≡ decimal (take i s) * 10 + (get_or s i 0 - 48)
unfolding decimal
decimal-more s i h = rw (add-one, take-suc s i 0 h) (decimal-snoc 0 (take i s) (get_or s i 0))
