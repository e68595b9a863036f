-- A name's and a number's reader accept exactly the names and the numbers.
use Rattle.std.specs.Prelude.{◌≡◌, refl, List, ◌++◌, Bool, true, false, cond, ◌&&◌, ◌||◌, not, ℕ, ◌≤◌, ◌<◌, leb, ltb, eqb, length, get_or, take}
use Rattle.std.proofs.Common.{sym, arith, length-take-le, get_or-take, leb-true, ltb-true, le-leb, lt-ltb}
use Rattle.std.proofs.Math.ListN.{get_or-append}
use Rattle.words.specs.Bytes.{run, is_digit, is_name_byte, is_letter, decimal, over, value_of}
use Rattle.words.specs.Inner.{name_form}
use Rattle.words.specs.Words.{IsName, IsNumber, number_form}
use Rattle.words.specs.ByteLaws.{run-le, run_take, run-pos, run-append, run_at, letter-name, letter-range, digit-range}
use Rattle.std.specs.Prelude.{None, Some}

pub refused : {n : ℕ} → None ≡ Some n → ⊥
refused e = let z : ◌≡◌ {A = ℕ} 0 1 = cc in omega arith

pub bytes_eq : {m n : ℕ} → Some m ≡ Some n → m ≡ n
bytes_eq e = cc

-- a name's reader: the first byte is a letter, and the name is the run of name bytes, at most 15
pub name-inv : (s : List ℕ) {n : ℕ} → name_form s ≡ Some n → (is_letter (get_or s 0 0) ≡ true) × (n ≡ run is_name_byte s) × (n ≤ 15)
unfolding name_form
name-inv s {n} = go (is_letter (get_or s 0 0)) (leb (run is_name_byte s) 15) refl
  where
    go : (t u : Bool) → leb (run is_name_byte s) 15 ≡ u → cond (t && u) (Some (run is_name_byte s)) None ≡ Some n
        → (t ≡ true) × (n ≡ run is_name_byte s) × (n ≤ 15)
    go true true h e = let g : n ≡ run is_name_byte s = cc in (refl, g, omega (arith, leb-true (run is_name_byte s) 15 h))
    go true false h e = absurd (refused e)
    go false u h e = absurd (refused e)

-- a number's reader: the number is the run of digits, one at least, and no 0 stands before another digit
pub number-inv : (s : List ℕ) {n : ℕ} → number_form s ≡ Some n
    → (0 < n) × (n ≡ run is_digit s) × ((not (eqb (get_or s 0 0) 48) || eqb (run is_digit s) 1) ≡ true)
unfolding number_form
number-inv s {n} = go (ltb 0 (run is_digit s)) (not (eqb (get_or s 0 0) 48) || eqb (run is_digit s) 1) refl
  where
    go : (t u : Bool) → ltb 0 (run is_digit s) ≡ t
        → cond (t && u) (Some (run is_digit s)) None ≡ Some n
        → (0 < n) × (n ≡ run is_digit s) × (u ≡ true)
    go true true h e = let g : n ≡ run is_digit s = sym (bytes_eq e) in (omega (arith, ltb-true 0 (run is_digit s) h), g, refl)
    go true false h e = absurd (refused e)
    go false u h e = absurd (refused e)

pub name-within : (s : List ℕ) (n : ℕ) → name_form s ≡ Some n → n ≤ length s
name-within s n e = omega (arith, name-inv s e, run-le is_name_byte s)

pub number-within : (s : List ℕ) (n : ℕ) → number_form s ≡ Some n → n ≤ length s
number-within s n e = omega (arith, number-inv s e, run-le is_digit s)

name-good : (s : List ℕ) (n : ℕ) → is_letter (get_or s 0 0) ≡ true → n ≡ run is_name_byte s → n ≤ 15 → n ≤ length s → IsName (take n s)
unfolding is_name_byte is_letter is_digit
name-good s n h e l w =
    let p : 0 < n = rw e (run-pos is_name_byte s refl (letter-name (get_or s 0 0) h)) in
    (rw (get_or-take n s 0 0 p) h, rw e (run_take is_name_byte s), rw (length-take-le n s w) l)

pub name-sound : (s : List ℕ) {n : ℕ} → name_form s ≡ Some n → IsName (take n s)
name-sound s {n} e = let g = name-inv s e in name-good s n g.0 g.1 g.2 (name-within s n e)

number-good : (s : List ℕ) (n : ℕ) → 0 < n → n ≡ run is_digit s → (not (eqb (get_or s 0 0) 48) || eqb (run is_digit s) 1) ≡ true
    → n ≤ length s → IsNumber (take n s)
number-good s n p e z w =
    (rw (length-take-le n s w) p, rw e (run_take is_digit s), rw (length-take-le n s w, get_or-take n s 0 0 p, e) z)

pub number-sound : (s : List ℕ) {n : ℕ} → number_form s ≡ Some n → IsNumber (take n s)
number-sound s {n} e = let g = number-inv s e in number-good s n g.0 g.1 g.2 (number-within s n e)

pub name-pos : (n : List ℕ) → IsName n → 0 < length n
unfolding is_name_byte is_letter is_digit
name-pos n g = rw (← g.1) (run-pos is_name_byte n refl (letter-name (get_or n 0 0) g.0))

-- a name at the front of bytes that go on with no byte of a name
pub name-complete : (n q : List ℕ) → IsName n → is_name_byte (get_or q 0 0) ≡ false → name_form (n ++ q) ≡ Some (length n)
unfolding name_form
name-complete n q g h =
    rw (
      run-append is_name_byte n q g.1 h,
      get_or-append n q 0 0 (name-pos n g),
      g.0,
      le-leb (length n) 15 g.2,
    )

pub number-complete : (n q : List ℕ) → IsNumber n → is_digit (get_or q 0 0) ≡ false → number_form (n ++ q) ≡ Some (length n)
unfolding number_form
number-complete n q g h =
    rw (
      run-append is_digit n q g.1 h,
      get_or-append n q 0 0 g.0,
      lt-ltb 0 (length n) g.0,
      g.2,
    )

-- the first byte of a name is a letter, that of a number a digit
pub name-first : (n q : List ℕ) → IsName n → (97 ≤ get_or (n ++ q) 0 0) × (get_or (n ++ q) 0 0 ≤ 122)
name-first n q g = rw (get_or-append n q 0 0 (name-pos n g)) (letter-range (get_or n 0 0) g.0)

pub number-first : (n q : List ℕ) → IsNumber n → (48 ≤ get_or (n ++ q) 0 0) × (get_or (n ++ q) 0 0 ≤ 57)
number-first n q g =
    rw (get_or-append n q 0 0 g.0) (digit-range (get_or n 0 0) (run_at is_digit n 0 (rw g.1 g.0)))

-- the value of a number up to 10^18 is exact
pub value-exact : (n : List ℕ) → decimal n < over → value_of n ≡ decimal n
unfolding value_of
value-exact n h = omega arith
