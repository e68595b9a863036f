-- No two names have the same key, and the name of a name's key is that name.
use Rattle.std.specs.Prelude.{ℕ, zero, suc, ◌+◌, ◌*◌, ◌/◌, ◌%◌, ◌<◌, ◌≡◌, refl, true, List, [], ◌∷◌, ◌++◌, length, get_or, take, drop}
use Rattle.std.proofs.Common.{sym, ap, ap₂, ◌∙◌, arith, length-drop, take-append-drop, take_all, ne_eqb}
use Rattle.words.specs.Bytes.{is_name_byte}
use Rattle.words.specs.ByteLaws.{run_at, name-range}
use Rattle.words.specs.Words.{IsName}
use Rattle.words.specs.Keys.{little, key_of, bytes_within, name_of}

-- each byte is above 0 and below 256
abbrev pub Bytewise : List ℕ → Type 0
Bytewise [] = Unit {0}
Bytewise (b ∷ s) = (0 < b) × (b < 256) × Bytewise s

pub little-one : (x y : List ℕ) → Bytewise x → Bytewise y → little x ≡ little y → x ≡ y
unfolding little
little-one [] [] p q e = refl
little-one [] (b ∷ y) p q e = absurd (omega (arith, q.0))
little-one (a ∷ x) [] p q e = absurd (omega (arith, p.0))
little-one (a ∷ x) (b ∷ y) p q e =
    let h : a ≡ b = omega (arith, p.1, q.1) in
    let t : x ≡ y = little-one x y p.2 q.2 (omega (arith, p.1, q.1)) in
    λ i. h i ∷ t i

bytes_take : (n : ℕ) (x : List ℕ) → Bytewise x → Bytewise (take n x)
bytes_take zero [] p = tt
bytes_take zero (b ∷ x) p = tt
bytes_take (suc n) [] p = tt
bytes_take (suc n) (b ∷ x) p = (p.0, p.1, bytes_take n x p.2)

bytes_drop : (n : ℕ) (x : List ℕ) → Bytewise x → Bytewise (drop n x)
bytes_drop zero [] p = tt
bytes_drop zero (b ∷ x) p = p
bytes_drop (suc n) [] p = tt
bytes_drop (suc n) (b ∷ x) p = bytes_drop n x p.2

pub key_one : (x y : List ℕ) → Bytewise x → Bytewise y → key_of x ≡ key_of y → x ≡ y
unfolding key_of
key_one x y p q e =
    let t : take 8 x ≡ take 8 y = little-one (take 8 x) (take 8 y) (bytes_take 8 x p) (bytes_take 8 y q) (λ i. (e i).a) in
    let d : drop 8 x ≡ drop 8 y = little-one (drop 8 x) (drop 8 y) (bytes_drop 8 x p) (bytes_drop 8 y q) (λ i. (e i).b) in
    sym (take-append-drop 8 x) ∙ (λ i. t i ++ d i) ∙ take-append-drop 8 y

-- the bytes of a name are such bytes
bytes_run : (x : List ℕ) → ((k : ℕ) → k < length x → is_name_byte (get_or x k 0) ≡ true) → Bytewise x
bytes_run [] h = tt
bytes_run (b ∷ x) h =
    let r = name-range b (h 0 (omega arith)) in
    (omega (arith, r), omega (arith, r), bytes_run x (λ k l. h (suc k) (omega arith)))

pub name-bytes : (n : List ℕ) → IsName n → Bytewise n
name-bytes n g = bytes_run n (λ k l. run_at is_name_byte n k (omega (arith, g.1)))

-- names with the same key are the same name
pub name-key : (x y : List ℕ) → IsName x → IsName y → key_of x ≡ key_of y → x ≡ y
name-key x y g h e = key_one x y (name-bytes x g) (name-bytes y h) e

bytes-little : (left : ℕ) (s : List ℕ) → Bytewise s → bytes_within left (little (take left s)) ≡ take left s
unfolding bytes_within little
bytes-little zero [] p = refl
bytes-little zero (b ∷ s) p = refl
bytes-little (suc left) [] p = refl
bytes-little (suc left) (b ∷ s) p =
    let m : ℕ = little (take left s) in
    let low : (b + m * 256) % 256 ≡ b = omega (arith, p.1) in
    let high : (b + m * 256) / 256 ≡ m = omega (arith, p.1) in
    rw (ne_eqb (b + m * 256) 0 (λ (e : b + m * 256 ≡ 0). absurd (omega (arith, p.0))), low, high) (ap (λ l. b ∷ l) (bytes-little left s p.2))

pub name-of : (n : List ℕ) → IsName n → name_of (key_of n) ≡ n
unfolding name_of key_of
name-of n g =
    let b = name-bytes n g in
    let short : take 7 (drop 8 n) ≡ drop 8 n = take_all 7 (drop 8 n) (omega (arith, length-drop 8 n, g.2)) in
    ap₂ (λ (x y : List ℕ). x ++ y) (bytes-little 8 n b) (ap (λ (s : List ℕ). bytes_within 7 (little s)) (sym short) ∙ bytes-little 7 (drop 8 n) (bytes_drop 8 n b) ∙ short)
    ∙ take-append-drop 8 n
