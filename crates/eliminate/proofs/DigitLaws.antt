-- Laws of decode and place, in the words of the code.
use mathlib.Core.Path.{◌≡◌, refl, ap, sym, ◌∙◌}
use mathlib.Core.List.{List, [], ◌∷◌}
use Prim.Native.Nat.{ℕ, suc, ◌+◌, ◌-◌, ◌*◌, ◌/◌, ◌%◌, ◌^◌, ◌≤◌, ◌<◌}
use native.Mathlib.Omega.{arith}
use native.Mathlib.Nat.{pow-succ', mul_assoc, mul-add, add_assoc, one-le-pow, mul-le-mul_left}
use lib.ListN.{length, get_or, set, length-set}
use borrow.Author.Tests.{eq-eqb, ne_eqb}
use Rattle.label.specs.Limits.{first_variable, first_minimum, term_end}
use Rattle.elimination.specs.Elimination.{most_entries}
use Rattle.eliminate.specs.Masks.{names_from, names_of, env_of, place_of, decoded}
use Rattle.eliminate.specs.MaskLaws.{names-step, names-zero}
use Rattle.eliminate.specs.PlaceLaws.{place-less}
use Rattle.eliminate.specs.Calls.{Decodable, Placeable}

-- the variables from v on of the set m
abbrev pub onwards : ℕ → ℕ → List ℕ
onwards v m = names_from (first_minimum - v) v m

pub none-onwards : (v m : ℕ) → first_minimum ≤ v → onwards v m ≡ []
unfolding names_from
none-onwards v m h = let e : first_minimum - v ≡ 0 = omega arith in rw e

pub odd-onwards : (v m : ℕ) → v < first_minimum → m % 2 ≡ 1 → onwards v m ≡ v ∷ onwards (v + 1) (m / 2)
odd-onwards v m h e =
    let z : first_minimum - v ≡ suc (first_minimum - (v + 1)) = omega arith in
    let y : suc v ≡ v + 1 = omega arith in
    rw (z, names-step (first_minimum - (v + 1)) v m, eq-eqb (m % 2) 1 e, y)

pub even-onwards : (v m : ℕ) → v < first_minimum → (m % 2 ≡ 1 → ⊥) → onwards v m ≡ onwards (v + 1) (m / 2)
even-onwards v m h e =
    let z : first_minimum - v ≡ suc (first_minimum - (v + 1)) = omega arith in
    let y : suc v ≡ v + 1 = omega arith in
    rw (z, names-step (first_minimum - (v + 1)) v m, ne_eqb (m % 2) 1 e, y)

-- ===== decode =====

-- what is left to decode, from the words env₀ on
pub record Decoding (env₀ : List ℕ) (n m c : ℕ) (env : List ℕ) (rest code v : ℕ) : Type 0 where
  pub some : 0 < n
  pub places : term_end ≤ length env
  pub kept : length env ≡ length env₀
  pub end : v ≤ first_minimum
  pub left : decoded n (onwards v rest) code env ≡ decoded n (names_of m) c env₀

pub decode-start : (env : List ℕ) (n m c : ℕ) → Decodable env n → Decoding env n m c env m c first_variable
unfolding names_of
decode-start env n m c d = record { some = d.some; places = d.places; kept = refl; end = omega arith; left = refl }

module _ {env₀ env : List ℕ} {n m c rest code v : ℕ} (d : Decoding env₀ n m c env rest code v) where
  pub decode-none : rest ≡ 0 → env ≡ decoded n (names_of m) c env₀
  unfolding decoded
  decode-none e =
      let z : onwards v rest ≡ [] = rw e (names-zero (first_minimum - v) v) in
      let w : decoded n [] code env ≡ decoded n (names_of m) c env₀ = rw z at d.left in
      w

  pub decode-end : first_minimum ≤ v → env ≡ decoded n (names_of m) c env₀
  unfolding decoded
  decode-end h = let w : decoded n [] code env ≡ decoded n (names_of m) c env₀ = rw (none-onwards v rest h) at d.left in w

  pub decode-odd : v < first_minimum → rest % 2 ≡ 1 → Decoding env₀ n m c (set env v (code % n)) (rest / 2) (code / n) (v + 1)
  unfolding decoded
  decode-odd h e = record {
    some = d.some;
    places = rw (length-set env v (code % n)) d.places;
    kept = length-set env v (code % n) ∙ d.kept;
    end = omega arith;
    left = let w : decoded n (v ∷ onwards (v + 1) (rest / 2)) code env ≡ decoded n (names_of m) c env₀ = rw (odd-onwards v rest h e) at d.left in w;
  }

  pub decode-even : v < first_minimum → (rest % 2 ≡ 1 → ⊥) → Decoding env₀ n m c env (rest / 2) code (v + 1)
  decode-even h e = record {
    some = d.some;
    places = d.places;
    kept = d.kept;
    end = omega arith;
    left = rw (even-onwards v rest h e) at d.left;
  }

-- ===== place =====

-- the digits so far, and what is left
pub record Placing (env : List ℕ) (n m rest weight at v : ℕ) : Type 0 where
  pub able : Placeable env n m
  pub end : v ≤ first_minimum
  pub left : at + weight * place_of n (onwards v rest) (env_of env) ≡ place_of n (names_of m) (env_of env)
  pub size : weight * n ^ length (onwards v rest) ≡ n ^ length (names_of m)

pub place-start : (env : List ℕ) (n m : ℕ) → Placeable env n m → Placing env n m m 1 0 first_variable
unfolding names_of
place-start env n m p = record {
  able = p;
  end = omega arith;
  left = omega arith;
  size = omega arith;
}

module _ {env : List ℕ} {n m rest weight at v : ℕ} (p : Placing env n m rest weight at v) where
  all-less : place_of n (names_of m) (env_of env) < most_entries
  all-less = let l = place-less n (names_of m) (env_of env) p.able.range in let f = p.able.few in omega arith

  pub place_none : rest ≡ 0 → at ≡ place_of n (names_of m) (env_of env)
  unfolding place_of
  place_none e =
      let z : onwards v rest ≡ [] = rw e (names-zero (first_minimum - v) v) in
      let w : at + weight * place_of n [] (env_of env) ≡ place_of n (names_of m) (env_of env) = rw z at p.left in
      omega arith

  pub place_end : first_minimum ≤ v → at ≡ place_of n (names_of m) (env_of env)
  unfolding place_of
  place_end h =
      let w : at + weight * place_of n [] (env_of env) ≡ place_of n (names_of m) (env_of env) = rw (none-onwards v rest h) at p.left in
      omega arith

  module _ (h : v < first_minimum) (e : rest % 2 ≡ 1) where
    odd-left : at + weight * (env_of env v + n * place_of n (onwards (v + 1) (rest / 2)) (env_of env)) ≡ place_of n (names_of m) (env_of env)
    unfolding place_of
    odd-left = let w : at + weight * place_of n (v ∷ onwards (v + 1) (rest / 2)) (env_of env) ≡ place_of n (names_of m) (env_of env) = rw (odd-onwards v rest h e) at p.left in w

    odd-size : weight * n * n ^ length (onwards (v + 1) (rest / 2)) ≡ n ^ length (names_of m)
    odd-size =
        let w : weight * n ^ suc (length (onwards (v + 1) (rest / 2))) ≡ n ^ length (names_of m) = rw (odd-onwards v rest h e) at p.size in
        mul_assoc weight n (n ^ length (onwards (v + 1) (rest / 2))) ∙ ap (λ x. weight * x) (sym (pow-succ' n (length (onwards (v + 1) (rest / 2))))) ∙ w

    -- all sums and products stay small
    split : at + (weight * env_of env v + weight * (n * place_of n (onwards (v + 1) (rest / 2)) (env_of env))) ≡ place_of n (names_of m) (env_of env)
    split = ap (λ x. at + x) (sym (mul-add weight (env_of env v) (n * place_of n (onwards (v + 1) (rest / 2)) (env_of env)))) ∙ odd-left

    pub place-small : at + weight * get_or env v 0 < most_entries
    place-small = let s = split in let l = all-less in omega arith

    pub weight-small : weight * n ≤ most_entries
    weight-small =
        let one : 1 ≤ n ^ length (onwards (v + 1) (rest / 2)) = one-le-pow (length (onwards (v + 1) (rest / 2))) n p.able.some in
        let l : weight * n * 1 ≤ weight * n * n ^ length (onwards (v + 1) (rest / 2)) = mul-le-mul_left (weight * n) one in
        let s = odd-size in
        let f = p.able.few in
        omega arith

    pub place-odd : Placing env n m (rest / 2) (weight * n) (at + weight * get_or env v 0) (v + 1)
    place-odd = record {
      able = p.able;
      end = omega arith;
      left =
          add_assoc at (weight * env_of env v) (weight * n * place_of n (onwards (v + 1) (rest / 2)) (env_of env))
          ∙ ap (λ x. at + (weight * env_of env v + x)) (mul_assoc weight n (place_of n (onwards (v + 1) (rest / 2)) (env_of env))) ∙ split;
      size = odd-size;
    }

  pub place-even : v < first_minimum → (rest % 2 ≡ 1 → ⊥) → Placing env n m (rest / 2) weight at (v + 1)
  place-even h e = record {
    able = p.able;
    end = omega arith;
    left = rw (even-onwards v rest h e) at p.left;
    size = rw (even-onwards v rest h e) at p.size;
  }
