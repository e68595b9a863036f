-- Laws of places: each choice has one place below n to the names, and each such place one choice.
use Rattle.std.specs.Prelude.{◌≡◌, refl, true, false, List, [], ◌∷◌, ℕ, zero, suc, ◌+◌, ◌*◌, ◌/◌, ◌%◌, ◌^◌, ◌≤◌, ◌<◌, length, set, eqb}
use Rattle.std.proofs.Common.{ap, sym, ◌∙◌, arith, mod-lt, mod-eq_of_lt, div-lt_iff_lt-mul, mul_comm, mul-le-mul_left, length-set, get_or-set_same, get_or-set_other, set-set, eqb-true, eq-eqb}
use Rattle.std.proofs.Math.Path.{fun_ext}
use Rattle.std.proofs.Math.Nat.{pow-zero, pow-succ', div-eq_of_lt, mod-add-div, add-mul-mod_self_left, add-mul-div_left}
use Rattle.std.proofs.lemmas.Bool.{eqb-false}
use Rattle.basics.specs.Tests.{Flag, is_true, is_false, flag, Either, one, other, either, or-one, or-other}
use Rattle.basics.specs.Members.{mem, clash}
use Rattle.rename.specs.Ascending.{Ascending}
use Rattle.rename.specs.AscendingLaws.{ascending-not}
use Rattle.state.specs.Highest.{put}
use Rattle.state.proofs.HighestLaws.{put_same, put_other, by-eq}
use Rattle.eliminate.specs.Masks.{env_of, place_of, decoded}

-- every name has a word
abbrev pub Within : List ℕ → List ℕ → Type 0
Within env vs = (t : ℕ) → mem eqb t vs ≡ true → t < length env

pub within-set : (env vs : List ℕ) (v o : ℕ) → Within env vs → Within (set env v o) vs
within-set env vs v o w t m = rw (length-set env v o) (w t m)

pub env-set : (env : List ℕ) (v o : ℕ) → v < length env → env_of (set env v o) ≡ put (env_of env) v o
env-set env v o h = fun_ext (λ t. by-eq (env_of (set env v o) t ≡ put (env_of env) v o t) v t
    (λ e. rw (e, put_same (env_of env) v o) (get_or-set_same env v o 0 h))
    (λ e. get_or-set_other env v t o 0 e ∙ sym (put_other (env_of env) v o t e)))

-- ===== Choices decoded =====
pub decoded-length : (n : ℕ) (vs : List ℕ) (c : ℕ) (env : List ℕ) → length (decoded n vs c env) ≡ length env
unfolding decoded
decoded-length n [] c env = refl
decoded-length n (v ∷ vs) c env = decoded-length n vs (c / n) (set env v (c % n)) ∙ length-set env v (c % n)

-- other terms keep their objects
pub decoded-other : (n : ℕ) (vs : List ℕ) (c : ℕ) (env : List ℕ) (t : ℕ) → mem eqb t vs ≡ false → env_of (decoded n vs c env) t ≡ env_of env t
unfolding decoded
decoded-other n [] c env t m = refl
decoded-other n (v ∷ vs) c env t m = go (flag (eqb t v)) (flag (mem eqb t vs)) (decoded-other n vs (c / n) (set env v (c % n)) t)
  where
    go : Flag (eqb t v) → Flag (mem eqb t vs) → (mem eqb t vs ≡ false → env_of (decoded n vs (c / n) (set env v (c % n))) t ≡ env_of (set env v (c % n)) t)
        → env_of (decoded n vs (c / n) (set env v (c % n))) t ≡ env_of env t
    go (is_true e) d ih = clash (or-one _ _ e) m
    go (is_false e) (is_true d) ih = clash (or-other (eqb t v) _ d) m
    go (is_false e) (is_false d) ih = ih d ∙ get_or-set_other env v t (c % n) 0 (eqb-false t v e)

pub decoded-range : (n : ℕ) (vs : List ℕ) (c : ℕ) (env : List ℕ) → 0 < n → Within env vs → ((t : ℕ) → env_of env t < n) → (t : ℕ) → env_of (decoded n vs c env) t < n
unfolding decoded
decoded-range n [] c env h w r t = r t
decoded-range n (v ∷ vs) c env h w r t = decoded-range n vs (c / n) (set env v (c % n)) h
    (λ u m. rw (length-set env v (c % n)) (w u (or-other (eqb u v) _ m)))
    (λ u. by-eq (env_of (set env v (c % n)) u < n) v u
    (λ e. rw (e, get_or-set_same env v (c % n) 0 (w v (or-one _ _ (eq-eqb v v refl)))) (mod-lt c h))
    (λ e. rw (get_or-set_other env v u (c % n) 0 e) (r u))) t

-- a word may as well be put in afterwards
set-swap : (env : List ℕ) (v w o q : ℕ) → (v ≡ w → ⊥) → set (set env v o) w q ≡ set (set env w q) v o
set-swap [] v w o q h = refl
set-swap (x ∷ env) zero zero o q h = absurd (h refl)
set-swap (x ∷ env) zero (suc w) o q h = refl
set-swap (x ∷ env) (suc v) zero o q h = refl
set-swap (x ∷ env) (suc v) (suc w) o q h = ap (x ∷◌) (set-swap env v w o q (λ e. h (ap suc e)))

decoded-set : (n : ℕ) (vs : List ℕ) (c : ℕ) (env : List ℕ) (v o : ℕ) → mem eqb v vs ≡ false → set (decoded n vs c env) v o ≡ decoded n vs c (set env v o)
unfolding decoded
decoded-set n [] c env v o m = refl
decoded-set n (w ∷ vs) c env v o m = go (flag (eqb v w)) (flag (mem eqb v vs)) (decoded-set n vs (c / n) (set env w (c % n)) v o)
  where
    go : Flag (eqb v w) → Flag (mem eqb v vs)
        → (mem eqb v vs ≡ false → set (decoded n vs (c / n) (set env w (c % n))) v o ≡ decoded n vs (c / n) (set (set env w (c % n)) v o))
        → set (decoded n vs (c / n) (set env w (c % n))) v o ≡ decoded n vs (c / n) (set (set env v o) w (c % n))
    go (is_true e) d ih = clash (or-one _ _ e) m
    go (is_false e) (is_true d) ih = clash (or-other (eqb v w) _ d) m
    go (is_false e) (is_false d) ih = ih d ∙ ap (decoded n vs (c / n)) (set-swap env w v (c % n) o (λ z. eqb-false v w e (sym z)))

-- what was decoded before is forgotten
pub decoded-over : (n k : ℕ) (vs : List ℕ) (c d : ℕ) (env : List ℕ) → Ascending k vs → decoded n vs c (decoded n vs d env) ≡ decoded n vs c env
unfolding decoded
decoded-over n k [] c d env a = refl
decoded-over n k (v ∷ vs) c d env a =
    ap (decoded n vs (c / n)) (decoded-set n vs (d / n) (set env v (d % n)) v (c % n) (ascending-not (suc v) vs v a.1 (omega arith))
    ∙ ap (decoded n vs (d / n)) (set-set env v (d % n) (c % n)))
    ∙ decoded-over n (suc v) vs (c / n) (d / n) (set env v (c % n)) a.1

-- ===== Places =====
digit-less : (n x y N : ℕ) → x < n → y < N → x + n * y < n * N
digit-less n x y N h k =
    let e : n * suc y ≡ n + n * y = omega arith in
    let l : n * suc y ≤ n * N = mul-le-mul_left n k in
    omega arith

pub place-less : (n : ℕ) (vs : List ℕ) (θ : ℕ → ℕ) → ((t : ℕ) → θ t < n) → place_of n vs θ < n ^ length vs
unfolding place_of
place-less n [] θ r = rw (pow-zero n) (omega arith)
place-less n (v ∷ vs) θ r = rw (pow-succ' n (length vs)) (digit-less n (θ v) (place_of n vs θ) (n ^ length vs) (r v) (place-less n vs θ r))

-- one choice has one place
digit_low : (n x y : ℕ) → x < n → (x + n * y) % n ≡ x
digit_low n x y h = add-mul-mod_self_left x n y ∙ mod-eq_of_lt h

digit-high : (n x y : ℕ) → x < n → (x + n * y) / n ≡ y
digit-high n x y h = let p : 0 < n = omega arith in add-mul-div_left x y p ∙ rw (div-eq_of_lt h) (omega arith)

pub place-one : (n : ℕ) (vs : List ℕ) (θ η : ℕ → ℕ) → ((t : ℕ) → θ t < n) → ((t : ℕ) → η t < n) → place_of n vs θ ≡ place_of n vs η
    → (t : ℕ) → mem eqb t vs ≡ true → θ t ≡ η t
unfolding place_of
place-one n [] θ η r q e t m = clash m refl
place-one n (v ∷ vs) θ η r q e t m = go (either (eqb t v) (mem eqb t vs) m) (place-one n vs θ η r q)
  where
    low : θ v ≡ η v
    low = sym (digit_low n (θ v) (place_of n vs θ) (r v)) ∙ ap (λ x. x % n) e ∙ digit_low n (η v) (place_of n vs η) (q v)

    high : place_of n vs θ ≡ place_of n vs η
    high = sym (digit-high n (θ v) (place_of n vs θ) (r v)) ∙ ap (λ x. x / n) e ∙ digit-high n (η v) (place_of n vs η) (q v)

    go : Either (eqb t v) (mem eqb t vs) → (place_of n vs θ ≡ place_of n vs η → (u : ℕ) → mem eqb u vs ≡ true → θ u ≡ η u) → θ t ≡ η t
    go (one z) ih = rw (eqb-true t v z) low
    go (other z) ih = ih high t z

-- the choice that is decoded has its place
pub place-decoded : (n k : ℕ) (vs : List ℕ) (c : ℕ) (env : List ℕ) → 0 < n → Ascending k vs → Within env vs → c < n ^ length vs
    → place_of n vs (env_of (decoded n vs c env)) ≡ c
unfolding place_of decoded
place-decoded n k [] c env h a w l = let z = pow-zero n in omega arith
place-decoded n k (v ∷ vs) c env h a w l =
    let out = ascending-not (suc v) vs v a.1 (omega arith) in
    let room = w v (or-one _ _ (eq-eqb v v refl)) in
    let here : env_of (decoded n vs (c / n) (set env v (c % n))) v ≡ c % n
    = decoded-other n vs (c / n) (set env v (c % n)) v out ∙ get_or-set_same env v (c % n) 0 room in
    let rest = place-decoded n (suc v) vs (c / n) (set env v (c % n)) h a.1 (λ t m. rw (length-set env v (c % n)) (w t (or-other (eqb t v) _ m)))
    ((div-lt_iff_lt-mul h).1 (rw (mul_comm (n ^ length vs) n, ← pow-succ' n (length vs)) l)) in
    rw (here, rest) (mod-add-div c n)
