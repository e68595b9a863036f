-- Mk is S^k times the k-step Bellman value with discount G / D and probabilities weight / W; and with it demand 3 in its own words.
use Rattle.std.specs.Prelude.{◌≡◌, refl}
use Rattle.std.proofs.Math.Path.{ap, fun_ext}
use Rattle.std.proofs.Common.{sym, ◌∙◌, mul_comm, mul_assoc, mul-add, mul-le-mul_left, mul-pos, pow-suc}
use mathlib.Core.List.{List, [], ◌∷◌}
use Prim.Native.Nat.{ℕ, zero, suc, ◌*◌, ◌^◌, ◌≤◌, ◌<◌, max}
use native.Mathlib.Omega.{arith}
use Rattle.std.proofs.Math.Nat.{pow-zero}
use Rattle.basics.specs.Tests.{Cmp, below, equal, above, cmp}
use Rattle.label.specs.Labels.{packed, unpacked, predicate_of, terms_of}
use Rattle.state.specs.Max.{max_to, max_tuples, max_of, sum_of}
use Rattle.state.specs.State.{meaning, State, Good}
use Rattle.minimum.specs.Number.{number}
use Rattle.mdp.specs.Model.{Variant, Model, scale, GoodModel}
use Rattle.mdp.specs.Bellman.{weight_in, state_after, reward_in, bellman}
use Rattle.mdp.specs.Runs.{Call, run}
use Rattle.mdp.specs.Example.{run_model, nothing_true, stock_at_hub}
use Rattle.mdp.proofs.RunLaws.{demand-3}
use Rattle.discounted.specs.Fraction.{Fraction, ratio, whole, Equal, times, highest_of, highest_tuples, total_of}
use Rattle.discounted.specs.Discounted.{discounted}
use Rattle.discounted.proofs.FractionLaws.{Makes, makes-ratio, makes-same, makes-times, makes-whole, makes-plus, makes-part, makes-highest_of, makes-total_of, makes-highest_tuples}

-- ===== A factor comes out of maxima and sums =====

times-le : (g a b : ℕ) → a ≤ b → max (g * a) (g * b) ≡ g * b
times-le g a b h = omega (arith, mul-le-mul_left g h)

times-max : (g a b : ℕ) → max (g * a) (g * b) ≡ g * max a b
times-max g a b = go (cmp b a)
  where
    low : a ≤ b → max (g * a) (g * b) ≡ g * max a b
    low h = let z : b ≡ max a b = omega arith in times-le g a b h ∙ ap (λ x. g * x) z

    go : Cmp b a → max (g * a) (g * b) ≡ g * max a b
    go (below h) =
        let z : a ≡ max a b = omega arith in
        let e : max (g * a) (g * b) ≡ g * a = omega (arith, times-le g b a (omega arith)) in
        e ∙ ap (λ x. g * x) z
    go (equal h) = low (omega arith)
    go (above h) = low (omega arith)

module _ {A : Type 0} (g : ℕ) (f : A → ℕ) where
  times-max_of : (l : List A) → max_of l (λ a. g * f a) ≡ g * max_of l f
  unfolding max_of
  times-max_of [] = omega arith
  times-max_of (a ∷ l) = rw (times-max_of l) (times-max g (f a) (max_of l f))

  times-sum_of : (l : List A) → sum_of l (λ a. g * f a) ≡ g * sum_of l f
  unfolding sum_of
  times-sum_of [] = omega arith
  times-sum_of (a ∷ l) = rw (times-sum_of l) (sym (mul-add g (f a) (sum_of l f)))

times-max_to : (g : ℕ) (f : ℕ → ℕ) (n : ℕ) → max_to n (λ o. g * f o) ≡ g * max_to n f
unfolding max_to
times-max_to g f zero = omega arith
times-max_to g f (suc n) = rw (times-max_to g f n) (times-max g (max_to n f) (f n))

times-max_tuples : (g n c : ℕ) (f : List ℕ → ℕ) → max_tuples n c (λ os. g * f os) ≡ g * max_tuples n c f
unfolding max_tuples
times-max_tuples g n zero f = refl
times-max_tuples g n (suc c) f =
    ap (max_to n) (fun_ext (λ o. times-max_tuples g n c (λ os. f (o ∷ os)))) ∙ times-max_to g (λ o. max_tuples n c (λ os. f (o ∷ os))) n

-- ===== Mk is S^k times Vk =====

power-some : (n k : ℕ) → 0 < n → 0 < n ^ k
power-some n zero h = rw (pow-zero n) (omega arith)
power-some n (suc k) h = rw (pow-suc n k) (mul-pos (power-some n k h) h)

pub scale-some : (m : Model) → GoodModel m → 0 < scale m
unfolding scale
scale-some m good = mul-pos good.total-some good.denominator-some

-- D times W times S^k
scale-step : (m : Model) (k : ℕ) → m.denominator * (m.total * scale m ^ k) ≡ scale m ^ suc k
unfolding scale
scale-step m k =
    sym (mul_assoc m.denominator m.total (scale m ^ k))
    ∙ ap (λ x. x * scale m ^ k) (mul_comm m.denominator m.total)
    ∙ mul_comm (scale m) (scale m ^ k)
    ∙ sym (pow-suc (scale m) k)

-- the best of the sums, with the factor G inside and outside
best-factor : (m : Model) (s : State) (next : List ℕ → Variant → ℕ)
    → max_of m.actions (λ a. max_tuples s.size a.count (λ os. sum_of a.variants (λ v. m.numerator * weight_in m.arities s os v * next os v)))
    ≡ m.numerator * max_of m.actions (λ a. max_tuples s.size a.count (λ os. sum_of a.variants (λ v. weight_in m.arities s os v * next os v)))
best-factor m s next =
    ap (max_of m.actions) (fun_ext (λ a.
    ap (max_tuples s.size a.count) (fun_ext (λ os.
    ap (sum_of a.variants) (fun_ext (λ v. mul_assoc m.numerator (weight_in m.arities s os v) (next os v)))
    ∙ times-sum_of m.numerator (λ v. weight_in m.arities s os v * next os v) a.variants))
    ∙ times-max_tuples m.numerator s.size a.count (λ os. sum_of a.variants (λ v. weight_in m.arities s os v * next os v))))
    ∙ times-max_of m.numerator (λ a. max_tuples s.size a.count (λ os. sum_of a.variants (λ v. weight_in m.arities s os v * next os v))) m.actions

module _ (m : Model) (good : GoodModel m) where
  -- the best of the expected values, one step from where n times the value is M
  best-makes : (n : ℕ) → 0 < n → (value : State → Fraction) (M : State → ℕ) → ((s : State) → Makes n (value s) (M s)) → (s : State)
      → Makes (m.total * n)
      (highest_of m.actions (λ a. highest_tuples s.size a.count (λ os. total_of a.variants (λ v.
      times (ratio (weight_in m.arities s os v) m.total) (value (state_after m.arities s os v))))))
      (max_of m.actions (λ a. max_tuples s.size a.count (λ os. sum_of a.variants (λ v. weight_in m.arities s os v * M (state_after m.arities s os v)))))
  best-makes n h value M each s =
      makes-highest_of (m.total * n) some _ _ (λ a.
      makes-highest_tuples (m.total * n) some s.size a.count _ _ (λ os.
      makes-total_of (m.total * n) some _ _ (λ v.
      makes-part (weight_in m.arities s os v) m.total good.total-some (each (state_after m.arities s os v))) a.variants)) m.actions
    where
      some : 0 < m.total * n
      some = mul-pos good.total-some h

  bellman-makes : (k : ℕ) (s : State) → Makes (scale m ^ k) (discounted m k s) (bellman m k s)
  unfolding discounted bellman
  bellman-makes zero s = record { some = omega arith; is = ap (λ x. reward_in m s * x) (pow-zero (scale m)) }
  bellman-makes (suc k) s =
      let n = scale m ^ k in
      let best = best-makes n (power-some (scale m) k (scale-some m good)) (discounted m k) (bellman m k) (bellman-makes k) s in
      let discount = makes-part m.numerator m.denominator good.denominator-some best in
      makes-plus (makes-whole (scale m ^ suc k) (reward_in m s))
      (makes-same (scale-step m k) (sym (best-factor m s (λ os v. bellman m k (state_after m.arities s os v)))) discount)

-- "So Mk is S^k times the k-step Bellman value with discount G / D and probabilities weight / W."
pub bellman-discounted : (m : Model) → GoodModel m → (k : ℕ) (s : State) → Equal (whole (bellman m k s)) (times (whole (scale m ^ k)) (discounted m k s))
bellman-discounted m good k s = makes-times (bellman-makes m good k s)

-- so Mk divided by S^k is that value
pub bellman-over-scale : (m : Model) → GoodModel m → (k : ℕ) (s : State) → Equal (ratio (bellman m k s) (scale m ^ k)) (discounted m k s)
bellman-over-scale m good k s = makes-ratio (power-some (scale m) k (scale-some m good)) (bellman-makes m good k s)

-- demand 3 in its own words: after every list of backups, cuts and reductions, in every state, the number of the value diagram is S^k times the k-step Bellman value
pub demand-3-discounted : (m : Model) → GoodModel m → (l : List Call) (s : State) → Good s
    → Equal (whole (number s [] (meaning m.arities (run m l).diagram))) (times (whole (scale m ^ (run m l).steps)) (discounted m (run m l).steps s))
demand-3-discounted m good l s g = rw (demand-3 m good l s g) (bellman-discounted m good (run m l).steps s)

-- its corollary: the number divided by S^k is that value
pub number-over-scale : (m : Model) → GoodModel m → (l : List Call) (s : State) → Good s
    → Equal (ratio (number s [] (meaning m.arities (run m l).diagram)) (scale m ^ (run m l).steps)) (discounted m (run m l).steps s)
number-over-scale m good l s g = rw (demand-3 m good l s g) (bellman-over-scale m good (run m l).steps s)

-- document 01's run: after one backup 30 / 8 where nothing is true and 120 / 8 with stock at the hub
pub run-discounted : Equal (discounted run_model 1 nothing_true) (ratio 15 4) × Equal (discounted run_model 1 stock_at_hub) (whole 15)
unfolding discounted packed unpacked predicate_of terms_of
run-discounted = (
  record { left-some = omega arith; right-some = omega arith; cross = refl },
  record { left-some = omega arith; right-some = omega arith; cross = refl },
)
