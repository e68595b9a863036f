-- The ways through the functions that check and combine leaves.
use mathlib.Core.Path.{◌≡◌, sym, ap, ◌∙◌}
use mathlib.Core.Bool.{Bool, true, false, ◌||◌}
use mathlib.Core.List.{List}
use Prim.Native.Nat.{ℕ, zero, suc, ◌+◌, ◌*◌, ◌/◌, ◌≤◌, ◌<◌, max}
use native.Mathlib.Omega.{arith}
use native.Mathlib.Nat.{mul-le-mul, mul-le-mul_left, mul-div-le, lt-mul-div-succ, le_trans, lt_of_lt_of_le}
use native.Mathlib.Numerals.{add-one}
use lib.Dec.{eqb, ltb}
use borrow.Author.Tests.{ltb-false, lt-ltb, le-ltb, ne_eqb}
use Rattle.basics.specs.Tests.{Cmp, below, equal, above, cmp, or-one, or-other}
use Rattle.label.specs.Limits.{leaf_mark}
use Rattle.diagram.specs.Sizes.{highest_value}
use Rattle.apply.specs.declared.Operation.{Operation}
use Rattle.apply.specs.declared.Operation.TheVariants.{Sum, Product, Max}
use Rattle.apply.specs.Combination.{operate}
use Rattle.plan.specs.Plan.{pair_label_at, first_at, second_at}
use Rattle.combine.specs.Callers.{Values, Calm}
use Rattle.combine.specs.Results.{exceeds_at, exceeds, SoundAt}
use Rattle.combine.specs.ResultLaws.{end-at, branch-at, exceeds-none, exceeds-more}

-- products
pub product_small : {v w : ℕ} → v ≤ 1000000000 → w ≤ 1000000000 → false ≡ ltb highest_value (v * w)
product_small {v} {w} h k = sym (le-ltb highest_value (v * w) (omega (arith, mul-le-mul h k)))

pub product-zero : {v : ℕ} (w : ℕ) → v ≡ 0 → false ≡ ltb highest_value (v * w)
product-zero {v} w e = rw e (sym (le-ltb highest_value (0 * w) (omega arith)))

over : (v w : ℕ) → (v ≡ 0 → ⊥) → 1000000000000000000 / v < w → highest_value < v * w
over v w n h = lt_of_lt_of_le (lt-mul-div-succ 1000000000000000000 (omega arith)) (mul-le-mul_left v (rw add-one h))

within : (v w : ℕ) → w ≤ 1000000000000000000 / v → v * w ≤ highest_value
within v w h = le_trans (mul-le-mul_left v h) (mul-div-le 1000000000000000000 v)

pub product-division : (v w : ℕ) → (v ≡ 0 → ⊥) → ltb (1000000000000000000 / v) w ≡ ltb highest_value (v * w)
product-division v w n = go (cmp (1000000000000000000 / v) w)
  where
    go : Cmp (1000000000000000000 / v) w → ltb (1000000000000000000 / v) w ≡ ltb highest_value (v * w)
    go (below h) = lt-ltb _ _ h ∙ sym (lt-ltb _ _ (over v w n h))
    go (equal h) = le-ltb (1000000000000000000 / v) w (omega arith) ∙ sym (le-ltb highest_value (v * w) (within v w (omega arith)))
    go (above h) = le-ltb (1000000000000000000 / v) w (omega arith) ∙ sym (le-ltb highest_value (v * w) (within v w (omega arith)))

-- the test by operation
pub high_sum : {op : Operation} (v w : ℕ) → op ≡ Sum → ltb 1000000000000000000 (v + w) ≡ ltb highest_value (operate op v w)
high_sum {op} v w e = ap (λ (o : Operation). ltb highest_value (operate o v w)) (sym e)

pub high_product : {op : Operation} (v w : ℕ) {b : Bool} → op ≡ Product → b ≡ ltb highest_value (v * w) → b ≡ ltb highest_value (operate op v w)
high_product {op} v w e f = f ∙ ap (λ (o : Operation). ltb highest_value (operate o v w)) (sym e)

pub high-max : {op : Operation} {v w : ℕ} → op ≡ Max → Values v w → false ≡ ltb highest_value (operate op v w)
high-max {op} {v} {w} e h =
    let a = h.first in
    let b = h.second in
    sym (le-ltb highest_value (max v w) (omega arith)) ∙ ap (λ (o : Operation). ltb highest_value (operate o v w)) (sym e)

-- the result by operation
pub result-sum : {op : Operation} (v w : ℕ) → op ≡ Sum → v + w ≡ operate op v w
result-sum {op} v w e = ap (λ (o : Operation). operate o v w) (sym e)

pub result-product : {op : Operation} (v w : ℕ) → op ≡ Product → v * w ≡ operate op v w
result-product {op} v w e = ap (λ (o : Operation). operate o v w) (sym e)

pub result-max : {op : Operation} (v w : ℕ) {m : ℕ} → op ≡ Max → m ≡ max v w → m ≡ operate op v w
result-max {op} v w e f = f ∙ ap (λ (o : Operation). operate o v w) (sym e)

pub product-fits : {op : Operation} {v w : ℕ} → Calm op v w → op ≡ Product → v * w ≤ highest_value
product-fits {op} {v} {w} c e = ltb-false highest_value (v * w) (ap (λ (o : Operation). ltb highest_value (operate o v w)) (sym e) ∙ c.calm)

-- an entry's leaves
pub values-at : {ws : List ℕ} {n k : ℕ} → SoundAt ws n k → pair_label_at ws k ≡ leaf_mark → Values (first_at ws k) (second_at ws k)
values-at {ws} {n} {k} s e = let v = s.sound.values k s.less (end-at ws k e) in record { first = v.0; second = v.1 }

pub exceeds-branch : (op : ℕ → ℕ → ℕ) (ws : List ℕ) (k : ℕ) → (pair_label_at ws k ≡ leaf_mark → ⊥) → eqb (pair_label_at ws k) leaf_mark ≡ exceeds_at op ws k
unfolding exceeds_at
exceeds-branch op ws k n = rw (branch-at ws k n) (ne_eqb (pair_label_at ws k) leaf_mark n)

pub exceeds-end : (op : ℕ → ℕ → ℕ) (ws : List ℕ) (k : ℕ) {b : Bool} → pair_label_at ws k ≡ leaf_mark → b ≡ ltb highest_value (op (first_at ws k) (second_at ws k)) → b ≡ exceeds_at op ws k
unfolding exceeds_at
exceeds-end op ws k e f = rw (end-at ws k e) f

-- the loop over the entries
hit : (op : ℕ → ℕ → ℕ) (ws : List ℕ) (n k : ℕ) → k < n → exceeds_at op ws k ≡ true → exceeds op ws n ≡ true
hit op ws zero k h e = absurd (omega arith)
hit op ws (suc n) k h e = exceeds-more op ws n ∙ go (cmp k n) (hit op ws n k)
  where
    go : Cmp k n → (k < n → exceeds_at op ws k ≡ true → exceeds op ws n ≡ true) → (exceeds op ws n || exceeds_at op ws n) ≡ true
    go (below q) ih = or-one _ _ (ih q e)
    go (equal q) ih = or-other (exceeds op ws n) _ (ap (exceeds_at op ws) (sym q) ∙ e)
    go (above q) ih = absurd (omega arith)

pub overflow-hit : (op : ℕ → ℕ → ℕ) (ws : List ℕ) {n k : ℕ} {b : Bool} → k < n → b ≡ exceeds_at op ws k → b ≡ true → true ≡ exceeds op ws n
overflow-hit op ws {n} {k} h e f = sym (hit op ws n k h (sym e ∙ f))

pub overflow-start : (op : ℕ → ℕ → ℕ) (ws : List ℕ) → exceeds op ws 0 ≡ false
overflow-start op ws = exceeds-none op ws

pub overflow-on : (op : ℕ → ℕ → ℕ) (ws : List ℕ) (k : ℕ) {b : Bool} → exceeds op ws k ≡ false → b ≡ exceeds_at op ws k → b ≡ false → exceeds op ws (k + 1) ≡ false
overflow-on op ws k {b} i e f = rw (add-one k, exceeds-more op ws k, i) (sym e ∙ f)

pub overflow-end : (op : ℕ → ℕ → ℕ) (ws : List ℕ) {n k : ℕ} → exceeds op ws k ≡ false → k ≤ n → n ≤ k → false ≡ exceeds op ws n
overflow-end op ws {n} {k} i h l = let e : n ≡ k = omega arith in rw e (sym i)
