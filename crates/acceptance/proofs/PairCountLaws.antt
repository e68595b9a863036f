-- How many pairs the three combinations of a row step have.
use Rattle.std.specs.Prelude.{◌≡◌, refl, ℕ, suc, ◌+◌, ◌*◌, ◌≤◌, length}
use Rattle.std.proofs.Common.{ap, sym, ◌∙◌, arith, length-append}
use Rattle.basics.specs.Tests.{Flag, is_true, is_false, flag}
use Rattle.basics.specs.Members.{nub, mem-nub, nodup-nub, nodup-le}
use Rattle.diagram.specs.Diagram.{Diagram, leaf, branch, same}
use Rattle.diagram.specs.Inner.{size}
use Rattle.diagram.specs.DiagramLaws.{same-eq}
use Rattle.apply.specs.declared.Operation.{Operation}
use Rattle.apply.specs.declared.Operation.TheVariants.{Sum}
use Rattle.apply.specs.Apply.{node}
use Rattle.apply.specs.ApplyLaws.{node-same, node-differ}
use Rattle.apply.specs.Pairs.{same_pair, ends, pairs, pair_count}
use Rattle.apply.proofs.PairLaws.{pair-test, pairs-stop, pairs-step}
use Rattle.apply.specs.Walk.{Below, Step, left, right, both}

count_most : (op : Operation) (a b : Diagram) → pair_count op a b ≤ length (pairs op a b)
unfolding pair_count
count_most op a b =
    nodup-le same_pair pair-test (nub same_pair (pairs op a b)) (pairs op a b) (nodup-nub same_pair pair-test (pairs op a b))
    (λ p e. sym (mem-nub same_pair pair-test p (pairs op a b)) ∙ e)

-- a pair and those of its successors, if it has any
step-most : (op : Operation) {l : ℕ} {a b t u f g : Diagram} → Step l a b t u f g
    → length (pairs op a b) ≤ suc (length (pairs op t u) + length (pairs op f g))
step-most op {a = a} {b = b} {t = t} {u = u} {f = f} {g = g} s = go (flag (ends op a b))
  where
    go : Flag (ends op a b) → length (pairs op a b) ≤ suc (length (pairs op t u) + length (pairs op f g))
    go (is_true e) = omega (arith, ap length (pairs-stop op a b e))
    go (is_false e) = omega (arith, ap length (pairs-step op e s), length-append (pairs op t u) (pairs op f g))

-- a leaf beside d: one pair for each node of the tree
leaf-left : (op : Operation) (v : ℕ) (d : Diagram) → length (pairs op (leaf v) d) ≤ 1 + 2 * size d
unfolding size ends
leaf-left op v (leaf w) = omega (arith, ap length (pairs-stop op (leaf v) (leaf w) refl))
leaf-left op v (branch k u g) = omega (arith, step-most op (right {k = k} {u = u} {g = g} {a = leaf v} tt), leaf-left op v u, leaf-left op v g)

leaf-right : (op : Operation) (w : ℕ) (d : Diagram) → length (pairs op d (leaf w)) ≤ 1 + 2 * size d
unfolding size ends
leaf-right op w (leaf v) = omega (arith, ap length (pairs-stop op (leaf v) (leaf w) refl))
leaf-right op w (branch l t f) = omega (arith, step-most op (left {l = l} {t = t} {f = f} {b = leaf w} tt), leaf-right op w t, leaf-right op w f)

-- a product of T or 1 - T
pub test-pairs : (op : Operation) (l v w : ℕ) (d : Diagram) → Below l d → pair_count op (branch l (leaf v) (leaf w)) d ≤ 3 + 4 * size d
test-pairs op l v w d h =
    omega (
      arith,
      count_most op (branch l (leaf v) (leaf w)) d,
      step-most op (left {l = l} {t = leaf v} {f = leaf w} {b = d} h),
      leaf-left op v d,
      leaf-left op w d,
    )

-- the sum
size-node : (l : ℕ) (t f : Diagram) → size (node l t f) ≤ suc (size t + size f)
unfolding size
size-node l t f = go (flag (same t f))
  where
    go : Flag (same t f) → size (node l t f) ≤ suc (size t + size f)
    go (is_true e) = rw (node-same l t f e) (omega arith)
    go (is_false e) = rw (node-differ l t f e) (omega arith)

pub sum-pairs : (l : ℕ) (t f : Diagram) → pair_count Sum (node l t (leaf 0)) (node l (leaf 0) f) ≤ 3 + 2 * size t + 2 * size f
unfolding size
sum-pairs l t f = go (flag (same t (leaf 0))) (flag (same (leaf 0) f))
  where
    go : Flag (same t (leaf 0)) → Flag (same (leaf 0) f) → pair_count Sum (node l t (leaf 0)) (node l (leaf 0) f) ≤ 3 + 2 * size t + 2 * size f
    go (is_true p) q =
        let z : node l t (leaf 0) ≡ leaf 0 = node-same l t (leaf 0) p ∙ same-eq t (leaf 0) p in
        rw z (omega (arith, count_most Sum (leaf 0) (node l (leaf 0) f), leaf-left Sum 0 (node l (leaf 0) f), size-node l (leaf 0) f))
    go (is_false p) (is_true q) =
        rw (node-same l (leaf 0) f q) (omega (arith, count_most Sum (node l t (leaf 0)) (leaf 0), leaf-right Sum 0 (node l t (leaf 0)), size-node l t (leaf 0)))
    go (is_false p) (is_false q) =
        rw (node-differ l t (leaf 0) p, node-differ l (leaf 0) f q)
        (omega (
          arith,
          count_most Sum (branch l t (leaf 0)) (branch l (leaf 0) f),
          step-most Sum (both {l = l} {k = l} {t = t} {f = leaf 0} {u = leaf 0} {g = f} refl),
          leaf-right Sum 0 t,
          leaf-left Sum 0 f,
        ))
