-- Labels, values and terms of a combination: a good one of good operands.
use Rattle.std.specs.Prelude.{◌≡◌, true, false, List, ℕ, ◌≤◌, length}
use Rattle.std.proofs.Common.{sym, ◌∙◌, le-ltb, ltb-false}
use Rattle.basics.specs.Tests.{Flag, is_true, is_false, flag}
use Rattle.basics.specs.Members.{clash}
use Rattle.label.specs.Labels.{is_label}
use Rattle.diagram.specs.Sizes.{most_rows, highest_value}
use Rattle.diagram.specs.Diagram.{Diagram, leaf, branch, same, EveryLabel}
use Rattle.diagram.specs.DiagramLaws.{same-eq}
use Rattle.diagram.specs.Rows.{rows}
use Rattle.diagram.specs.Listing.{Fine, Good}
use Rattle.apply.specs.declared.Operation.{Operation}
use Rattle.apply.specs.Apply.{node, apply}
use Rattle.apply.specs.Pairs.{ends, pairs, too_high, overflows}
use Rattle.apply.specs.Combination.{operate}
use Rattle.apply.specs.Walk.{Step, left, right, both, Walk, leaves, on, walk}
use Rattle.apply.specs.ApplyLaws.{node-same, node-differ, apply-leaves, apply-step, ordered-apply, reduced-apply}
use Rattle.apply.proofs.Course.{Course, stops, descends, course, ending, inner-calm}
use Rattle.apply.proofs.PairLaws.{pairs-where, Where, root, by-true, by-false, pairs-alone}
use Rattle.apply.proofs.OverflowLaws.{Overflow, overflow-found, overflow-made, calm-root, calm-true, calm-false}

pub every-node : (P : ℕ → Type 0) (l : ℕ) (t f : Diagram) → P l → EveryLabel P t → EveryLabel P f → EveryLabel P (node l t f)
every-node P l t f h x y = go (flag (same t f))
  where
    go : Flag (same t f) → EveryLabel P (node l t f)
    go (is_true e) = rw (node-same l t f e) x
    go (is_false e) = rw (node-differ l t f e) (h, x, y)

record EveryStep (P : ℕ → Type 0) (l : ℕ) (t u f g : Diagram) : Type 0 where
  at_label : P l
  at-t : EveryLabel P t
  at-u : EveryLabel P u
  at_f : EveryLabel P f
  at_g : EveryLabel P g

every-step : (P : ℕ → Type 0) {l : ℕ} {a b t u f g : Diagram} → Step l a b t u f g → EveryLabel P a → EveryLabel P b → EveryStep P l t u f g
every-step P (left h) x y = record { at_label = x.0; at-t = x.1; at-u = y; at_f = x.2; at_g = y }
every-step P (right h) x y = record { at_label = y.0; at-t = x; at-u = y.1; at_f = x; at_g = y.2 }
every-step P (both e) x y = record { at_label = x.0; at-t = x.1; at-u = y.1; at_f = x.2; at_g = y.2 }

every-walk : (op : ℕ → ℕ → ℕ) (P : ℕ → Type 0) {a b : Diagram} → Walk a b → EveryLabel P a → EveryLabel P b → EveryLabel P (apply op a b)
every-walk op P (leaves v w) x y = rw (apply-leaves op v w) tt
every-walk op P (on {l = l} {t = t} {u = u} {f = f} {g = g} s m n) x y =
    let q = every-step P s x y in
    rw (apply-step op s) (every-node P l (apply op t u) (apply op f g) q.at_label (every-walk op P m q.at-t q.at-u) (every-walk op P n q.at_f q.at_g))

-- the labels of a combination are labels of its operands
pub every-apply : (op : ℕ → ℕ → ℕ) (P : ℕ → Type 0) (a b : Diagram) → EveryLabel P a → EveryLabel P b → EveryLabel P (apply op a b)
every-apply op P a b x y = every-walk op P (walk a b) x y

-- ranges: labels are the operands', values are the leaf pairs' results
pub fine-every : (ar : List ℕ) (d : Diagram) → Fine ar d → EveryLabel (λ l. is_label ar l ≡ true) d
fine-every ar (leaf v) h = tt
fine-every ar (branch l t f) h = (h.0, fine-every ar t h.1, fine-every ar f h.2)

pub fine-node : (ar : List ℕ) (l : ℕ) (t f : Diagram) → is_label ar l ≡ true → Fine ar t → Fine ar f → Fine ar (node l t f)
fine-node ar l t f h x y = go (flag (same t f))
  where
    go : Flag (same t f) → Fine ar (node l t f)
    go (is_true e) = rw (node-same l t f e) x
    go (is_false e) = rw (node-differ l t f e) (h, x, y)

fine-course : (op : Operation) (ar : List ℕ) {a b : Diagram} → Course op a b → EveryLabel (λ l. is_label ar l ≡ true) a → EveryLabel (λ l. is_label ar l ≡ true) b
    → overflows (operate op) (pairs op a b) ≡ false → Fine ar (apply (operate op) a b)
fine-course op ar (stops {a = a} {b = b} n) x y h =
    let z = ending op a b n in
    rw z.forms (ltb-false highest_value z.value (sym z.high ∙ calm-root (operate op) op a b h))
fine-course op ar (descends {l = l} {t = t} {u = u} {f = f} {g = g} i s m n) x y h =
    let q = every-step (λ k. is_label ar k ≡ true) s x y in
    rw (apply-step (operate op) s) (fine-node ar l (apply (operate op) t u) (apply (operate op) f g) q.at_label
    (fine-course op ar m q.at-t q.at-u (calm-true (operate op) op i s h)) (fine-course op ar n q.at_f q.at_g (calm-false (operate op) op i s h)))

pub fine-apply : (op : Operation) (ar : List ℕ) (a b : Diagram) → Fine ar a → Fine ar b → overflows (operate op) (pairs op a b) ≡ false
    → Fine ar (apply (operate op) a b)
fine-apply op ar a b x y h = fine-course op ar (course op a b) (fine-every ar a x) (fine-every ar b y) h

-- and no result is in its range where a leaf pair's is not
fine-true : (ar : List ℕ) (l : ℕ) (t f : Diagram) → Fine ar (node l t f) → Fine ar t
fine-true ar l t f h = go (flag (same t f))
  where
    go : Flag (same t f) → Fine ar t
    go (is_true e) = rw (node-same l t f e) at h
    go (is_false e) = let k : Fine ar (branch l t f) = rw (node-differ l t f e) at h in k.1

fine-false : (ar : List ℕ) (l : ℕ) (t f : Diagram) → Fine ar (node l t f) → Fine ar f
fine-false ar l t f h = go (flag (same t f))
  where
    go : Flag (same t f) → Fine ar f
    go (is_true e) = let k : Fine ar t = rw (node-same l t f e) at h in rw (← same-eq t f e) k
    go (is_false e) = let k : Fine ar (branch l t f) = rw (node-differ l t f e) at h in k.2

calm-step : (op : Operation) {l : ℕ} {a b t u f g : Diagram} → ends op a b ≡ false → Step l a b t u f g → overflows (operate op) (pairs op t u) ≡ false
    → overflows (operate op) (pairs op f g) ≡ false → overflows (operate op) (pairs op a b) ≡ false
calm-step op {a = a} {b = b} {t = t} {u = u} {f = f} {g = g} n s x y = go (flag (overflows (operate op) (pairs op a b)))
  where
    found : (o : Overflow (operate op) (pairs op a b)) → Where op o.pair a b t u f g → ⊥
    found o (root e) = clash (rw e at o.high) (inner-calm (operate op) s)
    found o (by-true e) = clash (overflow-made (operate op) (pairs op t u) o.pair e o.high) x
    found o (by-false e) = clash (overflow-made (operate op) (pairs op f g) o.pair e o.high) y

    go : Flag (overflows (operate op) (pairs op a b)) → overflows (operate op) (pairs op a b) ≡ false
    go (is_true e) = let o = overflow-found (operate op) (pairs op a b) e in absurd (found o (pairs-where op o.pair n s o.member))
    go (is_false e) = e

calm-stop : (op : Operation) (a b : Diagram) → ends op a b ≡ true → too_high (operate op) a b ≡ false → overflows (operate op) (pairs op a b) ≡ false
calm-stop op a b n h = go (flag (overflows (operate op) (pairs op a b)))
  where
    found : (o : Overflow (operate op) (pairs op a b)) → o.pair ≡ (a, b) → ⊥
    found o e = clash (rw e at o.high) h

    go : Flag (overflows (operate op) (pairs op a b)) → overflows (operate op) (pairs op a b) ≡ false
    go (is_true e) = let o = overflow-found (operate op) (pairs op a b) e in absurd (found o (pairs-alone op o.pair a b n o.member))
    go (is_false e) = e

calm-course : (op : Operation) (ar : List ℕ) {a b : Diagram} → Course op a b → Fine ar (apply (operate op) a b) → overflows (operate op) (pairs op a b) ≡ false
calm-course op ar (stops {a = a} {b = b} n) h =
    let z = ending op a b n in
    let k : Fine ar (leaf z.value) = rw z.forms at h in
    calm-stop op a b n (z.high ∙ le-ltb highest_value z.value k)
calm-course op ar (descends {l = l} {a = a} {b = b} {t = t} {u = u} {f = f} {g = g} n s x y) h =
    let k : Fine ar (node l (apply (operate op) t u) (apply (operate op) f g)) = rw (apply-step (operate op) s) at h in
    calm-step op n s (calm-course op ar x (fine-true ar l (apply (operate op) t u) (apply (operate op) f g) k))
    (calm-course op ar y (fine-false ar l (apply (operate op) t u) (apply (operate op) f g) k))

pub fine-calm : (op : Operation) (ar : List ℕ) (a b : Diagram) → Fine ar (apply (operate op) a b) → overflows (operate op) (pairs op a b) ≡ false
fine-calm op ar a b h = calm-course op ar (course op a b) h

-- a combination of good diagrams that does not overflow and has at most 1,024 rows is good
pub good_apply : (op : Operation) (ar : List ℕ) (a b : Diagram) → Good ar a → Good ar b → overflows (operate op) (pairs op a b) ≡ false
    → length (rows (apply (operate op) a b)) ≤ most_rows → Good ar (apply (operate op) a b)
good_apply op ar a b x y h n = record {
  arities = x.arities;
  ordered = ordered-apply (operate op) a b x.ordered y.ordered;
  reduced = reduced-apply (operate op) a b;
  fine = fine-apply op ar a b x.fine y.fine h;
  few = n;
}
