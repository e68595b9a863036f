-- Laws of `apply`: how it goes on, its meaning, its order and reduction.
use Rattle.std.specs.Prelude.{◌≡◌, refl, Bool, true, false, cond, ℕ, suc, ◌≤◌}
use Rattle.std.proofs.Common.{sym, arith}
use Rattle.basics.specs.Tests.{Cmp, below, equal, above, cmp, cond-const, Flag, is_true, is_false, flag}
use Rattle.diagram.specs.Diagram.{Diagram, leaf, branch, same, eval, From, Ordered, Reduced}
use Rattle.diagram.specs.DiagramLaws.{same-eq, same-ne, from-weaken}
use Rattle.apply.specs.Apply.{node, apply}
use Rattle.apply.specs.Walk.{Below, Step, left, right, both, Walk, leaves, on, walk, from-below}

-- the laws of `node`: nothing else unfolds it
pub node-same : (l : ℕ) (t f : Diagram) → same t f ≡ true → node l t f ≡ t
unfolding node
node-same l t f e = rw (e, node)

pub node-differ : (l : ℕ) (t f : Diagram) → same t f ≡ false → node l t f ≡ branch l t f
unfolding node
node-differ l t f e = rw (e, node)

-- the laws of `apply`: nothing else unfolds it
pub apply-leaves : (op : ℕ → ℕ → ℕ) (v w : ℕ) → apply op (leaf v) (leaf w) ≡ leaf (op v w)
unfolding apply
apply-leaves op v w = refl

pub apply-left : (op : ℕ → ℕ → ℕ) (l : ℕ) (t f b : Diagram) → Below l b → apply op (branch l t f) b ≡ node l (apply op t b) (apply op f b)
unfolding apply
apply-left op l t f (leaf w) h = refl
apply-left op l t f (branch k u g) h = go (cmp l k) refl
  where
    go : (x : Cmp l k) → cmp l k ≡ x → apply op (branch l t f) (branch k u g) ≡ node l (apply op t (branch k u g)) (apply op f (branch k u g))
    go (below q) e = rw (e, apply)
    go (equal q) e = absurd (omega arith)
    go (above q) e = absurd (omega arith)

pub apply-right : (op : ℕ → ℕ → ℕ) (k : ℕ) (a u g : Diagram) → Below k a → apply op a (branch k u g) ≡ node k (apply op a u) (apply op a g)
unfolding apply
apply-right op k (leaf v) u g h = refl
apply-right op k (branch l t f) u g h = go (cmp l k) refl
  where
    go : (x : Cmp l k) → cmp l k ≡ x → apply op (branch l t f) (branch k u g) ≡ node k (apply op (branch l t f) u) (apply op (branch l t f) g)
    go (below q) e = absurd (omega arith)
    go (equal q) e = absurd (omega arith)
    go (above q) e = rw (e, apply)

pub apply-both : (op : ℕ → ℕ → ℕ) (l k : ℕ) (t f u g : Diagram) → l ≡ k → apply op (branch l t f) (branch k u g) ≡ node l (apply op t u) (apply op f g)
unfolding apply
apply-both op l k t f u g h = go (cmp l k) refl
  where
    go : (x : Cmp l k) → cmp l k ≡ x → apply op (branch l t f) (branch k u g) ≡ node l (apply op t u) (apply op f g)
    go (below q) e = absurd (omega arith)
    go (equal q) e = rw (e, apply)
    go (above q) e = absurd (omega arith)

pub apply-step : (op : ℕ → ℕ → ℕ) {l : ℕ} {a b t u f g : Diagram} → Step l a b t u f g → apply op a b ≡ node l (apply op t u) (apply op f g)
apply-step op (left {l = l} {t = t} {f = f} {b = b} h) = apply-left op l t f b h
apply-step op (right {k = k} {u = u} {g = g} {a = a} h) = apply-right op k a u g h
apply-step op (both {l = l} {k = k} {t = t} {f = f} {u = u} {g = g} e) = apply-both op l k t f u g e

-- meaning
pub eval-node : (c : ℕ → Bool) (l : ℕ) (t f : Diagram) → eval c (node l t f) ≡ cond (c l) (eval c t) (eval c f)
unfolding eval
eval-node c l t f = go (flag (same t f))
  where
    go : Flag (same t f) → eval c (node l t f) ≡ cond (c l) (eval c t) (eval c f)
    go (is_true e) = rw (node-same l t f e, same-eq t f e) (sym (cond-const (c l) (eval c f)))
    go (is_false e) = rw (node-differ l t f e)

cond-left : (b : Bool) (op : ℕ → ℕ → ℕ) (x y z : ℕ) → cond b (op x z) (op y z) ≡ op (cond b x y) z
cond-left true op x y z = refl
cond-left false op x y z = refl

cond-right : (b : Bool) (op : ℕ → ℕ → ℕ) (x y z : ℕ) → cond b (op z x) (op z y) ≡ op z (cond b x y)
cond-right true op x y z = refl
cond-right false op x y z = refl

cond_both : (b : Bool) (op : ℕ → ℕ → ℕ) (x y z w : ℕ) → cond b (op x z) (op y w) ≡ op (cond b x y) (cond b z w)
cond_both true op x y z w = refl
cond_both false op x y z w = refl

eval-step : (op : ℕ → ℕ → ℕ) (c : ℕ → Bool) {l : ℕ} {a b t u f g : Diagram} → Step l a b t u f g
    → cond (c l) (op (eval c t) (eval c u)) (op (eval c f) (eval c g)) ≡ op (eval c a) (eval c b)
unfolding eval
eval-step op c (left {l = l} {t = t} {f = f} {b = b} h) = cond-left (c l) op (eval c t) (eval c f) (eval c b)
eval-step op c (right {k = k} {u = u} {g = g} {a = a} h) = cond-right (c k) op (eval c u) (eval c g) (eval c a)
eval-step op c (both {l = l} {t = t} {f = f} {u = u} {g = g} e) = rw (← e) (cond_both (c l) op (eval c t) (eval c f) (eval c u) (eval c g))

eval-walk : (op : ℕ → ℕ → ℕ) (c : ℕ → Bool) {a b : Diagram} → Walk a b → eval c (apply op a b) ≡ op (eval c a) (eval c b)
unfolding eval
eval-walk op c (leaves v w) = rw (apply-leaves op v w)
eval-walk op c (on s x y) = rw (apply-step op s, eval-node, eval-walk op c x, eval-walk op c y) (eval-step op c s)

-- each choice leads to what the operation makes of the operands' leaves
pub eval_apply : (op : ℕ → ℕ → ℕ) (c : ℕ → Bool) (a b : Diagram) → eval c (apply op a b) ≡ op (eval c a) (eval c b)
eval_apply op c a b = eval-walk op c (walk a b)

-- order and reduction
pub from-node : (n l : ℕ) (t f : Diagram) → n ≤ l → From (suc l) t → From (suc l) f → From n (node l t f)
from-node n l t f h o p = go (flag (same t f))
  where
    go : Flag (same t f) → From n (node l t f)
    go (is_true e) = rw (node-same l t f e) (from-weaken n (suc l) t (omega arith) o)
    go (is_false e) = rw (node-differ l t f e) (h, o, p)

pub reduced-node : (l : ℕ) (t f : Diagram) → Reduced t → Reduced f → Reduced (node l t f)
reduced-node l t f r s = go (flag (same t f))
  where
    go : Flag (same t f) → Reduced (node l t f)
    go (is_true e) = rw (node-same l t f e) r
    go (is_false e) = rw (node-differ l t f e) (same-ne t f e, r, s)

-- what a pair from n on goes down to is above its label
pub record Onward (n l : ℕ) (t u f g : Diagram) : Type 0 where
  pub reach : n ≤ l
  pub on-t : From (suc l) t
  pub on-u : From (suc l) u
  pub on-f : From (suc l) f
  pub on-g : From (suc l) g

pub from_step : (n : ℕ) {l : ℕ} {a b t u f g : Diagram} → Step l a b t u f g → From n a → From n b → Onward n l t u f g
from_step n (left {l = l} {b = b} h) o p =
    let q = from-below n l b p h in record { reach = o.0; on-t = o.1; on-u = q; on-f = o.2; on-g = q }
from_step n (right {k = k} {a = a} h) o p =
    let q = from-below n k a o h in record { reach = p.0; on-t = q; on-u = p.1; on-f = q; on-g = p.2 }
from_step n (both e) o p = record { reach = o.0; on-t = o.1; on-u = rw e p.1; on-f = o.2; on-g = rw e p.2 }

from-walk : (op : ℕ → ℕ → ℕ) (n : ℕ) {a b : Diagram} → Walk a b → From n a → From n b → From n (apply op a b)
from-walk op n (leaves v w) o p = rw (apply-leaves op v w) tt
from-walk op n (on {l = l} {t = t} {u = u} {f = f} {g = g} s x y) o p =
    let q = from_step n s o p in
    rw (apply-step op s) (from-node n l (apply op t u) (apply op f g) q.reach (from-walk op (suc l) x q.on-t q.on-u) (from-walk op (suc l) y q.on-f q.on-g))

pub from-apply : (op : ℕ → ℕ → ℕ) (n : ℕ) (a b : Diagram) → From n a → From n b → From n (apply op a b)
from-apply op n a b o p = from-walk op n (walk a b) o p

pub ordered-apply : (op : ℕ → ℕ → ℕ) (a b : Diagram) → Ordered a → Ordered b → Ordered (apply op a b)
ordered-apply op a b o p = from-apply op 0 a b o p

reduced-walk : (op : ℕ → ℕ → ℕ) {a b : Diagram} → Walk a b → Reduced (apply op a b)
reduced-walk op (leaves v w) = rw (apply-leaves op v w) tt
reduced-walk op (on {l = l} {t = t} {u = u} {f = f} {g = g} s x y) =
    rw (apply-step op s) (reduced-node l (apply op t u) (apply op f g) (reduced-walk op x) (reduced-walk op y))

pub reduced-apply : (op : ℕ → ℕ → ℕ) (a b : Diagram) → Reduced (apply op a b)
reduced-apply op a b = reduced-walk op (walk a b)
