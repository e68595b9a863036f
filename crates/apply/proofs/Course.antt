-- How the walk of an operation's pairs goes on: a view over which the laws of pairs recurse; and what a pair forms where it ends.
use Rattle.std.specs.Prelude.{◌≡◌, refl, true, false, ℕ, ltb}
use Rattle.std.proofs.Common.{ap, ap₂, ◌∙◌, zero-mul, mul-zero, eqb-true}
use Rattle.basics.specs.Tests.{Flag, is_true, is_false, flag}
use Rattle.basics.specs.Members.{clash}
use Rattle.diagram.specs.Sizes.{highest_value}
use Rattle.diagram.specs.Diagram.{Diagram, leaf, branch}
use Rattle.diagram.specs.DiagramLaws.{same_refl}
use Rattle.apply.specs.declared.Operation.{Operation}
use Rattle.apply.specs.declared.Operation.TheVariants.{Sum, Product, Max}
use Rattle.apply.specs.Apply.{node, apply}
use Rattle.apply.specs.Pairs.{absorbs, ends, too_high}
use Rattle.apply.specs.Combination.{operate}
use Rattle.apply.specs.Walk.{Step, left, right, both, Walk, leaves, on, walk}
use Rattle.apply.specs.ApplyLaws.{node-same, apply-leaves, apply-left, apply-right}

-- the walk below the pair (a, b)
pub data Course (op : Operation) : Diagram → Diagram → Type 0 where
  stops : {a b : Diagram} → ends op a b ≡ true → Course op a b
  descends : {l : ℕ} {a b t u f g : Diagram} → ends op a b ≡ false → Step l a b t u f g → Course op t u → Course op f g → Course op a b

-- two leaves end
pub leaves-end : (op : Operation) (v w : ℕ) → ends op (leaf v) (leaf w) ≡ true
unfolding ends
leaves-end op v w = refl

course-walk : (op : Operation) {a b : Diagram} → Walk a b → Course op a b
course-walk op (leaves v w) = stops (leaves-end op v w)
course-walk op (on {a = a} {b = b} {t = t} {u = u} {f = f} {g = g} s x y) = go (flag (ends op a b)) (course-walk op x) (course-walk op y)
  where
    go : Flag (ends op a b) → Course op t u → Course op f g → Course op a b
    go (is_true e) m n = stops e
    go (is_false e) m n = descends e s m n

pub course : (op : Operation) (a b : Diagram) → Course op a b
course op a b = course-walk op (walk a b)

-- what stands beside a leaf that absorbs forms leaf 0
pub absorb-left : (op : Operation) (v w : ℕ) → absorbs op v ≡ true → operate op v w ≡ 0
absorb-left Sum v w e = clash e refl
absorb-left Product v w e = rw (eqb-true v 0 e) (zero-mul w)
absorb-left Max v w e = clash e refl

pub absorb-right : (op : Operation) (v w : ℕ) → absorbs op w ≡ true → operate op v w ≡ 0
absorb-right Sum v w e = clash e refl
absorb-right Product v w e = rw (eqb-true w 0 e) (mul-zero v)
absorb-right Max v w e = clash e refl

node-zero : (l : ℕ) → node l (leaf 0) (leaf 0) ≡ leaf 0
node-zero l = node-same l (leaf 0) (leaf 0) (same_refl (leaf 0))

pub absorbed-left : (op : Operation) (v : ℕ) (b : Diagram) → absorbs op v ≡ true → apply (operate op) (leaf v) b ≡ leaf 0
absorbed-left op v (leaf w) e = apply-leaves (operate op) v w ∙ ap leaf (absorb-left op v w e)
absorbed-left op v (branch k u g) e =
    apply-right (operate op) k (leaf v) u g tt ∙ ap₂ (node k) (absorbed-left op v u e) (absorbed-left op v g e) ∙ node-zero k

pub absorbed-right : (op : Operation) (a : Diagram) (w : ℕ) → absorbs op w ≡ true → apply (operate op) a (leaf w) ≡ leaf 0
absorbed-right op (leaf v) w e = apply-leaves (operate op) v w ∙ ap leaf (absorb-right op v w e)
absorbed-right op (branch l t f) w e =
    apply-left (operate op) l t f (leaf w) tt ∙ ap₂ (node l) (absorbed-right op t w e) (absorbed-right op f w e) ∙ node-zero l

-- a pair that ends forms a leaf, above 10^18 exactly if the pair is
pub record Ending (op : Operation) (a b : Diagram) : Type 0 where
  pub value : ℕ
  pub forms : apply (operate op) a b ≡ leaf value
  pub high : too_high (operate op) a b ≡ ltb highest_value value

pub ending : (op : Operation) (a b : Diagram) → ends op a b ≡ true → Ending op a b
unfolding ends
ending op (leaf v) (leaf w) e = record { value = operate op v w; forms = apply-leaves (operate op) v w; high = refl }
ending op (leaf v) (branch k u g) e = record { value = 0; forms = absorbed-left op v (branch k u g) e; high = refl }
ending op (branch l t f) (leaf w) e = record { value = 0; forms = absorbed-right op (branch l t f) w e; high = refl }
ending op (branch l t f) (branch k u g) e = clash e refl

-- a pair that goes down is no leaf pair
pub inner-calm : (op : ℕ → ℕ → ℕ) {l : ℕ} {a b t u f g : Diagram} → Step l a b t u f g → too_high op a b ≡ false
inner-calm op (left h) = refl
inner-calm op (right {a = leaf v} h) = refl
inner-calm op (right {a = branch l t f} h) = refl
inner-calm op (both e) = refl
