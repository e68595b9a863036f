-- The pairs are the least closed set that holds both roots; the laws of overflow.
use Rattle.std.specs.Prelude.{◌≡◌, Bool, true, false, cond, List, [], ◌∷◌, ◌++◌, ℕ, length}
use Rattle.std.proofs.Math.Path.{refl}
use Rattle.std.proofs.Common.{sym, arith, le-leb}
use Rattle.std.proofs.lemmas.Bool.{lt-leb}
use Rattle.basics.specs.Tests.{Cmp, below, equal, above, cmp, and_left, and_right, Either, one, other, either, or-one, or-other}
use Rattle.basics.specs.Members.{IsTest, mem, NoDup, nodup-count, clash, append_cases, append-one, append-other}
use Rattle.diagram.specs.Diagram.{Diagram, leaf, branch, same}
use Rattle.diagram.specs.DiagramLaws.{same-eq, same_refl}
use Rattle.apply.specs.declared.Operation.{Operation}
use Rattle.apply.specs.Pairs.{Pair, same_pair, ends, descend, successor, ClosedPairs, LeastPairs, pairs, pair_count}
use Rattle.apply.specs.Walk.{Below, Step, left, right, both}
use Rattle.apply.proofs.Course.{Course, stops, descends, course}

pub pair-test : IsTest same_pair
pair-test = record {
  sound = λ p q e. λ i. (same-eq p.0 q.0 (and_left _ _ e) i, same-eq p.1 q.1 (and_right (same p.0 q.0) _ e) i);
  complete = λ p. rw (same_refl p.0, same_refl p.1);
}

-- the successors of a pair, by the way in which it goes down
stays : (w : Bool) (l : ℕ) (t f b : Diagram) → Below l b → descend w b (branch l t f) ≡ b
unfolding descend
stays w l t f (leaf v) h = refl
stays w l t f (branch k u g) h = rw (lt-leb k l h)

goes : (w : Bool) (l : ℕ) (t f b : Diagram) → Below l b → descend w (branch l t f) b ≡ cond w t f
unfolding descend
goes w l t f (leaf v) h = refl
goes w l t f (branch k u g) h = rw (le-leb l k (omega arith))

levels : (w : Bool) (l k : ℕ) (t f u g : Diagram) → l ≡ k → descend w (branch l t f) (branch k u g) ≡ cond w t f
unfolding descend
levels w l k t f u g h = rw (le-leb l k (omega arith))

pub successor-step : (w : Bool) {l : ℕ} {a b t u f g : Diagram} → Step l a b t u f g → successor w (a, b) ≡ (cond w t f, cond w u g)
unfolding successor
successor-step true (left {l = l} {t = t} {f = f} {b = b} h) = λ i. (goes true l t f b h i, stays true l t f b h i)
successor-step false (left {l = l} {t = t} {f = f} {b = b} h) = λ i. (goes false l t f b h i, stays false l t f b h i)
successor-step true (right {k = k} {u = u} {g = g} {a = a} h) = λ i. (stays true k u g a h i, goes true k u g a h i)
successor-step false (right {k = k} {u = u} {g = g} {a = a} h) = λ i. (stays false k u g a h i, goes false k u g a h i)
successor-step w (both {l = l} {k = k} {t = t} {f = f} {u = u} {g = g} e) = λ i. (levels w l k t f u g e i, levels w k l u g t f (sym e) i)

-- where a pair of the pairs from (a, b) on stands
pub data Where (op : Operation) (p : Pair) (a b t u f g : Diagram) : Type 0 where
  root : p ≡ (a, b) → Where op p a b t u f g
  by-true : mem same_pair p (pairs op t u) ≡ true → Where op p a b t u f g
  by-false : mem same_pair p (pairs op f g) ≡ true → Where op p a b t u f g

-- the laws of `pairs`: nothing else unfolds it
module _ (op : Operation) where
  pub pairs-stop : (a b : Diagram) → ends op a b ≡ true → pairs op a b ≡ (a, b) ∷ []
  unfolding pairs
  pairs-stop (leaf v) (leaf w) e = refl
  pairs-stop (leaf v) (branch k u g) e = rw (e, pairs)
  pairs-stop (branch l t f) (leaf w) e = rw (e, pairs)
  pairs-stop (branch l t f) (branch k u g) e = rw (e, pairs)

  pairs-left : (l : ℕ) (t f b : Diagram) → ends op (branch l t f) b ≡ false → Below l b → pairs op (branch l t f) b ≡ (branch l t f, b) ∷ (pairs op t b ++ pairs op f b)
  unfolding pairs
  pairs-left l t f (leaf w) n h = rw (n, pairs)
  pairs-left l t f (branch k u g) n h = go (cmp l k) refl
    where
      go : (x : Cmp l k) → cmp l k ≡ x
          → pairs op (branch l t f) (branch k u g) ≡ (branch l t f, branch k u g) ∷ (pairs op t (branch k u g) ++ pairs op f (branch k u g))
      go (below q) e = rw (n, e, pairs)
      go (equal q) e = absurd (omega arith)
      go (above q) e = absurd (omega arith)

  pairs-right : (k : ℕ) (a u g : Diagram) → ends op a (branch k u g) ≡ false → Below k a → pairs op a (branch k u g) ≡ (a, branch k u g) ∷ (pairs op a u ++ pairs op a g)
  unfolding pairs
  pairs-right k (leaf v) u g n h = rw (n, pairs)
  pairs-right k (branch l t f) u g n h = go (cmp l k) refl
    where
      go : (x : Cmp l k) → cmp l k ≡ x
          → pairs op (branch l t f) (branch k u g) ≡ (branch l t f, branch k u g) ∷ (pairs op (branch l t f) u ++ pairs op (branch l t f) g)
      go (below q) e = absurd (omega arith)
      go (equal q) e = absurd (omega arith)
      go (above q) e = rw (n, e, pairs)

  pairs-both : (l k : ℕ) (t f u g : Diagram) → ends op (branch l t f) (branch k u g) ≡ false → l ≡ k
      → pairs op (branch l t f) (branch k u g) ≡ (branch l t f, branch k u g) ∷ (pairs op t u ++ pairs op f g)
  unfolding pairs
  pairs-both l k t f u g n h = go (cmp l k) refl
    where
      go : (x : Cmp l k) → cmp l k ≡ x → pairs op (branch l t f) (branch k u g) ≡ (branch l t f, branch k u g) ∷ (pairs op t u ++ pairs op f g)
      go (below q) e = absurd (omega arith)
      go (equal q) e = rw (n, e, pairs)
      go (above q) e = absurd (omega arith)

  pub pairs-step : {l : ℕ} {a b t u f g : Diagram} → ends op a b ≡ false → Step l a b t u f g → pairs op a b ≡ (a, b) ∷ (pairs op t u ++ pairs op f g)
  pairs-step n (left {l = l} {t = t} {f = f} {b = b} h) = pairs-left l t f b n h
  pairs-step n (right {k = k} {u = u} {g = g} {a = a} h) = pairs-right k a u g n h
  pairs-step n (both {l = l} {k = k} {t = t} {f = f} {u = u} {g = g} e) = pairs-both l k t f u g n e

  pub pairs-where : (p : Pair) {l : ℕ} {a b t u f g : Diagram} → ends op a b ≡ false → Step l a b t u f g → mem same_pair p (pairs op a b) ≡ true → Where op p a b t u f g
  pairs-where p {a = a} {b = b} {t = t} {u = u} {f = f} {g = g} n s h =
      go (either (same_pair p (a, b)) (mem same_pair p (pairs op t u ++ pairs op f g)) (rw (pairs-step n s) at h))
    where
      side : Either (mem same_pair p (pairs op t u)) (mem same_pair p (pairs op f g)) → Where op p a b t u f g
      side (one q) = by-true q
      side (other q) = by-false q

      go : Either (same_pair p (a, b)) (mem same_pair p (pairs op t u ++ pairs op f g)) → Where op p a b t u f g
      go (one q) = root (pair-test.sound p (a, b) q)
      go (other q) = side (append_cases same_pair p (pairs op t u) (pairs op f g) q)

  pub pairs-alone : (p : Pair) (a b : Diagram) → ends op a b ≡ true → mem same_pair p (pairs op a b) ≡ true → p ≡ (a, b)
  pairs-alone p a b e h = go (either (same_pair p (a, b)) false (rw (pairs-stop a b e) at h))
    where
      go : Either (same_pair p (a, b)) false → p ≡ (a, b)
      go (one q) = pair-test.sound p (a, b) q
      go (other q) = clash q refl

  -- and the converse
  pub in-true : (p : Pair) {l : ℕ} {a b t u f g : Diagram} → ends op a b ≡ false → Step l a b t u f g → mem same_pair p (pairs op t u) ≡ true → mem same_pair p (pairs op a b) ≡ true
  in-true p {a = a} {b = b} {t = t} {u = u} {f = f} {g = g} n s h =
      rw (pairs-step n s) (or-other (same_pair p (a, b)) _ (append-one same_pair p (pairs op t u) (pairs op f g) h))

  pub in-false : (p : Pair) {l : ℕ} {a b t u f g : Diagram} → ends op a b ≡ false → Step l a b t u f g → mem same_pair p (pairs op f g) ≡ true → mem same_pair p (pairs op a b) ≡ true
  in-false p {a = a} {b = b} {t = t} {u = u} {f = f} {g = g} n s h =
      rw (pairs-step n s) (or-other (same_pair p (a, b)) _ (append-other same_pair p (pairs op t u) (pairs op f g) h))

  root-course : {a b : Diagram} → Course op a b → mem same_pair (a, b) (pairs op a b) ≡ true
  root-course (stops {a = a} {b = b} e) = rw (pairs-stop a b e) (or-one _ _ (pair-test.complete (a, b)))
  root-course (descends {a = a} {b = b} n s x y) = rw (pairs-step n s) (or-one _ _ (pair-test.complete (a, b)))

  pub pairs-root : (a b : Diagram) → mem same_pair (a, b) (pairs op a b) ≡ true
  pairs-root a b = root-course (course op a b)

  abbrev Shut : Diagram → Diagram → Type 0
  Shut a b = (p : Pair) → mem same_pair p (pairs op a b) ≡ true → ends op p.0 p.1 ≡ false → (w : Bool) → mem same_pair (successor w p) (pairs op a b) ≡ true

  shut-step : {l : ℕ} {a b t u f g : Diagram} → ends op a b ≡ false → Step l a b t u f g → Shut t u → Shut f g → Shut a b
  shut-step {a = a} {b = b} {t = t} {u = u} {f = f} {g = g} i s x y p h n w = go (pairs-where p i s h)
    where
      ways : (w : Bool) → mem same_pair (cond w t f, cond w u g) (pairs op a b) ≡ true
      ways true = in-true (t, u) i s (pairs-root t u)
      ways false = in-false (f, g) i s (pairs-root f g)

      go : Where op p a b t u f g → mem same_pair (successor w p) (pairs op a b) ≡ true
      go (root e) = rw (e, successor-step w s) (ways w)
      go (by-true e) = in-true (successor w p) i s (x p e n w)
      go (by-false e) = in-false (successor w p) i s (y p e n w)

  shut-course : {a b : Diagram} → Course op a b → Shut a b
  shut-course (stops {a = a} {b = b} e) p h n w = clash e (rw (pairs-alone p a b e h) at n)
  shut-course (descends i s x y) p h n w = shut-step i s (shut-course x) (shut-course y) p h n w

  pub pairs-closed : (a b : Diagram) → ClosedPairs op (pairs op a b)
  pairs-closed a b = record { successors = shut-course (course op a b) }

  -- what holds of both roots and, with each pair that goes down, of its successors holds of every pair
  induct-course : (H : Pair → Type 0) → ((p : Pair) → H p → ends op p.0 p.1 ≡ false → (w : Bool) → H (successor w p))
      → {a b : Diagram} → Course op a b → H (a, b) → (p : Pair) → mem same_pair p (pairs op a b) ≡ true → H p
  induct-course H k (stops {a = a} {b = b} n) h p e = rw (pairs-alone p a b n e) h
  induct-course H k (descends {a = a} {b = b} {t = t} {u = u} {f = f} {g = g} i s x y) h p e =
      let n = k (a, b) h i in
      let ht : H (t, u) = rw (successor-step true s) at (n true) in
      let hf : H (f, g) = rw (successor-step false s) at (n false) in
      go (pairs-where p i s e) (induct-course H k x ht p) (induct-course H k y hf p)
    where
      go : Where op p a b t u f g → (mem same_pair p (pairs op t u) ≡ true → H p) → (mem same_pair p (pairs op f g) ≡ true → H p) → H p
      go (root q) m n = rw q h
      go (by-true q) m n = m q
      go (by-false q) m n = n q

  pub pairs-induct : (H : Pair → Type 0) → ((p : Pair) → H p → ends op p.0 p.1 ≡ false → (w : Bool) → H (successor w p))
      → (a b : Diagram) → H (a, b) → (p : Pair) → mem same_pair p (pairs op a b) ≡ true → H p
  pairs-induct H k a b h p e = induct-course H k (course op a b) h p e

  pub pairs-least : (a b : Diagram) → LeastPairs op a b (pairs op a b)
  pairs-least a b = record { roots = pairs-root a b; closed = pairs-closed a b; least = λ n r c. pairs-induct (λ p. mem same_pair p n ≡ true) c.successors a b r }

  -- how many pairs a list has that is the least set, without repeats
  pub least-count : (a b : Diagram) (m : List Pair) → NoDup same_pair m → LeastPairs op a b m → length m ≡ pair_count op a b
  unfolding pair_count
  least-count a b m d r =
      nodup-count same_pair pair-test (pairs op a b) m d ((pairs-least a b).least m r.roots r.closed) (r.least (pairs op a b) (pairs-root a b) (pairs-closed a b))
