-- Laws of `visit`: how it goes on, that it only adds, repeats nothing, and finishes the pairs of the combination.
use Rattle.std.specs.Prelude.{◌≡◌, Bool, true, false, cond, List, [], ◌∷◌, ◌++◌, ℕ, ◌+◌, ◌≤◌, length}
use Rattle.std.proofs.Math.Path.{refl}
use Rattle.std.proofs.Common.{arith}
use Rattle.basics.specs.Tests.{Cmp, below, equal, above, cmp, Flag, is_true, is_false, flag, Either, one, other}
use Rattle.basics.specs.Members.{mem, NoDup, Within, clash, mem-snoc, append-one, snoc-cases, nodup-snoc}
use Rattle.basics.specs.Prefix.{Prefix, prefix_refl, prefix_trans, prefix-snoc, mem-prefix}
use Rattle.diagram.specs.Diagram.{Diagram, leaf, branch}
use Rattle.diagram.specs.Inner.{size}
use Rattle.apply.specs.declared.Operation.{Operation}
use Rattle.apply.specs.Pairs.{Pair, same_pair, ends, successor, ClosedPairs, LeastPairs, pairs, pair_count}
use Rattle.apply.specs.Visit.{visit}
use Rattle.apply.specs.Walk.{Below, Step, left, right, both, small-true, small-false}
use Rattle.apply.proofs.Course.{Course, stops, descends, course}
use Rattle.apply.proofs.PairLaws.{pair-test, successor-step, pairs-root, pairs-least, in-true, in-false, least-count, Where, root, by-true, by-false, pairs-where, pairs-alone}

-- the laws of `visit`: nothing else unfolds it
module _ (op : Operation) where
  pub visit-old : (a b : Diagram) (done : List Pair) → mem same_pair (a, b) done ≡ true → visit op a b done ≡ done
  unfolding visit
  visit-old (leaf v) (leaf w) done e = rw (e, visit)
  visit-old (leaf v) (branch k u g) done e = rw (e, visit)
  visit-old (branch l t f) (leaf w) done e = rw (e, visit)
  visit-old (branch l t f) (branch k u g) done e = rw (e, visit)

  pub visit-stop : (a b : Diagram) (done : List Pair) → ends op a b ≡ true → mem same_pair (a, b) done ≡ false → visit op a b done ≡ done ++ ((a, b) ∷ [])
  unfolding visit
  visit-stop (leaf v) (leaf w) done n e = rw (e, visit)
  visit-stop (leaf v) (branch k u g) done n e = rw (e, n, visit)
  visit-stop (branch l t f) (leaf w) done n e = rw (e, n, visit)
  visit-stop (branch l t f) (branch k u g) done n e = rw (e, n, visit)

  visit-left : (l : ℕ) (t f b : Diagram) (done : List Pair) → ends op (branch l t f) b ≡ false → mem same_pair (branch l t f, b) done ≡ false → Below l b
      → visit op (branch l t f) b done ≡ visit op f b (visit op t b done) ++ ((branch l t f, b) ∷ [])
  unfolding visit
  visit-left l t f (leaf w) done n e h = rw (e, n, visit)
  visit-left l t f (branch k u g) done n e h = go (cmp l k) refl
    where
      go : (x : Cmp l k) → cmp l k ≡ x
          → visit op (branch l t f) (branch k u g) done ≡ visit op f (branch k u g) (visit op t (branch k u g) done) ++ ((branch l t f, branch k u g) ∷ [])
      go (below q) d = rw (e, n, d, visit)
      go (equal q) d = absurd (omega arith)
      go (above q) d = absurd (omega arith)

  visit-right : (k : ℕ) (a u g : Diagram) (done : List Pair) → ends op a (branch k u g) ≡ false → mem same_pair (a, branch k u g) done ≡ false → Below k a
      → visit op a (branch k u g) done ≡ visit op a g (visit op a u done) ++ ((a, branch k u g) ∷ [])
  unfolding visit
  visit-right k (leaf v) u g done n e h = rw (e, n, visit)
  visit-right k (branch l t f) u g done n e h = go (cmp l k) refl
    where
      go : (x : Cmp l k) → cmp l k ≡ x
          → visit op (branch l t f) (branch k u g) done ≡ visit op (branch l t f) g (visit op (branch l t f) u done) ++ ((branch l t f, branch k u g) ∷ [])
      go (below q) d = absurd (omega arith)
      go (equal q) d = absurd (omega arith)
      go (above q) d = rw (e, n, d, visit)

  visit-both : (l k : ℕ) (t f u g : Diagram) (done : List Pair) → ends op (branch l t f) (branch k u g) ≡ false → mem same_pair (branch l t f, branch k u g) done ≡ false
      → l ≡ k → visit op (branch l t f) (branch k u g) done ≡ visit op f g (visit op t u done) ++ ((branch l t f, branch k u g) ∷ [])
  unfolding visit
  visit-both l k t f u g done n e h = go (cmp l k) refl
    where
      go : (x : Cmp l k) → cmp l k ≡ x → visit op (branch l t f) (branch k u g) done ≡ visit op f g (visit op t u done) ++ ((branch l t f, branch k u g) ∷ [])
      go (below q) d = absurd (omega arith)
      go (equal q) d = rw (e, n, d, visit)
      go (above q) d = absurd (omega arith)

  pub visit-step : {l : ℕ} {a b t u f g : Diagram} (done : List Pair) → ends op a b ≡ false → Step l a b t u f g → mem same_pair (a, b) done ≡ false
      → visit op a b done ≡ visit op f g (visit op t u done) ++ ((a, b) ∷ [])
  visit-step done n (left {l = l} {t = t} {f = f} {b = b} h) e = visit-left l t f b done n e h
  visit-step done n (right {k = k} {u = u} {g = g} {a = a} h) e = visit-right k a u g done n e h
  visit-step done n (both {l = l} {k = k} {t = t} {f = f} {u = u} {g = g} q) e = visit-both l k t f u g done n e q

  -- the walk only adds
  abbrev Grows : Diagram → Diagram → Type 0
  Grows a b = (done : List Pair) → Prefix done (visit op a b done)

  grows-step : {l : ℕ} {a b t u f g : Diagram} → ends op a b ≡ false → Step l a b t u f g → Grows t u → Grows f g → Grows a b
  grows-step {a = a} {b = b} {t = t} {u = u} {f = f} {g = g} n s x y done = go (flag (mem same_pair (a, b) done))
    where
      inner : List Pair
      inner = visit op f g (visit op t u done)

      go : Flag (mem same_pair (a, b) done) → Prefix done (visit op a b done)
      go (is_true e) = rw (visit-old a b done e) (prefix_refl done)
      go (is_false e) =
          rw (visit-step done n s e) (prefix_trans (prefix_trans (x done) (y (visit op t u done))) (prefix-snoc inner (a, b)))

  grows-stop : (a b : Diagram) → ends op a b ≡ true → Grows a b
  grows-stop a b n done = go (flag (mem same_pair (a, b) done))
    where
      go : Flag (mem same_pair (a, b) done) → Prefix done (visit op a b done)
      go (is_true e) = rw (visit-old a b done e) (prefix_refl done)
      go (is_false e) = rw (visit-stop a b done n e) (prefix-snoc done (a, b))

  grows-course : {a b : Diagram} → Course op a b → Grows a b
  grows-course (stops {a = a} {b = b} n) done = grows-stop a b n done
  grows-course (descends n s x y) done = grows-step n s (grows-course x) (grows-course y) done

  pub visit-begins : (a b : Diagram) (done : List Pair) → Prefix done (visit op a b done)
  visit-begins a b done = grows-course (course op a b) done

  pub visit-keeps : (a b : Diagram) (done : List Pair) → Within same_pair done (visit op a b done)
  visit-keeps a b done p h = mem-prefix same_pair p (visit-begins a b done) h

  -- it finishes the pair itself
  root-new : {a b : Diagram} → Course op a b → (done : List Pair) → mem same_pair (a, b) done ≡ false → mem same_pair (a, b) (visit op a b done) ≡ true
  root-new (stops {a = a} {b = b} n) done e = rw (visit-stop a b done n e) (mem-snoc same_pair pair-test (a, b) done)
  root-new (descends {a = a} {b = b} {t = t} {u = u} {f = f} {g = g} n s x y) done e =
      rw (visit-step done n s e) (mem-snoc same_pair pair-test (a, b) (visit op f g (visit op t u done)))

  pub visit-root : (a b : Diagram) (done : List Pair) → mem same_pair (a, b) (visit op a b done) ≡ true
  visit-root a b done = go (flag (mem same_pair (a, b) done))
    where
      go : Flag (mem same_pair (a, b) done) → mem same_pair (a, b) (visit op a b done) ≡ true
      go (is_true e) = rw (visit-old a b done e) e
      go (is_false e) = root-new (course op a b) done e

  -- it finishes pairs of the combination only
  abbrev Comes : Diagram → Diagram → Type 0
  Comes a b = (done : List Pair) (p : Pair) → mem same_pair p (visit op a b done) ≡ true → Either (mem same_pair p done) (mem same_pair p (pairs op a b))

  comes-stop : (a b : Diagram) → ends op a b ≡ true → Comes a b
  comes-stop a b n done p h = go (flag (mem same_pair (a, b) done))
    where
      last : Either (mem same_pair p done) (same_pair p (a, b)) → Either (mem same_pair p done) (mem same_pair p (pairs op a b))
      last (one e) = one e
      last (other e) = other (rw (pair-test.sound p (a, b) e) (pairs-root op a b))

      go : Flag (mem same_pair (a, b) done) → Either (mem same_pair p done) (mem same_pair p (pairs op a b))
      go (is_true e) = one (rw (visit-old a b done e) at h)
      go (is_false e) = last (snoc-cases same_pair p (a, b) done (rw (visit-stop a b done n e) at h))

  comes-step : {l : ℕ} {a b t u f g : Diagram} → ends op a b ≡ false → Step l a b t u f g → Comes t u → Comes f g → Comes a b
  comes-step {a = a} {b = b} {t = t} {u = u} {f = f} {g = g} n s x y done p h = go (flag (mem same_pair (a, b) done))
    where
      first : Either (mem same_pair p done) (mem same_pair p (pairs op t u)) → Either (mem same_pair p done) (mem same_pair p (pairs op a b))
      first (one e) = one e
      first (other e) = other (in-true op p n s e)

      second : Either (mem same_pair p (visit op t u done)) (mem same_pair p (pairs op f g)) → Either (mem same_pair p done) (mem same_pair p (pairs op a b))
      second (one e) = first (x done p e)
      second (other e) = other (in-false op p n s e)

      last : Either (mem same_pair p (visit op f g (visit op t u done))) (same_pair p (a, b)) → Either (mem same_pair p done) (mem same_pair p (pairs op a b))
      last (one e) = second (y (visit op t u done) p e)
      last (other e) = other (rw (pair-test.sound p (a, b) e) (pairs-root op a b))

      go : Flag (mem same_pair (a, b) done) → Either (mem same_pair p done) (mem same_pair p (pairs op a b))
      go (is_true e) = one (rw (visit-old a b done e) at h)
      go (is_false e) = last (snoc-cases same_pair p (a, b) (visit op f g (visit op t u done)) (rw (visit-step done n s e) at h))

  comes-course : {a b : Diagram} → Course op a b → Comes a b
  comes-course (stops {a = a} {b = b} n) done p h = comes-stop a b n done p h
  comes-course (descends n s x y) done p h = comes-step n s (comes-course x) (comes-course y) done p h

  pub visit-from : (a b : Diagram) (done : List Pair) (p : Pair) → mem same_pair p (visit op a b done) ≡ true → Either (mem same_pair p done) (mem same_pair p (pairs op a b))
  visit-from a b done p h = comes-course (course op a b) done p h

  -- a closed set stays closed
  pub closed-snoc : (m : List Pair) (p : Pair) → ClosedPairs op m → (ends op p.0 p.1 ≡ false → (w : Bool) → mem same_pair (successor w p) m ≡ true)
      → ClosedPairs op (m ++ (p ∷ []))
  closed-snoc m p c k = record { successors = λ q h n w. append-one same_pair (successor w q) m (p ∷ []) (go q n w (snoc-cases same_pair q p m h)) }
    where
      go : (q : Pair) → ends op q.0 q.1 ≡ false → (w : Bool) → Either (mem same_pair q m) (same_pair q p) → mem same_pair (successor w q) m ≡ true
      go q n w (one e) = c.successors q e n w
      go q n w (other e) = rw (pair-test.sound q p e) (k (rw (pair-test.sound q p e) at n) w)

  closed-step : {l : ℕ} {a b t u f g : Diagram} (m : List Pair) → Step l a b t u f g → ClosedPairs op m → mem same_pair (t, u) m ≡ true → mem same_pair (f, g) m ≡ true
      → ClosedPairs op (m ++ ((a, b) ∷ []))
  closed-step {a = a} {b = b} {t = t} {u = u} {f = f} {g = g} m s c x y = closed-snoc m (a, b) c (λ n w. rw (successor-step w s) (ways w))
    where
      ways : (w : Bool) → mem same_pair (cond w t f, cond w u g) m ≡ true
      ways true = x
      ways false = y

  shut-step : {l : ℕ} {a b t u f g : Diagram} (done : List Pair) → ends op a b ≡ false → Step l a b t u f g → ClosedPairs op done → ClosedPairs op (visit op f g (visit op t u done))
      → ClosedPairs op (visit op a b done)
  shut-step {a = a} {b = b} {t = t} {u = u} {f = f} {g = g} done n s c d = go (flag (mem same_pair (a, b) done))
    where
      go : Flag (mem same_pair (a, b) done) → ClosedPairs op (visit op a b done)
      go (is_true e) = rw (visit-old a b done e) c
      go (is_false e) =
          rw (visit-step done n s e) (closed-step (visit op f g (visit op t u done)) s d (visit-keeps f g (visit op t u done) (t, u) (visit-root t u done))
          (visit-root f g (visit op t u done)))

  shut-stop : (a b : Diagram) (done : List Pair) → ends op a b ≡ true → ClosedPairs op done → ClosedPairs op (visit op a b done)
  shut-stop a b done n c = go (flag (mem same_pair (a, b) done))
    where
      go : Flag (mem same_pair (a, b) done) → ClosedPairs op (visit op a b done)
      go (is_true e) = rw (visit-old a b done e) c
      go (is_false e) = rw (visit-stop a b done n e) (closed-snoc done (a, b) c (λ i w. clash n i))

  shut-course : {a b : Diagram} → Course op a b → (done : List Pair) → ClosedPairs op done → ClosedPairs op (visit op a b done)
  shut-course (stops {a = a} {b = b} n) done c = shut-stop a b done n c
  shut-course (descends {t = t} {u = u} n s x y) done c = shut-step done n s c (shut-course y (visit op t u done) (shut-course x done c))

  pub visit-closed : (a b : Diagram) (done : List Pair) → ClosedPairs op done → ClosedPairs op (visit op a b done)
  visit-closed a b done c = shut-course (course op a b) done c

  -- nothing is repeated: a pair is none of those that it goes down to
  small-step : {l : ℕ} {a b t u f g : Diagram} → ends op a b ≡ false → Step l a b t u f g → (p : Pair)
      → (mem same_pair p (pairs op t u) ≡ true → size p.0 + size p.1 ≤ size t + size u)
      → (mem same_pair p (pairs op f g) ≡ true → size p.0 + size p.1 ≤ size f + size g)
      → mem same_pair p (pairs op a b) ≡ true → size p.0 + size p.1 ≤ size a + size b
  small-step {a = a} {b = b} {t = t} {u = u} {f = f} {g = g} n s p x y h = go (pairs-where op p n s h)
    where
      go : Where op p a b t u f g → size p.0 + size p.1 ≤ size a + size b
      go (root e) = rw e (omega arith)
      go (by-true e) = omega (arith, x e, small-true s)
      go (by-false e) = omega (arith, y e, small-false s)

  small-course : {a b : Diagram} → Course op a b → (p : Pair) → mem same_pair p (pairs op a b) ≡ true → size p.0 + size p.1 ≤ size a + size b
  small-course (stops {a = a} {b = b} n) p h = rw (pairs-alone op p a b n h) (omega arith)
  small-course (descends n s x y) p h = small-step n s p (small-course x p) (small-course y p) h

  pub pairs_small : (a b : Diagram) (p : Pair) → mem same_pair p (pairs op a b) ≡ true → size p.0 + size p.1 ≤ size a + size b
  pairs_small a b p h = small-course (course op a b) p h

  -- a pair that is not done is not finished before its successors are
  pub visit-fresh : {l : ℕ} {a b t u f g : Diagram} (done : List Pair) → Step l a b t u f g → mem same_pair (a, b) done ≡ false
      → mem same_pair (a, b) (visit op f g (visit op t u done)) ≡ false
  visit-fresh {a = a} {b = b} {t = t} {u = u} {f = f} {g = g} done s n = go (flag (mem same_pair (a, b) (visit op f g (visit op t u done))))
    where
      first : Either (mem same_pair (a, b) done) (mem same_pair (a, b) (pairs op t u)) → ⊥
      first (one e) = clash e n
      first (other e) = omega (arith, pairs_small t u (a, b) e, small-true s)

      second : Either (mem same_pair (a, b) (visit op t u done)) (mem same_pair (a, b) (pairs op f g)) → ⊥
      second (one e) = first (visit-from t u done (a, b) e)
      second (other e) = omega (arith, pairs_small f g (a, b) e, small-false s)

      go : Flag (mem same_pair (a, b) (visit op f g (visit op t u done))) → mem same_pair (a, b) (visit op f g (visit op t u done)) ≡ false
      go (is_true e) = absurd (second (visit-from f g (visit op t u done) (a, b) e))
      go (is_false e) = e

  nodup-step : {l : ℕ} {a b t u f g : Diagram} (done : List Pair) → ends op a b ≡ false → Step l a b t u f g → NoDup same_pair done → NoDup same_pair (visit op f g (visit op t u done))
      → NoDup same_pair (visit op a b done)
  nodup-step {a = a} {b = b} {t = t} {u = u} {f = f} {g = g} done n s c d = go (flag (mem same_pair (a, b) done))
    where
      go : Flag (mem same_pair (a, b) done) → NoDup same_pair (visit op a b done)
      go (is_true e) = rw (visit-old a b done e) c
      go (is_false e) = rw (visit-step done n s e) (nodup-snoc same_pair pair-test (visit op f g (visit op t u done)) (a, b) d (visit-fresh done s e))

  nodup-stop : (a b : Diagram) (done : List Pair) → ends op a b ≡ true → NoDup same_pair done → NoDup same_pair (visit op a b done)
  nodup-stop a b done n c = go (flag (mem same_pair (a, b) done))
    where
      go : Flag (mem same_pair (a, b) done) → NoDup same_pair (visit op a b done)
      go (is_true e) = rw (visit-old a b done e) c
      go (is_false e) = rw (visit-stop a b done n e) (nodup-snoc same_pair pair-test done (a, b) c e)

  nodup-course : {a b : Diagram} → Course op a b → (done : List Pair) → NoDup same_pair done → NoDup same_pair (visit op a b done)
  nodup-course (stops {a = a} {b = b} n) done c = nodup-stop a b done n c
  nodup-course (descends {t = t} {u = u} n s x y) done c = nodup-step done n s c (nodup-course y (visit op t u done) (nodup-course x done c))

  pub visit-nodup : (a b : Diagram) (done : List Pair) → NoDup same_pair done → NoDup same_pair (visit op a b done)
  visit-nodup a b done c = nodup-course (course op a b) done c

  -- from nothing, the walk finishes the least closed set that holds both roots
  pub nothing-closed : ClosedPairs op []
  nothing-closed = record { successors = λ p h n w. clash h refl }

  pub visit-within : (a b : Diagram) → Within same_pair (visit op a b []) (pairs op a b)
  visit-within a b p h = go (visit-from a b [] p h)
    where
      go : Either (mem same_pair p []) (mem same_pair p (pairs op a b)) → mem same_pair p (pairs op a b) ≡ true
      go (one e) = clash e refl
      go (other e) = e

  pub pairs-within : (a b : Diagram) → Within same_pair (pairs op a b) (visit op a b [])
  pairs-within a b = (pairs-least op a b).least (visit op a b []) (visit-root a b []) (visit-closed a b [] nothing-closed)

  pub visit-least : (a b : Diagram) → LeastPairs op a b (visit op a b [])
  visit-least a b = record {
    roots = visit-root a b [];
    closed = visit-closed a b [] nothing-closed;
    least = λ n r c p h. (pairs-least op a b).least n r c p (visit-within a b p h);
  }

  pub visit-count : (a b : Diagram) → length (visit op a b []) ≡ pair_count op a b
  visit-count a b = least-count op a b (visit op a b []) (visit-nodup a b [] tt) (visit-least a b)
