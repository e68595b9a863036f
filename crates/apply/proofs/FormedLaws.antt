-- Laws of the rows formed: the pairs of a combination form the rows of its result.
use Rattle.std.specs.Prelude.{◌≡◌, refl, true, false, ℕ, length}
use Rattle.std.proofs.Common.{ap, sym, ◌∙◌, arith}
use mathlib.Core.List.{List, [], ◌∷◌, ◌++◌}
use Rattle.basics.specs.Tests.{Flag, is_true, is_false, flag, Either, one, other, either, or-one, or-other}
use Rattle.basics.specs.Members.{mem, NoDup, Within, nodup-le, clash, mem-snoc, snoc-cases, nodup-snoc}
use Rattle.basics.specs.Prefix.{Prefix, prefix_refl, prefix_trans, prefix-snoc, mem-prefix}
use Rattle.diagram.specs.Diagram.{Diagram, leaf, branch, same}
use Rattle.diagram.specs.Rows.{onto, rows}
use Rattle.diagram.specs.DiagramLaws.{same-eq, diagram-test, onto-old, onto-leaf, onto-branch}
use Rattle.diagram.specs.RowLaws.{onto-mem, onto-fresh}
use Rattle.apply.specs.declared.Operation.{Operation}
use Rattle.apply.specs.Apply.{node, apply}
use Rattle.apply.specs.Pairs.{Pair, same_pair, ends, pairs}
use Rattle.apply.specs.Visit.{visit}
use Rattle.apply.specs.Inner.{ClosedRows}
use Rattle.apply.specs.Formed.{add, formed}
use Rattle.apply.specs.Combination.{operate}
use Rattle.apply.specs.Walk.{Step}
use Rattle.apply.specs.ApplyLaws.{node-same, node-differ, apply-step}
use Rattle.apply.proofs.Course.{Course, stops, descends, course, ending}
use Rattle.apply.proofs.PairLaws.{pair-test}
use Rattle.apply.proofs.VisitLaws.{visit-old, visit-stop, visit-step, visit-within, pairs-within}
use Rattle.apply.proofs.RowLaws.{rows-onto, nothing-rows, onto-closed}

-- the laws of `add` and `formed`: nothing else unfolds them
pub add-old : (d : Diagram) (rs : List Diagram) → mem same d rs ≡ true → add d rs ≡ rs
unfolding add
add-old d rs e = rw e

pub add-new : (d : Diagram) (rs : List Diagram) → mem same d rs ≡ false → add d rs ≡ rs ++ (d ∷ [])
unfolding add
add-new d rs e = rw e

pub formed-none : (op : ℕ → ℕ → ℕ) (rs : List Diagram) → formed op rs [] ≡ rs
unfolding formed
formed-none op rs = refl

pub formed-cons : (op : ℕ → ℕ → ℕ) (rs : List Diagram) (p : Pair) (ps : List Pair) → formed op rs (p ∷ ps) ≡ formed op (add (apply op p.0 p.1) rs) ps
unfolding formed
formed-cons op rs p ps = refl

pub formed-append : (op : ℕ → ℕ → ℕ) (rs : List Diagram) (ps qs : List Pair) → formed op rs (ps ++ qs) ≡ formed op (formed op rs ps) qs
unfolding formed
formed-append op rs [] qs = refl
formed-append op rs (p ∷ ps) qs = formed-append op (add (apply op p.0 p.1) rs) ps qs

pub formed-snoc : (op : ℕ → ℕ → ℕ) (rs : List Diagram) (ps : List Pair) (p : Pair)
    → formed op rs (ps ++ (p ∷ [])) ≡ add (apply op p.0 p.1) (formed op rs ps)
unfolding formed
formed-snoc op rs ps p = formed-append op rs ps (p ∷ [])

-- members
pub add-mem : (d : Diagram) (rs : List Diagram) → mem same d (add d rs) ≡ true
add-mem d rs = go (flag (mem same d rs))
  where
    go : Flag (mem same d rs) → mem same d (add d rs) ≡ true
    go (is_true e) = rw (add-old d rs e) e
    go (is_false e) = rw (add-new d rs e) (mem-snoc same diagram-test d rs)

pub add-begins : (d : Diagram) (rs : List Diagram) → Prefix rs (add d rs)
add-begins d rs = go (flag (mem same d rs))
  where
    go : Flag (mem same d rs) → Prefix rs (add d rs)
    go (is_true e) = rw (add-old d rs e) (prefix_refl rs)
    go (is_false e) = rw (add-new d rs e) (prefix-snoc rs d)

pub add-cases : (x d : Diagram) (rs : List Diagram) → mem same x (add d rs) ≡ true → Either (mem same x rs) (same x d)
add-cases x d rs h = go (flag (mem same d rs))
  where
    go : Flag (mem same d rs) → Either (mem same x rs) (same x d)
    go (is_true e) = one (rw (add-old d rs e) at h)
    go (is_false e) = snoc-cases same x d rs (rw (add-new d rs e) at h)

pub add-nodup : (d : Diagram) (rs : List Diagram) → NoDup same rs → NoDup same (add d rs)
add-nodup d rs h = go (flag (mem same d rs))
  where
    go : Flag (mem same d rs) → NoDup same (add d rs)
    go (is_true e) = rw (add-old d rs e) h
    go (is_false e) = rw (add-new d rs e) (nodup-snoc same diagram-test rs d h e)

pub formed-begins : (op : ℕ → ℕ → ℕ) (rs : List Diagram) (ps : List Pair) → Prefix rs (formed op rs ps)
formed-begins op rs [] = rw (formed-none op rs) (prefix_refl rs)
formed-begins op rs (p ∷ ps) =
    rw (formed-cons op rs p ps) (prefix_trans (add-begins (apply op p.0 p.1) rs) (formed-begins op (add (apply op p.0 p.1) rs) ps))

pub formed-keeps : (op : ℕ → ℕ → ℕ) (rs : List Diagram) (ps : List Pair) → Within same rs (formed op rs ps)
formed-keeps op rs ps x h = mem-prefix same x (formed-begins op rs ps) h

pub formed-nodup : (op : ℕ → ℕ → ℕ) (rs : List Diagram) (ps : List Pair) → NoDup same rs → NoDup same (formed op rs ps)
formed-nodup op rs [] h = rw (formed-none op rs) h
formed-nodup op rs (p ∷ ps) h = rw (formed-cons op rs p ps) (formed-nodup op (add (apply op p.0 p.1) rs) ps (add-nodup (apply op p.0 p.1) rs h))

-- every pair's result is there
pub formed-mem : (op : ℕ → ℕ → ℕ) (rs : List Diagram) (ps : List Pair) (p : Pair) → mem same_pair p ps ≡ true → mem same (apply op p.0 p.1) (formed op rs ps) ≡ true
formed-mem op rs [] p h = clash h refl
formed-mem op rs (q ∷ qs) p h =
    rw (formed-cons op rs q qs) (go (either (same_pair p q) (mem same_pair p qs) h) (formed-mem op (add (apply op q.0 q.1) rs) qs p))
  where
    more : List Diagram
    more = add (apply op q.0 q.1) rs

    go : Either (same_pair p q) (mem same_pair p qs)
        → (mem same_pair p qs ≡ true → mem same (apply op p.0 p.1) (formed op (add (apply op q.0 q.1) rs) qs) ≡ true)
        → mem same (apply op p.0 p.1) (formed op (add (apply op q.0 q.1) rs) qs) ≡ true
    go (one e) ih = rw (pair-test.sound p q e) (formed-keeps op more qs (apply op q.0 q.1) (add-mem (apply op q.0 q.1) rs))
    go (other e) ih = ih e

-- and nothing else: a row is one of rs, or the result of a pair of ps
pub data Formed (op : ℕ → ℕ → ℕ) (rs : List Diagram) (ps : List Pair) (d : Diagram) : Type 0 where
  before : mem same d rs ≡ true → Formed op rs ps d
  result : (p : Pair) → mem same_pair p ps ≡ true → d ≡ apply op p.0 p.1 → Formed op rs ps d

pub formed-from : (op : ℕ → ℕ → ℕ) (rs : List Diagram) (ps : List Pair) (d : Diagram) → mem same d (formed op rs ps) ≡ true → Formed op rs ps d
formed-from op rs [] d h = before (rw (formed-none op rs) at h)
formed-from op rs (q ∷ qs) d h = go (formed-from op (add (apply op q.0 q.1) rs) qs d (rw (formed-cons op rs q qs) at h))
  where
    first : Either (mem same d rs) (same d (apply op q.0 q.1)) → Formed op rs (q ∷ qs) d
    first (one e) = before e
    first (other e) = result q (or-one (same_pair q q) _ (pair-test.complete q)) (same-eq d (apply op q.0 q.1) e)

    go : Formed op (add (apply op q.0 q.1) rs) qs d → Formed op rs (q ∷ qs) d
    go (before e) = first (add-cases d (apply op q.0 q.1) rs e)
    go (result p m e) = result p (or-other (same_pair p q) _ m) e

-- the order of the pairs does not matter for what is formed
pub formed-within : (op : ℕ → ℕ → ℕ) (rs : List Diagram) (ps qs : List Pair) → Within same_pair ps qs → Within same (formed op rs ps) (formed op rs qs)
formed-within op rs ps qs w d h = go (formed-from op rs ps d h)
  where
    go : Formed op rs ps d → mem same d (formed op rs qs) ≡ true
    go (before e) = formed-keeps op rs qs d e
    go (result p m e) = rw e (formed-mem op rs qs p (w p m))

pub formed-length : (op : ℕ → ℕ → ℕ) (rs : List Diagram) (ps qs : List Pair) → NoDup same rs → Within same_pair ps qs → Within same_pair qs ps
    → length (formed op rs ps) ≡ length (formed op rs qs)
formed-length op rs ps qs d v w =
    let x = nodup-le same diagram-test (formed op rs ps) (formed op rs qs) (formed-nodup op rs ps d) (formed-within op rs ps qs v) in
    let y = nodup-le same diagram-test (formed op rs qs) (formed op rs ps) (formed-nodup op rs qs d) (formed-within op rs qs ps w) in
    omega arith

-- a diagram put onto rows as its walk finishes it: its children's rows, then itself
pub add-leaf : (v : ℕ) (rs : List Diagram) → add (leaf v) rs ≡ onto (leaf v) rs
add-leaf v rs = go (flag (mem same (leaf v) rs))
  where
    go : Flag (mem same (leaf v) rs) → add (leaf v) rs ≡ onto (leaf v) rs
    go (is_true e) = rw (add-old (leaf v) rs e, onto-old (leaf v) rs e)
    go (is_false e) = rw (add-new (leaf v) rs e, onto-leaf v rs e)

add-branch : (l : ℕ) (t f : Diagram) (rs : List Diagram) → ClosedRows rs → add (branch l t f) (onto f (onto t rs)) ≡ onto (branch l t f) rs
add-branch l t f rs c = go (flag (mem same (branch l t f) rs))
  where
    go : Flag (mem same (branch l t f) rs) → add (branch l t f) (onto f (onto t rs)) ≡ onto (branch l t f) rs
    go (is_true e) =
        let k = c.children l t f e in
        rw (onto-old t rs k.0, onto-old f rs k.1, add-old (branch l t f) rs e, onto-old (branch l t f) rs e)
    go (is_false e) = rw (add-new (branch l t f) (onto f (onto t rs)) (onto-fresh l t f rs e), onto-branch l t f rs e)

pub add-node : (l : ℕ) (t f : Diagram) (rs : List Diagram) → ClosedRows rs → add (node l t f) (onto f (onto t rs)) ≡ onto (node l t f) rs
add-node l t f rs c = go (flag (same t f))
  where
    go : Flag (same t f) → add (node l t f) (onto f (onto t rs)) ≡ onto (node l t f) rs
    go (is_true e) =
        rw (node-same l t f e, ← same-eq t f e, onto-old t (onto t rs) (onto-mem t rs), add-old t (onto t rs) (onto-mem t rs))
    go (is_false e) = rw (node-differ l t f e) (add-branch l t f rs c)

-- forming the pairs in the order in which they are finished gives the rows in the order of a listing
module _ (op : Operation) (rs : List Diagram) where
  abbrev Forms : Diagram → Diagram → Type 0
  Forms a b = (done : List Pair) → ClosedRows (formed (operate op) rs done)
      → formed (operate op) rs (visit op a b done) ≡ onto (apply (operate op) a b) (formed (operate op) rs done)

  forms-old : (a b : Diagram) (done : List Pair) → mem same_pair (a, b) done ≡ true
      → formed (operate op) rs (visit op a b done) ≡ onto (apply (operate op) a b) (formed (operate op) rs done)
  forms-old a b done e =
      rw (visit-old op a b done e, onto-old (apply (operate op) a b) (formed (operate op) rs done) (formed-mem (operate op) rs done (a, b) e))

  forms-stop : (a b : Diagram) → ends op a b ≡ true → Forms a b
  forms-stop a b n done c = go (flag (mem same_pair (a, b) done))
    where
      go : Flag (mem same_pair (a, b) done) → formed (operate op) rs (visit op a b done) ≡ onto (apply (operate op) a b) (formed (operate op) rs done)
      go (is_true e) = forms-old a b done e
      go (is_false e) =
          let z = ending op a b n in
          rw (visit-stop op a b done n e, formed-snoc (operate op) rs done (a, b), z.forms) (add-leaf z.value (formed (operate op) rs done))

  forms-step : {l : ℕ} {a b t u f g : Diagram} → ends op a b ≡ false → Step l a b t u f g → Forms t u → Forms f g → Forms a b
  forms-step {l = l} {a = a} {b = b} {t = t} {u = u} {f = f} {g = g} n s x y done c = go (flag (mem same_pair (a, b) done))
    where
      go : Flag (mem same_pair (a, b) done) → formed (operate op) rs (visit op a b done) ≡ onto (apply (operate op) a b) (formed (operate op) rs done)
      go (is_true e) = forms-old a b done e
      go (is_false e) =
          let p = x done c in
          let c' : ClosedRows (formed (operate op) rs (visit op t u done)) = rw p (onto-closed (apply (operate op) t u) (formed (operate op) rs done) c) in
          let q = y (visit op t u done) c' in
          rw (visit-step op done n s e, formed-snoc (operate op) rs (visit op f g (visit op t u done)) (a, b), q, p, apply-step (operate op) s)
          (add-node l (apply (operate op) t u) (apply (operate op) f g) (formed (operate op) rs done) c)

  forms-course : {a b : Diagram} → Course op a b → Forms a b
  forms-course (stops {a = a} {b = b} n) done c = forms-stop a b n done c
  forms-course (descends n s x y) done c = forms-step n s (forms-course x) (forms-course y) done c

  pub formed-done : (a b : Diagram) (done : List Pair) → ClosedRows (formed (operate op) rs done)
      → formed (operate op) rs (visit op a b done) ≡ onto (apply (operate op) a b) (formed (operate op) rs done)
  formed-done a b done c = forms-course (course op a b) done c

  pub formed-visit : (a b : Diagram) → ClosedRows rs → formed (operate op) rs (visit op a b []) ≡ onto (apply (operate op) a b) rs
  unfolding formed
  formed-visit a b c = formed-done a b [] c

-- in an empty space they are the rows of the result's listing
pub formed-rows : (op : Operation) (a b : Diagram) → formed (operate op) [] (visit op a b []) ≡ rows (apply (operate op) a b)
formed-rows op a b = formed-visit op [] a b nothing-rows ∙ sym (rows-onto (apply (operate op) a b))

-- in whatever order every pair forms its diagram, the rows formed are those of the result put onto rs
pub record FormedPairs (op : Operation) (rs : List Diagram) (a b : Diagram) : Type 0 where
  pub every : (p : Pair) → mem same_pair p (pairs op a b) ≡ true → mem same (apply (operate op) p.0 p.1) (onto (apply (operate op) a b) rs) ≡ true
  pub only : (d : Diagram) → mem same d (onto (apply (operate op) a b) rs) ≡ true → Formed (operate op) rs (pairs op a b) d

pub formed-pairs : (op : Operation) (rs : List Diagram) (a b : Diagram) → ClosedRows rs → FormedPairs op rs a b
formed-pairs op rs a b c = record {
  every = λ p h. rw (← formed-visit op rs a b c) (formed-mem (operate op) rs (visit op a b []) p (pairs-within op a b p h));
  only = λ d h. formed-from (operate op) rs (pairs op a b) d
      (formed-within (operate op) rs (visit op a b []) (pairs op a b) (visit-within op a b) d (rw (formed-visit op rs a b c) h));
}

pub formed-count : (op : Operation) (rs : List Diagram) (a b : Diagram) → ClosedRows rs → NoDup same rs
    → length (formed (operate op) rs (pairs op a b)) ≡ length (onto (apply (operate op) a b) rs)
formed-count op rs a b c d =
    formed-length (operate op) rs (pairs op a b) (visit op a b []) d (pairs-within op a b) (visit-within op a b) ∙ ap length (formed-visit op rs a b c)
