-- Laws of relabelling: the meaning; and, for labels changed in their order, that order, reduction, rows and listing follow.
use Rattle.std.specs.Prelude.{◌≡◌, ◌≢◌, Bool, length, eqb}
use Rattle.std.proofs.Math.Path.{refl, ap, sym}
use Rattle.std.proofs.Common.{◌∙◌, arith}
use mathlib.Core.List.{List, [], ◌∷◌, ◌++◌, map, map-append}
use Prim.Native.Nat.{ℕ, suc, ◌≤◌}
use Rattle.std.proofs.lemmas.List.{length-map}
use borrow.Author.Tests.{eq-eqb, ne_eqb}
use Rattle.basics.specs.Tests.{Flag, is_true, is_false, flag, Cmp, below, equal, above, cmp}
use Rattle.basics.specs.Members.{mem}
use Rattle.label.specs.Limits.{leaf_mark}
use Rattle.diagram.specs.Diagram.{Tree, Diagram, leaf, branch, eval, relabel, same, From, Ordered, Reduced, EveryLabel}
use Rattle.diagram.specs.DiagramLaws.{same-eq, same_refl, onto-old, onto-leaf, onto-branch}
use Rattle.diagram.specs.Rows.{onto, rows}
use Rattle.diagram.specs.Listing.{index, encode, listing}
use Rattle.diagram.specs.ListingLaws.{index-here, index-there}
use Rattle.rename.specs.Inner.{AllLabels, Keeps, relabelled}

-- the meaning, for any change of labels
pub eval-relabel : {L M : Type 0} (c : M → Bool) (g : L → M) (d : Tree L) → eval c (relabel g d) ≡ eval (λ l. c (g l)) d
unfolding eval relabel
eval-relabel c g (leaf v) = refl
eval-relabel c g (branch l t f) = rw (eval-relabel c g t, eval-relabel c g f)

-- two choices that agree on the labels of d lead to the same leaf
pub eval-agree : (c e : ℕ → Bool) (d : Diagram) → EveryLabel (λ l. c l ≡ e l) d → eval c d ≡ eval e d
unfolding eval
eval-agree c e (leaf v) h = refl
eval-agree c e (branch l t f) h = rw (h.0, eval-agree c e t h.1, eval-agree c e f h.2)

-- two changes that agree on the labels of d
pub relabel-agree : (g h : ℕ → ℕ) (d : Diagram) → EveryLabel (λ l. g l ≡ h l) d → relabel g d ≡ relabel h d
unfolding relabel
relabel-agree g h (leaf v) e = refl
relabel-agree g h (branch l t f) e = rw (e.0, relabel-agree g h t e.1, relabel-agree g h f e.2)

-- a change that leaves the labels of d
pub relabel-same : (g : ℕ → ℕ) (d : Diagram) → EveryLabel (λ l. g l ≡ l) d → relabel g d ≡ d
unfolding relabel
relabel-same g (leaf v) e = refl
relabel-same g (branch l t f) e = rw (e.0, relabel-same g t e.1, relabel-same g f e.2)

pub labels-weaken : (Q R : ℕ → Type 0) (d : Diagram) → ((l : ℕ) → Q l → R l) → EveryLabel Q d → EveryLabel R d
labels-weaken Q R (leaf v) h q = tt
labels-weaken Q R (branch l t f) h q = (h l q.0, labels-weaken Q R t h q.1, labels-weaken Q R f h q.2)

labels-snoc : (Q : ℕ → Type 0) (rs : List Diagram) (d : Diagram) → AllLabels Q rs → EveryLabel Q d → AllLabels Q (rs ++ (d ∷ []))
labels-snoc Q [] d a q = (q, tt)
labels-snoc Q (r ∷ rs) d a q = (a.0, labels-snoc Q rs d a.1 q)

-- the rows have no other labels
pub labels-onto : (Q : ℕ → Type 0) (d : Diagram) (rs : List Diagram) → EveryLabel Q d → AllLabels Q rs → AllLabels Q (onto d rs)
labels-onto Q (leaf v) rs q a = go (flag (mem same (leaf v) rs))
  where
    go : Flag (mem same (leaf v) rs) → AllLabels Q (onto (leaf v) rs)
    go (is_true e) = rw (onto-old (leaf v) rs e) a
    go (is_false e) = rw (onto-leaf v rs e) (labels-snoc Q rs (leaf v) a tt)
labels-onto Q (branch l t f) rs q a =
    go (flag (mem same (branch l t f) rs)) (labels-onto Q f (onto t rs) q.2 (labels-onto Q t rs q.1 a))
  where
    go : Flag (mem same (branch l t f) rs) → AllLabels Q (onto f (onto t rs)) → AllLabels Q (onto (branch l t f) rs)
    go (is_true e) b = rw (onto-old (branch l t f) rs e) a
    go (is_false e) b = rw (onto-branch l t f rs e) (labels-snoc Q (onto f (onto t rs)) (branch l t f) b q)

module _ (Q : ℕ → Type 0) (g : ℕ → ℕ) (keeps : Keeps Q g) where
  -- different labels stay different
  pub label-test : (l k : ℕ) → Q l → Q k → eqb (g l) (g k) ≡ eqb l k
  label-test l k p q = go (cmp l k)
    where
      go : Cmp l k → eqb (g l) (g k) ≡ eqb l k
      go (below h) = ne_eqb (g l) (g k) (omega (arith, keeps.order l k p q h)) ∙ sym (ne_eqb l k (omega arith))
      go (equal h) = eq-eqb (g l) (g k) (ap g h) ∙ sym (eq-eqb l k h)
      go (above h) = ne_eqb (g l) (g k) (omega (arith, keeps.order k l q p h)) ∙ sym (ne_eqb l k (omega arith))

  pub relabel-test : (a b : Diagram) → EveryLabel Q a → EveryLabel Q b → same (relabel g a) (relabel g b) ≡ same a b
  unfolding relabel same
  relabel-test (leaf v) (leaf w) p q = refl
  relabel-test (leaf v) (branch k u h) p q = refl
  relabel-test (branch l t f) (leaf w) p q = refl
  relabel-test (branch l t f) (branch k u h) p q =
      rw (label-test l k p.0 q.0, relabel-test t u p.1 q.1, relabel-test f h p.2 q.2)

  -- different diagrams stay different
  pub relabel-injective : (a b : Diagram) → EveryLabel Q a → EveryLabel Q b → relabel g a ≡ relabel g b → a ≡ b
  relabel-injective a b p q e = same-eq a b (sym (relabel-test a b p q) ∙ rw e (same_refl (relabel g b)))

  -- the order stays
  pub relabel-above : (l : ℕ) (d : Diagram) → Q l → EveryLabel Q d → From (suc l) d → From (suc (g l)) (relabel g d)
  unfolding relabel
  relabel-above l (leaf v) p q o = tt
  relabel-above l (branch k t f) p q o =
      (keeps.order l k p q.0 o.0, relabel-above k t q.0 q.1 o.1, relabel-above k f q.0 q.2 o.2)

  pub relabel-from : (n m : ℕ) (d : Diagram) → ((l : ℕ) → Q l → n ≤ l → m ≤ g l) → EveryLabel Q d → From n d → From m (relabel g d)
  unfolding relabel
  relabel-from n m (leaf v) h q o = tt
  relabel-from n m (branch l t f) h q o = (h l q.0 o.0, relabel-above l t q.0 q.1 o.1, relabel-above l f q.0 q.2 o.2)

  pub relabel-ordered : (d : Diagram) → EveryLabel Q d → Ordered d → Ordered (relabel g d)
  relabel-ordered d q o = relabel-from 0 0 d (λ l p h. omega arith) q o

  pub relabel-reduced : (d : Diagram) → EveryLabel Q d → Reduced d → Reduced (relabel g d)
  unfolding relabel
  relabel-reduced (leaf v) q r = tt
  relabel-reduced (branch l t f) q r =
      (λ e. r.0 (relabel-injective t f q.1 q.2 e), relabel-reduced t q.1 r.1, relabel-reduced f q.2 r.2)

  pub relabel-mem : (d : Diagram) (rs : List Diagram) → EveryLabel Q d → AllLabels Q rs → mem same (relabel g d) (map (relabel g) rs) ≡ mem same d rs
  relabel-mem d [] q a = refl
  relabel-mem d (r ∷ rs) q a = rw (relabel-test d r q a.0, relabel-mem d rs q a.1)

  -- the rows are the rows relabelled
  pub relabel-onto : (d : Diagram) (rs : List Diagram) → EveryLabel Q d → AllLabels Q rs → onto (relabel g d) (map (relabel g) rs) ≡ map (relabel g) (onto d rs)
  unfolding relabel
  relabel-onto (leaf v) rs q a = go (flag (mem same (leaf v) rs))
    where
      go : Flag (mem same (leaf v) rs) → onto (leaf v) (map (relabel g) rs) ≡ map (relabel g) (onto (leaf v) rs)
      go (is_true e) = rw (onto-old (leaf v) rs e) (onto-old (leaf v) (map (relabel g) rs) (relabel-mem (leaf v) rs tt a ∙ e))
      go (is_false e) = rw (onto-leaf v rs e, map-append) (onto-leaf v (map (relabel g) rs) (relabel-mem (leaf v) rs tt a ∙ e))
  relabel-onto (branch l t f) rs q a =
      go (flag (mem same (branch l t f) rs)) (ap (onto (relabel g f)) (relabel-onto t rs q.1 a) ∙ relabel-onto f (onto t rs) q.2 (labels-onto Q t rs q.1 a))
    where
      d : Diagram
      d = branch l t f

      go : Flag (mem same d rs) → onto (relabel g f) (onto (relabel g t) (map (relabel g) rs)) ≡ map (relabel g) (onto f (onto t rs))
          → onto (branch (g l) (relabel g t) (relabel g f)) (map (relabel g) rs) ≡ map (relabel g) (onto (branch l t f) rs)
      go (is_true e) ih = rw (onto-old (branch l t f) rs e) (onto-old (relabel g (branch l t f)) (map (relabel g) rs) (relabel-mem (branch l t f) rs q a ∙ e))
      go (is_false e) ih =
          rw (onto-branch l t f rs e, map-append, ← ih)
          (onto-branch (g l) (relabel g t) (relabel g f) (map (relabel g) rs) (relabel-mem (branch l t f) rs q a ∙ e))

  pub relabel-rows : (d : Diagram) → EveryLabel Q d → rows (relabel g d) ≡ map (relabel g) (rows d)
  unfolding rows
  relabel-rows d q = relabel-onto d [] q tt

  pub relabel-count : (d : Diagram) → EveryLabel Q d → length (rows (relabel g d)) ≡ length (rows d)
  relabel-count d q = ap length (relabel-rows d q) ∙ length-map (rows d) (relabel g)

  pub relabel-index : (d : Diagram) (rs : List Diagram) → EveryLabel Q d → AllLabels Q rs → index (relabel g d) (map (relabel g) rs) ≡ index d rs
  unfolding index
  relabel-index d [] q a = refl
  relabel-index d (r ∷ rs) q a = go (flag (same d r)) (relabel-index d rs q a.1)
    where
      go : Flag (same d r) → index (relabel g d) (map (relabel g) rs) ≡ index d rs → index (relabel g d) (relabel g r ∷ map (relabel g) rs) ≡ index d (r ∷ rs)
      go (is_true e) ih =
          index-here (relabel g d) (relabel g r) (map (relabel g) rs) (relabel-test d r q a.0 ∙ e) ∙ sym (index-here d r rs e)
      go (is_false e) ih =
          index-there (relabel g d) (relabel g r) (map (relabel g) rs) (relabel-test d r q a.0 ∙ e) ∙ ap suc ih ∙ sym (index-there d r rs e)

  module _ (unmarked : (l : ℕ) → Q l → l ≢ leaf_mark) where
    -- the words of the rows are the words with their labels changed
    pub relabel-encode : (whole rs : List Diagram) → AllLabels Q whole → AllLabels Q rs
        → encode (map (relabel g) whole) (map (relabel g) rs) ≡ relabelled g (encode whole rs)
    unfolding encode relabel
    relabel-encode whole [] w a = refl
    relabel-encode whole (leaf v ∷ rs) w a = rw (relabel-encode whole rs w a.1)
    relabel-encode whole (branch l t f ∷ rs) w a =
        rw (
          ne_eqb l leaf_mark (unmarked l a.0.0),
          relabel-index t whole a.0.1 w,
          relabel-index f whole a.0.2 w,
          relabel-encode whole rs w a.1,
        )

    pub relabel-listing : (d : Diagram) → EveryLabel Q d → listing (relabel g d) ≡ relabelled g (listing d)
    unfolding listing rows
    relabel-listing d q =
        rw (relabel-rows d q) (relabel-encode (rows d) (rows d) (labels-onto Q d [] q tt) (labels-onto Q d [] q tt))
