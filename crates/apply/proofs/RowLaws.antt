-- Laws of `onto` about repeats and children.
use Rattle.std.specs.Prelude.{◌≡◌, refl, true, List, [], ◌∷◌, ◌++◌, ℕ}
use Rattle.std.proofs.Common.{arith}
use Rattle.basics.specs.Tests.{Flag, is_true, is_false, flag, Either, one, other}
use Rattle.basics.specs.Members.{mem, NoDup, clash, append-one, snoc-cases, nodup-snoc}
use Rattle.diagram.specs.Diagram.{Diagram, leaf, branch, same}
use Rattle.diagram.specs.Rows.{onto, rows}
use Rattle.diagram.specs.DiagramLaws.{same-eq, diagram-test, onto-old, onto-leaf, onto-branch}
use Rattle.diagram.specs.RowLaws.{onto-mem, onto-keeps-mem, onto-fresh}
use Rattle.apply.specs.Inner.{ClosedRows}

pub rows-onto : (d : Diagram) → rows d ≡ onto d []
unfolding rows
rows-onto d = refl

-- no row is repeated
pub onto-nodup : (d : Diagram) (rs : List Diagram) → NoDup same rs → NoDup same (onto d rs)
onto-nodup (leaf v) rs h = go (flag (mem same (leaf v) rs))
  where
    go : Flag (mem same (leaf v) rs) → NoDup same (onto (leaf v) rs)
    go (is_true e) = rw (onto-old (leaf v) rs e) h
    go (is_false e) = rw (onto-leaf v rs e) (nodup-snoc same diagram-test rs (leaf v) h e)
onto-nodup (branch l t f) rs h = go (flag (mem same (branch l t f) rs)) (onto-nodup f (onto t rs) (onto-nodup t rs h))
  where
    go : Flag (mem same (branch l t f) rs) → NoDup same (onto f (onto t rs)) → NoDup same (onto (branch l t f) rs)
    go (is_true e) k = rw (onto-old (branch l t f) rs e) h
    go (is_false e) k = rw (onto-branch l t f rs e) (nodup-snoc same diagram-test (onto f (onto t rs)) (branch l t f) k (onto-fresh l t f rs e))

-- children stay there
pub nothing-rows : ClosedRows []
nothing-rows = record { children = λ l t f h. clash h refl }

leaf-snoc : (v : ℕ) (rs : List Diagram) → ClosedRows rs → ClosedRows (rs ++ (leaf v ∷ []))
leaf-snoc v rs c = record { children = λ l t f h. go l t f (snoc-cases same (branch l t f) (leaf v) rs h) }
  where
    go : (l : ℕ) (t f : Diagram) → Either (mem same (branch l t f) rs) (same (branch l t f) (leaf v))
        → (mem same t (rs ++ (leaf v ∷ [])) ≡ true) × (mem same f (rs ++ (leaf v ∷ [])) ≡ true)
    go l t f (one e) = let k = c.children l t f e in (append-one same t rs (leaf v ∷ []) k.0, append-one same f rs (leaf v ∷ []) k.1)
    go l t f (other e) = let z : branch l t f ≡ leaf v = same-eq (branch l t f) (leaf v) e in let o : ◌≡◌ {A = ℕ} 0 1 = cc in absurd (omega arith)

branch-snoc : (l : ℕ) (t f : Diagram) (rs : List Diagram) → ClosedRows rs → mem same t rs ≡ true → mem same f rs ≡ true → ClosedRows (rs ++ (branch l t f ∷ []))
branch-snoc l t f rs c x y = record { children = λ k u g h. go k u g (snoc-cases same (branch k u g) (branch l t f) rs h) }
  where
    more : (d : Diagram) → mem same d rs ≡ true → mem same d (rs ++ (branch l t f ∷ [])) ≡ true
    more d h = append-one same d rs (branch l t f ∷ []) h

    go : (k : ℕ) (u g : Diagram) → Either (mem same (branch k u g) rs) (same (branch k u g) (branch l t f))
        → (mem same u (rs ++ (branch l t f ∷ [])) ≡ true) × (mem same g (rs ++ (branch l t f ∷ [])) ≡ true)
    go k u g (one e) = let n = c.children k u g e in (more u n.0, more g n.1)
    go k u g (other e) =
        let z : branch k u g ≡ branch l t f = same-eq (branch k u g) (branch l t f) e in
        let p : u ≡ t = cc in
        let q : g ≡ f = cc in
        (more u (rw p x), more g (rw q y))

pub onto-closed : (d : Diagram) (rs : List Diagram) → ClosedRows rs → ClosedRows (onto d rs)
onto-closed (leaf v) rs c = go (flag (mem same (leaf v) rs))
  where
    go : Flag (mem same (leaf v) rs) → ClosedRows (onto (leaf v) rs)
    go (is_true e) = rw (onto-old (leaf v) rs e) c
    go (is_false e) = rw (onto-leaf v rs e) (leaf-snoc v rs c)
onto-closed (branch l t f) rs c = go (flag (mem same (branch l t f) rs)) (onto-closed f (onto t rs) (onto-closed t rs c))
  where
    go : Flag (mem same (branch l t f) rs) → ClosedRows (onto f (onto t rs)) → ClosedRows (onto (branch l t f) rs)
    go (is_true e) k = rw (onto-old (branch l t f) rs e) c
    go (is_false e) k =
        rw (onto-branch l t f rs e) (branch-snoc l t f (onto f (onto t rs)) k (onto-keeps-mem f t (onto t rs) (onto-mem t rs)) (onto-mem f (onto t rs)))
