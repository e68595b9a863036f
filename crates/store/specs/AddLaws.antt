-- Laws of `add_all`: it only adds, and the rows of a diagram added one by one are the diagram put onto the rows.
use Rattle.std.specs.Prelude.{◌≡◌, refl, true, List, [], ◌∷◌, ◌++◌, map, ℕ}
use Rattle.std.proofs.Common.{ap, sym, ◌∙◌}
use Rattle.basics.specs.Tests.{Flag, is_true, is_false, flag, Either, one, other, either}
use Rattle.basics.specs.Members.{mem, clash}
use Rattle.basics.specs.Prefix.{Prefix, prefix_refl, prefix_trans, mem-prefix}
use Rattle.diagram.specs.Diagram.{Diagram, leaf, branch, same, relabel}
use Rattle.diagram.specs.Rows.{onto, rows}
use Rattle.diagram.specs.DiagramLaws.{same-eq, onto-old, onto-leaf, onto-branch}
use Rattle.diagram.specs.Inner.{Kept}
use Rattle.diagram.specs.RowLaws.{onto-fresh, kept-children}
use Rattle.apply.specs.Inner.{ClosedRows}
use Rattle.apply.specs.Formed.{add}
use Rattle.apply.proofs.FormedLaws.{add-old, add-new, add-mem, add-begins, add-leaf}
use Rattle.apply.proofs.RowLaws.{onto-closed, rows-onto}
use Rattle.store.specs.Space.{add_all}

-- the laws of `add_all`: nothing else unfolds it
pub add-all-none : (rs : List Diagram) → add_all rs [] ≡ rs
unfolding add_all
add-all-none rs = refl

pub add-all-append : (rs xs ys : List Diagram) → add_all rs (xs ++ ys) ≡ add_all (add_all rs xs) ys
unfolding add_all
add-all-append rs [] ys = refl
add-all-append rs (x ∷ xs) ys = add-all-append (add x rs) xs ys

pub add-all-snoc : (rs xs : List Diagram) (x : Diagram) → add_all rs (xs ++ (x ∷ [])) ≡ add x (add_all rs xs)
unfolding add_all
add-all-snoc rs xs x = add-all-append rs xs (x ∷ [])

pub add-all-begins : (rs ds : List Diagram) → Prefix rs (add_all rs ds)
unfolding add_all
add-all-begins rs [] = prefix_refl rs
add-all-begins rs (d ∷ ds) = prefix_trans (add-begins d rs) (add-all-begins (add d rs) ds)

pub add-all-more : (rs xs ys : List Diagram) → Prefix xs ys → Prefix (add_all rs xs) (add_all rs ys)
add-all-more rs xs ys b = rw (b.is, add-all-append rs xs b.more) (add-all-begins (add_all rs xs) b.more)

pub add-all-mem : (rs ds : List Diagram) (x : Diagram) → mem same x ds ≡ true → mem same x (add_all rs ds) ≡ true
unfolding add_all
add-all-mem rs [] x h = clash h refl
add-all-mem rs (d ∷ ds) x h = go (either (same x d) (mem same x ds) h) (add-all-mem (add d rs) ds x)
  where
    go : Either (same x d) (mem same x ds) → (mem same x ds ≡ true → mem same x (add_all (add d rs) ds) ≡ true) → mem same x (add_all (add d rs) ds) ≡ true
    go (one e) ih = mem-prefix same x (add-all-begins (add d rs) ds) (rw (same-eq x d e) (add-mem d rs))
    go (other e) ih = ih e

-- a branch whose children were just put onto the rows
pub add-branch : (l : ℕ) (t f : Diagram) (rs : List Diagram) → ClosedRows rs → add (branch l t f) (onto f (onto t rs)) ≡ onto (branch l t f) rs
add-branch l t f rs c = go (flag (mem same (branch l t f) rs))
  where
    go : Flag (mem same (branch l t f) rs) → add (branch l t f) (onto f (onto t rs)) ≡ onto (branch l t f) rs
    go (is_true e) =
        let k = c.children l t f e in
        rw (onto-old t rs k.0, onto-old f rs k.1, add-old (branch l t f) rs e, onto-old (branch l t f) rs e)
    go (is_false e) = rw (add-new (branch l t f) (onto f (onto t rs)) (onto-fresh l t f rs e), onto-branch l t f rs e)

-- the rows that a walk finishes, added one by one
pub add-all-onto : (d : Diagram) (rs done : List Diagram) → ClosedRows (add_all rs done) → add_all rs (onto d done) ≡ onto d (add_all rs done)
add-all-onto (leaf v) rs done c = go (flag (mem same (leaf v) done))
  where
    go : Flag (mem same (leaf v) done) → add_all rs (onto (leaf v) done) ≡ onto (leaf v) (add_all rs done)
    go (is_true e) = rw (onto-old (leaf v) done e, onto-old (leaf v) (add_all rs done) (add-all-mem rs done (leaf v) e))
    go (is_false e) = rw (onto-leaf v done e, add-all-snoc rs done (leaf v)) (add-leaf v (add_all rs done))
add-all-onto (branch l t f) rs done c = go (flag (mem same (branch l t f) done)) (add-all-onto t rs done c) (add-all-onto f rs (onto t done))
  where
    go : Flag (mem same (branch l t f) done) → add_all rs (onto t done) ≡ onto t (add_all rs done)
        → (ClosedRows (add_all rs (onto t done)) → add_all rs (onto f (onto t done)) ≡ onto f (add_all rs (onto t done)))
        → add_all rs (onto (branch l t f) done) ≡ onto (branch l t f) (add_all rs done)
    go (is_true e) p q = rw (onto-old (branch l t f) done e, onto-old (branch l t f) (add_all rs done) (add-all-mem rs done (branch l t f) e))
    go (is_false e) p q =
        let c' : ClosedRows (add_all rs (onto t done)) = rw p (onto-closed t (add_all rs done) c) in
        rw (onto-branch l t f done e, add-all-snoc rs (onto f (onto t done)) (branch l t f), q c', p) (add-branch l t f (add_all rs done) c)

pub add-all-rows : (d : Diagram) (rs : List Diagram) → ClosedRows rs → add_all rs (rows d) ≡ onto d rs
unfolding add_all
add-all-rows d rs c = rw (rows-onto d) (add-all-onto d rs [] c)

pub add-all-relabelled : (g : ℕ → ℕ) (d : Diagram) (rs : List Diagram) → ClosedRows rs → rows (relabel g d) ≡ map (relabel g) (rows d)
    → add_all rs (map (relabel g) (rows d)) ≡ onto (relabel g d) rs
add-all-relabelled g d rs c e = ap (add_all rs) (sym e) ∙ add-all-rows (relabel g d) rs c

pub kept-closed : (rs : List Diagram) → Kept rs → ClosedRows rs
kept-closed rs k = record { children = λ l t f h. let z = kept-children rs l t f k h in (z.0.is_row, z.1.is_row) }
