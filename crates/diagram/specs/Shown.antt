-- Words and the diagrams that their rows stand for, by row number: the walk over numbers is the walk over diagrams, and the words are the
-- encoding of the diagrams. Listings use it in both directions, and working spaces, with different `tree`s.
use Rattle.std.specs.Prelude.{◌≡◌, ◌≢◌, false, length, eqb}
use Rattle.std.proofs.Math.Path.{refl, ap}
use Rattle.std.proofs.Common.{ap₂, sym, ◌∙◌}
use mathlib.Core.List.{List, [], ◌∷◌, ◌++◌, map, append_assoc}
use Prim.Native.Nat.{ℕ, zero, suc, ◌+◌, ◌*◌, ◌≤◌, ◌<◌}
use native.Mathlib.Omega.{arith}
use Rattle.std.proofs.Math.ListN.{take}
use Rattle.std.proofs.lemmas.List.{length-map}
use Rattle.std.proofs.Math.Seq.{take-suc}
use borrow.Author.Tests.{eqb-true, eqb-false, eq-eqb}
use Rattle.basics.specs.Tests.{Flag, is_true, is_false, flag, Cmp, cmp, below, equal, above}
use Rattle.basics.specs.Members.{mem, clash}
use Rattle.label.specs.Limits.{leaf_mark}
use Rattle.diagram.specs.Diagram.{Diagram, leaf, branch, same}
use Rattle.diagram.specs.Rows.{onto}
use Rattle.diagram.specs.Words.{label_at, high_at, low_at, up_to, finish}
use Rattle.diagram.specs.Listing.{index, encode, tree_at}
use Rattle.diagram.specs.DiagramLaws.{same-eq, same_refl, onto-old, onto-leaf, onto-branch}
use Rattle.diagram.specs.WordLaws.{AllBelow, below-snoc, below-up_to, length-up_to, mem-up_to, not-up_to, map_snoc, finish-old, finish-leaf, finish-branch}
use Rattle.diagram.specs.ListingLaws.{tree-leaf, tree-branch, index-append, index-new, encode-append}

-- row k of the m rows stands for tree k; different rows for different diagrams
pub record Shown (ws : List ℕ) (m : ℕ) (tree : ℕ → Diagram) : Type 0 where
  pub leaves : (k : ℕ) → k < m → label_at ws k ≡ leaf_mark → tree k ≡ leaf (high_at ws k)
  pub branches : (k : ℕ) → k < m → label_at ws k ≢ leaf_mark → tree k ≡ branch (label_at ws k) (tree (high_at ws k)) (tree (low_at ws k))
  pub kids : (k : ℕ) → k < m → label_at ws k ≢ leaf_mark → (high_at ws k < k) × (low_at ws k < k)
  pub inj : (a b : ℕ) → a < m → b < m → tree a ≡ tree b → a ≡ b

module _ (ws : List ℕ) (m : ℕ) (tree : ℕ → Diagram) (s : Shown ws m tree) where
  pub same-eqb : (a b : ℕ) → a < m → b < m → same (tree a) (tree b) ≡ eqb a b
  same-eqb a b h k = go (flag (eqb a b)) (flag (same (tree a) (tree b)))
    where
      go : Flag (eqb a b) → Flag (same (tree a) (tree b)) → same (tree a) (tree b) ≡ eqb a b
      go (is_true e) x = rw (e, eqb-true a b e) (same_refl (tree b))
      go (is_false e) (is_true q) = clash (eq-eqb a b (s.inj a b h k (same-eq _ _ q))) e
      go (is_false e) (is_false q) = q ∙ sym e

  pub mem-tree : (k : ℕ) (done : List ℕ) → k < m → AllBelow m done → mem same (tree k) (map tree done) ≡ mem eqb k done
  mem-tree k [] h b = refl
  mem-tree k (x ∷ xs) h b = rw (same-eqb k x h b.0, mem-tree k xs h b.1)

  pub map_inj : (xs ys : List ℕ) → AllBelow m xs → AllBelow m ys → map tree xs ≡ map tree ys → xs ≡ ys
  map_inj [] [] a b e = refl
  map_inj [] (y ∷ ys) a b e = cc
  map_inj (x ∷ xs) [] a b e = cc
  map_inj (x ∷ xs) (y ∷ ys) a b e =
      let p : tree x ≡ tree y = cc in
      let q : map tree xs ≡ map tree ys = cc in
      let u = s.inj x y a.0 b.0 p in
      let v = map_inj xs ys a.1 b.1 q in
      cc

  -- the walk over numbers is the walk over diagrams
  abbrev pub Agrees : ℕ → Type 0
  Agrees n = (i : ℕ) (done : List ℕ) → i < n → i < m → AllBelow m done
      → (map tree (finish ws n i done) ≡ onto (tree i) (map tree done)) × AllBelow m (finish ws n i done)

  agrees-step : (n : ℕ) → Agrees n → Agrees (suc n)
  agrees-step n ih i done h p b = go (flag (mem eqb i done)) (flag (eqb (label_at ws i) leaf_mark))
    where
      go : Flag (mem eqb i done) → Flag (eqb (label_at ws i) leaf_mark)
          → (map tree (finish ws (suc n) i done) ≡ onto (tree i) (map tree done)) × AllBelow m (finish ws (suc n) i done)
      go (is_true e) x = (
        rw (finish-old ws (suc n) i done e) (sym (onto-old (tree i) (map tree done) (mem-tree i done p b ∙ e))),
        rw (finish-old ws (suc n) i done e) b,
      )
      go (is_false e) (is_true q) =
          let q' = eqb-true _ _ q in
          let z = s.leaves i p q' in
          let g : mem same (leaf (high_at ws i)) (map tree done) ≡ false = rw (← z) (mem-tree i done p b ∙ e) in (
            rw (finish-leaf ws n i done e q', map_snoc tree done i, z) (sym (onto-leaf _ (map tree done) g)),
            rw (finish-leaf ws n i done e q') (below-snoc m done i b p),
          )
      go (is_false e) (is_false q) =
          let q' = eqb-false _ _ q in
          let z = s.branches i p q' in
          let k = s.kids i p q' in
          let x = ih (high_at ws i) done (omega arith) (omega arith) b in
          let y = ih (low_at ws i) (finish ws n (high_at ws i) done) (omega arith) (omega arith) x.1 in
          let g : mem same (branch (label_at ws i) (tree (high_at ws i)) (tree (low_at ws i))) (map tree done) ≡ false = rw (← z) (mem-tree i done p b ∙ e) in (
            rw (finish-branch ws n i done e q', map_snoc tree (finish ws n (low_at ws i) (finish ws n (high_at ws i) done)) i, y.0, x.0, z)
                (sym (onto-branch _ _ _ (map tree done) g)),
            rw (finish-branch ws n i done e q') (below-snoc m (finish ws n (low_at ws i) (finish ws n (high_at ws i) done)) i y.1 p),
          )

  pub agrees : (n : ℕ) → Agrees n
  agrees zero i done h p b = absurd (omega arith)
  agrees (suc n) i done h p b = agrees-step n (agrees n) i done h p b

  -- the diagram that is read from a row is the one it stands for
  abbrev pub Reads : ℕ → Type 0
  Reads n = (i : ℕ) → i < n → i < m → tree_at ws n i ≡ tree i

  reads-step : (n : ℕ) → Reads n → Reads (suc n)
  reads-step n ih i h p = go (flag (eqb (label_at ws i) leaf_mark))
    where
      go : Flag (eqb (label_at ws i) leaf_mark) → tree_at ws (suc n) i ≡ tree i
      go (is_true q) = let q' = eqb-true _ _ q in tree-leaf ws n i q' ∙ sym (s.leaves i p q')
      go (is_false q) =
          let q' = eqb-false _ _ q in
          let k = s.kids i p q' in
          tree-branch ws n i q' ∙ ap₂ (branch (label_at ws i)) (ih (high_at ws i) (omega arith) (omega arith)) (ih (low_at ws i) (omega arith) (omega arith))
          ∙ sym (s.branches i p q')

  pub reads : (n : ℕ) → Reads n
  reads zero i h p = absurd (omega arith)
  reads (suc n) i h p = reads-step n (reads n) i h p

  -- row k is found at place k
  pub index_is : (k n : ℕ) → k < n → n ≤ m → index (tree k) (map tree (up_to n)) ≡ k
  index_is k zero h l = absurd (omega arith)
  index_is k (suc n) h l = rw (map_snoc tree (up_to n) n) (go (cmp k n) (index_is k n))
    where
      go : Cmp k n → (k < n → n ≤ m → index (tree k) (map tree (up_to n)) ≡ k) → index (tree k) (map tree (up_to n) ++ (tree n ∷ [])) ≡ k
      go (below q) ih =
          index-append (tree k) (map tree (up_to n)) (tree n ∷ [])
          (mem-tree k (up_to n) (omega arith) (below-up_to m n (omega arith)) ∙ mem-up_to k n q)
          ∙ ih q (omega arith)
      go (equal q) ih =
          rw q (index-new (tree n) (map tree (up_to n)) (mem-tree n (up_to n) (omega arith) (below-up_to m n (omega arith)) ∙ not-up_to n n (omega arith))
          ∙ length-map (up_to n) tree ∙ length-up_to n)
      go (above q) ih = absurd (omega arith)

  -- the words of the rows are the words
  abbrev pub Rows : List Diagram
  Rows = map tree (up_to m)

  pub row_words : (k : ℕ) → k < m → (label_at ws k ≡ leaf_mark → low_at ws k ≡ 0) → encode Rows (tree k ∷ []) ≡ label_at ws k ∷ high_at ws k ∷ low_at ws k ∷ []
  unfolding encode
  row_words k h th = go (flag (eqb (label_at ws k) leaf_mark))
    where
      go : Flag (eqb (label_at ws k) leaf_mark) → encode Rows (tree k ∷ []) ≡ label_at ws k ∷ high_at ws k ∷ low_at ws k ∷ []
      go (is_true q) = let q' = eqb-true _ _ q in rw (s.leaves k h q', q', th q')
      go (is_false q) =
          let q' = eqb-false _ _ q in
          let z = s.kids k h q' in
          rw (s.branches k h q', index_is (high_at ws k) m (omega arith) (omega arith), index_is (low_at ws k) m (omega arith) (omega arith))

  take_row : (k : ℕ) → k * 3 + 3 ≤ length ws → take (suc k * 3) ws ≡ take (k * 3) ws ++ (label_at ws k ∷ high_at ws k ∷ low_at ws k ∷ [])
  unfolding label_at high_at low_at
  take_row k h =
      let e : suc k * 3 ≡ suc (k * 3 + 2) = omega arith in
      let e' : k * 3 + 2 ≡ suc (k * 3 + 1) = omega arith in
      let e'' : k * 3 + 1 ≡ suc (k * 3) = omega arith in
      let b : take (suc k * 3) ws ≡ take (k * 3 + 2) ws ++ (low_at ws k ∷ []) = ap (λ x. take x ws) e ∙ take-suc ws (k * 3 + 2) 0 (omega arith) in
      let c : take (k * 3 + 2) ws ≡ take (k * 3 + 1) ws ++ (high_at ws k ∷ []) = ap (λ x. take x ws) e' ∙ take-suc ws (k * 3 + 1) 0 (omega arith) in
      let d : take (k * 3 + 1) ws ≡ take (k * 3) ws ++ (label_at ws k ∷ []) = ap (λ x. take x ws) e'' ∙ take-suc ws (k * 3) 0 (omega arith) in
      let x = take (k * 3) ws in
      b ∙ ap (λ y. y ++ (low_at ws k ∷ [])) (c ∙ ap (λ y. y ++ (high_at ws k ∷ [])) d)
      ∙ append_assoc (x ++ (label_at ws k ∷ [])) (high_at ws k ∷ []) (low_at ws k ∷ []) ∙ append_assoc x (label_at ws k ∷ []) (high_at ws k ∷ low_at ws k ∷ [])

  pub words_are : (k : ℕ) → k ≤ m → m * 3 ≤ length ws → ((i : ℕ) → i < m → label_at ws i ≡ leaf_mark → low_at ws i ≡ 0)
      → encode Rows (map tree (up_to k)) ≡ take (k * 3) ws
  unfolding encode
  words_are zero h l th = refl
  words_are (suc k) h l th =
      rw (
        map_snoc tree (up_to k) k,
        encode-append Rows (map tree (up_to k)) (tree k ∷ []),
        words_are k (omega arith) l th,
        row_words k (omega arith) (th k (omega arith)),
      )
      (sym (take_row k (omega arith)))
