-- Laws of `write`: the rows that the walk from the root numbers are the rows of its diagram, and the words written are its listing.
use mathlib.Core.Bool.{true}
use mathlib.Core.Path.{◌≡◌, sym, ap, ◌∙◌}
use mathlib.Core.Logic.{◌≢◌}
use mathlib.Core.List.{List, [], ◌∷◌, ◌++◌, map}
use Prim.Native.Nat.{ℕ, zero, suc, ◌-◌, ◌*◌, ◌<◌, ◌≤◌, zero-le}
use native.Mathlib.Omega.{arith}
use borrow.Author.Tests.{eqb-true, eqb-false, le-leb, lt-leb}
use lib.ListN.{length, get_or, take, drop, length-map}
use lib.Seq.{take-suc, length-take-le, get_or-take}
use lib.Dec.{eqb}
use Rattle.basics.specs.Tests.{Flag, is_true, is_false, flag}
use Rattle.basics.specs.Members.{mem}
use Rattle.label.specs.Limits.{leaf_mark}
use Rattle.diagram.specs.Sizes.{most_rows}
use Rattle.diagram.specs.Diagram.{Diagram, leaf, branch, same}
use Rattle.diagram.specs.Rows.{onto, rows}
use Rattle.diagram.specs.Words.{label_at, high_at, low_at, finish}
use Rattle.diagram.specs.WordLaws.{map_snoc, get_d_map, AllBelow}
use Rattle.diagram.specs.Listing.{index, encode, listing}
use Rattle.diagram.specs.ListingLaws.{encode-append}
use Rattle.diagram.specs.Validity.{tree}
use Rattle.diagram.specs.RowLists.{row_tree}
use Rattle.diagram.specs.RowLaws.{rows-kept, kept-index-is}
use Rattle.diagram.specs.Shown.{Shown, agrees, mem-tree}
use Rattle.apply.proofs.RowLaws.{rows-onto}
use Rattle.store.proofs.SpaceLaws.{written-trees}
use Rattle.write.specs.Numbering.{Marked, Unmarked, Unnumbered, Downward, Numbered}
use Rattle.write.specs.Writing.{renumbered, listed_rows, Emittable, Writable, write_answer, write_words, WritePost}
use Rattle.write.proofs.NumberLaws.{place_of}
use Rattle.write.proofs.WriteLaws.{row_words, renumbered-leaf, renumbered-branch, listed-none, listed-snoc}
use Rattle.std.specs.Prelude.{None, Some}

below_at : (m : ℕ) (xs : List ℕ) (i : ℕ) → AllBelow m xs → i < length xs → get_or xs i 0 < m
below_at m [] i a h = absurd (omega arith)
below_at m (x ∷ xs) zero a h = a.0
below_at m (x ∷ xs) (suc i) a h = below_at m xs i a.1 (omega arith)

module _ {s : List ℕ} {count root : ℕ} {marks order out : List ℕ} (w : Writable s count root marks order out) where
  trees : Shown s count (tree s)
  trees = written-trees s count w.written

  pub write-down : Downward s root
  write-down = record {
    room = omega (arith, w.words, w.within, w.root-there);
    small = omega (arith, w.within, w.root-there);
    children = λ k h e. trees.kids k (omega (arith, w.root-there)) e;
  }

  nothing : Marked marks order 0
  nothing = record {
    mark-places = w.unmarked.places;
    order-places = w.order-places;
    few = zero-le;
    numbered = λ i h. absurd (omega arith);
    marked = λ k i h e. let z = w.unmarked.zeros k h in absurd (omega arith);
  }

  pub write-start : Unnumbered marks order 0 root
  write-start = record { rows = nothing; none = w.unmarked.zeros root (omega (arith, w.within, w.root-there)) }

  module _ {m : ℕ} {marks' order' : List ℕ} (x : Numbered s marks order 0 root m marks' order') where
    abbrev D : Diagram
    D = tree s root

    abbrev Ks : List ℕ
    Ks = take m order'

    walked : Ks ≡ finish s (suc root) root []
    walked = x.finished (suc root) (omega arith)

    agreed : (map (tree s) (finish s (suc root) root []) ≡ onto D []) × AllBelow count (finish s (suc root) root [])
    agreed = agrees s count (tree s) trees (suc root) root [] (omega arith) w.root-there tt

    rows_are : rows D ≡ map (tree s) Ks
    rows_are = rows-onto D ∙ sym agreed.0 ∙ ap (map (tree s)) (sym walked)

    all-below : AllBelow count Ks
    all-below = rw walked agreed.1

    long : m ≤ length order'
    long = omega (arith, x.rows.few, x.rows.order-places)

    many : length Ks ≡ m
    many = length-take-le m order' long

    pub row_count : length (rows D) ≡ m
    row_count = ap length rows_are ∙ length-map Ks (tree s) ∙ many

    row_below : (j : ℕ) → j < m → get_or order' j 0 < count
    row_below j h = rw (← get_or-take m order' j 0 h) (below_at count Ks j all-below (omega (arith, many)))

    row-tree : (j : ℕ) → j < m → row_tree (rows D) j ≡ tree s (get_or order' j 0)
    row-tree j h = rw rows_are (get_d_map (tree s) Ks j 0 (leaf 0) (omega (arith, many)) ∙ ap (tree s) (get_or-take m order' j 0 h))

    -- a row of the space that is a row of the diagram has a number
    record Numbering (k : ℕ) : Type 0 where
      at : ℕ
      mark : get_or marks' k 0 ≡ suc at
      number : index (tree s k) (rows D) ≡ at

    numbering : (k : ℕ) → k < count → mem same (tree s k) (rows D) ≡ true → Numbering k
    numbering k h e =
        let p = place_of order' m k long (sym (mem-tree s count (tree s) trees k Ks h all-below) ∙ ap (mem same (tree s k)) (sym rows_are) ∙ e) in
        record {
          at = p.at;
          mark = ap (λ (z : ℕ). get_or marks' z 0) (sym p.is) ∙ (x.rows.numbered p.at p.within).1;
          number = kept-index-is (rows D) p.at (tree s k) (rows-kept D) (omega (arith, row_count, p.within)) (row-tree p.at p.within ∙ ap (tree s) p.is);
        }

    -- the children of row j
    module _ (j : ℕ) (h : j < m) (e : label_at s (get_or order' j 0) ≢ leaf_mark) where
      abbrev K : ℕ
      K = get_or order' j 0

      the-branch : row_tree (rows D) j ≡ branch (label_at s K) (tree s (high_at s K)) (tree s (low_at s K))
      the-branch = row-tree j h ∙ trees.branches K (row_below j h) e

      before : (high_at s K < K) × (low_at s K < K)
      before = trees.kids K (row_below j h) e

      high-number : Numbering (high_at s K)
      high-number =
          let c = (rows-kept D).children j _ _ _ (omega (arith, row_count)) the-branch in
          numbering (high_at s K) (omega (arith, before.0, row_below j h)) c.0.is_row

      low-number : Numbering (low_at s K)
      low-number =
          let c = (rows-kept D).children j _ _ _ (omega (arith, row_count)) the-branch in
          numbering (low_at s K) (omega (arith, before.1, row_below j h)) c.1.is_row

    pub write-emittable : m ≤ most_rows → Emittable s marks' order' m out
    write-emittable h = record {
      few = x.rows.few;
      places = x.rows.order-places;
      room = omega (arith, w.room);
      each = λ j l. record {
        room = omega (arith, w.words, w.within, row_below j l);
        places = x.rows.mark-places;
        high_small = λ e. omega (arith, w.within, row_below j l, (before j l e).0);
        low_small = λ e. omega (arith, w.within, row_below j l, (before j l e).1);
        high-marked = λ e. omega (arith, (high-number j l e).mark);
        low-marked = λ e. omega (arith, (low-number j l e).mark);
      };
    }

    -- the words of row j
    row_words_lem : (j : ℕ) → j < m → encode (rows D) (tree s (get_or order' j 0) ∷ []) ≡ row_words (renumbered s marks' (get_or order' j 0))
    unfolding encode
    row_words_lem j h = go (flag (eqb (label_at s (get_or order' j 0)) leaf_mark))
      where
        go : Flag (eqb (label_at s (get_or order' j 0)) leaf_mark) → encode (rows D) (tree s (get_or order' j 0) ∷ []) ≡ row_words (renumbered s marks' (get_or order' j 0))
        go (is_true e) = let e' = eqb-true _ _ e in rw (trees.leaves (get_or order' j 0) (row_below j h) e', renumbered-leaf s marks' (get_or order' j 0) e')
        go (is_false e) =
            let e' = eqb-false _ _ e in
            let a = high-number j h e' in
            let b = low-number j h e' in
            let p : index (tree s (high_at s (get_or order' j 0))) (rows D) ≡ get_or marks' (high_at s (get_or order' j 0)) 0 - 1 = omega (arith, a.mark, a.number) in
            let q : index (tree s (low_at s (get_or order' j 0))) (rows D) ≡ get_or marks' (low_at s (get_or order' j 0)) 0 - 1 = omega (arith, b.mark, b.number) in
            rw (trees.branches (get_or order' j 0) (row_below j h) e', renumbered-branch s marks' (get_or order' j 0) e', p, q)

    words-up_to : (j : ℕ) → j ≤ m → encode (rows D) (map (tree s) (take j order')) ≡ listed_rows s marks' (take j order')
    unfolding encode
    words-up_to zero h = sym (listed-none s marks')
    words-up_to (suc j) h =
        let t = take-suc order' j 0 (omega (arith, long)) in
        rw (
          t,
          map_snoc (tree s) (take j order') (get_or order' j 0),
          encode-append (rows D) (map (tree s) (take j order')) (tree s (get_or order' j 0) ∷ []),
          words-up_to j (omega arith),
          row_words_lem j (omega arith),
        )
        (sym (listed-snoc s marks' (take j order') (get_or order' j 0)))

    pub listing-is : listing D ≡ listed_rows s marks' Ks
    unfolding listing
    listing-is = ap (encode (rows D)) rows_are ∙ words-up_to m (omega arith)

    pub write-many : most_rows < m → {marks'' : List ℕ} → Unmarked marks'' → WritePost s root out None marks'' out
    unfolding write_answer write_words
    write-many h u =
        let e = lt-leb (length (rows D)) most_rows (omega (arith, row_count)) in
        record { answer = rw e; words = rw e; unmarked = u }

    pub write-rows : m ≤ most_rows → {out' marks'' : List ℕ} → out' ≡ listed_rows s marks' (take m order') ++ drop (m * 3) out → Unmarked marks''
        → WritePost s root out (Some m) marks'' out'
    unfolding write_answer write_words
    write-rows h {out'} {marks''} p u =
        let e = le-leb (length (rows D)) most_rows (omega (arith, row_count)) in
        record { answer = rw (e, row_count); words = rw (e, row_count, listing-is) p; unmarked = u }
