-- Laws of the working space: what its rows stand for, and what forming a row does to it.
use mathlib.Core.Bool.{true, false, cond}
use mathlib.Core.Path.{◌≡◌, refl, sym, ap, ap₂, subst, ◌∙◌}
use mathlib.Core.List.{List, [], ◌∷◌, ◌++◌, map}
use Prim.Native.Nat.{ℕ, zero, suc, ◌+◌, ◌*◌, ◌<◌, ◌≤◌}
use native.Mathlib.Omega.{arith}
use borrow.Author.Tests.{eq-eqb, ne_eqb, le-leb, lt-leb, leb-true, leb-false}
use lib.ListN.{length, get_or, take, length-append, length-map, get_or-append}
use lib.Seq.{take_all, take-append-le, get_or_at}
use lib.Dec.{leb, lit≤}
use Rattle.basics.specs.Tests.{Flag, is_true, is_false, flag}
use Rattle.basics.specs.Members.{mem}
use Rattle.basics.specs.Prefix.{Prefix, prefix-length, prefix-get_d}
use Rattle.label.specs.Limits.{leaf_mark}
use Rattle.table.specs.declared.Row.{Row as TableRow}
use Rattle.table.specs.declared.Added.{Added}
use Rattle.table.specs.declared.Added.TheVariants.{Old, New, Full as NoRoom}
use Rattle.table.specs.Rows.{row_at, rows, same_row, first_from, first_in}
use Rattle.table.specs.Table.{Table, Clean, add_rows, AddPost}
use Rattle.table.proofs.RowLaws.{row-ext, same_true, length-rows, get_d_rows, none_found}
use Rattle.table.proofs.TableLaws.{case-old, case-new, case_full, empty}
use Rattle.diagram.specs.Sizes.{space_rows}
use Rattle.diagram.specs.Diagram.{Diagram, leaf, branch, same}
use Rattle.diagram.specs.DiagramLaws.{same-eq, same_refl}
use Rattle.diagram.specs.Words.{label_at, high_at, low_at, up_to}
use Rattle.diagram.specs.WordLaws.{length-up_to, map_snoc, get_d_map, get_d-up_to}
use Rattle.diagram.specs.Listing.{index}
use Rattle.diagram.specs.ListingLaws.{index-new, index-less, get_d-index}
use Rattle.diagram.specs.Validity.{tree}
use Rattle.diagram.specs.Inner.{Written, SameRows}
use Rattle.diagram.specs.RowLists.{row_tree}
use Rattle.diagram.specs.RowLaws.{kept-index-is, row-mem}
use Rattle.diagram.specs.Shown.{Shown, reads}
use Rattle.diagram.specs.WrittenRows.{written-shown, rows-places, written_none, written-leaf, written-branch, leaf-found, branch-found, leaf-missing, branch-missing}
use Rattle.apply.specs.Apply.{node}
use Rattle.apply.specs.ApplyLaws.{node-same, node-differ}
use Rattle.apply.specs.Inner.{ClosedRows}
use Rattle.apply.specs.Formed.{add}
use Rattle.apply.proofs.FormedLaws.{add-old, add-new}
use Rattle.store.specs.AddLaws.{kept-closed}
use Rattle.store.specs.Space.{diagrams_of, Holds, stands_for, Formable, a-leaf, a-branch, Children, form_answer, Formation}
use Rattle.std.specs.Prelude.{None, Some}
use Rattle.std.specs.Prelude.{Option}
use Rattle.std.proofs.lemmas.Option.{some_pair_parts}

-- the diagrams of the rows, by number
map_same : (f g : ℕ → Diagram) (n : ℕ) → ((k : ℕ) → k < n → f k ≡ g k) → map f (up_to n) ≡ map g (up_to n)
map_same f g zero h = refl
map_same f g (suc n) h = rw (map_snoc f (up_to n) n, map_snoc g (up_to n) n, map_same f g n (λ k l. h k (omega arith)), h n (omega arith))

pub length-diagrams : (s : List ℕ) (n : ℕ) → length (diagrams_of s n) ≡ n
unfolding diagrams_of
length-diagrams s n = length-map (up_to n) (tree s) ∙ length-up_to n

pub diagram-at : (s : List ℕ) (n k : ℕ) → k < n → row_tree (diagrams_of s n) k ≡ tree s k
unfolding diagrams_of
diagram-at s n k h = get_d_map (tree s) (up_to n) k 0 (leaf 0) (omega (arith, length-up_to n)) ∙ ap (tree s) (get_d-up_to n k h)

pub diagrams-none : (s : List ℕ) → diagrams_of s 0 ≡ []
unfolding diagrams_of
diagrams-none s = refl

-- rows that stand in words are the diagrams of the words
module _ (s : List ℕ) (rs : List Diagram) (w : Written s rs) where
  pub tree-row : (k : ℕ) → k < length rs → tree s k ≡ row_tree rs k
  tree-row k h = reads s (length rs) (row_tree rs) (written-shown s rs w) (suc k) k (omega arith) h

  pub written-diagrams : diagrams_of s (length rs) ≡ rs
  unfolding diagrams_of
  written-diagrams = map_same (tree s) (row_tree rs) (length rs) tree-row ∙ rows-places rs

  pub written_same : (us : List ℕ) → SameRows s us (length rs) → Written us rs
  written_same us e = record {
    kept = w.kept;
    labels = w.labels;
    words = λ k h. rw (e.label k h, e.high k h, e.low k h) (w.words k h);
  }

-- the words of a row
module _ (s : List ℕ) (k : ℕ) (r : TableRow) (e : row_at s k ≡ r) where
  label_is : label_at s k ≡ r.label
  unfolding row_at label_at
  label_is = ap (λ (x : TableRow). x.label) e

  high_is : high_at s k ≡ r.high
  unfolding row_at high_at
  high_is = ap (λ (x : TableRow). x.high) e

  low-is : low_at s k ≡ r.low
  unfolding row_at low_at
  low-is = ap (λ (x : TableRow). x.low) e

row_is : (s : List ℕ) (k : ℕ) (r : TableRow) → label_at s k ≡ r.label → high_at s k ≡ r.high → low_at s k ≡ r.low → row_at s k ≡ r
unfolding row_at label_at high_at low_at
row_is s k r p q u = row-ext (row_at s k) r p q u

same_rows : (s us : List ℕ) (n : ℕ) → ((k : ℕ) → k < n → row_at us k ≡ row_at s k) → SameRows s us n
same_rows s us n h = record {
  label = λ k l. label_is us k (row_at s k) (h k l) ∙ sym (label_is s k (row_at s k) refl);
  high = λ k l. high_is us k (row_at s k) (h k l) ∙ sym (high_is s k (row_at s k) refl);
  low = λ k l. low-is us k (row_at s k) (h k l) ∙ sym (low-is s k (row_at s k) refl);
}

-- a row that was found is there
record Place (d : TableRow) (k : ℕ) (xs : List TableRow) (r : TableRow) (i : ℕ) : Type 0 where
  at : ℕ
  is : i ≡ k + at
  within : at < length xs
  row : get_or xs at d ≡ r

found_from : (d : TableRow) (k : ℕ) (xs : List TableRow) (r : TableRow) (i : ℕ) → first_from k xs r ≡ Some i → Place d k xs r i
unfolding first_from
found_from d k [] r i e = absurd (let z : ◌≡◌ {A = ℕ} 0 1 = cc in omega arith)
found_from d k (x ∷ xs) r i e = go (flag (same_row x r)) (found_from d (suc k) xs r i)
  where
    go : Flag (same_row x r) → (first_from (suc k) xs r ≡ Some i → Place d (suc k) xs r i) → Place d k (x ∷ xs) r i
    go (is_true q) ih = let f : Some k ≡ Some i = rw q at e in let g : k ≡ i = cc in record { at = 0; is = omega arith; within = omega arith; row = same_true x r q }
    go (is_false q) ih = let f = ih (rw q at e) in record { at = suc f.at; is = omega (arith, f.is); within = omega (arith, f.within); row = f.row }

pub found-is : (s : List ℕ) (n : ℕ) (r : TableRow) (i : ℕ) → first_in (rows s n) r ≡ Some i → (i < n) × (row_at s i ≡ r)
unfolding first_in
found-is s n r i e =
    let f = found_from r 0 (rows s n) r i e in
    let q : f.at ≡ i = omega (arith, f.is) in
    let h : i < n = omega (arith, f.within, length-rows s n) in
    (h, sym (get_d_rows s r n i h) ∙ ap (λ (k : ℕ). get_or (rows s n) k r) (sym q) ∙ f.row)

-- what a row stands for
pub stands-leaf : (s : List ℕ) (r : TableRow) → r.label ≡ leaf_mark → stands_for s r ≡ leaf r.high
unfolding stands_for
stands-leaf s r e = rw (eq-eqb r.label leaf_mark e)

pub stands-branch : (s : List ℕ) (r : TableRow) → r.label < leaf_mark → stands_for s r ≡ branch r.label (tree s r.high) (tree s r.low)
unfolding stands_for
stands-branch s r h = rw (ne_eqb r.label leaf_mark (λ e. omega arith))

module _ (s : List ℕ) (rs : List Diagram) (w : Written s rs) (count : ℕ) (e : length rs ≡ count) (r : TableRow) where
  there : Formable count r → (i : ℕ) → i < count → row_at s i ≡ r → row_tree rs i ≡ stands_for s r
  there (a-leaf p q) i h x = leaf-found s rs w i r.high (omega arith) (label_is s i r x ∙ p) (high_is s i r x) ∙ sym (stands-leaf s r p)
  there (a-branch p q u) i h x =
      branch-found s rs w i r.label r.high r.low (omega arith) p (label_is s i r x) (high_is s i r x) (low-is s i r x)
      ∙ ap₂ (branch r.label) (sym (tree-row s rs w r.high (omega arith))) (sym (tree-row s rs w r.low (omega arith)))
      ∙ sym (stands-branch s r p)

  missing : Formable count r → ((i : ℕ) → i < count → row_at s i ≡ r → ⊥) → mem same (stands_for s r) rs ≡ false
  missing (a-leaf p q) f =
      rw (stands-leaf s r p) (leaf-missing s rs w r.high (λ k h x y z. f k (omega arith) (row_is s k r (x ∙ sym p) y (z ∙ sym q))))
  missing (a-branch p q u) f =
      rw (stands-branch s r p, tree-row s rs w r.high (omega arith), tree-row s rs w r.low (omega arith))
      (branch-missing s rs w r.label r.high r.low (omega arith) (omega arith) (λ k h x y z. f k (omega arith) (row_is s k r x y z)))

  more : Formable count r → (us : List ℕ) → SameRows s us (length rs) → row_at us (length rs) ≡ r → mem same (stands_for s r) rs ≡ false
      → Written us (rs ++ (stands_for s r ∷ []))
  more (a-leaf p q) us a x n =
      rw (stands-leaf s r p) (written-leaf s us rs r.high w a (rw (stands-leaf s r p) at n)
      (label_is us (length rs) r x ∙ p) (high_is us (length rs) r x) (low-is us (length rs) r x ∙ q))
  more (a-branch p q u) us a x n =
      let t = tree s r.high in
      let f = tree s r.low in
      let i = sym (tree-row s rs w r.high (omega arith)) in
      let j = sym (tree-row s rs w r.low (omega arith)) in
      rw (stands-branch s r p) (written-branch s us rs r.label t f w a (rw (stands-branch s r p) at n) p
      (row-mem rs r.high t (omega arith) i) (row-mem rs r.low f (omega arith) j)
      (label_is us (length rs) r x)
      (high_is us (length rs) r x ∙ sym (kept-index-is rs r.high t w.kept (omega arith) i))
      (low-is us (length rs) r x ∙ sym (kept-index-is rs r.low f w.kept (omega arith) j)))

-- the answers of forming
answer-room : (d : Diagram) (rs : List Diagram) → length rs ≤ space_rows → form_answer d rs ≡ Some ((index d rs), (length rs))
unfolding form_answer
answer-room d rs h = rw (le-leb (length rs) space_rows h)

answer-full : (d : Diagram) (rs : List Diagram) → space_rows < length rs → form_answer d rs ≡ None
unfolding form_answer
answer-full d rs h = rw (lt-leb (length rs) space_rows h)

module _ (s heads links : List ℕ) (rs : List Diagram) (n : ℕ) (e : length rs ≡ n) (w : Written s rs) (t : Table s heads links space_rows n) where
  pub written-holds : Holds s heads links n
  written-holds = record { table = t; written = rw (← e, written-diagrams s rs w) w }

  pub formed-room : (d : Diagram) (i : ℕ) → index d rs ≡ i → Formation d rs (Some (i, n)) s heads links
  formed-room d i q = record {
    answer = ap₂ (λ u v. Some (u, v)) (sym q) (sym e) ∙ sym (answer-room d rs (omega (arith, t.within)));
    diagrams = rw (← e) (written-diagrams s rs w ∙ sym (take_all space_rows rs (omega (arith, t.within))));
    holds = written-holds;
  }

  pub formed-full : (d : Diagram) (more : List Diagram) → n ≡ space_rows → 1 ≤ length more → Formation d (rs ++ more) None s heads links
  formed-full d more q h = record {
    answer = sym (answer-full d (rs ++ more) (omega (arith, length-append rs more)));
    diagrams = ap (diagrams_of s) (sym q ∙ sym e) ∙ written-diagrams s rs w
        ∙ sym (take-append-le space_rows rs more (omega arith) ∙ take_all space_rows rs (omega arith));
    holds = subst (Holds s heads links) q written-holds;
  }

-- the ways out of `form`, in the words of what `find_or_add` ensures
module _ {s heads links : List ℕ} {count : ℕ} {r : TableRow} {x : Added} {s' heads' links' : List ℕ} (h : Holds s heads links count) (f : Formable count r)
    (p : AddPost s space_rows count r x s' heads' links') where
  abbrev D : Diagram
  D = stands_for s r

  abbrev Rs : List Diagram
  Rs = diagrams_of s count

  is-count : length Rs ≡ count
  is-count = length-diagrams s count

  pub form-old : {i : ℕ} → x ≡ Old i → Formation D (add D Rs) (Some (i, count)) s' heads' links'
  form-old {i} e =
      let c = case-old p i e in
      let g = found-is s count r i c.0 in
      let t = there s Rs h.written count is-count r f i g.0 g.1 in
      let a = same_rows s s' count (λ k l. sym (get_d_rows s' r count k l) ∙ ap (λ y. get_or y k r) c.1 ∙ get_d_rows s r count k l) in
      rw (add-old D Rs (row-mem Rs i D (omega (arith, is-count)) t))
      (formed-room s' heads' links' Rs count is-count (written_same s Rs h.written s' (rw is-count a)) c.2 D i
      (kept-index-is Rs i D h.written.kept (omega (arith, is-count)) t))

  fresh : first_in (rows s count) r ≡ None → mem same D Rs ≡ false
  fresh e = missing s Rs h.written count is-count r f (none_found s count r e)

  pub form-new : {i : ℕ} → x ≡ New i → Formation D (add D Rs) (Some (count, (count + 1))) s' heads' links'
  form-new {i} e =
      let c = case-new p i e in
      let m = fresh c.0 in
      let n = length-rows s count in
      let a = same_rows s s' count (λ k l. sym (get_d_rows s' r (count + 1) k (omega arith)) ∙ ap (λ y. get_or y k r) c.1
      ∙ get_or-append (rows s count) (r ∷ []) r k (omega arith) ∙ get_d_rows s r count k l) in
      let b : row_at s' count ≡ r
      = sym (get_d_rows s' r (count + 1) count (omega arith)) ∙ ap (λ y. get_or y count r) c.1 ∙ get_or_at (rows s count) r [] r count n in
      rw (add-new D Rs m)
      (formed-room s' heads' links' (Rs ++ (D ∷ [])) (count + 1) (omega (arith, length-append Rs (D ∷ []), is-count))
      (more s Rs h.written count is-count r f s' (rw is-count a) (rw is-count b) m) c.2 D count (index-new D Rs m ∙ is-count))

  pub form-full : x ≡ NoRoom → Formation D (add D Rs) None s' heads' links'
  unfolding add_rows
  form-full e =
      let c = case_full p e in
      let m = fresh c.0 in
      let t : Table s' heads' links' space_rows count = rw e at p.table in
      let q : rows s' count ≡ rows s count = rw (e, c.0, length-rows s count, eq-eqb count space_rows c.1) at p.now-rows in
      let a = same_rows s s' count (λ k l. sym (get_d_rows s' r count k l) ∙ ap (λ y. get_or y k r) q ∙ get_d_rows s r count k l) in
      rw (add-new D Rs m)
      (formed-full s' heads' links' Rs count is-count (written_same s Rs h.written s' (rw is-count a)) t D (D ∷ []) c.1 (omega arith))

-- `leaf` and `branch`
module _ (s : List ℕ) (count : ℕ) {value : ℕ} {x : Option (ℕ × ℕ)} {s' heads' links' : List ℕ} where
  pub leaf-formed : Formation (stands_for s (record { label = leaf_mark; high = value; low = 0 }))
      (add (stands_for s (record { label = leaf_mark; high = value; low = 0 })) (diagrams_of s count)) x s' heads' links'
      → Formation (leaf value) (add (leaf value) (diagrams_of s count)) x s' heads' links'
  leaf-formed f = subst (λ (d : Diagram). Formation d (add d (diagrams_of s count)) x s' heads' links')
      (stands-leaf s (record { label = leaf_mark; high = value; low = 0 }) refl) f

pub leaf-formable : {count value : ℕ} → Formable count (record { label = leaf_mark; high = value; low = 0 })
leaf-formable = a-leaf refl refl

pub branch-formable : {count label high low : ℕ} → Children count label high low → Formable count (record { label = label; high = high; low = low })
branch-formable c = a-branch c.label-below c.high-there c.low-there

module _ {s heads links : List ℕ} {count label high low : ℕ} (h : Holds s heads links count) (c : Children count label high low) where
  pub branch_same : high ≡ low
      → Formation (node label (tree s high) (tree s low)) (add (node label (tree s high) (tree s low)) (diagrams_of s count)) (Some (high, count)) s heads links
  branch_same e =
      let n = length-diagrams s count in
      let b = diagram-at s count high c.high-there in
      let l : high < length (diagrams_of s count) = omega (arith, c.high-there) in
      rw (← e, node-same label (tree s high) (tree s high) (same_refl (tree s high)), add-old (tree s high) (diagrams_of s count) (row-mem (diagrams_of s count) high (tree s high) l b))
      (formed-room s heads links (diagrams_of s count) count n h.written h.table (tree s high) high
      (kept-index-is (diagrams_of s count) high (tree s high) h.written.kept l b))

  children-differ : (high ≡ low → ⊥) → same (tree s high) (tree s low) ≡ false
  children-differ d = go (flag (same (tree s high) (tree s low)))
    where
      go : Flag (same (tree s high) (tree s low)) → same (tree s high) (tree s low) ≡ false
      go (is_true e) =
          let n = length-diagrams s count in
          absurd (d (h.written.kept.distinct high low (omega (arith, c.high-there)) (omega (arith, c.low-there))
          (diagram-at s count high c.high-there ∙ same-eq (tree s high) (tree s low) e ∙ sym (diagram-at s count low c.low-there))))
      go (is_false e) = e

  pub branch-formed : {x : Option (ℕ × ℕ)} {s' heads' links' : List ℕ} → (high ≡ low → ⊥)
      → Formation (stands_for s (record { label = label; high = high; low = low }))
      (add (stands_for s (record { label = label; high = high; low = low })) (diagrams_of s count)) x s' heads' links'
      → Formation (node label (tree s high) (tree s low)) (add (node label (tree s high) (tree s low)) (diagrams_of s count)) x s' heads' links'
  branch-formed {x} {s'} {heads'} {links'} d f = subst (λ (y : Diagram). Formation y (add y (diagrams_of s count)) x s' heads' links')
      (stands-branch s (record { label = label; high = high; low = low }) c.label-below
      ∙ sym (node-differ label (tree s high) (tree s low) (children-differ d))) f

-- an empty space, over a clean index
pub holds-none : (s heads links : List ℕ) → space_rows * 3 ≤ length s → space_rows ≤ length links → Clean heads → Holds s heads links 0
holds-none s heads links h k c =
    written-holds s heads links [] 0 refl (written_none s) (empty s heads links space_rows h k (lit≤ tt) c)

-- what a space's Formation tells its caller: rows that were there stay
module _ {d : Diagram} {rs : List Diagram} {s heads links : List ℕ} where
  pub formation-row : {i n : ℕ} → Formation d rs (Some (i, n)) s heads links → (length rs ≤ space_rows) × (i ≡ index d rs) × (n ≡ length rs) × (diagrams_of s n ≡ rs)
  unfolding form_answer
  formation-row {i} {n} f = go (flag (leb (length rs) space_rows)) f.answer
    where
      go : Flag (leb (length rs) space_rows) → ◌≡◌ {A = Option (ℕ × ℕ)} (Some (i, n)) (cond (leb (length rs) space_rows) (Some (index d rs, length rs)) None)
          → (length rs ≤ space_rows) × (i ≡ index d rs) × (n ≡ length rs) × (diagrams_of s n ≡ rs)
      go (is_true e) a =
          let l = leb-true (length rs) space_rows e in
          let b : ◌≡◌ {A = Option (ℕ × ℕ)} (Some (i, n)) (Some (index d rs, length rs)) = rw e at a in
          let p = some_pair_parts i (index d rs) n (length rs) b in
          (l, p.0, p.1, f.diagrams ∙ take_all space_rows rs l)
      go (is_false e) a = let b : ◌≡◌ {A = Option (ℕ × ℕ)} (Some (i, n)) None = rw e at a in absurd (let z : ◌≡◌ {A = ℕ} 0 1 = cc in omega arith)

  pub formation-full : Formation d rs None s heads links → space_rows < length rs
  unfolding form_answer
  formation-full f = go (flag (leb (length rs) space_rows)) f.answer
    where
      go : Flag (leb (length rs) space_rows) → ◌≡◌ {A = Option (ℕ × ℕ)} None (cond (leb (length rs) space_rows) (Some (index d rs, length rs)) None) → space_rows < length rs
      go (is_true e) a = let b : ◌≡◌ {A = Option (ℕ × ℕ)} None (Some (index d rs, length rs)) = rw e at a in absurd (let z : ◌≡◌ {A = ℕ} 0 1 = cc in omega arith)
      go (is_false e) a = leb-false (length rs) space_rows e

-- the rows of a space hold with each branch its children
pub holds-closed : {s heads links : List ℕ} {count : ℕ} → Holds s heads links count → ClosedRows (diagrams_of s count)
holds-closed {s} {heads} {links} {count} h = kept-closed (diagrams_of s count) h.written.kept

module _ {d : Diagram} {rs : List Diagram} {s heads links : List ℕ} {i n : ℕ} (f : Formation d rs (Some (i, n)) s heads links) where
  -- the row that was formed stands for its diagram
  pub formation-tree : mem same d rs ≡ true → (i < n) × (tree s i ≡ d)
  formation-tree m =
      let r = formation-row f in
      let h : i < n = omega (arith, r.1, r.2, index-less d rs m) in
      (h, sym (diagram-at s n i h) ∙ ap (λ (x : List Diagram). row_tree x i) r.3 ∙ ap (row_tree rs) r.1 ∙ get_d-index d rs (leaf 0) m)

  -- rows that were there stand for what they stood for
  pub formation-old : (us : List ℕ) (count : ℕ) → Prefix (diagrams_of us count) rs → (k : ℕ) → k < count → (k < n) × (tree s k ≡ tree us k)
  formation-old us count b k h =
      let r = formation-row f in
      let l = length-diagrams us count in
      let k' : k < n = omega (arith, r.2, prefix-length b) in
      (k', sym (diagram-at s n k k') ∙ ap (λ (x : List Diagram). row_tree x k) r.3 ∙ prefix-get_d b k (leaf 0) (omega arith) ∙ diagram-at us count k h)

-- where there is no room for some rows, there is none for more
pub full-more : {d : Diagram} {rs : List Diagram} {s heads links : List ℕ} (e : Diagram) (qs : List Diagram) → Formation d rs None s heads links → Prefix rs qs
    → Formation e qs None s heads links
full-more {d} {rs} {s} {heads} {links} e qs f b =
    let h = formation-full f in
    record {
      answer = sym (answer-full e qs (omega (arith, prefix-length b)));
      diagrams = f.diagrams ∙ sym (ap (take space_rows) b.is ∙ take-append-le space_rows rs b.more (omega arith));
      holds = f.holds;
    }

-- the rows of a space are shown by their words
pub written-trees : (s : List ℕ) (count : ℕ) → Written s (diagrams_of s count) → Shown s count (tree s)
written-trees s count w = record {
  leaves = λ k h e. sym (at k h) ∙ v.leaves k (up k h) e;
  branches = λ k h e.
      let c = v.kids k (up k h) e in
      sym (at k h) ∙ v.branches k (up k h) e ∙ ap₂ (branch (label_at s k)) (at (high_at s k) (omega arith)) (at (low_at s k) (omega arith));
  kids = λ k h e. v.kids k (up k h) e;
  inj = λ a b h k e. v.inj a b (up a h) (up b k) (at a h ∙ e ∙ sym (at b k));
}
  where
    v : Shown s (length (diagrams_of s count)) (row_tree (diagrams_of s count))
    v = written-shown s (diagrams_of s count) w

    up : (k : ℕ) → k < count → k < length (diagrams_of s count)
    up k h = omega (arith, length-diagrams s count)

    at : (k : ℕ) → k < count → row_tree (diagrams_of s count) k ≡ tree s k
    at k h = diagram-at s count k h
