-- The ways through the functions that form a plan's rows.
use mathlib.Core.Path.{◌≡◌, refl, sym, ap, ap₂, ◌∙◌, subst}
use mathlib.Core.Bool.{true, false, ◌||◌}
use mathlib.Core.List.{List, [], ◌++◌}
use Prim.Native.Nat.{ℕ, zero, suc, ◌+◌, ◌*◌, ◌-◌, ◌≤◌, ◌<◌}
use native.Mathlib.Omega.{arith}
use lib.ListN.{length, get_or, set, take, length-set, get_or-append}
use lib.Seq.{get_or-set_same, get_or-set_other, get_or_at, take_all, take-append-le}
use lib.Dec.{eqb, ltb}
use borrow.Author.Tests.{le-leb, lt-leb}
use native.Mathlib.Numerals.{add-one}
use Rattle.basics.specs.Tests.{Flag, is_true, is_false, flag, Cmp, below, equal, above, cmp, neither}
use Rattle.basics.specs.Prefix.{Prefix, prefix_refl, prefix_trans, prefix-snoc, prefix-length, prefix-get_d}
use Rattle.label.specs.Limits.{leaf_mark}
use Rattle.diagram.specs.Diagram.{Diagram, leaf}
use Rattle.diagram.specs.Sizes.{space_rows, highest_value}
use Rattle.diagram.specs.Listing.{index}
use Rattle.diagram.specs.ListingLaws.{get_d-index, index-less}
use Rattle.diagram.specs.RowLaws.{kept-index-is}
use Rattle.diagram.specs.Validity.{tree}
use Rattle.apply.specs.declared.Operation.{Operation}
use Rattle.apply.specs.Combination.{operate}
use Rattle.apply.specs.Apply.{node}
use Rattle.apply.specs.Formed.{add}
use Rattle.apply.proofs.FormedLaws.{add-mem, add-begins}
use Rattle.store.proofs.SpaceLaws.{length-diagrams, diagram-at, formation-row, formation-full}
use Rattle.plan.specs.Plan.{pair_label_at, first_at, second_at}
use Rattle.store.specs.Space.{diagrams_of, Holds, Children, form_answer, Formation, add_all}
use Rattle.store.specs.AddLaws.{add-all-none, add-all-snoc, add-all-more}
use Rattle.combine.specs.Callers.{Calm, EntryOf}
use Rattle.combine.specs.Results.{is_end_at, result_at, results, exceeds_at, exceeds}
use Rattle.combine.specs.ResultLaws.{end-at, branch-at, result-end, result-branch, results-none, results-more, length-results, exceeds-more}
use Rattle.combine.specs.Forming.{entry_at, ChildRows, FormableAt, Forming, Formable, last_of}
use Rattle.std.specs.Prelude.{None, Option, Some}

entry-end : (op : Operation) (ws s : List ℕ) (k : ℕ) → is_end_at ws k ≡ true → entry_at op ws s k ≡ leaf (operate op (first_at ws k) (second_at ws k))
unfolding entry_at
entry-end op ws s k e = rw e

entry-branch : (op : Operation) (ws s : List ℕ) (k : ℕ) → is_end_at ws k ≡ false
    → entry_at op ws s k ≡ node (pair_label_at ws k) (tree s (second_at ws (first_at ws k))) (tree s (second_at ws (second_at ws k)))
unfolding entry_at
entry-branch op ws s k e = rw e

-- form_at
module _ {op : Operation} {ws : List ℕ} {n k count : ℕ} (f : FormableAt op ws n k count) {l x y : ℕ}
    (el : l ≡ pair_label_at ws k) (ex : x ≡ first_at ws k) (ey : y ≡ second_at ws k) where
  pub leaf-calm : l ≡ leaf_mark → Calm op x y
  leaf-calm e = rw (ex, ey) (f.ends (end-at ws k (sym el ∙ e)))

  pub leaf-out : (s : List ℕ) {v : ℕ} {r : Option (ℕ × ℕ)} {s' h' l' : List ℕ} → l ≡ leaf_mark → v ≡ operate op x y
      → Formation (leaf v) (add (leaf v) (diagrams_of s count)) r s' h' l'
      → Formation (entry_at op ws s k) (add (entry_at op ws s k) (diagrams_of s count)) r s' h' l'
  leaf-out s {v} {r} {s'} {h'} {l'} e ev p =
      let z : leaf v ≡ entry_at op ws s k = ap leaf (ev ∙ ap₂ (operate op) ex ey) ∙ sym (entry-end op ws s k (end-at ws k (sym el ∙ e))) in
      subst (λ (d : Diagram). Formation d (add d (diagrams_of s count)) r s' h' l') z p

  module _ (n≢ : l ≡ leaf_mark → ⊥) where
    kids : ChildRows ws n k count
    kids = f.branches (branch-at ws k (λ z. n≢ (el ∙ z)))

    pub high-entry : EntryOf ws n x
    high-entry = record { room = f.room; less = rw ex kids.first }

    pub low-entry : EntryOf ws n y
    low-entry = record { room = f.room; less = rw ey kids.second }

    module _ {h w : ℕ} (eh : h ≡ second_at ws x) (ew : w ≡ second_at ws y) where
      pub branch-children : Children count l h w
      branch-children = record {
        label-below = rw el kids.label;
        high-there = rw (eh, ex) kids.high;
        low-there = rw (ew, ey) kids.low;
      }

      pub branch-out : (s : List ℕ) {r : Option (ℕ × ℕ)} {s' h' l' : List ℕ}
          → Formation (node l (tree s h) (tree s w)) (add (node l (tree s h) (tree s w)) (diagrams_of s count)) r s' h' l'
          → Formation (entry_at op ws s k) (add (entry_at op ws s k) (diagrams_of s count)) r s' h' l'
      branch-out s {r} {s'} {h'} {l'} p =
          let eh' : h ≡ second_at ws (first_at ws k) = eh ∙ ap (second_at ws) ex in
          let ew' : w ≡ second_at ws (second_at ws k) = ew ∙ ap (second_at ws) ey in
          let z : node l (tree s h) (tree s w) ≡ entry_at op ws s k =
          (λ i. node (el i) (tree s (eh' i)) (tree s (ew' i))) ∙ sym (entry-branch op ws s k (branch-at ws k (λ q. n≢ (el ∙ q)))) in
          subst (λ (d : Diagram). Formation d (add d (diagrams_of s count)) r s' h' l') z p

at-end : (op : ℕ → ℕ → ℕ) (ws : List ℕ) (k : ℕ) → is_end_at ws k ≡ true → exceeds_at op ws k ≡ false → ltb highest_value (op (first_at ws k) (second_at ws k)) ≡ false
unfolding exceeds_at
at-end op ws k d e = rw d at e

-- no end among the first n entries has a result above 10^18
calm-entry : (op : ℕ → ℕ → ℕ) (ws : List ℕ) (n k : ℕ) → k < n → exceeds op ws n ≡ false → is_end_at ws k ≡ true → ltb highest_value (op (first_at ws k) (second_at ws k)) ≡ false
calm-entry op ws zero k h e d = absurd (omega arith)
calm-entry op ws (suc n) k h e d = go (cmp k n) (calm-entry op ws n k)
  where
    both : (exceeds op ws n || exceeds_at op ws n) ≡ false
    both = sym (exceeds-more op ws n) ∙ e

    go : Cmp k n → (k < n → exceeds op ws n ≡ false → is_end_at ws k ≡ true → ltb highest_value (op (first_at ws k) (second_at ws k)) ≡ false)
        → ltb highest_value (op (first_at ws k) (second_at ws k)) ≡ false
    go (below q) ih = ih q (neither (exceeds op ws n) _ both).0 d
    go (equal q) ih = at-end op ws k d (ap (exceeds_at op ws) q ∙ (neither (exceeds op ws n) _ both).1)
    go (above q) ih = absurd (omega arith)

-- form: the rows that were there stay
module _ (d : Diagram) (s : List ℕ) (rows : ℕ) {row then : ℕ} {s' h' l' : List ℕ} (p : Formation d (add d (diagrams_of s rows)) (Some (row, then)) s' h' l') where
  R : List Diagram
  R = add d (diagrams_of s rows)

  told : (length R ≤ space_rows) × (row ≡ index d R) × (then ≡ length R) × (diagrams_of s' then ≡ R)
  unfolding R
  told = formation-row p

  at_new : (k : ℕ) → k < then → tree s' k ≡ get_or R k (leaf 0)
  at_new k h = sym (diagram-at s' then k h) ∙ ap (λ (ds : List Diagram). get_or ds k (leaf 0)) told.3

  row-there : row < then
  unfolding R
  row-there = rw (told.1, told.2) (index-less d (add d (diagrams_of s rows)) (add-mem d (diagrams_of s rows)))

  row-tree : tree s' row ≡ d
  unfolding R
  row-tree = at_new row row-there ∙ ap (λ (i : ℕ). get_or R i (leaf 0)) told.1 ∙ get_d-index d (add d (diagrams_of s rows)) (leaf 0) (add-mem d (diagrams_of s rows))

  rows_grow : rows ≤ then
  unfolding R
  rows_grow = omega (arith, told.2, prefix-length (add-begins d (diagrams_of s rows)), length-diagrams s rows)

  old-tree : (k : ℕ) → k < rows → tree s' k ≡ tree s k
  unfolding R
  old-tree k h =
      at_new k (omega (arith, rows_grow)) ∙ prefix-get_d (add-begins d (diagrams_of s rows)) k (leaf 0) (omega (arith, length-diagrams s rows))
      ∙ diagram-at s rows k h

-- one word of one entry is written
module _ (ws : List ℕ) (k row : ℕ) where
  label_kept : (j : ℕ) → pair_label_at (set ws (k * 5 + 4) row) j ≡ pair_label_at ws j
  unfolding pair_label_at
  label_kept j = get_or-set_other ws (k * 5 + 4) (j * 5 + 2) row 0 (omega arith)

  first-kept : (j : ℕ) → first_at (set ws (k * 5 + 4) row) j ≡ first_at ws j
  unfolding first_at
  first-kept j = get_or-set_other ws (k * 5 + 4) (j * 5 + 3) row 0 (omega arith)

  second-kept : (j : ℕ) → (j ≡ k → ⊥) → second_at (set ws (k * 5 + 4) row) j ≡ second_at ws j
  unfolding second_at
  second-kept j n = get_or-set_other ws (k * 5 + 4) (j * 5 + 4) row 0 (omega arith)

  second-set : k * 5 + 4 < length ws → second_at (set ws (k * 5 + 4) row) k ≡ row
  unfolding second_at
  second-set h = get_or-set_same ws (k * 5 + 4) row 0 h

get_d-less : (ds es : List Diagram) (j : ℕ) → j < length ds → get_or (ds ++ es) j (leaf 0) ≡ get_or ds j (leaf 0)
get_d-less ds es j h = get_or-append ds es (leaf 0) j h

-- form: each step
module _ {op : Operation} {ws₀ : List ℕ} {rs : List Diagram} {n : ℕ} (able : Formable op ws₀ n) {ws : List ℕ} {k : ℕ} {s heads links : List ℕ} {rows : ℕ}
    (now : Forming op ws₀ rs ws k s heads links rows) (less : k < n) where
  end_same : is_end_at ws k ≡ is_end_at ws₀ k
  unfolding is_end_at
  end_same = ap (λ (l : ℕ). eqb l leaf_mark) (now.labels k)

  calm-at : is_end_at ws₀ k ≡ true → Calm op (first_at ws₀ k) (second_at ws₀ k)
  calm-at e =
      let v = able.sound.values k less e in
      record { values = record { first = v.0; second = v.1 }; calm = calm-entry (operate op) ws₀ n k less able.calm e }

  pub formable-at : n * 5 ≤ length ws → FormableAt op ws n k rows
  formable-at room = record {
    room = room;
    less = less;
    ends = λ e. rw (now.firsts k, now.ahead k (omega arith)) (calm-at (sym end_same ∙ e));
    branches = λ e. kids (sym end_same ∙ e);
  }
    where
      kids : is_end_at ws₀ k ≡ false → ChildRows ws n k rows
      kids e =
          let t = able.sound.firsts k less e in
          let f = able.sound.seconds k less e in
          record {
            label = rw (now.labels k) (able.sound.labels k less e);
            first = omega (arith, now.firsts k);
            second = omega (arith, now.ahead k (omega arith));
            high = rw (now.firsts k) (now.number (first_at ws₀ k) t);
            low = rw (now.ahead k (omega arith)) (now.number (second_at ws₀ k) f);
          }

  entry-is : entry_at op ws s k ≡ result_at (operate op) ws₀ (results (operate op) ws₀ k) k
  entry-is = go (flag (is_end_at ws₀ k))
    where
      go : Flag (is_end_at ws₀ k) → entry_at op ws s k ≡ result_at (operate op) ws₀ (results (operate op) ws₀ k) k
      go (is_true e) =
          entry-end op ws s k (end_same ∙ e) ∙ ap leaf (ap₂ (operate op) (now.firsts k) (now.ahead k (omega arith)))
          ∙ sym (result-end (operate op) ws₀ (results (operate op) ws₀ k) k e)
      go (is_false e) =
          let t = able.sound.firsts k less e in
          let f = able.sound.seconds k less e in
          let eh : tree s (second_at ws (first_at ws k)) ≡ get_or (results (operate op) ws₀ k) (first_at ws₀ k) (leaf 0) =
          ap (λ (i : ℕ). tree s (second_at ws i)) (now.firsts k) ∙ now.formed (first_at ws₀ k) t in
          let el : tree s (second_at ws (second_at ws k)) ≡ get_or (results (operate op) ws₀ k) (second_at ws₀ k) (leaf 0) =
          ap (λ (i : ℕ). tree s (second_at ws i)) (now.ahead k (omega arith)) ∙ now.formed (second_at ws₀ k) f in
          let en = now.labels k in
          entry-branch op ws s k (end_same ∙ e) ∙ (λ i. node (en i) (eh i) (el i)) ∙ sym (result-branch (operate op) ws₀ (results (operate op) ws₀ k) k e)

  rows_then : add (entry_at op ws s k) (diagrams_of s rows) ≡ add_all rs (results (operate op) ws₀ (suc k))
  rows_then =
      ap₂ add entry-is now.diagrams ∙ sym (add-all-snoc rs (results (operate op) ws₀ k) (result_at (operate op) ws₀ (results (operate op) ws₀ k) k))
      ∙ ap (add_all rs) (sym (results-more (operate op) ws₀ k))

  module _ {row then : ℕ} {s' h' l' : List ℕ} (p : Formation (entry_at op ws s k) (add (entry_at op ws s k) (diagrams_of s rows)) (Some (row, then)) s' h' l') (room : n * 5 ≤ length ws) where
    forming-suc : Forming op ws₀ rs (set ws (k * 5 + 4) row) (suc k) s' h' l' then
    forming-suc = record {
      holds = p.holds;
      diagrams = (formation-row p).3 ∙ rows_then;
      labels = λ j. label_kept ws k row j ∙ now.labels j;
      firsts = λ j. first-kept ws k row j ∙ now.firsts j;
      ahead = λ j h. second-kept ws k row j (omega arith) ∙ now.ahead j (omega arith);
      number = λ j h. number_at j (cmp j k) h;
      formed = λ j h. formed-at j (cmp j k) h;
    }
      where
        number_at : (j : ℕ) → Cmp j k → j < suc k → second_at (set ws (k * 5 + 4) row) j < then
        number_at j (below q) h = rw (second-kept ws k row j (omega arith)) (omega (arith, now.number j q, rows_grow (entry_at op ws s k) s rows p))
        number_at j (equal q) h = rw (q, second-set ws k row (omega arith)) (row-there (entry_at op ws s k) s rows p)
        number_at j (above q) h = absurd (omega arith)

        formed-at : (j : ℕ) → Cmp j k → j < suc k → tree s' (second_at (set ws (k * 5 + 4) row) j) ≡ get_or (results (operate op) ws₀ (suc k)) j (leaf 0)
        formed-at j (below q) h =
            ap (tree s') (second-kept ws k row j (omega arith)) ∙ old-tree (entry_at op ws s k) s rows p (second_at ws j) (now.number j q) ∙ now.formed j q
            ∙ sym (ap (λ (ds : List Diagram). get_or ds j (leaf 0)) (results-more (operate op) ws₀ k)
            ∙ get_d-less (results (operate op) ws₀ k) _ j (omega (arith, length-results (operate op) ws₀ k)))
        formed-at j (equal q) h =
            ap (λ (i : ℕ). tree s' (second_at (set ws (k * 5 + 4) row) i)) q ∙ ap (tree s') (second-set ws k row (omega arith)) ∙ row-tree (entry_at op ws s k) s rows p ∙ entry-is
            ∙ sym (ap (λ (ds : List Diagram). get_or ds j (leaf 0)) (results-more (operate op) ws₀ k)
            ∙ get_or_at (results (operate op) ws₀ k) (result_at (operate op) ws₀ (results (operate op) ws₀ k) k) [] (leaf 0) j (length-results (operate op) ws₀ k ∙ sym q))
        formed-at j (above q) h = absurd (omega arith)

    pub forming-on : Forming op ws₀ rs (set ws (k * 5 + 4) row) (k + 1) s' h' l' then
    forming-on = rw add-one forming-suc

    pub last_on : 0 < k + 1 → row ≡ second_at (set ws (k * 5 + 4) row) ((k + 1) - 1)
    last_on h = let e : (k + 1) - 1 ≡ k = omega arith in rw e (sym (second-set ws k row (omega arith)))

-- form: how it starts
pub forming-start : {op : Operation} {ws s heads links : List ℕ} {count : ℕ} → Holds s heads links count → Forming op ws (diagrams_of s count) ws 0 s heads links count
forming-start {op} {ws} {s} {heads} {links} {count} h = record {
  holds = h;
  diagrams = sym (ap (add_all (diagrams_of s count)) (results-none (operate op) ws) ∙ add-all-none (diagrams_of s count));
  labels = λ j. refl;
  firsts = λ j. refl;
  ahead = λ j l. refl;
  number = λ j l. absurd (omega arith);
  formed = λ j l. absurd (omega arith);
}

-- adding diagrams and working on more entries only adds rows
results_begin : (op : ℕ → ℕ → ℕ) (ws : List ℕ) (k n : ℕ) → k ≤ n → Prefix (results op ws k) (results op ws n)
results_begin op ws k zero h = let e : k ≡ 0 = omega arith in rw e (prefix_refl (results op ws 0))
results_begin op ws k (suc n) h = go (cmp k (suc n)) (results_begin op ws k n)
  where
    go : Cmp k (suc n) → (k ≤ n → Prefix (results op ws k) (results op ws n)) → Prefix (results op ws k) (results op ws (suc n))
    go (below q) ih =
        prefix_trans (ih (omega arith))
        (rw (results-more op ws n) (prefix-snoc (results op ws n) (result_at op ws (results op ws n) n)))
    go (equal q) ih = rw q (prefix_refl (results op ws (suc n)))
    go (above q) ih = absurd (omega arith)

added-begin : (op : ℕ → ℕ → ℕ) (ws : List ℕ) (rs : List Diagram) (k n : ℕ) → k ≤ n → Prefix (add_all rs (results op ws k)) (add_all rs (results op ws n))
added-begin op ws rs k n h = add-all-more rs (results op ws k) (results op ws n) (results_begin op ws k n h)

take-begin : (m : ℕ) (xs ys : List Diagram) → Prefix xs ys → m ≤ length xs → take m ys ≡ take m xs
take-begin m xs ys b h = rw b.is (take-append-le m xs b.more h)

full_is : (d : Diagram) (rs : List Diagram) → space_rows < length rs → None ≡ form_answer d rs
unfolding form_answer
full_is d rs h = rw (lt-leb (length rs) space_rows h)

row_is : (d : Diagram) (rs : List Diagram) (i : ℕ) → length rs ≤ space_rows → index d rs ≡ i → Some (i, (length rs)) ≡ form_answer d rs
unfolding form_answer
row_is d rs i h e = rw (le-leb (length rs) space_rows h, e)

-- form: no room
pub form-full : {op : Operation} {ws₀ : List ℕ} {rs : List Diagram} {n : ℕ} → Formable op ws₀ n → {ws : List ℕ} {k : ℕ} {s heads links : List ℕ} {rows : ℕ}
    → Forming op ws₀ rs ws k s heads links rows → k < n → {s' h' l' : List ℕ}
    → Formation (entry_at op ws s k) (add (entry_at op ws s k) (diagrams_of s rows)) None s' h' l'
    → Formation (last_of (results (operate op) ws₀ n)) (add_all rs (results (operate op) ws₀ n)) None s' h' l'
form-full {op} {ws₀} {rs} {n} able {ws} {k} {s} {heads} {links} {rows} now less p =
    let e = rows_then able now less in
    let over : space_rows < length (add_all rs (results (operate op) ws₀ (suc k))) = subst (λ (ds : List Diagram). space_rows < length ds) e (formation-full p) in
    let b = added-begin (operate op) ws₀ rs (suc k) n (omega arith) in
    record {
      answer = full_is _ _ (omega (arith, prefix-length b));
      diagrams = p.diagrams ∙ ap (take space_rows) e ∙ sym (take-begin space_rows _ _ b (omega arith));
      holds = p.holds;
    }

-- form: the end
pub form-row : {op : Operation} {ws₀ : List ℕ} {rs : List Diagram} {n : ℕ} → Formable op ws₀ n → {ws : List ℕ} {k : ℕ} {s heads links : List ℕ} {rows last : ℕ}
    → Forming op ws₀ rs ws k s heads links rows → (0 < k → last ≡ second_at ws (k - 1)) → k ≤ n → n ≤ k
    → Formation (last_of (results (operate op) ws₀ n)) (add_all rs (results (operate op) ws₀ n)) (Some (last, rows)) s heads links
unfolding last_of
form-row {op} {ws₀} {rs} {n} able {ws} {k} {s} {heads} {links} {rows} {last} now at h l =
    let e : k ≡ n = omega arith in
    let some = able.some in
    let la = at (omega arith) in
    let ds : diagrams_of s rows ≡ add_all rs (results (operate op) ws₀ n) = now.diagrams ∙ ap (λ (i : ℕ). add_all rs (results (operate op) ws₀ i)) e in
    let there : last < rows = rw la (now.number (k - 1) (omega arith)) in
    let is_last : tree s last ≡ get_or (results (operate op) ws₀ n) (length (results (operate op) ws₀ n) - 1) (leaf 0) =
    ap (tree s) la ∙ now.formed (k - 1) (omega arith)
    ∙ ap₂ (λ (i j : ℕ). get_or (results (operate op) ws₀ i) j (leaf 0)) e (omega (arith, length-results (operate op) ws₀ n)) in
    let len = length-diagrams s rows in
    let few : rows ≤ space_rows = now.holds.table.within in
    let place : index (get_or (results (operate op) ws₀ n) (length (results (operate op) ws₀ n) - 1) (leaf 0)) (diagrams_of s rows) ≡ last =
    kept-index-is (diagrams_of s rows) last _ now.holds.written.kept (omega arith) (diagram-at s rows last there ∙ is_last) in
    let size : length (add_all rs (results (operate op) ws₀ n)) ≡ rows = sym (ap length ds) ∙ len in
    record {
      answer = ap (λ u. Some (last, u)) (sym size) ∙ row_is _ _ last (omega arith) (ap (index _) (sym ds) ∙ place);
      diagrams = ds ∙ sym (take_all space_rows (add_all rs (results (operate op) ws₀ n)) (omega arith));
      holds = now.holds;
    }

-- form: the loop, begun with the plan ws₀ and a space of count rows
pub record FormLoop (op : Operation) (ws₀ s₀ h₀ l₀ : List ℕ) (count n : ℕ) (ws s h l : List ℕ) (rows last k : ℕ) : Type 0 where
  pub most : k ≤ n
  pub plan-length : length ws ≡ length ws₀
  pub space-length : length s ≡ length s₀
  pub heads-length : length h ≡ length h₀
  pub links-length : length l ≡ length l₀
  pub forming : Forming op ws₀ (diagrams_of s₀ count) ws k s h l rows
  pub last-is : 0 < k → last ≡ second_at ws (k - 1)

pub loop-start : {op : Operation} {ws s h l : List ℕ} {count n : ℕ} → Holds s h l count → FormLoop op ws s h l count n ws s h l count 0 0
loop-start x = record {
  most = omega arith;
  plan-length = refl;
  space-length = refl;
  heads-length = refl;
  links-length = refl;
  forming = forming-start x;
  last-is = λ z. absurd (omega arith);
}

module _ {op : Operation} {ws₀ s₀ h₀ l₀ : List ℕ} {count n : ℕ} {ws s h l : List ℕ} {rows last k : ℕ} (able : Formable op ws₀ n)
    (inv : FormLoop op ws₀ s₀ h₀ l₀ count n ws s h l rows last k) where
  loop-room : n * 5 ≤ length ws
  loop-room = rw inv.plan-length able.sound.room

  -- the place of entry k's last word
  pub loop-place : k < n → k * 5 + 5 ≤ length ws
  loop-place less = omega (arith, loop-room)

  pub loop-formable : k < n → FormableAt op ws n k rows
  loop-formable less = formable-at able inv.forming less loop-room

  pub loop-space : Holds s h l rows
  loop-space = inv.forming.holds

  pub loop-end : n ≤ k → Formation (last_of (results (operate op) ws₀ n)) (add_all (diagrams_of s₀ count) (results (operate op) ws₀ n)) (Some (last, rows)) s h l
  loop-end e = form-row able inv.forming inv.last-is inv.most e

  module _ (less : k < n) {r : Option (ℕ × ℕ)} {s' h' l' : List ℕ} (p : Formation (entry_at op ws s k) (add (entry_at op ws s k) (diagrams_of s rows)) r s' h' l') where
    pub loop-full : r ≡ None → Formation (last_of (results (operate op) ws₀ n)) (add_all (diagrams_of s₀ count) (results (operate op) ws₀ n)) None s' h' l'
    loop-full e = form-full able inv.forming less (subst (λ (x : Option (ℕ × ℕ)). Formation (entry_at op ws s k) (add (entry_at op ws s k) (diagrams_of s rows)) x s' h' l') e p)

    pub loop-step : {row then : ℕ} → r ≡ Some (row, then) → length s' ≡ length s → length h' ≡ length h → length l' ≡ length l
        → FormLoop op ws₀ s₀ h₀ l₀ count n (set ws (k * 5 + 4) row) s' h' l' then row (k + 1)
    loop-step {row} {then} e ks kh kl =
        let q : Formation (entry_at op ws s k) (add (entry_at op ws s k) (diagrams_of s rows)) (Some (row, then)) s' h' l' =
        subst (λ (x : Option (ℕ × ℕ)). Formation (entry_at op ws s k) (add (entry_at op ws s k) (diagrams_of s rows)) x s' h' l') e p in
        record {
          most = omega arith;
          plan-length = length-set ws (k * 5 + 4) row ∙ inv.plan-length;
          space-length = ks ∙ inv.space-length;
          heads-length = kh ∙ inv.heads-length;
          links-length = kl ∙ inv.links-length;
          forming = forming-on able inv.forming less q loop-room;
          last-is = last_on able inv.forming less q loop-room;
        }
