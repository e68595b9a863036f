-- Laws of `carry` and `load`.
use mathlib.Core.Path.{◌≡◌, refl, sym, ap, subst, ◌∙◌}
use Rattle.std.proofs.lemmas.Option.{some_pair_parts}
use mathlib.Core.List.{List, [], ◌∷◌, ◌++◌, map}
use Prim.Native.Nat.{ℕ, zero, suc, pred, ◌+◌, ◌*◌, ◌/◌, ◌<◌, ◌≤◌, zero-le}
use native.Mathlib.Numerals.{add-one}
use native.Mathlib.Omega.{arith}
use borrow.Author.Tests.{eq-eqb, ne_eqb, eqb-true, eqb-false}
use lib.ListN.{length, get_or, set, length-set}
use lib.Seq.{get_or-set_same, get_or-set_other}
use lib.Dec.{eqb}
use mir.Val.{Fits}
use mir.Syntax.{w16}
use Rattle.basics.specs.Tests.{Flag, is_true, is_false, flag, Cmp, cmp, below, equal, above}
use Rattle.basics.specs.Prefix.{Prefix, prefix_refl, prefix_trans, prefix-snoc}
use Rattle.label.specs.Limits.{leaf_mark}
use Rattle.label.specs.Labels.{packed}
use Rattle.label.specs.Inner.{map_of}
use Rattle.label.specs.Renamings.{renamed}
use Rattle.label.specs.Callers.{Movable, Packable}
use Rattle.label.proofs.CodeLaws.{replaced-is, under_all}
use Rattle.label.specs.declared.Atom.{Atom}
use Rattle.table.specs.declared.Row.{Row as TableRow}
use Rattle.diagram.specs.Sizes.{most_rows, space_rows}
use Rattle.diagram.specs.Diagram.{Diagram, relabel}
use Rattle.diagram.specs.Rows.{rows}
use Rattle.diagram.specs.Words.{label_at, high_at, low_at, row_count, up_to}
use Rattle.diagram.specs.WordLaws.{map_snoc}
use Rattle.diagram.specs.Listing.{diagram_of}
use Rattle.diagram.specs.Validity.{Valid, BranchRow, tree}
use Rattle.diagram.specs.RowLaws.{kept-index-is}
use Rattle.diagram.specs.RowDiagrams.{branch_row}
use Rattle.diagram.specs.DiagramOfListing.{valid-rows, shown-rows, diagram-is, rows_are}
use Rattle.diagram.specs.ListingValid.{listing-is-valid}
use Rattle.apply.specs.Formed.{add}
use Rattle.apply.proofs.FormedLaws.{add-mem, add-begins}
use Rattle.store.specs.Space.{diagrams_of, Holds, stands_for, Formable, a-leaf, a-branch, Formation, add_all}
use Rattle.store.specs.AddLaws.{add-all-none, add-all-snoc, add-all-more}
use Rattle.store.specs.Load.{carried, renamed_of, Carriable, Loadable, Loaded}
use Rattle.std.specs.Prelude.{None, Option, Some}
use Rattle.store.proofs.SpaceLaws.{
  length-diagrams,
  diagram-at,
  stands-leaf,
  stands-branch,
  formed-room,
  formation-row,
  formation-tree,
  formation-old,
  full-more,
}

-- a renamed label is a label's number
packed-below : (a : Atom) → Packable a → packed a < leaf_mark
unfolding packed
packed-below a p = omega (arith, p.predicate-below, p.places.first_below, p.places.second_below, p.places.third-below, p.places.fourth-below)

pub renamed-below : (ar ts : List ℕ) (l : ℕ) → Movable ar ts l → renamed ar (map_of ts) l < leaf_mark
unfolding renamed
renamed-below ar ts l m =
    let r = replaced-is m refl refl in
    rw (← r.atom) (packed-below _ r.packable)

-- row k, by its words
carried-leaf : (ar ws ts numbers : List ℕ) (k : ℕ) → label_at ws k ≡ leaf_mark → carried ar ws ts numbers k ≡ record { label = leaf_mark; high = high_at ws k; low = 0 }
unfolding carried
carried-leaf ar ws ts numbers k e = rw (eq-eqb (label_at ws k) leaf_mark e)

carried-branch : (ar ws ts numbers : List ℕ) (k : ℕ) → (label_at ws k ≡ leaf_mark → ⊥)
    → carried ar ws ts numbers k
    ≡ record { label = renamed ar (map_of ts) (label_at ws k); high = get_or numbers (high_at ws k) 0; low = get_or numbers (low_at ws k) 0 }
unfolding carried
carried-branch ar ws ts numbers k e = rw (ne_eqb (label_at ws k) leaf_mark e)

module _ {ar ws ts numbers : List ℕ} {k : ℕ} (c : Carriable ar ws ts numbers k) where
  valid : Valid ar ws
  valid = listing-is-valid ar ws c.listing

  the-branch : (get_or ws (k * 3) 0 ≡ leaf_mark → ⊥) → BranchRow ar ws k
  unfolding label_at
  the-branch e = branch_row ar ws (row_count ws) (valid-rows ar ws valid) k c.within e

  pub carry-leaf : get_or ws (k * 3) 0 ≡ leaf_mark
      → ◌≡◌ {A = TableRow} (record { label = get_or ws (k * 3) 0; high = get_or ws (k * 3 + 1) 0; low = 0 }) (carried ar ws ts numbers k)
  unfolding label_at high_at
  carry-leaf e = (λ i. record { label = e i; high = get_or ws (k * 3 + 1) 0; low = 0 }) ∙ sym (carried-leaf ar ws ts numbers k e)

  module _ (e : get_or ws (k * 3) 0 ≡ leaf_mark → ⊥) where
    pub carry-high : get_or ws (k * 3 + 1) 0 < length numbers
    unfolding high_at
    carry-high = omega (arith, (the-branch e).high-before, c.within, c.places)

    pub carry-low : get_or ws (k * 3 + 2) 0 < length numbers
    unfolding low_at
    carry-low = omega (arith, (the-branch e).low-before, c.within, c.places)

    pub carry-high-small : get_or ws (k * 3 + 1) 0 < most_rows
    unfolding high_at
    carry-high-small = omega (arith, (the-branch e).high-before, c.within, valid.few)

    pub carry-low-small : get_or ws (k * 3 + 2) 0 < most_rows
    unfolding low_at
    carry-low-small = omega (arith, (the-branch e).low-before, c.within, valid.few)

    pub carry-movable : Movable ar ts (get_or ws (k * 3) 0)
    unfolding label_at
    carry-movable = record { arities = under_all ar (sym valid.arities) refl; terms = c.terms; label = (the-branch e).label }

    pub carry-branch : {l t f : ℕ} → l ≡ renamed ar (map_of ts) (get_or ws (k * 3) 0) → t ≡ get_or numbers (get_or ws (k * 3 + 1) 0) 0
        → f ≡ get_or numbers (get_or ws (k * 3 + 2) 0) 0
        → ◌≡◌ {A = TableRow} (record { label = l; high = t; low = f }) (carried ar ws ts numbers k)
    unfolding label_at high_at low_at
    carry-branch p q r = (λ i. record { label = p i; high = q i; low = r i }) ∙ sym (carried-branch ar ws ts numbers k e)

-- the first k rows of the listing, renamed
abbrev carried_rows : List ℕ → List ℕ → List ℕ → ℕ → List Diagram
carried_rows ar ws ts k = map (λ j. renamed_of ar ts (tree ws j)) (up_to k)

carried-next : (ar ws ts : List ℕ) (k : ℕ) → carried_rows ar ws ts (k + 1) ≡ carried_rows ar ws ts k ++ (renamed_of ar ts (tree ws k) ∷ [])
carried-next ar ws ts k = rw add-one (map_snoc (λ j. renamed_of ar ts (tree ws j)) (up_to k) k)

carried-begins : (ar ws ts : List ℕ) (a b : ℕ) → a ≤ b → Prefix (carried_rows ar ws ts a) (carried_rows ar ws ts b)
carried-begins ar ws ts a zero h = let e : a ≡ 0 = omega arith in rw e (prefix_refl [])
carried-begins ar ws ts a (suc b) h = go (cmp a (suc b)) (carried-begins ar ws ts a b)
  where
    go : Cmp a (suc b) → (a ≤ b → Prefix (carried_rows ar ws ts a) (carried_rows ar ws ts b)) → Prefix (carried_rows ar ws ts a) (carried_rows ar ws ts (suc b))
    go (below q) ih =
        rw (map_snoc (λ j. renamed_of ar ts (tree ws j)) (up_to b) b)
        (prefix_trans (ih (omega arith)) (prefix-snoc (carried_rows ar ws ts b) (renamed_of ar ts (tree ws b))))
    go (equal q) ih = rw q (prefix_refl (carried_rows ar ws ts (suc b)))
    go (above q) ih = absurd (omega arith)

map-twice : (f : Diagram → Diagram) (g : ℕ → Diagram) (xs : List ℕ) → map f (map g xs) ≡ map (λ j. f (g j)) xs
map-twice f g [] = refl
map-twice f g (x ∷ xs) = ap (◌∷◌ (f (g x))) (map-twice f g xs)

-- all of them are the rows of the listing's diagram, renamed
carried-all : (ar ws ts : List ℕ) → Valid ar ws → map (renamed_of ar ts) (rows (diagram_of ws)) ≡ carried_rows ar ws ts (row_count ws)
carried-all ar ws ts v = ap (map (renamed_of ar ts)) (rows_are ar ws v) ∙ map-twice (renamed_of ar ts) (tree ws) (up_to (row_count ws))

-- the loop of `load`: the first k rows are formed
pub record Loading (ar ws ts s₀ : List ℕ) (count : ℕ) (s heads links numbers : List ℕ) (n root k : ℕ) : Type 0 where
  pub below : k ≤ row_count ws
  pub few : row_count ws ≤ most_rows
  pub places : row_count ws ≤ length numbers
  pub holds : Holds s heads links n
  pub formed : diagrams_of s n ≡ add_all (diagrams_of s₀ count) (carried_rows ar ws ts k)
  pub each : (j : ℕ) → j < k → (get_or numbers j 0 < n) × (tree s (get_or numbers j 0) ≡ renamed_of ar ts (tree ws j))
  pub last : (j : ℕ) → k ≡ suc j → root ≡ get_or numbers j 0

pub load-start : {ar ws ts s heads links numbers : List ℕ} {count : ℕ} → Loadable ar ws ts s heads links count numbers
    → Loading ar ws ts s count s heads links numbers count 0 0
load-start {ar} {ws} {ts} {s} {heads} {links} {numbers} {count} l = record {
  below = zero-le;
  few = (listing-is-valid ar ws l.listing).few;
  places = l.places;
  holds = l.holds;
  formed = sym (add-all-none (diagrams_of s count));
  each = λ j h. absurd (omega arith);
  last = λ j e. absurd (omega arith);
}

module _ {ar ws ts s₀ heads₀ links₀ numbers₀ : List ℕ} {count : ℕ} (l : Loadable ar ws ts s₀ heads₀ links₀ count numbers₀)
    {s heads links numbers : List ℕ} {n root k : ℕ} (g : Loading ar ws ts s₀ count s heads links numbers n root k) where
  good : Valid ar ws
  good = listing-is-valid ar ws l.listing

  abbrev All : List Diagram
  All = add_all (diagrams_of s₀ count) (map (renamed_of ar ts) (rows (diagram_of ws)))

  all-is : All ≡ add_all (diagrams_of s₀ count) (carried_rows ar ws ts (row_count ws))
  all-is = ap (add_all (diagrams_of s₀ count)) (carried-all ar ws ts good)

  pub load-carriable : k < length ws / 3 → Carriable ar ws ts numbers k
  load-carriable h = record { listing = l.listing; terms = l.terms; places = g.places; within = h }

  module _ (h : k < length ws / 3) {row : TableRow} (r : row ≡ carried ar ws ts numbers k) where
    abbrev D : Diagram
    D = renamed_of ar ts (tree ws k)

    record Next : Type 0 where
      formable : Formable n row
      stands : stands_for s row ≡ D

    the-next : Flag (eqb (label_at ws k) leaf_mark) → Next
    unfolding relabel
    the-next (is_true e) =
        let e' = eqb-true _ _ e in
        let q = r ∙ carried-leaf ar ws ts numbers k e' in
        record {
          formable = rw q (a-leaf refl refl);
          stands = rw (q, stands-leaf s (record { label = leaf_mark; high = high_at ws k; low = 0 }) refl, (shown-rows ar ws good).leaves k h e');
        }
    the-next (is_false e) =
        let e' = eqb-false _ _ e in
        let b = branch_row ar ws (row_count ws) (valid-rows ar ws good) k h e' in
        let q = r ∙ carried-branch ar ws ts numbers k e' in
        let x = g.each (high_at ws k) b.high-before in
        let y = g.each (low_at ws k) b.low-before in
        let m = renamed-below ar ts (label_at ws k) (record { arities = under_all ar (sym good.arities) refl; terms = l.terms; label = b.label }) in
        record {
          formable = rw q (a-branch m x.0 y.0);
          stands = rw (
            q,
            stands-branch s (record { label = renamed ar (map_of ts) (label_at ws k); high = get_or numbers (high_at ws k) 0; low = get_or numbers (low_at ws k) 0 }) m,
            x.1,
            y.1,
            (shown-rows ar ws good).branches k h e',
          );
        }

    next : Next
    next = the-next (flag (eqb (label_at ws k) leaf_mark))

    pub load-formable : Formable n row
    load-formable = next.formable

    formed-next : {y : Option (ℕ × ℕ)} {s' heads' links' : List ℕ} → Formation (stands_for s row) (add (stands_for s row) (diagrams_of s n)) y s' heads' links'
        → Formation D (add D (diagrams_of s n)) y s' heads' links'
    formed-next {y} {s'} {heads'} {links'} f = subst (λ (d : Diagram). Formation d (add d (diagrams_of s n)) y s' heads' links') next.stands f

    added_next : add D (diagrams_of s n) ≡ add_all (diagrams_of s₀ count) (carried_rows ar ws ts (k + 1))
    added_next = ap (add D) g.formed ∙ sym (add-all-snoc (diagrams_of s₀ count) (carried_rows ar ws ts k) D)
        ∙ ap (add_all (diagrams_of s₀ count)) (sym (carried-next ar ws ts k))

    module _ {y : Option (ℕ × ℕ)} {s' heads' links' : List ℕ} (f : Formation (stands_for s row) (add (stands_for s row) (diagrams_of s n)) y s' heads' links') where
      pub load_full : y ≡ None → Loaded ar ws ts s₀ count None s' heads' links' numbers
      load_full e = record {
        formation = full-more (renamed_of ar ts (diagram_of ws)) All (subst (λ (z : Option (ℕ × ℕ)). Formation D (add D (diagrams_of s n)) z s' heads' links') e (formed-next f))
            (rw (added_next, all-is) (add-all-more (diagrams_of s₀ count) (carried_rows ar ws ts (k + 1)) (carried_rows ar ws ts (row_count ws))
            (carried-begins ar ws ts (k + 1) (row_count ws) (omega arith))));
        numbers = λ i m j q. absurd (let z : ◌≡◌ {A = ℕ} 0 1 = cc in omega arith);
      }

      module _ {i c : ℕ} (e : y ≡ Some (i, c)) where
        there : Formation D (add D (diagrams_of s n)) (Some (i, c)) s' heads' links'
        there = subst (λ (z : Option (ℕ × ℕ)). Formation D (add D (diagrams_of s n)) z s' heads' links') e (formed-next f)

        load-small : i < space_rows
        load-small =
            let a = formation-tree there (add-mem D (diagrams_of s n)) in
            omega (arith, a.0, there.holds.table.within)

        pub load_fits : Fits w16 i
        load_fits = omega (arith, load-small)

        pub load-on : Loading ar ws ts s₀ count s' heads' links' (set numbers k i) c i (k + 1)
        load-on = record {
          below = omega arith;
          few = g.few;
          places = rw length-set g.places;
          holds = there.holds;
          formed = (formation-row there).3 ∙ added_next;
          each = λ j p. each j p (cmp j k);
          last = λ j q. let z : j ≡ k = omega arith in rw z (sym at-k);
        }
          where
            at-k : get_or (set numbers k i) k 0 ≡ i
            at-k = get_or-set_same numbers k i 0 (omega (arith, g.places))

            each : (j : ℕ) → j < k + 1 → Cmp j k → (get_or (set numbers k i) j 0 < c) × (tree s' (get_or (set numbers k i) j 0) ≡ renamed_of ar ts (tree ws j))
            each j p (below q) =
                let o = g.each j q in
                let w = formation-old there s n (add-begins D (diagrams_of s n)) (get_or numbers j 0) o.0 in
                rw (get_or-set_other numbers k j i 0 (λ z. omega arith)) (w.0, w.1 ∙ o.1)
            each j p (equal q) = rw (q, at-k) (formation-tree there (add-mem D (diagrams_of s n)))
            each j p (above q) = absurd (omega arith)

  pub load-end : length ws / 3 ≤ k → Loaded ar ws ts s₀ count (Some (root, n)) s heads links numbers
  load-end h = record {
    formation = formed-room s heads links All n (rw (← are) (length-diagrams s n)) (rw (← are) g.holds.written) g.holds.table
        (renamed_of ar ts (diagram_of ws)) root (rw (← are) (kept-index-is (diagrams_of s n) root (renamed_of ar ts (diagram_of ws)) g.holds.written.kept
        (omega (arith, length-diagrams s n, at.0)) (diagram-at s n root at.0 ∙ at.1)));
    numbers = λ i m j q p. let z = some_pair_parts root i n m q in rw (← z.1) (g.each j (omega (arith, h)));
  }
    where
      some : 1 ≤ row_count ws
      some = good.some

      is-k : k ≡ row_count ws
      is-k = omega (arith, g.below, h)

      are : diagrams_of s n ≡ All
      are = g.formed ∙ ap (λ j. add_all (diagrams_of s₀ count) (carried_rows ar ws ts j)) is-k ∙ sym all-is

      at : (root < n) × (tree s root ≡ renamed_of ar ts (diagram_of ws))
      at =
          let r = g.last (pred (row_count ws)) (omega (arith, is-k, some)) in
          let e = g.each (pred (row_count ws)) (omega (arith, is-k, some)) in
          rw (r, diagram-is ar ws good) e
