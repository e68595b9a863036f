-- The table of each row gives, for each choice of the variables that rows leading to it test, the highest leaf over all choices of the others
-- (document 02, L6).
use Rattle.std.specs.Prelude.{◌≡◌, refl, ◌≢◌, Bool, ℕ, zero, suc, ◌≤◌, ◌<◌, length, get_or}
use Rattle.std.proofs.Common.{ap, ◌∙◌, arith, le_trans, le_of_eq, length-append}
use Rattle.std.proofs.Math.Path.{sym}
use Rattle.std.proofs.Math.Bool.{true, false, cond, and-false}
use mathlib.Core.List.{List, [], ◌∷◌, ◌++◌}
use Rattle.std.proofs.Math.ListN.{get_or-append}
use Rattle.std.proofs.lemmas.List.{get_or_at}
use Rattle.std.proofs.Math.Dec.{eqb}
use borrow.Author.Tests.{eqb-true, eqb-false, eq-eqb, ne_eqb}
use Rattle.basics.specs.Tests.{and_left, and_right, Flag, is_true, is_false, flag, Cmp, cmp, below, equal, above}
use Rattle.basics.specs.Members.{mem, clash}
use Rattle.label.specs.Limits.{leaf_mark, first_variable}
use Rattle.diagram.specs.Diagram.{Diagram, leaf, branch}
use Rattle.diagram.specs.Words.{label_at, high_at, low_at, row_count}
use Rattle.diagram.specs.Validity.{Valid, tree}
use Rattle.diagram.specs.DiagramOfListing.{shown-rows}
use Rattle.rename.specs.AscendingLaws.{ascending-above}
use Rattle.state.specs.Inner.{IsMax}
use Rattle.state.specs.State.{Atomic, atom_of, meaning, State, Good, holds, value, Fits}
use Rattle.state.proofs.ValueLaws.{by-low}
use Rattle.elimination.specs.Tables.{Table, leaf_table, join, unite, aggregate_all}
use Rattle.elimination.specs.Elimination.{label_variables, has_edge, tested_above, untested, row_join, row_union, row_drops, row_table, tables}
use Rattle.elimination.specs.Inner.{Agree, Sees, Named, Full}
use Rattle.elimination.proofs.NameLaws.{holds_agree}
use Rattle.elimination.proofs.AboveLaws.{not-true, edge-high, edge-low, tested-own, tested-on, mem-untested}
use Rattle.elimination.proofs.TableLaws.{leaf-sees, join-sees, unite-sees, aggregate_all-sees, mem-aggregate_all, join-named, unite-named}
use Rattle.elimination.proofs.TableLaws.{aggregate_all-named, leaf-full, union-full, union-value, aggregate_all-full, aggregate-hit, aggregate-bound}

-- the laws of `row_table`: nothing else unfolds it
pub row-leaf : (s : State) (ar ws : List ℕ) (ts : List Table) (i : ℕ) → label_at ws i ≡ leaf_mark → row_table s ar ws ts i ≡ leaf_table (high_at ws i)
unfolding row_table
row-leaf s ar ws ts i e = rw (eq-eqb (label_at ws i) leaf_mark e, row_table)

pub row-branch : (s : State) (ar ws : List ℕ) (ts : List Table) (i : ℕ) → label_at ws i ≢ leaf_mark
    → row_table s ar ws ts i ≡ aggregate_all s.size (row_drops s ar ws ts i) (row_union s ar ws ts i)
unfolding row_table
row-branch s ar ws ts i e = rw (ne_eqb (label_at ws i) leaf_mark e, row_table)

-- tables in listing order: row i's stays where it is
pub tables-length : (s : State) (ar ws : List ℕ) (k : ℕ) → length (tables s ar ws k) ≡ k
unfolding tables
tables-length s ar ws zero = refl
tables-length s ar ws (suc k) =
    omega (arith, length-append (tables s ar ws k) (row_table s ar ws (tables s ar ws k) k ∷ []), tables-length s ar ws k)

pub table_at : (s : State) (ar ws : List ℕ) (k i : ℕ) → i < k → get_or (tables s ar ws k) i (leaf_table 0) ≡ row_table s ar ws (tables s ar ws i) i
unfolding tables
table_at s ar ws zero i h = absurd (omega arith)
table_at s ar ws (suc k) i h = go (cmp i k) (table_at s ar ws k i)
  where
    more : List Table
    more = row_table s ar ws (tables s ar ws k) k ∷ []

    go : Cmp i k → (i < k → get_or (tables s ar ws k) i (leaf_table 0) ≡ row_table s ar ws (tables s ar ws i) i)
        → get_or (tables s ar ws k ++ more) i (leaf_table 0) ≡ row_table s ar ws (tables s ar ws i) i
    go (below q) ih = get_or-append (tables s ar ws k) more (leaf_table 0) i (omega (arith, tables-length s ar ws k)) ∙ ih q
    go (equal q) ih =
        get_or_at (tables s ar ws k) (row_table s ar ws (tables s ar ws k) k) [] (leaf_table 0) i (tables-length s ar ws k ∙ sym q)
        ∙ ap (λ j. row_table s ar ws (tables s ar ws j) j) (sym q)
    go (above q) ih = absurd (omega arith)

-- a branch's leaf, by its atom
value-branch : (s : State) (ar : List ℕ) (l : ℕ) (t f : Diagram) (θ : ℕ → ℕ)
    → value s (meaning ar (branch l t f)) θ ≡ cond (holds s θ (atom_of ar l)) (value s (meaning ar t) θ) (value s (meaning ar f) θ)
unfolding value meaning
value-branch s ar l t f θ = refl

value-leaf : (s : State) (ar : List ℕ) (v : ℕ) (θ : ℕ → ℕ) → value s (meaning ar (leaf v)) θ ≡ v
unfolding value meaning
value-leaf s ar v θ = refl

cond-le : (b : Bool) (x y z w : ℕ) → x ≤ z → y ≤ w → cond b x y ≤ cond b z w
cond-le true x y z w h k = h
cond-le false x y z w h k = k

module _ (s : State) (os : List ℕ) (ar ws : List ℕ) where
  -- η gives the variables that rows leading to row i test the objects that θ gives them
  pub record Like (i : ℕ) (θ η : ℕ → ℕ) : Type 0 where
    pub fits : Fits s os η
    pub tested : (t : ℕ) → tested_above ar ws i t ≡ true → η t ≡ θ t

  -- x is the table of row i, which stands for d
  pub record IsTableOf (i : ℕ) (d : Diagram) (x : Table) : Type 0 where
    pub named : Named x
    pub tested : (t : ℕ) → mem eqb t x.names ≡ true → tested_above ar ws i t ≡ true
    pub full : Full x
    pub sees : Sees x
    pub best : (θ : ℕ → ℕ) → Fits s os θ → IsMax (Like i θ) (value s (meaning ar d)) (x.value θ)

leaf-table : (s : State) (os ar ws : List ℕ) (i v : ℕ) → IsTableOf s os ar ws i (leaf v) (leaf_table v)
unfolding leaf_table
leaf-table s os ar ws i v = record {
  named = tt;
  tested = λ t m. clash m refl;
  full = leaf-full v;
  sees = leaf-sees v;
  best = λ θ f. record {
    point = θ;
    inside = record { fits = f; tested = λ t m. refl };
    value = value-leaf s ar v θ;
    bound = λ η k. le_of_eq (value-leaf s ar v η);
  };
}

module _ (s : State) (os : List ℕ) (good : Good s) (ar ws : List ℕ) (valid : Valid ar ws) where
  -- a branch row: its union, and what is left of it
  module _ (i : ℕ) (h : i < row_count ws) (branching : label_at ws i ≢ leaf_mark) (t f : Diagram) (x y : Table)
      (high : IsTableOf s os ar ws (high_at ws i) t x) (low : IsTableOf s os ar ws (low_at ws i) f y) where
    abbrev a : Atomic
    a = atom_of ar (label_at ws i)

    abbrev u : Table
    u = unite (join s true a x) (join s false a y)

    abbrev drops : List ℕ
    drops = untested ar ws i u.names

    u-named : Named u
    u-named = unite-named (join s true a x) (join s false a y) (join-named s false a y low.named)

    u-full : Full u
    u-full = union-full s a x y high.full low.full

    u-sees : Sees u
    u-sees = unite-sees (join s true a x) (join s false a y) (join-sees s true a x high.sees) (join-sees s false a y low.sees)

    drops-variables : (v : ℕ) → mem eqb v drops ≡ true → first_variable ≤ v
    drops-variables v m =
        ascending-above first_variable u.names v u-named (and_left (mem eqb v u.names) _ (sym (mem-untested ar ws i v u.names) ∙ m))

    -- what is tested above row i is not aggregated there, and every other name is
    not-dropped : (v : ℕ) → tested_above ar ws i v ≡ true → mem eqb v drops ≡ false
    not-dropped v e = mem-untested ar ws i v u.names ∙ rw e (and-false (mem eqb v u.names))

    kept-tested : (v : ℕ) → mem eqb v u.names ≡ true → mem eqb v drops ≡ false → tested_above ar ws i v ≡ true
    kept-tested v m n = go (flag (tested_above ar ws i v))
      where
        go : Flag (tested_above ar ws i v) → tested_above ar ws i v ≡ true
        go (is_true e) = e
        go (is_false e) = clash (mem-untested ar ws i v u.names ∙ rw (m, e)) n

    -- a valuation like η in what is tested above a child gives the row's atom the truth that η gives it
    same-atom : (c : ℕ) → has_edge ws i c ≡ true → (η ζ : ℕ → ℕ) → Fits s os η → Like s os ar ws c η ζ → holds s ζ a ≡ holds s η a
    unfolding label_variables
    same-atom c e η ζ g k = holds_agree s a [] ζ η (λ v m. by-low (ζ v ≡ η v) first_variable v
        (λ l. k.fits.low v l ∙ sym (g.low v l))
        (λ l. k.tested v (tested-own ar ws valid i c v h e (m l))))

    -- and is like θ in what is tested above row i, if η is
    like-on : (c : ℕ) → has_edge ws i c ≡ true → (θ η ζ : ℕ → ℕ) → ((v : ℕ) → mem eqb v drops ≡ false → η v ≡ θ v) → Like s os ar ws c η ζ → Like s os ar ws i θ ζ
    like-on c e θ η ζ off k = record {
      fits = k.fits;
      tested = λ v m. k.tested v (tested-on ar ws valid i c v h e m) ∙ off v (not-dropped v m);
    }

    like-self : (c : ℕ) (η : ℕ → ℕ) → Fits s os η → Like s os ar ws c η η
    like-self c η g = record { fits = g; tested = λ v m. refl }

    -- the highest value of the union is attained
    attained : (θ η : ℕ → ℕ) → Fits s os η → ((v : ℕ) → mem eqb v drops ≡ false → η v ≡ θ v)
        → (ζ : ℕ → ℕ) × Like s os ar ws i θ ζ × (value s (meaning ar (branch (label_at ws i) t f)) ζ ≡ u.value η)
    attained θ η g off = go (flag (holds s η a))
      where
        go : Flag (holds s η a) → (ζ : ℕ → ℕ) × Like s os ar ws i θ ζ × (value s (meaning ar (branch (label_at ws i) t f)) ζ ≡ u.value η)
        go (is_true e) =
            let m = high.best η g in
            let c = edge-high ws i branching in (
              m.point,
              like-on (high_at ws i) c θ η m.point off m.inside,
              rw (value-branch s ar (label_at ws i) t f m.point, same-atom (high_at ws i) c η m.point g m.inside, union-value s a x y high.full η, e) m.value,
            )
        go (is_false e) =
            let m = low.best η g in
            let c = edge-low ws i branching in (
              m.point,
              like-on (low_at ws i) c θ η m.point off m.inside,
              rw (value-branch s ar (label_at ws i) t f m.point, same-atom (low_at ws i) c η m.point g m.inside, union-value s a x y high.full η, e) m.value,
            )

    -- no leaf is above the union's value
    under : (η : ℕ → ℕ) → Fits s os η → value s (meaning ar (branch (label_at ws i) t f)) η ≤ u.value η
    under η g =
        rw (value-branch s ar (label_at ws i) t f η, union-value s a x y high.full η)
        (cond-le (holds s η a) (value s (meaning ar t) η) (value s (meaning ar f) η) (x.value η) (y.value η)
        ((high.best η g).bound η (like-self (high_at ws i) η g)) ((low.best η g).bound η (like-self (low_at ws i) η g)))

    -- η's objects for what is aggregated, θ's for all else
    mixed : (ℕ → ℕ) → (ℕ → ℕ) → ℕ → ℕ
    mixed θ η v = cond (mem eqb v drops) (η v) (θ v)

    mixed-range : (θ η : ℕ → ℕ) → Fits s os θ → Fits s os η → (v : ℕ) → mixed θ η v < s.size
    unfolding mixed
    mixed-range θ η f g v = go (mem eqb v drops)
      where
        go : (b : Bool) → cond b (η v) (θ v) < s.size
        go true = g.range v
        go false = f.range v

    mixed-off : (θ η : ℕ → ℕ) (v : ℕ) → mem eqb v drops ≡ false → mixed θ η v ≡ θ v
    unfolding mixed
    mixed-off θ η v m = rw m

    mixed-agrees : (θ η : ℕ → ℕ) → Fits s os θ → Like s os ar ws i θ η → Agree u.names η (mixed θ η)
    unfolding mixed
    mixed-agrees θ η g k v m = go (flag (mem eqb v drops))
      where
        go : Flag (mem eqb v drops) → η v ≡ mixed θ η v
        go (is_true e) = rw e
        go (is_false e) = rw e (by-low (η v ≡ θ v) first_variable v
            (λ l. k.fits.low v l ∙ sym (g.low v l))
            (λ l. k.tested v (kept-tested v (m l) e)))

    branch-table : IsTableOf s os ar ws i (branch (label_at ws i) t f) (aggregate_all s.size drops u)
    branch-table = record {
      named = aggregate_all-named s.size drops u u-named;
      tested = λ v m. kept-tested v (left v m) (right v m);
      full = aggregate_all-full s.size drops u good.some u-full;
      sees = aggregate_all-sees s.size drops u u-sees;
      best = λ θ g.
          let r = aggregate-hit s os good drops u drops-variables u-full θ g in
          let z = attained θ r.0 r.1 r.2 in
          record {
            point = z.0;
            inside = z.1;
            value = z.2 ∙ r.3;
            bound = λ η k. le_trans (under η k.fits) (le_trans (le_of_eq (u-sees.same-value η (mixed θ η) (mixed-agrees θ η g k)))
                (aggregate-bound s os good drops u u-full θ (mixed θ η) g (mixed-range θ η g k.fits) (mixed-off θ η)));
          };
    }
      where
        left : (v : ℕ) → mem eqb v (aggregate_all s.size drops u).names ≡ true → mem eqb v u.names ≡ true
        left v m = and_left (mem eqb v u.names) _ (sym (mem-aggregate_all s.size v drops u) ∙ m)

        right : (v : ℕ) → mem eqb v (aggregate_all s.size drops u).names ≡ true → mem eqb v drops ≡ false
        right v m = not-true (mem eqb v drops) (and_right (mem eqb v u.names) _ (sym (mem-aggregate_all s.size v drops u) ∙ m))

  -- every row, from the leaves up
  abbrev RowsTo : ℕ → Type 0
  RowsTo c = (i : ℕ) → i < c → i < row_count ws → IsTableOf s os ar ws i (tree ws i) (row_table s ar ws (tables s ar ws i) i)

  rows_step : (c : ℕ) → RowsTo c → RowsTo (suc c)
  unfolding row_drops row_union row_join
  rows_step c ih i l h = go (flag (eqb (label_at ws i) leaf_mark))
    where
      go : Flag (eqb (label_at ws i) leaf_mark) → IsTableOf s os ar ws i (tree ws i) (row_table s ar ws (tables s ar ws i) i)
      go (is_true e) =
          let q = eqb-true (label_at ws i) leaf_mark e in
          rw ((shown-rows ar ws valid).leaves i h q, row-leaf s ar ws (tables s ar ws i) i q) (leaf-table s os ar ws i (high_at ws i))
      go (is_false e) =
          let q = eqb-false (label_at ws i) leaf_mark e in
          let k = (shown-rows ar ws valid).kids i h q in
          let p : high_at ws i < i = k.0 in
          let r : low_at ws i < i = k.1 in
          rw ((shown-rows ar ws valid).branches i h q, row-branch s ar ws (tables s ar ws i) i q)
          (branch-table i h q (tree ws (high_at ws i)) (tree ws (low_at ws i)) (get_or (tables s ar ws i) (high_at ws i) (leaf_table 0)) (get_or (tables s ar ws i) (low_at ws i) (leaf_table 0))
          (rw (table_at s ar ws i (high_at ws i) p) (ih (high_at ws i) (omega arith) (omega arith)))
          (rw (table_at s ar ws i (low_at ws i) r) (ih (low_at ws i) (omega arith) (omega arith))))

  rows-to : (c : ℕ) → RowsTo c
  rows-to zero i l h = absurd (omega arith)
  rows-to (suc c) i l h = rows_step c (rows-to c) i l h

  pub row-table : (i : ℕ) → i < row_count ws → IsTableOf s os ar ws i (tree ws i) (row_table s ar ws (tables s ar ws i) i)
  row-table i h = rows-to (suc i) i (omega arith) h
