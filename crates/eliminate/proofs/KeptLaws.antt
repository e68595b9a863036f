-- Laws of what a row keeps and aggregates, as sets, and of the table that is left: what the loop over the rows needs.
use mathlib.Core.Path.{◌≡◌, refl, ap, ap₂, sym, ◌∙◌, subst}
use mathlib.Core.Logic.{◌≢◌}
use mathlib.Core.Bool.{Bool, true, false, not, ◌&&◌, cond}
use mathlib.Core.List.{List, [], ◌∷◌}
use Prim.Native.Nat.{ℕ, suc, ◌+◌, ◌<◌}
use native.Mathlib.Omega.{arith}
use lib.ListN.{get_or}
use lib.Bits.{bit_and, bit_xor}
use lib.Dec.{eqb}
use Rattle.basics.specs.Members.{mem, clash}
use Rattle.label.specs.Limits.{leaf_mark, first_variable}
use Rattle.diagram.specs.Words.{label_at, high_at, low_at, row_count}
use Rattle.diagram.specs.RowLaws.{same_tests}
use Rattle.rename.specs.Ascending.{Ascending}
use Rattle.rename.specs.AscendingLaws.{ascending-one, ascending-weaken}
use Rattle.state.specs.State.{State}
use Rattle.elimination.specs.Tables.{Table, leaf_table, join, aggregate_all}
use Rattle.elimination.specs.Elimination.{tested_above, untested, row_join, row_union, row_drops, row_table}
use Rattle.elimination.proofs.AboveLaws.{tested-from, mem-untested}
use Rattle.elimination.proofs.TableLaws.{mem-aggregate_all, aggregate_all-named, aggregate_all-full, aggregate_all-sees, union-full, join-sees, unite-sees}
use Rattle.elimination.proofs.RowLaws.{row-branch}
use Rattle.eliminate.specs.Masks.{names_of, place_of}
use Rattle.eliminate.specs.MaskLaws.{of-ascending, of_and}
use Rattle.eliminate.specs.Calls.{set_at, start_at}
use Rattle.eliminate.specs.Above.{Above}
use Rattle.eliminate.specs.Stores.{Said, Holds, union_of, Filled}
use Rattle.eliminate.proofs.CountLaws.{mem-rest}

-- when all rows have handed on, the sets are what is tested above
pub above-is : {ar ws above : List ℕ} → Above ar ws above 0 → (c v : ℕ) → c < row_count ws → mem eqb v (names_of (get_or above c 0)) ≡ tested_above ar ws c v
above-is {ar} {ws} {above} a c v h = same_tests (mem eqb v (names_of (get_or above c 0))) (tested_above ar ws c v) (a.sound c v h)
    (λ t. let f = tested-from ar ws a.valid c v t in a.complete c v f.0 (omega arith) f.1 f.2 f.3)

untested-ascending : (ar ws : List ℕ) (i n : ℕ) (vs : List ℕ) → Ascending n vs → Ascending n (untested ar ws i vs)
unfolding untested
untested-ascending ar ws i n [] a = tt
untested-ascending ar ws i n (v ∷ vs) a = go (tested_above ar ws i v) (untested-ascending ar ws i (suc v) vs a.1)
  where
    go : (b : Bool) → Ascending (suc v) (untested ar ws i vs) → Ascending n (cond b (untested ar ws i vs) (v ∷ untested ar ws i vs))
    go true r = let h = a.0 in ascending-weaken n (suc v) (untested ar ws i vs) (omega arith) r
    go false r = (a.0, r)

module _ {ar ws above : List ℕ} (a : Above ar ws above 0) (i : ℕ) (h : i < row_count ws) (all : ℕ) where
  abbrev kept : ℕ
  kept = bit_and all (get_or above i 0)

  abbrev drops : ℕ
  drops = bit_xor all kept

  drops-mem : (t : ℕ) → mem eqb t (names_of drops) ≡ (mem eqb t (names_of all) && not (tested_above ar ws i t))
  drops-mem t = mem-rest all (get_or above i 0) t ∙ ap (λ b. mem eqb t (names_of all) && not b) (above-is a i t h)

  kept-mem : (t : ℕ) → mem eqb t (names_of kept) ≡ (mem eqb t (names_of all) && tested_above ar ws i t)
  kept-mem t = of_and all (get_or above i 0) t ∙ ap (λ b. mem eqb t (names_of all) && b) (above-is a i t h)

  -- what is aggregated
  pub drops-are : untested ar ws i (names_of all) ≡ names_of drops
  drops-are = ascending-one first_variable first_variable (untested ar ws i (names_of all)) (names_of drops)
      (untested-ascending ar ws i first_variable (names_of all) (of-ascending all)) (of-ascending drops)
      (λ t e. drops-mem t ∙ sym (mem-untested ar ws i t (names_of all)) ∙ e)
      (λ t e. mem-untested ar ws i t (names_of all) ∙ sym (drops-mem t) ∙ e)

  -- what is not aggregated is kept
  pub drops-cover : (t : ℕ) → mem eqb t (names_of all) ≡ true → mem eqb t (names_of drops) ≡ false → mem eqb t (names_of kept) ≡ true
  drops-cover t m o = kept-mem t ∙ rw m (go (tested_above ar ws i t) (sym (drops-mem t ∙ rw m) ∙ o))
    where
      go : (b : Bool) → not b ≡ false → b ≡ true
      go true e = refl
      go false e = clash refl e

  -- the names that are left
  pub kept-are : (n : ℕ) (u : Table) → u.names ≡ names_of all → (aggregate_all n (names_of drops) u).names ≡ names_of kept
  kept-are n u e = ascending-one first_variable first_variable (aggregate_all n (names_of drops) u).names (names_of kept)
      (aggregate_all-named n (names_of drops) u (subst (Ascending first_variable) (sym e) (of-ascending all))) (of-ascending kept)
      (λ t m. same t ∙ m) (λ t m. sym (same t) ∙ m)
    where
      both : (p q : Bool) → (p && q) ≡ (p && not (p && not q))
      both true true = refl
      both true false = refl
      both false q = refl

      same : (t : ℕ) → mem eqb t (names_of kept) ≡ mem eqb t (aggregate_all n (names_of drops) u).names
      same t = kept-mem t ∙ both (mem eqb t (names_of all)) (tested_above ar ws i t)
          ∙ sym (mem-aggregate_all n t (names_of drops) u ∙ ap₂ (λ p q. p && not q) (ap (mem eqb t) e) (drops-mem t))

-- ===== The table of a branch row =====
module _ {s : State} {os : List ℕ} {ar ws above facts heads space space' env env' : List ℕ} {n i start : ℕ} (heads' : List ℕ) (all : ℕ) (ts : List Table) (a : Above ar ws above 0)
    (h : i < row_count ws) (branching : label_at ws i ≢ leaf_mark) (g : Said s os ar facts env n)
    (hx : Holds s os heads space (high_at ws i) (get_or ts (high_at ws i) (leaf_table 0))) (hy : Holds s os heads space (low_at ws i) (get_or ts (low_at ws i) (leaf_table 0)))
    (names : (union_of s ar (label_at ws i) (get_or ts (high_at ws i) (leaf_table 0)) (get_or ts (low_at ws i) (leaf_table 0))).names ≡ names_of all)
    (filled : Filled ar facts heads space env n (label_at ws i) (high_at ws i) (low_at ws i) (bit_and all (get_or above i 0)) start
    (bit_xor all (bit_and all (get_or above i 0))) space' env')
    (set_is : set_at heads' i ≡ bit_and all (get_or above i 0)) (start_is : start_at heads' i ≡ start) where
  abbrev x : Table
  x = get_or ts (high_at ws i) (leaf_table 0)

  abbrev y : Table
  y = get_or ts (low_at ws i) (leaf_table 0)

  abbrev u : Table
  u = union_of s ar (label_at ws i) x y

  abbrev left : Table
  left = aggregate_all s.size (names_of (bit_xor all (bit_and all (get_or above i 0)))) u

  table_is : row_table s ar ws ts i ≡ left
  unfolding row_drops row_union row_join
  table_is = row-branch s ar ws ts i branching
      ∙ ap (λ vs. aggregate_all s.size vs u) (ap (untested ar ws i) names ∙ drops-are a i h all)

  -- the words hold it
  pub branch-holds : Holds s os heads' space' i (row_table s ar ws ts i)
  branch-holds = subst (Holds s os heads' space' i) (sym table_is) (record {
    names-are = ap names_of set_is ∙ sym (kept-are a i h all s.size u names);
    full = aggregate_all-full s.size (names_of (bit_xor all (bit_and all (get_or above i 0)))) u g.good.some (union-full s _ x y hx.full hy.full);
    sees = aggregate_all-sees s.size (names_of (bit_xor all (bit_and all (get_or above i 0)))) u
        (unite-sees (join s true _ x) (join s false _ y) (join-sees s true _ x hx.sees) (join-sees s false _ y hy.sees));
    entry = λ θ f.
        ap₂ (λ p vs. get_or space' (p + place_of s.size vs θ) 0) start_is (kept-are a i h all s.size u names)
        ∙ ap (λ m. get_or space' (start + place_of m (names_of (bit_and all (get_or above i 0))) θ) 0) g.size_is
        ∙ filled.table s os x y g hx hy (λ t m o. drops-cover a i h all t (ap (mem eqb t) (sym names) ∙ m) o) θ f
        ∙ ap (λ m. (aggregate_all m (names_of (bit_xor all (bit_and all (get_or above i 0)))) u).value θ) (sym g.size_is);
  })
