-- Laws of working out a branch row, in the words of the code.
use mathlib.Core.Path.{◌≡◌, refl, ap, sym, ◌∙◌, subst}
use mathlib.Core.Logic.{◌≢◌}
use mathlib.Core.Bool.{true, false}
use mathlib.Core.List.{List}
use Prim.Native.Nat.{ℕ, suc, ◌+◌, ◌-◌, ◌*◌, ◌^◌, ◌≤◌, ◌<◌, min}
use native.Mathlib.Omega.{arith}
use native.Mathlib.Nat.{pow-le-pow_right}
use lib.ListN.{length, get_or}
use lib.Bits.{bit_and, bit_or, bit_xor}
use lib.Dec.{eqb}
use borrow.Author.Tests.{ne_eqb}
use Rattle.basics.specs.Tests.{and_left}
use Rattle.basics.specs.Members.{mem}
use Rattle.label.specs.Limits.{leaf_mark, first_variable}
use Rattle.diagram.specs.Words.{label_at, high_at, low_at, row_count}
use Rattle.diagram.specs.Validity.{BranchRow}
use Rattle.diagram.specs.RowDiagrams.{branch_row}
use Rattle.diagram.specs.DiagramOfListing.{valid-rows}
use Rattle.rename.specs.Ascending.{Ascending}
use Rattle.state.specs.State.{State}
use Rattle.elimination.specs.Tables as T
use Rattle.elimination.specs.Tables.{leaf_table, entries, aggregate_entries}
use Rattle.elimination.specs.Elimination.{label_variables, untested, row_join, row_union, row_drops, row_table, tables, row_entries, entries_to, most_entries}
use Rattle.elimination.proofs.RowLaws.{table_at}
use Rattle.elimination.proofs.CountLaws.{entries-step}
use Rattle.eliminate.specs.Masks.{names_of}
use Rattle.eliminate.specs.MaskLaws.{of-ascending, of_and}
use Rattle.eliminate.specs.Calls.{Labelled, Asked, Filling, set_at, start_at}
use Rattle.eliminate.specs.Stores.{Said, Holds, union_of, Filled}
use Rattle.eliminate.specs.Counts.{row_total, Tells, exactly, too_many, Rowing, Rowed}
use Rattle.eliminate.specs.Rows.{Tabled, Branching, Branched}
use Rattle.eliminate.proofs.FillLaws.{fits_moved}
use Rattle.eliminate.proofs.CountLaws.{mem-rest, part_length, part-size}
use Rattle.eliminate.proofs.RowLaws.{union-names}
use Rattle.eliminate.proofs.KeptLaws.{drops-are, branch-holds}
use Rattle.std.proofs.lemmas.Option.{none-some, same_Some}
use Rattle.std.specs.Prelude.{None, Some}

-- what a branch row counts
counts-branch : (s : State) (os ar ws : List ℕ) (ts : List T.Table) (i : ℕ) → label_at ws i ≢ leaf_mark
    → row_entries s os ar ws ts i
    ≡ entries s os (row_join s ar ws ts i true) + entries s os (row_join s ar ws ts i false) + entries s os (row_union s ar ws ts i)
    + aggregate_entries s os (row_drops s ar ws ts i) (row_union s ar ws ts i)
unfolding row_entries
counts-branch s os ar ws ts i e = rw (ne_eqb (label_at ws i) leaf_mark e, row_entries)

module _ {ar ws above heads space env : List ℕ} {n i next used : ℕ} (b : Branching ar ws above heads space env n i next used) where
  row_is : BranchRow ar ws i
  row_is = branch_row ar ws (row_count ws) (valid-rows ar ws b.ready.sets.valid) i b.row b.branch

  pub branch-labelled : Labelled ar (get_or ws (i * 3) 0)
  unfolding label_at
  branch-labelled = record { arities = b.ready.sets.valid.arities; label = row_is.label; plain = b.ready.sets.plain i b.row b.branch }

  high-less : get_or ws (i * 3 + 1) 0 < i
  unfolding high_at
  high-less = row_is.high-before

  low-less : get_or ws (i * 3 + 2) 0 < i
  unfolding low_at
  low-less = row_is.low-before

  pub branch-high : get_or ws (i * 3 + 1) 0 * 2 + 2 ≤ length heads
  branch-high = let h = high-less in let r = b.row in let q = b.ready.heads-room in omega arith

  pub branch-low : get_or ws (i * 3 + 2) 0 * 2 + 2 ≤ length heads
  branch-low = let h = low-less in let r = b.row in let q = b.ready.heads-room in omega arith

  abbrev sh : ℕ
  sh = get_or heads (get_or ws (i * 3 + 1) 0 * 2) 0

  abbrev sl : ℕ
  sl = get_or heads (get_or ws (i * 3 + 2) 0 * 2) 0

  asked : Asked ar env (get_or ws (i * 3) 0)
  asked = record { labelled = branch-labelled; places = b.ready.places }

  module _ (own : ℕ) (own_is : names_of own ≡ label_variables ar (get_or ws (i * 3) 0)) where
    abbrev all : ℕ
    all = bit_or (bit_or own sh) sl

    abbrev kept : ℕ
    kept = bit_and all (get_or above i 0)

    abbrev drops : ℕ
    drops = bit_xor all kept

    drops-in : (t : ℕ) → mem eqb t (names_of drops) ≡ true → mem eqb t (names_of all) ≡ true
    drops-in t m = and_left (mem eqb t (names_of all)) _ (sym (mem-rest all (get_or above i 0) t) ∙ m)

    kept_in : (t : ℕ) → mem eqb t (names_of kept) ≡ true → mem eqb t (names_of all) ≡ true
    kept_in t m = and_left (mem eqb t (names_of all)) _ (sym (of_and all (get_or above i 0) t) ∙ m)

    pub branch-rowing : Rowing ar env n (get_or ws (i * 3) 0) own sh sl drops
    branch-rowing = record { countable = record { asked = asked; some = b.ready.some }; own_is = own_is; inside = drops-in }

    module _ (facts : List ℕ) {env₁ : List ℕ} {e : ℕ} (r : Rowed ar facts env n (get_or ws (i * 3) 0) own sh sl drops e env₁) where
      -- the count of the row, for a state
      module _ (s : State) (os : List ℕ) (t : Tabled s os ar facts ws heads space env n i used) where
        abbrev ts : List T.Table
        ts = tables s ar ws i

        abbrev x : T.Table
        x = get_or ts (high_at ws i) (leaf_table 0)

        abbrev y : T.Table
        y = get_or ts (low_at ws i) (leaf_table 0)

        holds-x : Holds s os heads space (high_at ws i) x
        unfolding high_at
        holds-x = subst (Holds s os heads space (high_at ws i)) (sym (table_at s ar ws i (high_at ws i) high-less)) (t.holds (high_at ws i) high-less)

        holds-y : Holds s os heads space (low_at ws i) y
        unfolding low_at
        holds-y = subst (Holds s os heads space (low_at ws i)) (sym (table_at s ar ws i (low_at ws i) low-less)) (t.holds (low_at ws i) low-less)

        names-x : names_of sh ≡ x.names
        unfolding set_at high_at
        names-x = holds-x.names-are

        names-y : names_of sl ≡ y.names
        unfolding set_at low_at
        names-y = holds-y.names-are

        union-is : (union_of s ar (label_at ws i) x y).names ≡ names_of all
        unfolding label_at
        union-is = union-names s ar (label_at ws i) own sh sl x y own_is names-x names-y

        total : row_total s os ar (label_at ws i) x y (names_of drops) ≡ row_entries s os ar ws ts i
        unfolding row_total row_join row_union row_drops
        total = ap (λ vs. entries s os (row_join s ar ws ts i true) + entries s os (row_join s ar ws ts i false) + entries s os (row_union s ar ws ts i)
            + aggregate_entries s os vs (row_union s ar ws ts i)) (sym (ap (untested ar ws i) union-is ∙ drops-are b.ready.sets i b.row all))
            ∙ sym (counts-branch s os ar ws ts i b.branch)

        told : Tells e (row_entries s os ar ws ts i)
        unfolding label_at
        told = subst (Tells e) total (r.count s os x y t.said names-x names-y holds-x.full holds-y.full
            (subst (Ascending first_variable) names-x (of-ascending sh)) (subst (Ascending first_variable) names-y (of-ascending sl)))

        over : most_entries - used < e → most_entries < entries_to s os ar ws (suc i)
        over h = go told
          where
            go : Tells e (row_entries s os ar ws ts i) → most_entries < entries_to s os ar ws (suc i)
            go (exactly q) = let z = entries-step s os ar ws i in let c = t.count in let u = b.ready.used-few in omega arith
            go (too_many p q) = let z = entries-step s os ar ws i in omega arith

        under : e ≤ most_entries - used → used + e ≡ entries_to s os ar ws (suc i)
        under h = go told
          where
            go : Tells e (row_entries s os ar ws ts i) → used + e ≡ entries_to s os ar ws (suc i)
            go (exactly q) = let z = entries-step s os ar ws i in let c = t.count in omega arith
            go (too_many p q) = absurd (omega arith)

      pub branch-full : most_entries - used < e → Branched ar facts ws above heads space env n i next used None space env₁
      branch-full h = record {
        before = λ j q. refl;
        range = r.moved.range b.ready.range;
        fits = λ s os g. fits_moved {set = own} g.size_is g.fits r.moved;
        table = λ k c d q. absurd (none-some _ q);
        holds = λ k c d q s os t hs p o. absurd (none-some _ q);
        counts = λ k c d q s os t. absurd (none-some _ q);
        full = λ q s os t. over s os t h;
      }

      module _ (h : e ≤ most_entries - used) where
        all-few : n ^ length (names_of all) ≤ e
        all-few = r.whole (omega arith)

        all_most : n ^ length (names_of all) ≤ most_entries
        all_most = let a = all-few in omega arith

        module _ {count m : ℕ} (count-is : count ≡ min (n ^ length (names_of kept)) (most_entries + 1)) (m-is : m ≡ min (n ^ length (names_of drops)) (most_entries + 1)) where
          count-exact : count ≡ n ^ length (names_of kept)
          count-exact = (part-size kept all b.ready.some all_most kept_in count-is).0

          room : next + count ≤ used + e
          room =
              let a = all-few in
              let c = (part-size kept all b.ready.some all_most kept_in count-is).0 in
              let p : n ^ length (names_of kept) ≤ n ^ length (names_of all) = pow-le-pow_right b.ready.some (part_length kept all kept_in) in
              let u = b.ready.next-used in
              omega arith

          pub branch-filling : Filling ar heads space env₁ n (get_or ws (i * 3) 0) (get_or ws (i * 3 + 1) 0) (get_or ws (i * 3 + 2) 0) kept next count drops m
          branch-filling = record {
            looking = record {
              asked = record { labelled = branch-labelled; places = let k = r.moved.kept in let p = b.ready.places in omega arith };
              some = b.ready.some;
              range = r.moved.range b.ready.range;
              high-stored = b.ready.stored (get_or ws (i * 3 + 1) 0) high-less;
              low-stored = b.ready.stored (get_or ws (i * 3 + 2) 0) low-less;
            };
            high_end = b.ready.ends (get_or ws (i * 3 + 1) 0) high-less;
            low_end = b.ready.ends (get_or ws (i * 3 + 2) 0) low-less;
            room = let q = room in let u = b.ready.used-few in let s = b.ready.space-room in omega arith;
            count-is = count-exact;
            m-is = (part-size drops all b.ready.some all_most drops-in m-is).0;
          }

          pub branch-done : {space' env₂ : List ℕ}
              → Filled ar facts heads space env₁ n (get_or ws (i * 3) 0) (get_or ws (i * 3 + 1) 0) (get_or ws (i * 3 + 2) 0) kept next drops space' env₂
              → Branched ar facts ws above heads space env n i next used (Some (kept, count, e)) space' env₂
          unfolding label_at high_at low_at
          branch-done {space'} {env₂} f = record {
            before = f.before;
            range = f.range;
            fits = λ s os g. f.fits s os (said-on s os g);
            table = λ k c d q.
                let p = same_Some _ _ q in
                let o : count ≡ c = ap (λ v. v.1) p in
                let z : e ≡ d = ap (λ v. v.2) p in
                (sym o ∙ count-exact ∙ ap (λ v. n ^ length (names_of v.0)) p, rw (← o, ← z) room, rw (← z) (let u = b.ready.used-few in omega arith));
            holds = λ k c d q s os t hs p o. held s os t hs (p ∙ sym (ap (λ v. v.0) (same_Some _ _ q))) o;
            counts = λ k c d q s os t. ap (λ v. used + v.2) (sym (same_Some _ _ q)) ∙ under s os t h;
            full = λ q s os t. absurd (none-some _ (sym q));
          }
            where
              said-on : (s : State) (os : List ℕ) → Said s os ar facts env n → Said s os ar facts env₁ n
              said-on s os g = record { good = g.good; size_is = g.size_is; facts-are = g.facts-are; fits = fits_moved {set = own} g.size_is g.fits r.moved }

              held : (s : State) (os : List ℕ) (t : Tabled s os ar facts ws heads space env n i used) (hs : List ℕ) → set_at hs i ≡ kept → start_at hs i ≡ next
                  → Holds s os hs space' i (row_table s ar ws (tables s ar ws i) i)
              held s os t hs p o = branch-holds hs all (tables s ar ws i) b.ready.sets b.row b.branch (said-on s os t.said) (holds-x s os t) (holds-y s os t) (union-is s os t) f p o
