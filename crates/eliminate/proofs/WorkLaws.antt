-- Laws of working out one row after the other, in the words of the code.
use mathlib.Core.Path.{◌≡◌, refl, ap, sym, ◌∙◌, subst}
use mathlib.Core.List.{List}
use Prim.Native.Nat.{ℕ, suc, ◌+◌, ◌*◌, ◌^◌, ◌≤◌, ◌<◌}
use native.Mathlib.Omega.{arith}
use native.Mathlib.Nat.{pow-zero}
use native.Mathlib.Numerals.{add-one}
use lib.ListN.{length, get_or, set, length-set}
use lib.Seq.{get_or-set_same, get_or-set_other}
use borrow.Author.Tests.{eq-eqb}
use Rattle.basics.specs.Tests.{Cmp, below, equal, above, cmp}
use Rattle.label.specs.Limits.{leaf_mark}
use Rattle.diagram.specs.Words.{label_at, high_at, row_count}
use Rattle.state.specs.State.{State, Fits}
use Rattle.elimination.specs.Tables as T
use Rattle.elimination.specs.Tables.{leaf_table, entries}
use Rattle.elimination.specs.Elimination.{row_table, tables, row_entries, entries_to, most_entries}
use Rattle.elimination.proofs.TableLaws.{leaf-full, leaf-sees}
use Rattle.elimination.proofs.RowLaws.{row-leaf}
use Rattle.elimination.proofs.CountLaws.{entries-step, entries-passed, leaf-entries}
use Rattle.eliminate.specs.Masks.{names_of, env_of, place_of}
use Rattle.eliminate.specs.MaskLaws.{of_zero}
use Rattle.eliminate.specs.Calls.{set_at, start_at, Stored}
use Rattle.eliminate.specs.Stores.{Holds}
use Rattle.eliminate.specs.Rows.{Ready, Tabled, Branching, Branched, Working, RowWorked, Finished}
use Rattle.eliminate.proofs.FillLaws.{holds-before}
use Rattle.std.proofs.lemmas.Option.{none-some, some_pair_parts}
use Rattle.std.specs.Prelude.{None, Option, Some}

-- ===== Heads =====
abbrev headed : List ℕ → ℕ → ℕ → ℕ → List ℕ
headed heads i k p = set (set heads (i * 2) k) (i * 2 + 1) p

module _ (heads : List ℕ) (i k p : ℕ) where
  headed-length : length (headed heads i k p) ≡ length heads
  headed-length = length-set (set heads (i * 2) k) (i * 2 + 1) p ∙ length-set heads (i * 2) k

  set_other : (j : ℕ) → j < i → set_at (headed heads i k p) j ≡ set_at heads j
  unfolding set_at
  set_other j h = get_or-set_other (set heads (i * 2) k) (i * 2 + 1) (j * 2) p 0 (omega arith) ∙ get_or-set_other heads (i * 2) (j * 2) k 0 (omega arith)

  start-other : (j : ℕ) → j < i → start_at (headed heads i k p) j ≡ start_at heads j
  unfolding start_at
  start-other j h = get_or-set_other (set heads (i * 2) k) (i * 2 + 1) (j * 2 + 1) p 0 (omega arith) ∙ get_or-set_other heads (i * 2) (j * 2 + 1) k 0 (omega arith)

  module _ (room : i * 2 + 2 ≤ length heads) where
    set_here : set_at (headed heads i k p) i ≡ k
    unfolding set_at
    set_here = get_or-set_other (set heads (i * 2) k) (i * 2 + 1) (i * 2) p 0 (omega arith) ∙ get_or-set_same heads (i * 2) k 0 (omega arith)

    start-here : start_at (headed heads i k p) i ≡ p
    unfolding start_at
    start-here = get_or-set_same (set heads (i * 2) k) (i * 2 + 1) p 0 (let e = length-set heads (i * 2) k in omega arith)

-- a table is held under other heads, if its own is the same
holds-heads : {s : State} {os : List ℕ} {heads heads' space : List ℕ} {i : ℕ} {z : T.Table} → set_at heads' i ≡ set_at heads i → start_at heads' i ≡ start_at heads i
    → Holds s os heads space i z → Holds s os heads' space i z
holds-heads {s} {heads} {heads'} {space} {i} {z} e d h = record {
  names-are = ap names_of e ∙ h.names-are;
  full = h.full;
  sees = h.sees;
  entry = λ θ f. ap (λ p. get_or space (p + place_of s.size z.names θ) 0) d ∙ h.entry θ f;
}

-- what a leaf row counts and holds
counts-leaf : (s : State) (os ar ws : List ℕ) (ts : List T.Table) (i : ℕ) → get_or ws (i * 3) 0 ≡ leaf_mark → row_entries s os ar ws ts i ≡ entries s os (leaf_table (high_at ws i))
unfolding row_entries label_at
counts-leaf s os ar ws ts i e = rw (eq-eqb (label_at ws i) leaf_mark e, row_entries)

leaf-table : (s : State) (ar ws : List ℕ) (ts : List T.Table) (i : ℕ) → get_or ws (i * 3) 0 ≡ leaf_mark → row_table s ar ws ts i ≡ leaf_table (high_at ws i)
unfolding label_at
leaf-table s ar ws ts i e = row-leaf s ar ws ts i e

leaf-held : (s : State) (os : List ℕ) (heads space ws : List ℕ) (i next : ℕ) → i * 2 + 2 ≤ length heads → next < length space
    → Holds s os (headed heads i 0 next) (set space next (get_or ws (i * 3 + 1) 0)) i (leaf_table (high_at ws i))
unfolding leaf_table high_at place_of
leaf-held s os heads space ws i next h r = record {
  names-are = ap names_of (set_here heads i 0 next h) ∙ of_zero;
  full = leaf-full (high_at ws i);
  sees = leaf-sees (high_at ws i);
  entry = λ θ f. ap (λ p. get_or (set space next (get_or ws (i * 3 + 1) 0)) (p + 0) 0) (start-here heads i 0 next h)
      ∙ ap (λ p. get_or (set space next (get_or ws (i * 3 + 1) 0)) p 0) (omega arith) ∙ get_or-set_same space next (get_or ws (i * 3 + 1) 0) 0 r;
}

module _ {ar ws sets heads space env : List ℕ} {n i next used : ℕ} (w : Working ar ws sets heads space env n i next used) where
  pub work-head : i * 2 + 2 ≤ length heads
  work-head = let r = w.row in let q = w.ready.heads-room in omega arith

  module _ (k c used' : ℕ) (space' env' : List ℕ) (size_is : c ≡ n ^ length (names_of k)) (fits : next + c ≤ used') (few : used' ≤ most_entries)
      (space-kept : length space' ≡ length space) (env-kept : length env' ≡ length env) (range : (t : ℕ) → env_of env' t < n) where
    abbrev heads' : List ℕ
    heads' = headed heads i k next

    still : (j : ℕ) → Cmp j i → j < i + 1 → Stored heads' space' n j × (start_at heads' j + n ^ length (names_of (set_at heads' j)) ≤ next + c)
    still j (below q) l =
        let s = w.ready.stored j q in
        let e = set_other heads i k next j q in
        let d = start-other heads i k next j q in
        let v = w.ready.ends j q in
        let g : n ^ length (names_of (set_at heads' j)) ≡ n ^ length (names_of (set_at heads j)) = ap (λ x. n ^ length (names_of x)) e in
        let o = headed-length heads i k next in
        let a = s.head in
        let b = s.few in
        let f = s.room in
        (record { head = omega arith; few = omega arith; room = omega arith }, omega arith)
    still j (equal q) l =
        let e : set_at heads' j ≡ k = ap (set_at heads') q ∙ set_here heads i k next work-head in
        let d : start_at heads' j ≡ next = ap (start_at heads') q ∙ start-here heads i k next work-head in
        let g : n ^ length (names_of (set_at heads' j)) ≡ c = ap (λ x. n ^ length (names_of x)) e ∙ sym size_is in
        let o = headed-length heads i k next in
        let h = work-head in
        let sr = w.ready.space-room in
        (record { head = omega arith; few = omega arith; room = omega arith }, omega arith)
    still j (above q) l = absurd (omega arith)

    pub work-ready : Ready ar ws sets heads' space' env' n (i + 1) (next + c) used'
    work-ready = record {
      sets = w.ready.sets;
      heads-room = let o = headed-length heads i k next in let r = w.ready.heads-room in omega arith;
      space-room = let r = w.ready.space-room in omega arith;
      some = w.ready.some;
      places = let r = w.ready.places in omega arith;
      range = range;
      next-used = fits;
      used-few = few;
      stored = λ j l. (still j (cmp j i) l).0;
      ends = λ j l. (still j (cmp j i) l).1;
    }

    pub work-tabled : (s : State) (os : List ℕ) (facts : List ℕ) → Tabled s os ar facts ws heads space env n i used → ((j : ℕ) → j < next → get_or space' j 0 ≡ get_or space j 0)
        → Holds s os heads' space' i (row_table s ar ws (tables s ar ws i) i) → Fits s os (env_of env') → used' ≡ entries_to s os ar ws (suc i)
        → Tabled s os ar facts ws heads' space' env' n (i + 1) used'
    work-tabled s os facts t before here f count = record {
      said = record { good = t.said.good; size_is = t.said.size_is; facts-are = t.said.facts-are; fits = f };
      holds = λ j l. go j (cmp j i) l;
      count = count ∙ ap (entries_to s os ar ws) (sym (add-one i));
    }
      where
        go : (j : ℕ) → Cmp j i → j < i + 1 → Holds s os heads' space' j (row_table s ar ws (tables s ar ws j) j)
        go j (below q) l = holds-heads (set_other heads i k next j q) (start-other heads i k next j q)
            (holds-before {n = n} t.said.size_is (w.ready.ends j q) before (t.holds j q))
        go j (equal q) l = subst (λ x. Holds s os heads' space' x (row_table s ar ws (tables s ar ws x) x)) (sym q) here
        go j (above q) l = absurd (omega arith)

  -- ===== A leaf row =====
  module _ (facts : List ℕ) (leaf : get_or ws (i * 3) 0 ≡ leaf_mark) where
    leaf-count : (s : State) (os : List ℕ) → Tabled s os ar facts ws heads space env n i used → suc used ≡ entries_to s os ar ws (suc i)
    unfolding label_at
    leaf-count s os t =
        let z = entries-step s os ar ws i in
        let c = t.count in
        let e : row_entries s os ar ws (tables s ar ws i) i ≡ 1 = counts-leaf s os ar ws (tables s ar ws i) i leaf ∙ leaf-entries s os (high_at ws i) in
        omega arith

    pub work-full : used ≡ most_entries → RowWorked ar facts ws sets heads space env n i used None heads space env
    work-full e = record {
      ready = λ a b q. absurd (none-some _ q);
      tabled = λ a b q s os t. absurd (none-some _ q);
      over = λ q s os t. let c = leaf-count s os t in let o = ap (entries_to s os ar ws) (add-one i) in omega arith;
    }

    pub work-leaf : (used ≡ most_entries → ⊥)
        → RowWorked ar facts ws sets heads space env n i used (Some (next + 1, used + 1)) (headed heads i 0 next) (set space next (get_or ws (i * 3 + 1) 0)) env
    work-leaf d = record {
      ready = λ a b q. let p = some_pair_parts _ _ _ _ q in rw (← p.0, ← p.1) all-ready;
      tabled = λ a b q s os t. let p = some_pair_parts _ _ _ _ q in rw (← p.1) (all-tabled s os t);
      over = λ q s os t. absurd (none-some _ (sym q));
    }
      where
        one_entry : 1 ≡ n ^ length (names_of 0)
        one_entry = sym (ap (λ vs. n ^ length vs) of_zero ∙ pow-zero n)

        room : next < length space
        room = let a = w.ready.next-used in let b = w.ready.used-few in let c = w.ready.space-room in omega arith

        all-ready : Ready ar ws sets (headed heads i 0 next) (set space next (get_or ws (i * 3 + 1) 0)) env n (i + 1) (next + 1) (used + 1)
        all-ready = work-ready 0 1 (used + 1) (set space next (get_or ws (i * 3 + 1) 0)) env one_entry (let a = w.ready.next-used in omega arith)
            (let b = w.ready.used-few in omega arith) (length-set space next (get_or ws (i * 3 + 1) 0)) refl w.ready.range

        all-tabled : (s : State) (os : List ℕ) → Tabled s os ar facts ws heads space env n i used
            → Tabled s os ar facts ws (headed heads i 0 next) (set space next (get_or ws (i * 3 + 1) 0)) env n (i + 1) (used + 1)
        all-tabled s os t = work-tabled 0 1 (used + 1) (set space next (get_or ws (i * 3 + 1) 0)) env one_entry (let a = w.ready.next-used in omega arith)
            (let b = w.ready.used-few in omega arith) (length-set space next (get_or ws (i * 3 + 1) 0)) refl w.ready.range s os facts t
            (λ j l. get_or-set_other space next j (get_or ws (i * 3 + 1) 0) 0 (omega arith)) (leaf-holds s os) t.said.fits
            (let c = leaf-count s os t in omega arith)
          where
            leaf-holds : (s : State) (os : List ℕ) → Holds s os (headed heads i 0 next) (set space next (get_or ws (i * 3 + 1) 0)) i (row_table s ar ws (tables s ar ws i) i)
            leaf-holds s os = subst (Holds s os (headed heads i 0 next) (set space next (get_or ws (i * 3 + 1) 0)) i)
                (sym (leaf-table s ar ws (tables s ar ws i) i leaf)) (leaf-held s os heads space ws i next work-head room)

  -- ===== A branch row =====
  pub work-branching : (get_or ws (i * 3) 0 ≡ leaf_mark → ⊥) → Branching ar ws sets heads space env n i next used
  unfolding label_at
  work-branching d = record { ready = w.ready; row = w.row; branch = d }

  module _ (facts : List ℕ) {r : Option (ℕ × ℕ × ℕ)} {space' env' : List ℕ} (b : Branched ar facts ws sets heads space env n i next used r space' env') where
    pub work-over : r ≡ None → RowWorked ar facts ws sets heads space env n i used None heads space' env'
    work-over e = record {
      ready = λ x y q. absurd (none-some _ q);
      tabled = λ x y q s os t. absurd (none-some _ q);
      over = λ q s os t. let c = b.full e s os t in let o = ap (entries_to s os ar ws) (add-one i) in omega arith;
    }

    pub work-sums : {k c e : ℕ} → r ≡ Some (k, c, e) → (next + c ≤ most_entries) × (used + e ≤ most_entries)
    work-sums {k} {c} {e} q = let t = b.table k c e q in (omega (arith, t.1, t.2), t.2)

    pub work-table : {k c e : ℕ} → r ≡ Some (k, c, e) → length space' ≡ length space → length env' ≡ length env
        → RowWorked ar facts ws sets heads space env n i used (Some (next + c, used + e)) (headed heads i k next) space' env'
    work-table {k} {c} {e} q sk ek = record {
      ready = λ x y z. let p = some_pair_parts _ _ _ _ z in rw (← p.0, ← p.1) (work-ready k c (used + e) space' env' t.0 t.1 t.2 sk ek b.range);
      tabled = λ x y z s os d. let p = some_pair_parts _ _ _ _ z in rw (← p.1) (work-tabled k c (used + e) space' env' t.0 t.1 t.2 sk ek b.range s os facts d b.before
          (b.holds k c e q s os d (headed heads i k next) (set_here heads i k next work-head) (start-here heads i k next work-head)) (b.fits s os d.said) (b.counts k c e q s os d));
      over = λ z s os d. absurd (none-some _ (sym z));
    }
      where
        t : (c ≡ n ^ length (names_of k)) × (next + c ≤ used + e) × (used + e ≤ most_entries)
        t = b.table k c e q

-- ===== All rows =====
pub record Going (ar facts ws sets heads₀ space₀ env₀ : List ℕ) (n : ℕ) (heads space env : List ℕ) (i next used : ℕ) : Type 0 where
  pub end : i ≤ row_count ws
  pub ready : Ready ar ws sets heads space env n i next used
  pub tabled : (s : State) (os : List ℕ) → Tabled s os ar facts ws heads₀ space₀ env₀ n 0 0 → Tabled s os ar facts ws heads space env n i used
  pub heads-kept : length heads ≡ length heads₀
  pub space-kept : length space ≡ length space₀
  pub env-kept : length env ≡ length env₀

pub go-start : (ar facts ws sets heads space env : List ℕ) (n : ℕ) → Ready ar ws sets heads space env n 0 0 0 → Going ar facts ws sets heads space env n heads space env 0 0 0
go-start ar facts ws sets heads space env n r = record {
  end = omega arith;
  ready = r;
  tabled = λ s os t. t;
  heads-kept = refl;
  space-kept = refl;
  env-kept = refl;
}

module _ {ar facts ws sets heads₀ space₀ env₀ : List ℕ} {n : ℕ} {heads space env : List ℕ} {i next used : ℕ}
    (g : Going ar facts ws sets heads₀ space₀ env₀ n heads space env i next used) where
  pub go-working : i < row_count ws → Working ar ws sets heads space env n i next used
  go-working h = record { ready = g.ready; row = h }

  pub go-over : {r : Option (ℕ × ℕ)} {heads' space' env' : List ℕ} → i < row_count ws → RowWorked ar facts ws sets heads space env n i used r heads' space' env' → r ≡ None
      → Finished ar facts ws sets heads₀ space₀ env₀ n None heads' space' env'
  go-over {r} h w e = record {
    ready = λ a b q. absurd (none-some _ q);
    tabled = λ a b q s os t. absurd (none-some _ q);
    over = λ q s os t. let o = w.over e s os (g.tabled s os t) in let p = entries-passed s os ar ws (i + 1) (omega arith) in omega arith;
  }

  pub go_on : {r : Option (ℕ × ℕ)} {heads' space' env' : List ℕ} {a b : ℕ} → i < row_count ws → RowWorked ar facts ws sets heads space env n i used r heads' space' env' → r ≡ Some (a, b)
      → length heads' ≡ length heads → length space' ≡ length space → length env' ≡ length env
      → Going ar facts ws sets heads₀ space₀ env₀ n heads' space' env' (i + 1) a b
  go_on {r} {heads'} {space'} {env'} {a} {b} h w e x y z = record {
    end = omega arith;
    ready = w.ready a b e;
    tabled = λ s os t. w.tabled a b e s os (g.tabled s os t);
    heads-kept = x ∙ g.heads-kept;
    space-kept = y ∙ g.space-kept;
    env-kept = z ∙ g.env-kept;
  }

  pub go-end : row_count ws ≤ i → Finished ar facts ws sets heads₀ space₀ env₀ n (Some (next, used)) heads space env
  go-end h = record {
    ready = λ a b q. let p = some_pair_parts _ _ _ _ q in let e : i ≡ row_count ws = omega (arith, g.end) in rw (← e, ← p.0, ← p.1) g.ready;
    tabled = λ a b q s os t. let p = some_pair_parts _ _ _ _ q in let e : i ≡ row_count ws = omega (arith, g.end) in rw (← e, ← p.1) (g.tabled s os t);
    over = λ q s os t. absurd (none-some _ (sym q));
  }
