-- States that no diagram under the arity list tells apart meet 15 for the same listings: their tables have the same entries (document 02, L6).
use Rattle.std.specs.Prelude.{◌≡◌, ◌≢◌, Bool, true, false, not, ◌||◌, cond, length, get_or, eqb}
use Rattle.std.proofs.Math.Path.{refl, sym, ap, ap₂, fun_ext}
use Rattle.std.proofs.Common.{subst, ◌∙◌, arith}
use Rattle.std.proofs.Math.Bool.{◌&&◌}
use mathlib.Core.List.{List, [], ◌∷◌, ◌++◌}
use Prim.Native.Nat.{ℕ, zero, suc, ◌+◌, ◌-◌, ◌≤◌, ◌<◌}
use Rattle.std.proofs.Math.Dec.{ltb}
use borrow.Author.Tests.{eqb-true, eqb-false}
use Rattle.basics.specs.Tests.{Flag, is_true, is_false, flag}
use Rattle.label.specs.Limits.{leaf_mark, first_parameter, first_variable}
use Rattle.label.specs.Labels.{are_arities, is_label}
use Rattle.diagram.specs.Words.{label_at, high_at, low_at, row_count}
use Rattle.diagram.specs.Validity.{ValidRow, a-leaf, a-branch, Valid}
use Rattle.state.specs.State.{atom_of, State, Good, low, fixed}
use Rattle.state.specs.Terms.{args}
use Rattle.state.specs.Highest.{put, vars_of, start}
use Rattle.state.proofs.HighestLaws.{start_fits}
use Rattle.state.proofs.LentLaws.{some_same}
use Rattle.state.specs.ValueCall.{most_valuations, valuations}
use Rattle.elimination.specs.Tables.{Table, sum_to, count_choices, entries, leaf_table, is_case, join, unite, without, aggregate, aggregate_all, aggregate_entries}
use Rattle.elimination.specs.Elimination.{untested, row_join, row_union, row_drops, row_table, tables, row_entries, entries_to, most_entries, all_entries}
use Rattle.elimination.proofs.RowLaws.{row-leaf, row-branch, tables-length}
use Rattle.elimination.specs.Answer.{is_too_large}
use Rattle.diagram.specs.Variables.{is_plain}
use Rattle.diagram.specs.Listing.{diagram_of}
use Rattle.mdp.proofs.BackupLaws.{bound-none}
use Rattle.replay.specs.Along.{Alike}
use Rattle.replay.proofs.AlikeLaws.{holds-alike}

-- ===== Tests that agree where every term has an object below n =====

abbrev In : ℕ → (ℕ → ℕ) → Type 0
In n θ = (u : ℕ) → θ u < n

put_in : (n : ℕ) (θ : ℕ → ℕ) (v o : ℕ) → o < n → In n θ → In n (put θ v o)
unfolding put
put_in n θ v o h r u = go (eqb u v)
  where
    go : (b : Bool) → cond b o (θ u) < n
    go true = h
    go false = r u

sum_same : (n : ℕ) (f g : ℕ → ℕ) → ((o : ℕ) → o < n → f o ≡ g o) → sum_to n f ≡ sum_to n g
unfolding sum_to
sum_same zero f g h = refl
sum_same (suc n) f g h = ap₂ ◌+◌ (sum_same n f g (λ o l. h o (omega arith))) (h n (omega arith))

choices-same : (n : ℕ) (vs : List ℕ) (θ : ℕ → ℕ) (p q : (ℕ → ℕ) → Bool) → In n θ → ((η : ℕ → ℕ) → In n η → p η ≡ q η)
    → count_choices n vs θ p ≡ count_choices n vs θ q
unfolding count_choices
choices-same n [] θ p q r h = ap (λ (b : Bool). cond b 1 0) (h θ r)
choices-same n (v ∷ vs) θ p q r h = sum_same n _ _ (λ o l. choices-same n vs (put θ v o) p q (put_in n θ v o l r) h)

-- the same names, and entries for the same choices
record Same (n : ℕ) (x y : Table) : Type 0 where
  names : x.names ≡ y.names
  has : (θ : ℕ → ℕ) → In n θ → x.has θ ≡ y.has θ

leaf-same : (n v : ℕ) → Same n (leaf_table v) (leaf_table v)
leaf-same n v = record { names = refl; has = λ θ r. refl }

unite-same : (n : ℕ) (x y x' y' : Table) → Same n x x' → Same n y y' → Same n (unite x y) (unite x' y')
unfolding unite
unite-same n x y x' y' a b = record { names = ap₂ vars_of a.names b.names; has = λ θ r. ap₂ ◌||◌ (a.has θ r) (b.has θ r) }

aggregate-same : (n v : ℕ) (x y : Table) → Same n x y → Same n (aggregate n v x) (aggregate n v y)
unfolding aggregate
aggregate-same n v x y a = record {
  names = ap (without v) a.names;
  has = λ θ r. some_same n _ _ (λ o l. a.has (put θ v o) (put_in n θ v o l r));
}

aggregate_all-same : (n : ℕ) (vs : List ℕ) (x y : Table) → Same n x y → Same n (aggregate_all n vs x) (aggregate_all n vs y)
unfolding aggregate_all
aggregate_all-same n [] x y a = a
aggregate_all-same n (v ∷ vs) x y a = aggregate_all-same n vs (aggregate n v x) (aggregate n v y) (aggregate-same n v x y a)

-- a table more at the end of two lists of tables
snoc-same : (n : ℕ) (a b d : Table) → Same n a b → Same n d d → (xs ys : List Table) → length xs ≡ length ys → ((j : ℕ) → Same n (get_or xs j d) (get_or ys j d))
    → (j : ℕ) → Same n (get_or (xs ++ (a ∷ [])) j d) (get_or (ys ++ (b ∷ [])) j d)
snoc-same n a b d h k [] [] e w zero = h
snoc-same n a b d h k [] [] e w (suc j) = k
snoc-same n a b d h k [] (y ∷ ys) e w j = absurd (omega arith)
snoc-same n a b d h k (x ∷ xs) [] e w j = absurd (omega arith)
snoc-same n a b d h k (x ∷ xs) (y ∷ ys) e w zero = w 0
snoc-same n a b d h k (x ∷ xs) (y ∷ ys) e w (suc j) = snoc-same n a b d h k xs ys (omega arith) (λ i. w (suc i)) j

-- ===== States that are alike =====

module _ (ar : List ℕ) (arities : are_arities ar ≡ true) {s t : State} (a : Alike ar s t) where
  start-alike : start s [] ≡ start t []
  unfolding start fixed
  start-alike = fun_ext (λ u. ap (λ (c : ℕ → ℕ). low first_variable u (low first_parameter u (c u) (get_or [] (u - first_parameter) (c 0))) 0) a.constant)

  join-same : (b : Bool) (l : ℕ) → is_label ar l ≡ true → (x y : Table) → Same s.size x y → Same s.size (join s b (atom_of ar l) x) (join t b (atom_of ar l) y)
  unfolding join
  join-same b l h x y k = record {
    names = ap (vars_of (args (atom_of ar l))) k.names;
    has = λ θ r. ap₂ ◌&&◌ (ap (is_case b) (holds-alike ar arities a θ r l h)) (k.has θ r);
  }

  module _ (good : Good s) where
    start-in : In s.size (start s [])
    start-in = (start_fits s [] good (bound-none s good)).range

    entries-same : (x y : Table) → Same s.size x y → entries s [] x ≡ entries t [] y
    unfolding entries
    entries-same x y k =
        choices-same s.size x.names (start s []) x.has y.has start-in k.has
        ∙ ap (λ (vs : List ℕ). count_choices s.size vs (start s []) y.has) k.names
        ∙ ap₂ (λ (n : ℕ) (θ : ℕ → ℕ). count_choices n y.names θ y.has) a.size start-alike

    drops-entries : (vs : List ℕ) (x y : Table) → Same s.size x y → aggregate_entries s [] vs x ≡ aggregate_entries t [] vs y
    unfolding aggregate_entries
    drops-entries [] x y k = refl
    drops-entries (v ∷ vs) x y k =
        let h = aggregate-same s.size v x y k in
        ap₂ ◌+◌ (entries-same _ _ h) (drops-entries vs _ _ h)
        ∙ ap (λ (n : ℕ). entries t [] (aggregate n v y) + aggregate_entries t [] vs (aggregate n v y)) a.size

    -- ===== The rows of a listing =====

    module _ (ws : List ℕ) (valid : Valid ar ws) where
      branch-label : (i : ℕ) → i < row_count ws → label_at ws i ≢ leaf_mark → is_label ar (label_at ws i) ≡ true
      branch-label i h n = go (valid.each i h)
        where
          go : ValidRow ar ws i → is_label ar (label_at ws i) ≡ true
          go (a-leaf r) = absurd (n r.mark)
          go (a-branch r) = r.label

      module _ (ts us : List Table) (w : (j : ℕ) → Same s.size (get_or ts j (leaf_table 0)) (get_or us j (leaf_table 0))) (i : ℕ) (h : i < row_count ws) where
        join-row : label_at ws i ≢ leaf_mark → (b : Bool) → Same s.size (row_join s ar ws ts i b) (row_join t ar ws us i b)
        unfolding row_join
        join-row n b = join-same b (label_at ws i) (branch-label i h n) _ _ (w (cond b (high_at ws i) (low_at ws i)))

        union-row : label_at ws i ≢ leaf_mark → Same s.size (row_union s ar ws ts i) (row_union t ar ws us i)
        unfolding row_union
        union-row n = unite-same s.size _ _ _ _ (join-row n true) (join-row n false)

        drops-row : label_at ws i ≢ leaf_mark → row_drops s ar ws ts i ≡ row_drops t ar ws us i
        unfolding row_drops
        drops-row n = ap (untested ar ws i) (union-row n).names

        table-row : Same s.size (row_table s ar ws ts i) (row_table t ar ws us i)
        table-row = go (flag (eqb (label_at ws i) leaf_mark))
          where
            go : Flag (eqb (label_at ws i) leaf_mark) → Same s.size (row_table s ar ws ts i) (row_table t ar ws us i)
            go (is_true e) =
                let l = eqb-true (label_at ws i) leaf_mark e in
                rw (row-leaf s ar ws ts i l, row-leaf t ar ws us i l) (leaf-same s.size (high_at ws i))
            go (is_false e) =
                let n = eqb-false (label_at ws i) leaf_mark e in
                let vs = row_drops t ar ws us i in
                let k = aggregate_all-same s.size vs (row_union s ar ws ts i) (row_union t ar ws us i) (union-row n) in
                rw (row-branch s ar ws ts i n, row-branch t ar ws us i n, drops-row n)
                (subst (λ (m : ℕ). Same s.size (aggregate_all s.size vs (row_union s ar ws ts i)) (aggregate_all m vs (row_union t ar ws us i))) a.size k)

        entries-row : row_entries s [] ar ws ts i ≡ row_entries t [] ar ws us i
        unfolding row_entries
        entries-row = go (flag (eqb (label_at ws i) leaf_mark))
          where
            go : Flag (eqb (label_at ws i) leaf_mark) → row_entries s [] ar ws ts i ≡ row_entries t [] ar ws us i
            go (is_true e) = rw (e, row_entries) (entries-same _ _ (leaf-same s.size (high_at ws i)))
            go (is_false e) =
                let n = eqb-false (label_at ws i) leaf_mark e in
                rw (e, row_entries)
                (ap₂ ◌+◌ (ap₂ ◌+◌ (ap₂ ◌+◌ (entries-same _ _ (join-row n true)) (entries-same _ _ (join-row n false))) (entries-same _ _ (union-row n)))
                (drops-entries (row_drops s ar ws ts i) _ _ (union-row n) ∙ ap (λ (vs : List ℕ). aggregate_entries t [] vs (row_union t ar ws us i)) (drops-row n)))

      tables-same : (k : ℕ) → k ≤ row_count ws → (j : ℕ) → Same s.size (get_or (tables s ar ws k) j (leaf_table 0)) (get_or (tables t ar ws k) j (leaf_table 0))
      unfolding tables
      tables-same zero h j = leaf-same s.size 0
      tables-same (suc k) h j =
          let ih = tables-same k (omega arith) in
          snoc-same s.size _ _ (leaf_table 0) (table-row (tables s ar ws k) (tables t ar ws k) ih k (omega arith)) (leaf-same s.size 0)
          (tables s ar ws k) (tables t ar ws k) (tables-length s ar ws k ∙ sym (tables-length t ar ws k)) ih j

      entries-to : (k : ℕ) → k ≤ row_count ws → entries_to s [] ar ws k ≡ entries_to t [] ar ws k
      unfolding entries_to
      entries-to zero h = refl
      entries-to (suc k) h =
          ap₂ ◌+◌ (entries-to k (omega arith)) (entries-row (tables s ar ws k) (tables t ar ws k) (tables-same k (omega arith)) k (omega arith))

      pub large-alike : is_too_large ar s [] ws ≡ is_too_large ar t [] ws
      unfolding is_too_large all_entries
      large-alike =
          ap₂ (λ (n m : ℕ). ltb most_valuations (valuations ar n (diagram_of ws)) && (not (is_plain ar (diagram_of ws)) || ltb most_entries m))
          a.size (entries-to (row_count ws) (omega arith))
