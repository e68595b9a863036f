-- Laws of the loop over the rows of a lent listing: the results of its rows stand in the working space, and what is left to run.
use mathlib.Core.Path.{◌≡◌, refl, sym, ap, ap₂, subst, ◌∙◌}
use mathlib.Core.Logic.{◌≢◌}
use mathlib.Core.Bool.{true}
use mathlib.Core.List.{List, [], ◌∷◌, ◌++◌, map}
use Prim.Native.Nat.{ℕ, zero, suc, pred, ◌+◌, ◌*◌, ◌/◌, ◌≤◌, ◌<◌}
use native.Mathlib.Omega.{arith}
use native.Mathlib.Numerals.{add-one}
use lib.ListN.{length, get_or, set, drop, length-set, length-map, replicate, length-replicate}
use lib.Seq.{get_or-set_same, get_or-set_other, drop-cons}
use lib.Dec.{eqb}
use borrow.Author.Tests.{eq-eqb, ne_eqb, eqb-true, eqb-false}
use Rattle.refusal.specs.declared.Refusal.{Refusal}
use Rattle.refusal.specs.Outcome.{ok}
use Rattle.basics.specs.Tests.{Flag, is_true, is_false, flag, Cmp, below, equal, above, cmp}
use Rattle.label.specs.Limits.{leaf_mark}
use Rattle.label.proofs.LabelLaws.{label-below}
use Rattle.label.specs.Labels.{is_label}
use Rattle.label.specs.Inner.{map_of}
use Rattle.label.specs.Renamings.{moved}
use Rattle.label.specs.Callers.{Movable}
use Rattle.label.proofs.CodeLaws.{under_all}
use Rattle.label.specs.declared.Test.{Test}
use Rattle.diagram.specs.Sizes.{highest_value, most_rows}
use Rattle.diagram.specs.Diagram.{Diagram, leaf}
use Rattle.diagram.specs.Rows.{rows}
use Rattle.diagram.specs.Words.{label_at, high_at, low_at, row_count, up_to, is_listing}
use Rattle.diagram.specs.WordLaws.{length-up_to, map_snoc, get_d_map, get_d-up_to}
use Rattle.diagram.specs.Listing.{index, diagram_of}
use Rattle.diagram.specs.Validity.{Valid, ValidRow, a-leaf, a-branch, tree}
use Rattle.diagram.specs.ListingValid.{listing-is-valid}
use Rattle.diagram.specs.DiagramOfListing.{shown-rows, rows_are}
use Rattle.diagram.specs.RowLists.{row_tree}
use Rattle.diagram.specs.RowLaws.{rows-kept, kept-index-is}
use Rattle.plan.specs.Plan.{Clean}
use Rattle.apply.specs.Formed.{add}
use Rattle.store.specs.Space.{diagrams_of, Formation}
use Rattle.regression.specs.Calls.{Run, bind, form}
use Rattle.regression.specs.Step.{test_diagram, row_step}
use Rattle.regression.specs.Regression.{result_of, row_result, row_results, last_of, over_rows}
use Rattle.regression.proofs.RegressionLaws.{row-leaf, row-branch, results-none, results-cons, over-rows}
use Rattle.regression.proofs.MovedLaws.{moved_to, moved-label}
use Rattle.row_steps.specs.Running.{Space, Ready, Two, Gave, count_then, Ran, Testable}
use Rattle.row_steps.specs.RunLaws.{formed-ran, full-ran, leaf-onto, row-known, full-known}
use Rattle.regress.specs.declared.Task.{Task}
use Rattle.regress.specs.declared.Task.TheVariants.{Leaf, Branch}
use Rattle.regress.specs.Tasks.{task_at, Taskable, task_run, Tasked, replaced_by, Mapping, told_as}
use Rattle.std.specs.Prelude.{Err, None, Ok, Option, Result, Some}

-- `task_at`
task-leaf : (ws numbers : List ℕ) (k : ℕ) → label_at ws k ≡ leaf_mark → task_at ws numbers k ≡ Leaf (high_at ws k)
unfolding task_at
task-leaf ws numbers k e = rw (eq-eqb (label_at ws k) leaf_mark e)

task-branch : (ws numbers : List ℕ) (k : ℕ) → label_at ws k ≢ leaf_mark
    → task_at ws numbers k ≡ Branch (label_at ws k) (get_or numbers (high_at ws k) 0) (get_or numbers (low_at ws k) 0)
unfolding task_at
task-branch ws numbers k e = rw (ne_eqb (label_at ws k) leaf_mark e)

pub read-leaf : (ws numbers : List ℕ) (k : ℕ) → get_or ws (k * 3) 0 ≡ leaf_mark → Leaf (get_or ws (k * 3 + 1) 0) ≡ task_at ws numbers k
unfolding label_at high_at
read-leaf ws numbers k e = sym (task-leaf ws numbers k e)

pub read-branch : (ws numbers : List ℕ) (k : ℕ) {t f : ℕ} → (get_or ws (k * 3) 0 ≡ leaf_mark → ⊥) → t ≡ get_or numbers (get_or ws (k * 3 + 1) 0) 0
    → f ≡ get_or numbers (get_or ws (k * 3 + 2) 0) 0 → Branch (get_or ws (k * 3) 0) t f ≡ task_at ws numbers k
unfolding label_at high_at low_at
read-branch ws numbers k e p q = (λ i. Branch (get_or ws (k * 3) 0) (p i) (q i)) ∙ sym (task-branch ws numbers k e)

pub read-high : {ws numbers : List ℕ} {k : ℕ} → Taskable ws numbers k → (get_or ws (k * 3) 0 ≡ leaf_mark → ⊥) → get_or ws (k * 3 + 1) 0 < length numbers
unfolding label_at high_at
read-high t e = t.high e

pub read_low : {ws numbers : List ℕ} {k : ℕ} → Taskable ws numbers k → (get_or ws (k * 3) 0 ≡ leaf_mark → ⊥) → get_or ws (k * 3 + 2) 0 < length numbers
unfolding label_at low_at
read_low t e = t.low e

-- the results of the first k rows
abbrev pub results_of : List ℕ → List ℕ → ℕ → List Diagram
results_of s numbers k = map (λ j. tree s (get_or numbers j 0)) (up_to k)

map-alike : (f g : ℕ → Diagram) (n : ℕ) → ((k : ℕ) → k < n → f k ≡ g k) → map f (up_to n) ≡ map g (up_to n)
map-alike f g zero h = refl
map-alike f g (suc n) h = rw (map_snoc f (up_to n) n, map_snoc g (up_to n) n, map-alike f g n (λ k l. h k (omega arith)), h n (omega arith))

result-at : (s numbers : List ℕ) (k j : ℕ) → j < k → get_or (results_of s numbers k) j (leaf 0) ≡ tree s (get_or numbers j 0)
result-at s numbers k j h =
    get_d_map (λ i. tree s (get_or numbers i 0)) (up_to k) j 0 (leaf 0) (omega (arith, length-up_to k)) ∙ ap (λ (i : ℕ). tree s (get_or numbers i 0)) (get_d-up_to k j h)

drop_all : (k : ℕ) (rs : List Diagram) → length rs ≤ k → drop k rs ≡ []
drop_all zero [] h = refl
drop_all zero (x ∷ xs) h = absurd (omega arith)
drop_all (suc k) [] h = refl
drop_all (suc k) (x ∷ xs) h = drop_all k xs (omega arith)

-- the loop over the rows of a listing: k rows are done
pub record Going (T : ℕ → Run Diagram) (ar ws s₀ : List ℕ) (count : ℕ) (s numbers : List ℕ) (n root k : ℕ) : Type 0 where
  pub listing : is_listing ar ws ≡ true
  pub within : k ≤ row_count ws
  pub places : length numbers ≡ most_rows
  pub more : count ≤ n
  pub each : (j : ℕ) → j < k → get_or numbers j 0 < n
  pub stays : (j : ℕ) → j < count → tree s j ≡ tree s₀ j
  pub rest : row_results T (rows (diagram_of ws)) (rows (diagram_of ws)) [] (diagrams_of s₀ count)
      ≡ row_results T (rows (diagram_of ws)) (drop k (rows (diagram_of ws))) (results_of s numbers k) (diagrams_of s n)
  pub last : (j : ℕ) → k ≡ suc j → root ≡ get_or numbers j 0

pub going_start : (T : ℕ → Run Diagram) {ar ws : List ℕ} (s : List ℕ) (count m : ℕ) → is_listing ar ws ≡ true → m ≡ most_rows → Going T ar ws s count s (replicate m 0) count 0 0
going_start T {ar} {ws} s count m l e = record {
  listing = l;
  within = omega arith;
  places = length-replicate m 0 ∙ e;
  more = omega arith;
  each = λ j h. absurd (omega arith);
  stays = λ j h. refl;
  rest = refl;
  last = λ j h. absurd (omega arith);
}

module _ {T : ℕ → Run Diagram} {ar ws s₀ : List ℕ} {count : ℕ} {s numbers : List ℕ} {n root k : ℕ} (g : Going T ar ws s₀ count s numbers n root k) where
  valid : Valid ar ws
  valid = listing-is-valid ar ws g.listing

  abbrev W : List Diagram
  W = rows (diagram_of ws)

  length-W : length W ≡ row_count ws
  length-W = ap length (rows_are ar ws valid) ∙ length-map (up_to (row_count ws)) (tree ws) ∙ length-up_to (row_count ws)

  row_at : (j : ℕ) → j < row_count ws → row_tree W j ≡ tree ws j
  row_at j h =
      ap (λ (rs : List Diagram). row_tree rs j) (rows_are ar ws valid) ∙ get_d_map (tree ws) (up_to (row_count ws)) j 0 (leaf 0) (omega (arith, length-up_to (row_count ws)))
      ∙ ap (tree ws) (get_d-up_to (row_count ws) j h)

  index_at : (j : ℕ) → j < row_count ws → index (tree ws j) W ≡ j
  index_at j h = kept-index-is W j (tree ws j) (rows-kept (diagram_of ws)) (omega (arith, length-W)) (row_at j h)

  module _ (h : k < length ws / 3) where
    kids : label_at ws k ≢ leaf_mark → (high_at ws k < k) × (low_at ws k < k)
    kids e = (shown-rows ar ws valid).kids k h e

    pub going-taskable : Taskable ws numbers k
    going-taskable = record {
      room = omega (arith, valid.whole);
      high = λ e. omega (arith, (kids e).0, g.places, valid.few);
      low = λ e. omega (arith, (kids e).1, g.places, valid.few);
    }

    pub going-few : k < most_rows
    going-few = omega (arith, valid.few)

    -- its task
    row-run : Flag (eqb (label_at ws k) leaf_mark) → row_result T W (results_of s numbers k) (tree ws k) ≡ task_run T s (task_at ws numbers k)
    row-run (is_true e) =
        let e' = eqb-true _ _ e in
        rw ((shown-rows ar ws valid).leaves k h e', task-leaf ws numbers k e') (row-leaf T W (results_of s numbers k) (high_at ws k))
    row-run (is_false e) =
        let e' = eqb-false _ _ e in
        let q = kids e' in
        let a : result_of W (results_of s numbers k) (tree ws (high_at ws k)) ≡ tree s (get_or numbers (high_at ws k) 0)
        = ap (λ (j : ℕ). get_or (results_of s numbers k) j (leaf 0)) (index_at (high_at ws k) (omega arith)) ∙ result-at s numbers k (high_at ws k) q.0 in
        let b : result_of W (results_of s numbers k) (tree ws (low_at ws k)) ≡ tree s (get_or numbers (low_at ws k) 0)
        = ap (λ (j : ℕ). get_or (results_of s numbers k) j (leaf 0)) (index_at (low_at ws k) (omega arith)) ∙ result-at s numbers k (low_at ws k) q.1 in
        ap (row_result T W (results_of s numbers k)) ((shown-rows ar ws valid).branches k h e')
        ∙ row-branch T W (results_of s numbers k) (label_at ws k) (tree ws (high_at ws k)) (tree ws (low_at ws k))
        ∙ (λ i. bind (T (label_at ws k)) (λ x. row_step x (a i) (b i)))
        ∙ ap (task_run T s) (sym (task-branch ws numbers k e'))

    going-run : row_result T W (results_of s numbers k) (tree ws k) ≡ task_run T s (task_at ws numbers k)
    going-run = row-run (flag (eqb (label_at ws k) leaf_mark))

    going_next : row_results T W W [] (diagrams_of s₀ count)
        ≡ bind (task_run T s (task_at ws numbers k)) (λ x. row_results T W (drop (suc k) W) (results_of s numbers k ++ (x ∷ []))) (diagrams_of s n)
    going_next =
        g.rest
        ∙ ap (λ (rs : List Diagram). row_results T W rs (results_of s numbers k) (diagrams_of s n))
        (drop-cons W k (leaf 0) (omega (arith, length-W)) ∙ ap (λ (x : Diagram). x ∷ drop (suc k) W) (row_at k h))
        ∙ ap (λ (m : Run (List Diagram)). m (diagrams_of s n)) (results-cons T W (tree ws k) (drop (suc k) W) (results_of s numbers k))
        ∙ ap (λ (m : Run Diagram). bind m (λ x. row_results T W (drop (suc k) W) (results_of s numbers k ++ (x ∷ []))) (diagrams_of s n)) going-run

    valid-value : ValidRow ar ws k → label_at ws k ≡ leaf_mark → high_at ws k ≤ highest_value
    valid-value (a-leaf r) e = r.value
    valid-value (a-branch r) e = absurd (let b = label-below ar (label_at ws k) r.label in omega arith)

    valid-label : ValidRow ar ws k → label_at ws k ≢ leaf_mark → is_label ar (label_at ws k) ≡ true
    valid-label (a-leaf r) e = absurd (e r.mark)
    valid-label (a-branch r) e = r.label

    tasked : Flag (eqb (label_at ws k) leaf_mark) → Tasked ar n (task_at ws numbers k)
    tasked (is_true e) =
        let e' = eqb-true _ _ e in
        rw (task-leaf ws numbers k e') (record {
          value = λ v q. let w : high_at ws k ≡ v = cc in rw (← w) (valid-value (valid.each k h) e');
          label = λ l a b q. let z : ◌≡◌ {A = ℕ} 0 1 = cc in absurd (omega arith);
        })
    tasked (is_false e) =
        let e' = eqb-false _ _ e in
        let q = kids e' in
        rw (task-branch ws numbers k e') (record {
          value = λ v x. let z : ◌≡◌ {A = ℕ} 0 1 = cc in absurd (omega arith);
          label = λ l a b x.
              let p : label_at ws k ≡ l = cc in
              let y : get_or numbers (high_at ws k) 0 ≡ a = cc in
              let z : get_or numbers (low_at ws k) 0 ≡ b = cc in
              (rw (← p) (valid-label (valid.each k h) e'), rw (← y) (g.each (high_at ws k) q.0), rw (← z) (g.each (low_at ws k) q.1));
        })

    module _ {task : Task} (t : task ≡ task_at ws numbers k) where
      pub going-tasked : Tasked ar n task
      going-tasked = rw t (tasked (flag (eqb (label_at ws k) leaf_mark)))

      module _ {limit : ℕ} {r : Result (ℕ × ℕ) (Refusal × ℕ)} {s' heads' links' index' : List ℕ} (x : Ran limit (task_run T s task) s n r s' heads' links' index') where
        run : Ran limit (task_run T s (task_at ws numbers k)) s n r s' heads' links' index'
        run = subst (λ (y : Task). Ran limit (task_run T s y) s n r s' heads' links' index') t x

        pub going-stop : {w : Refusal} {c : ℕ} → r ≡ Err (w, c) → Ran limit (over_rows T (diagram_of ws)) s₀ count r s' heads' links' index'
        going-stop {w} {c} e = record {
          space = x.space;
          clean = x.clean;
          row = λ i m q. let z : ◌≡◌ {A = Result (ℕ × ℕ) (Refusal × ℕ)} (Err (w, c)) (Ok (i, m)) = sym e ∙ q in let y : ◌≡◌ {A = ℕ} 0 1 = cc in absurd (omega arith);
          refusal = λ v m q y.
              ap (λ (m : Run Diagram). m (diagrams_of s₀ count)) (over-rows T (diagram_of ws))
              ∙ rw (going_next, run.refusal v m q y);
        }

        module _ {i c : ℕ} (e : r ≡ Ok (i, c)) where
          gave : Gave (task_run T s (task_at ws numbers k)) s n i c s'
          gave = run.row i c e

          pub going-small : i < 65536
          going-small = omega (arith, gave.there, row-space.holds.table.within)
            where
              row-space : Space s' heads' links' c
              row-space = subst (λ (y : Result (ℕ × ℕ) (Refusal × ℕ)). Space s' heads' links' (count_then y)) e x.space

          pub going-place : k < length numbers
          going-place = omega (arith, g.places, valid.few)

          results_on : results_of s numbers k ++ (tree s' i ∷ []) ≡ results_of s' (set numbers k i) (suc k)
          results_on = sym (
              map_snoc (λ j. tree s' (get_or (set numbers k i) j 0)) (up_to k) k
              ∙ ap₂ (λ (rs : List Diagram) (d : Diagram). rs ++ (d ∷ [])) (map-alike (λ j. tree s' (get_or (set numbers k i) j 0)) (λ j. tree s (get_or numbers j 0)) k old)
              (ap (tree s') (get_or-set_same numbers k i 0 going-place)))
            where
              old : (j : ℕ) → j < k → tree s' (get_or (set numbers k i) j 0) ≡ tree s (get_or numbers j 0)
              old j l = ap (tree s') (get_or-set_other numbers k j i 0 (λ z. omega arith)) ∙ gave.stays (get_or numbers j 0) (g.each j l)

          pub going_on : Going T ar ws s₀ count s' (set numbers k i) c i (k + 1)
          going_on = record {
            listing = g.listing;
            within = omega arith;
            places = length-set numbers k i ∙ g.places;
            more = omega (arith, g.more, gave.more);
            each = λ j l. each j l (cmp j k);
            stays = λ j l. gave.stays j (omega (arith, g.more)) ∙ g.stays j l;
            rest = rw add-one (going_next ∙ rw gave.gives (ap (λ (rs : List Diagram). row_results T W (drop (suc k) W) rs (diagrams_of s' c)) results_on));
            last = λ j l. let q : k ≡ j = omega arith in rw (← q) (sym (get_or-set_same numbers k i 0 going-place));
          }
            where
              each : (j : ℕ) → j < k + 1 → Cmp j k → get_or (set numbers k i) j 0 < c
              each j l (below q) = rw (get_or-set_other numbers k j i 0 (λ z. omega arith)) (let a = g.each j q in omega (arith, gave.more))
              each j l (equal q) = rw (q, get_or-set_same numbers k i 0 going-place) gave.there
              each j l (above q) = absurd (omega arith)

  -- all rows are done
  pub going_end : {limit : ℕ} {heads links index : List ℕ} → length ws / 3 ≤ k → Space s heads links n → Clean index
      → Ran limit (over_rows T (diagram_of ws)) s₀ count (Ok (root, n)) s heads links index
  going_end {limit} {heads} {links} {index} h z c = record {
    space = z;
    clean = c;
    row = λ i m q.
        let y : ◌≡◌ {A = ℕ × ℕ} (root, n) (i, m) = cc in
        let a : root ≡ i = ap (λ (y : ℕ × ℕ). y.0) y in
        let b : n ≡ m = ap (λ (y : ℕ × ℕ). y.1) y in
        rw (← a, ← b) all;
    refusal = λ w m q x. let y : ◌≡◌ {A = ℕ} 0 1 = cc in absurd (omega arith);
  }
    where
      is-k : k ≡ row_count ws
      is-k = omega (arith, g.within)

      root_is : root ≡ get_or numbers (pred k) 0
      root_is = g.last (pred k) (omega (arith, is-k, valid.some))

      root-there : root < n
      root-there = rw root_is (g.each (pred k) (omega (arith, is-k, valid.some)))

      done : row_results T W W [] (diagrams_of s₀ count) ≡ ok (results_of s numbers k, diagrams_of s n)
      done =
          g.rest
          ∙ ap (λ (rs : List Diagram). row_results T W rs (results_of s numbers k) (diagrams_of s n)) (drop_all k W (omega (arith, length-W, is-k)))
          ∙ ap (λ (m : Run (List Diagram)). m (diagrams_of s n)) (results-none T W (results_of s numbers k))

      last-is : last_of (results_of s numbers k) ≡ tree s root
      last-is =
          let l : length (results_of s numbers k) ≡ k = length-map (up_to k) (λ j. tree s (get_or numbers j 0)) ∙ length-up_to k in
          ap (λ (j : ℕ). get_or (results_of s numbers k) (pred j) (leaf 0)) l ∙ result-at s numbers k (pred k) (omega (arith, is-k, valid.some)) ∙ ap (tree s) (sym root_is)

      all : Gave (over_rows T (diagram_of ws)) s₀ count root n s
      all = record {
        there = root-there;
        more = g.more;
        gives = ap (λ (m : Run Diagram). m (diagrams_of s₀ count)) (over-rows T (diagram_of ws)) ∙ rw done (ap (λ (d : Diagram). ok (d, diagrams_of s n)) last-is);
        stays = g.stays;
      }

-- a leaf's row
pub leaf-told : (T : ℕ → Run Diagram) {ar : List ℕ} {plan index s heads links : List ℕ} {limit count v : ℕ} {task : Task} {f : Option (ℕ × ℕ)} {r : Result (ℕ × ℕ) (Refusal × ℕ)}
    {s' heads' links' : List ℕ}
    → Ready plan index limit s heads links count → Tasked ar count task → task ≡ Leaf v
    → Formation (leaf v) (add (leaf v) (diagrams_of s count)) f s' heads' links' → r ≡ told_as f → Ran limit (task_run T s task) s count r s' heads' links' index
leaf-told T {ar} {plan} {index} {s} {heads} {links} {limit} {count} {v} {task} {f} {r} {s'} {heads'} {links'} ready t e z q = rw e (go f refl)
  where
    go : (x : Option (ℕ × ℕ)) → f ≡ x → Ran limit (form (leaf v)) s count r s' heads' links' index
    go (Some (i, n)) p = subst (λ (y : Result (ℕ × ℕ) (Refusal × ℕ)). Ran limit (form (leaf v)) s count y s' heads' links' index) (sym (q ∙ ap told_as p))
        (formed-ran s count (leaf v) (t.value v e) ready.space.values ready.clean (row-known (leaf-onto s count z) p))
    go None p = subst (λ (y : Result (ℕ × ℕ) (Refusal × ℕ)). Ran limit (form (leaf v)) s count y s' heads' links' index) (sym (q ∙ ap told_as p))
        (full-ran s count (leaf v) (t.value v e) ready.space.values ready.clean (full-known (leaf-onto s count z) p))

-- a replacement's row
module _ {ar map : List ℕ} (m : Mapping ar map) {count : ℕ} {task : Task} (t : Tasked ar count task) {l high low : ℕ} (e : task ≡ Branch l high low) where
  pub branch-movable : Movable ar map l
  branch-movable = record { arities = under_all ar (sym m.arities) refl; terms = m.terms; label = (t.label l high low e).0 }

  pub branch-two : Two count high low
  branch-two = record { first = (t.label l high low e).1; second = (t.label l high low e).2 }

  pub branch-testable : {x : Test} → x ≡ moved ar (map_of map) l → Testable x
  branch-testable {x} q = record {
    label = λ k z. label-below ar k.packed (moved-label ar (map_of map) l (moved_to ar m.arities (map_of map) m.keeps l (t.label l high low e).0) k (sym q ∙ z));
  }

  pub branch-replaced : {limit : ℕ} {x : Test} {s : List ℕ} {r : Result (ℕ × ℕ) (Refusal × ℕ)} {s' heads' links' index' : List ℕ} → x ≡ moved ar (map_of map) l
      → Ran limit (row_step (test_diagram x) (tree s high) (tree s low)) s count r s' heads' links' index'
      → Ran limit (task_run (replaced_by ar map) s task) s count r s' heads' links' index'
  branch-replaced {limit} {x} {s} {r} {s'} {heads'} {links'} {index'} q z =
      rw e (subst (λ (y : Test). Ran limit (row_step (test_diagram y) (tree s high) (tree s low)) s count r s' heads' links' index') q z)

-- the tables behind a step
pub ready_on : {m : Run Diagram} {plan index s heads links : List ℕ} {limit count : ℕ} {r : Result (ℕ × ℕ) (Refusal × ℕ)} {plan' s' heads' links' index' : List ℕ}
    → Ready plan index limit s heads links count
    → Ran limit m s count r s' heads' links' index' → length plan' ≡ length plan → {i c : ℕ} → r ≡ Ok (i, c) → Ready plan' index' limit s' heads' links' c
ready_on {m} {plan} {index} {s} {heads} {links} {limit} {count} {r} {plan'} {s'} {heads'} {links'} {index'} a x l {i} {c} e = record {
  space = subst (λ (y : Result (ℕ × ℕ) (Refusal × ℕ)). Space s' heads' links' (count_then y)) e x.space;
  clean = x.clean;
  words = omega (arith, a.words);
  most = a.most;
}
