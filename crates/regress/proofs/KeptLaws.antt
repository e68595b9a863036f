-- Laws of T kept for a label that occurs again, and of the rows of a regression.
use mathlib.Core.Path.{◌≡◌, refl, sym, ap, subst, ◌∙◌, fun_ext}
use mathlib.Core.Bool.{true}
use mathlib.Core.List.{List}
use Prim.Native.Nat.{ℕ, ◌+◌, ◌*◌, ◌/◌, ◌%◌, ◌≤◌, ◌<◌}
use native.Mathlib.Omega.{arith}
use lib.ListN.{length, get_or, set, length-set, replicate, length-replicate, get_or-replicate}
use lib.Seq.{get_or-set_same, get_or-set_other}
use Rattle.refusal.specs.declared.Refusal.{Refusal}
use Rattle.refusal.specs.Outcome.{Outcome, ok, refused, and_then}
use Rattle.basics.specs.Members.{clash}
use Rattle.basics.specs.Prefix.{Prefix, mem-prefix}
use Rattle.basics.specs.Tests.{Cmp, below, equal, above, cmp}
use Rattle.label.specs.Limits.{predicate_count, predicate_weight}
use Rattle.label.specs.Labels.{is_label, predicate_of, unpacked, in_order}
use Rattle.label.proofs.LabelLaws.{label-fits}
use Rattle.diagram.specs.Diagram.{Diagram, leaf, same}
use Rattle.diagram.specs.Validity.{tree}
use Rattle.diagram.specs.Sizes.{space_rows}
use Rattle.diagram.specs.RowLaws.{onto-mem}
use Rattle.apply.specs.Formed.{add}
use Rattle.store.specs.Space.{diagrams_of, Formation}
use Rattle.regression.specs.Calls.{Run, bind, form}
use Rattle.regression.proofs.CallLaws.{Steady, steady-bind, steady-form, form-forms, form-old}
use Rattle.regression.specs.Step.{row_step}
use Rattle.regression.proofs.StepLaws.{steady-step}
use Rattle.regression.specs.Regression.{Truths, truth_at}
use Rattle.regression.proofs.RegressionLaws.{steady-truth}
use Rattle.regression.specs.RegressCall.{truths_of}
use Rattle.row_steps.specs.Running.{Ready, Three, Gave, Ran}
use Rattle.row_steps.specs.RunLaws.{in-room, ran-bind, ran-stop, ran-cast, ran-answer}
use Rattle.truths.specs.TruthChecks.{Lent}
use Rattle.regress.specs.declared.Task.{Task}
use Rattle.regress.specs.declared.Task.TheVariants.{Leaf, Branch}
use Rattle.regress.specs.Keeping.{Known, formed_truth, Asking, slots, slot_base, slot_label, slot_row, Stands, Keeps, KeptRan}
use Rattle.regress.specs.Tasks.{task_run, Tasked, told_as}
use Rattle.regress.proofs.RowsLaws.{leaf-told, ready_on}
use Rattle.std.specs.Prelude.{Err, Ok, Option, Result}

pub known-now : {A : Type 0} (m : Run A) (a : A) (rs qs : List Diagram) → m rs ≡ ok (a, qs) → Known m a qs
known-now m a rs qs e = record { before = rs; after = qs; ran = e; there = λ x h. h }

pub known-later : {A : Type 0} (m : Run A) (a : A) (rs qs : List Diagram) → Prefix rs qs → Known m a rs → Known m a qs
known-later m a rs qs g k = record { before = k.before; after = k.after; ran = k.ran; there = λ x h. mem-prefix same x g (k.there x h) }

-- run again it gives the same answer and adds nothing
pub known-again : {A : Type 0} (m : Run A) (a : A) (rs : List Diagram) → Steady m → Known m a rs → length rs ≤ space_rows → m rs ≡ ok (a, rs)
known-again m a rs s k l = s.again k.before a k.after rs k.ran k.there l

-- a kept T stands while rows are added
steady-formed : (ar : List ℕ) (T : Truths) (l : ℕ) → Steady (formed_truth ar T l)
steady-formed ar T l = steady-bind (truth_at ar T l) form (steady-truth ar T l) steady-form

keeps-later : {ar : List ℕ} {T : Truths} (m : Run Diagram) {s₀ : List ℕ} {count i n : ℕ} {s kept : List ℕ} → Steady m → Gave m s₀ count i n s
    → Keeps ar T s₀ count kept → Keeps ar T s n kept
keeps-later {ar} {T} m {s₀} {count} {i} {n} {s} {kept} y g k = record { places = k.places; each = λ b h e. later (slot_label kept b) (slot_row kept b) (k.each b h e) }
  where
    later : (l j : ℕ) → Stands ar T s₀ count l j → Stands ar T s n l j
    later l j x = record {
      there = omega (arith, x.there, g.more);
      known = subst (λ (d : Diagram). Known (formed_truth ar T l) d (diagrams_of s n)) (sym (g.stays j x.there))
          (known-later (formed_truth ar T l) (tree s₀ j) (diagrams_of s₀ count) (diagrams_of s n) (y.grows (diagrams_of s₀ count) (tree s i) (diagrams_of s n) g.gives) x.known);
    }

kept-ran : {limit : ℕ} {ar : List ℕ} {T : Truths} (m : Run Diagram) {s₀ : List ℕ} {count : ℕ} {r : Result (ℕ × ℕ) (Refusal × ℕ)} {s heads links index kept : List ℕ} → Steady m
    → Ran limit m s₀ count r s heads links index → Keeps ar T s₀ count kept → KeptRan limit ar T m s₀ count r s heads links index kept
kept-ran m y x k = record { ran = x; keeps = λ i n e. keeps-later m y (x.row i n e) k }

-- no label stands in an empty slot
zero-label : (ar : List ℕ) → is_label ar 0 ≡ true → ⊥
unfolding unpacked in_order
zero-label ar h = clash (label-fits ar 0 h).ordered refl

pub keeps-start : (ar : List ℕ) (T : Truths) (s : List ℕ) (count n : ℕ) → n ≡ slots → Keeps ar T s count (replicate n 0)
keeps-start ar T s count n e = record {
  places = length-replicate n 0 ∙ e;
  each = λ b h z. absurd (zero-label ar (subst (λ (x : ℕ). is_label ar (x / slot_base) ≡ true) (get_or-replicate n b 0 0 (omega arith)) z));
}

-- `kept_truth`
pub asking-below : {ar truths spans : List ℕ} {l : ℕ} → Asking ar truths spans l → l < predicate_count * predicate_weight
unfolding unpacked predicate_of
asking-below {ar} {truths} {spans} {l} q = omega (arith, (label-fits ar l q.label).predicate-fits)

module _ {ar truths spans : List ℕ} {l : ℕ} (q : Asking ar truths spans l) {plan index s₀ heads₀ links₀ : List ℕ} {limit count : ℕ}
    (ready : Ready plan index limit s₀ heads₀ links₀ count) {kept : List ℕ} (k : Keeps ar (truths_of truths spans) s₀ count kept) {h : ℕ} (inside : h < slots) where
  abbrev T : Truths
  T = truths_of truths spans

  stands : get_or kept h 0 / slot_base ≡ l → Stands ar T s₀ count l (get_or kept h 0 % slot_base)
  stands e = subst (λ (x : ℕ). Stands ar T s₀ count x (get_or kept h 0 % slot_base)) e (k.each h inside (rw e q.label))

  pub kept-hit : get_or kept h 0 / slot_base ≡ l → KeptRan limit ar T (formed_truth ar T l) s₀ count (Ok ((get_or kept h 0 % slot_base), count)) s₀ heads₀ links₀ index kept
  kept-hit e =
      let x = stands e in
      let a = known-again (formed_truth ar T l) (tree s₀ (get_or kept h 0 % slot_base)) (diagrams_of s₀ count) (steady-formed ar T l) x.known (in-room ready.space.holds) in
      let g : Gave (formed_truth ar T l) s₀ count (get_or kept h 0 % slot_base) count s₀ = record { there = x.there; more = omega arith; gives = a; stays = λ j p. refl } in
      record {
        ran = record {
          space = ready.space;
          clean = ready.clean;
          row = λ i n z.
              let y : ◌≡◌ {A = ℕ × ℕ} (get_or kept h 0 % slot_base, count) (i, n) = cc in
              let p : get_or kept h 0 % slot_base ≡ i = ap (λ (y : ℕ × ℕ). y.0) y in
              let r : count ≡ n = ap (λ (y : ℕ × ℕ). y.1) y in
              rw (← p, ← r) g;
          refusal = λ w n z x. let y : ◌≡◌ {A = ℕ} 0 1 = cc in absurd (omega arith);
        };
        keeps = λ i n z.
            let y : ◌≡◌ {A = ℕ × ℕ} (get_or kept h 0 % slot_base, count) (i, n) = cc in
            let r : count ≡ n = ap (λ (y : ℕ × ℕ). y.1) y in
            rw (← r) k;
      }

  module _ {r : Result (ℕ × ℕ) (Refusal × ℕ)} {s heads links index' : List ℕ} (x : Ran limit (formed_truth ar (truths_of truths spans) l) s₀ count r s heads links index') where
    pub kept-stop : {w : Refusal} {n : ℕ} → r ≡ Err (w, n) → KeptRan limit ar T (formed_truth ar T l) s₀ count r s heads links index' kept
    kept-stop {w} {n} e = record {
      ran = x;
      keeps = λ i m z. let a : ◌≡◌ {A = Result (ℕ × ℕ) (Refusal × ℕ)} (Err (w, n)) (Ok (i, m)) = sym e ∙ z in let y : ◌≡◌ {A = ℕ} 0 1 = cc in absurd (omega arith);
    }

    module _ {i n : ℕ} (e : r ≡ Ok (i, n)) where
      gave : Gave (formed_truth ar T l) s₀ count i n s
      gave = x.row i n e

      pub kept_small : i < slot_base
      kept_small = omega (arith, gave.there, (ran-answer e x).space.holds.table.within)

      pub kept-place : h < length kept
      kept-place = omega (arith, k.places)

      pub kept_new : KeptRan limit ar T (formed_truth ar T l) s₀ count (Ok (i, n)) s heads links index' (set kept h (l * slot_base + i))
      kept_new = record { ran = ran-answer e x; keeps = λ j m z. let y : ◌≡◌ {A = ℕ × ℕ} (i, n) (j, m) = cc in let p : n ≡ m = ap (λ (y : ℕ × ℕ). y.1) y in rw (← p) keeps }
        where
          older : Keeps ar T s n kept
          older = keeps-later (formed_truth ar T l) (steady-formed ar T l) gave k

          newest : Stands ar T s n l i
          newest = record { there = gave.there; known = known-now (formed_truth ar T l) (tree s i) (diagrams_of s₀ count) (diagrams_of s n) gave.gives }

          each : (b : ℕ) → b < slots → Cmp b h → is_label ar (slot_label (set kept h (l * slot_base + i)) b) ≡ true
              → Stands ar T s n (slot_label (set kept h (l * slot_base + i)) b) (slot_row (set kept h (l * slot_base + i)) b)
          each b o (below c) z =
              let d : get_or (set kept h (l * slot_base + i)) b 0 ≡ get_or kept b 0 = get_or-set_other kept h b (l * slot_base + i) 0 (λ y. omega arith) in
              subst (λ (v : ℕ). Stands ar T s n (v / slot_base) (v % slot_base)) (sym d) (older.each b o (subst (λ (v : ℕ). is_label ar (v / slot_base) ≡ true) d z))
          each b o (above c) z =
              let d : get_or (set kept h (l * slot_base + i)) b 0 ≡ get_or kept b 0 = get_or-set_other kept h b (l * slot_base + i) 0 (λ y. omega arith) in
              subst (λ (v : ℕ). Stands ar T s n (v / slot_base) (v % slot_base)) (sym d) (older.each b o (subst (λ (v : ℕ). is_label ar (v / slot_base) ≡ true) d z))
          each b o (equal c) z =
              let d : get_or (set kept h (l * slot_base + i)) b 0 ≡ l * slot_base + i = rw c (get_or-set_same kept h (l * slot_base + i) 0 kept-place) in
              let u : l ≡ (l * slot_base + i) / slot_base = omega (arith, kept_small) in
              let v : i ≡ (l * slot_base + i) % slot_base = omega (arith, kept_small) in
              subst (λ (w : ℕ). Stands ar T s n (w / slot_base) (w % slot_base)) (sym d)
              (subst (λ (w : ℕ). Stands ar T s n w ((l * slot_base + i) % slot_base)) u (subst (λ (w : ℕ). Stands ar T s n l w) v newest))

          keeps : Keeps ar T s n (set kept h (l * slot_base + i))
          keeps = record { places = length-set kept h (l * slot_base + i) ∙ k.places; each = λ b o z. each b o (cmp b h) z }

-- `regressed_row`: T formed before its row step adds nothing in it
step-formed : (m : Run Diagram) (t f : Diagram) → bind (bind m form) (λ x. row_step x t f) ≡ bind m (λ x. row_step x t f)
unfolding row_step
step-formed m t f = fun_ext (λ rs. whole (m rs))
  where
    again : (d : Diagram) (rs : List Diagram) (o : Outcome (Diagram × List Diagram)) → form d rs ≡ o → and_then o (λ r. row_step r.0 t f r.1) ≡ row_step d t f rs
    again d rs (refused w) e = rw e refl
    again d rs (ok r) e =
        let g = form-forms d rs r.0 r.1 e in
        let q : r.0 ≡ d = g.is in
        let z : form d r.1 ≡ ok (d, r.1) = rw g.rows_are (form-old d _ (onto-mem d rs) g.room) in
        let y : form d rs ≡ ok (d, r.1) = e ∙ ap (λ (x : Diagram). ok (x, r.1)) q in
        rw (q, z, y) refl

    whole : (o : Outcome (Diagram × List Diagram)) → and_then (and_then o (λ r. form r.0 r.1)) (λ r. row_step r.0 t f r.1) ≡ and_then o (λ r. row_step r.0 t f r.1)
    whole (ok r) = again r.0 r.1 (form r.0 r.1) refl
    whole (refused w) = refl

module _ {ar truths spans : List ℕ} (lent : Lent ar truths spans) {count : ℕ} {task : Task} (t : Tasked ar count task) {plan index s₀ heads₀ links₀ : List ℕ} {limit : ℕ}
    (ready : Ready plan index limit s₀ heads₀ links₀ count) {kept : List ℕ} (k : Keeps ar (truths_of truths spans) s₀ count kept) where
  pub row-leaf-kept : {v : ℕ} {f : Option (ℕ × ℕ)} {r : Result (ℕ × ℕ) (Refusal × ℕ)} {s heads links : List ℕ} → task ≡ Leaf v
      → Formation (leaf v) (add (leaf v) (diagrams_of s₀ count)) f s heads links → r ≡ told_as f
      → KeptRan limit ar (truths_of truths spans) (task_run (truth_at ar (truths_of truths spans)) s₀ task) s₀ count r s heads links index kept
  row-leaf-kept {v} e z q = kept-ran (task_run (truth_at ar (truths_of truths spans)) s₀ task) (rw e (steady-form (leaf v))) (leaf-told (truth_at ar (truths_of truths spans)) ready t e z q) k

  module _ {l high low : ℕ} (e : task ≡ Branch l high low) where
    module _ {r₁ : Result (ℕ × ℕ) (Refusal × ℕ)} {s₁ heads₁ links₁ index₁ kept₁ : List ℕ}
        (x : KeptRan limit ar (truths_of truths spans) (formed_truth ar (truths_of truths spans) l) s₀ count r₁ s₁ heads₁ links₁ index₁ kept₁) where
      from-bind : {r : Result (ℕ × ℕ) (Refusal × ℕ)} {s heads links index' : List ℕ}
          → Ran limit (bind (formed_truth ar (truths_of truths spans) l) (λ y. row_step y (tree s₀ high) (tree s₀ low))) s₀ count r s heads links index'
          → Ran limit (task_run (truth_at ar (truths_of truths spans)) s₀ task) s₀ count r s heads links index'
      from-bind z = rw e (ran-cast (step-formed (truth_at ar (truths_of truths spans) l) (tree s₀ high) (tree s₀ low)) z)

      pub row-stop : {w : Refusal} {n : ℕ} → r₁ ≡ Err (w, n)
          → KeptRan limit ar (truths_of truths spans) (task_run (truth_at ar (truths_of truths spans)) s₀ task) s₀ count r₁ s₁ heads₁ links₁ index₁ kept₁
      row-stop {w} {n} p = record {
        ran = from-bind (ran-answer (sym p) (ran-stop (formed_truth ar (truths_of truths spans) l) (λ y. row_step y (tree s₀ high) (tree s₀ low)) (ran-answer p x.ran)));
        keeps = λ i m z. let a : ◌≡◌ {A = Result (ℕ × ℕ) (Refusal × ℕ)} (Err (w, n)) (Ok (i, m)) = sym p ∙ z in let y : ◌≡◌ {A = ℕ} 0 1 = cc in absurd (omega arith);
      }

      module _ {test n : ℕ} (p : r₁ ≡ Ok (test, n)) where
        gave₁ : Gave (formed_truth ar (truths_of truths spans) l) s₀ count test n s₁
        gave₁ = x.ran.row test n p

        pub row-ready : {plan₁ : List ℕ} → length plan₁ ≡ length plan → Ready plan₁ index₁ limit s₁ heads₁ links₁ n
        row-ready o = ready_on ready x.ran o p

        pub row-three : Three n test high low
        row-three = record {
          test-there = gave₁.there;
          high-there = omega (arith, gave₁.more, (t.label l high low e).1);
          low-there = omega (arith, gave₁.more, (t.label l high low e).2);
        }

        pub row_done : {r : Result (ℕ × ℕ) (Refusal × ℕ)} {s heads links index' : List ℕ} → Ran limit (row_step (tree s₁ test) (tree s₁ high) (tree s₁ low)) s₁ n r s heads links index'
            → KeptRan limit ar (truths_of truths spans) (task_run (truth_at ar (truths_of truths spans)) s₀ task) s₀ count r s heads links index' kept₁
        row_done {r} {s} {heads} {links} {index'} z = record {
          ran = from-bind (ran-bind (formed_truth ar (truths_of truths spans) l) (λ y. row_step y (tree s₀ high) (tree s₀ low)) gave₁
              (ran-cast (λ i. row_step (tree s₁ test) (gave₁.stays high (t.label l high low e).1 i) (gave₁.stays low (t.label l high low e).2 i)) z));
          keeps = λ i m o. keeps-later (row_step (tree s₁ test) (tree s₁ high) (tree s₁ low)) (steady-step (tree s₁ test) (tree s₁ high) (tree s₁ low)) (z.row i m o) (x.keeps test n p);
        }
