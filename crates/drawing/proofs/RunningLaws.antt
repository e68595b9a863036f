-- Laws of the loop over the operations.
use mathlib.Core.Path.{◌≡◌, refl, ap, subst, ◌∙◌}
use mathlib.Core.List.{List, []}
use Prim.Native.Nat.{ℕ, zero, suc, ◌+◌, ◌/◌, ◌-◌, ◌≤◌, ◌<◌}
use native.Mathlib.Omega.{arith}
use native.Mathlib.Numerals.{add-one}
use lib.ListN.{length, get_or, replicate, length-replicate}
use Rattle.refusal.specs.declared.Refusal.{Refusal}
use Rattle.refusal.specs.declared.Refusal.TheVariants.{Form}
use Rattle.diagram.specs.Diagram.{Diagram}
use Rattle.diagram.specs.Validity.{tree}
use Rattle.plan.specs.Plan.{Clean}
use Rattle.store.specs.Space.{diagrams_of}
use Rattle.refusal.specs.Outcome.{Outcome, ok, refused, and_then}
use Rattle.regression.specs.Calls.{Run}
use Rattle.row_steps.specs.Running.{Space, Ready, Gave, Final, Ran}
use Rattle.build.specs.Machine.{Machine, most_tests, operation, operations, ending, build}
use Rattle.drawing.specs.Stacks.{ops_from, whole_ops, tests_of, results_of, machine_of, stack_words, Stacked, rows_then, Moves}
use Rattle.reader.specs.OperationWords.{op_at}
use Rattle.std.specs.Prelude.{Err, Ok, Result}

abbrev empty : Machine
empty = record { tests = []; results = []; formed = [] }

-- k operations are done
pub record Running (ops stack s : List ℕ) (t d count k : ℕ) : Type 0 where
  pub within : k ≤ length ops / 2
  pub rest : operations (whole_ops ops) empty ≡ operations (ops_from ops k (length ops / 2 - k)) (machine_of ops stack s t d count)
  pub stacked : Stacked ops stack t d count

pub running-start : (ops s : List ℕ) (n : ℕ) → stack_words ≤ n → Running ops (replicate n 0) s 0 0 0 0
unfolding whole_ops tests_of results_of diagrams_of
running-start ops s n h =
    let e : length ops / 2 - 0 ≡ length ops / 2 = omega arith in
    record {
      within = omega arith;
      rest = rw e;
      stacked = record {
        words = rw length-replicate h;
        few-tests = omega arith;
        few-results = omega arith;
        places = λ j l. absurd (omega arith);
        there = λ j l. absurd (omega arith);
      };
    }

-- the operations from k on
ops-next : (ops : List ℕ) (k n left : ℕ) (m : Machine) → n ≡ suc left → operations (ops_from ops k n) m ≡ and_then (operation (op_at ops k) m) (operations (ops_from ops (suc k) left))
unfolding ops_from operations
ops-next ops k n left m e = rw e

ops-none : (ops : List ℕ) (k n : ℕ) (m : Machine) → n ≡ 0 → operations (ops_from ops k n) m ≡ ok m
unfolding ops_from operations
ops-none ops k n m e = rw e

-- the whole, from what the machine comes to
build-is : (ops s₀ : List ℕ) {o : Outcome Machine} → operations (whole_ops ops) empty ≡ o → build (whole_ops ops) (diagrams_of s₀ 0) ≡ and_then o ending
unfolding build diagrams_of
build-is ops s₀ e = ap (λ (o : Outcome Machine). and_then o ending) e

-- what is left at the end
lone-open : (ops stack s : List ℕ) (u t d count : ℕ) → t ≡ suc u → ending (machine_of ops stack s t d count) ≡ refused Form
unfolding tests_of
lone-open ops stack s u t d count e = rw e

lone-not : (ops stack s : List ℕ) (d count : ℕ) → (d ≡ 1 → ⊥) → ending (machine_of ops stack s 0 d count) ≡ refused Form
unfolding tests_of results_of
lone-not ops stack s zero count n = refl
lone-not ops stack s (suc zero) count n = absurd (n refl)
lone-not ops stack s (suc (suc d)) count n = refl

lone-one : (ops stack s : List ℕ) (count : ℕ) → ending (machine_of ops stack s 0 1 count) ≡ ok (tree s (get_or stack most_tests 0), diagrams_of s count)
unfolding tests_of results_of
lone-one ops stack s count = refl

ran-refused : {limit : ℕ} {m : Run Diagram} {s₀ s heads links index : List ℕ} {w : Refusal} {c : ℕ} → Space s heads links c → Clean index
    → (Final limit w → m (diagrams_of s₀ 0) ≡ refused w) → Ran limit m s₀ 0 (Err (w, c)) s heads links index
ran-refused {limit} {m = m} {s₀ = s₀} {w = w} {c = c} z k e = record {
  space = z;
  clean = k;
  row = λ i n q. let y : ◌≡◌ {A = ℕ} 0 1 = cc in absurd (omega arith);
  refusal = λ v n q.
      let z : ◌≡◌ {A = Refusal × ℕ} (w, c) (v, n) = cc in
      let y = ap (λ (p : Refusal × ℕ). p.0) z in
      subst (λ (u : Refusal). Final limit u → m (diagrams_of s₀ 0) ≡ refused u) y e;
}

module _ {ops stack s : List ℕ} {t d count k : ℕ} (g : Running ops stack s t d count k) where
  module _ (h : k < length ops / 2) {limit : ℕ} {r : Result (ℕ × ℕ × ℕ) (Refusal × ℕ)} {stack' s' heads' links' index' : List ℕ}
      (x : Moves limit (op_at ops k) (machine_of ops stack s t d count) ops r stack' s' heads' links' index') where
    next : operations (whole_ops ops) empty
        ≡ and_then (operation (op_at ops k) (machine_of ops stack s t d count)) (operations (ops_from ops (suc k) (length ops / 2 - (k + 1))))
    next = g.rest ∙ ops-next ops k (length ops / 2 - k) (length ops / 2 - (k + 1)) (machine_of ops stack s t d count) (omega arith)

    pub running-on : {t' d' c' : ℕ} → r ≡ Ok (t', d', c') → Running ops stack' s' t' d' c' (k + 1)
    running-on {t'} {d'} {c'} e = record {
      within = omega arith;
      rest = rw (add-one k) (next ∙ ap (λ (o : Outcome Machine). and_then o (operations (ops_from ops (suc k) (length ops / 2 - (k + 1))))) (x.to t' d' c' e) ∙ left);
      stacked = x.stacked t' d' c' e;
    }
      where
        left : operations (ops_from ops (suc k) (length ops / 2 - (k + 1))) (machine_of ops stack' s' t' d' c')
            ≡ operations (ops_from ops (suc k) (length ops / 2 - suc k)) (machine_of ops stack' s' t' d' c')
        left = ap (λ (j : ℕ). operations (ops_from ops (suc k) (length ops / 2 - j)) (machine_of ops stack' s' t' d' c')) (add-one k)

    pub running-stop : (s₀ : List ℕ) {w : Refusal} {c : ℕ} → r ≡ Err (w, c) → Ran limit (build (whole_ops ops)) s₀ 0 (Err (w, c)) s' heads' links' index'
    running-stop s₀ {w} {c} e =
        let z : Space s' heads' links' c = subst (λ (y : Result (ℕ × ℕ × ℕ) (Refusal × ℕ)). Space s' heads' links' (rows_then y)) e x.space in
        ran-refused z x.clean
        (λ f. build-is ops s₀ (next ∙ ap (λ (o : Outcome Machine). and_then o (operations (ops_from ops (suc k) (length ops / 2 - (k + 1))))) (x.refusal w c e f)))

    pub running-ready : {plan plan' index heads links : List ℕ} → Ready plan index limit s heads links count → length plan' ≡ length plan
        → {t' d' c' : ℕ} → r ≡ Ok (t', d', c') → Ready plan' index' limit s' heads' links' c'
    running-ready a l {t'} {d'} {c'} e = record {
      space = subst (λ (y : Result (ℕ × ℕ × ℕ) (Refusal × ℕ)). Space s' heads' links' (rows_then y)) e x.space;
      clean = x.clean;
      words = omega (arith, a.words);
      most = a.most;
    }

  -- all operations are done
  module _ (h : length ops / 2 ≤ k) {plan index : List ℕ} {limit : ℕ} {heads links : List ℕ} (ready : Ready plan index limit s heads links count) (s₀ : List ℕ) where
    done : operations (whole_ops ops) empty ≡ ok (machine_of ops stack s t d count)
    done = g.rest ∙ ops-none ops k (length ops / 2 - k) (machine_of ops stack s t d count) (omega arith)

    pub running-open : (t ≡ 0 → ⊥) → Ran limit (build (whole_ops ops)) s₀ 0 (Err (Form, count)) s heads links index
    running-open n = ran-refused ready.space ready.clean (λ x. build-is ops s₀ done ∙ lone-open ops stack s (t - 1) t d count (omega arith))

    module _ (e : t ≡ 0) where
      pub running-many : (d ≡ 1 → ⊥) → Ran limit (build (whole_ops ops)) s₀ 0 (Err (Form, count)) s heads links index
      running-many n =
          ran-refused ready.space ready.clean
          (λ x. build-is ops s₀ done ∙ ap (λ (u : ℕ). ending (machine_of ops stack s u d count)) e ∙ lone-not ops stack s d count n)

      pub running-end : d ≡ 1 → Ran limit (build (whole_ops ops)) s₀ 0 (Ok ((get_or stack most_tests 0), count)) s heads links index
      running-end f = record {
        space = ready.space;
        clean = ready.clean;
        row = λ i n q.
            let p : ◌≡◌ {A = ℕ × ℕ} (get_or stack most_tests 0, count) (i, n) = cc in
            let a = ap (λ (p : ℕ × ℕ). p.0) p in
            let b = ap (λ (p : ℕ × ℕ). p.1) p in
            subst (λ (y : ℕ). Gave (build (whole_ops ops)) s₀ 0 i y s) b (subst (λ (y : ℕ). Gave (build (whole_ops ops)) s₀ 0 y count s) a all);
        refusal = λ w n q x. let y : ◌≡◌ {A = ℕ} 0 1 = cc in absurd (omega arith);
      }
        where
          all : Gave (build (whole_ops ops)) s₀ 0 (get_or stack most_tests 0) count s
          all = record {
            there = g.stacked.there 0 (omega arith);
            more = omega arith;
            gives = build-is ops s₀ done ∙ ap (λ (u : ℕ). ending (machine_of ops stack s u d count)) e
                ∙ ap (λ (u : ℕ). ending (machine_of ops stack s 0 u count)) f ∙ lone-one ops stack s count;
            stays = λ j l. absurd (omega arith);
          }
