-- Laws of the machine in lent words: one operation after another.
use mathlib.Core.Path.{◌≡◌, refl, sym, ap, subst, ◌∙◌}
use mathlib.Core.Bool.{cond}
use mathlib.Core.List.{List, ◌∷◌}
use Prim.Native.Nat.{ℕ, zero, suc, ◌+◌, ◌*◌, ◌-◌, ◌≤◌, ◌<◌}
use native.Mathlib.Omega.{arith}
use native.Mathlib.Numerals.{add-one}
use lib.ListN.{length, get_or, set, length-set}
use lib.Seq.{get_or-set_same, get_or-set_other}
use lib.Dec.{eqb}
use borrow.Author.Tests.{lt-ltb, le-ltb, eq-eqb, ne_eqb}
use Rattle.basics.specs.Tests.{Cmp, cmp, below, equal, above}
use Rattle.refusal.specs.declared.Refusal.{Refusal}
use Rattle.refusal.specs.declared.Refusal.TheVariants.{Form, Space as NoSpace}
use Rattle.label.specs.Limits.{leaf_mark}
use Rattle.label.specs.declared.Label.{Label}
use Rattle.label.specs.declared.Test.{Test}
use Rattle.label.specs.declared.Test.TheVariants.{Always, Is}
use Rattle.diagram.specs.Sizes.{space_rows}
use Rattle.diagram.specs.Diagram.{Diagram, leaf}
use Rattle.diagram.specs.Validity.{tree}
use Rattle.plan.specs.Plan.{Clean}
use Rattle.apply.specs.Formed.{add}
use Rattle.store.specs.Space.{diagrams_of, Formation}
use Rattle.row_steps.specs.RunLaws.{formed-ran, full-ran, leaf-onto, row-known, full-known}
use Rattle.refusal.specs.Outcome.{ok, refused}
use Rattle.regression.specs.Calls.{Run, form}
use Rattle.regression.specs.Step.{test_diagram, row_step}
use Rattle.row_steps.specs.Running.{Space, Ready, Two, Testable, Gave, Final, Ran, count_then}
use Rattle.build.specs.Machine.{Machine, most_tests, most_results, given, closing, operation}
use Rattle.drawing.specs.Stacks.{Ops, test_at, tests_of, results_of, machine_of, Stacked, Moves}
use Rattle.reading.specs.Operations.{Op}
use Rattle.reading.specs.Operations.Op.{ask, leaf_op, step}
use Rattle.reader.specs.OperationWords.{op_at, op_of}
use Rattle.std.specs.Prelude.{Err, None, Ok, Option, Result, Some}

-- `test_at`
pub test-is : (ops : List ℕ) (k : ℕ) → get_or ops (k * 2) 0 ≡ 1 → Is (record { packed = get_or ops (k * 2 + 1) 0 }) ≡ test_at ops k
unfolding test_at
test-is ops k e = rw (eq-eqb (get_or ops (k * 2) 0) 1 e)

pub test-always : (ops : List ℕ) (k : ℕ) → (get_or ops (k * 2) 0 ≡ 1 → ⊥) → Always ≡ test_at ops k
unfolding test_at
test-always ops k e = rw (ne_eqb (get_or ops (k * 2) 0) 1 e)

-- lengths of the stacks
length-tests : (ops stack : List ℕ) (t : ℕ) → length (tests_of ops stack t) ≡ t
unfolding tests_of
length-tests ops stack zero = refl
length-tests ops stack (suc t) = ap suc (length-tests ops stack t)

length-results : (s stack : List ℕ) (d : ℕ) → length (results_of s stack d) ≡ d
unfolding results_of
length-results s stack zero = refl
length-results s stack (suc d) = ap suc (length-results s stack d)

-- words stored above leave what is below
tests-set : (ops stack : List ℕ) (i v t : ℕ) → t ≤ i → tests_of ops (set stack i v) t ≡ tests_of ops stack t
unfolding tests_of
tests-set ops stack i v zero h = refl
tests-set ops stack i v (suc t) h =
    let e : get_or (set stack i v) t 0 ≡ get_or stack t 0 = get_or-set_other stack i t v 0 (λ z. omega arith) in
    let p = tests-set ops stack i v t (omega arith) in
    λ j. test_at ops (e j) ∷ p j

results_set : (s s' stack : List ℕ) (i v d : ℕ) → most_tests + d ≤ i → ((j : ℕ) → j < d → tree s' (get_or stack (most_tests + j) 0) ≡ tree s (get_or stack (most_tests + j) 0))
    → results_of s' (set stack i v) d ≡ results_of s stack d
unfolding results_of
results_set s s' stack i v zero h g = refl
results_set s s' stack i v (suc d) h g =
    let e : get_or (set stack i v) (most_tests + d) 0 ≡ get_or stack (most_tests + d) 0 = get_or-set_other stack i (most_tests + d) v 0 (λ z. omega arith) in
    let a : tree s' (get_or (set stack i v) (most_tests + d) 0) ≡ tree s (get_or stack (most_tests + d) 0) = ap (tree s') e ∙ g d (omega arith) in
    let p = results_set s s' stack i v d (omega arith) (λ j l. g j (omega arith)) in
    λ j. a j ∷ p j

-- a result that a step gives, put behind the first d' results, where the first t' tests stay
module _ {ops stack s : List ℕ} {t d count : ℕ} (k : Stacked ops stack t d count) (t' d' : ℕ) (few : t' ≤ t) (less : d' ≤ d) (room : d' < most_results)
    (run : Run Diagram) {i c : ℕ} {s' : List ℕ} (g : Gave run s count i c s') where
  fits : most_tests + d' < length stack
  fits = omega (arith, k.words)

  pub pushed : given (tests_of ops stack t') (results_of s stack d') (run (diagrams_of s count)) ≡ ok (machine_of ops (set stack (most_tests + d') i) s' t' (d' + 1) c)
  unfolding results_of
  pushed =
      let a : tests_of ops stack t' ≡ tests_of ops (set stack (most_tests + d') i) t' = sym (tests-set ops stack (most_tests + d') i t' (omega (arith, k.few-tests))) in
      let o : results_of s stack d' ≡ results_of s' (set stack (most_tests + d') i) d' =
      sym (results_set s s' stack (most_tests + d') i d' (omega arith) (λ j l. g.stays (get_or stack (most_tests + j) 0) (k.there j (omega arith)))) in
      let e : i ≡ get_or (set stack (most_tests + d') i) (most_tests + d') 0 = sym (get_or-set_same stack (most_tests + d') i 0 fits) in
      rw (g.gives, add-one d') (λ j. ok (record { tests = a j; results = tree s' (e j) ∷ o j; formed = diagrams_of s' c }))

  pub pushed-stacked : Stacked ops (set stack (most_tests + d') i) t' (d' + 1) c
  pushed-stacked = record {
    words = omega (arith, k.words, length-set stack (most_tests + d') i);
    few-tests = omega (arith, k.few-tests);
    few-results = omega arith;
    places = λ j l. rw (get_or-set_other stack (most_tests + d') j i 0 (λ z. omega (arith, k.few-tests))) (k.places j (omega arith));
    there = λ j l. there j l (cmp j d');
  }
    where
      there : (j : ℕ) → j < d' + 1 → Cmp j d' → get_or (set stack (most_tests + d') i) (most_tests + j) 0 < c
      there j l (below q) =
          rw (get_or-set_other stack (most_tests + d') (most_tests + j) i 0 (λ z. omega arith)) (let a = k.there j (omega arith) in omega (arith, g.more))
      there j l (equal q) = rw (q, get_or-set_same stack (most_tests + d') i 0 fits) g.there
      there j l (above q) = absurd (omega arith)

abbrev packed_of : Test → ℕ
packed_of Always = 0
packed_of (Is l) = l.packed

-- a test that may be stepped
testable : {ops : List ℕ} → Ops ops → (k : ℕ) → k * 2 + 2 ≤ length ops → Testable (test_at ops k)
testable {ops} o k h = record { label = λ l q. go l (cmp (get_or ops (k * 2) 0) 1) q }
  where
    other : (l : Label) → (get_or ops (k * 2) 0 ≡ 1 → ⊥) → test_at ops k ≡ Is l → l.packed < leaf_mark
    other l n q = let e : Always ≡ Is l = test-always ops k n ∙ q in let z : ◌≡◌ {A = ℕ} 0 1 = cc in absurd (omega arith)

    go : (l : Label) → Cmp (get_or ops (k * 2) 0) 1 → test_at ops k ≡ Is l → l.packed < leaf_mark
    go l (below c) q = other l (λ z. omega arith) q
    go l (above c) q = other l (λ z. omega arith) q
    go l (equal c) q =
        let e : Is (record { packed = get_or ops (k * 2 + 1) 0 }) ≡ Is l = test-is ops k c ∙ q in
        let f : get_or ops (k * 2 + 1) 0 ≡ l.packed = ap packed_of e in
        rw (← f) (o.labels k h c)

-- a step is the row step of the latest test and the two latest results
step_is : (ops stack s : List ℕ) (tests results count t d low : ℕ) → tests ≡ suc t → results ≡ suc (suc d) → low ≡ most_tests + suc d
    → operation step (machine_of ops stack s tests results count)
    ≡ given (tests_of ops stack t) (results_of s stack d)
    (row_step (test_diagram (test_at ops (get_or stack t 0))) (tree s (get_or stack (most_tests + d) 0)) (tree s (get_or stack low 0)) (diagrams_of s count))
unfolding operation closing tests_of results_of
step_is ops stack s tests results count t d low e f g = rw (e, f, g)

untested : (ops stack s : List ℕ) (results count : ℕ) → operation step (machine_of ops stack s 0 results count) ≡ refused Form
unfolding operation closing tests_of
untested ops stack s results count = refl

few-step : (ops stack s : List ℕ) (t results count : ℕ) → results < 2 → operation step (machine_of ops stack s (suc t) results count) ≡ refused Form
unfolding operation closing tests_of results_of
few-step ops stack s t zero count h = refl
few-step ops stack s t (suc zero) count h = refl
few-step ops stack s t (suc (suc d)) count h = absurd (omega arith)

-- an operation refused, the space as it stands
stays-refused : {limit : ℕ} {o : Op} {m : Machine} {ops stack s heads links index : List ℕ} {w : Refusal} {count : ℕ} → Space s heads links count → Clean index
    → (Final limit w → operation o m ≡ refused w) → Moves limit o m ops (Err (w, count)) stack s heads links index
stays-refused {limit} {o} {m} {w = w} {count = count} z c e = record {
  space = z;
  clean = c;
  to = λ t d n q. let y : ◌≡◌ {A = ℕ} 0 1 = cc in absurd (omega arith);
  stacked = λ t d n q. let y : ◌≡◌ {A = ℕ} 0 1 = cc in absurd (omega arith);
  refusal = λ v n q.
      let z : ◌≡◌ {A = Refusal × ℕ} (w, count) (v, n) = cc in
      let y : w ≡ v = ap (λ (z : Refusal × ℕ). z.0) z in
      subst (λ (u : Refusal). Final limit u → operation o m ≡ refused u) y e;
}

-- an operation that went
went : {limit : ℕ} {o : Op} {m : Machine} {ops stack s heads links index : List ℕ} {t d c : ℕ} → Space s heads links c → Clean index
    → operation o m ≡ ok (machine_of ops stack s t d c) → Stacked ops stack t d c → Moves limit o m ops (Ok (t, d, c)) stack s heads links index
went {limit} {o} {m} {ops} {stack} {s} {t = t} {d = d} {c = c} z k e h = record {
  space = z;
  clean = k;
  to = λ t' d' c' q.
      let w : ◌≡◌ {A = ℕ × ℕ × ℕ} (t, d, c) (t', d', c') = cc in
      let a : t ≡ t' = ap (λ (w : ℕ × ℕ × ℕ). w.0) w in
      let b : d ≡ d' = ap (λ (w : ℕ × ℕ × ℕ). w.1) w in
      let n : c ≡ c' = ap (λ (w : ℕ × ℕ × ℕ). w.2) w in
      let x : operation o m ≡ ok (machine_of ops stack s t' d c) = subst (λ (x : ℕ). operation o m ≡ ok (machine_of ops stack s x d c)) a e in
      let y : operation o m ≡ ok (machine_of ops stack s t' d' c) = subst (λ (x : ℕ). operation o m ≡ ok (machine_of ops stack s t' x c)) b x in
      subst (λ (x : ℕ). operation o m ≡ ok (machine_of ops stack s t' d' x)) n y;
  stacked = λ t' d' c' q.
      let w : ◌≡◌ {A = ℕ × ℕ × ℕ} (t, d, c) (t', d', c') = cc in
      let a : t ≡ t' = ap (λ (w : ℕ × ℕ × ℕ). w.0) w in
      let b : d ≡ d' = ap (λ (w : ℕ × ℕ × ℕ). w.1) w in
      let n : c ≡ c' = ap (λ (w : ℕ × ℕ × ℕ). w.2) w in
      subst (λ (x : ℕ). Stacked ops stack t' d' x) n (subst (λ (x : ℕ). Stacked ops stack t' x c) b (subst (λ (x : ℕ). Stacked ops stack x d c) a h));
  refusal = λ w n q x. let y : ◌≡◌ {A = ℕ} 0 1 = cc in absurd (omega arith);
}

-- `close`
module _ {ops stack plan index : List ℕ} {limit : ℕ} {s heads links : List ℕ} {tests results count : ℕ} (o : Ops ops) (k : Stacked ops stack tests results count)
    (ready : Ready plan index limit s heads links count) where
  pub close-untested : tests ≡ 0 → Moves limit step (machine_of ops stack s tests results count) ops (Err (Form, count)) stack s heads links index
  close-untested e =
      stays-refused ready.space ready.clean (λ x. ap (λ (t : ℕ). operation step (machine_of ops stack s t results count)) e ∙ untested ops stack s results count)

  pub close-few : (tests ≡ 0 → ⊥) → results < 2 → Moves limit step (machine_of ops stack s tests results count) ops (Err (Form, count)) stack s heads links index
  close-few n h =
      let e : tests ≡ suc (tests - 1) = omega arith in
      stays-refused ready.space ready.clean
      (λ x. ap (λ (t : ℕ). operation step (machine_of ops stack s t results count)) e ∙ few-step ops stack s (tests - 1) results count h)

  module _ (n : tests ≡ 0 → ⊥) where
    pub close-place : get_or stack (tests - 1) 0 * 2 + 2 ≤ length ops
    close-place = k.places (tests - 1) (omega arith)

    pub close-testable : {test : Test} → test ≡ test_at ops (get_or stack (tests - 1) 0) → Testable test
    close-testable q = rw q (testable o (get_or stack (tests - 1) 0) close-place)

    module _ (m : 2 ≤ results) where
      pub close-two : Two count (get_or stack (most_tests + (results - 2)) 0) (get_or stack (most_tests + (results - 2) + 1) 0)
      close-two =
          let e : most_tests + (results - 2) + 1 ≡ most_tests + (results - 1) = omega arith in
          record { first = k.there (results - 2) (omega arith); second = rw e (k.there (results - 1) (omega arith)) }

      module _ {test : Test} (q : test ≡ test_at ops (get_or stack (tests - 1) 0)) {r : Result (ℕ × ℕ) (Refusal × ℕ)} {s' heads' links' index' : List ℕ}
          (x : Ran limit (row_step (test_diagram test) (tree s (get_or stack (most_tests + (results - 2)) 0)) (tree s (get_or stack (most_tests + (results - 2) + 1) 0))) s count r
          s' heads' links' index') where
        abbrev run : Run Diagram
        run = row_step (test_diagram test) (tree s (get_or stack (most_tests + (results - 2)) 0)) (tree s (get_or stack (most_tests + (results - 2) + 1) 0))

        close-is : operation step (machine_of ops stack s tests results count) ≡ given (tests_of ops stack (tests - 1)) (results_of s stack (results - 2)) (run (diagrams_of s count))
        close-is =
            step_is ops stack s tests results count (tests - 1) (results - 2) (most_tests + (results - 2) + 1) (omega arith) (omega arith) (omega arith)
            ∙ ap (λ (t : Test). given (tests_of ops stack (tests - 1)) (results_of s stack (results - 2))
            (row_step (test_diagram t) (tree s (get_or stack (most_tests + (results - 2)) 0)) (tree s (get_or stack (most_tests + (results - 2) + 1) 0)) (diagrams_of s count))) (sym q)

        pub close_row : {i c : ℕ} → r ≡ Ok (i, c)
            → Moves limit step (machine_of ops stack s tests results count) ops (Ok ((tests - 1), (results - 1), c)) (set stack (most_tests + (results - 2)) i) s' heads' links' index'
        close_row {i} {c} e =
            let g : Gave run s count i c s' = x.row i c e in
            let z : Space s' heads' links' c = subst (λ (y : Result (ℕ × ℕ) (Refusal × ℕ)). Space s' heads' links' (count_then y)) e x.space in
            let f : results - 2 + 1 ≡ results - 1 = omega arith in
            subst (λ (y : ℕ). Moves limit step (machine_of ops stack s tests results count) ops (Ok ((tests - 1), y, c)) (set stack (most_tests + (results - 2)) i) s' heads' links' index') f
            (went z x.clean (close-is ∙ pushed k (tests - 1) (results - 2) (omega arith) (omega arith) (omega (arith, k.few-results)) run g)
            (pushed-stacked k (tests - 1) (results - 2) (omega arith) (omega arith) (omega (arith, k.few-results)) run g))

        pub close-refused : {w : Refusal} {c : ℕ} → r ≡ Err (w, c)
            → Moves limit step (machine_of ops stack s tests results count) ops (Err (w, c)) stack s' heads' links' index'
        close-refused {w} {c} e =
            let z : Space s' heads' links' c = subst (λ (y : Result (ℕ × ℕ) (Refusal × ℕ)). Space s' heads' links' (count_then y)) e x.space in
            stays-refused z x.clean (λ f. close-is ∙ ap (given (tests_of ops stack (tests - 1)) (results_of s stack (results - 2))) (x.refusal w c e f))

-- `run_op`: which operation it is
op-leaf : (ops : List ℕ) (k : ℕ) → get_or ops (k * 2) 0 ≡ 0 → op_at ops k ≡ leaf_op (get_or ops (k * 2 + 1) 0)
unfolding op_at
op-leaf ops k e = rw e

step_of : (kind v : ℕ) → 3 ≤ kind → op_of kind v ≡ step
step_of zero v h = absurd (omega arith)
step_of (suc zero) v h = absurd (omega arith)
step_of (suc (suc zero)) v h = absurd (omega arith)
step_of (suc (suc (suc k))) v h = refl

op-step : (ops : List ℕ) (k : ℕ) → 3 ≤ get_or ops (k * 2) 0 → op_at ops k ≡ step
unfolding op_at
op-step ops k h = step_of (get_or ops (k * 2) 0) (get_or ops (k * 2 + 1) 0) h

ask-of : (kind v : ℕ) → (kind ≡ 0 → ⊥) → kind < 3 → op_of kind v ≡ ask (cond (eqb kind 1) (Is (record { packed = v })) Always)
ask-of zero v n h = absurd (n refl)
ask-of (suc zero) v n h = refl
ask-of (suc (suc zero)) v n h = refl
ask-of (suc (suc (suc k))) v n h = absurd (omega arith)

op-ask : (ops : List ℕ) (k : ℕ) → (get_or ops (k * 2) 0 ≡ 0 → ⊥) → get_or ops (k * 2) 0 < 3 → op_at ops k ≡ ask (test_at ops k)
unfolding op_at test_at
op-ask ops k n h = ask-of (get_or ops (k * 2) 0) (get_or ops (k * 2 + 1) 0) n h

leaf-is : (ops stack s : List ℕ) (v t d count : ℕ) → d < most_results
    → operation (leaf_op v) (machine_of ops stack s t d count) ≡ given (tests_of ops stack t) (results_of s stack d) (form (leaf v) (diagrams_of s count))
unfolding operation
leaf-is ops stack s v t d count h = rw (length-results s stack d, lt-ltb d most_results h)

many-results : (ops stack s : List ℕ) (v t d count : ℕ) → most_results ≤ d → operation (leaf_op v) (machine_of ops stack s t d count) ≡ refused Form
unfolding operation
many-results ops stack s v t d count h = rw (length-results s stack d, le-ltb d most_results h)

many-tests : (ops stack s : List ℕ) (x : Test) (t d count : ℕ) → most_tests ≤ t → operation (ask x) (machine_of ops stack s t d count) ≡ refused Form
unfolding operation
many-tests ops stack s x t d count h = rw (length-tests ops stack t, le-ltb t most_tests h)

-- a place stored on the stack of tests leaves the results
results-low : (s stack : List ℕ) (i v d : ℕ) → i < most_tests → results_of s (set stack i v) d ≡ results_of s stack d
unfolding results_of
results-low s stack i v zero h = refl
results-low s stack i v (suc d) h =
    let e : get_or (set stack i v) (most_tests + d) 0 ≡ get_or stack (most_tests + d) 0 = get_or-set_other stack i (most_tests + d) v 0 (λ z. omega arith) in
    let p = results-low s stack i v d h in
    λ j. tree s (e j) ∷ p j

ask-is : (ops stack s : List ℕ) (k t d count : ℕ) → t < most_tests → t < length stack
    → operation (ask (test_at ops k)) (machine_of ops stack s t d count) ≡ ok (machine_of ops (set stack t k) s (t + 1) d count)
unfolding operation tests_of
ask-is ops stack s k t d count h l =
    let a : tests_of ops stack t ≡ tests_of ops (set stack t k) t = sym (tests-set ops stack t k t (omega arith)) in
    let b : results_of s stack d ≡ results_of s (set stack t k) d = sym (results-low s stack t k d h) in
    let e : k ≡ get_or (set stack t k) t 0 = sym (get_or-set_same stack t k 0 l) in
    rw (length-tests ops stack t, lt-ltb t most_tests h, add-one t) (λ j. ok (record { tests = test_at ops (e j) ∷ a j; results = b j; formed = diagrams_of s count }))

ask-stacked : {ops stack : List ℕ} {t d count : ℕ} → Stacked ops stack t d count → (k : ℕ) → k * 2 + 2 ≤ length ops → t < most_tests → Stacked ops (set stack t k) (t + 1) d count
ask-stacked {ops} {stack} {t} {d} {count} x k h l = record {
  words = omega (arith, x.words, length-set stack t k);
  few-tests = omega arith;
  few-results = x.few-results;
  places = λ j q. places j q (cmp j t);
  there = λ j q. rw (get_or-set_other stack t (most_tests + j) k 0 (λ z. omega arith)) (x.there j q);
}
  where
    places : (j : ℕ) → j < t + 1 → Cmp j t → get_or (set stack t k) j 0 * 2 + 2 ≤ length ops
    places j q (below z) = rw (get_or-set_other stack t j k 0 (λ y. omega arith)) (x.places j z)
    places j q (equal z) = rw (z, get_or-set_same stack t k 0 (omega (arith, x.words))) h
    places j q (above z) = absurd (omega arith)

moves-as : {limit : ℕ} {o p : Op} {m : Machine} {ops : List ℕ} {r : Result (ℕ × ℕ × ℕ) (Refusal × ℕ)} {stack s heads links index : List ℕ} → p ≡ o
    → Moves limit o m ops r stack s heads links index → Moves limit p m ops r stack s heads links index
moves-as {limit} {m = m} {ops = ops} {r = r} {stack = stack} {s = s} {heads = heads} {links = links} {index = index} e x =
    subst (λ (y : Op). Moves limit y m ops r stack s heads links index) (sym e) x

module _ {ops stack plan index : List ℕ} {limit : ℕ} {s heads links : List ℕ} {tests results count : ℕ} (k : ℕ) (o : Ops ops) (here : k * 2 + 2 ≤ length ops)
    (x : Stacked ops stack tests results count) (ready : Ready plan index limit s heads links count) where
  module _ (e : get_or ops (k * 2) 0 ≡ 0) where
    pub leaf-many : most_results ≤ results → Moves limit (op_at ops k) (machine_of ops stack s tests results count) ops (Err (Form, count)) stack s heads links index
    leaf-many h = moves-as (op-leaf ops k e) (stays-refused ready.space ready.clean (λ f. many-results ops stack s (get_or ops (k * 2 + 1) 0) tests results count h))

    module _ (h : results < most_results) {r : Option (ℕ × ℕ)} {s' heads' links' : List ℕ}
        (f : Formation (leaf (get_or ops (k * 2 + 1) 0)) (add (leaf (get_or ops (k * 2 + 1) 0)) (diagrams_of s count)) r s' heads' links') where
      pub leaf-row : {i c : ℕ} → r ≡ Some (i, c)
          → Moves limit (op_at ops k) (machine_of ops stack s tests results count) ops (Ok (tests, (results + 1), c)) (set stack (most_tests + results) i) s' heads' links' index
      leaf-row {i} {c} q =
          let v : ℕ = get_or ops (k * 2 + 1) 0 in
          let z = formed-ran s count (leaf v) {limit = limit} (o.values k here e) ready.space.values ready.clean (row-known (leaf-onto s count f) q) in
          let g : Gave (form (leaf v)) s count i c s' = z.row i c refl in
          moves-as (op-leaf ops k e)
          (went z.space z.clean (leaf-is ops stack s v tests results count h ∙ pushed x tests results (omega arith) (omega arith) h (form (leaf v)) g)
          (pushed-stacked x tests results (omega arith) (omega arith) h (form (leaf v)) g))

      pub leaf-full : r ≡ None → Moves limit (op_at ops k) (machine_of ops stack s tests results count) ops (Err (NoSpace, space_rows)) stack s' heads' links' index
      leaf-full q =
          let v : ℕ = get_or ops (k * 2 + 1) 0 in
          let z = full-ran s count (leaf v) {limit = limit} (o.values k here e) ready.space.values ready.clean (full-known (leaf-onto s count f) q) in
          moves-as (op-leaf ops k e)
          (stays-refused z.space z.clean
          (λ g. leaf-is ops stack s v tests results count h ∙ ap (given (tests_of ops stack tests) (results_of s stack results)) (z.refusal NoSpace 2048 refl g)))

  module _ (n : get_or ops (k * 2) 0 ≡ 0 → ⊥) where
    pub step-moves : 3 ≤ get_or ops (k * 2) 0 → {r : Result (ℕ × ℕ × ℕ) (Refusal × ℕ)} {stack' s' heads' links' index' : List ℕ}
        → Moves limit step (machine_of ops stack s tests results count) ops r stack' s' heads' links' index'
        → Moves limit (op_at ops k) (machine_of ops stack s tests results count) ops r stack' s' heads' links' index'
    step-moves e y = moves-as (op-step ops k e) y

    module _ (m : get_or ops (k * 2) 0 < 3) where
      pub ask-many : most_tests ≤ tests → Moves limit (op_at ops k) (machine_of ops stack s tests results count) ops (Err (Form, count)) stack s heads links index
      ask-many h = moves-as (op-ask ops k n m) (stays-refused ready.space ready.clean (λ f. many-tests ops stack s (test_at ops k) tests results count h))

      pub ask-went : tests < most_tests → Moves limit (op_at ops k) (machine_of ops stack s tests results count) ops (Ok ((tests + 1), results, count)) (set stack tests k) s heads links index
      ask-went h =
          moves-as (op-ask ops k n m)
          (went ready.space ready.clean (ask-is ops stack s k tests results count h (omega (arith, x.words))) (ask-stacked x k here h))
