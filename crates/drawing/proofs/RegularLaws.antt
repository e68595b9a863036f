-- What the machine builds is ordered and reduced, its labels and values in their ranges, where those of its operations are.
use mathlib.Core.Path.{◌≡◌, refl, sym, subst}
use mathlib.Core.Bool.{Bool, true, false, cond}
use mathlib.Core.List.{List, [], ◌∷◌}
use Prim.Native.Nat.{ℕ, zero, suc, ◌+◌, ◌*◌, ◌/◌, ◌≤◌}
use native.Mathlib.Omega.{arith}
use lib.ListN.{length, get_or}
use lib.Dec.{ltb}
use Rattle.refusal.specs.declared.Refusal.{Refusal}
use Rattle.label.specs.Labels.{is_label}
use Rattle.label.specs.declared.Test.{Test}
use Rattle.label.specs.declared.Test.TheVariants.{Always, Is}
use Rattle.diagram.specs.Sizes.{highest_value}
use Rattle.diagram.specs.Diagram.{Diagram, leaf, eval, Ordered, Reduced, EveryLabel}
use Rattle.apart.specs.Results.{Regular}
use Rattle.refusal.specs.Outcome.{Outcome, ok, refused, Accepted}
use Rattle.regression.specs.Calls.{form}
use Rattle.refusal.specs.OutcomeLaws.{accepted-ok, accepted-refused, accepted-then}
use Rattle.regression.proofs.CallLaws.{form-gives}
use Rattle.regression.specs.Step.{test_diagram, row_step}
use Rattle.regression.proofs.StepLaws.{eval-most, most-eval, eval-test, ordered-test, step_gives, eval-stepped, from-stepped, reduced-stepped, every-stepped}
use Rattle.regression.specs.Result.{AtMost, asked, stepped}
use Rattle.build.specs.ReadingLaws.{fine-made}
use Rattle.build.specs.Machine.{Machine, given, closing, operation, operations, lone, build, most_tests, most_results}
use Rattle.drawing.specs.Stacks.{Ops, ops_from, whole_ops}
use Rattle.drawing.specs.Writing.{Under}
use Rattle.reading.specs.Operations.{Op}
use Rattle.reading.specs.Operations.Op.{ask, leaf_op, step}
use Rattle.reader.specs.OperationWords.{op_at, op_of}

abbrev All : {A : Type 0} → (A → Type 0) → List A → Type 0
All P [] = Unit {0}
All P (x ∷ xs) = P x × All P xs

-- a diagram that closing up takes, but for the arity list
record Plain (ar : List ℕ) (d : Diagram) : Type 0 where
  ordered : Ordered d
  reduced : Reduced d
  labels : EveryLabel (λ l. is_label ar l ≡ true) d
  most : AtMost highest_value d

plain-leaf : (ar : List ℕ) (v : ℕ) → v ≤ highest_value → Plain ar (leaf v)
plain-leaf ar v h = record { ordered = tt; reduced = tt; labels = tt; most = h }

abbrev TestUnder : List ℕ → Test → Type 0
TestUnder ar Always = Unit {0}
TestUnder ar (Is l) = is_label ar l.packed ≡ true

test-labels : (ar : List ℕ) (t : Test) → TestUnder ar t → EveryLabel (λ l. is_label ar l ≡ true) (test_diagram t)
unfolding test_diagram
test-labels ar Always h = tt
test-labels ar (Is l) h = (h, tt, tt)

-- a row step of plain diagrams is plain
plain_step : (ar : List ℕ) (t : Test) (x y : Diagram) → TestUnder ar t → Plain ar x → Plain ar y → Plain ar (stepped (test_diagram t) x y)
plain_step ar t x y h p q = record {
  ordered = from-stepped 0 (test_diagram t) x y (ordered-test t) p.ordered q.ordered;
  reduced = reduced-stepped (test_diagram t) x y;
  labels = every-stepped (λ l. is_label ar l ≡ true) (test_diagram t) x y (test-labels ar t h) p.labels q.labels;
  most = most-eval highest_value 0 (stepped (test_diagram t) x y) (from-stepped 0 (test_diagram t) x y (ordered-test t) p.ordered q.ordered) (λ c. value c);
}
  where
    either : (c : ℕ → Bool) (b : Bool) → cond b (eval c x) (eval c y) ≤ highest_value
    either c true = eval-most highest_value c x p.most
    either c false = eval-most highest_value c y q.most

    value : (c : ℕ → Bool) → eval c (stepped (test_diagram t) x y) ≤ highest_value
    value c = rw (eval-stepped c (test_diagram t) x y (asked c t) (eval-test c t)) (either c (asked c t))

-- an operation whose label and value are in their ranges
abbrev OpUnder : List ℕ → Op → Type 0
OpUnder ar (leaf_op v) = v ≤ highest_value
OpUnder ar (ask t) = TestUnder ar t
OpUnder ar step = Unit {0}

record Sound (ar : List ℕ) (m : Machine) : Type 0 where
  tests-under : All (TestUnder ar) m.tests
  results-plain : All (Plain ar) m.results

given-sound : (ar : List ℕ) (ts : List Test) (ds : List Diagram) (o : Outcome (Diagram × List Diagram)) → All (TestUnder ar) ts → All (Plain ar) ds
    → Accepted (λ (r : Diagram × List Diagram). Plain ar r.0) o → Accepted (Sound ar) (given ts ds o)
given-sound ar ts ds (ok p) h g a = accepted-ok (record { tests-under = h; results-plain = (a.given p refl, g) })
given-sound ar ts ds (refused w) h g a = accepted-refused

pick-sound : (ar : List ℕ) (b : Bool) (w : Refusal) (o : Outcome Machine) → Accepted (Sound ar) o → Accepted (Sound ar) (cond b o (refused w))
pick-sound ar true w o a = a
pick-sound ar false w o a = accepted-refused

closing-sound : (ar : List ℕ) (ts : List Test) (ds rs : List Diagram) → All (TestUnder ar) ts → All (Plain ar) ds → Accepted (Sound ar) (closing ts ds rs)
unfolding closing
closing-sound ar [] ds rs h g = accepted-refused
closing-sound ar (t ∷ ts) [] rs h g = accepted-refused
closing-sound ar (t ∷ ts) (y ∷ []) rs h g = accepted-refused
closing-sound ar (t ∷ ts) (y ∷ x ∷ ds) rs h g =
    given-sound ar ts ds (row_step (test_diagram t) x y rs) h.1 g.1.1
    (record { given = λ p e. subst (Plain ar) (sym (((step_gives (test_diagram t) x y).given rs).given p e)) (plain_step ar t x y h.0 g.1.0 g.0) })

operation-sound : (ar : List ℕ) (o : Op) (m : Machine) → OpUnder ar o → Sound ar m → Accepted (Sound ar) (operation o m)
unfolding operation
operation-sound ar (leaf_op v) m h s =
    pick-sound ar (ltb (length m.results) most_results) _ _
    (given-sound ar m.tests m.results (form (leaf v) m.formed) s.tests-under s.results-plain
    (record { given = λ p e. subst (Plain ar) (sym (((form-gives (leaf v)).given m.formed).given p e)) (plain-leaf ar v h) }))
operation-sound ar (ask t) m h s =
    pick-sound ar (ltb (length m.tests) most_tests) _ _ (accepted-ok (record { tests-under = (h, s.tests-under); results-plain = s.results-plain }))
operation-sound ar step m h s = closing-sound ar m.tests m.results m.formed s.tests-under s.results-plain

operations-sound : (ar : List ℕ) (os : List Op) (m : Machine) → All (OpUnder ar) os → Sound ar m → Accepted (Sound ar) (operations os m)
unfolding operations
operations-sound ar [] m h s = accepted-ok s
operations-sound ar (o ∷ os) m h s = accepted-then (operation o m) (operation-sound ar o m h.0 s) (λ n g. operations-sound ar os n h.1 g)

lone-plain : (ar : List ℕ) (ts : List Test) (ds rs : List Diagram) → All (Plain ar) ds → Accepted (λ (r : Diagram × List Diagram). Plain ar r.0) (lone ts ds rs)
lone-plain ar [] [] rs g = accepted-refused
lone-plain ar [] (d ∷ []) rs g = accepted-ok g.0
lone-plain ar [] (d ∷ e ∷ ds) rs g = accepted-refused
lone-plain ar (t ∷ ts) ds rs g = accepted-refused

-- the operations in lent words
of-under : (ar : List ℕ) (kind v : ℕ) → (kind ≡ 0 → v ≤ highest_value) → (kind ≡ 1 → is_label ar v ≡ true) → OpUnder ar (op_of kind v)
of-under ar zero v h l = h refl
of-under ar (suc zero) v h l = l refl
of-under ar (suc (suc zero)) v h l = tt
of-under ar (suc (suc (suc k))) v h l = tt

op-under : (ar ws : List ℕ) (k : ℕ) → Ops ws → Under ar ws → k * 2 + 2 ≤ length ws → OpUnder ar (op_at ws k)
unfolding op_at
op-under ar ws k o l h = of-under ar (get_or ws (k * 2) 0) (get_or ws (k * 2 + 1) 0) (o.values k h) (l.labels k h)

ops-under : (ar ws : List ℕ) (k n : ℕ) → Ops ws → Under ar ws → (k + n) * 2 ≤ length ws → All (OpUnder ar) (ops_from ws k n)
unfolding ops_from
ops-under ar ws k zero o l h = tt
ops-under ar ws k (suc n) o l h = (op-under ar ws k o l (omega arith), ops-under ar ws (suc k) n o l (omega arith))

-- so what is built is regular
pub built-regular : (ar ws : List ℕ) (d : Diagram) (qs : List Diagram) → Ops ws → Under ar ws → build (whole_ops ws) [] ≡ ok (d, qs) → Regular ar d
unfolding build whole_ops
built-regular ar ws d qs o l e =
    let a : Accepted (λ (r : Diagram × List Diagram). Plain ar r.0) (build (whole_ops ws) []) =
    accepted-then (operations (ops_from ws 0 (length ws / 2)) (record { tests = []; results = []; formed = [] }))
    (operations-sound ar (ops_from ws 0 (length ws / 2)) _ (ops-under ar ws 0 (length ws / 2) o l (omega arith)) (record { tests-under = tt; results-plain = tt }))
    (λ m s. lone-plain ar m.tests m.results m.formed s.results-plain) in
    let p = a.given (d, qs) e in
    record { arities = l.arities; ordered = p.ordered; reduced = p.reduced; fine = fine-made ar d p.labels p.most }
