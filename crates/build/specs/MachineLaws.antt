-- The machine reads the operations of a diagram as the diagram.
use Rattle.std.specs.Prelude.{◌≡◌, refl, List, [], ◌∷◌, ◌++◌, ℕ, ◌+◌, ◌≤◌, ◌<◌, length}
use Rattle.std.proofs.Common.{sym, ap, ◌∙◌, append_assoc, append-nil, arith, lt-ltb}
use Rattle.label.specs.declared.Test.{Test}
use Rattle.diagram.specs.Diagram.{Diagram, leaf}
use Rattle.diagram.specs.Variables.{closed}
use Rattle.refusal.specs.Outcome.{Outcome, ok, refused, and_then}
use Rattle.regression.specs.Calls.{form}
use Rattle.regression.specs.Step.{test_diagram, row_step}
use Rattle.build.specs.Build.{read_diagram, held, text_diagram, reward_diagram}
use Rattle.build.specs.Machine.{most_tests, most_results, Machine, given, closing, operation, operations, ending, build, built, built_closed}
use Rattle.reading.specs.Operations.{Op}
use Rattle.reading.specs.Operations.Op.{ask, leaf_op, step}
use Rattle.reading.specs.Inner.{depth}
use Rattle.reading.specs.Tree.{Reading, ops_of}
use Rattle.reading.specs.Tree.Reading.{branch, number}

abbrev at : List Test → List Diagram → List Diagram → Machine
at ts ds rs = record { tests = ts; results = ds; formed = rs }

-- the operations behind those of a diagram go on with its result
abbrev after : List Op → List Test → List Diagram → Outcome (Diagram × List Diagram) → Outcome Machine
after more ts ds o = and_then o (λ p. operations more (at ts (p.0 ∷ ds) p.1))

ops-leaf : (v : ℕ) (more : List Op) (ts : List Test) (ds rs : List Diagram) → length ds < most_results
    → operations (leaf_op v ∷ more) (at ts ds rs) ≡ after more ts ds (form (leaf v) rs)
unfolding operations operation
ops-leaf v more ts ds rs h = rw (lt-ltb (length ds) most_results h) (go (form (leaf v) rs))
  where
    go : (o : Outcome (Diagram × List Diagram)) → and_then (given ts ds o) (operations more) ≡ after more ts ds o
    go (ok p) = refl
    go (refused w) = refl

ops-ask : (t : Test) (more : List Op) (ts : List Test) (ds rs : List Diagram) → length ts < most_tests
    → operations (ask t ∷ more) (at ts ds rs) ≡ operations more (at (t ∷ ts) ds rs)
unfolding operations operation
ops-ask t more ts ds rs h = rw (lt-ltb (length ts) most_tests h)

ops-step : (t : Test) (x y : Diagram) (more : List Op) (ts : List Test) (ds rs : List Diagram)
    → operations (step ∷ more) (at (t ∷ ts) (y ∷ x ∷ ds) rs) ≡ after more ts ds (row_step (test_diagram t) x y rs)
unfolding operations operation closing
ops-step t x y more ts ds rs = go (row_step (test_diagram t) x y rs)
  where
    go : (o : Outcome (Diagram × List Diagram)) → and_then (given ts ds o) (operations more) ≡ after more ts ds o
    go (ok p) = refl
    go (refused w) = refl

pub build-ops : (r : Reading) (more : List Op) (ts : List Test) (ds rs : List Diagram) → length ts + depth r ≤ most_tests → length ds ≤ length ts
    → operations (ops_of r ++ more) (at ts ds rs) ≡ after more ts ds (read_diagram r rs)
unfolding read_diagram
build-ops (number v) more ts ds rs h l = ops-leaf v more ts ds rs (omega arith)
build-ops (branch t a b) more ts ds rs h l =
    ap (λ (os : List Op). operations (ask t ∷ os) (at ts ds rs)) (shape (ops_of a) (ops_of b) more)
    ∙ ops-ask t (ops_of a ++ (ops_of b ++ (step ∷ more))) ts ds rs (omega arith)
    ∙ build-ops a (ops_of b ++ (step ∷ more)) (t ∷ ts) ds rs (omega arith) (omega arith)
    ∙ first (read_diagram a rs) (λ x rs₁. build-ops b (step ∷ more) (t ∷ ts) (x ∷ ds) rs₁ (omega arith) (omega arith))
  where
    shape : (p q m : List Op) → (p ++ (q ++ (step ∷ []))) ++ m ≡ p ++ (q ++ (step ∷ m))
    shape p q m = simp append_assoc

    second : (x : Diagram) (o : Outcome (Diagram × List Diagram))
        → after (step ∷ more) (t ∷ ts) (x ∷ ds) o ≡ after more ts ds (and_then o (λ p. row_step (test_diagram t) x p.0 p.1))
    second x (ok p) = ops-step t x p.0 more ts ds p.1
    second x (refused w) = refl

    first : (o : Outcome (Diagram × List Diagram))
        → ((x : Diagram) (rs₁ : List Diagram) → operations (ops_of b ++ (step ∷ more)) (at (t ∷ ts) (x ∷ ds) rs₁) ≡ after (step ∷ more) (t ∷ ts) (x ∷ ds) (read_diagram b rs₁))
        → after (ops_of b ++ (step ∷ more)) (t ∷ ts) ds o
        ≡ after more ts ds (and_then o (λ p. and_then (read_diagram b p.1) (λ q. row_step (test_diagram t) p.0 q.0 q.1)))
    first (ok p) ih = ih p.0 p.1 ∙ second p.0 (read_diagram b p.1)
    first (refused w) ih = refl

-- so the operations of a diagram of at most 64 open brackets build it
pub build-reading : (r : Reading) (rs : List Diagram) → depth r ≤ most_tests → build (ops_of r) rs ≡ read_diagram r rs
unfolding build operations
build-reading r rs h =
    ap (λ (os : List Op). and_then (operations os (at [] [] rs)) ending) (sym (append-nil (ops_of r)))
    ∙ ap (λ (o : Outcome Machine). and_then o ending) (build-ops r [] [] [] rs (omega arith) (omega arith))
    ∙ go (read_diagram r rs)
  where
    go : (o : Outcome (Diagram × List Diagram)) → and_then (after [] [] [] o) ending ≡ o
    go (ok p) = refl
    go (refused w) = refl

-- and a text's diagram, and a reward's
pub built-text : (r : Reading) → depth r ≤ most_tests → built (ops_of r) ≡ text_diagram r
unfolding built text_diagram
built-text r h = ap (λ (o : Outcome (Diagram × List Diagram)). and_then o (λ p. held p.0)) (build-reading r [] h)

pub built-reward : (ar : List ℕ) (r : Reading) → depth r ≤ most_tests → built_closed ar (ops_of r) ≡ reward_diagram ar r
unfolding built_closed reward_diagram
built-reward ar r h = ap (λ (o : Outcome (Diagram × List Diagram)). and_then o (λ p. held (closed ar p.0))) (build-reading r [] h)
