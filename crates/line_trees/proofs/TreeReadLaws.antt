-- The words of a diagram, read one after another and built by the machine with two stacks, come to what the diagram's tree says.
use Rattle.std.specs.Prelude.{◌≡◌, refl, Bool, true, false, not, cond, List, ◌≤◌, leb}
use Rattle.std.proofs.Common.{ap, subst, ◌∙◌, arith}
use Rattle.refusal.specs.declared.Refusal.TheVariants.{Range, Variables}
use Rattle.refusal.specs.Outcome.{Outcome, ok, refused, and_then}
use Rattle.diagram.specs.Sizes.{highest_value}
use Rattle.diagram.specs.Diagram.{Diagram}
use Rattle.words.specs.Bytes.{value_of}
use Rattle.words.specs.declared.Key.{Key}
use Rattle.forms.specs.Tree as T
use Rattle.forms.specs.Tree.Diagram.{number as numeral, branch as conditional}
use Rattle.events.specs.Events.{diagram_events}
use Rattle.reading.specs.declared.Binding.{Binding}
use Rattle.reading.specs.Operations.{Op}
use Rattle.reading.specs.Reading.{Environment, Met, Written, is_within, reading}
use Rattle.reading.specs.OutcomeLaws.{ok-one, passed, chained, Match}
use Rattle.reading.specs.Inner.{writing, diagram_reading, depth}
use Rattle.reading.specs.Tree.{Reading, Result, resolve_atom, branching, resolve_diagram, ops_of}
use Rattle.reading.specs.Tree.Reading.{branch}
use Rattle.reading.specs.TreeLaws.{reading-diagram}
use Rattle.build.specs.Machine.{most_tests}
use Rattle.session.specs.Session.{Session, refuse_if}
use Rattle.session.specs.ModelLines.{names_for}
use Rattle.line_trees.specs.TreeReading.{diagram_words, read_tree}
use Rattle.line_trees.proofs.ResolvedLaws.{Counted, Reads}

-- of what a diagram stands for no more (if ..) are open together than brackets
resolved-depth : (ν : Environment) (d : T.Diagram) (vs : Met) (g : Result Reading) → resolve_diagram ν vs d ≡ ok g → depth g.value ≤ T.brackets d
resolved-depth ν (numeral n) vs g e =
    let c = passed (leb (value_of n) highest_value) _ Range g e in
    subst (λ (x : Result Reading). depth x.value ≤ 0) c.1 (omega arith)
resolved-depth ν (conditional a d e) vs g z =
    let c = chained (resolve_atom ν vs a) _ g z in
    let c₁ = chained (resolve_diagram ν c.first.met d) _ g c.then in
    let c₂ = chained (resolve_diagram ν c₁.first.met e) (branching c.first.value c₁.first.value) g c₁.then in
    let u : ◌≡◌ {A = Result Reading} (record { value = branch c.first.value c₁.first.value c₂.first.value; met = c₂.first.met }) g = ok-one c₂.then in
    subst (λ (x : Result Reading). depth x.value ≤ T.brackets (conditional a d e)) u
    (omega (arith, resolved-depth ν d c.first.met c₁.first c₁.answers, resolved-depth ν e c₁.first.met c₂.first c₂.answers))

-- a diagram that is built, in either way, and what follows
pub read-built : {A : Type 0} (machine : List Op → Outcome Diagram) (tree : Reading → Outcome Diagram) → ((r : Reading) → depth r ≤ most_tests → machine (ops_of r) ≡ tree r)
    → (σ : Session) (b : Binding) (ps : List Key) (vs ws : Met) (d : T.Diagram) → T.brackets d ≤ most_tests → Reads σ b ps vs ws d → (k : Diagram → Outcome A)
    → and_then (reading (names_for σ.names σ.model.arities b ps) (diagram_events d) ws) (λ w. and_then (machine w.operations) k)
    ≡ and_then (read_tree σ ps vs d) (λ r. and_then (tree r) k)
unfolding diagram_reading read_tree
read-built machine tree law σ b ps vs ws d shallow reads k =
    ap (λ (j : Outcome Written). and_then j (λ w. and_then (machine w.operations) k)) (reading-diagram ν d ws)
    ∙ go (resolve_diagram ν ws d) (diagram_words σ ps vs d) (λ g e. omega (arith, resolved-depth ν d ws g e)) reads
  where
    ν : Environment
    ν = names_for σ.names σ.model.arities b ps

    wrote : Result Reading → Written
    wrote g = record { met = g.met; operations = ops_of g.value }

    counted : (g : Result Reading) (r : Reading) → depth g.value ≤ most_tests → (c : Bool) → (c ≡ true → g.value ≡ r)
        → and_then (cond c (ok (wrote g)) (refused Variables)) (λ w. and_then (machine w.operations) k)
        ≡ and_then (refuse_if (not c) Variables (ok r)) (λ x. and_then (tree x) k)
    counted g r h true e = ap (λ (o : Outcome Diagram). and_then o k) (law g.value h ∙ ap tree (e refl))
    counted g r h false e = refl

    go : (j : Outcome (Result Reading)) (o : Outcome Reading) → ((g : Result Reading) → j ≡ ok g → depth g.value ≤ most_tests) → Match (Counted vs) j o
        → and_then (and_then j writing) (λ w. and_then (machine w.operations) k)
        ≡ and_then (and_then o (λ r. refuse_if (not (is_within vs)) Variables (ok r))) (λ r. and_then (tree r) k)
    go (ok g) (ok r) h m =
        ap (λ (c : Bool). and_then (cond c (ok (wrote g)) (refused Variables)) (λ w. and_then (machine w.operations) k)) m.1
        ∙ counted g r (h g refl) (is_within vs) (λ e. m.0 e)
    go (ok g) (refused r) h m = absurd m
    go (refused r) (ok x) h m = absurd m
    go (refused r) (refused s) h m = ap refused m
