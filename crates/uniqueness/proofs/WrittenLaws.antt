-- The diagram that is built from a line's words is the only one that means what its tree writes.
use Rattle.std.specs.Prelude.{◌≡◌, true, List, [], ◌∷◌, ◌++◌, ℕ, ◌≤◌, length}
use Rattle.std.proofs.Common.{ap, sym, ◌∙◌, subst, append_assoc, arith}
use Rattle.refusal.specs.declared.Refusal.TheVariants.{Variables}
use Rattle.refusal.specs.Outcome.{ok}
use Rattle.label.specs.Labels.{is_label}
use Rattle.label.specs.declared.Test.TheVariants.{Always, Is}
use Rattle.forms.specs.Tree as T
use Rattle.diagram.specs.Sizes.{most_rows}
use Rattle.diagram.specs.Diagram.{Diagram, leaf, branch, eval, relabel, EveryLabel}
use Rattle.diagram.specs.Listing.{Fine, Good}
use Rattle.diagram.specs.Variables.{closed_from, closed}
use Rattle.rename.specs.ClosingLaws.{closed-count}
use Rattle.events.specs.Events.{diagram_events}
use Rattle.reading.specs.Operations.{Op}
use Rattle.reading.specs.Operations.Op.{step}
use Rattle.reading.specs.Reading.{Environment, Met, Written, is_within, reading}
use Rattle.reading.specs.Inner.{writing, diagram_reading, depth, Named, reach, GoodReading, NamesFit}
use Rattle.reading.specs.Tree.{Reading, resolve_diagram, ops_of}
use Rattle.reading.specs.Tree.Reading.{number, branch as conditional}
use Rattle.reading.specs.OutcomeLaws.{passed, chained}
use Rattle.reading.specs.TreeLaws.{reading-diagram}
use Rattle.reading.specs.GoodLaws.{reading-sound}
use Rattle.build.specs.Build.{meaning}
use Rattle.build.specs.Written.{diagram_for, EachAsked, EachValue}
use Rattle.build.specs.Machine.{most_tests, built, built_closed}
use Rattle.build.specs.MachineLaws.{built-text, built-reward}
use Rattle.build.specs.ReadingLaws.{ordered-for, reduced-for, eval-for, labels-for, text-held, reward-held, text-good, reward-good}
use Rattle.uniqueness.specs.Meaning.{TheOnlyClosed}
use Rattle.uniqueness.specs.Text.{StandsFor, Writes, WritesClosed}
use Rattle.uniqueness.proofs.OnlyLaws.{good-only}
use Rattle.uniqueness.proofs.ThroughLaws.{closed-only}

-- ===== The tree of operations =====

-- operations are those of one tree
ops-front : (a b : Reading) (xs ys : List Op) → ops_of a ++ xs ≡ ops_of b ++ ys → (a ≡ b) × (xs ≡ ys)
ops-front (number v) (number w) xs ys e = (cc, cc)
ops-front (number v) (conditional t h f) xs ys e = let z : ◌≡◌ {A = ℕ} 0 1 = cc in absurd (omega arith)
ops-front (conditional t h f) (number w) xs ys e = let z : ◌≡◌ {A = ℕ} 0 1 = cc in absurd (omega arith)
ops-front (conditional t h f) (conditional u g k) xs ys e =
    let p : (ops_of h ++ (ops_of f ++ (step ∷ []))) ++ xs ≡ (ops_of g ++ (ops_of k ++ (step ∷ []))) ++ ys = cc in
    let q : ops_of h ++ (ops_of f ++ (step ∷ xs)) ≡ ops_of g ++ (ops_of k ++ (step ∷ ys)) = sym (split (ops_of h) (ops_of f) xs) ∙ p ∙ split (ops_of g) (ops_of k) ys in
    let i = ops-front h g (ops_of f ++ (step ∷ xs)) (ops_of k ++ (step ∷ ys)) q in
    let j = ops-front f k (step ∷ xs) (step ∷ ys) i.1 in
    let s : t ≡ u = cc in
    let x = i.0 in
    let y = j.0 in
    let z = j.1 in
    (cc, cc)
  where
    split : (a b c : List Op) → (a ++ (b ++ (step ∷ []))) ++ c ≡ a ++ (b ++ (step ∷ c))
    split a b c = append_assoc a (b ++ (step ∷ [])) c ∙ ap (a ++◌) (append_assoc b (step ∷ []) c)

ops-one : (a b : Reading) → ops_of a ≡ ops_of b → a ≡ b
ops-one a b e = (ops-front a b [] [] (ap (◌++ []) e)).0

-- ===== The tree of a line =====

-- what the words w of a line come to: the operations of what its tree stands for
pub record Resolved (names : Environment) (vs : Met) (t : T.Diagram) (w : Written) : Type 0 where
  pub tree : Reading
  pub stands : StandsFor names vs t tree
  pub operations : w.operations ≡ ops_of tree
  pub good : GoodReading names.arities (Named (length names.parameters) (reach names.binding vs)) tree
  pub shallow : depth tree ≤ T.brackets t

pub resolved : (names : Environment) → NamesFit names → (t : T.Diagram) (vs : Met) (w : Written) → reading names (diagram_events t) vs ≡ ok w → Resolved names vs t w
unfolding diagram_reading
resolved names fit t vs w e =
    let c = chained (resolve_diagram names vs t) writing w (sym (reading-diagram names t vs) ∙ e) in
    let p = passed (is_within c.first.met) _ Variables w c.then in
    let s = reading-sound names fit t vs w e in
    let o : w.operations ≡ ops_of c.first.value = ap (λ (x : Written). x.operations) (sym p.1) in
    let q : s.tree ≡ c.first.value = ops-one s.tree c.first.value (sym s.operations ∙ o) in
    record {
      tree = c.first.value;
      stands = record { met = c.first.met; resolved = c.answers };
      operations = o;
      good = subst (GoodReading names.arities (Named (length names.parameters) (reach names.binding vs))) q s.good;
      shallow = subst (λ (r : Reading). depth r ≤ T.brackets t) q s.shallow;
    }

-- ===== The diagram of a tree =====

module _ (ar : List ℕ) (P : ℕ → Type 0) where
  good-asked : (r : Reading) → GoodReading ar P r → EachAsked (λ l. is_label ar l ≡ true) r
  good-asked (number v) g = tt
  good-asked (conditional Always h f) g = (good-asked h g.1, good-asked f g.2)
  good-asked (conditional (Is l) h f) g = (g.0.0, good-asked h g.1, good-asked f g.2)

  good-value : (r : Reading) → GoodReading ar P r → EachValue r
  good-value (number v) g = g
  good-value (conditional t h f) g = (good-value h g.1, good-value f g.2)

-- leaves are in their range where they are after relabelling
fine_before : (ar : List ℕ) (g : ℕ → ℕ) (d : Diagram) → EveryLabel (λ l. is_label ar l ≡ true) d → Fine ar (relabel g d) → Fine ar d
unfolding relabel
fine_before ar g (leaf v) w h = h
fine_before ar g (branch l x y) w h = (w.0, fine_before ar g x w.1 h.1, fine_before ar g y w.2 h.2)

fine-open : (ar : List ℕ) (d : Diagram) → EveryLabel (λ l. is_label ar l ≡ true) d → Fine ar (closed ar d) → Fine ar d
unfolding closed closed_from
fine-open ar d w h = fine_before ar _ d w h

-- ===== What is built =====

module _ (names : Environment) (fit : NamesFit names) (t : T.Diagram) (shallow : T.brackets t ≤ most_tests) (vs : Met) (w : Written) (x : Resolved names vs t w) (d : Diagram) where
  labels-asked : EachAsked (λ l. is_label names.arities l ≡ true) x.tree
  labels-asked = good-asked names.arities _ x.tree x.good

  values : EachValue x.tree
  values = good-value names.arities _ x.tree x.good

  -- a weight or a truth diagram
  pub built-writes : built w.operations ≡ ok d → Writes names vs t d
  built-writes m =
      let q = sym (built-text x.tree (omega (arith, x.shallow))) ∙ ap built (sym x.operations) ∙ m in
      record {
        tree = x.tree;
        stands = x.stands;
        one = good-only names.arities (λ c. meaning c x.tree) d (text-good names.arities x.tree d fit.arity-list labels-asked values q)
            (λ c. ap (eval c) ((text-held x.tree).given d q).is ∙ eval-for c x.tree);
      }

  -- a reward
  pub built-closed : built_closed names.arities w.operations ≡ ok d → WritesClosed names vs t d
  built-closed m =
      let q = sym (built-reward names.arities x.tree (omega (arith, x.shallow))) ∙ ap (built_closed names.arities) (sym x.operations) ∙ m in
      let h = (reward-held names.arities x.tree).given d q in
      let u : Diagram = diagram_for x.tree in
      let g : Good names.arities (closed names.arities u) =
      subst (Good names.arities) h.is (reward-good names.arities x.tree d fit.arity-list labels-asked values q) in
      let fine-u = fine-open names.arities u (labels-for (λ l. is_label names.arities l ≡ true) x.tree labels-asked) g.fine in
      let good-u : Good names.arities u = record {
        arities = fit.arity-list;
        ordered = ordered-for x.tree;
        reduced = reduced-for x.tree;
        fine = fine-u;
        few = subst (λ (n : ℕ). n ≤ most_rows) (closed-count names.arities u fit.arity-list fine-u) h.few;
      } in
      record {
        tree = x.tree;
        stands = x.stands;
        one = subst (TheOnlyClosed names.arities (λ c. meaning c x.tree)) (sym h.is)
            (closed-only names.arities (λ c. meaning c x.tree) u (good-only names.arities (λ c. meaning c x.tree) u good-u (λ c. eval-for c x.tree)));
      }
