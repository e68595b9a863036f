-- What the words of a diagram come to names only declared constants and predicates, and so does what is built from them.
use Rattle.std.specs.Prelude.{◌≡◌, Bool, true, false, cond, ℕ, ◌+◌, ◌≤◌, ◌<◌, length, get_or, eqb, ltb, leb}
use Rattle.std.proofs.Common.{sym, ap, ◌∙◌, arith, ltb-true, eqb-true, ne_eqb}
use Rattle.std.proofs.Math.Path.{subst}
use mathlib.Core.List.{List, [], ◌∷◌, Memᴰ}
use Rattle.refusal.specs.declared.Refusal.TheVariants.{Name, Arity, Range, Unbound}
use Rattle.refusal.specs.Outcome.{ok, and_then}
use Rattle.label.specs.Limits.{constant_count, first_parameter, parameter_count, first_variable, first_minimum, term_base, equality, equality_arity}
use Rattle.label.specs.Labels.{are_arities, atom_from, packed, label_of, equates, test_of}
use Rattle.label.proofs.ArityLaws.{arity-two, atom-terms, from_places}
use Rattle.label.specs.declared.Test.{Test}
use Rattle.label.specs.declared.Test.TheVariants.{Always, Is}
use Rattle.diagram.specs.Sizes.{highest_value}
use Rattle.diagram.specs.Diagram.{Diagram}
use Rattle.diagram.specs.Variables.{closed}
use Rattle.state.specs.State.{atom, atom_of}
use Rattle.state.specs.Terms.{Each}
use Rattle.regression.proofs.MovedLaws.{atom-packed}
use Rattle.words.specs.Bytes.{value_of}
use Rattle.words.specs.Keys.{key_of}
use Rattle.words.specs.declared.Key.{Key}
use Rattle.names.specs.Keys.{place_of, is_among}
use Rattle.forms.specs.Tree as T
use Rattle.forms.specs.Tree.Mark.{plain, variable, parameter, minimum}
use Rattle.forms.specs.Tree.Term.{term}
use Rattle.forms.specs.Tree.Atom.{equal, holds}
use Rattle.forms.specs.Tree.Diagram.{number as numeral, branch as conditional}
use Rattle.events.specs.Events.{diagram_events}
use Rattle.reading.specs.declared.Binding.{Binding}
use Rattle.reading.specs.declared.Binding.TheVariants.{Any, None, Only}
use Rattle.reading.specs.Reading.{Environment, Met, Written, constant_number, parameter_number, met, number_in, variable_number, minimum_number, variable_met, minimum_met, reading}
use Rattle.reading.specs.OutcomeLaws.{apart, ok-one, chosen, passed, chained}
use Rattle.reading.specs.Inner.{GoodReading, NamesFit}
use Rattle.reading.specs.Tree.{Reading, Result, resolve_term, resolve_terms, testing, resolve_atom, branching, resolve_diagram}
use Rattle.reading.specs.Tree.Reading.{number, branch}
use Rattle.reading.specs.TreeLaws.{Resolving, terms-resolved}
use Rattle.reading.specs.GoodLaws.{had}
use Rattle.build.specs.Written.{diagram_for, EachAsked}
use Rattle.build.specs.Machine.{most_tests, built, built_closed}
use Rattle.build.specs.MachineLaws.{built-text, built-reward}
use Rattle.build.specs.ReadingLaws.{labels-for, text-held, reward-held}
use Rattle.uniqueness.proofs.WrittenLaws.{Resolved, resolved}
use Rattle.declared.specs.Inner.{Constant, DeclaredLabel, Declares}
use Rattle.declared.specs.Proper.{Proper}
use Rattle.declared.proofs.ClosingLaws.{closed-proper}
use Rattle.declared.proofs.BackupLaws.{proper-declared}

-- ===== Terms =====

-- a term that fits its place in a label, a constant one of the first c
record Fitting (c t : ℕ) : Type 0 where
  small : t < term_base
  constants : Constant c t

module _ (c : ℕ) where
  -- a variable of a kind whose first number is f
  fitting-number : (f : ℕ) → first_variable ≤ f → f ≤ first_minimum → (vs : List Key) (k : Key) → Fitting c (number_in f vs k)
  unfolding number_in
  fitting-number f h l vs k = record { small = omega arith; constants = λ i. absurd (omega arith) }

  fitting-variable : (b : Binding) (vs : List Key) (k : Key) (t : ℕ) → variable_number b vs k ≡ ok t → Fitting c t
  unfolding variable_number
  fitting-variable Any vs k t e = subst (Fitting c) (ok-one e) (fitting-number first_variable (omega arith) (omega arith) vs k)
  fitting-variable None vs k t e = absurd (apart e)
  fitting-variable Only vs k t e =
      subst (Fitting c) (passed (is_among k vs) (number_in first_variable vs k) Unbound t e).1 (fitting-number first_variable (omega arith) (omega arith) vs k)

  fitting-minimum : (b : Binding) (vs : List Key) (k : Key) (t : ℕ) → minimum_number b vs k ≡ ok t → Fitting c t
  unfolding minimum_number
  fitting-minimum Any vs k t e = subst (Fitting c) (ok-one e) (fitting-number first_minimum (omega arith) (omega arith) vs k)
  fitting-minimum None vs k t e = absurd (apart e)
  fitting-minimum Only vs k t e = absurd (apart e)

fitting-constant : (ks : List Key) (k : Key) (t : ℕ) → length ks ≤ constant_count → constant_number ks k ≡ ok t → Fitting (length ks) t
unfolding constant_number is_among
fitting-constant ks k t few e =
    let x = passed (is_among k ks) (place_of k ks) Name t e in
    let h = ltb-true (place_of k ks) (length ks) x.0 in
    subst (Fitting (length ks)) x.1 (record { small = omega arith; constants = λ i. h })

fitting-parameter : (c : ℕ) (ks : List Key) (k : Key) (t : ℕ) → length ks ≤ parameter_count → parameter_number ks k ≡ ok t → Fitting c t
unfolding parameter_number is_among
fitting-parameter c ks k t few e =
    let x = passed (is_among k ks) (first_parameter + place_of k ks) Unbound t e in
    let h = ltb-true (place_of k ks) (length ks) x.0 in
    subst (Fitting c) x.1 (record { small = omega arith; constants = λ i. absurd (omega arith) })

-- ===== Labels =====

-- what the test asks is declared
abbrev Asks : List ℕ → ℕ → ℕ → Test → Type 0
Asks ar c p Always = Unit {0}
Asks ar c p (Is l) = DeclaredLabel ar c p l.packed

all-member : (P : ℕ → Type 0) (us : List ℕ) → T.All P us → (t : ℕ) → Memᴰ t us → P t
all-member P [] a t x'' = elim x'' [ ]
all-member P (u ∷ us) a t (Memᴰ.head e) = subst P (sym e) a.0
all-member P (u ∷ us) a t (Memᴰ.tail m) = all-member P us a.1 t m

module _ (ar : List ℕ) (good : are_arities ar ≡ true) (c p : ℕ) where
  each-constant : (us : List ℕ) → T.All (Fitting c) us → Each (Constant c) us
  each-constant [] a = tt
  each-constant (u ∷ us) a = (a.0.constants, each-constant us a.1)

  atom-predicate : (q r : ℕ) (ts us : List ℕ) → atom q ts ≡ atom r us → q ≡ r
  atom-predicate q r ts us e = cc

  atom-args : (q r : ℕ) (ts us : List ℕ) → atom q ts ≡ atom r us → ts ≡ us
  atom-args q r ts us e = cc

  label-declared : (q : ℕ) (us : List ℕ) → q ≤ p → length us ≡ get_or ar q 0 → T.All (Fitting c) us → DeclaredLabel ar c p (packed (atom_from q us))
  unfolding atom_of
  label-declared q us h l a =
      let e = atom-packed ar (atom_from q us) (from_places q us (λ t m. (all-member (Fitting c) us a t m).small)) in
      record {
        predicate = subst (λ (r : ℕ). r ≤ p) (sym (atom-predicate _ _ _ _ e)) h;
        constants = subst (Each (Constant c)) (sym (atom-args _ _ _ _ e ∙ atom-terms ar q us good l)) (each-constant us a);
      }

  equal-asks : (t u : ℕ) → Fitting c t → Fitting c u → Asks ar c p (test_of (atom_from equality (t ∷ u ∷ [])))
  unfolding test_of equates
  equal-asks t u x y = go (eqb t u) (ltb t u)
    where
      two : (v w : ℕ) → Fitting c v → Fitting c w → DeclaredLabel ar c p (packed (atom_from equality (v ∷ w ∷ [])))
      two v w i j = label-declared equality (v ∷ w ∷ []) (omega arith) (sym (arity-two ar good)) (i, (j, tt))

      go : (a b : Bool) → Asks ar c p (cond a Always (cond b (label_of (atom_from equality (t ∷ u ∷ []))) (label_of (atom_from equality (u ∷ t ∷ [])))))
      go true b = tt
      go false true = two t u x y
      go false false = two u t y x

  other-asks : (q : ℕ) (us : List ℕ) → 0 < q → q ≤ p → length us ≡ get_or ar q 0 → T.All (Fitting c) us → Asks ar c p (test_of (atom_from q us))
  unfolding test_of
  other-asks q us i h l a = rw (ne_eqb q equality (λ e. omega arith)) (label-declared q us h l a)

-- ===== Trees =====

asked-branch : (ar : List ℕ) (c p : ℕ) (t : Test) (h f : Reading) → Asks ar c p t → EachAsked (DeclaredLabel ar c p) h → EachAsked (DeclaredLabel ar c p) f
    → EachAsked (DeclaredLabel ar c p) (branch t h f)
asked-branch ar c p Always h f a x y = (x, y)
asked-branch ar c p (Is l) h f a x y = (a, x, y)

-- labels of a good reading
proper-asked : (ar : List ℕ) (c p : ℕ) (P : ℕ → Type 0) (r : Reading) → GoodReading ar P r → EachAsked (DeclaredLabel ar c p) r → EachAsked (Proper ar p (Constant c)) r
proper-asked ar c p P (number v) g a = tt
proper-asked ar c p P (branch Always h f) g a = (proper-asked ar c p P h g.1 a.0, proper-asked ar c p P f g.2 a.1)
proper-asked ar c p P (branch (Is l) h f) g a = (
  record { is-label = g.0.0; predicate = a.0.predicate; terms = a.0.constants },
  proper-asked ar c p P h g.1 a.1,
  proper-asked ar c p P f g.2 a.2,
)

declared-below : (ks : List Key) (k : Key) → is_among k ks ≡ true → place_of k ks < length ks
unfolding is_among
declared-below ks k e = ltb-true (place_of k ks) (length ks) e

module _ (σ : Environment) (fit : NamesFit σ) where
  resolving : Resolving σ (Fitting (length σ.constants)) (λ us. Unit {0})
  resolving = record { each = each }
    where
      each : (us : Met) (t : T.Term) (g : Result ℕ) → Unit {0} → resolve_term σ us t ≡ ok g → Fitting (length σ.constants) g.value × Unit {0}
      each us (term plain n) g q e =
          (fitting-constant σ.constants (key_of n) g.value fit.constants-few (had us (constant_number σ.constants (key_of n)) g e).0, tt)
      each us (term variable n) g q e =
          let vs = met σ.binding us.variables (key_of n) in (
            fitting-variable (length σ.constants) σ.binding vs (key_of n) g.value
                (had (variable_met σ.binding us (key_of n)) (variable_number σ.binding vs (key_of n)) g e).0,
            tt,
          )
      each us (term minimum n) g q e =
          let vs = met σ.binding us.minimums (key_of n) in (
            fitting-minimum (length σ.constants) σ.binding vs (key_of n) g.value
                (had (minimum_met σ.binding us (key_of n)) (minimum_number σ.binding vs (key_of n)) g e).0,
            tt,
          )
      each us (term parameter n) g q e =
          (fitting-parameter (length σ.constants) σ.parameters (key_of n) g.value fit.parameters-few (had us (parameter_number σ.parameters (key_of n)) g e).0, tt)

  asked_by : (q : ℕ) (ts : List T.Term) (vs : Met) (g : Result Test)
      → ((us : List ℕ) → length us ≡ length ts → T.All (Fitting (length σ.constants)) us → Asks σ.arities (length σ.constants) (length σ.predicates) (test_of (atom_from q us)))
      → and_then (resolve_terms σ vs ts) (testing q) ≡ ok g → Asks σ.arities (length σ.constants) (length σ.predicates) g.value
  asked_by q ts vs g f e =
      let x = chained (resolve_terms σ vs ts) (testing q) g e in
      let r = terms-resolved σ (Fitting (length σ.constants)) (λ us. Unit {0}) resolving ts vs x.first tt x.answers in
      let z : ◌≡◌ {A = Result Test} (record { value = test_of (atom_from q x.first.value); met = x.first.met }) g = ok-one x.then in
      subst (λ (y : Result Test). Asks σ.arities (length σ.constants) (length σ.predicates) y.value) z (f x.first.value r.count r.all)

  atom-asks : (a : T.Atom) (vs : Met) (g : Result Test) → resolve_atom σ vs a ≡ ok g → Asks σ.arities (length σ.constants) (length σ.predicates) g.value
  atom-asks (equal a b) vs g e = asked_by equality (a ∷ b ∷ []) vs g (λ us. two us) e
    where
      two : (us : List ℕ) → length us ≡ equality_arity → T.All (Fitting (length σ.constants)) us
          → Asks σ.arities (length σ.constants) (length σ.predicates) (test_of (atom_from equality us))
      two [] l m = absurd (omega arith)
      two (t ∷ []) l m = absurd (omega arith)
      two (t ∷ u ∷ []) l m = equal-asks σ.arities fit.arity-list (length σ.constants) (length σ.predicates) t u m.0 m.1.0
      two (t ∷ u ∷ v ∷ us) l m = absurd (omega arith)
  atom-asks (holds n ts) vs g e =
      let q : ℕ = place_of (key_of n) σ.predicates + 1 in
      let x = chosen (is_among (key_of n) σ.predicates) _ Name g e in
      let y = chosen (eqb (length ts) (get_or σ.arities q 0)) _ Arity g x.1 in
      let h = declared-below σ.predicates (key_of n) x.0 in
      let l : length ts ≡ get_or σ.arities q 0 = eqb-true (length ts) (get_or σ.arities q 0) y.0 in
      asked_by q ts vs g (λ us m a. other-asks σ.arities fit.arity-list (length σ.constants) (length σ.predicates) q us (omega arith) (omega arith) (m ∙ l) a) y.1

  diagram-asks : (d : T.Diagram) (vs : Met) (g : Result Reading) → resolve_diagram σ vs d ≡ ok g
      → EachAsked (DeclaredLabel σ.arities (length σ.constants) (length σ.predicates)) g.value
  diagram-asks (numeral n) vs g e =
      subst (λ (r : Result Reading). EachAsked (DeclaredLabel σ.arities (length σ.constants) (length σ.predicates)) r.value)
      (passed (leb (value_of n) highest_value) _ Range g e).1 tt
  diagram-asks (conditional a d e) vs g z =
      let x = chained (resolve_atom σ vs a) _ g z in
      let y = chained (resolve_diagram σ x.first.met d) _ g x.then in
      let v = chained (resolve_diagram σ y.first.met e) (branching x.first.value y.first.value) g y.then in
      let u : ◌≡◌ {A = Result Reading} (record { value = branch x.first.value y.first.value v.first.value; met = v.first.met }) g = ok-one v.then in
      subst (λ (r : Result Reading). EachAsked (DeclaredLabel σ.arities (length σ.constants) (length σ.predicates)) r.value) u
      (asked-branch σ.arities (length σ.constants) (length σ.predicates) x.first.value y.first.value v.first.value
      (atom-asks a vs x.first x.answers) (diagram-asks d x.first.met y.first y.answers) (diagram-asks e y.first.met v.first v.answers))

  -- ===== What is built =====

  module _ (d : T.Diagram) (shallow : T.brackets d ≤ most_tests) (vs : Met) (w : Written) (e : reading σ (diagram_events d) vs ≡ ok w) (x : Diagram) where
    tree : Resolved σ vs d w
    tree = resolved σ fit d vs w e

    -- a weight or a truth diagram
    pub text-declares : built w.operations ≡ ok x → Declares σ.arities (length σ.constants) (length σ.predicates) x
    text-declares m =
        let r = tree in
        let h = (text-held r.tree).given x (sym (built-text r.tree (omega (arith, r.shallow))) ∙ ap built (sym r.operations) ∙ m) in
        subst (Declares σ.arities (length σ.constants) (length σ.predicates)) (sym h.is) (labels-for _ r.tree (diagram-asks d vs _ r.stands.resolved))

    -- a reward, closed up
    pub reward-declares : built_closed σ.arities w.operations ≡ ok x → Declares σ.arities (length σ.constants) (length σ.predicates) x
    reward-declares m =
        let ar = σ.arities in
        let c = length σ.constants in
        let p = length σ.predicates in
        let r = tree in
        let h = (reward-held ar r.tree).given x (sym (built-reward ar r.tree (omega (arith, r.shallow))) ∙ ap (built_closed ar) (sym r.operations) ∙ m) in
        let q = proper-asked ar c p _ r.tree r.good (diagram-asks d vs _ r.stands.resolved) in
        subst (Declares ar c p) (sym h.is)
        (proper-declared ar c p (Constant c) (λ t k. k) (closed ar (diagram_for r.tree))
        (closed-proper ar fit.arity-list p (Constant c) (λ t k i. absurd (omega arith)) (diagram_for r.tree) (labels-for _ r.tree q)))
