-- What the words of a diagram come to is well formed: labels under the arity list, no name unbound, leaves in range.
use Rattle.std.specs.Prelude.{ℕ, ◌+◌, ◌≤◌, ◌<◌, min, ◌≡◌, refl, List, [], ◌∷◌, eqb, ltb, leb, get_or}
use Rattle.std.proofs.Common.{sym, ap, ◌∙◌}
use Rattle.std.proofs.Math.Path.{subst}
use Rattle.std.proofs.Math.Bool.{true, cond}
use native.Mathlib.Omega.{arith}
use Rattle.std.proofs.Math.Decide.{dec_lt}
use borrow.Author.Tests.{eq-eqb, ne_eqb, eqb-true, ltb-true, leb-true, lt-ltb, le-ltb, le-leb}
use Rattle.std.proofs.Math.ListN.{length, get_or-eq_default}
use Rattle.basics.specs.Tests.{Cmp, cmp}
use Rattle.basics.specs.Tests.Cmp.{below, equal as alike, above}
use Rattle.refusal.specs.declared.Refusal.TheVariants.{Name, Arity, Range, Unbound, Variables}
use Rattle.refusal.specs.Outcome.{Outcome, ok, refused, and_then}
use Rattle.label.specs.Limits.{constant_count, first_parameter, parameter_count, first_variable, variable_count, first_minimum, minimum_count, term_base, predicate_count, equality, equality_arity}
use Rattle.label.specs.Terms.{is_constant, is_parameter, is_variable, is_minimum, is_term}
use Rattle.label.specs.Labels.{are_arities, place_fits, in_order, atom_from, packed, unpacked, predicate_of, label_of, equates, test_of}
use Rattle.label.specs.Renamings.{EachTerm, EachIn}
use Rattle.label.proofs.LabelLaws.{term-below, place-from, below-places, fits-atom, unpacked-packed, label-packed}
use Rattle.label.proofs.ArityLaws.{arity-two}
use Rattle.label.specs.Callers.{Places}
use Rattle.label.specs.declared.Atom.{Atom}
use Rattle.label.specs.declared.Test.{Test}
use Rattle.label.specs.declared.Test.TheVariants.{Always}
use Rattle.diagram.specs.Sizes.{highest_value}
use Rattle.words.specs.Bytes.{value_of}
use Rattle.words.specs.Keys.{key_of}
use Rattle.words.specs.declared.Key.{Key}
use Rattle.forms.specs.Tree as T
use Rattle.forms.specs.Tree.Mark.{plain, variable, parameter, minimum}
use Rattle.forms.specs.Tree.Term.{term}
use Rattle.forms.specs.Tree.Atom.{equal, holds}
use Rattle.forms.specs.Tree.Diagram.{number as numeral, branch as conditional}
use Rattle.names.specs.Keys.{place_of, is_among}
use Rattle.events.specs.Events.{diagram_events}
use Rattle.reading.specs.declared.Binding.{Binding}
use Rattle.reading.specs.declared.Binding.TheVariants.{Any, None, Only}
use Rattle.reading.specs.Reading.{Environment, constant_number, parameter_number, met, Met, last_variable, number_in}
use Rattle.reading.specs.Reading.{variable_number, minimum_number, variable_met, minimum_met, Written, is_within, reading}
use Rattle.reading.specs.AllLaws.{all-at}
use Rattle.reading.specs.OutcomeLaws.{apart, ok-one, chosen, passed, chained}
use Rattle.reading.specs.Tree.{Reading, Result, having, resolve_term, resolve_terms, testing, resolve_atom, branching, resolve_diagram}
use Rattle.reading.specs.Inner.{writing, diagram_reading, depth, Reach, Named, maximum_reach, reach, GoodTest, GoodReading, NamesFit, Sound}
use Rattle.reading.specs.Tree.Reading.{branch}
use Rattle.reading.specs.TreeLaws.{Resolving, terms-resolved, reading-diagram}

-- terms

among_below : (k : Key) (ks : List Key) → is_among k ks ≡ true → place_of k ks < length ks
unfolding is_among
among_below k ks e = ltb-true (place_of k ks) (length ks) e

-- an answer with the variables met, taken apart
pub had : {A : Type 0} (m : Met) (j : Outcome A) (g : Result A) → having m j ≡ ok g → (j ≡ ok g.value) × (m ≡ g.met)
had {A} m (ok x) g e =
    let z : ◌≡◌ {A = Result A} (record { value = x; met = m }) g = cc in
    (ap (λ (y : Result A). ok y.value) z, ap (λ (y : Result A). y.met) z)
had m (refused r) g e = absurd (apart e)

constant-term : (t : ℕ) → t < constant_count → is_term t ≡ true
unfolding is_term is_constant
constant-term t h = rw (lt-ltb t constant_count h)

parameter-term : (i : ℕ) → i < parameter_count → is_term (first_parameter + i) ≡ true
unfolding is_term is_constant is_parameter
parameter-term i h =
    rw (
      le-ltb (first_parameter + i) constant_count (omega arith),
      le-leb first_parameter (first_parameter + i) (omega arith),
      lt-ltb (first_parameter + i) (first_parameter + parameter_count) (omega arith),
    )

variable-term : (i : ℕ) → i < variable_count → is_term (first_variable + i) ≡ true
unfolding is_term is_constant is_parameter is_variable
variable-term i h =
    rw (
      le-ltb (first_variable + i) constant_count (omega arith),
      le-leb first_parameter (first_variable + i) (omega arith),
      le-ltb (first_variable + i) (first_parameter + parameter_count) (omega arith),
      le-leb first_variable (first_variable + i) (omega arith),
      lt-ltb (first_variable + i) (first_variable + variable_count) (omega arith),
    )

minimum-term : (i : ℕ) → i < minimum_count → is_term (first_minimum + i) ≡ true
unfolding is_term is_constant is_parameter is_variable is_minimum
minimum-term i h =
    rw (
      le-ltb (first_minimum + i) constant_count (omega arith),
      le-leb first_parameter (first_minimum + i) (omega arith),
      le-ltb (first_minimum + i) (first_parameter + parameter_count) (omega arith),
      le-leb first_variable (first_minimum + i) (omega arith),
      le-ltb (first_minimum + i) (first_variable + variable_count) (omega arith),
      le-leb first_minimum (first_minimum + i) (omega arith),
      lt-ltb (first_minimum + i) (first_minimum + minimum_count) (omega arith),
    )

module _ (c : ℕ) (n : Reach) where
  constant-named : (ks : List Key) (k : Key) (t : ℕ) → length ks ≤ constant_count → constant_number ks k ≡ ok t → Named c n t
  unfolding constant_number
  constant-named ks k t h e =
      let p = passed (is_among k ks) (place_of k ks) Name t e in
      let l = among_below k ks p.0 in
      let z : place_of k ks ≡ t = p.1 in
      record {
        is-term = constant-term t (omega arith);
        parameters = λ m. absurd (omega arith);
        variables = λ m. absurd (omega arith);
        minimums = omega arith;
      }

  variable-named : (vs : List Key) (k : Key) (t : ℕ) → number_in first_variable vs k ≡ t → min (place_of k vs) last_variable < n.variables → Named c n t
  unfolding number_in
  variable-named vs k t e h =
      record {
        is-term = subst (λ x. is_term x ≡ true) e (variable-term (min (place_of k vs) last_variable) (omega arith));
        parameters = λ m. omega arith;
        variables = λ m. absurd (omega arith);
        minimums = omega arith;
      }

  minimum-named : (vs : List Key) (k : Key) (t : ℕ) → number_in first_minimum vs k ≡ t → min (place_of k vs) last_variable < n.minimums → Named c n t
  unfolding number_in
  minimum-named vs k t e h =
      record {
        is-term = subst (λ x. is_term x ≡ true) e (minimum-term (min (place_of k vs) last_variable) (omega arith));
        parameters = λ m. omega arith;
        variables = λ m. omega arith;
        minimums = omega arith;
      }

parameter-named : (n : Reach) (ks : List Key) (k : Key) (t : ℕ) → length ks ≤ parameter_count → parameter_number ks k ≡ ok t → Named (length ks) n t
unfolding parameter_number
parameter-named n ks k t h e =
    let p = passed (is_among k ks) (first_parameter + place_of k ks) Unbound t e in
    let l = among_below k ks p.0 in
    let z : first_parameter + place_of k ks ≡ t = p.1 in
    record {
      is-term = subst (λ x. is_term x ≡ true) z (parameter-term (place_of k ks) (omega arith));
      parameters = λ m. absurd (omega arith);
      variables = λ m. absurd (omega arith);
      minimums = omega arith;
    }

-- where no minimum variable may be named, only so many variables are
pub named-below : (c n t : ℕ) → Named c (maximum_reach n) t → t < first_variable + n
named-below c n t h = go (cmp t (first_variable + n))
  where
    go : Cmp t (first_variable + n) → t < first_variable + n
    go (below l) = l
    go (alike e) = absurd (omega (arith, h.variables (omega arith), h.minimums))
    go (above l) = absurd (omega (arith, h.variables (omega arith), h.minimums))

-- a variable, by what may be named
bound-named : (c : ℕ) (b : Binding) (m : Met) (k : Key) (t : ℕ) → variable_number b (met b m.variables k) k ≡ ok t
    → Named c (reach b m) t × (reach b (variable_met b m k) ≡ reach b m)
unfolding variable_number met
bound-named c Any m k t e =
    let z : number_in first_variable (met Any m.variables k) k ≡ t = cc in
    (variable-named c (reach Any m) (met Any m.variables k) k t z (omega arith), refl)
bound-named c None m k t e = absurd (apart e)
bound-named c Only m k t e =
    let p = passed (is_among k m.variables) (number_in first_variable m.variables k) Unbound t e in
    (variable-named c (reach Only m) m.variables k t p.1 (omega (arith, among_below k m.variables p.0)), refl)

-- a minimum variable: in a reward
lowest-named : (c : ℕ) (b : Binding) (m : Met) (k : Key) (t : ℕ) → minimum_number b (met b m.minimums k) k ≡ ok t
    → Named c (reach b m) t × (reach b (minimum_met b m k) ≡ reach b m)
unfolding minimum_number
lowest-named c Any m k t e =
    let z : number_in first_minimum (met Any m.minimums k) k ≡ t = cc in
    (minimum-named c (reach Any m) (met Any m.minimums k) k t z (omega arith), refl)
lowest-named c None m k t e = absurd (apart e)
lowest-named c Only m k t e = absurd (apart e)

-- every term of a line is one that may be named
names-resolving : (σ : Environment) → NamesFit σ → (vs : Met)
    → Resolving σ (Named (length σ.parameters) (reach σ.binding vs)) (λ us. reach σ.binding us ≡ reach σ.binding vs)
names-resolving σ f vs = record { each = each }
  where
    P : ℕ → Type 0
    P = Named (length σ.parameters) (reach σ.binding vs)

    Q : Met → Type 0
    Q us = reach σ.binding us ≡ reach σ.binding vs

    each : (us : Met) (t : T.Term) (g : Result ℕ) → Q us → resolve_term σ us t ≡ ok g → P g.value × Q g.met
    each us (term plain n) g q e =
        let h = had us (constant_number σ.constants (key_of n)) g e in
        (constant-named (length σ.parameters) (reach σ.binding vs) σ.constants (key_of n) g.value f.constants-few h.0, subst Q h.1 q)
    each us (term variable n) g q e =
        let k : Key = key_of n in
        let h = had (variable_met σ.binding us k) (variable_number σ.binding (met σ.binding us.variables k) k) g e in
        let b = bound-named (length σ.parameters) σ.binding us k g.value h.0 in
        (subst (λ n. Named (length σ.parameters) n g.value) q b.0, subst Q h.1 (b.1 ∙ q))
    each us (term parameter n) g q e =
        let h = had us (parameter_number σ.parameters (key_of n)) g e in
        (parameter-named (reach σ.binding vs) σ.parameters (key_of n) g.value f.parameters-few h.0, subst Q h.1 q)
    each us (term minimum n) g q e =
        let k : Key = key_of n in
        let h = had (minimum_met σ.binding us k) (minimum_number σ.binding (met σ.binding us.minimums k) k) g e in
        let b = lowest-named (length σ.parameters) σ.binding us k g.value h.0 in
        (subst (λ n. Named (length σ.parameters) n g.value) q b.0, subst Q h.1 (b.1 ∙ q))

-- labels

in_order_lem : (x y : ℕ) → x < y → in_order (atom_from equality (x ∷ y ∷ [])) ≡ true
unfolding in_order
in_order_lem x y h = rw (lt-ltb x y h)

module _ (ar : List ℕ) (P : ℕ → Type 0) (w : (t : ℕ) → P t → is_term t ≡ true) where
  place_is : (n : ℕ) (us : List ℕ) (k : ℕ) → length us ≡ n → T.All P us → place_fits n k (get_or us k 0) ≡ true
  unfolding place_fits
  place_is n us k l a = go (dec_lt k n)
    where
      go : Dec (k < n) → cond (ltb k n) (is_term (get_or us k 0)) (eqb (get_or us k 0) 0) ≡ true
      go (yes h) = rw (lt-ltb k n h, w (get_or us k 0) (all-at P us 0 k a (omega arith)))
      go (no h) =
          let z : length us ≤ k = omega arith in
          rw (le-ltb k n (omega arith), eq-eqb (get_or us k 0) 0 (get_or-eq_default us 0 z))

  place-below : (us : List ℕ) (k : ℕ) → T.All P us → get_or us k 0 < term_base
  place-below us k a = go (dec_lt k (length us))
    where
      go : Dec (k < length us) → get_or us k 0 < term_base
      go (yes h) = omega (arith, term-below (get_or us k 0) (w (get_or us k 0) (all-at P us 0 k a h)))
      go (no h) =
          let z : length us ≤ k = omega arith in
          let e = get_or-eq_default us 0 z in
          omega arith

  module _ (q : ℕ) (us : List ℕ) (l : length us ≡ get_or ar q 0) (a : T.All P us) where
    places : Places term_base (atom_from q us)
    places = below-places term_base (atom_from q us) (λ k h. rw (place-from q us k h) (place-below us k a))

    each-term : EachTerm P (get_or ar q 0) (atom_from q us)
    each-term = record { on = λ k n h. rw (place-from q us k h) (all-at P us 0 k a (omega arith)) }

    each_in : EachIn ar P (packed (atom_from q us))
    unfolding predicate_of unpacked
    each_in = subst (λ (x : Atom). EachTerm P (get_or ar x.predicate 0) x) (sym (unpacked-packed (atom_from q us) places)) each-term

    label-good : q < predicate_count → in_order (atom_from q us) ≡ true → GoodTest ar P (label_of (atom_from q us))
    label-good h o = (
      label-packed ar (atom_from q us) places
          ∙ fits-atom ar (atom_from q us)
          (record {
            predicate-fits = h;
            places-fit = record { fits = λ k h. rw (place-from q us k h) (place_is (get_or ar q 0) us k l a) };
            ordered = o;
          }),
      each_in,
    )

    -- a declared predicate
    test_good : 0 < q → q < predicate_count → GoodTest ar P (test_of (atom_from q us))
    unfolding test_of in_order
    test_good p h = rw (ne_eqb q equality (λ e. omega arith)) (label-good h (rw (ne_eqb q equality (λ e. omega arith))))

  -- equality: the smaller term first
  equal-good : are_arities ar ≡ true → (t u : ℕ) → P t → P u → GoodTest ar P (test_of (atom_from equality (t ∷ u ∷ [])))
  unfolding test_of equates
  equal-good e t u p q = go (cmp t u)
    where
      go : Cmp t u → GoodTest ar P (cond (eqb t u) Always (cond (ltb t u) (label_of (atom_from equality (t ∷ u ∷ []))) (label_of (atom_from equality (u ∷ t ∷ [])))))
      go (below h) =
          rw (ne_eqb t u (λ z. omega arith), lt-ltb t u h)
          (label-good equality (t ∷ u ∷ []) (sym (arity-two ar e)) (p, (q, tt)) (omega arith) (in_order_lem t u h))
      go (alike z) = rw (eq-eqb t u z) tt
      go (above h) =
          rw (ne_eqb t u (λ z. omega arith), le-ltb t u (omega arith))
          (label-good equality (u ∷ t ∷ []) (sym (arity-two ar e)) (q, (p, tt)) (omega arith) (in_order_lem u t h))

-- atoms

-- what a resolved part keeps: a property of its value, and one of the variables
pub record Keeps {A : Type 0} (P : A → Type 0) (Q : Met → Type 0) (g : Result A) : Type 0 where
  pub value-good : P g.value
  pub met-still : Q g.met

module _ (σ : Environment) (P : ℕ → Type 0) (Q : Met → Type 0) (fits : NamesFit σ) (w : (t : ℕ) → P t → is_term t ≡ true) (s : Resolving σ P Q) where
  tested : (q : ℕ) (ts : List T.Term) (vs : Met) (g : Result Test) → Q vs → ((us : List ℕ) → length us ≡ length ts → T.All P us → GoodTest σ.arities P (test_of (atom_from q us)))
      → and_then (resolve_terms σ vs ts) (testing q) ≡ ok g → Keeps (GoodTest σ.arities P) Q g
  tested q ts vs g k f e =
      let c = chained (resolve_terms σ vs ts) (testing q) g e in
      let r = terms-resolved σ P Q s ts vs c.first k c.answers in
      let z : ◌≡◌ {A = Result Test} (record { value = test_of (atom_from q c.first.value); met = c.first.met }) g = ok-one c.then in
      subst (Keeps (GoodTest σ.arities P) Q) z (record { value-good = f c.first.value r.count r.all; met-still = r.met-still })

  atom-good : (a : T.Atom) (vs : Met) (g : Result Test) → Q vs → resolve_atom σ vs a ≡ ok g → Keeps (GoodTest σ.arities P) Q g
  atom-good (equal a b) vs g k e = tested equality (a ∷ b ∷ []) vs g k (λ us. equal-terms us) e
    where
      equal-terms : (us : List ℕ) → length us ≡ equality_arity → T.All P us → GoodTest σ.arities P (test_of (atom_from equality us))
      equal-terms [] l m = absurd (omega arith)
      equal-terms (t ∷ []) l m = absurd (omega arith)
      equal-terms (t ∷ u ∷ []) l m = equal-good σ.arities P w fits.arity-list t u m.0 m.1.0
      equal-terms (t ∷ u ∷ v ∷ us) l m = absurd (omega arith)
  atom-good (holds p ts) vs g k e =
      let q : ℕ = place_of (key_of p) σ.predicates + 1 in
      let c = chosen (is_among (key_of p) σ.predicates) _ Name g e in
      let d = chosen (eqb (length ts) (get_or σ.arities q 0)) _ Arity g c.1 in
      let l = among_below (key_of p) σ.predicates c.0 in
      let n : length ts ≡ get_or σ.arities q 0 = eqb-true (length ts) (get_or σ.arities q 0) d.0 in
      tested q ts vs g k (λ us m a. test_good σ.arities P w q us (m ∙ n) a (omega arith) (omega (arith, fits.predicates-few))) d.1

  -- diagrams
  diagram-good : (d : T.Diagram) (vs : Met) (g : Result Reading) → Q vs → resolve_diagram σ vs d ≡ ok g
      → Keeps (λ r. GoodReading σ.arities P r × (depth r ≤ T.brackets d)) Q g
  diagram-good (numeral n) vs g k e =
      let c = passed (leb (value_of n) highest_value) _ Range g e in
      subst (Keeps (λ r. GoodReading σ.arities P r × (depth r ≤ 0)) Q) c.1
      (record { value-good = (leb-true (value_of n) highest_value c.0, omega arith); met-still = k })
  diagram-good (conditional a d e) vs g k z =
      let c = chained (resolve_atom σ vs a) _ g z in
      let x = atom-good a vs c.first k c.answers in
      let c₁ = chained (resolve_diagram σ c.first.met d) _ g c.then in
      let y = diagram-good d c.first.met c₁.first x.met-still c₁.answers in
      let c₂ = chained (resolve_diagram σ c₁.first.met e) (branching c.first.value c₁.first.value) g c₁.then in
      let v = diagram-good e c₁.first.met c₂.first y.met-still c₂.answers in
      let u : ◌≡◌ {A = Result Reading} (record { value = branch c.first.value c₁.first.value c₂.first.value; met = c₂.first.met }) g = ok-one c₂.then in
      subst (Keeps (λ r. GoodReading σ.arities P r × (depth r ≤ T.brackets (conditional a d e))) Q) u
      (record {
        value-good = ((x.value-good, y.value-good.0, v.value-good.0), omega (arith, y.value-good.1, v.value-good.1));
        met-still = v.met-still;
      })

-- the words of a line with a diagram, not refused, come to the operations of a good diagram
pub reading-sound : (σ : Environment) → NamesFit σ → (d : T.Diagram) (vs : Met) (w : Written) → reading σ (diagram_events d) vs ≡ ok w → Sound σ vs d w
unfolding diagram_reading
reading-sound σ f d vs w e =
    let c = chained (resolve_diagram σ vs d) writing w (sym (reading-diagram σ d vs) ∙ e) in
    let g = diagram-good σ (Named (length σ.parameters) (reach σ.binding vs)) (λ us. reach σ.binding us ≡ reach σ.binding vs) f (λ t n. n.is-term) (names-resolving σ f vs)
    d vs c.first refl c.answers in
    let p = passed (is_within c.first.met) _ Variables w c.then in
    record {
      tree = c.first.value;
      operations = ap (λ (x : Written). x.operations) (sym p.1);
      good = g.value-good.0;
      shallow = g.value-good.1;
      few = subst (λ (x : Written). is_within x.met ≡ true) p.1 p.0;
    }
