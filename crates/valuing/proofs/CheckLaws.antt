-- Laws of the checks before valuing: objects within range, terms counted, valuations within the limit.
use mathlib.Core.Path.{◌≡◌, refl, sym, ap, ap₂, ◌∙◌}
use mathlib.Core.Bool.{Bool, true, false, not, cond}
use mathlib.Core.List.{List, []}
use Prim.Native.Nat.{ℕ, zero, suc, ◌+◌, ◌-◌, ◌*◌, ◌/◌, ◌^◌, ◌≤◌, ◌<◌, min}
use native.Mathlib.Nat.{pow-zero, pow-suc, pow-le-pow_right, mul-le-mul}
use native.Mathlib.Numerals.{add-one}
use native.Mathlib.Omega.{arith}
use borrow.Author.Tests.{leb-true, eq-eqb, ne_eqb, lt-ltb, le-ltb, le-leb, lt-leb, not-true, not-false}
use lib.ListN.{length, get_or, take, length-take}
use lib.Seq.{get_or-take}
use lib.Dec.{eqb, ltb, leb}
use Rattle.basics.specs.Tests.{Cmp, below, equal, above, cmp, and_left}
use Rattle.label.specs.Limits.{constant_count, first_parameter, parameter_count, first_variable, variable_count, first_minimum, minimum_count, most_places}
use Rattle.diagram.specs.Words.{every_below, is_listing}
use Rattle.diagram.specs.WordLaws.{every-below, below-every}
use Rattle.diagram.specs.RowLaws.{same_tests}
use Rattle.diagram.specs.Listing.{diagram_of}
use Rattle.diagram.specs.Variables.{variables, minimums, is_plain}
use Rattle.diagram.specs.Validity.{Valid}
use Rattle.diagram.specs.ListingValid.{listing-is-valid}
use Rattle.state.specs.Lent.{fact_count, fact_words, predicate_at, objects_at, all_below, names_below, constants_below, state_of, is_state}
use Rattle.refusal.specs.declared.Refusal.TheVariants.{Range, Unbound, Listing}
use Rattle.listing.specs.Used.{Used, set_from, marked_variables, marked_minimums}
use Rattle.listing.specs.UsedLaws.{set-occurring, marked-variables, marked-minimums, marked-plain}
use Rattle.state.specs.ValueCall.{most_valuations, parameters, valuations}
use Rattle.elimination.specs.Answer.{answer_by, is_too_large, value_answer}
use Rattle.valuing.specs.Walks.{bound_number, bound_answer, is_few, InState}
use Rattle.valuing.specs.Tables.{tables_answer}
use Rattle.state.proofs.LentLaws.{objects-length, object-at, all_made, all-at}
use Rattle.fact_index.specs.Inner.{place_count, object_at}
use Rattle.valuing.proofs.PassedLaws.{Passed, passed_start, passed_on, passed-no, passed-all}
use Rattle.refusal.specs.declared.Refusal.{Refusal}
use Rattle.std.specs.Prelude.{Err, Ok, Result}

-- the objects of a row one by one
pub record Fitting (ar : List ℕ) (n : ℕ) (facts : List ℕ) (i j : ℕ) : Type 0 where
  pub most : j ≤ place_count ar (predicate_at facts i)
  pub passed : Passed (λ m. ltb (object_at facts i m) n) j

pub fitting-start : (ar : List ℕ) (n : ℕ) (facts : List ℕ) (i : ℕ) → Fitting ar n facts i 0
fitting-start ar n facts i = record { most = omega arith; passed = passed_start }

-- the objects of p's places in row i are below n, all of them or place by place
names-every : (ar : List ℕ) (n : ℕ) (facts : List ℕ) (i : ℕ) → i < fact_count facts
    → names_below ar n facts i ≡ every_below (place_count ar (predicate_at facts i)) (λ m. ltb (object_at facts i m) n)
unfolding names_below place_count
names-every ar n facts i h = same_tests _ _ there back
  where
    k : ℕ
    k = get_or ar (predicate_at facts i) 0

    size : length (take k (objects_at facts i)) ≡ min k most_places
    size = length-take k (objects_at facts i) ∙ ap (min k) (objects-length facts i h)

    word : (m : ℕ) → m < min k most_places → get_or (take k (objects_at facts i)) m 0 ≡ object_at facts i m
    word m l = get_or-take k (objects_at facts i) m 0 (omega arith) ∙ object-at facts i m (omega arith)

    there : all_below n (take k (objects_at facts i)) ≡ true → every_below (min k most_places) (λ m. ltb (object_at facts i m) n) ≡ true
    there e = every-below (min k most_places) _ (λ m l. ap (λ (x : ℕ). ltb x n) (sym (word m l)) ∙ all-at n (take k (objects_at facts i)) m (omega (arith, size)) e)

    back : every_below (min k most_places) (λ m. ltb (object_at facts i m) n) ≡ true → all_below n (take k (objects_at facts i)) ≡ true
    back e = all_made n (take k (objects_at facts i)) (λ m l.
        let q : m < min k most_places = omega (arith, size) in
        ap (λ (x : ℕ). ltb x n) (word m q) ∙ below-every (min k most_places) (λ m. ltb (object_at facts i m) n) m e q)

module _ {ar facts : List ℕ} {n i j k : ℕ} (room : i * fact_words + fact_words ≤ length facts)
    (e : (k ≡ place_count ar (get_or facts (i * fact_words) 0)) × (k ≤ most_places)) (s : Fitting ar n facts i j) where
  pub fitting-on : j < k → object_at facts i j < n → Fitting ar n facts i (j + 1)
  unfolding predicate_at
  fitting-on l h = record { most = omega (arith, e.0); passed = passed_on s.passed refl (lt-ltb (object_at facts i j) n h) }

  pub fitting-no : j < k → n ≤ object_at facts i j → false ≡ names_below ar n facts i
  unfolding predicate_at
  fitting-no l h =
      passed-no (place_count ar (predicate_at facts i)) (λ m. ltb (object_at facts i m) n) j (omega (arith, e.0)) refl (le-ltb (object_at facts i j) n h)
      ∙ sym (names-every ar n facts i (omega arith))

  pub fitting-all : k ≤ j → true ≡ names_below ar n facts i
  unfolding predicate_at
  fitting-all h =
      passed-all (place_count ar (predicate_at facts i)) (λ m. ltb (object_at facts i m) n) j s.passed (omega (arith, e.0))
      ∙ sym (names-every ar n facts i (omega arith))

-- the constants one by one
pub record Placing (n : ℕ) (constants : List ℕ) (c : ℕ) : Type 0 where
  pub most : c ≤ constant_count
  pub passed : Passed (λ k. ltb (get_or constants k 0) n) c

pub placing-start : (n : ℕ) (constants : List ℕ) → Placing n constants 0
placing-start n constants = record { most = omega arith; passed = passed_start }

pub placing-on : {n : ℕ} {constants : List ℕ} {c x : ℕ} → Placing n constants c → c < constant_count → x ≡ get_or constants c 0 → x < n → Placing n constants (c + 1)
placing-on {n} {constants} {c} {x} s h e l = record { most = omega arith; passed = passed_on s.passed (ap (λ y. ltb y n) e) (lt-ltb x n l) }

module _ (n : ℕ) (constants : List ℕ) where
  pub constants-no : (c : ℕ) {x : ℕ} → c < constant_count → x ≡ get_or constants c 0 → n ≤ x → false ≡ constants_below n constants
  unfolding constants_below
  constants-no c {x} h e l = passed-no constant_count (λ c. ltb (get_or constants c 0) n) c h (ap (λ y. ltb y n) e) (le-ltb x n l)

  pub constants-all : {c : ℕ} → Placing n constants c → constant_count ≤ c → true ≡ constants_below n constants
  unfolding constants_below
  constants-all {c} s l = passed-all constant_count (λ c. ltb (get_or constants c 0) n) c s.passed l

-- the facts one by one
pub record Naming (ar : List ℕ) (n : ℕ) (facts : List ℕ) (i : ℕ) : Type 0 where
  pub most : i ≤ fact_count facts
  pub passed : Passed (names_below ar n facts) i

pub naming-start : (ar : List ℕ) (n : ℕ) (facts : List ℕ) → Naming ar n facts 0
naming-start ar n facts = record { most = omega arith; passed = passed_start }

pub naming-on : {ar : List ℕ} {n : ℕ} {facts : List ℕ} {i : ℕ} {b : Bool} → Naming ar n facts i → i < length facts / fact_words → b ≡ names_below ar n facts i → not b ≡ false
    → Naming ar n facts (i + 1)
naming-on {b = b} s h e t = record { most = omega arith; passed = passed_on s.passed e (not-false b t) }

pub naming-no : (ar : List ℕ) (n : ℕ) (facts : List ℕ) (i : ℕ) {b : Bool} → i < length facts / fact_words → b ≡ names_below ar n facts i → not b ≡ true
    → false ≡ every_below (fact_count facts) (names_below ar n facts)
naming-no ar n facts i {b} h e t = passed-no (fact_count facts) (names_below ar n facts) i h e (not-true b t)

pub naming-all : {ar : List ℕ} {n : ℕ} {facts : List ℕ} {i : ℕ} → Naming ar n facts i → length facts / fact_words ≤ i → true ≡ every_below (fact_count facts) (names_below ar n facts)
naming-all {ar} {n} {facts} {i} s h = passed-all (fact_count facts) (names_below ar n facts) i s.passed h

-- a lent state
module _ (ar : List ℕ) (n : ℕ) (constants facts : List ℕ) where
  pub state-1 : n ≡ 0 → false ≡ is_state ar n constants facts
  unfolding is_state
  state-1 e = rw e

  pub state-2 : {b : Bool} → (n ≡ 0 → ⊥) → b ≡ constants_below n constants → b ≡ false → b ≡ is_state ar n constants facts
  unfolding is_state
  state-2 {b} z e f = f ∙ rw (le-leb 1 n (omega arith), sym e ∙ f)

  pub state-3 : {b r : Bool} → (n ≡ 0 → ⊥) → b ≡ constants_below n constants → b ≡ true
      → r ≡ every_below (fact_count facts) (names_below ar n facts) → r ≡ is_state ar n constants facts
  unfolding is_state
  state-3 {b} z e f q = rw (le-leb 1 n (omega arith), sym e ∙ f) q

-- the power
module _ (n : ℕ) where
  pub few-none : (v : ℕ) → v ≡ 0 → true ≡ leb (n ^ v) most_valuations
  few-none v e = rw (e, pow-zero)

  pub few-large : (v : ℕ) → (v ≡ 0 → ⊥) → most_valuations < n → false ≡ leb (n ^ v) most_valuations
  few-large v z h =
      let l : n ^ suc 0 ≤ n ^ v = pow-le-pow_right (omega arith) (omega arith) in
      let e : n ^ suc 0 ≡ 1 * n = pow-suc n 0 ∙ ap (λ x. x * n) (pow-zero n) in
      sym (lt-leb (n ^ v) most_valuations (omega arith))

  pub few_past : (v i p : ℕ) → 0 < n → p ≡ n ^ i → i < v → most_valuations < p * n → false ≡ leb (n ^ v) most_valuations
  few_past v i p h e l m =
      let k : n ^ suc i ≤ n ^ v = pow-le-pow_right h l in
      let q : n ^ suc i ≡ p * n = pow-suc n i ∙ ap (λ x. x * n) (sym e) in
      sym (lt-leb (n ^ v) most_valuations (omega arith))

  pub few-all : (v i p : ℕ) → p ≡ n ^ i → p ≤ most_valuations → i ≤ v → v ≤ i → true ≡ leb (n ^ v) most_valuations
  few-all v i p e h l m =
      let q : i ≡ v = omega arith in
      sym (le-leb (n ^ v) most_valuations (rw (← q, ← e) h))

  pub few-fits : (p : ℕ) → p ≤ most_valuations → n ≤ most_valuations → p * n ≤ most_valuations * most_valuations
  few-fits p h k = mul-le-mul h k

  pub few_on : (i p : ℕ) → p ≡ n ^ i → p * n ≡ n ^ (i + 1)
  few_on i p e = rw add-one (ap (λ x. x * n) e ∙ sym (pow-suc n i))

-- parameters one by one: none of the first k is marked
pub record Unmarked (marks : List ℕ) (k : ℕ) : Type 0 where
  pub most : k ≤ parameter_count
  pub rest : set_from marks first_parameter parameter_count ≡ set_from marks (first_parameter + k) (parameter_count - k)

pub unmarked-start : (marks : List ℕ) → Unmarked marks 0
unmarked-start marks = record { most = omega arith; rest = refl }

module _ {marks : List ℕ} {k : ℕ} (s : Unmarked marks k) where
  mark-next : k < parameter_count
      → set_from marks first_parameter parameter_count ≡ cond (eqb (get_or marks (first_parameter + k) 0) 0) 0 1 + set_from marks (suc (first_parameter + k)) (parameter_count - (k + 1))
  unfolding set_from
  mark-next l = let e : parameter_count - k ≡ suc (parameter_count - (k + 1)) = omega arith in s.rest ∙ ap (set_from marks (first_parameter + k)) e

  pub unmarked-on : k < parameter_count → get_or marks (first_parameter + k) 0 ≡ 0 → Unmarked marks (k + 1)
  unmarked-on l e = record {
    most = omega arith;
    rest =
        let n : suc (first_parameter + k) ≡ first_parameter + (k + 1) = omega arith in
        let w : set_from marks (suc (first_parameter + k)) (parameter_count - (k + 1)) ≡ set_from marks (first_parameter + (k + 1)) (parameter_count - (k + 1))
        = ap (λ t. set_from marks t (parameter_count - (k + 1))) n in
        let q : set_from marks first_parameter parameter_count ≡ 0 + set_from marks (suc (first_parameter + k)) (parameter_count - (k + 1))
        = mark-next l ∙ rw (eq-eqb (get_or marks (first_parameter + k) 0) 0 e) refl in
        omega arith;
  }

  pub unmarked-no : k < parameter_count → (get_or marks (first_parameter + k) 0 ≡ 0 → ⊥) → true ≡ not (eqb (set_from marks first_parameter parameter_count) 0)
  unmarked-no l h =
      let e : set_from marks first_parameter parameter_count ≡ 1 + set_from marks (suc (first_parameter + k)) (parameter_count - (k + 1))
      = mark-next l ∙ rw (ne_eqb (get_or marks (first_parameter + k) 0) 0 h) refl in
      rw (ne_eqb (set_from marks first_parameter parameter_count) 0 (λ z. omega arith))

  pub unmarked-all : parameter_count ≤ k → false ≡ not (eqb (set_from marks first_parameter parameter_count) 0)
  unfolding set_from
  unmarked-all l =
      let z : parameter_count - k ≡ 0 = omega arith in
      let e : set_from marks first_parameter parameter_count ≡ 0 = s.rest ∙ ap (set_from marks (first_parameter + k)) z in
      rw (eq-eqb (set_from marks first_parameter parameter_count) 0 e)

-- the answers of the value call, check by check
module _ (ar ws : List ℕ) (n : ℕ) (constants facts : List ℕ) where
  pub value-1 : {b : Bool} → b ≡ is_listing ar ws → not b ≡ true → Err Listing ≡ value_answer ar ws n constants facts
  unfolding value_answer answer_by
  value-1 {b} e f = rw (sym e ∙ not-true b f)

  module _ {b c : Bool} (e : b ≡ is_listing ar ws) (f : not b ≡ false) (g : c ≡ is_state ar n constants facts) where
    pub value-2 : not c ≡ true → Err Range ≡ value_answer ar ws n constants facts
    unfolding value_answer answer_by
    value-2 h = rw (sym e ∙ not-false b f, sym g ∙ not-true c h)

    module _ (h : not c ≡ false) {marks : List ℕ} (u : Used ar (diagram_of ws) marks) {p : Bool} (k : p ≡ not (eqb (set_from marks first_parameter parameter_count) 0)) where
      has-parameters : not (eqb (length (parameters ar (diagram_of ws))) 0) ≡ p
      unfolding parameters
      has-parameters = ap (λ x. not (eqb x 0)) (sym (set-occurring ar (diagram_of ws) marks u first_parameter parameter_count (omega arith))) ∙ sym k

      pub value-3 : p ≡ true → Err Unbound ≡ value_answer ar ws n constants facts
      unfolding value_answer answer_by
      value-3 z = rw (sym e ∙ not-false b f, sym g ∙ not-false c h, has-parameters ∙ z)

      -- no parameter: the answer is that with no objects for the parameters
      pub value-4 : p ≡ false → {r : Result ℕ Refusal} → r ≡ bound_answer ar ws n constants facts [] → r ≡ value_answer ar ws n constants facts
      unfolding value_answer answer_by bound_answer
      value-4 z o = rw (sym e ∙ not-false b f, sym g ∙ not-false c h, has-parameters ∙ z) o

le_not_lt : (a b : ℕ) → leb a b ≡ not (ltb b a)
le_not_lt a b = go (cmp b a)
  where
    go : Cmp b a → leb a b ≡ not (ltb b a)
    go (below c) = rw (lt-leb a b c, lt-ltb b a c)
    go (equal c) = rw (le-leb a b (omega arith), le-ltb b a (omega arith))
    go (above c) = rw (le-leb a b (omega arith), le-ltb b a (omega arith))

-- there are no more marks than terms
set-most : (ms : List ℕ) (t n : ℕ) → set_from ms t n ≤ n
unfolding set_from
set-most ms t zero = omega arith
set-most ms t (suc n) = go (eqb (get_or ms t 0) 0) (set-most ms (suc t) n)
  where
    go : (b : Bool) → set_from ms (suc t) n ≤ n → cond b 0 1 + set_from ms (suc t) n ≤ suc n
    go true h = omega arith
    go false h = omega arith

variables-most : (ms : List ℕ) → marked_variables ms ≤ variable_count
unfolding marked_variables
variables-most ms = set-most ms first_variable variable_count

minimums-most : (ms : List ℕ) → marked_minimums ms ≤ minimum_count
unfolding marked_minimums
minimums-most ms = set-most ms first_minimum minimum_count

module _ (marks : List ℕ) {a b : ℕ} (e : a ≡ marked_variables marks) (f : b ≡ marked_minimums marks) where
  pub both-room : a + b < 18446744073709551616
  both-room = omega (arith, variables-most marks, minimums-most marks)

  pub both-few : (n : ℕ) {q : Bool} → q ≡ leb (n ^ (a + b)) most_valuations → q ≡ leb (n ^ (marked_variables marks + marked_minimums marks)) most_valuations
  both-few n w = w ∙ ap₂ (λ x y. leb (n ^ (x + y)) most_valuations) e f

-- few valuations, and no minimum variable, by the marks
module _ (ar ws : List ℕ) {marks : List ℕ} (u : Used ar (diagram_of ws) marks) where
  pub plain-marks : {q : Bool} → q ≡ eqb (marked_minimums marks) 0 → q ≡ is_plain ar (diagram_of ws)
  plain-marks w = w ∙ marked-plain ar (diagram_of ws) marks u

  pub few-marks : (n : ℕ) {q : Bool} → q ≡ leb (n ^ (marked_variables marks + marked_minimums marks)) most_valuations → q ≡ is_few ar n ws
  unfolding is_few valuations
  few-marks n w =
      w ∙ ap₂ (λ x y. leb (n ^ (x + y)) most_valuations) (marked-variables ar (diagram_of ws) marks u) (marked-minimums ar (diagram_of ws) marks u)
      ∙ le_not_lt (n ^ (length (variables ar (diagram_of ws)) + length (minimums ar (diagram_of ws)))) most_valuations

pub in-state : {ar ws : List ℕ} {n : ℕ} {constants facts marks : List ℕ} {plain : Bool} → is_listing ar ws ≡ true → is_state ar n constants facts ≡ true
    → Used ar (diagram_of ws) marks → plain ≡ eqb (marked_minimums marks) 0 → InState ar ws n constants facts plain
in-state {ar} {ws} e s u w = record { listed = e; lent = s; is-plain = plain-marks ar ws u w }

-- the two ways of working
module _ (ar ws : List ℕ) (n : ℕ) (constants facts os : List ℕ) {few : Bool} (e : few ≡ is_few ar n ws) where
  pub bound-few : few ≡ true → {x : ℕ} → x ≡ bound_number ar ws n constants facts os → Ok x ≡ bound_answer ar ws n constants facts os
  unfolding is_few bound_answer is_too_large state_of
  bound-few t o = rw (not-true (ltb most_valuations (valuations ar n (diagram_of ws))) (sym e ∙ t)) (ap Ok o)

  pub bound-many : few ≡ false → {r : Result ℕ Refusal} → r ≡ tables_answer ar ws n constants facts os → r ≡ bound_answer ar ws n constants facts os
  unfolding is_few bound_answer is_too_large tables_answer state_of
  bound-many t o = rw (not-false (ltb most_valuations (valuations ar n (diagram_of ws))) (sym e ∙ t)) o

-- what the checks passed say
module _ (ar ws : List ℕ) {b : Bool} (e : b ≡ is_listing ar ws) (f : not b ≡ false) where
  pub fits-listing : is_listing ar ws ≡ true
  fits-listing = sym e ∙ not-false b f

  pub fits-valid : Valid ar ws
  fits-valid = listing-is-valid ar ws fits-listing

pub fits-state : (ar : List ℕ) (n : ℕ) (constants facts : List ℕ) {c : Bool} → c ≡ is_state ar n constants facts → not c ≡ false → is_state ar n constants facts ≡ true
fits-state ar n constants facts {c} g h = sym g ∙ not-false c h

pub lent-some : (ar : List ℕ) (n : ℕ) (constants facts : List ℕ) → is_state ar n constants facts ≡ true → 0 < n
unfolding is_state
lent-some ar n constants facts e = leb-true 1 n (and_left (leb 1 n) _ e)

pub state-some : (ar : List ℕ) (n : ℕ) (constants facts : List ℕ) {c : Bool} → c ≡ is_state ar n constants facts → not c ≡ false → 0 < n
state-some ar n constants facts {c} g h = lent-some ar n constants facts (sym g ∙ not-false c h)
