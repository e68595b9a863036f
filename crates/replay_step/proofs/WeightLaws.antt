-- A weight has no variable of either kind: its value is not refused, and its highest leaf is the leaf that it has.
use mathlib.Core.Path.{◌≡◌, refl, sym, ap, ap₂, subst, ◌∙◌}
use mathlib.Core.Bool.{Bool, true, false, not, ◌&&◌, ◌||◌, cond}
use mathlib.Core.List.{List, []}
use Prim.Native.Nat.{ℕ, zero, suc, ◌+◌, ◌^◌, ◌≤◌, ◌<◌}
use native.Mathlib.Omega.{arith}
use native.Mathlib.Nat.{pow-zero}
use lib.ListN.{length, replicate, length-replicate}
use lib.Dec.{eqb, ltb}
use borrow.Author.Tests.{le-ltb, eq-eqb, ne_eqb, not-true}
use Rattle.basics.specs.Tests.{Flag, is_true, is_false, flag}
use Rattle.label.specs.Limits.{first_parameter, parameter_count, first_variable, variable_count, first_minimum, minimum_count}
use Rattle.refusal.specs.declared.Refusal.{Refusal}
use Rattle.refusal.specs.declared.Refusal.TheVariants.{Valuations}
use Rattle.diagram.specs.Sizes.{most_rows}
use Rattle.diagram.specs.Diagram.{Diagram}
use Rattle.diagram.specs.Listing.{diagram_of}
use Rattle.diagram.specs.Variables.{occurs, occurring, variables, minimums, is_plain}
use Rattle.state.specs.Lent.{state_of}
use Rattle.state.specs.State.{State, Good, meaning}
use Rattle.state.specs.Highest.{Bound, start}
use Rattle.state.proofs.HighestLaws.{start_fits}
use Rattle.state.proofs.ValueLaws.{Terms-mono}
use Rattle.state.specs.ValueCall.{most_valuations, valuations}
use Rattle.minimum.specs.Number.{number}
use Rattle.minimum.proofs.NumberLaws.{number-equal}
use Rattle.minimum.proofs.ApartLaws.{number-fixed}
use Rattle.minimum.proofs.OccurLaws.{terms-occur}
use Rattle.elimination.specs.Elimination.{most_entries, all_entries}
use Rattle.elimination.specs.Answer.{is_too_large}
use Rattle.mdp.specs.Model.{Variant, GoodVariant}
use Rattle.mdp.specs.Bellman.{weight_in}
use Rattle.valuing.specs.Walks.{bound_number, bound_answer, climbed, is_few}
use Rattle.valuing.specs.WalkLaws.{climbed-first}
use Rattle.model.specs.Layout.{weight_words}
use Rattle.replay_step.specs.Inside.{Weighing, WeighingAt}
use Rattle.std.specs.Prelude.{Err, Ok, Result}

none-occurring : (ar : List ℕ) (d : Diagram) (t n : ℕ) → ((u : ℕ) → t ≤ u → occurs ar u d ≡ false) → occurring ar d t n ≡ []
unfolding occurring
none-occurring ar d t zero h = refl
none-occurring ar d t (suc n) h = rw (h t (omega arith)) (none-occurring ar d (suc t) n (λ u i. h u (omega arith)))

module _ {ar : List ℕ} {c : ℕ} {v : Variant} (few : c ≤ parameter_count) (g : GoodVariant ar c v) where
  weight-none : (t m : ℕ) → first_variable ≤ t → occurring ar v.weight t m ≡ []
  weight-none t m l = none-occurring ar v.weight t m (λ u h. quiet u (omega arith) (flag (occurs ar u v.weight)))
    where
      quiet : (t : ℕ) → first_variable ≤ t → Flag (occurs ar t v.weight) → occurs ar t v.weight ≡ false
      quiet t h (is_false e) = e
      quiet t h (is_true e) = let z = terms-occur (λ x. x < first_parameter + c) ar t v.weight g.weight e in absurd (omega arith)

  pub weight-few : (n : ℕ) (ws : List ℕ) → diagram_of ws ≡ v.weight → is_few ar n ws ≡ true
  unfolding is_few valuations variables minimums
  weight-few n ws q =
      let e : n ^ (length (variables ar (diagram_of ws)) + length (minimums ar (diagram_of ws))) ≡ 1
      = ap (λ (d : Diagram). n ^ (length (variables ar d) + length (minimums ar d))) q
      ∙ ap₂ (λ (us vs : List ℕ). n ^ (length us + length vs)) (weight-none first_variable variable_count (omega arith)) (weight-none first_minimum minimum_count (omega arith)) ∙ pow-zero n in
      rw (le-ltb most_valuations (n ^ (length (variables ar (diagram_of ws)) + length (minimums ar (diagram_of ws)))) (omega (arith, e)))

  pub weight-plain : (ws : List ℕ) → diagram_of ws ≡ v.weight → is_plain ar (diagram_of ws) ≡ true
  unfolding is_plain minimums
  weight-plain ws q =
      eq-eqb (length (minimums ar (diagram_of ws))) 0 (ap (λ (d : Diagram). length (minimums ar d)) q ∙ ap length (weight-none first_minimum minimum_count (omega arith)))

  pub weight-number : (s : State) → Good s → (os : List ℕ) → Bound s os → number s os (meaning ar v.weight) ≡ weight_in ar s os v
  unfolding weight_in
  weight-number s good os b = number-equal s os good b (meaning ar v.weight) _ (number-fixed s os (meaning ar v.weight)
      (Terms-mono (λ t. t < first_parameter + c) (λ t. t < first_variable) (λ t h. omega arith) (meaning ar v.weight) g.weight) (start s os) (start_fits s os good b))

-- ===== Room for a number for each row =====

pub high-room : (m : ℕ) → most_rows ≤ m → most_rows ≤ length (replicate {A = ℕ} m 0)
high-room m h = omega (arith, length-replicate {A = ℕ} m 0)

pub high-kept : (m : ℕ) (xs : List ℕ) → most_rows ≤ m → length xs ≡ length (replicate {A = ℕ} m 0) → most_rows ≤ length xs
high-kept m xs h e = omega (arith, e, high-room m h)

-- ===== What the climb of a weight answers =====

one_up : (x : ℕ) → eqb (suc x) 1 ≡ eqb x 0
one_up zero = refl
one_up (suc x) = ne_eqb (suc (suc x)) 1 (omega arith) ∙ sym (ne_eqb (suc x) 0 (omega arith))

module _ (ar ws : List ℕ) (n : ℕ) (constants facts os : List ℕ) (few : is_few ar n ws ≡ true) where
  weight-answer : climbed 0 (bound_answer ar ws n constants facts os) ≡ Ok (suc (bound_number ar ws n constants facts os))
  unfolding bound_answer is_too_large is_few state_of
  weight-answer =
      let e = not-true (ltb most_valuations (valuations ar n (diagram_of ws))) few in
      ap (λ (b : Bool). climbed 0 (cond (b && (not (is_plain ar (diagram_of ws)) || ltb most_entries (all_entries (state_of ar n constants facts) os ar ws))) (Err Valuations)
      (Ok (bound_number ar ws n constants facts os)))) e ∙ climbed-first (bound_number ar ws n constants facts os)

  module _ {r : Result ℕ Refusal} (q : r ≡ climbed 0 (bound_answer ar ws n constants facts os)) where
    pub climb-refused : {e : Refusal} → r ≡ Err e → {A : Type 0} → A
    climb-refused {e} h = let z : ◌≡◌ {A = (Result ℕ Refusal)} (Err e) (Ok (suc (bound_number ar ws n constants facts os))) = sym h ∙ q ∙ weight-answer in
        let y : ◌≡◌ {A = ℕ} 0 1 = cc in absurd (omega arith)

    pub climb-none : {b : ℕ} → r ≡ Ok b → eqb b 1 ≡ eqb (bound_number ar ws n constants facts os) 0
    climb-none {b} h = let z : ◌≡◌ {A = (Result ℕ Refusal)} (Ok b) (Ok (suc (bound_number ar ws n constants facts os))) = sym h ∙ q ∙ weight-answer in
        let y : b ≡ suc (bound_number ar ws n constants facts os) = cc in
        ap (λ (x : ℕ). eqb x 1) y ∙ one_up (bound_number ar ws n constants facts os)

-- ===== The words of a weight =====

pub weighing-part : {ar listings table : List ℕ} {place n : ℕ} {constants facts index os : List ℕ} → WeighingAt ar listings table place n constants facts index os
    → {ws : List ℕ} → ws ≡ weight_words listings table place → Weighing ar ws n constants facts index os
weighing-part {ar} {n = n} {constants} {facts} {index} {os} w e = subst (λ (x : List ℕ). Weighing ar x n constants facts index os) (sym e) w.weighing

pub weightless-part : (ar : List ℕ) (n : ℕ) (constants facts os : List ℕ) {ws us : List ℕ} → ws ≡ us → {x : Bool} → x ≡ eqb (bound_number ar ws n constants facts os) 0
    → x ≡ eqb (bound_number ar us n constants facts os) 0
weightless-part ar n constants facts os e q = q ∙ ap (λ (l : List ℕ). eqb (bound_number ar l n constants facts os) 0) e
