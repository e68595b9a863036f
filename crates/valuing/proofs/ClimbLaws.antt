-- Laws of the best so far after one answer more, in the words of the code.
use mathlib.Core.Path.{◌≡◌, refl, sym, ap, ◌∙◌}
use mathlib.Core.Bool.{Bool, true, false, not, ◌||◌, cond}
use mathlib.Core.List.{List}
use Prim.Native.Nat.{ℕ, suc, ◌+◌, ◌≤◌, ◌<◌, max}
use native.Mathlib.Omega.{arith}
use lib.Dec.{ltb}
use Rattle.refusal.specs.declared.Refusal.{Refusal}
use Rattle.refusal.specs.declared.Refusal.TheVariants.{Valuations}
use Rattle.diagram.specs.Sizes.{highest_value}
use Rattle.diagram.specs.Words.{is_listing}
use Rattle.diagram.specs.Listing.{diagram_of}
use Rattle.diagram.specs.Variables.{is_plain}
use Rattle.diagram.specs.ListingValid.{listing-is-valid}
use Rattle.state.specs.State.{meaning}
use Rattle.minimum.proofs.NumberLaws.{number_is, number-attained}
use Rattle.state.specs.Lent.{all_below, state_of, is_state}
use Rattle.elimination.specs.Elimination.{most_entries, all_entries}
use Rattle.elimination.proofs.AnswerLaws.{lent-good}
use Rattle.valuing.specs.Rising.{leaf_of}
use Rattle.valuing.specs.Tables.{tables_answer, Liftable}
use Rattle.valuing.specs.Walks.{bound_number, bound_answer, climbed, is_few}
use Rattle.valuing.proofs.StartLaws.{lent_bound, lent-value}
use Rattle.valuing.proofs.RisingLaws.{leaf-most}
use Rattle.valuing.proofs.CheckLaws.{bound-few, bound-many}
use Rattle.std.specs.Prelude.{Err, Ok, Result}

-- ===== One answer more =====
module _ {r : Result ℕ Refusal} (best : ℕ) where
  pub lifted-refused : {why : Refusal} → r ≡ Err why → r ≡ climbed best r
  unfolding climbed
  lifted-refused e = e ∙ sym (ap (climbed best) e)

  module _ {v : ℕ} (e : r ≡ Ok v) where
    pub lifted-old : v < best → Ok best ≡ climbed best r
    unfolding climbed
    lifted-old h = ap Ok (omega arith) ∙ sym (ap (climbed best) e)

    pub lifted-new : best ≤ v → Ok (v + 1) ≡ climbed best r
    unfolding climbed
    lifted-new h = ap Ok (omega arith) ∙ sym (ap (climbed best) e)

-- ===== A listing's values have room for one more =====
module _ (ar ws : List ℕ) (n : ℕ) (constants facts os : List ℕ) (listed : is_listing ar ws ≡ true) (lent : is_state ar n constants facts ≡ true)
    (below : all_below n os ≡ true) where
  number-most : bound_number ar ws n constants facts os ≤ highest_value
  unfolding leaf_of
  number-most =
      let h = number-attained (meaning ar (diagram_of ws))
      (number_is (state_of ar n constants facts) os (lent-good ar n constants facts lent) (lent_bound ar n constants facts os lent below) (meaning ar (diagram_of ws))) in
      omega (arith, h.2, lent-value ar n constants facts h.0 (diagram_of ws), leaf-most ar facts ws (listing-is-valid ar ws listed) h.0)

  pub tables-liftable : {r : Result ℕ Refusal} → r ≡ tables_answer ar ws n constants facts os → Liftable r
  unfolding tables_answer
  tables-liftable {r} e = record { few = λ v q. go v (not (is_plain ar (diagram_of ws)) || ltb most_entries (all_entries (state_of ar n constants facts) os ar ws)) (sym e ∙ q) }
    where
      go : (v : ℕ) (b : Bool) → cond b (Err Valuations) (Ok (bound_number ar ws n constants facts os)) ≡ Ok v → v ≤ highest_value
      go v true q = let z : ◌≡◌ {A = ℕ} 0 1 = cc in absurd (omega arith)
      go v false q = let z : bound_number ar ws n constants facts os ≡ v = cc in omega (arith, number-most)

-- ===== Both ways of working =====
module _ (ar ws : List ℕ) (n : ℕ) (constants facts os : List ℕ) (best : ℕ) {few : Bool} (e : few ≡ is_few ar n ws) where
  pub climb-few : few ≡ true → {x : ℕ} → x ≡ max best (suc (bound_number ar ws n constants facts os))
      → Ok x ≡ climbed best (bound_answer ar ws n constants facts os)
  unfolding climbed
  climb-few t {x} o = ap Ok o ∙ ap (climbed best) (bound-few ar ws n constants facts os e t {x = bound_number ar ws n constants facts os} refl)

  pub climb-many : few ≡ false → {r x : Result ℕ Refusal} → r ≡ tables_answer ar ws n constants facts os → x ≡ climbed best r
      → x ≡ climbed best (bound_answer ar ws n constants facts os)
  climb-many t o q = q ∙ ap (climbed best) (bound-many ar ws n constants facts os e t o)
