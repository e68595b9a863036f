-- The answer of the value call: as before wherever it was no 15; where it was, the root table's value or still 15 (document 02, L6 and L12).
use Rattle.std.proofs.Math.Path.{◌≡◌, refl}
use Rattle.std.proofs.Common.{ap, sym, ◌∙◌, arith}
use Rattle.std.specs.Prelude.{◌≢◌, Bool, not, ◌&&◌, ◌||◌, cond, ℕ, ◌≤◌, ◌<◌, length, get_or, eqb, leb}
use Rattle.std.proofs.Math.Bool.{true, false, and-false, or-true}
use mathlib.Core.List.{List, []}
use Rattle.std.proofs.Math.Dec.{ltb}
use borrow.Author.Tests.{leb-true, ltb-true, lt-ltb, le-ltb}
use Rattle.basics.specs.Tests.{and_left, and_right}
use Rattle.label.specs.Limits.{constant_count}
use Rattle.refusal.specs.declared.Refusal.TheVariants.{Range, Unbound, Listing, Valuations}
use Rattle.diagram.specs.Words.{is_listing}
use Rattle.diagram.specs.Listing.{diagram_of}
use Rattle.diagram.specs.Variables.{is_plain}
use Rattle.diagram.specs.WordLaws.{below-every}
use Rattle.diagram.specs.Listings.{is-listing-good}
use Rattle.state.specs.Max.{none}
use Rattle.state.specs.State.{State, Good, low, meaning}
use Rattle.state.proofs.ValueLaws.{low-lt, low-ge, by-low}
use Rattle.state.specs.Highest.{start}
use Rattle.state.proofs.HighestLaws.{bound-tuple}
use Rattle.state.specs.Lent.{state_of, is_state, constants_below}
use Rattle.state.specs.ValueCall.{most_valuations, parameters, valuations}
use Rattle.minimum.specs.Number.{number}
use Rattle.minimum.proofs.PlainLaws.{number-plain, fine-plain}
use Rattle.elimination.specs.Tables.{entries}
use Rattle.elimination.specs.Elimination.{root_table, most_entries, all_entries}
use Rattle.elimination.specs.Answer.{answer_by, first_answer, is_too_large, value_answer}
use Rattle.elimination.proofs.RootLaws.{root_names, root-entries, root-value}
use Rattle.refusal.specs.declared.Refusal.{Refusal}
use Rattle.std.specs.Prelude.{Err, Ok, Result}

-- a lent state has an object, and its constants are objects
pub lent-good : (ar : List ℕ) (n : ℕ) (constants facts : List ℕ) → is_state ar n constants facts ≡ true → Good (state_of ar n constants facts)
unfolding is_state state_of constants_below
lent-good ar n constants facts e = record {
  some = some;
  placed = λ c. by-low (low constant_count c (get_or constants c 0) 0 < n) constant_count c
      (λ h. rw (low-lt constant_count c (get_or constants c 0) 0 h) (ltb-true (get_or constants c 0) n (below-every constant_count (λ i. ltb (get_or constants i 0) n) c
      (and_left _ _ (and_right (leb 1 n) _ e)) h)))
      (λ h. rw (low-ge constant_count c (get_or constants c 0) 0 h) some);
}
  where
    some : 0 < n
    some = leb-true 1 n (and_left (leb 1 n) _ e)

-- ===== A lent state's tables =====
module _ (ar ws : List ℕ) (n : ℕ) (constants facts : List ℕ) (listed : is_listing ar ws ≡ true) (lent : is_state ar n constants facts ≡ true) where
  abbrev s : State
  s = state_of ar n constants facts

  good : Good (state_of ar n constants facts)
  good = lent-good ar n constants facts lent

  pub lent-names : (root_table s ar ws).names ≡ []
  lent-names = root_names s [] good (bound-tuple good none) ar ws listed

  pub lent-entries : entries s [] (root_table s ar ws) ≡ 1
  lent-entries = root-entries s [] good (bound-tuple good none) ar ws listed

  -- without minimum variables the number is the highest leaf
  pub lent-value : is_plain ar (diagram_of ws) ≡ true → (root_table s ar ws).value (start s []) ≡ number s [] (meaning ar (diagram_of ws))
  lent-value plain = root-value s [] good (bound-tuple good none) ar ws listed
      ∙ sym (number-plain s [] (meaning ar (diagram_of ws)) (fine-plain ar (diagram_of ws) (is-listing-good ar ws listed).fine plain))

-- ===== The answer =====
module _ (ar ws : List ℕ) (n : ℕ) (constants facts : List ℕ) where
  -- the four tests, and what both answers are by them
  old-by : (a b c d : Bool) → Result ℕ Refusal → Result ℕ Refusal
  old-by a b c d v = cond (not a) (Err Listing) (cond (not b) (Err Range) (cond (not c) (Err Unbound) (cond d (Err Valuations) v)))

  same_by : (a b c d e : Bool) (v : Result ℕ Refusal) → old-by a b c d v ≢ Err Valuations → old-by a b c (d && e) v ≡ old-by a b c d v
  unfolding old-by
  same_by false b c d e v h = refl
  same_by true false c d e v h = refl
  same_by true true false d e v h = refl
  same_by true true true false e v h = refl
  same_by true true true true e v h = absurd (h refl)

  -- wherever the answer was no 15, it is as before
  pub valued_same : first_answer ar ws n constants facts ≢ Err Valuations → value_answer ar ws n constants facts ≡ first_answer ar ws n constants facts
  unfolding value_answer is_too_large first_answer answer_by old-by state_of
  valued_same h = same_by (is_listing ar ws) (is_state ar n constants facts) (eqb (length (parameters ar (diagram_of ws))) 0)
      (ltb most_valuations (valuations ar n (diagram_of ws)))
      (not (is_plain ar (diagram_of ws)) || ltb most_entries (all_entries (state_of ar n constants facts) [] ar ws))
      (Ok (number (state_of ar n constants facts) [] (meaning ar (diagram_of ws)))) h

  -- a 15 passed the checks before it
  was-by : (a b c d : Bool) (x : ℕ) → old-by a b c d (Ok x) ≡ Err Valuations → (a ≡ true) × (b ≡ true) × (c ≡ true) × (d ≡ true)
  unfolding old-by
  was-by false b c d x h = let z : ◌≡◌ {A = ℕ} 0 1 = cc in absurd (omega arith)
  was-by true false c d x h = let z : ◌≡◌ {A = ℕ} 0 1 = cc in absurd (omega arith)
  was-by true true false d x h = let z : ◌≡◌ {A = ℕ} 0 1 = cc in absurd (omega arith)
  was-by true true true false x h = let z : ◌≡◌ {A = ℕ} 0 1 = cc in absurd (omega arith)
  was-by true true true true x h = (refl, refl, refl, refl)

  -- where it was 15, it is the root table's value if there is no minimum variable and the entries are few enough, and 15 otherwise
  module _ (was : first_answer ar ws n constants facts ≡ Err Valuations) where
    passed : (is_listing ar ws ≡ true) × (is_state ar n constants facts ≡ true) × (eqb (length (parameters ar (diagram_of ws))) 0 ≡ true)
        × (ltb most_valuations (valuations ar n (diagram_of ws)) ≡ true)
    unfolding first_answer answer_by old-by
    passed = was-by (is_listing ar ws) (is_state ar n constants facts) (eqb (length (parameters ar (diagram_of ws))) 0)
        (ltb most_valuations (valuations ar n (diagram_of ws))) (number (state_of ar n constants facts) [] (meaning ar (diagram_of ws))) was

    pub valued-tables : is_plain ar (diagram_of ws) ≡ true → all_entries (state_of ar n constants facts) [] ar ws ≤ most_entries
        → value_answer ar ws n constants facts ≡ Ok ((root_table (state_of ar n constants facts) ar ws).value (start (state_of ar n constants facts) []))
    unfolding value_answer is_too_large answer_by state_of
    valued-tables plain h =
        rw (passed.0, passed.1, passed.2, passed.3, plain, le-ltb most_entries (all_entries (state_of ar n constants facts) [] ar ws) h)
        (ap Ok (sym (lent-value ar ws n constants facts passed.0 passed.1 plain)))

    pub valued-refused : most_entries < all_entries (state_of ar n constants facts) [] ar ws → value_answer ar ws n constants facts ≡ Err Valuations
    unfolding value_answer is_too_large answer_by state_of
    valued-refused h =
        rw (passed.0, passed.1, passed.2, passed.3, lt-ltb most_entries (all_entries (state_of ar n constants facts) [] ar ws) h, or-true (not (is_plain ar (diagram_of ws))))

    pub valued-minimum : is_plain ar (diagram_of ws) ≡ false → value_answer ar ws n constants facts ≡ Err Valuations
    unfolding value_answer is_too_large answer_by state_of
    valued-minimum e = rw (passed.0, passed.1, passed.2, passed.3, e)

-- ===== When it is not too large =====

-- few valuations are not, whatever the entries
pub few-not-large : (ar : List ℕ) (s : State) (os ws : List ℕ) → valuations ar s.size (diagram_of ws) ≤ most_valuations → is_too_large ar s os ws ≡ false
unfolding is_too_large
few-not-large ar s os ws h = rw (le-ltb most_valuations (valuations ar s.size (diagram_of ws)) h)

-- few entries are not without minimum variables, whatever the valuations
pub entries-not-large : (ar : List ℕ) (s : State) (os ws : List ℕ) → is_plain ar (diagram_of ws) ≡ true → all_entries s os ar ws ≤ most_entries → is_too_large ar s os ws ≡ false
unfolding is_too_large
entries-not-large ar s os ws plain h = rw (plain, le-ltb most_entries (all_entries s os ar ws) h, and-false (ltb most_valuations (valuations ar s.size (diagram_of ws))))
