-- The facts of a choice, as they are lent, are a state's: the value call takes them; and the answer by its cases.
use Rattle.std.specs.Prelude.{◌≡◌, refl, Bool, true, false, ◌&&◌, ◌||◌, ℕ, zero, suc, pred, ◌+◌, ◌^◌, ◌≤◌, ◌<◌, length, get_or, take, eqb, ltb}
use Rattle.std.proofs.Common.{ap, ap₂, sym, ◌∙◌, arith, le-leb, lt-ltb, le-ltb}
use mathlib.Core.List.{List, [], ◌∷◌, ◌++◌}
use Rattle.basics.specs.Tests.{and_right}
use Rattle.basics.specs.Members.{mem}
use Rattle.refusal.specs.declared.Refusal.TheVariants.{Ground as TooManyGround, Valuations}
use Rattle.refusal.specs.Outcome.{ok, refused}
use Rattle.label.specs.Limits.{most_places}
use Rattle.diagram.specs.Words.{is_listing}
use Rattle.diagram.specs.WordLaws.{every-below}
use Rattle.diagram.specs.Sizes.{most_rows}
use Rattle.state.specs.Max.{sum_of}
use Rattle.state.specs.State.{Good}
use Rattle.state.specs.Lent.{fact_count, predicate_at, objects_at, all_below, names_below, constants_below, is_state}
use Rattle.elimination.proofs.AnswerLaws.{lent-good}
use Rattle.spread.specs.Inner.{same_ground}
use Rattle.spread.specs.Ground.{most_ground, Ground, ground, ground_facts, is_ground, ground_count, bits, chosen, row_of, rows_of, lent_choice, choice_state}
use Rattle.spread.specs.Spread.{value_in, entries_of, some_too_large, spread}
use Rattle.spread.proofs.SpreadLaws.{entries-sum}
use Rattle.spread.proofs.GroundLaws.{ground-test, mem-ground}
use Rattle.spread.proofs.ChoiceLaws.{Shaped, AllShaped, FewPlaces, chosen-within, rows-count, row-objects, row-later, shaped}
use Rattle.spread.proofs.LeafLaws.{entries-few}

-- objects below n
abbrev Lower : ℕ → Ground → Type 0
Lower n (ground p os) = all_below n os ≡ true

names-first : (ar : List ℕ) (n : ℕ) (f : Ground) (rest : List ℕ) → Shaped ar f → Lower n f → names_below ar n (row_of f ++ rest) 0 ≡ true
unfolding names_below predicate_at objects_at
names-first ar n (ground q us) rest s l = ap (all_below n) (row-objects us rest (get_or ar q 0) s.0 (let a = s.0 in let b = s.1 in omega arith)) ∙ l

names-later : (ar : List ℕ) (n : ℕ) (f : Ground) (rest : List ℕ) (i : ℕ) → names_below ar n (row_of f ++ rest) (suc i) ≡ names_below ar n rest i
unfolding names_below predicate_at objects_at
names-later ar n f rest i =
    let r = row-later f rest i in
    ap₂ (λ q us. all_below n (take (get_or ar q 0) (take most_places us))) r.0 r.1

names_at : (ar : List ℕ) (n : ℕ) (fs : List Ground) → AllShaped ar fs → ((x : Ground) → mem same_ground x fs ≡ true → Lower n x)
    → (i : ℕ) → i < length fs → names_below ar n (rows_of fs) i ≡ true
unfolding rows_of
names_at ar n [] s l i h = absurd (omega arith)
names_at ar n (f ∷ fs) s l zero h = names-first ar n f (rows_of fs) s.0 (l f (rw (ground-test.complete f)))
names_at ar n (f ∷ fs) s l (suc i) h = names-later ar n f (rows_of fs) i ∙ names_at ar n fs s.1 (λ x e. l x (later (same_ground x f) e)) i (omega arith)
  where
    later : (b : Bool) {c : Bool} → c ≡ true → (b || c) ≡ true
    later true e = refl
    later false e = e

ground-lower : (ar : List ℕ) (count n : ℕ) (f : Ground) → is_ground ar count n f ≡ true → Lower n f
unfolding is_ground
ground-lower ar count n (ground p os) e = and_right (eqb (length os) (get_or ar p 0)) _ (and_right (ltb 0 p && ltb (pred p) count) _ e)

module _ (ar : List ℕ) (count n : ℕ) (constants : List ℕ) (few : FewPlaces ar) (some : 0 < n) (placed : constants_below n constants ≡ true) where
  -- the lent words of a choice are a state
  pub lent-choice : (c : ℕ) → is_state ar n constants (lent_choice ar count n c) ≡ true
  unfolding is_state lent_choice
  lent-choice c = rw (le-leb 1 n some, placed) (every-below (fact_count (rows_of fs)) (names_below ar n (rows_of fs)) (λ i h. at i h))
    where
      fs : List Ground
      fs = chosen (bits (ground_count ar count n) c) (ground_facts ar count n)

      at : (i : ℕ) → i < fact_count (rows_of fs) → names_below ar n (rows_of fs) i ≡ true
      at i h =
          let k = rows-count fs in
          names_at ar n fs (shaped ar count n constants few (bits (ground_count ar count n) c))
          (λ x e. ground-lower ar count n x (sym (mem-ground ar count n x) ∙ chosen-within (bits (ground_count ar count n) c) (ground_facts ar count n) x e)) i (omega arith)

  pub choice-good : (c : ℕ) → Good (choice_state ar count n constants c)
  unfolding choice_state
  choice-good c = lent-good ar n constants (lent_choice ar count n c) (lent-choice c)

  -- at most 1,023 lines
  pub lines-few : (ws : List ℕ) → is_listing ar ws ≡ true → length (entries_of ar count n constants ws) < most_rows
  unfolding entries_of
  lines-few ws listed = entries-few ar count n constants ws (2 ^ ground_count ar count n) listed choice-good

-- ===== The answer by its cases =====
module _ (ar : List ℕ) (count n : ℕ) (constants ws : List ℕ) where
  pub spread-many : most_ground < ground_count ar count n → spread ar count n constants ws ≡ refused TooManyGround
  unfolding spread
  spread-many h = rw (lt-ltb most_ground (ground_count ar count n) h)

  pub spread-large : ground_count ar count n ≤ most_ground → some_too_large ar count n constants ws ≡ true → spread ar count n constants ws ≡ refused Valuations
  unfolding spread
  spread-large h e = rw (le-ltb most_ground (ground_count ar count n) h, e)

  pub spread_lines : ground_count ar count n ≤ most_ground → some_too_large ar count n constants ws ≡ false
      → spread ar count n constants ws ≡ ok (entries_of ar count n constants ws)
  unfolding spread
  spread_lines h e = rw (le-ltb most_ground (ground_count ar count n) h, e)

  -- "The states add up to 2 to the power of the number of ground facts"
  pub states-sum : sum_of (entries_of ar count n constants ws) (λ e. e.states) ≡ 2 ^ ground_count ar count n
  unfolding entries_of
  states-sum = entries-sum (2 ^ ground_count ar count n) (value_in ar count n constants ws)
