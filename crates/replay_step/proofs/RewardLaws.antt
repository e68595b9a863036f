-- Laws of the rewards met, of count and total, and of a move, in the words of the code.
use mathlib.Core.Path.{◌≡◌, refl, sym, ap, subst, ◌∙◌}
use mathlib.Core.Bool.{Bool, true, false, ◌||◌, cond}
use mathlib.Core.List.{List, []}
use Prim.Native.Nat.{ℕ, suc, ◌+◌, ◌*◌, ◌≤◌, ◌<◌}
use native.Mathlib.Omega.{arith}
use native.Mathlib.Numerals.{add-one}
use lib.ListN.{length, take}
use lib.Seq.{length-take-le}
use lib.Dec.{eqb, ltb}
use borrow.Author.Tests.{eq-eqb, ne_eqb, lt-ltb, le-ltb, ltb-false}
use Rattle.refusal.specs.declared.Refusal.{Refusal}
use Rattle.refusal.specs.declared.Refusal.TheVariants.{Valuations, Crowded, Tally}
use Rattle.diagram.specs.Sizes.{highest_value}
use Rattle.diagram.specs.Diagram.{Diagram, leaf, branch, eval, relabel}
use Rattle.diagram.specs.Words.{is_listing}
use Rattle.diagram.specs.Listing.{diagram_of, Fine}
use Rattle.diagram.specs.Listings.{is-listing-good}
use Rattle.state.specs.State.{State, atom_of, meaning, holds, value}
use Rattle.state.specs.Next.{next}
use Rattle.state.specs.Lent.{fact_words, fact_count, state_of, is_state, most_facts}
use Rattle.minimum.proofs.NumberLaws.{number_is, number-attained}
use Rattle.elimination.specs.Answer.{is_too_large}
use Rattle.elimination.proofs.AnswerLaws.{lent-good}
use Rattle.fact_index.specs.Inner.{indexed_count, Indexed}
use Rattle.mdp.proofs.BackupLaws.{bound-none}
use Rattle.mdp.specs.Bellman.{state_after}
use Rattle.replay.specs.Replay.{facts_of}
use Rattle.replay.proofs.FactLaws.{facts-lent}
use Rattle.valuing.specs.Walks.{bound_number, bound_answer}
use Rattle.next_facts.specs.NextCall.{after_at, Moving, facts_answer, NextFacts}
use Rattle.replay_step.specs.Inside.{Rewarding, reward_before, added_to, both_added, rewards_met, Low, tallied_as, told_as, moved_as, Moves}
use Rattle.std.specs.Prelude.{Err, None, Ok, Option, Result, Some}

-- ===== A listing's values are no higher than a leaf may be =====

value-most : (s : State) (ar : List ℕ) (θ : ℕ → ℕ) (d : Diagram) → Fine ar d → value s (meaning ar d) θ ≤ highest_value
unfolding value meaning relabel eval
value-most s ar θ (leaf v) f = f
value-most s ar θ (branch l t e) f = go (holds s θ (atom_of ar l)) (value-most s ar θ t f.1) (value-most s ar θ e f.2)
  where
    go : (b : Bool) {x y : ℕ} → x ≤ highest_value → y ≤ highest_value → cond b x y ≤ highest_value
    go true p q = p
    go false p q = q

module _ (ar ws : List ℕ) (n : ℕ) (constants facts : List ℕ) (listed : is_listing ar ws ≡ true) (lent : is_state ar n constants facts ≡ true) where
  number-most : bound_number ar ws n constants facts [] ≤ highest_value
  number-most =
      let g = lent-good ar n constants facts lent in
      let h = number-attained (meaning ar (diagram_of ws)) (number_is (state_of ar n constants facts) [] g (bound-none (state_of ar n constants facts) g) (meaning ar (diagram_of ws))) in
      subst (λ x. x ≤ highest_value) h.2 (value-most (state_of ar n constants facts) ar h.0 (diagram_of ws) (is-listing-good ar ws listed).fine)

  pub answer-low : {r : Result ℕ Refusal} → r ≡ bound_answer ar ws n constants facts [] → Low highest_value r
  unfolding bound_answer
  answer-low {r} e = record { few = λ v q. go v (is_too_large ar (state_of ar n constants facts) [] ws) (sym e ∙ q) }
    where
      go : (v : ℕ) (b : Bool) → cond b (Err Valuations) (Ok (bound_number ar ws n constants facts [])) ≡ Ok v → v ≤ highest_value
      go v true q = let z : ◌≡◌ {A = ℕ} 0 1 = cc in absurd (omega arith)
      go v false q = let z : bound_number ar ws n constants facts [] ≡ v = cc in omega (arith, number-most)

-- ===== The reward before =====

module _ (ar ws : List ℕ) (n : ℕ) (constants facts : List ℕ) (count : ℕ) where
  pub before-none : (count ≡ 0 → ⊥) → Ok 0 ≡ reward_before ar ws n constants facts count
  unfolding reward_before
  before-none h = rw (ne_eqb count 0 h) refl

  pub before-first : count ≡ 0 → {r : Result ℕ Refusal} → r ≡ bound_answer ar ws n constants facts [] → r ≡ reward_before ar ws n constants facts count
  unfolding reward_before
  before-first h q = rw (eq-eqb count 0 h) q

module _ (ar ws : List ℕ) (n : ℕ) (constants facts : List ℕ) (listed : is_listing ar ws ≡ true) (lent : is_state ar n constants facts ≡ true) where
  before-low : (count : ℕ) {r : Result ℕ Refusal} → r ≡ reward_before ar ws n constants facts count → Low highest_value r
  unfolding reward_before
  before-low count {r} e = go (eqb count 0) e
    where
      go : (b : Bool) → r ≡ cond b (bound_answer ar ws n constants facts []) (Ok 0) → Low highest_value r
      go true q = answer-low ar ws n constants facts listed lent q
      go false q = record { few = λ v h. let z : v ≡ 0 = cc in omega arith }

-- ===== Two rewards =====

pub added-some : (x : ℕ) {y : ℕ} {v : Result ℕ Refusal} → v ≡ Ok y → Ok (x + y) ≡ added_to x v
added-some x e = sym (ap (added_to x) e)

pub added_none : (x : ℕ) {e : Refusal} {v : Result ℕ Refusal} → v ≡ Err e → Err e ≡ added_to x v
added_none x e = sym (ap (added_to x) e)

added-low : (x : ℕ) (v : Result ℕ Refusal) → x ≤ highest_value → Low highest_value v → Low (highest_value + highest_value) (added_to x v)
added-low x (Ok y) h l = record { few = λ v e. let z : x + y ≡ v = cc in omega (arith, l.few y refl) }
added-low x (Err why) h l = record { few = λ v e. let z : ◌≡◌ {A = ℕ} 0 1 = cc in absurd (omega arith) }

module _ (ar ws : List ℕ) (n : ℕ) (constants facts next : List ℕ) (count : ℕ) {before : Result ℕ Refusal} (b : before ≡ reward_before ar ws n constants facts count) where
  pub met-stops : {e : Refusal} → before ≡ Err e → before ≡ rewards_met ar ws n constants facts next count
  unfolding rewards_met
  met-stops {e} h = h ∙ sym (ap (λ (v : Result ℕ Refusal). both_added v (bound_answer ar ws n constants next [])) (sym b ∙ h))

  pub met-both : {x : ℕ} → before ≡ Ok x → {after r : Result ℕ Refusal} → after ≡ bound_answer ar ws n constants next [] → r ≡ added_to x after
      → r ≡ rewards_met ar ws n constants facts next count
  unfolding rewards_met
  met-both {x} h {after} {r} a q = q ∙ ap (added_to x) a ∙ sym (ap (λ (v : Result ℕ Refusal). both_added v (bound_answer ar ws n constants next [])) (sym b ∙ h))

module _ {ar ws : List ℕ} {n : ℕ} {constants facts index next : List ℕ} (w : Rewarding ar ws n constants facts index next) (count : ℕ) where
  pub met-ready : {before : Result ℕ Refusal} → before ≡ reward_before ar ws n constants facts count → {x : ℕ} → before ≡ Ok x
      → {after : Result ℕ Refusal} → after ≡ bound_answer ar ws n constants next [] → (x ≤ highest_value) × Low highest_value after
  met-ready b {x} e q = ((before-low ar ws n constants facts w.listed w.lent count b).few x e, answer-low ar ws n constants next w.listed w.lent-next q)

  pub met-low : {r : Result ℕ Refusal} → r ≡ rewards_met ar ws n constants facts next count → Low (highest_value + highest_value) r
  unfolding rewards_met
  met-low {r} e = go (reward_before ar ws n constants facts count) refl e
    where
      go : (b : Result ℕ Refusal) → reward_before ar ws n constants facts count ≡ b → r ≡ both_added b (bound_answer ar ws n constants next []) → Low (highest_value + highest_value) r
      go (Err why) p q = record { few = λ v h. let z : ◌≡◌ {A = ℕ} 0 1 = cc in absurd (omega arith) }
      go (Ok x) p q = subst (Low (highest_value + highest_value)) (sym q) (added-low x (bound_answer ar ws n constants next [])
          ((before-low ar ws n constants facts w.listed w.lent count refl).few x p) (answer-low ar ws n constants next w.listed w.lent-next refl))

-- ===== Count and total =====

module _ (f count total met : ℕ) where
  pub tally-count : highest_value < count + 1 → Err Tally ≡ tallied_as f count total met
  unfolding tallied_as
  tally-count h = rw (lt-ltb highest_value (suc count) (omega arith)) refl

  pub tally-total : count + 1 ≤ highest_value → highest_value < total + met → Err Tally ≡ tallied_as f count total met
  unfolding tallied_as
  tally-total k h = rw (le-ltb highest_value (suc count) (omega arith), lt-ltb highest_value (total + met) h) refl

  pub tally-done : count + 1 ≤ highest_value → total + met ≤ highest_value → Ok (f, (count + 1), (total + met)) ≡ tallied_as f count total met
  unfolding tallied_as
  tally-done k h = rw (le-ltb highest_value (suc count) (omega arith), le-ltb highest_value (total + met) h, add-one) refl

pub told-some : (f count total : ℕ) {met : ℕ} {v : Result ℕ Refusal} → v ≡ Ok met → {r : Result (ℕ × ℕ × ℕ) Refusal} → r ≡ tallied_as f count total met → r ≡ told_as f count total v
told-some f count total e q = q ∙ sym (ap (told_as f count total) e)

pub told_none : (f count total : ℕ) {e : Refusal} {v : Result ℕ Refusal} → v ≡ Err e → Err e ≡ told_as f count total v
told_none f count total e = sym (ap (told_as f count total) e)

-- the facts that are answered are those told
tallied-facts : (m count total met : ℕ) {f c t : ℕ} → tallied_as m count total met ≡ Ok (f, c, t) → f ≡ m
unfolding tallied_as
tallied-facts m count total met {f} {c} {t} = go (ltb highest_value (suc count) || ltb highest_value (total + met))
  where
    go : (b : Bool) → cond {A = Result (ℕ × ℕ × ℕ) Refusal} b (Err Tally) (Ok (m, suc count, total + met)) ≡ Ok (f, c, t) → f ≡ m
    go true e = let z : ◌≡◌ {A = ℕ} 0 1 = cc in absurd (omega arith)
    go false e = let z : ◌≡◌ {A = ℕ × ℕ × ℕ} (m, suc count, total + met) (f, c, t) = cc in sym (ap (λ (q : ℕ × ℕ × ℕ). q.0) z)

told-facts : (m count total : ℕ) (v : Result ℕ Refusal) {f c t : ℕ} → told_as m count total v ≡ Ok (f, c, t) → f ≡ m
told-facts m count total (Ok met) e = tallied-facts m count total met e
told-facts m count total (Err why) e = let z : ◌≡◌ {A = ℕ} 0 1 = cc in absurd (omega arith)

-- ===== A move =====

module _ (F : List ℕ) {x : Option ℕ} (e : x ≡ facts_answer F) where
  rows_are : {m : ℕ} → x ≡ Some m → (ltb most_facts (fact_count F) ≡ false) × (m ≡ fact_count F)
  rows_are {m} q = go (ltb most_facts (fact_count F)) refl (sym q ∙ e)
    where
      go : (b : Bool) → ltb most_facts (fact_count F) ≡ b → Some m ≡ cond b None (Some (fact_count F)) → (ltb most_facts (fact_count F) ≡ false) × (m ≡ fact_count F)
      go true p h = let z : ◌≡◌ {A = ℕ} 0 1 = cc in absurd (omega arith)
      go false p h = (p, cc)

  many-are : x ≡ None → ltb most_facts (fact_count F) ≡ true
  many-are q = go (ltb most_facts (fact_count F)) refl (sym q ∙ e)
    where
      go : (b : Bool) → ltb most_facts (fact_count F) ≡ b → None ≡ cond b None (Some (fact_count F)) → ltb most_facts (fact_count F) ≡ true
      go true p h = p
      go false p h = let z : ◌≡◌ {A = ℕ} 0 1 = cc in absurd (omega arith)

pub rows_few : {F : List ℕ} {x : Option ℕ} {out : List ℕ} → NextFacts F x out → {m : ℕ} → x ≡ Some m → m ≤ most_facts
rows_few {F} w q = let r = rows_are F w.answer q in omega (arith, ltb-false most_facts (fact_count F) r.0, r.1)

module _ {F : List ℕ} {x : Option ℕ} {out : List ℕ} (w : NextFacts F x out) {before : ℕ} (words : most_facts * fact_words ≤ before) (kept : length out ≡ before) where
  pub rows_inside : {m : ℕ} → x ≡ Some m → m * fact_words ≤ length out
  rows_inside q = omega (arith, words, kept, rows_few w q)

  pub rows_long : {m : ℕ} → x ≡ Some m → m * fact_words ≡ length (take (m * fact_words) out)
  rows_long {m} q = sym (length-take-le (m * fact_words) out (rows_inside q))

module _ {ar ws : List ℕ} {n : ℕ} {constants facts F : List ℕ} {count total : ℕ} {x : Option ℕ} {out : List ℕ} (w : NextFacts F x out)
    {before : ℕ} (words : most_facts * fact_words ≤ before) (kept : length out ≡ before) where
  pub move-many : x ≡ None → Moves ar ws n constants facts F count total (Err Crowded) out
  unfolding moved_as
  move-many q = record {
    answer = rw (many-are F w.answer q) refl;
    written = λ f c t e. let z : ◌≡◌ {A = ℕ} 0 1 = cc in absurd (omega arith);
    few = λ f c t e. let z : ◌≡◌ {A = ℕ} 0 1 = cc in absurd (omega arith);
    room = omega (arith, words, kept);
  }

  pub move-told : {m : ℕ} → x ≡ Some m → {v : Result ℕ Refusal} → v ≡ rewards_met ar ws n constants facts (take (m * fact_words) out) count
      → {r : Result (ℕ × ℕ × ℕ) Refusal} → r ≡ told_as m count total v → Moves ar ws n constants facts F count total r out
  unfolding moved_as
  move-told {m} q {v} u {r} e =
      let k = rows_are F w.answer q in
      record {
        answer = rw k.0
            (e ∙ ap (λ (x : ℕ). told_as x count total v) k.1
            ∙ ap (told_as (fact_count F) count total) (u ∙ ap (λ (l : List ℕ). rewards_met ar ws n constants facts l count) (w.written m q)));
        written = λ f c t h. let z = told-facts m count total v (sym e ∙ h) in ap (λ (x : ℕ). take (x * fact_words) out) z ∙ w.written m q;
        few = λ f c t h. let z = told-facts m count total v (sym e ∙ h) in omega (arith, z, rows_few w q);
        room = omega (arith, words, kept);
      }

-- the facts written can be lent
after-size : (ar listings table : List ℕ) (place n : ℕ) (constants facts os : List ℕ) → (after_at ar listings table place n constants facts os).size ≡ n
unfolding after_at state_after state_of next
after-size ar listings table place n constants facts os = refl

pub move-rewarding : {ar listings table : List ℕ} {place n : ℕ} {constants facts index os out : List ℕ} → Moving ar listings table place n constants facts os out
    → (ws : List ℕ) → is_listing ar ws ≡ true → Indexed ar facts index (indexed_count facts index)
    → {x : Option ℕ} {out' : List ℕ} → NextFacts (facts_of ar (after_at ar listings table place n constants facts os)) x out'
    → {k : ℕ} → x ≡ Some k → Rewarding ar ws n constants facts index (take (k * fact_words) out')
move-rewarding {ar} {listings} {table} {place} {n} {constants} {facts} {index} {os} m ws listed i w {k} q = record {
  listed = listed;
  lent = m.lent;
  indexed = i;
  lent-next = subst (λ (l : List ℕ). is_state ar n constants l ≡ true) (sym (w.written k q))
      (facts-lent ar m.arities n constants facts m.lent (after_at ar listings table place n constants facts os) (after-size ar listings table place n constants facts os));
}
