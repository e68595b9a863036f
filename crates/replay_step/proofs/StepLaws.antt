-- Laws of one line: what is lent is the model, the state in hand and the line, and the checks are those of crate replay, in their order.
use mathlib.Core.Path.{◌≡◌, refl, sym, ap, subst, ◌∙◌}
use mathlib.Core.Bool.{Bool, true, false, ◌&&◌, ◌||◌, cond}
use mathlib.Core.List.{List, [], ◌∷◌}
use Prim.Native.Nat.{ℕ, zero, suc, ◌+◌, ◌≤◌, ◌<◌}
use native.Mathlib.Omega.{arith}
use lib.ListN.{length, get_or}
use lib.Dec.{eqb, ltb}
use Rattle.refusal.specs.declared.Refusal.TheVariants.{Weightless, Crowded, Valuations, Tally}
use Rattle.refusal.specs.Outcome.{Outcome, ok, refused}
use Rattle.diagram.specs.Sizes.{highest_value}
use Rattle.diagram.specs.Diagram.{Diagram}
use Rattle.diagram.specs.Words.{is_listing}
use Rattle.diagram.specs.Listing.{listing, diagram_of}
use Rattle.diagram.specs.Listings.{is-listing-diagram}
use Rattle.state.specs.State.{State, Good, meaning}
use Rattle.state.specs.Lent.{fact_count, state_of, most_facts}
use Rattle.elimination.specs.Answer.{is_too_large}
use Rattle.elimination.proofs.AnswerLaws.{lent-good}
use Rattle.names.specs.Many.{many}
use Rattle.names.specs.ManyLaws.{length-many, get_d-many}
use Rattle.mdp.specs.Model.{Variant, Action, Model, Every, GoodVariant, GoodAction}
use Rattle.mdp.specs.Bellman.{weight_in, state_after, reward_in}
use Rattle.model.specs.declared.Head.{Head}
use Rattle.model.specs.Inner.{LaidVariant}
use Rattle.model.specs.Layout.{variant_words, variant_place, weight_words, variant_at, variants_of, action_at, reward_words, model_of}
use Rattle.replay.specs.Replay.{Did, Replay, no_variant, no_action, variant_of, in_hand, facts_of, state_next, moved_by, reward_here, reward_met, reward_ends, counted}
use Rattle.replay.specs.Replay.{has_no_weight, has_many_facts, has_valuations, is_too_high, did}
use Rattle.minimum.specs.Number.{number}
use Rattle.valuing.specs.Walks.{bound_number, bound_answer}
use Rattle.valuing.specs.WalkLaws.{bound-below}
use Rattle.next_facts.specs.NextCall.{after_at, Moving}
use Rattle.replay_step.specs.Stepped.{lent_replay, lent_did, lent_step, StepTask, Steps}
use Rattle.replay_step.specs.Inside.{WeighingAt, reward_before, both_added, rewards_met, tallied_as, told_as, moved_as, Moves}
use Rattle.replay_step.proofs.WeightLaws.{weight-few, weight-plain, weight-number}
use Rattle.refusal.specs.declared.Refusal.{Refusal}
use Rattle.std.specs.Prelude.{Err, Ok, Result}

-- ===== The checks, in their order =====

-- an answer as an outcome: F are the facts of the next state
outcome_of : ℕ → List ℕ → List ℕ → Result (ℕ × ℕ × ℕ) Refusal → Outcome Replay
outcome_of n constants F (Ok (f, c, t)) = ok (lent_replay n constants F c t)
outcome_of n constants F (Err e) = refused e

-- 22, 15 and 23, or the line counted
checks : Bool → Bool → Replay → Outcome Replay
checks many ends x =
    cond many (refused Crowded) (cond ends (refused Valuations) (cond (ltb highest_value x.count || ltb highest_value x.total) (refused Tally) (ok x)))

module _ (n : ℕ) (constants F : List ℕ) (f count total : ℕ) where
  tally-outcome : (met : ℕ) → outcome_of n constants F (tallied_as f count total met)
      ≡ cond (ltb highest_value (suc count) || ltb highest_value (total + met)) (refused Tally) (ok (lent_replay n constants F (suc count) (total + met)))
  unfolding outcome_of tallied_as
  tally-outcome met = go (ltb highest_value (suc count) || ltb highest_value (total + met))
    where
      go : (b : Bool) → outcome_of n constants F (cond b (Err Tally) (Ok (f, (suc count), (total + met))))
          ≡ cond b (refused Tally) (ok (lent_replay n constants F (suc count) (total + met)))
      go true = refl
      go false = refl

  -- the rewards: on the first line (x) the reward before, h, or its 15 (e); the reward after, k, or its 15 (g)
  told-outcome : (x e g : Bool) (h k : ℕ)
      → outcome_of n constants F (told_as f count total (both_added (cond x (cond e (Err Valuations) (Ok h)) (Ok 0)) (cond g (Err Valuations) (Ok k))))
      ≡ cond ((x && e) || g) (refused Valuations)
      (cond (ltb highest_value (suc count) || ltb highest_value (total + (cond x h 0 + k))) (refused Tally) (ok (lent_replay n constants F (suc count) (total + (cond x h 0 + k)))))
  unfolding outcome_of
  told-outcome true true g h k = refl
  told-outcome true false true h k = refl
  told-outcome true false false h k = tally-outcome (h + k)
  told-outcome false e true h k = refl
  told-outcome false e false h k = tally-outcome (0 + k)

  many-outcome : (b : Bool) (r : Result (ℕ × ℕ × ℕ) Refusal) → outcome_of n constants F (cond b (Err Crowded) r) ≡ cond b (refused Crowded) (outcome_of n constants F r)
  unfolding outcome_of
  many-outcome true r = refl
  many-outcome false r = refl

-- ===== What is lent =====

every_get : {A : Type 0} (P : A → Type 0) (l : List A) (i : ℕ) (x : A) → i < length l → Every P l → P (get_or l i x)
every_get P [] i x h e = absurd (omega arith)
every_get P (y ∷ l) zero x h e = e.0
every_get P (y ∷ l) (suc i) x h e = every_get P l i x (omega arith) e.1

module _ {ar listings table : List ℕ} {h : Head} {a v n : ℕ} {constants facts index : List ℕ} {count total : ℕ} {os out : List ℕ}
    (t : StepTask ar listings table h a v n constants facts index count total os out) where
  abbrev M : Model
  M = model_of ar listings table h

  abbrev R : Replay
  R = lent_replay n constants facts count total

  abbrev D : Did
  D = lent_did a v os

  abbrev X : Variant
  X = variant_at listings table (variant_place a v)

  abbrev S : State
  S = state_of ar n constants facts

  -- the facts of the next state
  abbrev F : List ℕ
  F = facts_of ar (after_at ar listings table (variant_place a v) n constants facts os)

  -- 15 of the rewards
  abbrev Ends : Bool
  Ends = (eqb count 0 && is_too_large ar S [] (reward_words listings h)) || is_too_large ar (state_of ar n constants F) [] (reward_words listings h)

  action-is : get_or M.actions a no_action ≡ action_at listings table a
  unfolding model_of
  action-is = get_d-many (action_at listings table) no_action h.actions a t.action

  variant_is : variant_of M D ≡ X
  unfolding action_at
  variant_is =
      ap (λ (x : Action). get_or x.variants v no_variant) action-is
      ∙ get_d-many (λ i. variant_at listings table (variant_place a i)) no_variant (variants_of table a) v t.variant

  good-action : GoodAction ar (action_at listings table a)
  unfolding model_of
  good-action = subst (GoodAction ar) action-is
      (every_get (GoodAction ar) M.actions a no_action (omega (arith, length-many (action_at listings table) h.actions, t.action)) t.laid.good.actions)

  good-variant : GoodVariant ar (action_at listings table a).count X
  unfolding action_at
  good-variant =
      let l = many (λ i. variant_at listings table (variant_place a i)) (variants_of table a) in
      subst (GoodVariant ar (action_at listings table a).count) (get_d-many (λ i. variant_at listings table (variant_place a i)) no_variant (variants_of table a) v t.variant)
      (every_get (GoodVariant ar (action_at listings table a).count) l v no_variant
      (omega (arith, length-many (λ i. variant_at listings table (variant_place a i)) (variants_of table a), t.variant)) good-action.variants)

  laid-variant : LaidVariant ar listings table (variant_place a v)
  laid-variant = (t.laid.actions a t.action).variants v t.variant

  pub place_inside : variant_place a v + variant_words ≤ length table
  place_inside = omega (arith, t.laid.room, t.laid.few, t.action, t.variant, (t.laid.actions a t.action).few)

  good-state : Good S
  good-state = lent-good ar n constants facts t.lent

  weight_is : diagram_of (weight_words listings table (variant_place a v)) ≡ X.weight
  unfolding variant_at
  weight_is = refl

  -- ===== 21 =====

  pub weight-ready : WeighingAt ar listings table (variant_place a v) n constants facts index os
  weight-ready = record {
    room = place_inside;
    inside = laid-variant.inside;
    weighing = record {
      listed = laid-variant.weight;
      lent = t.lent;
      indexed = t.indexed;
      objects = t.objects;
      few = weight-few good-action.few good-variant n (weight_words listings table (variant_place a v)) weight_is;
      plain = weight-plain good-action.few good-variant (weight_words listings table (variant_place a v)) weight_is;
    };
  }

  weightless-is : eqb (bound_number ar (weight_words listings table (variant_place a v)) n constants facts os) 0 ≡ has_no_weight M R D
  unfolding has_no_weight in_hand state_of model_of
  weightless-is = ap (λ (x : ℕ). eqb x 0)
      (ap (λ (d : Diagram). number S os (meaning ar d)) weight_is
      ∙ weight-number good-action.few good-variant S good-state os (bound-below good-state os t.objects)
      ∙ ap (weight_in ar S os) (sym variant_is))

  -- ===== The facts of the next state =====

  facts-are : (moved_by M R D).facts ≡ F
  unfolding moved_by state_next in_hand after_at model_of
  facts-are = ap (λ (x : Variant). facts_of ar (state_after ar S os x)) variant_is

  pub move-ready : Moving ar listings table (variant_place a v) n constants facts os out
  unfolding model_of
  move-ready = record {
    arities = t.laid.good.arities;
    room = place_inside;
    laid = laid-variant;
    parameters = (action_at listings table a).count;
    good = good-variant;
    lent = t.lent;
    objects = t.objects;
    words = t.room;
  }

  -- ===== The rewards =====

  reward-is : listing M.reward ≡ reward_words listings h
  unfolding model_of
  reward-is = is-listing-diagram ar (reward_words listings h) t.laid.reward

  ends_is : (c : ℕ) (fs : List ℕ) (k : ℕ) → reward_ends M (lent_replay n constants fs c k) ≡ is_too_large ar (state_of ar n constants fs) [] (reward_words listings h)
  unfolding reward_ends in_hand model_of
  ends_is c fs k = ap (is_too_large ar (state_of ar n constants fs) []) reward-is

  here-is : (c : ℕ) (fs : List ℕ) (k : ℕ) → reward_here M (lent_replay n constants fs c k) ≡ bound_number ar (reward_words listings h) n constants fs []
  unfolding reward_in in_hand model_of
  here-is c fs k = refl

  moved-is : moved_by M R D ≡ lent_replay n constants F count total
  unfolding moved_by
  moved-is = ap (λ (fs : List ℕ). lent_replay n constants fs count total) facts-are

  met-is : reward_met M R D ≡ cond (eqb count 0) (bound_number ar (reward_words listings h) n constants facts []) 0 + bound_number ar (reward_words listings h) n constants F []
  unfolding reward_met
  met-is = ap (λ (r : Replay). cond (eqb count 0) (reward_here M R) 0 + reward_here M r) moved-is
      ∙ ap (λ (x : ℕ). cond (eqb count 0) x 0 + reward_here M (lent_replay n constants F count total)) (here-is count facts total)
      ∙ ap (λ (x : ℕ). cond (eqb count 0) (bound_number ar (reward_words listings h) n constants facts []) 0 + x) (here-is count F total)

  valuations-is : has_valuations M R D ≡ Ends
  unfolding has_valuations
  valuations-is = ap (λ (r : Replay). (eqb count 0 && reward_ends M R) || reward_ends M r) moved-is
      ∙ ap (λ (b : Bool). (eqb count 0 && b) || reward_ends M (lent_replay n constants F count total)) (ends_is count facts total)
      ∙ ap (λ (b : Bool). (eqb count 0 && is_too_large ar S [] (reward_words listings h)) || b) (ends_is count F total)

  counted_is : counted M R D ≡ lent_replay n constants F (suc count) (total + reward_met M R D)
  unfolding counted
  counted_is = ap (λ (fs : List ℕ). lent_replay n constants fs (suc count) (total + reward_met M R D)) facts-are

  -- ===== The line =====

  pub step-weightless : {x : Bool} → x ≡ eqb (bound_number ar (weight_words listings table (variant_place a v)) n constants facts os) 0 → x ≡ true
      → lent_step ar listings table h a v n constants facts count total os ≡ refused Weightless
  unfolding did
  step-weightless q e = rw (sym weightless-is ∙ sym q ∙ e) refl

  checks-are : has_no_weight M R D ≡ false → did M R D ≡ checks (has_many_facts M R D) (has_valuations M R D) (counted M R D)
  unfolding did is_too_high checks
  checks-are e = rw e refl

  many_is : has_many_facts M R D ≡ ltb most_facts (fact_count F)
  unfolding has_many_facts
  many_is = ap (λ (fs : List ℕ). ltb most_facts (fact_count fs)) facts-are

  did-moved : has_no_weight M R D ≡ false → did M R D ≡ outcome_of n constants F (moved_as ar (reward_words listings h) n constants facts F count total)
  unfolding checks moved_as rewards_met reward_before bound_answer
  did-moved e =
      checks-are e
      ∙ ap (λ (b : Bool). checks b (has_valuations M R D) (counted M R D)) many_is
      ∙ ap (λ (b : Bool). checks (ltb most_facts (fact_count F)) b (counted M R D)) valuations-is
      ∙ ap (checks (ltb most_facts (fact_count F)) Ends) (counted_is ∙ ap (λ (x : ℕ). lent_replay n constants F (suc count) (total + x)) met-is)
      ∙ sym (ap (cond (ltb most_facts (fact_count F)) (refused Crowded))
      (told-outcome n constants F (fact_count F) count total (eqb count 0) (is_too_large ar S [] (reward_words listings h))
      (is_too_large ar (state_of ar n constants F) [] (reward_words listings h)) (bound_number ar (reward_words listings h) n constants facts [])
      (bound_number ar (reward_words listings h) n constants F [])))
      ∙ sym (many-outcome n constants F (fact_count F) count total (ltb most_facts (fact_count F))
      (told_as (fact_count F) count total (rewards_met ar (reward_words listings h) n constants facts F count)))

  module _ {ws : List ℕ} (p : ws ≡ reward_words listings h) where
    pub reward-listed : is_listing ar ws ≡ true
    reward-listed = subst (λ (x : List ℕ). is_listing ar x ≡ true) (sym p) t.laid.reward

    pub step-moved : {x : Bool} → x ≡ eqb (bound_number ar (weight_words listings table (variant_place a v)) n constants facts os) 0 → x ≡ false
        → {r : Result (ℕ × ℕ × ℕ) Refusal} {out' : List ℕ} → Moves ar ws n constants facts F count total r out'
        → Steps (lent_step ar listings table h a v n constants facts count total os) n constants r out'
    unfolding outcome_of
    step-moved q e {r} {out'} w =
        let m = subst (λ (x : List ℕ). Moves ar x n constants facts F count total r out') p w in
        go r m (did-moved (sym weightless-is ∙ sym q ∙ e) ∙ ap (outcome_of n constants F) (sym m.answer))
      where
        go : (r : Result (ℕ × ℕ × ℕ) Refusal) → Moves ar (reward_words listings h) n constants facts F count total r out' → did M R D ≡ outcome_of n constants F r
            → Steps (lent_step ar listings table h a v n constants facts count total os) n constants r out'
        go (Ok (f, c, k)) m z = record {
          is = z ∙ ap (λ (fs : List ℕ). ok (lent_replay n constants fs c k)) (sym (m.written f c k refl));
          few = m.few f c k refl;
          room = omega (arith, m.few f c k refl, m.room);
        }
        go (Err why) m z = z
