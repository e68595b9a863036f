-- (did action variant object ..) is accepted exactly if MayDid says so, and refused exactly as RefusesDid says (document 02, L10).
use Rattle.std.specs.Prelude.{◌≡◌, refl, ◌⊎◌, Bool, true, false, ◌&&◌, ◌||◌, [], ◌++◌, map, ℕ, suc, ◌+◌, ◌≤◌, ◌<◌, length, eqb, ltb}
use Rattle.std.proofs.Common.{sym, ◌∙◌, inl, inr, arith, eqb-true, eq-eqb, ne_eqb, ltb-true, ltb-false, lt-ltb, le-ltb}
use Rattle.std.proofs.Math.Path.{ap, ap₂, subst}
use Rattle.std.proofs.lemmas.List.{length-map}
use Rattle.std.proofs.lemmas.Bool.{eqb-false}
use Rattle.basics.specs.Tests.{and_left, and_right, Flag, is_true, is_false, flag, Either, one, other, either, or-one, or-other}
use Rattle.basics.specs.Members.{clash}
use Rattle.refusal.specs.declared.Refusal.{Refusal}
use Rattle.refusal.specs.declared.Refusal.TheVariants as F
use Rattle.refusal.specs.Outcome.{Outcome, ok, refused, and_then}
use Rattle.diagram.specs.Sizes.{highest_value}
use Rattle.diagram.specs.Listing.{listing}
use Rattle.state.specs.State.{State, Good}
use Rattle.state.specs.Lent.{all_below, most_facts}
use Rattle.elimination.specs.Answer.{is_too_large}
use Rattle.elimination.proofs.AnswerLaws.{lent-good}
use Rattle.mdp.specs.Model.{GoodModel}
use Rattle.replay.specs.Replay.{Replay, did}
use Rattle.words.specs.Bytes.{decimal, value_of}
use Rattle.text.specs.declared.Kind.TheVariants as K
use Rattle.text.specs.Line.{Words, GoodLine}
use Rattle.text.specs.Line.Line.{line}
use Rattle.answers.specs.declared.Answer.TheVariants as A
use Rattle.answers.specs.Answers.{did_head, field, line_end, answer_bytes}
use Rattle.session.specs.declared.Part.{Part}
use Rattle.session.specs.declared.Part.TheVariants.{Model as ModelPart, Run}
use Rattle.session.specs.Session.{Live, Session}
use Rattle.session.specs.Running.{state_in}
use Rattle.session.specs.Replaying.{replay_in, replayed, did_to}
use Rattle.session.specs.Replies.{Reply, is_placed, refusal, did_says, reply}
use Rattle.session.specs.Texts.{reply_bytes}
use Rattle.session.specs.Good.{GoodSession}
use Rattle.session_laws.specs.TextRuns.{is_refused}
use Rattle.session_laws.proofs.PlaceLaws.{placed-objects, model-run}
use Rattle.text_moves.specs.Claims.{in_hand}
use Rattle.text_moves.specs.LineLaws.{unplaced-value, value-unplaced}
use Rattle.text_replays.specs.Claims.{did_bytes, did_in, Stands, has_action, action_parameters, has_variant, NamesPass, weight_of, next_of, facts_of_next, RewardTooLarge, rewards_met, MayDid, MovesOn}
use Rattle.text_replays.specs.Claims.{RefusesDid, in-model, missing, no-action, other-count, no_variant, no-object, weightless, crowded, large, tally}
use Rattle.text_replays.proofs.ObjectLaws.{objects-held, objects-below, below-objects, not-below}
use Rattle.text_replays.proofs.LineLaws.{read_of, model-refused, unplaced-refused, stands-said, moved_to, read_by}
use Rattle.text_replays.proofs.MoveLaws.{replay_by, session_by, checked_by, did-by, next-alike, next-facts, next-count, next-total, next-placed}

-- not both answers of a test
not-true : (b : Bool) → (b ≡ true → ⊥) → b ≡ false
not-true true h = absurd (h refl)
not-true false h = refl

-- where every constant is placed, the state in hand is one
pub placed-good : (σ : Session) → GoodSession σ → is_placed σ ≡ true → Good (in_hand σ)
unfolding state_in
placed-good σ g e =
    let l = σ.live in
    lent-good σ.model.arities l.objects l.constants l.facts (g.state (placed-objects σ e))

module _ (σ : Session) (g : GoodSession σ) (w : Words K.Did) where
  abbrev large_at : State → Bool
  large_at s = is_too_large σ.model.arities s [] (listing σ.model.reward)

  abbrev some_large : Bool
  some_large = (eqb σ.live.count 0 && large_at (in_hand σ)) || large_at (next_of σ w)

  abbrev some_high : Bool
  some_high = ltb highest_value (suc σ.live.count) || ltb highest_value (σ.live.total + rewards_met σ w)

  -- ===== 15 and 23 as tests =====

  large-true : some_large ≡ true → RewardTooLarge σ w
  large-true e = go (either (eqb σ.live.count 0 && large_at (in_hand σ)) (large_at (next_of σ w)) e)
    where
      go : Either (eqb σ.live.count 0 && large_at (in_hand σ)) (large_at (next_of σ w)) → RewardTooLarge σ w
      go (one h) = inl (eqb-true σ.live.count 0 (and_left (eqb σ.live.count 0) _ h), and_right (eqb σ.live.count 0) _ h)
      go (other h) = inr h

  true-large : RewardTooLarge σ w → some_large ≡ true
  true-large (inl h) = or-one _ (large_at (next_of σ w)) (ap₂ ◌&&◌ (eq-eqb σ.live.count 0 h.0) h.1)
  true-large (inr h) = or-other (eqb σ.live.count 0 && large_at (in_hand σ)) _ h

  high-true : some_high ≡ true → (highest_value < suc σ.live.count) ⊎ (highest_value < σ.live.total + rewards_met σ w)
  high-true e = go (either (ltb highest_value (suc σ.live.count)) (ltb highest_value (σ.live.total + rewards_met σ w)) e)
    where
      go : Either (ltb highest_value (suc σ.live.count)) (ltb highest_value (σ.live.total + rewards_met σ w))
          → (highest_value < suc σ.live.count) ⊎ (highest_value < σ.live.total + rewards_met σ w)
      go (one h) = inl (ltb-true highest_value (suc σ.live.count) h)
      go (other h) = inr (ltb-true highest_value (σ.live.total + rewards_met σ w) h)

  true-high : (highest_value < suc σ.live.count) ⊎ (highest_value < σ.live.total + rewards_met σ w) → some_high ≡ true
  true-high (inl h) = or-one _ (ltb highest_value (σ.live.total + rewards_met σ w)) (lt-ltb highest_value (suc σ.live.count) h)
  true-high (inr h) = or-other (ltb highest_value (suc σ.live.count)) _ (lt-ltb highest_value (σ.live.total + rewards_met σ w) h)

  -- ===== What is read, where the place is right =====

  count-true : length w.2 ≡ action_parameters σ w → eqb (length (map value_of w.2)) (action_parameters σ w) ≡ true
  count-true e = eq-eqb _ _ (length-map w.2 value_of ∙ e)

  true-count : eqb (length (map value_of w.2)) (action_parameters σ w) ≡ true → length w.2 ≡ action_parameters σ w
  true-count e = sym (length-map w.2 value_of) ∙ eqb-true _ _ e

  -- names and counts pass: what replay says of the objects as they are written
  named-read : NamesPass σ w → read_of σ w ≡ moved_to σ w (map decimal w.2)
  named-read h =
      read_by σ w true true true true h.action (count-true h.count) h.variant (objects-below σ.live.objects g.most w.2 h.objects)
      ∙ ap (moved_to σ w) (objects-held σ.live.objects g.most w.2 h.objects)

  module _ (s : Stands σ) (n : NamesPass σ w) where
    model : GoodModel σ.model
    model = (g.begun s.run).good

    said-by : (a b c e : Bool) → eqb (weight_of σ w) 0 ≡ a → ltb most_facts (facts_of_next σ w) ≡ b → some_large ≡ c → some_high ≡ e
        → read_of σ w ≡ and_then (checked_by a b c e (replay_by σ w)) (λ x. ok (replayed σ.live x))
    unfolding did_to
    said-by a b c e p q u v =
        named-read n ∙ ap (λ (o : Outcome Replay). and_then o (λ x. ok (replayed σ.live x))) (did-by σ model (placed-good σ g s.placed) w a b c e p q u v)

  weight-some : 1 ≤ weight_of σ w → eqb (weight_of σ w) 0 ≡ false
  weight-some h = ne_eqb (weight_of σ w) 0 (omega arith)

  read-refused : (r : Refusal) → RefusesDid σ w r → Stands σ → read_of σ w ≡ refused r
  read-refused r (in-model p) s = model-run (sym p ∙ s.run)
  read-refused r (missing p v) s = clash s.placed (value-unplaced σ 0 p (v 0))
  read-refused r (no-action s a) t = read_by σ w false _ _ _ a refl refl refl
  read-refused r (other-count s a c) t = read_by σ w true false _ _ a (not-true _ (λ e. c (true-count e))) refl refl
  read-refused r (no_variant s a c v) t = read_by σ w true true false _ a (count-true c) v refl
  read-refused r (no-object s a c v i l o) t =
      read_by σ w true true true false a (count-true c) v
      (not-true _ (λ e. let z = below-objects σ.live.objects g.most w.2 e i l in omega arith))
  read-refused r (weightless s n h) t = said-by s n true _ _ _ (eq-eqb (weight_of σ w) 0 h) refl refl refl
  read-refused r (crowded s n h f) t = said-by s n false true _ _ (weight-some h) (lt-ltb most_facts (facts_of_next σ w) f) refl refl
  read-refused r (large s n h f l) t = said-by s n false false true _ (weight-some h) (le-ltb most_facts (facts_of_next σ w) f) (true-large l) refl
  read-refused r (tally s n h f l x) t =
      said-by s n false false false true (weight-some h) (le-ltb most_facts (facts_of_next σ w) f) (not-true some_large (λ e. l (large-true e))) (true-high x)

  -- replay counts the line
  pub may-counts : MayDid σ w → did σ.model (replay_in σ.live) (did_in σ w) ≡ ok (replay_by σ w)
  may-counts h =
      did-by σ (g.begun h.stands.run).good (placed-good σ g h.stands.placed) w false false false false (weight-some h.weight)
      (le-ltb most_facts (facts_of_next σ w) h.facts) (not-true some_large (λ e. h.valued (large-true e))) (not-true some_high (λ e. high (high-true e)))
    where
      high : (highest_value < suc σ.live.count) ⊎ (highest_value < σ.live.total + rewards_met σ w) → ⊥
      high (inl k) = omega (arith, h.count)
      high (inr k) = omega (arith, h.total)

  read-may : MayDid σ w → read_of σ w ≡ ok (session_by σ w).live
  unfolding did_to
  read-may h = named-read h.named ∙ ap (λ (o : Outcome Replay). and_then o (λ x. ok (replayed σ.live x))) (may-counts h)

  -- ===== One of the two =====

  data Judged : Type 0 where
    refusing : (r : Refusal) → RefusesDid σ w r → Judged
    passing : MayDid σ w → Judged

  judged : Judged
  judged = by_part σ.part refl
    where
      high : Stands σ → NamesPass σ w → 1 ≤ weight_of σ w → facts_of_next σ w ≤ most_facts → (RewardTooLarge σ w → ⊥) → Flag some_high → Judged
      high s n h f l (is_true e) = refusing F.Tally (tally s n h f l (high-true e))
      high s n h f l (is_false e) = passing (record {
        stands = s;
        named = n;
        weight = h;
        facts = f;
        valued = l;
        count = few;
        total = low;
      })
        where
          few : suc σ.live.count ≤ highest_value
          few = ltb-false highest_value (suc σ.live.count) (not-true _ (λ d. clash (true-high (inl (ltb-true highest_value (suc σ.live.count) d))) e))

          low : σ.live.total + rewards_met σ w ≤ highest_value
          low = ltb-false highest_value (σ.live.total + rewards_met σ w)
              (not-true _ (λ d. clash (true-high (inr (ltb-true highest_value (σ.live.total + rewards_met σ w) d))) e))

      valued : Stands σ → NamesPass σ w → 1 ≤ weight_of σ w → facts_of_next σ w ≤ most_facts → Flag some_large → Judged
      valued s n h f (is_true e) = refusing F.Valuations (large s n h f (large-true e))
      valued s n h f (is_false e) = high s n h f (λ l. clash (true-large l) e) (flag some_high)

      facts : Stands σ → NamesPass σ w → 1 ≤ weight_of σ w → Flag (ltb most_facts (facts_of_next σ w)) → Judged
      facts s n h (is_true e) = refusing F.Crowded (crowded s n h (ltb-true most_facts (facts_of_next σ w) e))
      facts s n h (is_false e) = valued s n h (ltb-false most_facts (facts_of_next σ w) e) (flag some_large)

      weighed : Stands σ → NamesPass σ w → Flag (eqb (weight_of σ w) 0) → Judged
      weighed s n (is_true e) = refusing F.Weightless (weightless s n (eqb-true (weight_of σ w) 0 e))
      weighed s n (is_false e) = facts s n (let z = eqb-false (weight_of σ w) 0 e in omega arith) (flag (ltb most_facts (facts_of_next σ w)))

      objects : Stands σ → has_action σ w ≡ true → length w.2 ≡ action_parameters σ w → has_variant σ w ≡ true → Flag (all_below σ.live.objects (map value_of w.2)) → Judged
      objects s a c v (is_true e) =
          weighed s (record { action = a; count = c; variant = v; objects = below-objects σ.live.objects g.most w.2 e }) (flag (eqb (weight_of σ w) 0))
      objects s a c v (is_false e) = let f = not-below σ.live.objects g.most w.2 e in refusing F.Range (no-object s a c v f.0 f.1 f.2)

      variant : Stands σ → has_action σ w ≡ true → length w.2 ≡ action_parameters σ w → Flag (has_variant σ w) → Judged
      variant s a c (is_true e) = objects s a c e (flag (all_below σ.live.objects (map value_of w.2)))
      variant s a c (is_false e) = refusing F.Name (no_variant s a c e)

      counts : Stands σ → has_action σ w ≡ true → Flag (eqb (length (map value_of w.2)) (action_parameters σ w)) → Judged
      counts s a (is_true e) = variant s a (true-count e) (flag (has_variant σ w))
      counts s a (is_false e) = refusing F.Arity (other-count s a (λ c. clash (count-true c) e))

      action : Stands σ → Flag (has_action σ w) → Judged
      action s (is_true e) = counts s e (flag (eqb (length (map value_of w.2)) (action_parameters σ w)))
      action s (is_false e) = refusing F.Name (no-action s e)

      by_place : σ.part ≡ Run → Flag (is_placed σ) → Judged
      by_place p (is_true e) = action (record { run = p; placed = e }) (flag (has_action σ w))
      by_place p (is_false e) = refusing F.Place (missing p (λ i. unplaced-value σ i p e))

      by_part : (q : Part) → σ.part ≡ q → Judged
      by_part ModelPart p = refusing F.Place (in-model p)
      by_part Run p = by_place p (flag (is_placed σ))

-- ===== The reply =====

module _ (σ : Session) (g : GoodSession σ) (number : ℕ) (w : Words K.Did) (line-good : GoodLine (line K.Did w)) where
  read-said : Stands σ → (o : Outcome Live) → read_of σ w ≡ o → reply σ number (did_bytes w) ≡ did_says σ number o
  read-said s o e = stands-said σ number w line-good s ∙ ap (did_says σ number) e

  -- each of these refuses it
  pub refuses-did : (r : Refusal) → RefusesDid σ w r → reply σ number (did_bytes w) ≡ refusal σ number r
  refuses-did r (in-model p) = model-refused σ number w line-good p
  refuses-did r (missing p v) = unplaced-refused σ number w line-good p (value-unplaced σ 0 p (v 0))
  refuses-did r (no-action s a) = read-said s (refused F.Name) (read-refused σ g w F.Name (no-action s a) s)
  refuses-did r (other-count s a c) = read-said s (refused F.Arity) (read-refused σ g w F.Arity (other-count s a c) s)
  refuses-did r (no_variant s a c v) = read-said s (refused F.Name) (read-refused σ g w F.Name (no_variant s a c v) s)
  refuses-did r (no-object s a c v i l o) = read-said s (refused F.Range) (read-refused σ g w F.Range (no-object s a c v i l o) s)
  refuses-did r (weightless s n h) = read-said s (refused F.Weightless) (read-refused σ g w F.Weightless (weightless s n h) s)
  refuses-did r (crowded s n h f) = read-said s (refused F.Crowded) (read-refused σ g w F.Crowded (crowded s n h f) s)
  refuses-did r (large s n h f l) = read-said s (refused F.Valuations) (read-refused σ g w F.Valuations (large s n h f l) s)
  refuses-did r (tally s n h f l x) = read-said s (refused F.Tally) (read-refused σ g w F.Tally (tally s n h f l x) s)

  pub may-said : MayDid σ w → reply σ number (did_bytes w) ≡ record { session = session_by σ w; answer = A.Did (session_by σ w).live.count (session_by σ w).live.total }
  may-said h = read-said h.stands (ok (session_by σ w).live) (read-may σ g w h)

  -- it is accepted where none is met, and moves the state
  pub may-did : MayDid σ w → MovesOn σ w (reply σ number (did_bytes w))
  unfolding reply_bytes answer_bytes
  may-did h =
      let m = (g.begun h.stands.run).good in
      let k = placed-good σ g h.stands.placed in
      let count = next-count σ m k w in
      let total = next-total σ m k w in
      subst (MovesOn σ w) (sym (may-said h)) (record {
        rest = refl;
        placed = next-placed σ m k w;
        state = next-alike σ m k w;
        facts = next-facts σ m k w;
        count = count;
        total = total;
        answer = ap₂ A.Did count total;
        bytes = ap₂ (λ (x y : ℕ). did_head ++ field x ++ field y ++ line_end) count total;
      })

  -- nothing else refuses it
  pub did-refuses : (r : Refusal) (i : ℕ) → (reply σ number (did_bytes w)).answer ≡ A.Refused r i → RefusesDid σ w r
  did-refuses r i e = go (judged σ g w)
    where
      go : Judged σ g w → RefusesDid σ w r
      go (refusing q h) = let a = sym (ap (λ (y : Reply). y.answer) (refuses-did q h)) ∙ e in let z : q ≡ r = cc in subst (RefusesDid σ w) z h
      go (passing h) = let a = sym (ap (λ (y : Reply). y.answer) (may-said h)) ∙ e in let z : ◌≡◌ {A = ℕ} 0 1 = cc in absurd (omega arith)

  -- and it is accepted nowhere else
  pub did-may : is_refused (reply σ number (did_bytes w)).answer ≡ false → MayDid σ w
  did-may e = go (judged σ g w)
    where
      go : Judged σ g w → MayDid σ w
      go (refusing r h) = clash (ap (λ (y : Reply). is_refused y.answer) (refuses-did r h)) e
      go (passing h) = h
