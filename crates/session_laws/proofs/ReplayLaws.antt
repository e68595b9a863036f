-- (did ..) keeps a session good: the facts of the next state are whole rows and name objects only, count and total are at most 10^18 (document 02, L10).
use Rattle.std.specs.Prelude.{◌≡◌, true, false, not, List, ℕ, length, eqb, ltb}
use Rattle.std.proofs.Math.Path.{refl}
use Rattle.std.proofs.Common.{sym, ap, subst, arith}
use borrow.Author.Tests.{eqb-true, ltb-false, not-false}
use Rattle.basics.specs.Tests.{neither}
use Rattle.refusal.specs.declared.Refusal.TheVariants.{Name, Arity, Range, Weightless, Crowded, Valuations, Tally}
use Rattle.refusal.specs.Outcome.{ok, Accepted}
use Rattle.refusal.specs.OutcomeLaws.{accepted-ok, accepted-cond, accepted-then}
use Rattle.label.specs.Labels.{are_arities}
use Rattle.diagram.specs.Sizes.{highest_value}
use Rattle.words.specs.declared.Key.{Key}
use Rattle.names.specs.Keys.{place_of, is_among}
use Rattle.state.specs.Lent.{all_below, is_state, state_of}
use Rattle.state.specs.Next.{next}
use Rattle.mdp.specs.Model.{Model}
use Rattle.mdp.specs.Bellman.{state_after}
use Rattle.replay.specs.Replay.{Did, Replay, action_of, in_hand, state_next, moved_by, counted, has_no_weight, has_many_facts, has_valuations, is_too_high, did}
use Rattle.replay.proofs.FactLaws.{facts-whole, facts-lent}
use Rattle.session.specs.declared.Part.TheVariants.{Run}
use Rattle.session.specs.Session.{Names, Live, Session, with_live}
use Rattle.session.specs.Replaying.{variant_names, did_of, replay_in, replayed, did_to, did_line}
use Rattle.session.specs.Good.{GoodLog, GoodSession}
use Rattle.session_laws.proofs.StateLaws.{live-good}
use Rattle.session_laws.proofs.FactLaws.{WholeRows}

-- ===== The line =====

-- what an accepted line has passed, and the state in hand behind it
pub record Replayed (m : Model) (n : Names) (l : Live) (a v : Key) (os : List ℕ) (l' : Live) : Type 0 where
  pub action : is_among a n.actions ≡ true
  pub count : length os ≡ (action_of m (did_of m n a v os)).count
  pub variant : is_among v (variant_names n m.actions (place_of a n.actions)) ≡ true
  pub objects : all_below l.objects os ≡ true
  pub weight : has_no_weight m (replay_in l) (did_of m n a v os) ≡ false
  pub few : has_many_facts m (replay_in l) (did_of m n a v os) ≡ false
  pub valued : has_valuations m (replay_in l) (did_of m n a v os) ≡ false
  pub low : is_too_high m (replay_in l) (did_of m n a v os) ≡ false
  pub is : l' ≡ replayed l (counted m (replay_in l) (did_of m n a v os))

-- 21, 22, 15 and 23 are passed, and the line is counted
abbrev Counts : Model → Replay → Did → Replay → Type 0
Counts m r d x = (has_no_weight m r d ≡ false) × (has_many_facts m r d ≡ false) × (has_valuations m r d ≡ false) × (is_too_high m r d ≡ false) × (x ≡ counted m r d)

did-counts : (m : Model) (r : Replay) (d : Did) → Accepted (Counts m r d) (did m r d)
unfolding did
did-counts m r d =
    accepted-cond (has_no_weight m r d) Weightless _ (λ e₁.
    accepted-cond (has_many_facts m r d) Crowded _ (λ e₂.
    accepted-cond (has_valuations m r d) Valuations _ (λ e₃.
    accepted-cond (is_too_high m r d) Tally (ok (counted m r d)) (λ e₄.
    accepted-ok (e₁, e₂, e₃, e₄, refl)))))

pub did_read : (m : Model) (n : Names) (l : Live) (a v : Key) (os : List ℕ) → Accepted (Replayed m n l a v os) (did_line m n l a v os)
unfolding did_line did_to
did_read m n l a v os =
    let d = did_of m n a v os in
    let variants = variant_names n m.actions (place_of a n.actions) in
    accepted-cond (not (is_among a n.actions)) Name _ (λ e₁.
    accepted-cond (not (eqb (length os) (action_of m d).count)) Arity _ (λ e₂.
    accepted-cond (not (is_among v variants)) Name _ (λ e₃.
    accepted-cond (not (all_below l.objects os)) Range _ (λ e₄.
    accepted-then (did m (replay_in l) d) (did-counts m (replay_in l) d) (λ r h.
    accepted-ok (record {
      action = not-false (is_among a n.actions) e₁;
      count = eqb-true (length os) (action_of m d).count (not-false (eqb (length os) (action_of m d).count) e₂);
      variant = not-false (is_among v variants) e₃;
      objects = not-false (all_below l.objects os) e₄;
      weight = h.0;
      few = h.1;
      valued = h.2;
      low = h.3;
      is = ap (replayed l) h.4;
    }))))))

-- ===== The session behind it =====

module _ (m : Model) (l : Live) (d : Did) where
  -- the state in hand behind the line
  abbrev moved : Live
  moved = replayed l (counted m (replay_in l) d)

  moved-log : is_too_high m (replay_in l) d ≡ false → GoodLog moved
  unfolding replayed counted is_too_high
  moved-log low =
      let r = counted m (replay_in l) d in
      let q = neither (ltb highest_value r.count) (ltb highest_value r.total) low in
      record { count = ltb-false highest_value r.count q.0; total = ltb-false highest_value r.total q.1; none = λ e. absurd (omega arith) }

  moved-whole : WholeRows moved.facts
  unfolding replayed counted moved_by
  moved-whole = facts-whole m.arities (state_next m (in_hand m.arities (replay_in l)) d)

  moved-state : are_arities m.arities ≡ true → is_state m.arities l.objects l.constants l.facts ≡ true → is_state m.arities moved.objects moved.constants moved.facts ≡ true
  unfolding replayed counted moved_by in_hand state_of replay_in state_next state_after next
  moved-state a e = facts-lent m.arities a l.objects l.constants l.facts e (state_next m (in_hand m.arities (replay_in l)) d) refl

pub did-log : (m : Model) (n : Names) (l : Live) (a v : Key) (os : List ℕ) (l' : Live) → did_line m n l a v os ≡ ok l' → GoodLog l'
did-log m n l a v os l' e =
    let r = (did_read m n l a v os).given l' e in
    subst GoodLog (sym r.is) (moved-log m l (did_of m n a v os) r.low)

pub did-whole : (m : Model) (n : Names) (l : Live) (a v : Key) (os : List ℕ) (l' : Live) → did_line m n l a v os ≡ ok l' → WholeRows l'.facts
did-whole m n l a v os l' e =
    let r = (did_read m n l a v os).given l' e in
    subst (λ (x : Live). WholeRows x.facts) (sym r.is) (moved-whole m l (did_of m n a v os))

-- an accepted (did ..) keeps a session good
pub did-good : (σ : Session) → GoodSession σ → σ.part ≡ Run → (a v : Key) (os : List ℕ) (l : Live) → did_line σ.model σ.names σ.live a v os ≡ ok l
    → GoodSession (with_live σ l)
unfolding replayed
did-good σ g p a v os l e =
    let d = did_of σ.model σ.names a v os in
    let r = (did_read σ.model σ.names σ.live a v os).given l e in
    subst (λ (x : Live). GoodSession (with_live σ x)) (sym r.is)
    (live-good σ g p (moved σ.model σ.live d) (λ h. moved-state σ.model σ.live d g.tables.arities (g.state h)) g.most (moved-log σ.model σ.live d r.low))
