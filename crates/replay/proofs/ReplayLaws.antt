-- L10's theorem: after every list of logged lines, refused ones among them, count, state and total are what document 02 says.
use Rattle.std.specs.Prelude.{◌≡◌, Bool, true, false, cond, ℕ, zero, suc, ◌+◌, ◌<◌, length, get_or}
use Rattle.std.proofs.Math.Path.{refl, subst}
use Rattle.std.proofs.Common.{sym, ap, ap₂, ◌∙◌, arith, zero-add, eqb-true, eq-eqb, ne_eqb, ltb-true}
use mathlib.Core.List.{List, [], ◌∷◌, ◌++◌, append-nil, append_assoc}
use Rattle.std.proofs.Math.ListN.{length-append}
use Rattle.refusal.specs.declared.Refusal.TheVariants.{Weightless, Crowded, Valuations, Tally}
use Rattle.refusal.specs.Outcome.{Outcome, ok, refused}
use Rattle.state.specs.State.{State, Good}
use Rattle.state.specs.Max.{sum_of}
use Rattle.state.specs.Lent.{state_of, most_facts}
use Rattle.state.proofs.HighestLaws.{bound-tuple}
use Rattle.mdp.specs.Model.{Model, Every, GoodVariant, GoodAction, GoodModel}
use Rattle.mdp.specs.Bellman.{reward_in}
use Rattle.replay.specs.Replay.{Did, no_variant, no_action, action_of, variant_of, Replay, in_hand, begun, state_next, moved_by, reward_here, reward_met, counted}
use Rattle.replay.specs.Replay.{has_no_weight, has_many_facts, has_valuations, is_too_high}
use Rattle.replay.specs.Replay.{did, behind, replay, if_accepted, accepted_of}
use Rattle.replay.specs.Inner.{Verdict, on21, on22, on15, on23, allowed}
use Rattle.replay.specs.Along.{states, state_behind, rewards_along, Alike, Checked, Comes}
use Rattle.replay.proofs.AlikeLaws.{alike_same, alike_then, next-alike, reward-alike}
use Rattle.replay.proofs.FactLaws.{facts-said}

-- ===== Refusals =====

-- each answer exactly under its condition, in order
pub verdict : (m : Model) (r : Replay) (d : Did) → Verdict m r d (did m r d)
unfolding did has_no_weight has_many_facts
verdict m r d = go (has_no_weight m r d) (has_many_facts m r d) (has_valuations m r d) (is_too_high m r d) refl refl refl refl
  where
    go : (a b c e : Bool) → has_no_weight m r d ≡ a → has_many_facts m r d ≡ b → has_valuations m r d ≡ c → is_too_high m r d ≡ e
        → Verdict m r d (cond a (refused Weightless) (cond b (refused Crowded) (cond c (refused Valuations) (cond e (refused Tally) (ok (counted m r d))))))
    go true b c e p q u w = on21 (eqb-true _ 0 p)
    go false true c e p q u w = on22 p (ltb-true most_facts _ q)
    go false false true e p q u w = on15 p q u
    go false false false true p q u w = on23 p q u w
    go false false false false p q u w = allowed p q u w

-- an accepted line is counted
accepted-is : (m : Model) (r : Replay) (d : Did) (a : Outcome Replay) → Verdict m r d a → (r' : Replay) → a ≡ ok r' → r' ≡ counted m r d
accepted-is m r d (refused Rattle.refusal.specs.declared.Refusal.TheVariants.Form) x4 r' e = elim x4 [ ]
accepted-is m r d (refused Rattle.refusal.specs.declared.Refusal.TheVariants.Name) x5 r' e = elim x5 [ ]
accepted-is m r d (refused Rattle.refusal.specs.declared.Refusal.TheVariants.Arity) x6 r' e = elim x6 [ ]
accepted-is m r d (refused Rattle.refusal.specs.declared.Refusal.TheVariants.Range) x7 r' e = elim x7 [ ]
accepted-is m r d (refused Rattle.refusal.specs.declared.Refusal.TheVariants.Place) x8 r' e = elim x8 [ ]
accepted-is m r d (refused Rattle.refusal.specs.declared.Refusal.TheVariants.Unbound) x9 r' e = elim x9 [ ]
accepted-is m r d (refused Rattle.refusal.specs.declared.Refusal.TheVariants.Truth) x10 r' e = elim x10 [ ]
accepted-is m r d (refused Rattle.refusal.specs.declared.Refusal.TheVariants.Variables) x11 r' e = elim x11 [ ]
accepted-is m r d (refused Rattle.refusal.specs.declared.Refusal.TheVariants.Space) x12 r' e = elim x12 [ ]
accepted-is m r d (refused Rattle.refusal.specs.declared.Refusal.TheVariants.Pairs) x13 r' e = elim x13 [ ]
accepted-is m r d (refused Rattle.refusal.specs.declared.Refusal.TheVariants.Value) x14 r' e = elim x14 [ ]
accepted-is m r d (refused Rattle.refusal.specs.declared.Refusal.TheVariants.Scale) x15 r' e = elim x15 [ ]
accepted-is m r d (refused Rattle.refusal.specs.declared.Refusal.TheVariants.Weights) x16 r' e = elim x16 [ ]
accepted-is m r d (refused Rattle.refusal.specs.declared.Refusal.TheVariants.Listing) x17 r' e = elim x17 [ ]
accepted-is m r d (refused Rattle.refusal.specs.declared.Refusal.TheVariants.Nothing) x18 r' e = elim x18 [ ]
accepted-is m r d (refused Rattle.refusal.specs.declared.Refusal.TheVariants.Paths) x19 r' e = elim x19 [ ]
accepted-is m r d (refused Rattle.refusal.specs.declared.Refusal.TheVariants.Buffer) x20 r' e = elim x20 [ ]
accepted-is m r d (refused Rattle.refusal.specs.declared.Refusal.TheVariants.Length) x21 r' e = elim x21 [ ]
accepted-is m r d (refused Rattle.refusal.specs.declared.Refusal.TheVariants.Missing) x22 r' e = elim x22 [ ]
accepted-is m r d (refused Rattle.refusal.specs.declared.Refusal.TheVariants.Ground) x23 r' e = elim x23 [ ]
accepted-is m r d (refused Rattle.refusal.specs.declared.Refusal.TheVariants.Minimum) x24 r' e = elim x24 [ ]
accepted-is m r d (refused Rattle.refusal.specs.declared.Refusal.TheVariants.Kinds) x25 r' e = elim x25 [ ]
accepted-is m r d (refused Rattle.refusal.specs.declared.Refusal.TheVariants.Runs) x26 r' e = elim x26 [ ]
accepted-is m r d (refused Rattle.refusal.specs.declared.Refusal.TheVariants.Combinations) x27 r' e = elim x27 [ ]
accepted-is m r d (refused Weightless) (on21 p) r' e = let z : ◌≡◌ {A = ℕ} 0 1 = cc in absurd (omega arith)
accepted-is m r d (refused Crowded) (on22 p q) r' e = let z : ◌≡◌ {A = ℕ} 0 1 = cc in absurd (omega arith)
accepted-is m r d (refused Valuations) (on15 p q u) r' e = let z : ◌≡◌ {A = ℕ} 0 1 = cc in absurd (omega arith)
accepted-is m r d (refused Tally) (on23 p q u w) r' e = let z : ◌≡◌ {A = ℕ} 0 1 = cc in absurd (omega arith)
accepted-is m r d (ok x) (allowed p q u w) r' e = let h : counted m r d ≡ r' = cc in sym h

-- ===== States and rewards along one line more =====

behind-snoc : (m : Model) (s : State) (l : List Did) (d : Did) → state_behind m s (l ++ (d ∷ [])) ≡ state_next m (state_behind m s l) d
unfolding state_behind
behind-snoc m s [] d = refl
behind-snoc m s (e ∷ l) d = behind-snoc m (state_next m s e) l d

along-snoc : (m : Model) (s : State) (l : List Did) (d : Did) → rewards_along m s (l ++ (d ∷ [])) ≡ rewards_along m s l + reward_in m (state_next m (state_behind m s l) d)
unfolding rewards_along states sum_of state_behind
along-snoc m s [] d = omega arith
along-snoc m s (e ∷ l) d =
    let h = along-snoc m (state_next m s e) l d in
    ap (λ (x : ℕ). reward_in m s + x) h ∙ omega arith

along-none : (m : Model) (s : State) (b : ℕ) → reward_in m (state_behind m s []) + b ≡ rewards_along m s [] + b
unfolding rewards_along states sum_of state_behind
along-none m s b = omega arith

-- ===== One accepted line =====

total-is : (m : Model) (r : Replay) (d : Did) → (counted m r d).total ≡ r.total + reward_met m r d
unfolding counted
total-is m r d = refl

met-first : (m : Model) (r : Replay) (d : Did) → r.count ≡ 0 → reward_met m r d ≡ reward_here m r + reward_here m (moved_by m r d)
unfolding reward_met
met-first m r d e = ap (λ (b : Bool). cond b (reward_here m r) 0 + reward_here m (moved_by m r d)) (eq-eqb r.count 0 e)

met-later : (m : Model) (r : Replay) (d : Did) → 0 < r.count → reward_met m r d ≡ reward_here m (moved_by m r d)
unfolding reward_met
met-later m r d h =
    ap (λ (b : Bool). cond b (reward_here m r) 0 + reward_here m (moved_by m r d)) (ne_eqb r.count 0 (omega arith)) ∙ zero-add (reward_here m (moved_by m r d))

every_get : {A : Type 0} (P : A → Type 0) (l : List A) (i : ℕ) (x : A) → i < length l → Every P l → P (get_or l i x)
every_get P [] i x h e = absurd (omega arith)
every_get P (a ∷ l) zero x h e = e.0
every_get P (a ∷ l) (suc i) x h e = every_get P l i x (omega arith) e.1

module _ (m : Model) (good : GoodModel m) where
  variant-good : {n : ℕ} (d : Did) → Checked m n d → GoodVariant m.arities (action_of m d).count (variant_of m d)
  variant-good d c =
      let a = every_get (GoodAction m.arities) m.actions d.action no_action c.action good.actions in
      every_get (GoodVariant m.arities (action_of m d).count) (action_of m d).variants d.variant no_variant c.variant a.variants

  -- the rows in hand behind a line are the state that the truth diagrams give
  moved-alike : (r : Replay) (d : Did) → Alike m.arities (in_hand m.arities (moved_by m r d)) (state_next m (in_hand m.arities r) d)
  unfolding in_hand state_of moved_by state_next
  moved-alike r d = record {
    size = refl;
    constant = refl;
    fact = λ p os h k w. facts-said m.arities good.arities (state_next m (in_hand m.arities r) d) p os h k w;
  }

  module _ (s : State) (done : List Did) (r : Replay) (c : Comes m s done r) (g : Good (in_hand m.arities r)) (d : Did) (checked : Checked m r.size d) where
    step-alike : Alike m.arities (in_hand m.arities (moved_by m r d)) (state_next m (state_behind m s done) d)
    unfolding state_next in_hand state_of
    step-alike = alike_then (moved-alike r d)
        (next-alike m.arities good.arities c.state (action_of m d).count (variant_of m d) (variant-good d checked) g d.objects (bound-tuple g checked.objects))

    moved-good : Good (in_hand m.arities (moved_by m r d))
    unfolding in_hand state_of moved_by
    moved-good = record { some = g.some; placed = g.placed }

    met-after : reward_here m (moved_by m r d) ≡ reward_in m (state_next m (state_behind m s done) d)
    met-after = reward-alike m good step-alike moved-good

  step-total : (s : State) (done : List Did) (r : Replay) → Comes m s done r → Good (in_hand m.arities r) → (d : Did) → Checked m r.size d
      → (counted m r d).total ≡ rewards_along m s (done ++ (d ∷ []))
  step-total s [] r c g d checked =
      let y = reward-alike m good c.state g in
      total-is m r d ∙ ap₂ ◌+◌ (c.none refl) (met-first m r d c.count) ∙ zero-add (reward_here m r + reward_here m (moved_by m r d))
      ∙ ap₂ ◌+◌ y (met-after s [] r c g d checked)
      ∙ along-none m s (reward_in m (state_next m (state_behind m s []) d)) ∙ sym (along-snoc m s [] d)
  step-total s (e ∷ l) r c g d checked =
      let n : r.count ≡ suc (length l) = c.count in
      let some : 0 < suc (length l) = omega arith in
      total-is m r d ∙ ap₂ ◌+◌ (c.total some) (met-later m r d (omega arith) ∙ met-after s (e ∷ l) r c g d checked) ∙ sym (along-snoc m s (e ∷ l) d)

  step-comes : (s : State) (done : List Did) (r : Replay) → Comes m s done r → Good (in_hand m.arities r) → (d : Did) → Checked m r.size d
      → Comes m s (done ++ (d ∷ [])) (counted m r d)
  unfolding counted in_hand state_of moved_by
  step-comes s done r c g d checked = record {
    count = let n = c.count in let k = length-append done (d ∷ []) in omega arith;
    state = alike_then (step-alike s done r c g d checked) (alike_same m.arities _ _ (sym (behind-snoc m s done d)));
    total = λ h. step-total s done r c g d checked;
    none = λ h. let k = length-append done (d ∷ []) in absurd (omega arith);
  }

  counted-good : (r : Replay) (d : Did) → Good (in_hand m.arities r) → Good (in_hand m.arities (counted m r d))
  unfolding in_hand state_of counted
  counted-good r d g = record { some = g.some; placed = g.placed }

  counted-size : (r : Replay) (d : Did) → (counted m r d).size ≡ r.size
  unfolding counted
  counted-size r d = refl

  -- ===== A list of lines =====

  from : (s : State) (n : ℕ) (l : List Did) → Every (Checked m n) l → (done : List Did) (r : Replay) → Comes m s done r → Good (in_hand m.arities r) → r.size ≡ n
      → Comes m s (done ++ accepted_of m r l) (replay m r l)
  unfolding accepted_of replay
  from s n [] w done r c g k = subst (λ (x : List Did). Comes m s x r) (sym (append-nil done)) c
  from s n (d ∷ l) w done r c g k = go (did m r d) refl (from s n l w.1)
    where
      go : (a : Outcome Replay) → did m r d ≡ a
          → ((done : List Did) (r : Replay) → Comes m s done r → Good (in_hand m.arities r) → r.size ≡ n → Comes m s (done ++ accepted_of m r l) (replay m r l))
          → Comes m s (done ++ if_accepted a d (accepted_of m (behind r a) l)) (replay m (behind r a) l)
      go (refused e) p ih = ih done r c g k
      go (ok r') p ih =
          let q : r' ≡ counted m r d = accepted-is m r d (did m r d) (verdict m r d) r' p in
          let h = step-comes s done r c g d (subst (λ (x : ℕ). Checked m x d) (sym k) w.0) in
          subst (λ (x : List Did). Comes m s x (replay m r' l)) (append_assoc done (d ∷ []) (accepted_of m r' l))
          (ih (done ++ (d ∷ [])) r' (subst (Comes m s (done ++ (d ∷ []))) (sym q) h)
          (subst (λ (x : Replay). Good (in_hand m.arities x)) (sym q) (counted-good r d g))
          (ap (λ (x : Replay). x.size) q ∙ counted-size r d ∙ k))

-- "After every list of such lines begun at count 0, with at least one accepted, count is how many were, the state is the one that their truth diagrams
-- give in that order, and total is the sum of rewards along it"
pub replay-is : (m : Model) → GoodModel m → (n : ℕ) (constants facts : List ℕ) → Good (state_of m.arities n constants facts)
    → (l : List Did) → Every (Checked m n) l
    → Comes m (state_of m.arities n constants facts) (accepted_of m (begun n constants facts) l) (replay m (begun n constants facts) l)
unfolding begun in_hand state_behind
replay-is m good n constants facts g l w =
    from m good (state_of m.arities n constants facts) n l w [] (begun n constants facts)
    (record {
      count = refl;
      state = alike_same m.arities _ _ refl;
      total = λ h. absurd (omega arith);
      none = λ h. refl;
    })
    g refl
