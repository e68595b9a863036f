-- What refuses (best), exactly: action by action the calls of its regressed sum, then 15 of a binding. Where the next backup is accepted, only 15 does.
use Rattle.std.specs.Prelude.{◌≡◌, refl, ◌⊎◌, Bool, true, false}
use Rattle.std.proofs.Common.{sym, ◌∙◌, subst, inl, inr, arith}
use Rattle.std.proofs.Math.Path.{ap}
use Rattle.std.proofs.Math.Bool.{cond}
use mathlib.Core.List.Memᴰ
use mathlib.Core.List.{List, [], ◌∷◌, Memᴰ}
use Prim.Native.Nat.{ℕ, suc, ◌^◌}
use Rattle.basics.specs.Tests.{Flag, is_true, is_false, flag}
use Rattle.basics.specs.Members.{clash}
use Rattle.refusal.specs.declared.Refusal.{Refusal}
use Rattle.refusal.specs.declared.Refusal.TheVariants.{Scale, Valuations}
use Rattle.refusal.specs.Outcome.{Outcome, ok, refused, and_then, Accepted}
use Rattle.refusal.specs.OutcomeLaws.{accepted-ok, accepted-then, accepted-next, accepted-cond, accepted-mono}
use Rattle.diagram.specs.Diagram.{Diagram, leaf}
use Rattle.diagram.specs.Listing.{listing}
use Rattle.diagram.specs.Variables.{closed}
use Rattle.apply.specs.declared.Operation.TheVariants.{Max}
use Rattle.apply.specs.declared.Names.TheVariants.{Shared}
use Rattle.state.specs.State.{meaning, State}
use Rattle.state.specs.Max.{tuples}
use Rattle.minimum.specs.Number.{number}
use Rattle.elimination.specs.Answer.{is_too_large}
use Rattle.regression.specs.RegressCall.{freed_outcome}
use Rattle.reduction.proofs.CombinationLaws.{tuples-in, in-tuples}
use Rattle.mdp.specs.Model.{Action, Model, scale, Every}
use Rattle.mdp.specs.Backup.{combined, actions_best, scale_ends, row_of_calls, backup}
use Rattle.best.specs.Moves.{Move, move, first_move}
use Rattle.best.specs.Best.{Rated, rated, better, binding_value, bindings_best, moves_best, best_answer}
use Rattle.best.specs.Inner.{sum_calls, HasSum, Passes, Stops, in-calls, in-binding, Stopped, here, later}

ok-refused : {A : Type 0} {B : Type 0} {o : Outcome A} {a : A} {r : Refusal} → o ≡ ok a → o ≡ refused r → B
ok-refused e f = let z : ◌≡◌ {A = ℕ} 0 1 = cc in absurd (omega arith)

-- ===== Bindings =====

module _ (ar : List ℕ) (s : State) (q : Diagram) where
  value-given : (os : List ℕ) → is_too_large ar s os (listing q) ≡ false → binding_value ar s q os ≡ ok (number s os (meaning ar q))
  unfolding binding_value
  value-given os e = ap (λ (b : Bool). cond b (refused Valuations) (ok (number s os (meaning ar q)))) e

  value-stops : (os : List ℕ) → is_too_large ar s os (listing q) ≡ true → binding_value ar s q os ≡ refused Valuations
  unfolding binding_value
  value-stops os e = ap (λ (b : Bool). cond b (refused Valuations) (ok (number s os (meaning ar q)))) e

  -- no binding meets 15, or one does
  judge : (l : List (List ℕ)) → ((os : List ℕ) → Memᴰ os l → is_too_large ar s os (listing q) ≡ false)
      ⊎ ((os : List ℕ) × Memᴰ os l × (is_too_large ar s os (listing q) ≡ true))
  judge [] = inl (λ os h. absurd (Memᴰ.not-nil h))
  judge (p ∷ l) = go (flag (is_too_large ar s p (listing q))) (judge l)
    where
      go : Flag (is_too_large ar s p (listing q)) → ((os : List ℕ) → Memᴰ os l → is_too_large ar s os (listing q) ≡ false)
          ⊎ ((os : List ℕ) × Memᴰ os l × (is_too_large ar s os (listing q) ≡ true))
          → ((os : List ℕ) → Memᴰ os (p ∷ l) → is_too_large ar s os (listing q) ≡ false)
          ⊎ ((os : List ℕ) × Memᴰ os (p ∷ l) × (is_too_large ar s os (listing q) ≡ true))
      go (is_true e) w = inr (p, Memᴰ.head refl, e)
      go (is_false e) (inr w) = inr (w.0, Memᴰ.tail w.1, w.2)
      go (is_false e) (inl w) = inl each
        where
          each : (os : List ℕ) → Memᴰ os (p ∷ l) → is_too_large ar s os (listing q) ≡ false
          each os (Memᴰ.head h) = subst (λ (z : List ℕ). is_too_large ar s z (listing q) ≡ false) (sym h) e
          each os (Memᴰ.tail i) = w os i

  module _ (i : ℕ) where
    bindings-given : (l : List (List ℕ)) → ((os : List ℕ) → Memᴰ os l → is_too_large ar s os (listing q) ≡ false) → (best : Rated)
        → (r : Rated) × (bindings_best ar s i q l best ≡ ok r)
    unfolding bindings_best
    bindings-given [] h best = (best, refl)
    bindings-given (p ∷ l) h best =
        let x = number s p (meaning ar q) in
        let r = bindings-given l (λ os j. h os (Memᴰ.tail j)) (better best (rated (move i p) x)) in
        (r.0, ap (λ (o : Outcome ℕ). and_then o (λ x. bindings_best ar s i q l (better best (rated (move i p) x)))) (value-given p (h p (Memᴰ.head refl))) ∙ r.1)

    bindings-stop : (l : List (List ℕ)) (os : List ℕ) → Memᴰ os l → is_too_large ar s os (listing q) ≡ true → (best : Rated)
        → bindings_best ar s i q l best ≡ refused Valuations
    unfolding bindings_best
    bindings-stop [] os h e best = absurd (Memᴰ.not-nil h)
    bindings-stop (p ∷ l) os h e best = go (flag (is_too_large ar s p (listing q))) h (bindings-stop l os)
      where
        next : ℕ → Outcome Rated
        next x = bindings_best ar s i q l (better best (rated (move i p) x))

        go : Flag (is_too_large ar s p (listing q)) → Memᴰ os (p ∷ l)
            → (Memᴰ os l → is_too_large ar s os (listing q) ≡ true → (b : Rated) → bindings_best ar s i q l b ≡ refused Valuations)
            → and_then (binding_value ar s q p) (λ x. bindings_best ar s i q l (better best (rated (move i p) x))) ≡ refused Valuations
        go (is_true f) k rest = ap (λ (o : Outcome ℕ). and_then o (λ x. bindings_best ar s i q l (better best (rated (move i p) x)))) (value-stops p f)
        go (is_false f) (Memᴰ.head z) rest = clash e (subst (λ (y : List ℕ). is_too_large ar s y (listing q) ≡ false) (sym z) f)
        go (is_false f) (Memᴰ.tail j) rest =
            ap (λ (o : Outcome ℕ). and_then o (λ x. bindings_best ar s i q l (better best (rated (move i p) x)))) (value-given p f)
            ∙ rest j e (better best (rated (move i p) (number s p (meaning ar q))))

-- ===== Actions =====

module _ (m : Model) (s : State) (d : Diagram) where
  action-judged : (a : Action) → Passes m s d a ⊎ ((r : Refusal) × Stops m s d a r)
  action-judged a = go (sum_calls m d a) refl
    where
      go : (o : Outcome Diagram) → sum_calls m d a ≡ o → Passes m s d a ⊎ ((r : Refusal) × Stops m s d a r)
      go (refused r) e = inr (r, in-calls e)
      go (ok q) e = by (judge m.arities s q (tuples s.size a.count))
        where
          by : ((os : List ℕ) → Memᴰ os (tuples s.size a.count) → is_too_large m.arities s os (listing q) ≡ false)
              ⊎ ((os : List ℕ) × Memᴰ os (tuples s.size a.count) × (is_too_large m.arities s os (listing q) ≡ true))
              → Passes m s d a ⊎ ((r : Refusal) × Stops m s d a r)
          by (inl h) = inl (record { sum = q; calls = e; bindings = λ os t. h os (tuples-in s.size t) })
          by (inr h) = inr (Valuations, in-binding e (in-tuples s.size a.count h.0 h.1) h.2)

  judged : (l : List Action) → Every (Passes m s d) l ⊎ ((r : Refusal) × Stopped m s d l r)
  judged [] = inl tt
  judged (a ∷ l) = go (action-judged a) (judged l)
    where
      go : Passes m s d a ⊎ ((r : Refusal) × Stops m s d a r) → Every (Passes m s d) l ⊎ ((r : Refusal) × Stopped m s d l r)
          → Every (Passes m s d) (a ∷ l) ⊎ ((r : Refusal) × Stopped m s d (a ∷ l) r)
      go (inr w) rest = inr (w.0, here w.1)
      go (inl p) (inl ps) = inl (p, ps)
      go (inl p) (inr w) = inr (w.0, later p w.1)

  -- behind the calls of an action's sum, the bindings, then the other actions
  behind : ℕ → Action → List Action → Rated → Diagram → Outcome Rated
  behind i a l best q = and_then (bindings_best m.arities s i q (tuples s.size a.count) best) (λ b. moves_best m s d (suc i) l b)

  moves_next : (i : ℕ) (a : Action) (l : List Action) (best : Rated) (o : Outcome Diagram) → sum_calls m d a ≡ o → moves_best m s d i (a ∷ l) best ≡ and_then o (behind i a l best)
  unfolding moves_best behind
  moves_next i a l best o e = ap (λ (z : Outcome Diagram). and_then z (behind i a l best)) e

  behind-next : (i : ℕ) (a : Action) (l : List Action) (best : Rated) (q : Diagram) (o : Outcome Rated)
      → bindings_best m.arities s i q (tuples s.size a.count) best ≡ o → behind i a l best q ≡ and_then o (λ b. moves_best m s d (suc i) l b)
  unfolding behind
  behind-next i a l best q o e = ap (λ (z : Outcome Rated). and_then z (λ b. moves_best m s d (suc i) l b)) e

  -- an action that passes leaves a best to go on with
  passes-next : (i : ℕ) (a : Action) (l : List Action) (best : Rated) → Passes m s d a → (b : Rated) × (moves_best m s d i (a ∷ l) best ≡ moves_best m s d (suc i) l b)
  passes-next i a l best p =
      let g = bindings-given m.arities s p.sum i (tuples s.size a.count) (λ os j. p.bindings os (in-tuples s.size a.count os j)) best in
      (g.0, moves_next i a l best (ok p.sum) p.calls ∙ behind-next i a l best p.sum (ok g.0) g.1)

  stops-here : (i : ℕ) (a : Action) (l : List Action) (best : Rated) (r : Refusal) → Stops m s d a r → moves_best m s d i (a ∷ l) best ≡ refused r
  stops-here i a l best r (in-calls {r = r'} e) = moves_next i a l best (refused r') e
  stops-here i a l best r (in-binding {q = q} {os = os} e t f) =
      moves_next i a l best (ok q) e
      ∙ behind-next i a l best q (refused Valuations) (bindings-stop m.arities s q i (tuples s.size a.count) os (tuples-in s.size t) f best)

  all-given : (i : ℕ) (l : List Action) → Every (Passes m s d) l → (best : Rated) → (b : Rated) × (moves_best m s d i l best ≡ ok b)
  all-given i [] p best = (best, unfold moves_best in refl)
  all-given i (a ∷ l) p best =
      let g = passes-next i a l best p.0 in
      let r = all-given (suc i) l p.1 g.0 in
      (r.0, g.1 ∙ r.1)

  stopped-given : (i : ℕ) (l : List Action) (r : Refusal) → Stopped m s d l r → (best : Rated) → moves_best m s d i l best ≡ refused r
  stopped-given i l r (here {a = a} {l = l'} {r = r'} h) best = stops-here i a l' best r' h
  stopped-given i l r (later {a = a} {l = l'} {r = r'} p h) best =
      let g = passes-next i a l' best p in
      g.1 ∙ stopped-given (suc i) l' r' h g.0

  -- ===== The answer =====

  -- a move is answered exactly if every action passes
  pub passes-answered : Every (Passes m s d) m.actions → (x : Move) × (best_answer m s d ≡ ok x)
  unfolding best_answer
  passes-answered p =
      let r = all-given 0 m.actions p (rated (first_move m) 0) in
      (r.0.move, ap (λ (o : Outcome Rated). and_then o (λ b. ok b.move)) r.1)

  -- it is refused exactly as the first action that does not pass stops
  pub stopped-refused : (r : Refusal) → Stopped m s d m.actions r → best_answer m s d ≡ refused r
  unfolding best_answer
  stopped-refused r h = ap (λ (o : Outcome Rated). and_then o (λ b. ok b.move)) (stopped-given 0 m.actions r h (rated (first_move m) 0))

  pub answered-passes : (x : Move) → best_answer m s d ≡ ok x → Every (Passes m s d) m.actions
  answered-passes x e = go (judged m.actions)
    where
      go : Every (Passes m s d) m.actions ⊎ ((r : Refusal) × Stopped m s d m.actions r) → Every (Passes m s d) m.actions
      go (inl p) = p
      go (inr w) = ok-refused e (stopped-refused w.0 w.1)

  pub refused-stopped : (r : Refusal) → best_answer m s d ≡ refused r → Stopped m s d m.actions r
  refused-stopped r e = go (judged m.actions)
    where
      go : Every (Passes m s d) m.actions ⊎ ((r : Refusal) × Stopped m s d m.actions r) → Stopped m s d m.actions r
      go (inl p) = ok-refused (passes-answered p).1 e
      go (inr w) =
          let f = stopped-refused w.0 w.1 in
          let z : w.0 ≡ r = cc in
          subst (Stopped m s d m.actions) z w.1

-- ===== The next backup =====

-- a step that may be refused, whatever it gives
any : {A : Type 0} (o : Outcome A) → Accepted (λ a. Unit {0}) o
any o = record { given = λ a e. tt }

module _ (m : Model) (d : Diagram) where
  -- a best over actions has made the calls of each one's sum
  best-calls : (best : Diagram) (l : List Action) → Accepted (λ z. Every (HasSum m d) l) (actions_best m.arities m.numerator d best l)
  unfolding actions_best
  best-calls best [] = accepted-ok tt
  best-calls best (a ∷ l) =
      accepted-next (sum_calls m d a) _ (λ q e.
      accepted-then (freed_outcome m.arities a.count q) (any (freed_outcome m.arities a.count q)) (λ f u.
      accepted-then (joined f) (any (joined f)) (λ b v.
      accepted-mono (best-calls b l) (λ z h. (record { sum = q; calls = e }, h)))))
    where
      joined : Diagram → Outcome Diagram
      joined f = combined Max Shared m.arities best (closed m.arities f)

  row-calls : (power : ℕ) → Accepted (λ z. Every (HasSum m d) m.actions) (row_of_calls m power d)
  unfolding row_of_calls
  row-calls power =
      accepted-then (actions_best m.arities m.numerator d (leaf 0) m.actions) (best-calls (leaf 0) m.actions) (λ b h. record { given = λ z p. h })

  -- "It has their refusals": where the next backup is accepted, so are the calls of every action's sum
  pub backup-calls : (k : ℕ) (d' : Diagram) → backup m k d ≡ ok d' → Every (HasSum m d) m.actions
  unfolding backup
  backup-calls k d' e =
      (accepted-cond {P = λ (z : Diagram). Every (HasSum m d) m.actions} (scale_ends m k) Scale (row_of_calls m (scale m ^ suc k) d) (λ f.
      row-calls (scale m ^ suc k))).given d' e

  -- where the calls of every sum are accepted, 15 alone stops
  stopped-large : (s : State) {l : List Action} {r : Refusal} → Stopped m s d l r → Every (HasSum m d) l → r ≡ Valuations
  stopped-large s (here (in-calls e)) h = ok-refused h.0.calls e
  stopped-large s (here (in-binding e t f)) h = refl
  stopped-large s (later p w) h = stopped-large s w h.1

  -- so (best) is then refused by 15 or not at all
  pub backup-large : (k : ℕ) (d' : Diagram) → backup m k d ≡ ok d' → (s : State) (r : Refusal) → best_answer m s d ≡ refused r → r ≡ Valuations
  backup-large k d' e s r f = stopped-large s (refused-stopped m s d r f) (backup-calls k d' e)
