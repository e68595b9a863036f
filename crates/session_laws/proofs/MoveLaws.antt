-- The objects of the move that (best) answers: one of the state for each parameter of its action, so at most 4 (document 02, L9).
use Rattle.std.specs.Prelude.{◌≡◌, refl, Bool, cond, ℕ, zero, suc, ◌≤◌, ◌<◌, length, get_or, take, replicate, ltb}
use Rattle.std.proofs.Common.{ap, arith}
use Rattle.std.proofs.Math.Path.{subst}
use Rattle.std.proofs.Math.Bool.{true, false}
use mathlib.Core.List.{List, [], ◌∷◌, Memᴰ}
use Rattle.refusal.specs.Outcome.{ok, Accepted}
use Rattle.refusal.specs.OutcomeLaws.{accepted-ok, accepted-next}
use Rattle.label.specs.Limits.{parameter_count}
use Rattle.diagram.specs.Diagram.{Diagram, leaf}
use Rattle.state.specs.State.{State}
use Rattle.state.specs.Max.{Tuple, none, more, tuples}
use Rattle.reduction.proofs.CombinationLaws.{in-tuples}
use Rattle.mdp.specs.Model.{Action, Model, Every, GoodAction}
use Rattle.mdp.specs.Backup.{variants_sum}
use Rattle.best.specs.Moves.{Move, move, action_at, first_move}
use Rattle.best.specs.Best.{Rated, rated, better, binding_value, bindings_best, moves_best, best_answer}
use Rattle.best.specs.Lead.{From}
use Rattle.best.proofs.LeadLaws.{from_all, from-head, from_tail}

-- ===== As many as the action has parameters =====

noughts : (n c : ℕ) → 0 < n → Tuple n c (replicate c 0)
noughts n zero h = none
noughts n (suc c) h = more h (noughts n c h)

module _ (m : Model) (s : State) (d : Diagram) where
  abbrev Bound : Rated → Type 0
  Bound r = Tuple s.size (action_at m r.move.action).count r.move.objects

  better-bound : (best new : Rated) → Bound best → Bound new → Bound (better best new)
  unfolding better
  better-bound best new b n = go (ltb best.sum new.sum)
    where
      go : (t : Bool) → Bound (cond t new best)
      go true = n
      go false = b

  bindings-bound : (i : ℕ) (q : Diagram) (l : List (List ℕ)) → ((os : List ℕ) → Memᴰ os l → Tuple s.size (action_at m i).count os) → (best : Rated) → Bound best
      → Accepted Bound (bindings_best m.arities s i q l best)
  unfolding bindings_best
  bindings-bound i q [] h best b = accepted-ok b
  bindings-bound i q (os ∷ l) h best b =
      accepted-next (binding_value m.arities s q os) (λ x. bindings_best m.arities s i q l (better best (rated (move i os) x))) (λ x e.
      let new = rated (move i os) x in
      bindings-bound i q l (λ p j. h p (Memᴰ.tail j)) (better best new) (better-bound best new b (h os (Memᴰ.head refl))))

  moves-bound : (i : ℕ) (l : List Action) → From m i l → (best : Rated) → Bound best → Accepted Bound (moves_best m s d i l best)
  unfolding moves_best
  moves-bound i [] r best b = accepted-ok b
  moves-bound i (a ∷ l) r best b =
      accepted-next (variants_sum m.arities m.numerator d (leaf 0) a.variants) _ (λ q e.
      accepted-next (bindings_best m.arities s i q (tuples s.size a.count) best) (λ new. moves_best m s d (suc i) l new) (λ new f.
      moves-bound (suc i) l (from_tail r) new
      ((bindings-bound i q (tuples s.size a.count)
      (λ os j. subst (λ (x : Action). Tuple s.size x.count os) (from-head r) (in-tuples s.size a.count os j)) best b).given new f)))

  pub best-bound : 0 < s.size → (x : Move) → best_answer m s d ≡ ok x → Tuple s.size (action_at m x.action).count x.objects
  unfolding best_answer first_move
  best-bound some x e =
      let first = rated (first_move m) 0 in
      let begun = moves-bound 0 m.actions (from_all m) first (noughts s.size (action_at m 0).count some) in
      (accepted-next {P = λ (y : Move). Tuple s.size (action_at m y.action).count y.objects} (moves_best m s d 0 m.actions first)
      (λ best. ok best.move) (λ best q. accepted-ok (begun.given best q))).given x e

-- ===== At most 4 =====

count-few : (ar : List ℕ) (l : List Action) (i : ℕ) → Every (GoodAction ar) l → (get_or l i (record { count = 0; variants = [] })).count ≤ parameter_count
count-few ar [] i g = omega arith
count-few ar (a ∷ l) zero g = g.0.few
count-few ar (a ∷ l) (suc i) g = count-few ar l i g.1

pub action-few : (m : Model) (i : ℕ) → Every (GoodAction m.arities) m.actions → (action_at m i).count ≤ parameter_count
unfolding action_at
action-few m i g = count-few m.arities m.actions i g

pub tuple-length : {n c : ℕ} {os : List ℕ} → Tuple n c os → length os ≡ c
tuple-length none = refl
tuple-length (more h t) = ap suc (tuple-length t)

-- each is below n
pub tuple-below : {n c : ℕ} {os : List ℕ} → Tuple n c os → 0 < n → (i : ℕ) → get_or os i 0 < n
tuple-below none s i = s
tuple-below (more h t) s zero = h
tuple-below (more h t) s (suc i) = tuple-below t s i

-- at most four of a list, as an answer has them
pub four-taken : (os : List ℕ) → length os ≤ parameter_count → take (length os) (get_or os 0 0 ∷ get_or os 1 0 ∷ get_or os 2 0 ∷ get_or os 3 0 ∷ []) ≡ os
four-taken [] h = refl
four-taken (a ∷ []) h = refl
four-taken (a ∷ b ∷ []) h = refl
four-taken (a ∷ b ∷ c ∷ []) h = refl
four-taken (a ∷ b ∷ c ∷ d ∷ []) h = refl
four-taken (a ∷ b ∷ c ∷ d ∷ e ∷ os) h = absurd (omega arith)
