-- The first move whose sum is highest is one.
use Rattle.std.specs.Prelude.{◌≡◌, refl, List, ◌∷◌, ℕ}
use Rattle.std.proofs.Common.{sym, subst, inl, inr, arith}
use Rattle.basics.specs.Tests.{Cmp, below, equal, above, cmp}
use Rattle.state.specs.State.{State}
use Rattle.state.specs.Max.{Tuple, none, more}
use Rattle.reduction.specs.Claims.{Lower, differs, onwards}
use Rattle.mdp.specs.Model.{Model}
use Rattle.best.specs.Moves.{Move, move, action_at}
use Rattle.best.specs.Claims.{Earlier, FirstHighest}

-- of two tuples one is lower, or they are equal
data Order (os ps : List ℕ) : Type 0 where
  lower : Lower os ps → Order os ps
  same : os ≡ ps → Order os ps
  higher : Lower ps os → Order os ps

order-next : (o p : ℕ) (os ps : List ℕ) → Cmp o p → Order os ps → Order (o ∷ os) (p ∷ ps)
order-next o p os ps (below h) w = lower (differs h)
order-next o p os ps (above h) w = higher (differs h)
order-next o p os ps (equal e) (lower h) = subst (λ (q : ℕ). Order (o ∷ os) (q ∷ ps)) e (lower (onwards h))
order-next o p os ps (equal e) (same h) = same (λ i. e i ∷ h i)
order-next o p os ps (equal e) (higher h) = subst (λ (q : ℕ). Order (o ∷ os) (q ∷ ps)) e (higher (onwards h))

order : {n c : ℕ} {os ps : List ℕ} → Tuple n c os → Tuple n c ps → Order os ps
order none none = same refl
order (more {o = o} {os = os} h t) (more {o = p} {os = ps} k u) = order-next o p os ps (cmp o p) (order t u)

module _ (m : Model) (k : ℕ) (s : State) where
  -- an earlier one has a lower sum, and none has a higher
  not_earlier : (x y : Move) → FirstHighest m k s x → FirstHighest m k s y → Earlier x y → ⊥
  not_earlier x y f g e = omega (arith, g.first x f.is_move e, f.highest y g.is_move)

  pub first_one : (x y : Move) → FirstHighest m k s x → FirstHighest m k s y → x ≡ y
  first_one x y f g = by-action (cmp x.action y.action)
    where
      by-objects : x.action ≡ y.action → Order x.objects y.objects → x ≡ y
      by-objects e (lower h) = absurd (not_earlier x y f g (inr (e, h)))
      by-objects e (same h) = λ i. move (e i) (h i)
      by-objects e (higher h) = absurd (not_earlier y x g f (inr (sym e, h)))

      by-action : Cmp x.action y.action → x ≡ y
      by-action (below h) = absurd (not_earlier x y f g (inl h))
      by-action (above h) = absurd (not_earlier y x g f (inl h))
      by-action (equal e) =
          by-objects e (order f.is_move.objects-are (subst (λ (i : ℕ). Tuple s.size (action_at m i).count y.objects) (sym e) g.is_move.objects-are))
