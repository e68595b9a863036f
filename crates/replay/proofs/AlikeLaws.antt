-- States that no diagram under the arity list tells apart have the same rewards, and so do their next states.
use Rattle.std.specs.Prelude.{◌≡◌, true, length, get_or}
use Rattle.std.proofs.Math.Path.{refl, ap, fun_ext}
use Rattle.std.proofs.Common.{sym, subst, ◌∙◌, arith}
use mathlib.Core.List.{List, [], ◌∷◌, map}
use Rattle.std.proofs.Math.Option
use Rattle.std.proofs.Math.Option.{Option, some, none}
use Prim.Native.Nat.{ℕ, zero, suc, ◌-◌, ◌<◌}
use Rattle.std.proofs.Math.Dec.{eqb}
use Rattle.label.specs.Limits.{first_parameter, first_variable, predicate_count}
use Rattle.label.specs.Labels.{are_arities, predicate_of, unpacked, is_label, terms_of}
use Rattle.label.proofs.ArityLaws.{terms-length}
use Rattle.diagram.specs.Diagram.{Tree, Diagram}
use Rattle.diagram.specs.Listing.{Fine}
use Rattle.apply.proofs.GoodLaws.{fine-every}
use Rattle.state.specs.State.{Atomic, meaning, atom_of, State, Good, truth, holds, value, low, fixed}
use Rattle.state.specs.Next.{inner, fact_after, next}
use Rattle.state.specs.Max.{Tuple, none as no-objects, more}
use Rattle.state.specs.Highest.{Bound}
use Rattle.state.proofs.HighestLaws.{start_fits, bound-tuple}
use Rattle.state.proofs.ValueLaws.{low-lt, low-ge, by-low}
use Rattle.minimum.proofs.NumberLaws.{number_is, number-one}
use Rattle.minimum.proofs.NextLaws.{number-next}
use Rattle.regression.proofs.ResultLaws.{value-meaning, eval-agree, label-predicate}
use Rattle.mdp.specs.Model.{Variant, Model, GoodVariant, GoodModel}
use Rattle.mdp.specs.Bellman.{state_after, reward_in}
use Rattle.mdp.proofs.BackupLaws.{bound-none}
use Rattle.replay.specs.Along.{Alike}

pub alike_same : (ar : List ℕ) (s t : State) → s ≡ t → Alike ar s t
alike_same ar s t e = subst (Alike ar s) e (record { size = refl; constant = refl; fact = λ p os h k w. refl })

pub alike_then : {ar : List ℕ} {s t u : State} → Alike ar s t → Alike ar t u → Alike ar s u
alike_then {ar} a b = record {
  size = a.size ∙ b.size;
  constant = a.constant ∙ b.constant;
  fact = λ p os h k w. a.fact p os h k w ∙ b.fact p os h k (subst (λ (n : ℕ). Tuple n (get_or ar p 0) os) a.size w);
}

tuple-map : (n : ℕ) (θ : ℕ → ℕ) → ((t : ℕ) → θ t < n) → (ts : List ℕ) → Tuple n (length ts) (map θ ts)
tuple-map n θ h [] = no-objects
tuple-map n θ h (t ∷ ts) = more (h t) (tuple-map n θ h ts)

module _ (ar : List ℕ) (good : are_arities ar ≡ true) {s t : State} (a : Alike ar s t) where
  truth-alike : (p : ℕ) (os : List ℕ) → p < predicate_count → Tuple s.size (get_or ar p 0) os → truth s p os ≡ truth t p os
  truth-alike zero os h w = refl
  truth-alike (suc p) os h w = a.fact (suc p) os (omega arith) h w

  pub holds-alike : (θ : ℕ → ℕ) → ((u : ℕ) → θ u < s.size) → (l : ℕ) → is_label ar l ≡ true → holds s θ (atom_of ar l) ≡ holds t θ (atom_of ar l)
  unfolding holds atom_of
  holds-alike θ range l h = truth-alike (predicate_of l) (map θ (terms_of ar (unpacked l))) (label-predicate ar l h)
      (subst (λ (c : ℕ). Tuple s.size c (map θ (terms_of ar (unpacked l)))) (terms-length ar l good) (tuple-map s.size θ range (terms_of ar (unpacked l))))

  -- a valuation leads to one leaf in both
  pub value-alike : (θ : ℕ → ℕ) → ((u : ℕ) → θ u < s.size) → (d : Diagram) → Fine ar d → value s (meaning ar d) θ ≡ value t (meaning ar d) θ
  value-alike θ range d f =
      value-meaning s ar d θ
      ∙ eval-agree (λ l. holds s θ (atom_of ar l)) (λ l. holds t θ (atom_of ar l)) (λ l. is_label ar l ≡ true) (holds-alike θ range) d (fine-every ar d f)
      ∙ sym (value-meaning t ar d θ)

module _ (ar : List ℕ) (good : are_arities ar ≡ true) {s t : State} (a : Alike ar s t) where
  good-alike : Good s → Good t
  good-alike g = record {
    some = subst (0 <◌) a.size g.some;
    placed = λ c. subst (λ (n : ℕ). t.constant c < n) a.size (subst (λ (k : ℕ → ℕ). k c < s.size) a.constant (g.placed c));
  }

  fixed-range : Good s → (os : List ℕ) → Bound s os → (u : ℕ) → u < first_variable → fixed s os u < s.size
  fixed-range g os b u h = let f = start_fits s os g b in subst (◌< s.size) (f.low u h) (f.range u)

  inner-range : Good s → (os os' : List ℕ) → Bound s os → Bound s os' → (u : ℕ) → inner s os os' u < s.size
  unfolding inner
  inner-range g os os' b b' u = by-low (inner s os os' u < s.size) first_variable u
      (λ h. rw (low-lt first_variable u (fixed s os u) (get_or os' (u - first_variable) (s.constant 0)) h) (fixed-range g os b u h))
      (λ h. rw (low-ge first_variable u (fixed s os u) (get_or os' (u - first_variable) (s.constant 0)) h) (b'.each (u - first_variable)))

  inner-alike : (os os' : List ℕ) → inner s os os' ≡ inner t os os'
  unfolding inner fixed
  inner-alike os os' = fun_ext (λ u. ap (λ (c : ℕ → ℕ). low first_variable u (low first_parameter u (c u) (get_or os (u - first_parameter) (c 0))) (get_or os' (u - first_variable) (c 0)))
      a.constant)

  -- the next states are alike
  pub next-alike : (c : ℕ) (v : Variant) → GoodVariant ar c v → Good s → (os : List ℕ) → Bound s os → Alike ar (state_after ar s os v) (state_after ar t os v)
  unfolding state_after next
  next-alike c v gv g os b = record { size = a.size; constant = a.constant; fact = λ p os' h k w. go p os' h k w (v.truths p) refl }
    where
      go : (p : ℕ) (os' : List ℕ) → 0 < p → p < predicate_count → Tuple s.size (get_or ar p 0) os' → (o : Option Diagram) → v.truths p ≡ o
          → fact_after s os (Option.map (meaning ar) o) p os' ≡ fact_after t os (Option.map (meaning ar) o) p os'
      go p os' h k w none e = a.fact p os' h k w
      go p os' h k w (some d) e = ap (λ (x : ℕ). eqb x 1)
          (value-alike ar good a (inner s os os') (inner-range g os os' b (bound-tuple g w)) d (gv.truths p d h k e).listed.fine
          ∙ ap (value t (meaning ar d)) (inner-alike os os'))

-- the rewards are the same
pub reward-alike : (m : Model) → GoodModel m → {s t : State} → Alike m.arities s t → Good s → reward_in m s ≡ reward_in m t
unfolding reward_in
reward-alike m gm {s} {t} a g =
    let g' = good-alike m.arities gm.arities a g in
    number-one reward
    (number-next t s a.size (λ c. ap (λ (k : ℕ → ℕ). k c) a.constant) g' [] (bound-none t g') reward reward gm.reward.terms
    (λ θ f. sym (value-alike m.arities gm.arities a θ (λ u. subst (λ (n : ℕ). θ u < n) (sym a.size) (f.range u)) m.reward gm.reward-listed.fine))
    (number_is s [] g (bound-none s g) reward))
    (number_is t [] g' (bound-none t g') reward)
  where
    reward : Tree Atomic
    reward = meaning m.arities m.reward
