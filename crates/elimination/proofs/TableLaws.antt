-- Laws of tables: they see only their names, a row's union is full, and aggregation finds the highest value.
use Rattle.std.specs.Prelude.{◌≡◌, refl, Bool, true, not, ◌&&◌, ◌||◌, cond}
use Rattle.std.proofs.Common.{ap, ap₂, ◌∙◌, eq-eqb, ne_eqb}
use Rattle.std.proofs.Math.Path.{sym, fun_ext}
use Rattle.std.proofs.Math.Bool.{false, and-true}
use mathlib.Core.List.{List, [], ◌∷◌}
use Prim.Native.Nat.{ℕ, ◌≤◌, ◌<◌}
use Rattle.std.proofs.Math.Nat.{le_trans, le_of_eq}
use Rattle.std.proofs.Math.Dec.{eqb}
use Rattle.basics.specs.Tests.{Flag, is_true, is_false, flag, or-one, or-other}
use Rattle.basics.specs.Members.{mem, clash}
use Rattle.label.specs.Limits.{first_variable}
use Rattle.state.specs.Max.{max_to}
use Rattle.state.proofs.MaxLaws.{max_to-is}
use Rattle.state.specs.State.{Atomic, State, Good, holds, Fits}
use Rattle.state.specs.Terms.{args}
use Rattle.state.specs.Lent.{some_below}
use Rattle.state.proofs.LentLaws.{some-made}
use Rattle.state.specs.Highest.{put, vars_of}
use Rattle.state.proofs.HighestLaws.{put_same, put_other, put-fits, by-eq}
use Rattle.elimination.specs.Tables.{Table, leaf_table, is_case, join, unite, aggregate, aggregate_all}
use Rattle.elimination.specs.Inner.{Agree, Sees, Named, Full}
use Rattle.elimination.proofs.NameLaws.{vars_of-keeps, vars_of-in, vars_of-ascending, mem-without, without-ascending, holds_agree, agree-put, put_back}

-- ===== What a table sees =====

pub leaf-sees : (v : ℕ) → Sees (leaf_table v)
unfolding leaf_table
leaf-sees v = record { same-has = λ θ η g. refl; same-value = λ θ η g. refl }

pub join-sees : (s : State) (b : Bool) (a : Atomic) (x : Table) → Sees x → Sees (join s b a x)
unfolding join
join-sees s b a x w = record {
  same-has = λ θ η g. ap₂ ◌&&◌ (ap (is_case b) (holds_agree s a x.names θ η g)) (w.same-has θ η (inner θ η g));
  same-value = λ θ η g. w.same-value θ η (inner θ η g);
}
  where
    inner : (θ η : ℕ → ℕ) → Agree (vars_of (args a) x.names) θ η → Agree x.names θ η
    inner θ η g t m = g t (λ l. vars_of-keeps t (args a) x.names (m l))

pub unite-sees : (x y : Table) → Sees x → Sees y → Sees (unite x y)
unfolding unite
unite-sees x y v w = record {
  same-has = λ θ η g. ap₂ ◌||◌ (v.same-has θ η (left θ η g)) (w.same-has θ η (right θ η g));
  same-value = λ θ η g. rw (v.same-has θ η (left θ η g), v.same-value θ η (left θ η g), w.same-value θ η (right θ η g));
}
  where
    left : (θ η : ℕ → ℕ) → Agree (vars_of x.names y.names) θ η → Agree x.names θ η
    left θ η g t m = g t (λ l. vars_of-in t x.names y.names l (m l))

    right : (θ η : ℕ → ℕ) → Agree (vars_of x.names y.names) θ η → Agree y.names θ η
    right θ η g t m = g t (λ l. vars_of-keeps t x.names y.names (m l))

pub aggregate-sees : (n v : ℕ) (x : Table) → Sees x → Sees (aggregate n v x)
unfolding aggregate
aggregate-sees n v x w = record {
  same-has = λ θ η g. ap (some_below n) (fun_ext (λ o. w.same-has (put θ v o) (put η v o) (agree-put v o x.names θ η g)));
  same-value = λ θ η g. ap (max_to n) (fun_ext (λ o.
      let e = agree-put v o x.names θ η g in
      rw (w.same-has (put θ v o) (put η v o) e, w.same-value (put θ v o) (put η v o) e)));
}

pub aggregate_all-sees : (n : ℕ) (vs : List ℕ) (x : Table) → Sees x → Sees (aggregate_all n vs x)
unfolding aggregate_all
aggregate_all-sees n [] x w = w
aggregate_all-sees n (v ∷ vs) x w = aggregate_all-sees n vs (aggregate n v x) (aggregate-sees n v x w)

-- ===== The names =====

pub mem-aggregate_all : (n t : ℕ) (vs : List ℕ) (x : Table) → mem eqb t (aggregate_all n vs x).names ≡ (mem eqb t x.names && not (mem eqb t vs))
unfolding aggregate_all aggregate
mem-aggregate_all n t [] x = sym (and-true (mem eqb t x.names))
mem-aggregate_all n t (v ∷ vs) x =
    mem-aggregate_all n t vs (aggregate n v x) ∙ rw (mem-without t v x.names) (parted (mem eqb t x.names) (eqb t v) (mem eqb t vs))
  where
    parted : (a b c : Bool) → ((a && not b) && not c) ≡ (a && not (b || c))
    parted true true c = refl
    parted true false c = refl
    parted false b c = refl

pub join-named : (s : State) (b : Bool) (a : Atomic) (x : Table) → Named x → Named (join s b a x)
unfolding join
join-named s b a x w = vars_of-ascending (args a) x.names w

pub unite-named : (x y : Table) → Named y → Named (unite x y)
unfolding unite
unite-named x y w = vars_of-ascending x.names y.names w

pub aggregate_all-named : (n : ℕ) (vs : List ℕ) (x : Table) → Named x → Named (aggregate_all n vs x)
unfolding aggregate_all aggregate
aggregate_all-named n [] x w = w
aggregate_all-named n (v ∷ vs) x w = aggregate_all-named n vs (aggregate n v x) (without-ascending first_variable v x.names w)

-- ===== Full tables =====

pub leaf-full : (v : ℕ) → Full (leaf_table v)
unfolding leaf_table
leaf-full v θ = refl

-- an atom is true or false, so that the union of its two joins is full
pub union-full : (s : State) (a : Atomic) (x y : Table) → Full x → Full y → Full (unite (join s true a x) (join s false a y))
unfolding unite join
union-full s a x y v w θ = rw (v θ, w θ) (go (holds s θ a))
  where
    go : (b : Bool) → ((b && true) || (not b && true)) ≡ true
    go true = refl
    go false = refl

pub union-value : (s : State) (a : Atomic) (x y : Table) → Full x → (θ : ℕ → ℕ)
    → (unite (join s true a x) (join s false a y)).value θ ≡ cond (holds s θ a) (x.value θ) (y.value θ)
unfolding unite join
union-value s a x y v θ = rw (v θ, and-true (holds s θ a))

pub aggregate-full : (n v : ℕ) (x : Table) → 0 < n → Full x → Full (aggregate n v x)
unfolding aggregate
aggregate-full n v x h w θ = some-made n (λ o. x.has (put θ v o)) 0 h (w (put θ v 0))

pub aggregate_all-full : (n : ℕ) (vs : List ℕ) (x : Table) → 0 < n → Full x → Full (aggregate_all n vs x)
unfolding aggregate_all
aggregate_all-full n [] x h w = w
aggregate_all-full n (v ∷ vs) x h w = aggregate_all-full n vs (aggregate n v x) h (aggregate-full n v x h w)

pub aggregate-value : (n v : ℕ) (x : Table) → Full x → (θ : ℕ → ℕ) → (aggregate n v x).value θ ≡ max_to n (λ o. x.value (put θ v o))
unfolding aggregate
aggregate-value n v x w θ = ap (max_to n) (fun_ext (λ o. rw (w (put θ v o))))

-- ===== Aggregation finds the highest value =====
module _ (s : State) (os : List ℕ) (good : Good s) where
  -- the highest value is attained, by other objects for the aggregated variables
  pub aggregate-hit : (vs : List ℕ) (x : Table) → ((t : ℕ) → mem eqb t vs ≡ true → first_variable ≤ t) → Full x → (θ : ℕ → ℕ) → Fits s os θ
      → (η : ℕ → ℕ) × Fits s os η × ((t : ℕ) → mem eqb t vs ≡ false → η t ≡ θ t) × (x.value η ≡ (aggregate_all s.size vs x).value θ)
  unfolding aggregate_all
  aggregate-hit [] x up w θ f = (θ, f, (λ t m. refl), refl)
  aggregate-hit (v ∷ vs) x up w θ f =
      let r = aggregate-hit vs (aggregate s.size v x) (λ t m. up t (or-other (eqb t v) _ m)) (aggregate-full s.size v x good.some w) θ f in
      let η = r.0 in
      let m = max_to-is s.size (λ o. x.value (put η v o)) good.some in (
        put η v m.point,
        put-fits s os η v m.point (up v (or-one _ _ (eq-eqb v v refl))) m.inside r.1,
        (λ t n. put_other η v m.point t (λ e. clash (or-one (eqb t v) (mem eqb t vs) (eq-eqb t v e)) n) ∙ r.2 t (not-other t n)),
        m.value ∙ sym (aggregate-value s.size v x w η) ∙ r.3,
      )
    where
      not-other : (t : ℕ) → (eqb t v || mem eqb t vs) ≡ false → mem eqb t vs ≡ false
      not-other t n = go (flag (mem eqb t vs))
        where
          go : Flag (mem eqb t vs) → mem eqb t vs ≡ false
          go (is_true e) = clash (or-other (eqb t v) _ e) n
          go (is_false e) = e

  -- and nothing is above it
  pub aggregate-bound : (vs : List ℕ) (x : Table) → Full x → (θ η : ℕ → ℕ) → Fits s os θ → ((t : ℕ) → η t < s.size)
      → ((t : ℕ) → mem eqb t vs ≡ false → η t ≡ θ t) → x.value η ≤ (aggregate_all s.size vs x).value θ
  unfolding aggregate_all
  aggregate-bound [] x w θ η f r e = le_of_eq (ap x.value (fun_ext (λ t. e t refl)))
  aggregate-bound (v ∷ vs) x w θ η f r e =
      let ζ : ℕ → ℕ = put η v (θ v) in
      let top = (max_to-is s.size (λ o. x.value (put ζ v o)) good.some).bound (η v) (r v) in
      let back : x.value η ≡ x.value (put ζ v (η v)) = sym (ap x.value (put_back η v (θ v))) in
      le_trans (le_of_eq back) (le_trans top (le_trans (le_of_eq (sym (aggregate-value s.size v x w ζ)))
      (aggregate-bound vs (aggregate s.size v x) (aggregate-full s.size v x good.some w) θ ζ f
      (λ t. by-eq (ζ t < s.size) v t (λ q. rw (q, put_same η v (θ v)) (f.range v)) (λ q. rw (put_other η v (θ v) t q) (r t)))
      (λ t m. by-eq (ζ t ≡ θ t) v t
      (λ q. rw (q, put_same η v (θ v)))
      (λ q. put_other η v (θ v) t q ∙ e t (rw (ne_eqb t v q) m))))))
