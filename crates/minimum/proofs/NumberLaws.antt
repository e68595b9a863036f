-- The number computed is the number; and the laws by which numbers are compared: nothing else opens their definition.
use Rattle.std.specs.Prelude.{◌≡◌, refl, Bool, true, false, cond, ℕ, ◌*◌, ◌≤◌, ◌<◌, ltb}
use Rattle.std.proofs.Common.{ap, sym, ◌∙◌, subst, arith, le_of_eq, le_trans, ltb-true, ltb-false, lt-ltb, le-ltb}
use mathlib.Core.List.{List, [], ◌∷◌, Memᴰ}
use Rattle.label.specs.Limits.{first_variable, first_minimum}
use Rattle.diagram.specs.Diagram.{Tree}
use Rattle.state.specs.Inner.{IsMax}
use Rattle.state.proofs.MaxLaws.{max-one}
use Rattle.state.specs.State.{Atomic, State, Good, value, Fits}
use Rattle.state.specs.Terms.{Each, Terms}
use Rattle.state.proofs.ValueLaws.{by-low, Each-mono, Terms-mono, value_same}
use Rattle.state.specs.Highest.{max_vals, vars, start, Bound}
use Rattle.state.proofs.HighestLaws.{vars-up, vars-in, start_fits}
use Rattle.minimum.specs.Inner.{Met, Lowest, HighestLowest}
use Rattle.minimum.proofs.MinLaws.{max-min-one, max-min-by, max-min-scale}
use Rattle.minimum.specs.Number.{Under, Number, min_vals, below, from, maximums, minimums, number}
use Rattle.minimum.proofs.ReachLaws.{Reach, max_vals-reach, min_vals-reach, reach-fits, reach-under, overlay, overlay-kept, overlay-in, overlay-reach}

-- ===== The number computed =====

-- the lists have the variables of each kind
abbrev pub Covered : List ℕ → List ℕ → ℕ → Type 0
Covered us vs t = (first_variable ≤ t → t < first_minimum → Memᴰ t us) × (first_minimum ≤ t → Memᴰ t vs)

-- any lists that have the variables will do, and any valuation to begin with
module _ (s : State) (os : List ℕ) (good : Good s) (d : Tree Atomic) (us vs : List ℕ) (up : Each (λ v. first_variable ≤ v) us)
    (high : Each (λ v. first_minimum ≤ v) vs) (cover : Terms (Covered us vs) d) where
  -- valuations that agree on terms that are no variables, on the one list and on the other
  agree : (θ η : ℕ → ℕ) → ((t : ℕ) → t < first_variable → θ t ≡ η t) → ((t : ℕ) → t < first_minimum → Memᴰ t us → θ t ≡ η t)
      → ((t : ℕ) → Memᴰ t vs → θ t ≡ η t) → value s d θ ≡ value s d η
  agree θ η p q r = value_same (Covered us vs) s d θ η cover (λ t c. by-low (θ t ≡ η t) first_minimum t
      (λ h. by-low (θ t ≡ η t) first_variable t (p t) (λ k. q t h (c.0 k h)))
      (λ h. r t (c.1 h)))

  pub lowest-vals : (θ : ℕ → ℕ) → Fits s os θ → Lowest s os d θ (min_vals s.size vs θ (value s d))
  lowest-vals θ f =
      let low = min_vals-reach s.size good.some (value s d) vs θ in
      record {
        point = low.point;
        inside = reach-under s os vs low.inside high f;
        value = low.value;
        bound = λ η u. le_trans (low.bound (overlay vs θ η) (overlay-reach s.size vs θ η u.fits.range))
            (le_of_eq (agree (overlay vs θ η) η
            (λ t h. overlay-kept vs θ η t (sym (u.same t (omega arith))))
            (λ t h m. overlay-kept vs θ η t (sym (u.same t h)))
            (λ t m. overlay-in vs θ η t m)));
      }

  pub number-vals : (θ : ℕ → ℕ) → Fits s os θ → Number s os d (max_vals s.size us θ (λ η. min_vals s.size vs η (value s d)))
  number-vals θ f = record {
    point = top.point;
    inside = reach-fits s os top.inside up f;
    lowest = subst (λ (x : ℕ). Lowest s os d top.point x) top.value (lowest-vals top.point (reach-fits s os top.inside up f));
    bound = answer;
  }
    where
      lows : (ℕ → ℕ) → ℕ
      lows η = min_vals s.size vs η (value s d)

      top : IsMax (Reach s.size us θ) lows (max_vals s.size us θ lows)
      top = max_vals-reach s.size good.some lows us θ

      -- the lowest leaf at η is the lowest where only the variables that d has are as η gives them
      answer : (η : ℕ → ℕ) → Fits s os η → (μ : ℕ → ℕ) × Under s os η μ × (value s d μ ≤ max_vals s.size us θ lows)
      answer η g =
          let a = overlay us θ η in
          let r = overlay-reach s.size us θ η g.range in
          let low = lowest-vals a (reach-fits s os r up f) in
          let b = low.point in
          let u = low.inside in (
            overlay vs η b,
            reach-under s os vs (overlay-reach s.size vs η b u.fits.range) high g,
            le_trans (le_of_eq (agree (overlay vs η b) b
                (λ t h. overlay-kept vs η b t (g.low t h ∙ sym (u.fits.low t h)))
                (λ t h m. overlay-kept vs η b t (sym (u.same t h ∙ overlay-in us θ η t m)))
                (λ t m. overlay-in vs η b t m) ∙ low.value)) (top.bound a r),
          )

pub below_each : (P : ℕ → Type 0) (m : ℕ) (vs : List ℕ) → Each P vs → Each (λ v. P v × (v < m)) (below m vs)
unfolding below
below_each P m [] w = tt
below_each P m (v ∷ vs) w = go (ltb v m) refl (below_each P m vs w.1)
  where
    go : (b : Bool) → ltb v m ≡ b → Each (λ u. P u × (u < m)) (below m vs) → Each (λ u. P u × (u < m)) (cond b (v ∷ below m vs) (below m vs))
    go true e r = ((w.0, ltb-true v m e), r)
    go false e r = r

pub from_each : (P : ℕ → Type 0) (m : ℕ) (vs : List ℕ) → Each P vs → Each (λ v. P v × (m ≤ v)) (from m vs)
unfolding from
from_each P m [] w = tt
from_each P m (v ∷ vs) w = go (ltb v m) refl (from_each P m vs w.1)
  where
    go : (b : Bool) → ltb v m ≡ b → Each (λ u. P u × (m ≤ u)) (from m vs) → Each (λ u. P u × (m ≤ u)) (cond b (from m vs) (v ∷ from m vs))
    go true e r = r
    go false e r = ((w.0, ltb-false v m e), r)

pub below_in : (m t : ℕ) → t < m → (vs : List ℕ) → Memᴰ t vs → Memᴰ t (below m vs)
unfolding below
below_in m t h (v ∷ vs) i = go (ltb v m) refl i (below_in m t h vs)
  where
    go : (b : Bool) → ltb v m ≡ b → Memᴰ t (v ∷ vs) → (Memᴰ t vs → Memᴰ t (below m vs)) → Memᴰ t (cond b (v ∷ below m vs) (below m vs))
    go true e (Memᴰ.head q) r = Memᴰ.head q
    go true e (Memᴰ.tail j) r = Memᴰ.tail (r j)
    go false e (Memᴰ.head q) r = let k = ltb-false v m e in absurd (omega arith)
    go false e (Memᴰ.tail j) r = r j
below_in m t h [] i = elim i [ ]

pub from_in : (m t : ℕ) → m ≤ t → (vs : List ℕ) → Memᴰ t vs → Memᴰ t (from m vs)
unfolding from
from_in m t h (v ∷ vs) i = go (ltb v m) refl i (from_in m t h vs)
  where
    go : (b : Bool) → ltb v m ≡ b → Memᴰ t (v ∷ vs) → (Memᴰ t vs → Memᴰ t (from m vs)) → Memᴰ t (cond b (from m vs) (v ∷ from m vs))
    go true e (Memᴰ.head q) r = let k = ltb-true v m e in absurd (omega arith)
    go true e (Memᴰ.tail j) r = r j
    go false e (Memᴰ.head q) r = Memᴰ.head q
    go false e (Memᴰ.tail j) r = Memᴰ.tail (r j)
from_in m t h [] i = elim i [ ]

pub number_is : (s : State) (os : List ℕ) → Good s → Bound s os → (d : Tree Atomic) → Number s os d (number s os d)
unfolding number maximums minimums
number_is s os good b d = number-vals s os good d (maximums d) (minimums d)
    (Each-mono _ (λ v. first_variable ≤ v) (λ v h. h.0) (maximums d) (below_each (λ v. first_variable ≤ v) first_minimum (vars d) (vars-up d)))
    (Each-mono _ (λ v. first_minimum ≤ v) (λ v h. h.1) (minimums d) (from_each (λ v. first_variable ≤ v) first_minimum (vars d) (vars-up d)))
    (Terms-mono (λ t. first_variable ≤ t → Memᴰ t (vars d)) (Covered (maximums d) (minimums d))
    (λ t i. ((λ h k. below_in first_minimum t k (vars d) (i h)), (λ h. from_in first_minimum t h (vars d) (i (omega arith))))) d (vars-in d))
    (start s os) (start_fits s os good b)

-- ===== Numbers, one by another =====

-- there is one number
pub number-one : {s : State} {os : List ℕ} (d : Tree Atomic) {x y : ℕ} → Number s os d x → Number s os d y → x ≡ y
number-one d m k = max-min-one m k

-- what is a number is the number computed
pub number-equal : (s : State) (os : List ℕ) → Good s → Bound s os → (d : Tree Atomic) (x : ℕ) → Number s os d x → number s os d ≡ x
number-equal s os good b d x m = max-min-one (number_is s os good b d) m

-- the number is a leaf
pub number-attained : {s : State} {os : List ℕ} (d : Tree Atomic) {x : ℕ} → Number s os d x → (θ : ℕ → ℕ) × Fits s os θ × (value s d θ ≡ x)
number-attained d m = (m.lowest.point, m.lowest.inside.fits, m.lowest.value)

-- valuations that meet each other: the number is the same
pub number_by : {s s' : State} {os os' : List ℕ} (d d' : Tree Atomic) {x : ℕ} → Number s os d x
    → Met (Fits s os) (Under s os) (value s d) (Fits s' os') (Under s' os') (value s' d')
    → Met (Fits s' os') (Under s' os') (value s' d') (Fits s os) (Under s os) (value s d) → Number s' os' d' x
number_by d d' m up down = max-min-by m up down

-- equal leaves under every valuation
pub number_same : {s : State} {os : List ℕ} (d d' : Tree Atomic) {x : ℕ} → Number s os d x → ((θ : ℕ → ℕ) → Fits s os θ → value s d θ ≡ value s d' θ)
    → Number s os d' x
number_same d d' m e = max-min-by m
    (λ θ f. (θ, f, λ η u. (η, u, le_of_eq (e η u.fits))))
    (λ θ f. (θ, f, λ η u. (η, u, le_of_eq (sym (e η u.fits)))))

-- every leaf times w
pub number-scale : {s : State} {os : List ℕ} (d d' : Tree Atomic) {x : ℕ} (w : ℕ) → Number s os d x
    → ((θ : ℕ → ℕ) → Fits s os θ → value s d' θ ≡ value s d θ * w) → Number s os d' (x * w)
number-scale d d' w m e = max-min-scale w m (λ θ η f u. e η u.fits)

-- a valuation is under itself, and what is under it agrees with it on terms that are no variables
pub under-self : {s : State} {os : List ℕ} {θ : ℕ → ℕ} → Fits s os θ → Under s os θ θ
under-self f = record { fits = f; same = λ t h. refl }

-- everything but the minimum variables by θ, these by η
unfoldable pub split : (ℕ → ℕ) → (ℕ → ℕ) → ℕ → ℕ
split θ η t = cond (ltb t first_minimum) (θ t) (η t)

pub split-low : (θ η : ℕ → ℕ) (t : ℕ) → t < first_minimum → split θ η t ≡ θ t
unfolding split
split-low θ η t h = ap (λ b. cond b (θ t) (η t)) (lt-ltb t first_minimum h)

pub split-high : (θ η : ℕ → ℕ) (t : ℕ) → first_minimum ≤ t → split θ η t ≡ η t
unfolding split
split-high θ η t h = ap (λ b. cond b (θ t) (η t)) (le-ltb t first_minimum h)

pub split-under : {s : State} {os : List ℕ} {θ : ℕ → ℕ} (η : ℕ → ℕ) → Fits s os θ → ((t : ℕ) → η t < s.size) → Under s os θ (split θ η)
split-under {s} {os} {θ} η f r = record {
  fits = record {
    low = λ t h. split-low θ η t (omega arith) ∙ f.low t h;
    range = λ t. by-low (split θ η t < s.size) first_minimum t (λ h. rw (split-low θ η t h) (f.range t)) (λ h. rw (split-high θ η t h) (r t));
  };
  same = split-low θ η;
}

-- ===== In the words of the request =====

pub number-reads : {s : State} {os : List ℕ} (d : Tree Atomic) {x : ℕ} → Number s os d x → HighestLowest s os d x
number-reads d {x} m = record {
  point = (m.point, x);
  inside = (m.inside, m.lowest);
  value = refl;
  bound = λ p w. let b = m.bound p.0 w.0 in le_trans (w.1.bound b.0 b.1) b.2;
}

pub reads-number : (s : State) (os : List ℕ) → Good s → Bound s os → (d : Tree Atomic) (x : ℕ) → HighestLowest s os d x → Number s os d x
reads-number s os good b d x m = subst (λ (y : ℕ). Number s os d y) (max-one (number-reads d (number_is s os good b d)) m) (number_is s os good b d)
