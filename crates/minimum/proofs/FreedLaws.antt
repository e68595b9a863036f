-- Freeing: the number after it is the highest over all tuples of the number before it.
use Rattle.std.specs.Prelude.{◌≡◌, refl, ℕ, zero, suc, ◌+◌, ◌-◌, ◌≤◌, ◌<◌, get_or}
use Rattle.std.proofs.Math.Path.{ap, sym}
use Rattle.std.proofs.Common.{◌∙◌, le_of_eq, le_trans, lt-ltb, le-ltb}
use mathlib.Core.List.{List, [], ◌∷◌}
use native.Mathlib.Omega.{arith}
use Rattle.label.specs.Limits.{first_parameter, first_variable, first_minimum}
use Rattle.label.specs.Renamings.{freeing}
use Rattle.label.proofs.RenamingLaws.{freeing-constant, freeing-parameter, freeing-variable, freeing-minimum}
use Rattle.diagram.specs.Diagram.{Tree}
use Rattle.state.specs.Max.{max_tuples, Tuple, none, more}
use Rattle.state.proofs.MaxLaws.{max_tuples-is}
use Rattle.state.specs.State.{Atomic, State, Good, value, low, fixed, Fits}
use Rattle.state.specs.Terms.{rename}
use Rattle.state.proofs.ValueLaws.{low-lt, low-ge, by-low, rename-value, value_same}
use Rattle.state.proofs.HighestLaws.{bound-tuple}
use Rattle.minimum.specs.Inner.{Met, Room}
use Rattle.minimum.proofs.MinLaws.{max-min}
use Rattle.minimum.specs.Number.{Under, Number, number}
use Rattle.minimum.proofs.NumberLaws.{number_is, number-equal, split, split-low, split-high, split-under}

-- ===== A tuple of objects chosen freely =====

-- a valuation of d with a tuple is met by one of d' without; one of d' is met by one of d with some tuple
module _ {s : State} (good : Good s) (c : ℕ) (d d' : Tree Atomic)
    (freed : (os : List ℕ) → Tuple s.size c os → Met (Fits s os) (Under s os) (value s d) (Fits s []) (Under s []) (value s d'))
    (bound : (η : ℕ → ℕ) → Fits s [] η → (os : List ℕ) × Tuple s.size c os × ((θ : ℕ → ℕ) × Fits s os θ × ((θ' : ℕ → ℕ) → Under s os θ θ'
    → (η' : ℕ → ℕ) × Under s [] η η' × (value s d' η' ≤ value s d θ')))) where
  pub number-tuples : (x : List ℕ → ℕ) → ((os : List ℕ) → Tuple s.size c os → Number s os d (x os)) → Number s [] d' (max_tuples s.size c x)
  number-tuples x m =
      let top = max_tuples-is s.size c x good.some in
      let best = m top.point top.inside in
      let f = freed top.point top.inside best.point best.inside in
      max-min f.0 f.1
      (λ η u. let b = f.2 η u in le_trans (le_of_eq (sym top.value)) (le_trans (best.lowest.bound b.0 b.1) b.2))
      (λ η g.
      let t = bound η g in
      let p = t.2 in
      let b = (m t.0 t.1).bound p.0 p.1 in
      let r = p.2 b.0 b.1 in
      (r.0, r.1, le_trans r.2 (le_trans b.2 (top.bound t.0 t.1))))

-- ===== Freeing =====

freeing-rest : (c t : ℕ) → first_parameter + c ≤ t → t < first_variable → freeing c t ≡ t
unfolding freeing
freeing-rest c t h k = rw (le-ltb t first_parameter (omega arith), le-ltb t (first_parameter + c) h, lt-ltb t first_variable k)

-- the four cases of a term below the minimum variables
pub by_kind : (c : ℕ) (P : Type 0) (t : ℕ) → (t < first_parameter → P) → (first_parameter ≤ t → t < first_parameter + c → P)
    → (first_parameter + c ≤ t → t < first_variable → P) → (first_variable ≤ t → P) → P
by_kind c P t f g h k = by-low P first_parameter t f (λ l. by-low P (first_parameter + c) t (g l) (λ m. by-low P first_variable t (h m) k))

fixed-constant : (s : State) (os : List ℕ) (t : ℕ) → t < first_parameter → fixed s os t ≡ s.constant t
unfolding fixed
fixed-constant s os t h = low-lt first_parameter t (s.constant t) _ h

fixed-parameter : (s : State) (os : List ℕ) (t : ℕ) → first_parameter ≤ t → fixed s os t ≡ get_or os (t - first_parameter) (s.constant 0)
unfolding fixed
fixed-parameter s os t h = low-ge first_parameter t (s.constant t) _ h

tuple-past : {n c : ℕ} {os : List ℕ} → Tuple n c os → (i d : ℕ) → c ≤ i → get_or os i d ≡ d
tuple-past none i d h = refl
tuple-past (more l t) zero d h = absurd (omega arith)
tuple-past (more l t) (suc i) d h = tuple-past t i d (omega arith)

-- f 0 .. f (c - 1)
values : ℕ → (ℕ → ℕ) → List ℕ
values zero f = []
values (suc c) f = f 0 ∷ values c (λ i. f (suc i))

values-tuple : (n c : ℕ) (f : ℕ → ℕ) → ((i : ℕ) → f i < n) → Tuple n c (values c f)
unfolding values
values-tuple n zero f h = none
values-tuple n (suc c) f h = more (h 0) (values-tuple n c (λ i. f (suc i)) (λ i. h (suc i)))

values-at : (c : ℕ) (f : ℕ → ℕ) (i d : ℕ) → i < c → get_or (values c f) i d ≡ f i
unfolding values
values-at zero f i d h = absurd (omega arith)
values-at (suc c) f zero d h = refl
values-at (suc c) f (suc i) d h = values-at c (λ j. f (suc j)) i d (omega arith)

-- a valuation of the freed diagram from a tuple and a valuation for it
unfree : State → ℕ → List ℕ → (ℕ → ℕ) → ℕ → ℕ
unfree s c os θ t = low first_variable t (fixed s [] t) (low (first_variable + c) t (get_or os (t - first_variable) (s.constant 0)) (θ (t - c)))

module _ (s : State) (good : Good s) (c : ℕ) (few : first_parameter + c ≤ first_variable) where
  unfree-low : (os : List ℕ) (θ : ℕ → ℕ) (t : ℕ) → t < first_variable → unfree s c os θ t ≡ fixed s [] t
  unfolding unfree
  unfree-low os θ t h = low-lt first_variable t (fixed s [] t) _ h

  unfree-mid : (os : List ℕ) (θ : ℕ → ℕ) (t : ℕ) → first_variable ≤ t → t < first_variable + c → unfree s c os θ t ≡ get_or os (t - first_variable) (s.constant 0)
  unfolding unfree
  unfree-mid os θ t h k = low-ge first_variable t (fixed s [] t) _ h ∙ low-lt (first_variable + c) t (get_or os (t - first_variable) (s.constant 0)) _ k

  unfree-high : (os : List ℕ) (θ : ℕ → ℕ) (t : ℕ) → first_variable + c ≤ t → unfree s c os θ t ≡ θ (t - c)
  unfolding unfree
  unfree-high os θ t h = low-ge first_variable t (fixed s [] t) _ (omega arith) ∙ low-ge (first_variable + c) t (get_or os (t - first_variable) (s.constant 0)) _ h

  unfree-free : (os : List ℕ) (θ : ℕ → ℕ) → Tuple s.size c os → Fits s os θ → (t : ℕ) → t < first_minimum → unfree s c os θ (freeing c t) ≡ θ t
  unfree-free os θ tu f t m = by_kind c (unfree s c os θ (freeing c t) ≡ θ t) t
      (λ h. rw (freeing-constant c t h) (unfree-low os θ t (omega arith) ∙ fixed-constant s [] t h ∙ sym (fixed-constant s os t h) ∙ sym (f.low t (omega arith))))
      (λ h k.
      let e : (t + (first_variable - first_parameter)) - first_variable ≡ t - first_parameter = omega arith in
      rw (freeing-parameter c t h k) (unfree-mid os θ (t + (first_variable - first_parameter)) (omega arith) (omega arith) ∙ ap (λ i. get_or os i (s.constant 0)) e
      ∙ sym (fixed-parameter s os t h) ∙ sym (f.low t (omega arith))))
      (λ h k. rw (freeing-rest c t h k) (unfree-low os θ t k ∙ fixed-parameter s [] t (omega arith)
      ∙ sym (tuple-past tu (t - first_parameter) (s.constant 0) (omega arith)) ∙ sym (fixed-parameter s os t (omega arith)) ∙ sym (f.low t k)))
      (λ h.
      let e : (t + c) - c ≡ t = omega arith in
      rw (freeing-variable c t few h m) (unfree-high os θ (t + c) (omega arith) ∙ ap θ e))

  unfree-fits : (os : List ℕ) (θ : ℕ → ℕ) → Tuple s.size c os → Fits s os θ → Fits s [] (unfree s c os θ)
  unfree-fits os θ tu f = record {
    low = λ t h. unfree-low os θ t h;
    range = λ t. by-low (unfree s c os θ t < s.size) first_variable t
        (λ h. rw (unfree-low os θ t h) (by-low (fixed s [] t < s.size) first_parameter t
        (λ l. rw (fixed-constant s [] t l) (good.placed t))
        (λ l. rw (fixed-parameter s [] t l) (good.placed 0))))
        (λ h. by-low (unfree s c os θ t < s.size) (first_variable + c) t
        (λ l. rw (unfree-mid os θ t h l) ((bound-tuple good tu).each (t - first_variable)))
        (λ l. rw (unfree-high os θ t l) (f.range (t - c))));
  }

  -- the tuple that a valuation of the freed diagram gives the parameters
  taken : (ℕ → ℕ) → List ℕ
  taken θ = values c (λ i. θ (first_variable + i))

  taken-tuple : (θ : ℕ → ℕ) → Fits s [] θ → Tuple s.size c (taken θ)
  unfolding taken
  taken-tuple θ f = values-tuple s.size c (λ i. θ (first_variable + i)) (λ i. f.range (first_variable + i))

  freed-fits : (θ : ℕ → ℕ) → Fits s [] θ → Fits s (taken θ) (λ t. θ (freeing c t))
  unfolding taken
  freed-fits θ f = record {
    low = λ t h. by_kind c (θ (freeing c t) ≡ fixed s (taken θ) t) t
        (λ l. ap θ (freeing-constant c t l) ∙ f.low t h ∙ fixed-constant s [] t l ∙ sym (fixed-constant s (taken θ) t l))
        (λ l k.
        let e : t + (first_variable - first_parameter) ≡ first_variable + (t - first_parameter) = omega arith in
        ap θ (freeing-parameter c t l k ∙ e) ∙ sym (values-at c (λ i. θ (first_variable + i)) (t - first_parameter) (s.constant 0) (omega arith))
        ∙ sym (fixed-parameter s (taken θ) t l))
        (λ l k. ap θ (freeing-rest c t l k) ∙ f.low t h ∙ fixed-parameter s [] t (omega arith)
        ∙ sym (tuple-past (taken-tuple θ f) (t - first_parameter) (s.constant 0) (omega arith)) ∙ sym (fixed-parameter s (taken θ) t (omega arith)))
        (λ l. absurd (omega arith));
    range = λ t. f.range (freeing c t);
  }

  -- what is below the minimum variables stays there
  freed-below : (t : ℕ) → t < first_minimum → (first_variable ≤ t → t < first_minimum → t + c < first_minimum) → freeing c t < first_minimum
  freed-below t h room = by_kind c (freeing c t < first_minimum) t
      (λ l. rw (freeing-constant c t l) h)
      (λ l k. rw (freeing-parameter c t l k) (omega arith))
      (λ l k. rw (freeing-rest c t l k) h)
      (λ l. rw (freeing-variable c t few l h) (room l h))

  module _ (d : Tree Atomic) (room : Room c d) where
    -- valuations that agree on the terms below the minimum variables and on these
    through : (θ η : ℕ → ℕ) → ((t : ℕ) → t < first_minimum → freeing c t < first_minimum → θ (freeing c t) ≡ η t) → ((t : ℕ) → first_minimum ≤ t → θ t ≡ η t)
        → value s (rename (freeing c) d) θ ≡ value s d η
    through θ η p q = rename-value s (freeing c) d θ
        ∙ value_same (λ t. first_variable ≤ t → t < first_minimum → t + c < first_minimum) s d (λ t. θ (freeing c t)) η room
        (λ t k. by-low (θ (freeing c t) ≡ η t) first_minimum t
        (λ h. p t h (freed-below t h k))
        (λ h. ap θ (freeing-minimum c t few h) ∙ q t h))

    -- freeing takes the maximum over the tuples
    pub number-freed : (x : List ℕ → ℕ) → ((os : List ℕ) → Tuple s.size c os → Number s os d (x os))
        → Number s [] (rename (freeing c) d) (max_tuples s.size c x)
    number-freed x m = number-tuples good c d (rename (freeing c) d)
        (λ os tu θ f. (
          unfree s c os θ,
          unfree-fits os θ tu f,
          λ η u. (
            split θ η,
            split-under η f u.fits.range,
            le_of_eq (sym (through η (split θ η)
                (λ t h k. u.same (freeing c t) k ∙ unfree-free os θ tu f t h ∙ sym (split-low θ η t h))
                (λ t h. sym (split-high θ η t h)))),
          ),
        ))
        (λ η g. (
          taken η,
          taken-tuple η g,
          (
            (λ t. η (freeing c t)),
            freed-fits η g,
            λ θ u. (
              split η θ,
              split-under θ g u.fits.range,
              le_of_eq (through (split η θ) θ
                  (λ t h k. split-low η θ (freeing c t) k ∙ sym (u.same t h))
                  (λ t h. split-high η θ t h)),
            ),
          ),
        ))
        x m

    pub number-of-freed : number s [] (rename (freeing c) d) ≡ max_tuples s.size c (λ os. number s os d)
    number-of-freed = number-equal s [] good (record { each = λ i. good.placed 0 }) (rename (freeing c) d) _
        (number-freed (λ os. number s os d) (λ os tu. number_is s os good (bound-tuple good tu) d))
