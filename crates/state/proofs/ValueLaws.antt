-- Laws of valuations: a diagram's value sees only its terms, and renaming is composition.
use Rattle.std.specs.Prelude.{◌≡◌, refl, List, [], ◌∷◌, map, Bool, true, false, cond, ℕ, ◌≤◌, ◌<◌, ltb}
use Rattle.std.proofs.Common.{ap, ap₂, ◌∙◌, arith, ltb-true, ltb-false, lt-ltb, le-ltb}
use Rattle.label.specs.Limits.{first_variable}
use Rattle.diagram.specs.Diagram.{Tree, leaf, branch, eval}
use Rattle.state.specs.State.{Atomic, atom, State, truth, holds, value, low, Fits, fixed}
use Rattle.state.specs.Terms.{Each, args, Terms, rename}

pub low-lt : (m t x y : ℕ) → t < m → low m t x y ≡ x
low-lt m t x y h = ap (λ b. cond b x y) (lt-ltb t m h)

pub low-ge : (m t x y : ℕ) → m ≤ t → low m t x y ≡ y
low-ge m t x y h = ap (λ b. cond b x y) (le-ltb t m h)

-- a statement on the term t: the two cases of t against m
pub by-low : (P : Type 0) (m t : ℕ) → (t < m → P) → (m ≤ t → P) → P
by-low P m t f g = go (ltb t m) refl
  where
    go : (b : Bool) → ltb t m ≡ b → P
    go true e = f (ltb-true t m e)
    go false e = g (ltb-false t m e)

pub map_same : (P : ℕ → Type 0) (f g : ℕ → ℕ) → ((t : ℕ) → P t → f t ≡ g t) → (ts : List ℕ) → Each P ts → map f ts ≡ map g ts
map_same P f g e [] w = refl
map_same P f g e (t ∷ ts) w = ap₂ ◌∷◌ (e t w.0) (map_same P f g e ts w.1)

pub map-map : (f g : ℕ → ℕ) (ts : List ℕ) → map f (map g ts) ≡ map (λ t. f (g t)) ts
map-map f g [] = refl
map-map f g (t ∷ ts) = ap (f (g t) ∷◌) (map-map f g ts)

pub Each-map : (P Q : ℕ → Type 0) (f : ℕ → ℕ) → ((t : ℕ) → P t → Q (f t)) → (ts : List ℕ) → Each P ts → Each Q (map f ts)
Each-map P Q f e [] w = tt
Each-map P Q f e (t ∷ ts) w = (e t w.0, Each-map P Q f e ts w.1)

-- truths that agree on the labels of d
pub eval-same : (P : ℕ → Type 0) (h k : Atomic → Bool) → ((a : Atomic) → Each P (args a) → h a ≡ k a) → (d : Tree Atomic) → Terms P d → eval h d ≡ eval k d
unfolding eval
eval-same P h k e (leaf x) w = refl
eval-same P h k e (branch a t f) w =
    rw (e a w.0, eval-same P h k e t w.1, eval-same P h k e f w.2) refl

pub value_same : (P : ℕ → Type 0) (s : State) (d : Tree Atomic) (θ η : ℕ → ℕ) → Terms P d → ((t : ℕ) → P t → θ t ≡ η t) → value s d θ ≡ value s d η
unfolding value holds
value_same P s d θ η w e = eval-same P (holds s θ) (holds s η) atoms d w
  where
    atoms : (a : Atomic) → Each P (args a) → holds s θ a ≡ holds s η a
    atoms (atom p ts) w = ap (truth s p) (map_same P θ η e ts w)

pub rename-value : (s : State) (ρ : ℕ → ℕ) (d : Tree Atomic) (θ : ℕ → ℕ) → value s (rename ρ d) θ ≡ value s d (λ t. θ (ρ t))
unfolding value eval rename holds
rename-value s ρ (leaf x) θ = refl
rename-value s ρ (branch (atom p ts) t f) θ =
    rw (map-map θ ρ ts, rename-value s ρ t θ, rename-value s ρ f θ) refl

pub Terms-map : (P Q : ℕ → Type 0) (f : ℕ → ℕ) → ((t : ℕ) → P t → Q (f t)) → (d : Tree Atomic) → Terms P d → Terms Q (rename f d)
unfolding rename
Terms-map P Q f e (leaf x) w = tt
Terms-map P Q f e (branch (atom p ts) t g) w = (Each-map P Q f e ts w.0, Terms-map P Q f e t w.1, Terms-map P Q f e g w.2)

pub Each-mono : (P Q : ℕ → Type 0) → ((t : ℕ) → P t → Q t) → (ts : List ℕ) → Each P ts → Each Q ts
Each-mono P Q e [] w = tt
Each-mono P Q e (t ∷ ts) w = (e t w.0, Each-mono P Q e ts w.1)

pub Terms-mono : (P Q : ℕ → Type 0) → ((t : ℕ) → P t → Q t) → (d : Tree Atomic) → Terms P d → Terms Q d
Terms-mono P Q e (leaf x) w = tt
Terms-mono P Q e (branch (atom p ts) t g) w = (Each-mono P Q e ts w.0, Terms-mono P Q e t w.1, Terms-mono P Q e g w.2)

-- a valuation after a renaming that leaves what is no variable
pub fits-zero : {s : State} {os : List ℕ} {θ : ℕ → ℕ} → Fits s os θ → θ 0 ≡ s.constant 0
unfolding fixed
fits-zero {s} {os} f = f.low 0 (omega arith)

pub fits_after : {s : State} {os : List ℕ} {θ ρ : ℕ → ℕ} → Fits s os θ → ((t : ℕ) → t < first_variable → ρ t ≡ t) → Fits s os (λ t. θ (ρ t))
fits_after {θ = θ} {ρ = ρ} f k = record {
  low = λ t h. ap θ (k t h) ∙ f.low t h;
  range = λ t. f.range (ρ t);
}
