-- The highest leaf computed is the highest leaf; and all that crates above use of highest leaves: nothing else opens their definition.
use Rattle.std.specs.Prelude.{◌≡◌, refl, Bool, true, false, cond, ℕ, zero, suc, ◌-◌, ◌≤◌, ◌<◌, max, get_or, ltb, eqb}
use Rattle.std.proofs.Common.{ap, sym, ◌∙◌, arith, le_refl, le_of_eq, le_trans, ltb-true, ltb-false, eqb-true, eq-eqb, ne_eqb}
use mathlib.Core.List.{List, [], ◌∷◌, Memᴰ}
use Rattle.std.proofs.lemmas.Bool.{eqb-false}
use Rattle.label.specs.Limits.{first_parameter, first_variable}
use Rattle.diagram.specs.Diagram.{Tree, leaf, branch}
use Rattle.state.specs.Inner.{Below, Highest}
use Rattle.state.specs.Max.{Tuple, none, more}
use Rattle.state.proofs.MaxLaws.{max-by, max-one, max-same, max-both, max_to-is}
use Rattle.state.specs.State.{Atomic, State, Good, value, low, fixed, Fits}
use Rattle.state.specs.Terms.{Each, args, Terms}
use Rattle.state.proofs.ValueLaws.{low-lt, low-ge, by-low, Each-mono, value_same, Terms-mono}
use Rattle.state.specs.Highest.{put, max_vals, insert, vars_of, vars_in, vars, start, highest, Bound}

pub put_same : (θ : ℕ → ℕ) (v o : ℕ) → put θ v o v ≡ o
unfolding put
put_same θ v o = ap (λ b. cond b o (θ v)) (eq-eqb v v refl)

pub put_other : (θ : ℕ → ℕ) (v o t : ℕ) → (t ≡ v → ⊥) → put θ v o t ≡ θ t
unfolding put
put_other θ v o t h = ap (λ b. cond b o (θ t)) (ne_eqb t v h)

pub by-eq : (P : Type 0) (m t : ℕ) → (t ≡ m → P) → ((t ≡ m → ⊥) → P) → P
by-eq P m t f g = go (eqb t m) refl
  where
    go : (b : Bool) → eqb t m ≡ b → P
    go true e = f (eqb-true t m e)
    go false e = g (eqb-false t m e)

pub put-fits : (s : State) (os : List ℕ) (θ : ℕ → ℕ) (v o : ℕ) → first_variable ≤ v → o < s.size → Fits s os θ → Fits s os (put θ v o)
put-fits s os θ v o h l f = record {
  low = λ t k. put_other θ v o t (λ e. omega arith) ∙ f.low t k;
  range = λ t. by-eq (put θ v o t < s.size) v t
      (λ e. rw (e, put_same θ v o) l)
      (λ e. rw (put_other θ v o t e) (f.range t));
}

module _ (s : State) (os : List ℕ) (good : Good s) (f : (ℕ → ℕ) → ℕ) where
  hit : (vs : List ℕ) (θ : ℕ → ℕ) → Each (λ v. first_variable ≤ v) vs → Fits s os θ → (η : ℕ → ℕ) × Fits s os η × (f η ≡ max_vals s.size vs θ f)
  unfolding max_vals
  hit [] θ w g = (θ, g, refl)
  hit (v ∷ vs) θ w g =
      let m = max_to-is s.size (λ o. max_vals s.size vs (put θ v o) f) good.some in
      let r = hit vs (put θ v m.point) w.1 (put-fits s os θ v m.point w.0 m.inside g) in
      (r.0, r.1, r.2 ∙ m.value)

overlay : List ℕ → (ℕ → ℕ) → (ℕ → ℕ) → ℕ → ℕ
overlay [] θ η = θ
overlay (v ∷ vs) θ η = overlay vs (put θ v (η v)) η

overlay-kept : (vs : List ℕ) (θ η : ℕ → ℕ) (t : ℕ) → θ t ≡ η t → overlay vs θ η t ≡ η t
unfolding overlay
overlay-kept [] θ η t e = e
overlay-kept (v ∷ vs) θ η t e = overlay-kept vs (put θ v (η v)) η t
    (by-eq (put θ v (η v) t ≡ η t) v t (λ q. rw (q, put_same θ v (η v)) refl) (λ q. put_other θ v (η v) t q ∙ e))

overlay-in : (vs : List ℕ) (θ η : ℕ → ℕ) (t : ℕ) → Memᴰ t vs → overlay vs θ η t ≡ η t
unfolding overlay
overlay-in (v ∷ vs) θ η t (Memᴰ.head e) = overlay-kept vs (put θ v (η v)) η t (rw e (put_same θ v (η v)))
overlay-in (v ∷ vs) θ η t (Memᴰ.tail m) = overlay-in vs (put θ v (η v)) η t m
overlay-in [] θ η t x' = elim x' [ ]

over : (s : State) (os : List ℕ) (good : Good s) (f : (ℕ → ℕ) → ℕ) (vs : List ℕ) (θ η : ℕ → ℕ) → Fits s os η
    → f (overlay vs θ η) ≤ max_vals s.size vs θ f
unfolding max_vals overlay
over s os good f [] θ η g = le_refl (f θ)
over s os good f (v ∷ vs) θ η g = le_trans (over s os good f vs (put θ v (η v)) η g)
    ((max_to-is s.size (λ o. max_vals s.size vs (put θ v o) f) good.some).bound (η v) (g.range v))

-- any list that has the variables will do
pub max_vals-is : (s : State) (os : List ℕ) (good : Good s) (d : Tree Atomic) (vs : List ℕ) (θ : ℕ → ℕ) → Each (λ v. first_variable ≤ v) vs
    → Terms (λ t. first_variable ≤ t → Memᴰ t vs) d → Fits s os θ → Highest s os d (max_vals s.size vs θ (value s d))
max_vals-is s os good d vs θ up cover g = record {
  point = h.0;
  inside = h.1;
  value = h.2;
  bound = λ η k. le_trans (le_of_eq (sym (same η k))) (over s os good (value s d) vs θ η k);
}
  where
    h : (η : ℕ → ℕ) × Fits s os η × (value s d η ≡ max_vals s.size vs θ (value s d))
    h = hit s os good (value s d) vs θ up g

    same : (η : ℕ → ℕ) → Fits s os η → value s d (overlay vs θ η) ≡ value s d η
    same η k = value_same (λ t. first_variable ≤ t → Memᴰ t vs) s d (overlay vs θ η) η cover
        (λ t c. by-low (overlay vs θ η t ≡ η t) first_variable t
        (λ l. overlay-kept vs θ η t (g.low t l ∙ sym (k.low t l)))
        (λ l. overlay-in vs θ η t (c l)))

insert-up : (t : ℕ) (vs : List ℕ) → first_variable ≤ t → Each (λ v. first_variable ≤ v) vs → Each (λ v. first_variable ≤ v) (insert t vs)
unfolding insert
insert-up t [] h w = (h, tt)
insert-up t (v ∷ vs) h w = go (ltb t v) (eqb t v) (insert-up t vs h w.1)
  where
    go : (b c : Bool) → Each (λ v. first_variable ≤ v) (insert t vs) → Each (λ v. first_variable ≤ v) (cond b (t ∷ v ∷ vs) (cond c (v ∷ vs) (v ∷ insert t vs)))
    go true c r = (h, w)
    go false true r = w
    go false false r = (w.0, r)

insert-in : (t : ℕ) (vs : List ℕ) → Memᴰ t (insert t vs)
unfolding insert
insert-in t [] = Memᴰ.head refl
insert-in t (v ∷ vs) = go (ltb t v) (eqb t v) refl (insert-in t vs)
  where
    go : (b c : Bool) → eqb t v ≡ c → Memᴰ t (insert t vs) → Memᴰ t (cond b (t ∷ v ∷ vs) (cond c (v ∷ vs) (v ∷ insert t vs)))
    go true c e r = Memᴰ.head refl
    go false true e r = Memᴰ.head (eqb-true t v e)
    go false false e r = Memᴰ.tail r

insert-keeps : (t : ℕ) (vs : List ℕ) (u : ℕ) → Memᴰ u vs → Memᴰ u (insert t vs)
unfolding insert
insert-keeps t (v ∷ vs) u m = go (ltb t v) (eqb t v) m (insert-keeps t vs u)
  where
    go : (b c : Bool) → Memᴰ u (v ∷ vs) → (Memᴰ u vs → Memᴰ u (insert t vs)) → Memᴰ u (cond b (t ∷ v ∷ vs) (cond c (v ∷ vs) (v ∷ insert t vs)))
    go true c m r = Memᴰ.tail m
    go false true m r = m
    go false false (Memᴰ.head e) r = Memᴰ.head e
    go false false (Memᴰ.tail n) r = Memᴰ.tail (r n)
insert-keeps t [] u m = elim m [ ]

vars_of-up : (ts vs : List ℕ) → Each (λ v. first_variable ≤ v) vs → Each (λ v. first_variable ≤ v) (vars_of ts vs)
unfolding vars_of
vars_of-up [] vs w = w
vars_of-up (t ∷ ts) vs w = go (vars_of-up ts vs w) (ltb t first_variable) refl
  where
    go : Each (λ v. first_variable ≤ v) (vars_of ts vs) → (b : Bool) → ltb t first_variable ≡ b → Each (λ v. first_variable ≤ v) (cond b (vars_of ts vs) (insert t (vars_of ts vs)))
    go r true e = r
    go r false e = insert-up t (vars_of ts vs) (ltb-false t first_variable e) r

vars_of-keeps : (ts vs : List ℕ) (u : ℕ) → Memᴰ u vs → Memᴰ u (vars_of ts vs)
unfolding vars_of
vars_of-keeps [] vs u m = m
vars_of-keeps (t ∷ ts) vs u m = go (ltb t first_variable) (vars_of-keeps ts vs u m)
  where
    go : (b : Bool) → Memᴰ u (vars_of ts vs) → Memᴰ u (cond b (vars_of ts vs) (insert t (vars_of ts vs)))
    go true r = r
    go false r = insert-keeps t (vars_of ts vs) u r

vars_of-in : (ts vs : List ℕ) → Each (λ t. first_variable ≤ t → Memᴰ t (vars_of ts vs)) ts
unfolding vars_of
vars_of-in [] vs = tt
vars_of-in (t ∷ ts) vs = go (vars_of-in ts vs) (ltb t first_variable) refl
  where
    go : Each (λ u. first_variable ≤ u → Memᴰ u (vars_of ts vs)) ts → (b : Bool) → ltb t first_variable ≡ b
        → (first_variable ≤ t → Memᴰ t (cond b (vars_of ts vs) (insert t (vars_of ts vs)))) × Each (λ u. first_variable ≤ u → Memᴰ u (cond b (vars_of ts vs) (insert t (vars_of ts vs)))) ts
    go r true e = let l = ltb-true t first_variable e in ((λ h. absurd (omega arith)), r)
    go r false e = ((λ h. insert-in t (vars_of ts vs)), Each-mono _ _ (λ u k h. insert-keeps t (vars_of ts vs) u (k h)) ts r)

vars_in-up : (d : Tree Atomic) (vs : List ℕ) → Each (λ v. first_variable ≤ v) vs → Each (λ v. first_variable ≤ v) (vars_in d vs)
unfolding vars_in
vars_in-up (leaf x) vs w = w
vars_in-up (branch a t f) vs w = vars_of-up (args a) (vars_in t (vars_in f vs)) (vars_in-up t (vars_in f vs) (vars_in-up f vs w))

vars_in-keeps : (d : Tree Atomic) (vs : List ℕ) (u : ℕ) → Memᴰ u vs → Memᴰ u (vars_in d vs)
unfolding vars_in
vars_in-keeps (leaf x) vs u m = m
vars_in-keeps (branch a t f) vs u m = vars_of-keeps (args a) (vars_in t (vars_in f vs)) u (vars_in-keeps t (vars_in f vs) u (vars_in-keeps f vs u m))

vars_in-in : (d : Tree Atomic) (vs : List ℕ) → Terms (λ t. first_variable ≤ t → Memᴰ t (vars_in d vs)) d
unfolding vars_in
vars_in-in (leaf x) vs = tt
vars_in-in (branch a t f) vs = (
  vars_of-in (args a) (vars_in t (vars_in f vs)),
  Terms-mono _ _ (λ u k h. vars_of-keeps (args a) (vars_in t (vars_in f vs)) u (k h)) t (vars_in-in t (vars_in f vs)),
  Terms-mono _ _ (λ u k h. vars_of-keeps (args a) (vars_in t (vars_in f vs)) u (vars_in-keeps t (vars_in f vs) u (k h))) f (vars_in-in f vs),
)

pub vars-up : (d : Tree Atomic) → Each (λ v. first_variable ≤ v) (vars d)
unfolding vars
vars-up d = vars_in-up d [] tt

pub vars-in : (d : Tree Atomic) → Terms (λ t. first_variable ≤ t → Memᴰ t (vars d)) d
unfolding vars
vars-in d = vars_in-in d []

pub bound-tuple : {s : State} (good : Good s) {c : ℕ} {os : List ℕ} → Tuple s.size c os → Bound s os
bound-tuple {s} good t = record { each = go t }
  where
    go : {c : ℕ} {os : List ℕ} → Tuple s.size c os → (i : ℕ) → get_or os i (s.constant 0) < s.size
    go none i = good.placed 0
    go (more l t) zero = l
    go (more l t) (suc i) = go t i

pub start_fits : (s : State) (os : List ℕ) → Good s → Bound s os → Fits s os (start s os)
unfolding start fixed
start_fits s os good b = record {
  low = λ t h. low-lt first_variable t (fixed s os t) 0 h;
  range = λ t. by-low (start s os t < s.size) first_variable t
      (λ h. rw (low-lt first_variable t (fixed s os t) 0 h) (by-low (fixed s os t < s.size) first_parameter t
      (λ l. rw (low-lt first_parameter t (s.constant t) (get_or os (t - first_parameter) (s.constant 0)) l) (good.placed t))
      (λ l. rw (low-ge first_parameter t (s.constant t) (get_or os (t - first_parameter) (s.constant 0)) l) (b.each (t - first_parameter)))))
      (λ h. rw (low-ge first_variable t (fixed s os t) 0 h) good.some);
}

pub highest-is : (s : State) (os : List ℕ) → Good s → Bound s os → (d : Tree Atomic) → Highest s os d (highest s os d)
unfolding highest
highest-is s os good b d = max_vals-is s os good d (vars d) (start s os) (vars-up d) (vars-in d) (start_fits s os good b)

-- ===== Highest leaves, one by another =====

-- valuations that reach each other's leaves: the highest leaf is the same
pub highest-by : {s s' : State} {os os' : List ℕ} (d d' : Tree Atomic) {x : ℕ} → Highest s os d x
    → Below (Fits s os) (value s d) (Fits s' os') (value s' d') → Below (Fits s' os') (value s' d') (Fits s os) (value s d) → Highest s' os' d' x
highest-by d d' m up down = max-by m up down

-- equal leaves under every valuation
pub highest-same : {s : State} {os : List ℕ} (d d' : Tree Atomic) {x : ℕ} → Highest s os d x → ((θ : ℕ → ℕ) → Fits s os θ → value s d θ ≡ value s d' θ)
    → Highest s os d' x
highest-same d d' m e = max-same m e

-- there is one highest leaf
pub highest-one : {s : State} {os : List ℕ} (d : Tree Atomic) {x y : ℕ} → Highest s os d x → Highest s os d y → x ≡ y
highest-one d m k = max-one m k

-- the higher of two leaves under every valuation
pub highest-max : {s : State} {os : List ℕ} (a b c : Tree Atomic) {x y : ℕ} → Highest s os a x → Highest s os b y
    → ((θ : ℕ → ℕ) → Fits s os θ → value s c θ ≡ max (value s a θ) (value s b θ)) → Highest s os c (max x y)
highest-max a b c m k e = max-both m k e
