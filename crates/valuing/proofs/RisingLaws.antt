-- Laws of the search where there are minimum variables, in the words of the code.
use mathlib.Core.Path.{◌≡◌, refl, sym, ap, subst, ◌∙◌}
use mathlib.Core.Bool.{Bool, true, false, cond}
use mathlib.Core.List.{List, []}
use Prim.Native.Nat.{ℕ, suc, ◌+◌, ◌-◌, ◌*◌, ◌≤◌, ◌<◌}
use native.Mathlib.Omega.{arith}
use borrow.Author.Tests.{ltb-true, ltb-false, lt-ltb, le-ltb}
use lib.ListN.{length, get_or, set, replicate, length-set, length-replicate}
use lib.Seq.{get_or-set_same, get_or-set_other, set-get_or, set-set}
use lib.Dec.{ltb}
use Rattle.basics.specs.Tests.{Cmp, below, equal, above, cmp, Flag, is_true, is_false, flag}
use Rattle.label.specs.Limits.{term_end, first_variable, first_minimum, leaf_mark}
use Rattle.diagram.specs.Sizes.{highest_value, most_rows}
use Rattle.diagram.specs.Diagram.{Diagram, leaf, branch, eval}
use Rattle.diagram.specs.Words.{label_at, high_at, row_count}
use Rattle.diagram.specs.Listing.{diagram_of, Fine}
use Rattle.diagram.specs.Validity.{Valid}
use Rattle.diagram.specs.Variables.{occurs}
use Rattle.diagram.specs.RowDiagrams.{leaf-row}
use Rattle.diagram.specs.DiagramOfListing.{valid-rows, good-diagram}
use Rattle.state.specs.State.{meaning}
use Rattle.state.proofs.ValueLaws.{by-low, value_same}
use Rattle.state.specs.Lent.{state_of}
use Rattle.minimum.proofs.NumberLaws.{split, split-low, split-high}
use Rattle.minimum.proofs.OccurLaws.{occur-terms}
use Rattle.listing.specs.Used.{Used}
use Rattle.valuing.specs.Search.{free, TopsBy, lent_holds, leaf_from, Extends, Env, Topping, Hit, old, new, Best, Ready}
use Rattle.valuing.specs.Rising.{turned, leaf_of, Beneath, Held, Settled, Topmost, Chosen, Rising, Next}
use Rattle.valuing.specs.Rising as rising
use Rattle.valuing.proofs.SearchLaws.{tops-in-state, filled, filled-extends, set-env, extends-in, extends-out}
use Rattle.valuing.proofs.StartLaws.{lent-value, root-number}

-- ===== Leaves turned about =====

-- the two cases
pub data Turned (best x r : ℕ) : Type 0 where
  lower : x < best → r ≡ highest_value → Turned best x r
  upper : best ≤ x → r ≡ highest_value - x → Turned best x r

pub turned-case : (best x : ℕ) → Turned best x (turned best x)
unfolding turned
turned-case best x = go (flag (ltb x best))
  where
    go : Flag (ltb x best) → Turned best x (cond (ltb x best) highest_value (highest_value - x))
    go (is_true e) = lower (ltb-true x best e) (ap (λ b. cond b highest_value (highest_value - x)) e)
    go (is_false e) = upper (ltb-false x best e) (ap (λ b. cond b highest_value (highest_value - x)) e)

turned-few : (best x : ℕ) → turned best x ≤ highest_value
turned-few best x = go (turned-case best x)
  where
    go : Turned best x (turned best x) → turned best x ≤ highest_value
    go (lower h e) = omega arith
    go (upper h e) = omega arith

pub turned-lower : (best x : ℕ) → x < best → highest_value ≡ turned best x
unfolding turned
turned-lower best x h = rw (lt-ltb x best h)

pub turned-upper : (best x : ℕ) → best ≤ x → highest_value - x ≡ turned best x
unfolding turned
turned-upper best x h = rw (le-ltb x best h)

-- a leaf's value has room
pub turn-value : {ws low : List ℕ} → Topping ws low → {i : ℕ} → i < row_count ws → get_or ws (i * 3) 0 ≡ leaf_mark → get_or ws (i * 3 + 1) 0 ≤ highest_value
unfolding label_at high_at
turn-value {ws} t {i} h e = (leaf-row t.arities ws (row_count ws) (valid-rows t.arities ws t.valid) i h e).value

-- ===== Leaves =====

-- the leaf sees only the terms that occur
leaf-agrees : (ar facts ws : List ℕ) (θ η : ℕ → ℕ) → ((t : ℕ) → occurs ar t (diagram_of ws) ≡ true → θ t ≡ η t) → leaf_of ar facts ws θ ≡ leaf_of ar facts ws η
unfolding leaf_of
leaf-agrees ar facts ws θ η e =
    sym (lent-value ar 0 [] facts θ (diagram_of ws))
    ∙ value_same (λ t. occurs ar t (diagram_of ws) ≡ true) (state_of ar 0 [] facts) (meaning ar (diagram_of ws)) θ η (occur-terms ar (diagram_of ws)) e
    ∙ lent-value ar 0 [] facts η (diagram_of ws)

eval-most : (ar : List ℕ) (c : ℕ → Bool) (d : Diagram) → Fine ar d → eval c d ≤ highest_value
unfolding eval
eval-most ar c (leaf v) f = f
eval-most ar c (branch l t e) f = go (c l) (eval-most ar c t f.1) (eval-most ar c e f.2)
  where
    go : (b : Bool) {x y : ℕ} → x ≤ highest_value → y ≤ highest_value → cond b x y ≤ highest_value
    go true p q = p
    go false p q = q

pub leaf-most : (ar facts ws : List ℕ) → Valid ar ws → (θ : ℕ → ℕ) → leaf_of ar facts ws θ ≤ highest_value
unfolding leaf_of
leaf-most ar facts ws v θ = eval-most ar (lent_holds ar facts θ) (diagram_of ws) (good-diagram ar ws v).fine

-- ===== Beneath one choice =====

pub beneath-self : {n : ℕ} {env : List ℕ} {θ : ℕ → ℕ} → Extends n env θ → Beneath n θ θ
beneath-self x = record { same = λ t h. refl; range = x.range }

module _ {ws low ar facts index env : List ℕ} {n best : ℕ} (q : Rising ws low ar facts index env n first_minimum best) where
  pub settle-ready : Ready ws low ar facts index env n
  settle-ready = record {
    valid = q.chosen.valid;
    places = q.places;
    tops = tops-in-state ar q.chosen.valid q.lows (λ x h. turned-few best x);
    indexed = q.chosen.indexed;
    env-fits = q.chosen.env-fits;
  }

  pub settle-last : row_count ws - 1 < row_count ws
  settle-last = omega (arith, q.chosen.valid.some)

  module _ {a : ℕ} {env' : List ℕ} (t : Best ar facts ws low env n (row_count ws - 1) 0 a env') where
    number-of : (θ : ℕ → ℕ) → leaf_from ar facts ws low θ (row_count ws - 1) ≡ turned best (leaf_of ar facts ws θ)
    number-of θ = root-number ar facts q.chosen.valid q.lows θ

    -- one leaf is the lowest, and no leaf is lower
    record Lowest : Type 0 where
      point : ℕ → ℕ
      extends : Extends n env point
      is : a ≡ suc (turned best (leaf_of ar facts ws point))

    lowest : Lowest
    lowest = go t.hit
      where
        go : Hit ar facts ws low env n (row_count ws - 1) 0 a → Lowest
        go (old e) = absurd (omega (arith, t.above (filled env) (filled-extends q.chosen.env-fits)))
        go (new θ x e) = record { point = θ; extends = x; is = e ∙ ap suc (number-of θ) }

    few : a ≤ highest_value + 1
    few = omega (arith, lowest.is, turned-few best (leaf_of ar facts ws lowest.point))

    pub settle-few : a ≤ highest_value + 2
    settle-few = omega (arith, few)

    -- its leaf counts beneath every choice
    lower-leaf : (b : ℕ) → best ≤ b → highest_value + 2 - a ≤ b → (θ : ℕ → ℕ) → Extends n env θ → (η : ℕ → ℕ) × Beneath n θ η × (leaf_of ar facts ws η < b)
    lower-leaf b k m θ x =
        let w = lowest.point in
        let same : leaf_of ar facts ws (split θ w) ≡ leaf_of ar facts ws w = leaf-agrees ar facts ws (split θ w) w agree in (
          split θ w,
          record {
            same = split-low θ w;
            range = λ t. by-low (split θ w t < n) first_minimum t (λ h. rw (split-low θ w t h) (x.range t)) (λ h. rw (split-high θ w t h) (lowest.extends.range t));
          },
          less same (turned-case best (leaf_of ar facts ws w)),
        )
      where
        agree : (t : ℕ) → occurs ar t (diagram_of ws) ≡ true → split θ lowest.point t ≡ lowest.point t
        agree t o = by-low (split θ lowest.point t ≡ lowest.point t) first_minimum t
            (λ h. let f = q.chosen.bound t h o in
            split-low θ lowest.point t h ∙ x.agrees t (omega arith) f ∙ sym (lowest.extends.agrees t (omega arith) f))
            (λ h. split-high θ lowest.point t h)

        less : leaf_of ar facts ws (split θ lowest.point) ≡ leaf_of ar facts ws lowest.point
            → Turned best (leaf_of ar facts ws lowest.point) (turned best (leaf_of ar facts ws lowest.point)) → leaf_of ar facts ws (split θ lowest.point) < b
        less e (lower h r) = omega arith
        less e (upper h r) = omega (arith, lowest.is, leaf-most ar facts ws q.chosen.valid lowest.point)

    pub settle-old : highest_value + 2 - a ≤ best → Settled ar facts ws env n best best low env'
    settle-old m = record {
      restored = t.restored;
      lows = q.lows;
      risen = record { kept = omega arith; above = lower-leaf best (omega arith) m; held = rising.old refl };
    }

    -- what is beneath a choice extends env, where all maximum variables that occur have objects
    beneath-extends : (θ η : ℕ → ℕ) → Extends n env θ → Beneath n θ η → Extends n env η
    beneath-extends θ η x u = record {
      agrees = λ t l h. by-low (η t ≡ get_or env t 0) first_minimum t (λ k. u.same t k ∙ x.agrees t l h) (λ k. absurd (h (q.chosen.unbound t k l)));
      range = u.range;
    }

    pub settle-new : {low' : List ℕ} → best < highest_value + 2 - a → TopsBy (turned (highest_value + 2 - a)) ws low' (row_count ws)
        → Settled ar facts ws env n best (highest_value + 2 - a) low' env'
    settle-new h l = record {
      restored = t.restored;
      lows = l;
      risen = record {
        kept = omega arith;
        above = lower-leaf (highest_value + 2 - a) (omega arith) (omega arith);
        held = rising.new (filled env) (filled-extends q.chosen.env-fits) (λ η u.
            all η (beneath-extends (filled env) η (filled-extends q.chosen.env-fits) u) (turned-case best (leaf_of ar facts ws η)));
      };
    }
      where
        all : (η : ℕ → ℕ) → Extends n env η → Turned best (leaf_of ar facts ws η) (turned best (leaf_of ar facts ws η)) → highest_value + 2 - a ≤ suc (leaf_of ar facts ws η)
        all η x (lower k r) = omega (arith, number-of η, t.above η x, few)
        all η x (upper k r) = omega (arith, number-of η, t.above η x, few)

-- ===== Objects given in turn to the maximum variable t =====

-- the objects below v were given to t, and b is the best
pub record Trying (ws low ar facts index marks env₀ env : List ℕ) (n t next most best v b : ℕ) : Type 0 where
  pub ready : Rising ws low ar facts index env₀ n t b
  pub used : Used ar (diagram_of ws) marks
  pub topmost : Topmost ar facts ws env₀ n most
  pub term : t < first_minimum
  pub next-is : Next marks (t + 1) next
  pub word : set env t free ≡ env₀
  pub within : v ≤ n
  pub kept : best ≤ b
  pub above : (θ : ℕ → ℕ) → Extends n env₀ θ → θ t < v → (η : ℕ → ℕ) × Beneath n θ η × (leaf_of ar facts ws η < b)
  pub held : Held ar facts ws env₀ n best b

pub trying_start : {ws low ar facts index marks env : List ℕ} {n t next most best : ℕ} → Rising ws low ar facts index env n t best → Used ar (diagram_of ws) marks
    → Topmost ar facts ws env n most → (t ≡ first_minimum → ⊥) → Next marks (t + 1) next → Trying ws low ar facts index marks env env n t next most best 0 best
trying_start {env = env} {t = t} q u m l x = record {
  ready = q;
  used = u;
  topmost = m;
  term = omega (arith, q.chosen.end);
  next-is = x;
  word = ap (set env t) (sym (q.chosen.unbound t (omega arith) (omega (arith, q.chosen.end)))) ∙ set-get_or env t 0;
  within = omega arith;
  kept = omega arith;
  above = λ θ x m. absurd (omega arith);
  held = rising.old refl;
}

module _ {ws low ar facts index marks env₀ env : List ℕ} {n t next most best v b : ℕ} (g : Trying ws low ar facts index marks env₀ env n t next most best v b) where
  here : t < term_end
  here = omega (arith, g.term)

  unbound : get_or env₀ t 0 ≡ free
  unbound = g.ready.chosen.unbound t (omega arith) here

  fits : Env n env₀
  fits = g.ready.chosen.env-fits

  word_set : set env t v ≡ set env₀ t v
  word_set = sym (set-set env t free v) ∙ ap (λ x. set x t v) g.word

  pub trying-length : length env ≡ length env₀
  trying-length = sym (length-set env t free) ∙ ap length g.word

  pub trying-room : t < length env
  trying-room = omega (arith, trying-length, fits.places, here)

  -- the terms before `next` that occur have objects
  pub trying-ready : v < n → Rising ws low ar facts index (set env t v) n next b
  trying-ready h = record {
    chosen = record {
      valid = c.valid;
      indexed = c.indexed;
      env-fits = rw word_set (set-env fits here unbound v h);
      end = g.next-is.end;
      bound = λ u l o z. bounded u (cmp u t) l o (rw (← word_set) z);
      unbound = λ u l k. rw word_set (get_or-set_other env₀ t u v 0 (omega (arith, g.next-is.least)) ∙ c.unbound u (omega (arith, g.next-is.least)) k);
    };
    places = g.ready.places;
    lows = g.ready.lows;
  }
    where
      c : Chosen ws ar facts index env₀ n t
      c = g.ready.chosen

      bounded : (u : ℕ) → Cmp u t → u < next → occurs ar u (diagram_of ws) ≡ true → get_or (set env₀ t v) u 0 ≡ free → ⊥
      bounded u (below k) l o z = c.bound u k o (sym (get_or-set_other env₀ t u v 0 (omega arith)) ∙ z)
      bounded u (equal k) l o z = omega (arith, fits.most, get_or-set_same env₀ t v 0 (omega (arith, fits.places)), ap (λ (w : ℕ). get_or (set env₀ t v) w 0) (sym k) ∙ z)
      bounded u (above k) l o z =
          let m = g.used.each u (omega (arith, g.next-is.end)) ∙ ap (λ b. cond b 1 0) o in
          omega (arith, g.next-is.none u (omega arith) l)

  pub trying-most : v < n → Topmost ar facts ws (set env t v) n most
  trying-most h θ x = g.topmost θ (extends-out fits here unbound v θ (rw word_set at x))

  pub trying-on : {b' : ℕ} {low' env' : List ℕ} → v < n → length low' ≡ length low → Settled ar facts ws (set env t v) n b b' low' env'
      → Trying ws low' ar facts index marks env₀ env' n t next most best (v + 1) b'
  trying-on {b'} {low'} {env'} h l s = record {
    ready = record { chosen = g.ready.chosen; places = omega (arith, g.ready.places); lows = s.lows };
    used = g.used;
    topmost = g.topmost;
    term = g.term;
    next-is = g.next-is;
    word = ap (λ x. set x t free) s.restored ∙ set-set env t v free ∙ g.word;
    within = omega arith;
    kept = omega (arith, g.kept, s.risen.kept);
    above = λ θ x m. lowered θ x m (cmp (θ t) v);
    held = raised s.risen.held;
  }
    where
      lowered : (θ : ℕ → ℕ) → Extends n env₀ θ → θ t < v + 1 → Cmp (θ t) v → (η : ℕ → ℕ) × Beneath n θ η × (leaf_of ar facts ws η < b')
      lowered θ x m (below c) = let r = g.above θ x c in (r.0, r.1, omega (arith, r.2, s.risen.kept))
      lowered θ x m (equal c) = s.risen.above θ (rw word_set (extends-in fits here unbound v θ x c))
      lowered θ x m (above c) = absurd (omega arith)

      same-best : Held ar facts ws env₀ n best b → b' ≡ b → Held ar facts ws env₀ n best b'
      same-best (rising.old e) q = rising.old (q ∙ e)
      same-best (rising.new θ x f) q = rising.new θ x (λ η u. omega (arith, f η u))

      raised : Held ar facts ws (set env t v) n b b' → Held ar facts ws env₀ n best b'
      raised (rising.old e) = same-best g.held e
      raised (rising.new θ x f) = rising.new θ (extends-out fits here unbound v θ (rw word_set at x)) f

  done : ((θ : ℕ → ℕ) → Extends n env₀ θ → (η : ℕ → ℕ) × Beneath n θ η × (leaf_of ar facts ws η < b)) → Settled ar facts ws env₀ n best b low (set env t free)
  done h = record { restored = g.word; lows = g.ready.lows; risen = record { kept = g.kept; above = h; held = g.held } }

  -- no leaf passes the best so far
  pub trying-cut : most ≤ b → Settled ar facts ws env₀ n best b low (set env t free)
  trying-cut h = done (λ θ x. (θ, beneath-self x, omega (arith, g.topmost θ x)))

  pub trying-end : n ≤ v → Settled ar facts ws env₀ n best b low (set env t free)
  trying-end h = done (λ θ x. g.above θ x (omega (arith, x.range t)))

-- where the maximum variables end
pub settle-at : {ws low ar facts index env : List ℕ} {n t best : ℕ} → Rising ws low ar facts index env n t best → t ≡ first_minimum → Rising ws low ar facts index env n first_minimum best
settle-at {ws} {low} {ar} {facts} {index} {env} {n} {t} {best} q e = subst (λ (u : ℕ). Rising ws low ar facts index env n u best) e q

pub rise-next : {ws low ar facts index env : List ℕ} {n t best : ℕ} → Rising ws low ar facts index env n t best → (t ≡ first_minimum → ⊥) → t + 1 ≤ first_minimum
rise-next q e = omega (arith, q.chosen.end)

-- the measure: the next variable is behind this one
pub rise-falls : {ws low ar facts index marks env₀ env : List ℕ} {n t next most best v b m : ℕ} → Trying ws low ar facts index marks env₀ env n t next most best v b
    → first_minimum - t ≡ m → first_minimum - next < m
rise-falls g e = omega (arith, g.term, g.next-is.least, g.next-is.end)

-- ===== The next variable that is marked =====

pub next_start : {marks : List ℕ} {t : ℕ} → t ≤ first_minimum → Next marks t t
next_start h = record { least = omega arith; end = h; none = λ u l k. absurd (omega arith) }

pub next-on : {marks : List ℕ} {t r : ℕ} → Next marks t r → r < first_minimum → get_or marks r 0 ≡ 0 → Next marks t (r + 1)
next-on {marks} {t} {r} x h e = record { least = omega (arith, x.least); end = omega arith; none = λ u l k. go u l k (cmp u r) }
  where
    go : (u : ℕ) → t ≤ u → u < r + 1 → Cmp u r → get_or marks u 0 ≡ 0
    go u l k (below c) = x.none u l c
    go u l k (equal c) = ap (λ (w : ℕ). get_or marks w 0) c ∙ e
    go u l k (above c) = absurd (omega arith)

-- ===== The first variable =====
module _ {ws ar facts index env marks : List ℕ} {n : ℕ} (c : Chosen ws ar facts index env n first_variable) (u : Used ar (diagram_of ws) marks) where
  pub first-ready : {first : ℕ} (best : ℕ) {low : List ℕ} → Next marks first_variable first → length low ≡ length {A = ℕ} (replicate most_rows 0)
      → TopsBy (turned best) ws low (row_count ws) → Rising ws low ar facts index env n first best
  first-ready {first} best x p l = record {
    chosen = record {
      valid = c.valid;
      indexed = c.indexed;
      env-fits = c.env-fits;
      end = x.end;
      bound = λ t h o. by-low (get_or env t 0 ≡ free → ⊥) first_variable t
          (λ k. c.bound t k o)
          (λ k z. let m = u.each t (omega (arith, x.end)) ∙ ap (λ b. cond b 1 0) o in omega (arith, x.none t k h));
      unbound = λ t h k. c.unbound t (omega (arith, x.least)) k;
    };
    places = omega (arith, c.valid.few, length-replicate {A = ℕ} most_rows 0);
    lows = l;
  }
