-- Binding the places of a literal by a way, as the code does it: place by place.
use mathlib.Core.Path.{◌≡◌, refl, sym, ap, ap₂, subst, ◌∙◌, fun_ext}
use mathlib.Core.Bool.{Bool, true, false, not, cond}
use mathlib.Core.List.{List}
use mathlib.Core.Option.{some, none}
use Prim.Native.Nat.{ℕ, suc, ◌+◌, ◌/◌, ◌≤◌, ◌<◌}
use native.Mathlib.Omega.{arith}
use native.Mathlib.Numerals.{add-one}
use lib.ListN.{length, get_or, set, length-set}
use lib.Seq.{get_or-set_same, get_or-set_other}
use lib.Dec.{eqb}
use borrow.Author.Tests.{lt-ltb, le-ltb, le-leb, lt-leb, eqb-true, eqb-false, eq-eqb, ne_eqb}
use Rattle.basics.specs.Tests.{Flag, is_true, is_false, flag, Cmp, cmp, below, equal, above}
use Rattle.basics.specs.Members.{clash}
use Rattle.label.specs.Limits.{first_minimum, most_places}
use Rattle.label.specs.Labels.{place_at}
use Rattle.cutting.specs.Match.{assign, agree, bind_term, then_bind, bind_terms}
use Rattle.matcher.specs.Search.{along, known, slot_fits, slot_after, Slots, way_place, is_nothing, BindPost, TryPost, no_way, a-way}
use Rattle.matcher.specs.declared.Way.{Way}
use Rattle.matcher.proofs.AlongLaws.{bind-along, bind-fails}
use Rattle.matcher.proofs.WayLaws.{untaken, unleft}

-- ===== Binding =====
module _ (tab theta : List ℕ) (m t u : ℕ) where
  pub first_fits : {a : ℕ} → a ≡ get_or tab t 0 → a ≡ m + 1 → true ≡ slot_fits tab theta m t u
  unfolding slot_fits
  first_fits e q = rw (eq-eqb (get_or tab t 0) (m + 1) (sym e ∙ q))

  pub first-after : {a : ℕ} → a ≡ get_or tab t 0 → a ≡ m + 1 → set theta t u ≡ slot_after tab theta m t u
  unfolding slot_after
  first-after e q = rw (eq-eqb (get_or tab t 0) (m + 1) (sym e ∙ q))

  pub again-fits : {a : ℕ} → a ≡ get_or tab t 0 → (a ≡ m + 1 → ⊥) → eqb (get_or theta t 0) u ≡ slot_fits tab theta m t u
  unfolding slot_fits
  again-fits e q = rw (ne_eqb (get_or tab t 0) (m + 1) (λ z. q (e ∙ z)))

  pub again-after : {a : ℕ} → a ≡ get_or tab t 0 → (a ≡ m + 1 → ⊥) → theta ≡ slot_after tab theta m t u
  unfolding slot_after
  again-after e q = rw (ne_eqb (get_or tab t 0) (m + 1) (λ z. q (e ∙ z)))

pub known_some : (tab theta : List ℕ) (m t : ℕ) → t < first_minimum → get_or tab t 0 ≤ m → known tab theta m t ≡ some (get_or theta t 0)
unfolding known
known_some tab theta m t h k = rw (lt-ltb t first_minimum h, le-leb (get_or tab t 0) m k)

pub known-none : (tab theta : List ℕ) (m t : ℕ) → t < first_minimum → m < get_or tab t 0 → known tab theta m t ≡ none
unfolding known
known-none tab theta m t h k = rw (lt-ltb t first_minimum h, lt-leb (get_or tab t 0) m k)

pub known_past : (tab theta : List ℕ) (m t : ℕ) → first_minimum ≤ t → known tab theta m t ≡ some t
unfolding known
known_past tab theta m t h = rw (le-ltb t first_minimum h)

-- what is known sees only the terms that came before
pub known_same : (tab theta theta' : List ℕ) (m m' : ℕ) → m ≤ m' → ((v : ℕ) → v < first_minimum → get_or tab v 0 ≤ m → get_or theta' v 0 ≡ get_or theta v 0)
    → ((v : ℕ) → v < first_minimum → m < get_or tab v 0 → m' < get_or tab v 0) → known tab theta m ≡ known tab theta' m'
known_same tab theta theta' m m' l h k = fun_ext (λ v. go v (cmp v first_minimum) (cmp (get_or tab v 0) (suc m)))
  where
    at : (v : ℕ) → v < first_minimum → get_or tab v 0 ≤ m → known tab theta m v ≡ known tab theta' m' v
    at v p q = known_some tab theta m v p q ∙ ap some (sym (h v p q)) ∙ sym (known_some tab theta' m' v p (omega arith))

    off : (v : ℕ) → v < first_minimum → m < get_or tab v 0 → known tab theta m v ≡ known tab theta' m' v
    off v p q = known-none tab theta m v p q ∙ sym (known-none tab theta' m' v p (k v p q))

    past : (v : ℕ) → first_minimum ≤ v → known tab theta m v ≡ known tab theta' m' v
    past v p = known_past tab theta m v p ∙ sym (known_past tab theta' m' v p)

    go : (v : ℕ) → Cmp v first_minimum → Cmp (get_or tab v 0) (suc m) → known tab theta m v ≡ known tab theta' m' v
    go v (below p) (below q) = at v p (omega arith)
    go v (below p) (equal q) = off v p (omega arith)
    go v (below p) (above q) = off v p (omega arith)
    go v (equal p) c = past v (omega arith)
    go v (above p) c = past v (omega arith)

module _ (tab theta : List ℕ) (m t u : ℕ) (small : t < first_minimum) (room : first_minimum ≤ length theta) (seen : get_or tab t 0 ≤ m + 1)
    (only : (v : ℕ) → v < first_minimum → get_or tab v 0 ≡ m + 1 → v ≡ t) where
  assign-known : get_or tab t 0 ≡ m + 1 → assign (known tab theta m) t u ≡ known tab (set theta t u) (m + 1)
  unfolding assign
  assign-known e = fun_ext (λ v. go v (cmp v t))
    where
      here : (v : ℕ) → v ≡ t → cond (eqb v t) (some u) (known tab theta m v) ≡ known tab (set theta t u) (m + 1) v
      here v q =
          let z : known tab (set theta t u) (m + 1) t ≡ some u = known_some tab (set theta t u) (m + 1) t small (omega arith) ∙ ap some (get_or-set_same theta t u 0 (omega arith)) in
          rw (eq-eqb v t q) (sym z ∙ ap (known tab (set theta t u) (m + 1)) (sym q))

      there : (v : ℕ) → (v ≡ t → ⊥) → Cmp v first_minimum → Cmp (get_or tab v 0) (m + 1) → cond (eqb v t) (some u) (known tab theta m v) ≡ known tab (set theta t u) (m + 1) v
      there v q (below p) (below c) =
          rw (ne_eqb v t q) (known_some tab theta m v p (omega arith) ∙ ap some (sym (get_or-set_other theta t v u 0 q)) ∙ sym (known_some tab (set theta t u) (m + 1) v p (omega arith)))
      there v q (below p) (equal c) = absurd (q (only v p c))
      there v q (below p) (above c) = rw (ne_eqb v t q) (known-none tab theta m v p (omega arith) ∙ sym (known-none tab (set theta t u) (m + 1) v p c))
      there v q (equal p) c = rw (ne_eqb v t q) (known_past tab theta m v (omega arith) ∙ sym (known_past tab (set theta t u) (m + 1) v (omega arith)))
      there v q (above p) c = rw (ne_eqb v t q) (known_past tab theta m v (omega arith) ∙ sym (known_past tab (set theta t u) (m + 1) v (omega arith)))

      go : (v : ℕ) → Cmp v t → cond (eqb v t) (some u) (known tab theta m v) ≡ known tab (set theta t u) (m + 1) v
      go v (below p) = there v (omega arith) (cmp v first_minimum) (cmp (get_or tab v 0) (m + 1))
      go v (equal p) = here v p
      go v (above p) = there v (omega arith) (cmp v first_minimum) (cmp (get_or tab v 0) (m + 1))

  pub slot-yes : slot_fits tab theta m t u ≡ true → bind_term (known tab theta m) t u ≡ some (known tab (slot_after tab theta m t u) (m + 1))
  unfolding bind_term slot_fits slot_after
  slot-yes = go (flag (eqb (get_or tab t 0) (m + 1)))
    where
      go : Flag (eqb (get_or tab t 0) (m + 1)) → cond (eqb (get_or tab t 0) (m + 1)) true (eqb (get_or theta t 0) u) ≡ true
          → agree (known tab theta m) t u (known tab theta m t) ≡ some (known tab (cond (eqb (get_or tab t 0) (m + 1)) (set theta t u) theta) (m + 1))
      go (is_true e) f =
          let q = eqb-true (get_or tab t 0) (m + 1) e in
          rw (e, known-none tab theta m t small (omega arith)) (ap some (assign-known q))
      go (is_false e) f =
          let q = eqb-false (get_or tab t 0) (m + 1) e in
          let w : eqb (get_or theta t 0) u ≡ true = rw e at f in
          rw (e, known_some tab theta m t small (omega arith), w)
          (ap some (known_same tab theta theta m (m + 1) (omega arith) (λ v p k. refl) (λ v p k. more v p k (cmp (get_or tab v 0) (m + 1)) q)))
        where
          more : (v : ℕ) → v < first_minimum → m < get_or tab v 0 → Cmp (get_or tab v 0) (m + 1) → (get_or tab t 0 ≡ m + 1 → ⊥) → m + 1 < get_or tab v 0
          more v p k (below c) q = absurd (omega arith)
          more v p k (equal c) q = absurd (q (ap (λ (x : ℕ). get_or tab x 0) (sym (only v p c)) ∙ c))
          more v p k (above c) q = c

  pub slot-no : slot_fits tab theta m t u ≡ false → bind_term (known tab theta m) t u ≡ none
  unfolding bind_term slot_fits
  slot-no = go (flag (eqb (get_or tab t 0) (m + 1)))
    where
      go : Flag (eqb (get_or tab t 0) (m + 1)) → cond (eqb (get_or tab t 0) (m + 1)) true (eqb (get_or theta t 0) u) ≡ false → agree (known tab theta m) t u (known tab theta m t) ≡ none
      go (is_true e) f = let w : true ≡ false = rw e at f in clash refl w
      go (is_false e) f =
          let q = eqb-false (get_or tab t 0) (m + 1) e in
          let w : eqb (get_or theta t 0) u ≡ false = rw e at f in
          rw (known_some tab theta m t small (omega arith), w)

  pub slot_kept : (v : ℕ) → get_or tab v 0 ≤ m → get_or (slot_after tab theta m t u) v 0 ≡ get_or theta v 0
  unfolding slot_after
  slot_kept v h = go (flag (eqb (get_or tab t 0) (m + 1)))
    where
      go : Flag (eqb (get_or tab t 0) (m + 1)) → get_or (cond (eqb (get_or tab t 0) (m + 1)) (set theta t u) theta) v 0 ≡ get_or theta v 0
      go (is_true e) = let q = eqb-true (get_or tab t 0) (m + 1) e in rw e (get_or-set_other theta t v u 0 (λ z. omega (arith, ap (λ (x : ℕ). get_or tab x 0) z)))
      go (is_false e) = rw e

  pub slot-room : length (slot_after tab theta m t u) ≡ length theta
  unfolding slot_after
  slot-room = go (eqb (get_or tab t 0) (m + 1))
    where
      go : (b : Bool) → length (cond b (set theta t u) theta) ≡ length theta
      go true = length-set theta t u
      go false = refl

-- the places before k are bound
pub record Binding (tab theta₀ : List ℕ) (m l : ℕ) (w : Way) (theta : List ℕ) (k : ℕ) : Type 0 where
  pub most : k ≤ most_places
  pub length-kept : length theta ≡ length theta₀
  pub bound : bind_terms (known tab theta₀ m) (along (place_at l) k) (along (way_place w) k) ≡ some (known tab theta (m + k))
  pub kept : (v : ℕ) → v < first_minimum → get_or tab v 0 ≤ m → get_or theta v 0 ≡ get_or theta₀ v 0

pub binding-start : (tab theta : List ℕ) (m l : ℕ) (w : Way) → Binding tab theta m l w theta 0
unfolding along bind_terms
binding-start tab theta m l w = record {
  most = omega arith;
  length-kept = refl;
  bound = let e : m ≡ m + 0 = omega arith in ap (λ (i : ℕ). some (known tab theta i)) e;
  kept = λ v h q. refl;
}

module _ {tab theta₀ : List ℕ} {m l : ℕ} {w : Way} {theta : List ℕ} {k t u : ℕ} (s : Slots tab m l) (room : first_minimum ≤ length theta₀)
    (b : Binding tab theta₀ m l w theta k) (h : k < most_places) (e : t ≡ place_at l k) (f : u ≡ way_place w k) where
  small : t < first_minimum
  small = omega (arith, s.range.places k h)

  now-room : first_minimum ≤ length theta
  now-room = omega (arith, b.length-kept)

  seen : get_or tab t 0 ≤ m + k + 1
  seen = subst (λ (v : ℕ). get_or tab v 0 ≤ m + k + 1) (sym e) (s.seen k h)

  only : (v : ℕ) → v < first_minimum → get_or tab v 0 ≡ m + k + 1 → v ≡ t
  only v p q = s.only k v h p q ∙ sym e

  one_more : bind_terms (known tab theta₀ m) (along (place_at l) (suc k)) (along (way_place w) (suc k)) ≡ bind_term (known tab theta (m + k)) t u
  one_more =
      bind-along (known tab theta₀ m) (place_at l) (way_place w) k ∙ ap (λ o. then_bind o (λ σ. bind_term σ (place_at l k) (way_place w k))) b.bound
      ∙ sym (ap₂ (bind_term (known tab theta (m + k))) e f)

  module _ {r : Bool} {theta' : List ℕ} (p : r ≡ slot_fits tab theta (m + k) t u) (q : theta' ≡ slot_after tab theta (m + k) t u) where
    still : (v : ℕ) → v < first_minimum → get_or tab v 0 ≤ m → get_or theta' v 0 ≡ get_or theta₀ v 0
    still v a z = ap (λ (xs : List ℕ). get_or xs v 0) q ∙ slot_kept tab theta (m + k) t u small now-room seen only v (omega arith) ∙ b.kept v a z

    pub binding-fails : not r ≡ true → BindPost tab theta₀ m l w false theta'
    binding-fails z = record {
      yes = λ y. clash y refl;
      no = λ y. bind-fails (known tab theta₀ m) (place_at l) (way_place w) (suc k) most_places (omega arith)
          (one_more ∙ slot-no tab theta (m + k) t u small now-room seen only (sym p ∙ untaken z));
      kept = still;
    }

    pub binding-next : not r ≡ false → Binding tab theta₀ m l w theta' (k + 1)
    binding-next z = record {
      most = omega arith;
      length-kept = ap length q ∙ slot-room tab theta (m + k) t u small now-room seen only ∙ b.length-kept;
      bound = ap₂ (bind_terms (known tab theta₀ m)) (ap (along (place_at l)) (add-one k)) (ap (along (way_place w)) (add-one k))
          ∙ one_more ∙ slot-yes tab theta (m + k) t u small now-room seen only (sym p ∙ unleft z)
          ∙ (let i : m + k + 1 ≡ m + (k + 1) = omega arith in ap₂ (λ (xs : List ℕ) (n : ℕ). some (known tab xs n)) (sym q) i);
      kept = still;
    }

pub binding-end : {tab theta₀ : List ℕ} {m l : ℕ} {w : Way} {theta : List ℕ} {k : ℕ} → Binding tab theta₀ m l w theta k → most_places ≤ k
    → BindPost tab theta₀ m l w true theta
binding-end {tab} {theta₀} {m} {l} {w} {theta} {k} b h = record {
  yes = λ y. subst (λ (n : ℕ). bind_terms (known tab theta₀ m) (along (place_at l) n) (along (way_place w) n) ≡ some (known tab theta (m + n))) all b.bound;
  no = λ y. clash refl y;
  kept = b.kept;
}
  where
    all : k ≡ most_places
    all = omega (arith, b.most)

-- trying a way
module _ {tab theta : List ℕ} {m x : ℕ} {w v : Way} {b : Bool} (e : w ≡ v) (q : b ≡ is_nothing w) where
  pub try-none : b ≡ true → TryPost tab theta m x false theta v
  try-none f = no_way (ap is_nothing (sym e) ∙ sym q ∙ f) refl refl

  pub try-some : {theta' : List ℕ} {r : Bool} → b ≡ false → BindPost tab theta m (x / 2) w r theta' → TryPost tab theta m x r theta' v
  try-some {theta'} {r} f p = a-way (ap is_nothing (sym e) ∙ sym q ∙ f) (subst (λ (y : Way). BindPost tab theta m (x / 2) y r theta') e p)
