-- The lists of valuations and of choices have exactly what they say, each once; and the winning path is the first.
use Rattle.std.specs.Prelude.{◌≡◌, Bool, not, ◌&&◌, ◌||◌, cond, length}
use Rattle.std.proofs.Math.Path.{refl, ap, subst}
use Rattle.std.proofs.Common.{sym, ap₂, ◌∙◌, arith}
use Rattle.std.proofs.Math.Logic.{inl, inr}
use Rattle.std.proofs.Math.Bool.{true, false}
use Rattle.std.specs.Bool.{beq}
use mathlib.Core.List.Memᴰ
use mathlib.Core.List.{List, [], ◌∷◌, ◌++◌, map, Memᴰ}
use Prim.Native.Nat.{ℕ, zero, suc, ◌*◌, ◌^◌, ◌≤◌}
use Rattle.std.proofs.Math.Nat.{pow-zero, pow-succ'}
use Rattle.std.proofs.lemmas.List.{length-map}
use Rattle.std.proofs.Math.Dec.{eqb, ltb}
use borrow.Author.Tests.{eqb-true, eqb-false, eq-eqb, ltb-true, ltb-false, not-true}
use Rattle.basics.specs.Tests.{and_left, and_right, Flag, is_true, is_false, flag}
use Rattle.basics.specs.Members.{clash}
use Rattle.diagram.specs.Diagram.{Diagram}
use Rattle.diagram.specs.Words.{up_to, equal_lists}
use Rattle.diagram.specs.WordLaws.{length-up_to, lists-equal, equal-lists}
use Rattle.diagram.specs.Variables.{variables}
use Rattle.paths.specs.Paths.{paths}
use Rattle.paths.specs.PathLaws.{mem-map, mem-unmap}
use Rattle.paths.specs.Routes.{path_at}
use Rattle.state.specs.Max.{Tuple, none, more, those, tuples}
use Rattle.reduction.specs.Combinations.{some_of, valuations, Ground, opposed, consistent, grounds, facts, is_consistent, choices, before, least_of, winner}
use Rattle.reduction.specs.Inner.{Once, AtLeast, Clash}
use Rattle.reduction.proofs.ListLaws.{gather-in, in-gather, those-in, in-those, some_of-in, in-some_of, up_to-in, in-up_to, once-map, once-those, once-gather, once-up_to, gather-length}

-- the first of a list, and the rest
head_of : List ℕ → ℕ
head_of [] = 0
head_of (x ∷ xs) = x

rest_of : List ℕ → List ℕ
rest_of [] = []
rest_of (x ∷ xs) = xs

-- ===== Valuations =====
pub tuples-in : (n : ℕ) {c : ℕ} {os : List ℕ} → Tuple n c os → Memᴰ os (tuples n c)
unfolding tuples
tuples-in n none = Memᴰ.head refl
tuples-in n (more {o = o} {c = c} {os = os} h t) = gather-in (λ x. map (x ∷◌) (tuples n c)) (up_to n) o (o ∷ os) (up_to-in n o h)
    (mem-map (o ∷◌) (tuples n c) os (tuples-in n t))

pub in-tuples : (n c : ℕ) (os : List ℕ) → Memᴰ os (tuples n c) → Tuple n c os
unfolding tuples
in-tuples n zero os m = subst (Tuple n 0) (sym (Memᴰ.eq_of_singleton m)) none
in-tuples n (suc c) os m =
    let r = in-gather (λ x. map (x ∷◌) (tuples n c)) (up_to n) os m in
    let u = mem-unmap (r.0 ∷◌) (tuples n c) os r.2 in
    subst (Tuple n (suc c)) (sym u.2) (more (in-up_to n r.0 r.1) (in-tuples n c u.0 u.1))

pub tuples-once : (n c : ℕ) → Once (tuples n c)
unfolding tuples head_of
tuples-once n zero = ((λ i. Memᴰ.not-nil i), tt)
tuples-once n (suc c) = once-gather (λ x. map (x ∷◌) (tuples n c)) head_of (up_to n)
    (λ a b i. ap head_of (mem-unmap (a ∷◌) (tuples n c) b i).2)
    (λ a. once-map (a ∷◌) (tuples n c) (λ x y e. (cc)) (tuples-once n c))
    (once-up_to n)

pub tuples-length : (n c : ℕ) → length (tuples n c) ≡ n ^ c
unfolding tuples
tuples-length n zero = sym (pow-zero n)
tuples-length n (suc c) =
    gather-length (λ x. map (x ∷◌) (tuples n c)) (up_to n) (n ^ c) (λ a. length-map (tuples n c) (a ∷◌) ∙ tuples-length n c)
    ∙ ap (λ k. k * n ^ c) (length-up_to n) ∙ sym (pow-succ' n c)

-- 27 counts the valuations
pub valuations-count : (ar : List ℕ) (d : Diagram) → length (valuations ar d) ≡ length (variables ar d) ^ length (variables ar d)
unfolding valuations
valuations-count ar d = tuples-length (length (variables ar d)) (length (variables ar d))

-- ===== Consistency =====
pub consistent-rest : (gs hs : List Ground) → consistent (gs ++ hs) ≡ true → consistent hs ≡ true
unfolding consistent
consistent-rest [] hs e = e
consistent-rest (g ∷ gs) hs e = consistent-rest gs hs (and_right (not (some_of (opposed g) (gs ++ hs))) _ e)

-- ground literals that one choice of facts makes true are consistent
pub record Holds (T : ℕ → List ℕ → Bool) (gs : List Ground) : Type 0 where
  pub each : (g : Ground) → Memᴰ g gs → T g.predicate g.objects ≡ g.sign

beq-refl : (a : Bool) → beq a a ≡ true
beq-refl true = refl
beq-refl false = refl

agree : (T : ℕ → List ℕ → Bool) (g h : Ground) → T g.predicate g.objects ≡ g.sign → T h.predicate h.objects ≡ h.sign → opposed g h ≡ false
unfolding opposed
agree T g h x y = go (flag (eqb g.predicate h.predicate)) (flag (equal_lists g.objects h.objects))
  where
    go : Flag (eqb g.predicate h.predicate) → Flag (equal_lists g.objects h.objects)
        → (eqb g.predicate h.predicate && (equal_lists g.objects h.objects && not (beq g.sign h.sign))) ≡ false
    go (is_false e) q = rw e
    go (is_true e) (is_false q) = rw (e, q)
    go (is_true e) (is_true q) =
        let same : g.sign ≡ h.sign = sym x ∙ ap₂ T (eqb-true g.predicate h.predicate e) (lists-equal g.objects h.objects q) ∙ y in
        rw (e, q, same, beq-refl h.sign)

pub holds-consistent : (T : ℕ → List ℕ → Bool) (gs : List Ground) → Holds T gs → consistent gs ≡ true
unfolding consistent
holds-consistent T [] w = refl
holds-consistent T (g ∷ gs) w = rw (none-opposed gs (λ h m. w.each h (Memᴰ.tail m)), holds-consistent T gs (record { each = λ h m. w.each h (Memᴰ.tail m) }))
  where
    none-opposed : (hs : List Ground) → ((h : Ground) → Memᴰ h hs → T h.predicate h.objects ≡ h.sign) → some_of (opposed g) hs ≡ false
    none-opposed [] k = refl
    none-opposed (h ∷ hs) k = rw (agree T g h (w.each g (Memᴰ.head refl)) (k h (Memᴰ.head refl)), none-opposed hs (λ x m. k x (Memᴰ.tail m)))

-- the test is refused exactly if there is one
pub clash-found : (gs : List Ground) → consistent gs ≡ false → Clash gs
unfolding consistent
clash-found [] e = clash refl e
clash-found (g ∷ gs) e = go (some_of (opposed g) gs) refl (consistent gs) refl (clash-found gs)
  where
    with-sign : (h : Ground) → Memᴰ h gs → opposed g h ≡ true → (b c : Bool) → g.sign ≡ b → h.sign ≡ c → Clash (g ∷ gs)
    with-sign h m o b c x y =
        let p = eqb-true g.predicate h.predicate (and_left _ _ (opened o)) in
        let r = and_right (eqb g.predicate h.predicate) _ (opened o) in
        let q = lists-equal g.objects h.objects (and_left _ _ r) in
        signs b c x y p q (and_right (equal_lists g.objects h.objects) _ r)
      where
        opened : opposed g h ≡ true → (eqb g.predicate h.predicate && (equal_lists g.objects h.objects && not (beq g.sign h.sign))) ≡ true
        opened z = unfold opposed in z

        signs : (b c : Bool) → g.sign ≡ b → h.sign ≡ c → g.predicate ≡ h.predicate → g.objects ≡ h.objects → not (beq g.sign h.sign) ≡ true → Clash (g ∷ gs)
        signs true false x y p q z =
            record { high = g; low = h; high-in = Memᴰ.head refl; low-in = Memᴰ.tail m; predicate = p; objects = q; high-sign = x; low-sign = y }
        signs false true x y p q z =
            record { high = h; low = g; high-in = Memᴰ.tail m; low-in = Memᴰ.head refl; predicate = sym p; objects = sym q; high-sign = y; low-sign = x }
        signs true true x y p q z = clash z (rw (x, y))
        signs false false x y p q z = clash z (rw (x, y))

    go : (b : Bool) → some_of (opposed g) gs ≡ b → (c : Bool) → consistent gs ≡ c → (consistent gs ≡ false → Clash gs) → Clash (g ∷ gs)
    go true q c r ih = let u = in-some_of (opposed g) gs q in with-sign u.0 u.1 u.2 g.sign u.0.sign refl refl
    go false q true r ih = clash (ap₂ (λ x y. not x && y) q r) e
    go false q false r ih =
        let u = ih r in
        record {
          high = u.high;
          low = u.low;
          high-in = Memᴰ.tail u.high-in;
          low-in = Memᴰ.tail u.low-in;
          predicate = u.predicate;
          objects = u.objects;
          high-sign = u.high-sign;
          low-sign = u.low-sign;
        }

opposed-made : (g h : Ground) → g.predicate ≡ h.predicate → g.objects ≡ h.objects → beq g.sign h.sign ≡ false → opposed g h ≡ true
unfolding opposed
opposed-made g h p q z = rw (p, q, z, eq-eqb h.predicate h.predicate refl, equal-lists h.objects)

pub consistent-clear : (gs : List Ground) → consistent gs ≡ true → Clash gs → ⊥
unfolding consistent
consistent-clear [] e c = Memᴰ.not-nil c.high-in
consistent-clear (g ∷ gs) e c =
    go c.high c.low c.high-in c.low-in c.predicate c.objects c.high-sign c.low-sign
    (consistent-clear gs (and_right (not (some_of (opposed g) gs)) _ e))
  where
    quiet : some_of (opposed g) gs ≡ false
    quiet = not-true (some_of (opposed g) gs) (and_left (not (some_of (opposed g) gs)) (consistent gs) e)

    go : (x y : Ground) → Memᴰ x (g ∷ gs) → Memᴰ y (g ∷ gs) → x.predicate ≡ y.predicate → x.objects ≡ y.objects → x.sign ≡ true → y.sign ≡ false
        → (Clash gs → ⊥) → ⊥
    go x y (Memᴰ.head a) (Memᴰ.head b) p q u v ih = clash (ap (λ (z : Ground). z.sign) (b ∙ sym a) ∙ u) v
    go x y (Memᴰ.head a) (Memᴰ.tail n) p q u v ih =
        clash (some_of-in (opposed g) gs y n (subst (λ (z : Ground). opposed z y ≡ true) a (opposed-made x y p q (rw (u, v))))) quiet
    go x y (Memᴰ.tail m) (Memᴰ.head b) p q u v ih =
        clash (some_of-in (opposed g) gs x m (subst (λ (z : Ground). opposed z x ≡ true) b (opposed-made y x (sym p) (sym q) (rw (u, v))))) quiet
    go x y (Memᴰ.tail m) (Memᴰ.tail n) p q u v ih =
        ih (record { high = x; low = y; high-in = m; low-in = n; predicate = p; objects = q; high-sign = u; low-sign = v })

-- ===== Choices =====
module _ (ar : List ℕ) (d : Diagram) where
  -- every consistent choice of one path for each valuation
  pub choices-in : (us : List (List ℕ)) (ks : List ℕ) → Tuple (length (paths d)) (length us) ks → is_consistent ar d us ks ≡ true → Memᴰ ks (choices ar d us)
  unfolding choices is_consistent facts
  choices-in [] (k ∷ ks) x4 e = elim x4 [ ]
  choices-in (os ∷ us) [] x4 e = elim x4 [ ]
  choices-in [] [] none e = Memᴰ.head refl
  choices-in (os ∷ us) (k ∷ ks) (more h t) e =
      gather-in (λ js. those (is_consistent ar d (os ∷ us)) (map (λ i. i ∷ js) (up_to (length (paths d))))) (choices ar d us) ks (k ∷ ks)
      (choices-in us ks t (consistent-rest (grounds ar d os k) (facts ar d us ks) e))
      (those-in (is_consistent ar d (os ∷ us)) (map (λ i. i ∷ ks) (up_to (length (paths d)))) (k ∷ ks) (mem-map (λ i. i ∷ ks) (up_to (length (paths d))) k (up_to-in (length (paths d)) k h)) e)

  -- and no other
  pub in-choices : (us : List (List ℕ)) (ks : List ℕ) → Memᴰ ks (choices ar d us) → Tuple (length (paths d)) (length us) ks × (is_consistent ar d us ks ≡ true)
  unfolding choices
  in-choices [] ks m = let e = Memᴰ.eq_of_singleton m in (subst (Tuple (length (paths d)) 0) (sym e) none, unfold is_consistent facts consistent in refl)
  in-choices (os ∷ us) ks m =
      let f : List ℕ → List (List ℕ) = λ js. map (λ i. i ∷ js) (up_to (length (paths d))) in
      let r = in-gather (λ js. those (is_consistent ar d (os ∷ us)) (f js)) (choices ar d us) ks m in
      let t = in-those (is_consistent ar d (os ∷ us)) (f r.0) ks r.2 in
      let u = mem-unmap (λ i. i ∷ r.0) (up_to (length (paths d))) ks t.0 in
      (subst (Tuple (length (paths d)) (suc (length us))) (sym u.2) (more (in-up_to (length (paths d)) u.0 u.1) (in-choices us r.0 r.1).0), t.1)

  -- each once
  pub choices-once : (us : List (List ℕ)) → Once (choices ar d us)
  unfolding choices rest_of
  choices-once [] = ((λ i. Memᴰ.not-nil i), tt)
  choices-once (os ∷ us) =
      let f : List ℕ → List (List ℕ) = λ js. map (λ i. i ∷ js) (up_to (length (paths d))) in
      once-gather (λ js. those (is_consistent ar d (os ∷ us)) (f js)) rest_of (choices ar d us)
      (λ js b i. ap rest_of (mem-unmap (λ k. k ∷ js) (up_to (length (paths d))) b (in-those (is_consistent ar d (os ∷ us)) (f js) b i).0).2)
      (λ js. once-those (is_consistent ar d (os ∷ us)) (f js) (once-map (λ k. k ∷ js) (up_to (length (paths d))) (λ x y e. (cc)) (once-up_to (length (paths d)))))
      (choices-once us)

-- ===== The winning path =====
module _ (d : Diagram) where
  abbrev leaf_at : ℕ → ℕ
  leaf_at k = (path_at d k).end

  pub at-least-trans : (a b c : ℕ) → AtLeast d a b → AtLeast d b c → AtLeast d a c
  at-least-trans a b c (inl x) (inl y) = inl (omega arith)
  at-least-trans a b c (inl x) (inr y) = inl (omega arith)
  at-least-trans a b c (inr x) (inl y) = inl (omega arith)
  at-least-trans a b c (inr x) (inr y) = inr (omega arith)

  pub at-least-leaf : (k j : ℕ) → AtLeast d k j → leaf_at j ≤ leaf_at k
  at-least-leaf k j (inl h) = omega arith
  at-least-leaf k j (inr h) = omega arith

  -- of two paths the one that comes first
  pub earlier : (j k : ℕ) → (AtLeast d (cond (before d j k) j k) k) × (AtLeast d (cond (before d j k) j k) j)
  unfolding before
  earlier j k = go (ltb (leaf_at k) (leaf_at j)) (eqb (leaf_at j) (leaf_at k)) (ltb j k) refl refl refl
    where
      go : (x y z : Bool) → ltb (leaf_at k) (leaf_at j) ≡ x → eqb (leaf_at j) (leaf_at k) ≡ y → ltb j k ≡ z
          → (AtLeast d (cond (x || (y && z)) j k) k) × (AtLeast d (cond (x || (y && z)) j k) j)
      go true y z e q r = (inl (ltb-true _ _ e), inr (refl, omega arith))
      go false true true e q r = let l = ltb-true j k r in (inr (sym (eqb-true _ _ q), omega arith), inr (refl, omega arith))
      go false true false e q r = (inr (refl, omega arith), inr (eqb-true _ _ q, ltb-false j k r))
      go false false z e q r =
          let l = ltb-false (leaf_at k) (leaf_at j) e in
          let n = eqb-false (leaf_at j) (leaf_at k) q in
          (inr (refl, omega arith), inl (omega arith))

  least_at : (k : ℕ) (js : List ℕ) → (AtLeast d (least_of d k js) k) × ((j : ℕ) → Memᴰ j js → AtLeast d (least_of d k js) j)
  least_at k [] = (inr (refl, omega arith), (λ j m. absurd (Memᴰ.not-nil m)))
  least_at k (i ∷ js) =
      let ih = least_at (cond (before d i k) i k) js in
      let e = earlier i k in
      (at-least-trans _ _ _ ih.0 e.0, (λ j m. go ih e j m))
    where
      w : ℕ
      w = cond (before d i k) i k

      go : (AtLeast d (least_of d w js) w) × ((j : ℕ) → Memᴰ j js → AtLeast d (least_of d w js) j) → (AtLeast d w k) × (AtLeast d w i)
          → (j : ℕ) → Memᴰ j (i ∷ js) → AtLeast d (least_of d w js) j
      go ih e j (Memᴰ.head q) = at-least-trans _ w j ih.0 (subst (AtLeast d w) (sym q) e.1)
      go ih e j (Memᴰ.tail m) = ih.1 j m

  least-in : (k : ℕ) (js : List ℕ) → Memᴰ (least_of d k js) (k ∷ js)
  least-in k [] = Memᴰ.head refl
  least-in k (i ∷ js) = go (before d i k) (least-in (cond (before d i k) i k) js)
    where
      go : (b : Bool) → Memᴰ (least_of d (cond b i k) js) (cond b i k ∷ js) → Memᴰ (least_of d (cond b i k) js) (k ∷ i ∷ js)
      go true m = Memᴰ.tail m
      go false (Memᴰ.head e) = Memᴰ.head e
      go false (Memᴰ.tail m) = Memᴰ.tail (Memᴰ.tail m)

  -- the winning path is a chosen one, and no chosen one comes before it
  pub winner-in : (j : ℕ) (ks : List ℕ) → Memᴰ j ks → Memᴰ (winner d ks) ks
  unfolding winner
  winner-in j [] m = absurd (Memᴰ.not-nil m)
  winner-in j (k ∷ ks) m = least-in k ks

  pub winner-first : (ks : List ℕ) (j : ℕ) → Memᴰ j ks → AtLeast d (winner d ks) j
  unfolding winner
  winner-first [] j m = absurd (Memᴰ.not-nil m)
  winner-first (k ∷ ks) j (Memᴰ.head e) = subst (AtLeast d (least_of d k ks)) (sym e) (least_at k ks).0
  winner-first (k ∷ ks) j (Memᴰ.tail m) = (least_at k ks).1 j m
