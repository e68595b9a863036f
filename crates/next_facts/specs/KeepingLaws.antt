-- Rows of a predicate that stand in order are its facts, lowest objects first.
use Rattle.std.specs.Prelude.{◌≡◌, Bool, length, get_or, drop, ltb, leb}
use Rattle.std.proofs.Math.Path.{refl, sym, ap, ap₂}
use Rattle.std.proofs.Common.{subst, ◌∙◌, length-take-le}
use Rattle.std.proofs.Math.Bool.{true, false, cond}
use mathlib.Core.List.Memᴰ
use mathlib.Core.List.{List, [], ◌∷◌, ◌++◌, map, Memᴰ}
use Prim.Native.Nat.{ℕ, zero, suc, ◌+◌, ◌-◌, ◌*◌, ◌≤◌, ◌<◌}
use native.Mathlib.Omega.{arith}
use Rattle.std.proofs.Math.ListN.{take}
use Rattle.std.proofs.Math.Seq.{take-take}
use Rattle.std.proofs.Math.Dec.{eqb}
use borrow.Author.Tests.{eqb-true, eq-eqb, ltb-true}
use Rattle.basics.specs.Tests.{and_left, and_right}
use Rattle.label.specs.Limits.{most_places, predicate_count}
use Rattle.label.specs.Labels.{are_arities}
use Rattle.label.proofs.ArityLaws.{arity-most}
use Rattle.diagram.specs.Words.{up_to}
use Rattle.diagram.specs.WordLaws.{lists-equal, equal-lists, below-every}
use Rattle.diagram.specs.Listing.{diagram_of}
use Rattle.state.specs.State.{State, Good}
use Rattle.state.specs.Max.{Tuple, none, more}
use Rattle.state.specs.Highest.{Bound}
use Rattle.state.specs.Lent.{fact_words, fact_count, predicate_at, objects_at, says_fact, said_by, state_of, all_below, names_below, constants_below, is_state}
use Rattle.state.proofs.LentLaws.{objects-length, some-made, some-found}
use Rattle.elimination.proofs.AnswerLaws.{lent-good}
use Rattle.regression.specs.Result.{AtMost}
use Rattle.state.specs.Max.{tuples}
use Rattle.state.specs.Max.{those}
use Rattle.state.specs.Max.{gather}
use Rattle.reduction.specs.Inner.{Sorted}
use Rattle.reduction.specs.Claims.{Lower, differs, onwards}
use Rattle.reduction.proofs.ListLaws.{gather-in, in-gather, those-in, in-those, up_to-in, in-up_to}
use Rattle.reduction.proofs.CombinationLaws.{tuples-in, in-tuples}
use Rattle.reduction.proofs.OrderLaws.{sorted-append, tuples-order}
use Rattle.state.specs.Lent.{fact_row}
use Rattle.next_facts.specs.Filling.{objects_in, own_words, rows_by}
use Rattle.next_facts.specs.FillingLaws.{gather_append}
use Rattle.next_facts.specs.Keeping.{key_at, Ordered, kept_at, kept_rows, Standing}
use Rattle.next_facts.specs.UnderLaws.{those-same, tuple-size, is_one, rows_are}
use Rattle.next_facts.specs.OwnLaws.{own-valid, own-diagram, own-says}

-- ===== The order =====
head_of : List ℕ → ℕ
head_of [] = 0
head_of (x ∷ xs) = x

rest_of : List ℕ → List ℕ
rest_of [] = []
rest_of (x ∷ xs) = xs

lower-then : {xs ys zs : List ℕ} → Lower xs ys → Lower ys zs → Lower xs zs
lower-then (differs {o = o} h) (differs {p = q} g) = let l : o < q = omega arith in differs l
lower-then (differs h) (onwards m) = differs h
lower-then (onwards l) (differs g) = differs g
lower-then (onwards l) (onwards m) = onwards (lower-then l m)

lower-not : {xs ys : List ℕ} → Lower xs ys → xs ≡ ys → ⊥
unfolding head_of rest_of
lower-not (differs h) e = let z = ap head_of e in omega arith
lower-not (onwards l) e = lower-not l (ap rest_of e)

lower-rest : {xs ys : List ℕ} → Lower xs ys → (p : ℕ) (us vs : List ℕ) → xs ≡ p ∷ us → ys ≡ p ∷ vs → Lower us vs
unfolding head_of rest_of
lower-rest (differs h) p us vs e f = let y = ap head_of e in let z = ap head_of f in absurd (omega arith)
lower-rest (onwards {ps = ps} l) p us vs e f = subst (Lower us) (ap rest_of f) (subst (λ z. Lower z ps) (ap rest_of e) l)

-- rows are compared in as many words as the first of them has
lower-heads : {xs ys : List ℕ} → Lower xs ys → (f : ℕ → ℕ) (a b : ℕ) (us vs : List ℕ) → xs ≡ a ∷ take (f a) us → ys ≡ b ∷ take (f a) vs
    → Lower (a ∷ take (f a) us) (b ∷ take (f b) vs)
unfolding head_of
lower-heads (differs h) f a b us vs e g = let y = ap head_of e in let z = ap head_of g in let l : a < b = omega arith in differs l
lower-heads (onwards {o = o} {os = os} {ps = ps} l) f a b us vs e g =
    let z : a ≡ b = sym (ap head_of e) ∙ ap head_of g in
    subst (λ (x : ℕ). Lower (a ∷ take (f a) us) (b ∷ take (f x) vs)) z
    (subst (Lower (a ∷ take (f a) us)) g (subst (λ (x : List ℕ). Lower x (o ∷ ps)) e (onwards l)))

-- two sorted lists with the same members are one
sorted-one : (xs ys : List (List ℕ)) → Sorted Lower xs → Sorted Lower ys → ((z : List ℕ) → Memᴰ z xs → Memᴰ z ys) → ((z : List ℕ) → Memᴰ z ys → Memᴰ z xs) → xs ≡ ys
sorted-one [] [] u v f g = refl
sorted-one [] (y ∷ ys) u v f g = absurd (Memᴰ.not-nil (g y (Memᴰ.head refl)))
sorted-one (x ∷ xs) [] u v f g = absurd (Memᴰ.not-nil (f x (Memᴰ.head refl)))
sorted-one (x ∷ xs) (y ∷ ys) u v f g =
    let e : x ≡ y = first (f x (Memᴰ.head refl)) (g y (Memᴰ.head refl)) in
    ap₂ ◌∷◌ e (sorted-one xs ys u.1 v.1 (λ z m. down z e m (f z (Memᴰ.tail m))) (λ z m. up z e m (g z (Memᴰ.tail m))))
  where
    first : Memᴰ x (y ∷ ys) → Memᴰ y (x ∷ xs) → x ≡ y
    first (Memᴰ.head e) n = e
    first (Memᴰ.tail m) (Memᴰ.head e) = sym e
    first (Memᴰ.tail m) (Memᴰ.tail n) = absurd (lower-not (lower-then (u.0 y n) (v.0 x m)) refl)

    down : (z : List ℕ) → x ≡ y → Memᴰ z xs → Memᴰ z (y ∷ ys) → Memᴰ z ys
    down z e m (Memᴰ.head q) = absurd (lower-not (u.0 z m) (e ∙ sym q))
    down z e m (Memᴰ.tail n) = n

    up : (z : List ℕ) → x ≡ y → Memᴰ z ys → Memᴰ z (x ∷ xs) → Memᴰ z xs
    up z e m (Memᴰ.head q) = absurd (lower-not (v.0 z m) (sym e ∙ sym q))
    up z e m (Memᴰ.tail n) = n

sorted-those : (q : List ℕ → Bool) (l : List (List ℕ)) → Sorted Lower l → Sorted Lower (those q l)
sorted-those q [] u = tt
sorted-those q (x ∷ l) u = go (q x) (sorted-those q l u.1)
  where
    go : (b : Bool) → Sorted Lower (those q l) → Sorted Lower (cond b (x ∷ those q l) (those q l))
    go true ih = ((λ b i. u.0 b (in-those q l b i).0), ih)
    go false ih = ih

-- ===== Rows =====
drop_at : (j : ℕ) (xs : List ℕ) → j < length xs → drop j xs ≡ get_or xs j 0 ∷ drop (suc j) xs
drop_at j [] h = absurd (omega arith)
drop_at zero (x ∷ xs) h = refl
drop_at (suc j) (x ∷ xs) h = drop_at j xs (omega arith)

all-tuple : (n : ℕ) (os : List ℕ) → all_below n os ≡ true → Tuple n (length os) os
all-tuple n [] e = none
all-tuple n (o ∷ os) e = more (ltb-true o n (and_left (ltb o n) _ e)) (all-tuple n os (and_right (ltb o n) _ e))

map-append : {A B : Type 0} (f : A → B) (xs ys : List A) → map f (xs ++ ys) ≡ map f xs ++ map f ys
map-append f [] ys = refl
map-append f (x ∷ xs) ys = ap (λ l. f x ∷ l) (map-append f xs ys)

pub key-lower : (ar facts : List ℕ) (i k : ℕ) → suc i < fact_count facts → k ≡ get_or ar (get_or facts (i * fact_words) 0) 0
    → Lower (take (suc k) (drop (i * fact_words) facts)) (take (suc k) (drop (suc i * fact_words) facts)) → Lower (key_at ar facts i) (key_at ar facts (suc i))
unfolding key_at predicate_at
key-lower ar facts i k h e l =
    let a : ℕ = get_or facts (i * fact_words) 0 in
    let b : ℕ = get_or facts (suc i * fact_words) 0 in
    let x = drop_at (i * fact_words) facts (omega arith) in
    let y = drop_at (suc i * fact_words) facts (omega arith) in
    rw (x, y) (lower-heads l (λ q. get_or ar q 0) a b (drop (suc (i * fact_words)) facts) (drop (suc (suc i * fact_words)) facts)
    (ap₂ (λ (c : ℕ) (xs : List ℕ). take (suc c) xs) e x) (ap₂ (λ (c : ℕ) (xs : List ℕ). take (suc c) xs) e y))

module _ (ar facts : List ℕ) (good : are_arities ar ≡ true) (p : ℕ) where
  -- the objects of row i, if it is one of p
  unfoldable tuple_at : ℕ → List ℕ
  unfolding objects_in
  tuple_at i = objects_in facts (i * fact_words + 1) (get_or ar p 0)

  unfoldable chosen : ℕ → List (List ℕ)
  unfolding tuple_at predicate_at
  chosen i = cond (eqb (predicate_at facts i) p) (tuple_at i ∷ []) []

  kept-chosen : (i : ℕ) → kept_at facts p (get_or ar p 0) i ≡ map (fact_row p) (chosen i)
  unfolding kept_at chosen tuple_at
  kept-chosen i = go (eqb (predicate_at facts i) p) (objects_in facts (i * fact_words + 1) (get_or ar p 0))
    where
      go : (b : Bool) (t : List ℕ) → cond b (fact_row p t ∷ []) [] ≡ map (fact_row p) (cond b (t ∷ []) [])
      go true t = refl
      go false t = refl

  kept_map : (l : List ℕ) → gather (kept_at facts p (get_or ar p 0)) l ≡ map (fact_row p) (gather chosen l)
  kept_map [] = refl
  kept_map (i ∷ l) = ap₂ ◌++◌ (kept-chosen i) (kept_map l) ∙ sym (map-append (fact_row p) (chosen i) (gather chosen l))

  one-sorted : (i : ℕ) → Sorted Lower (gather chosen (i ∷ []))
  unfolding chosen
  one-sorted i = go (eqb (predicate_at facts i) p) (tuple_at i)
    where
      go : (b : Bool) (t : List ℕ) → Sorted Lower (cond b (t ∷ []) [] ++ [])
      go true t = ((λ b i. absurd (Memᴰ.not-nil i)), tt)
      go false t = tt

  in-chosen : (i : ℕ) (z : List ℕ) → Memᴰ z (chosen i) → (predicate_at facts i ≡ p) × (z ≡ tuple_at i)
  unfolding chosen
  in-chosen i z m = go (eqb (predicate_at facts i) p) refl m
    where
      go : (b : Bool) → eqb (predicate_at facts i) p ≡ b → Memᴰ z (cond b (tuple_at i ∷ []) []) → (predicate_at facts i ≡ p) × (z ≡ tuple_at i)
      go true e n = (eqb-true (predicate_at facts i) p e, Memᴰ.eq_of_singleton n)
      go false e n = absurd (Memᴰ.not-nil n)

  chosen-in : (i : ℕ) → predicate_at facts i ≡ p → Memᴰ (tuple_at i) (chosen i)
  unfolding chosen
  chosen-in i e = rw (eq-eqb (predicate_at facts i) p e) (Memᴰ.head refl)

  tuple_is : (i : ℕ) → take (get_or ar p 0) (objects_at facts i) ≡ tuple_at i
  unfolding objects_at tuple_at objects_in
  tuple_is i =
      let e : suc (i * fact_words) ≡ i * fact_words + 1 = omega arith in
      take-take (get_or ar p 0) most_places (drop (suc (i * fact_words)) facts) (arity-most ar p good) ∙ ap (λ (x : ℕ). take (get_or ar p 0) (drop x facts)) e

  key-is : (i : ℕ) → i < fact_count facts → predicate_at facts i ≡ p → key_at ar facts i ≡ p ∷ tuple_at i
  unfolding key_at predicate_at tuple_at objects_in
  key-is i h e =
      let s : suc (i * fact_words) ≡ i * fact_words + 1 = omega arith in
      ap (λ (x : ℕ). take (suc (get_or ar x 0)) (drop (i * fact_words) facts)) e
      ∙ ap (take (suc (get_or ar p 0))) (drop_at (i * fact_words) facts (omega arith))
      ∙ ap₂ (λ (x y : ℕ). x ∷ take (get_or ar p 0) (drop y facts)) e s

  module _ (o : Ordered ar facts) where
    rows-lower : (i d : ℕ) → i + suc d < fact_count facts → Lower (key_at ar facts i) (key_at ar facts (i + suc d))
    rows-lower i zero h = let e : suc i ≡ i + 1 = omega arith in subst (λ (x : ℕ). Lower (key_at ar facts i) (key_at ar facts x)) e (o.each i (omega arith))
    rows-lower i (suc d) h =
        let e : suc (i + suc d) ≡ i + suc (suc d) = omega arith in
        lower-then (rows-lower i d (omega arith)) (subst (λ (x : ℕ). Lower (key_at ar facts (i + suc d)) (key_at ar facts x)) e (o.each (i + suc d) (omega arith)))

    pair-lower : (i j : ℕ) → i < j → j < fact_count facts → predicate_at facts i ≡ p → predicate_at facts j ≡ p → Lower (tuple_at i) (tuple_at j)
    pair-lower i j l h e f =
        let q : i + suc (j - i - 1) ≡ j = omega arith in
        lower-rest (subst (λ (x : ℕ). Lower (key_at ar facts i) (key_at ar facts x)) q (rows-lower i (j - i - 1) (omega arith))) p (tuple_at i) (tuple_at j)
        (key-is i (omega arith) e) (key-is j h f)

    tuples-sorted : (m : ℕ) → m ≤ fact_count facts → Sorted Lower (gather chosen (up_to m))
    tuples-sorted zero h = tt
    tuples-sorted (suc m) h = subst (Sorted Lower) (sym (gather_append chosen (up_to m) (m ∷ [])))
        (sorted-append Lower (gather chosen (up_to m)) (gather chosen (m ∷ [])) (tuples-sorted m (omega arith)) (one-sorted m) (λ a b i j.
        let r = in-gather chosen (up_to m) a i in
        let s = in-gather chosen (m ∷ []) b j in
        let x = in-chosen r.0 a r.2 in
        let y = in-chosen s.0 b s.2 in
        let z = Memᴰ.eq_of_singleton s.1 in
        let l = in-up_to m r.0 r.1 in
        subst (λ t. Lower t b) (sym x.1) (subst (Lower (tuple_at r.0)) (sym y.1) (pair-lower r.0 s.0 (omega arith) (omega arith) x.0 y.0))))

    module _ (n : ℕ) (constants : List ℕ) (lent : is_state ar n constants facts ≡ true) where
      names-below : (i : ℕ) → i < fact_count facts → names_below ar n facts i ≡ true
      unfolding is_state
      names-below i h = below-every (fact_count facts) (names_below ar n facts) i (and_right (constants_below n constants) _ (and_right (leb 1 n) _ lent)) h

      tuple-below : (i : ℕ) → i < fact_count facts → predicate_at facts i ≡ p → all_below n (tuple_at i) ≡ true
      unfolding names_below
      tuple-below i h e =
          sym (ap (all_below n) (tuple_is i)) ∙ sym (ap (λ (x : ℕ). all_below n (take (get_or ar x 0) (objects_at facts i))) e) ∙ names-below i h

      tuple-length : (i : ℕ) → i < fact_count facts → length (tuple_at i) ≡ get_or ar p 0
      tuple-length i h =
          sym (ap length (tuple_is i)) ∙ length-take-le (get_or ar p 0) (objects_at facts i) (omega (arith, objects-length facts i h, arity-most ar p good))

      row-says : (i : ℕ) → predicate_at facts i ≡ p → says_fact ar facts p (tuple_at i) i ≡ true
      unfolding says_fact
      row-says i e = rw (eq-eqb (predicate_at facts i) p e, tuple_is i) (equal-lists (tuple_at i))

      tuple-said : (i : ℕ) → i < fact_count facts → predicate_at facts i ≡ p → said_by ar facts p (tuple_at i) ≡ true
      unfolding said_by
      tuple-said i h e = some-made (fact_count facts) (says_fact ar facts p (tuple_at i)) i h (row-says i e)

      said-tuple : (z : List ℕ) → said_by ar facts p z ≡ true → (i : ℕ) × (i < fact_count facts) × (predicate_at facts i ≡ p) × (z ≡ tuple_at i)
      unfolding said_by says_fact
      said-tuple z e =
          let r = some-found (fact_count facts) (says_fact ar facts p z) e in (
            r.0,
            r.1,
            eqb-true (predicate_at facts r.0) p (and_left (eqb (predicate_at facts r.0) p) _ r.2),
            sym (lists-equal (take (get_or ar p 0) (objects_at facts r.0)) z (and_right (eqb (predicate_at facts r.0) p) _ r.2)) ∙ tuple_is r.0,
          )

      -- the rows of p in their order are its facts
      tuples-are : gather chosen (up_to (fact_count facts)) ≡ those (said_by ar facts p) (tuples n (get_or ar p 0))
      tuples-are = sorted-one (gather chosen (up_to (fact_count facts))) (those (said_by ar facts p) (tuples n (get_or ar p 0))) (tuples-sorted (fact_count facts) (omega arith))
          (sorted-those (said_by ar facts p) (tuples n (get_or ar p 0)) (tuples-order n (get_or ar p 0)))
          (λ z m.
          let r = in-gather chosen (up_to (fact_count facts)) z m in
          let x = in-chosen r.0 z r.2 in
          let h = in-up_to (fact_count facts) r.0 r.1 in
          subst (λ t. Memᴰ t (those (said_by ar facts p) (tuples n (get_or ar p 0)))) (sym x.1)
          (those-in (said_by ar facts p) (tuples n (get_or ar p 0)) (tuple_at r.0)
          (tuples-in n (subst (λ (c : ℕ). Tuple n c (tuple_at r.0)) (tuple-length r.0 h) (all-tuple n (tuple_at r.0) (tuple-below r.0 h x.0))))
          (tuple-said r.0 h x.0)))
          (λ z m.
          let r = said-tuple z (in-those (said_by ar facts p) (tuples n (get_or ar p 0)) z m).1 in
          subst (λ t. Memᴰ t (gather chosen (up_to (fact_count facts)))) (sym r.3)
          (gather-in chosen (up_to (fact_count facts)) r.0 (tuple_at r.0) (up_to-in (fact_count facts) r.0 r.1) (chosen-in r.0 r.2)))

      pub kept-are : kept_rows facts p (get_or ar p 0) (fact_count facts) ≡ map (fact_row p) (those (said_by ar facts p) (tuples n (get_or ar p 0)))
      unfolding kept_rows
      kept-are = kept_map (up_to (fact_count facts)) ∙ ap (map (fact_row p)) tuples-are

-- the objects of parameters are objects
pub bound-below : {s : State} → Good s → (os : List ℕ) → all_below s.size os ≡ true → Bound s os
bound-below {s} good os e = record { each = go os e }
  where
    go : (os : List ℕ) → all_below s.size os ≡ true → (i : ℕ) → get_or os i (s.constant 0) < s.size
    go [] e i = good.placed 0
    go (o ∷ os) e zero = ltb-true o s.size (and_left (ltb o s.size) _ e)
    go (o ∷ os) e (suc i) = go os (and_right (ltb o s.size) _ e) i

module _ (ar : List ℕ) (good : are_arities ar ≡ true) (p : ℕ) (some : 0 < p) (fits : p < predicate_count) (facts constants os : List ℕ) (n : ℕ) {ordered : Bool}
    (s : Standing ar facts constants os n ordered) where
  bits : AtMost 1 (diagram_of (own_words p (get_or ar p 0)))
  bits = subst (AtMost 1) (sym (own-diagram ar good p some fits)) (omega arith, omega arith)

  bound : Bound (state_of ar n constants facts) os
  unfolding state_of
  bound = bound-below (lent-good ar n constants facts s.lent) os s.objects

  rows-own : rows_by ar facts (own_words p (get_or ar p 0)) p n constants os ≡ map (fact_row p) (those (said_by ar facts p) (tuples n (get_or ar p 0)))
  unfolding rows_by is_one
  rows-own =
      rows_are ar n constants facts os (lent-good ar n constants facts s.lent) bound s.most (own_words p (get_or ar p 0)) (own-valid ar good p some fits) bits p (get_or ar p 0)
      (arity-most ar p good)
      ∙ ap (map (fact_row p)) (those-same _ _ (tuples n (get_or ar p 0)) (λ vs i. own-says ar good p some fits n constants facts os vs (tuple-size (in-tuples n (get_or ar p 0) vs i))))

  -- rows that stand in order are those of the predicate that stays
  pub kept-own : ordered ≡ true → kept_rows facts p (get_or ar p 0) (fact_count facts) ≡ rows_by ar facts (own_words p (get_or ar p 0)) p n constants os
  kept-own e = kept-are ar facts good p (s.order e) n constants s.lent ∙ sym rows-own
