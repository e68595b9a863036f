-- The numbered ways of a literal are its targets.
use mathlib.Core.Path.{◌≡◌, refl, sym, ap, subst, ◌∙◌}
use mathlib.Core.Logic.{◌⊎◌, inl, inr}
use mathlib.Core.Bool.{Bool, true, false, ◌&&◌, cond}
use mathlib.Core.List.Memᴰ
use mathlib.Core.List.{List, [], ◌∷◌, Memᴰ}
use mathlib.Core.Option.{some}
use Prim.Native.Nat.{ℕ, zero, suc, ◌+◌, ◌-◌, ◌*◌, ◌/◌, ◌%◌, ◌<◌}
use native.Mathlib.Omega.{arith}
use lib.ListN.{length, get_or, drop}
use lib.Dec.{eqb, ltb}
use borrow.Author.Tests.{ltb-true, ltb-false, eqb-true, eqb-false, eq-eqb}
use Rattle.basics.specs.Tests.{and_left, and_right, Flag, is_true, is_false, flag}
use Rattle.basics.specs.Members.{clash}
use Rattle.label.specs.Limits.{first_minimum, most_places}
use Rattle.label.specs.Labels.{are_arities, is_label, predicate_of, unpacked, terms_of}
use Rattle.label.proofs.ArityLaws.{terms-length, arity-two}
use Rattle.paths.specs.Paths.{Literal}
use Rattle.paths.specs.Inner.{literal_at, literals_in}
use Rattle.cutting.specs.Match.{Partial, bind_terms, turned, ways, ways_among, plain_ways, targets}
use Rattle.cutting.proofs.MovedLaws.{EqualityTerms, equality-terms}
use Rattle.cutting.proofs.MatchLaws.{lit, among_in, among-out, twice_in, twice-out}
use Rattle.matcher.specs.Search.{along, places_in, is_equality, turn, way_place, way_places, is_nothing, alike, into_count, into_at, plain_way, equal_way, way_at, way_count, Setting}
use Rattle.matcher.specs.declared.Way.{Way}
use Rattle.matcher.specs.declared.Way.TheVariants.{Straight, Turned, Twice, Nothing}
use Rattle.matcher.proofs.LiteralLaws.{into-mem, mem-into, alike_is, is-alike, predicate-zero, zero-predicate}
use Rattle.matcher.proofs.AlongLaws.{along-same}
use Rattle.matcher.proofs.TermLaws.{place-term, bind-places}
use Rattle.matcher.proofs.WayLaws.{
  way_equal,
  way-plain,
  count-equal,
  count-plain,
  equal-straight,
  equal-turned,
  equal-into,
  equal-tab,
  plain-terms,
  turn-first,
  turn-second,
  turn-other,
  turn_below,
  place-straight,
  place-turned,
  place_twice,
  twice-used,
  twice-unused,
}

pub data WayView (into tab : List ℕ) (x : ℕ) : Way → Type 0 where
  no-view : WayView into tab x Nothing
  one-view : (i : ℕ) → i < into_count into → alike x (into_at into i) ≡ true → WayView into tab x (Straight (into_at into i / 2))
  turned-view : (i : ℕ) → i < into_count into → is_equality x ≡ true → alike x (into_at into i) ≡ true → WayView into tab x (Turned (into_at into i / 2))
  twice-view : (t : ℕ) → t < first_minimum → is_equality x ≡ true → x % 2 ≡ 1 → 0 < get_or into t 0 + get_or tab (first_minimum + t) 0 → WayView into tab x (Twice t)

by_way : (P : Way → Type 0) (b : Bool) (u v : Way) → (b ≡ true → P u) → (b ≡ false → P v) → P (cond b u v)
by_way P true u v f g = f refl
by_way P false u v f g = g refl

pub way-view : (into tab : List ℕ) (x j : ℕ) → j < way_count into x → WayView into tab x (way_at into tab x j)
unfolding way_at plain_way equal_way
way-view into tab x j h = by_way P (is_equality x) (equal_way into tab x j) (plain_way into x j) equals others
  where
    P : Way → Type 0
    P w = WayView into tab x w

    others : is_equality x ≡ false → P (plain_way into x j)
    others e = by_way P (alike x (into_at into j)) (Straight (into_at into j / 2)) Nothing
        (λ q. one-view j (omega (arith, count-plain into x refl e)) q) (λ q. no-view)

    equals : is_equality x ≡ true → P (equal_way into tab x j)
    equals e = by_way P (ltb j (into_count into * 2)) _ _ low high
      where
        low : ltb j (into_count into * 2) ≡ true → P (cond (alike x (into_at into (j / 2)))
            (cond (eqb (j % 2) 0) (Straight (into_at into (j / 2) / 2)) (Turned (into_at into (j / 2) / 2))) Nothing)
        low k =
            let l = ltb-true j (into_count into * 2) k in
            by_way P (alike x (into_at into (j / 2))) _ Nothing
            (λ q. by_way P (eqb (j % 2) 0) (Straight (into_at into (j / 2) / 2)) (Turned (into_at into (j / 2) / 2))
            (λ z. one-view (j / 2) (omega arith) q) (λ z. turned-view (j / 2) (omega arith) e q)) (λ q. no-view)

        high : ltb j (into_count into * 2) ≡ false
            → P (cond (eqb (x % 2) 1 && ltb 0 (get_or into (j - into_count into * 2) 0 + get_or tab (first_minimum + (j - into_count into * 2)) 0))
            (Twice (j - into_count into * 2)) Nothing)
        high k = by_way P (eqb (x % 2) 1 && ltb 0 (get_or into (j - into_count into * 2) 0 + get_or tab (first_minimum + (j - into_count into * 2)) 0)) _ Nothing
            (λ q. twice-view (j - into_count into * 2) (omega (arith, ltb-false j (into_count into * 2) k, count-equal into x refl e)) e
            (eqb-true (x % 2) 1 (and_left (eqb (x % 2) 1) _ q)) (ltb-true 0 _ (and_right (eqb (x % 2) 1) _ q))) (λ q. no-view)

-- a target that binds the places of x as the way w does
pub record WayTo (ar : List ℕ) (ls : List Literal) (T : List ℕ) (x : ℕ) (w : Way) : Type 0 where
  pub terms : List ℕ
  pub one_of : Memᴰ terms (targets ar ls T (literal_at x))
  pub same : (τ : Partial) → τ 0 ≡ some 0 → bind_terms τ (terms_of ar (unpacked (x / 2))) terms ≡ bind_terms τ (places_in (x / 2)) (way_places w)

way-first : (p : ℕ) (us : List ℕ) → Memᴰ us (ways p us)
way-first zero us = Memᴰ.head refl
way-first (suc p) us = Memᴰ.head refl

-- two terms the other way round, and one twice
turned-at : (a b k : ℕ) → get_or (b ∷ a ∷ []) k 0 ≡ get_or (a ∷ b ∷ []) (turn k) 0
turned-at a b zero = ap (λ (i : ℕ). get_or (a ∷ b ∷ []) i 0) (turn-first 0 refl)
turned-at a b (suc zero) = ap (λ (i : ℕ). get_or (a ∷ b ∷ []) i 0) (turn-second 1 (omega arith) refl)
turned-at a b (suc (suc k)) = ap (λ (i : ℕ). get_or (a ∷ b ∷ []) i 0) (turn-other (suc (suc k)) (omega arith) (omega arith))

twice-at : (t k : ℕ) → get_or (t ∷ t ∷ []) k 0 ≡ way_place (Twice t) k
twice-at t zero = place_twice 0 refl (twice-used t 0 (omega arith))
twice-at t (suc zero) = place_twice 1 refl (twice-used t 1 (omega arith))
twice-at t (suc (suc k)) = place_twice (suc (suc k)) refl (twice-unused t (suc (suc k)) (omega arith))

module _ (ar T ord into tab : List ℕ) (set : Setting ar T ord into tab) (x : ℕ) (label : is_label ar (x / 2) ≡ true) where
  good : are_arities ar ≡ true
  good = set.search.arities

  into-label : (i : ℕ) → i < into_count into → is_label ar (into_at into i / 2) ≡ true
  into-label i h = unfold literal_at in (set.search.labels.each (literal_at (into_at into i)) (into-mem into i h))

  -- a literal of the first path that is alike is one of ls with the sign of x
  among-at : (i : ℕ) → i < into_count into → alike x (into_at into i) ≡ true → (us : List ℕ) → Memᴰ us (ways (predicate_of (x / 2)) (terms_of ar (unpacked (into_at into i / 2))))
      → Memᴰ us (targets ar (literals_in (drop first_minimum into)) T (literal_at x))
  unfolding targets literal_at
  among-at i h e us w =
      let q = alike_is x (into_at into i) e in
      Memᴰ.append_left (plain_ways (predicate_of (x / 2)) (eqb (x % 2) 1) T)
      (among_in ar (predicate_of (x / 2)) (eqb (x % 2) 1) (literals_in (drop first_minimum into)) (into_at into i / 2) us
      (subst (λ (b : Bool). Memᴰ (lit (into_at into i / 2) b) (literals_in (drop first_minimum into))) (sym q.1) (into-mem into i h)) q.0 w)

  count_of : (i : ℕ) → i < into_count into → alike x (into_at into i) ≡ true → length (terms_of ar (unpacked (into_at into i / 2))) ≡ get_or ar (predicate_of (x / 2)) 0
  count_of i h e = terms-length ar (into_at into i / 2) good ∙ ap (λ (p : ℕ). get_or ar p 0) (sym (alike_is x (into_at into i) e).0)

  turned-length : (us : List ℕ) → length (turned us) ≡ length us
  turned-length [] = refl
  turned-length (a ∷ []) = refl
  turned-length (a ∷ b ∷ r) = refl

  -- the places of a way are those of its target
  straight-places : (k : ℕ) → is_label ar k ≡ true → along (λ i. get_or (terms_of ar (unpacked k)) i 0) most_places ≡ way_places (Straight k)
  straight-places k e = along-same _ _ most_places (λ i h. place-straight i refl (place-term ar k good e i h))

  turned-places : (k : ℕ) → is_label ar k ≡ true → predicate_of k ≡ 0 → along (λ i. get_or (turned (terms_of ar (unpacked k))) i 0) most_places ≡ way_places (Turned k)
  turned-places k e z = along-same _ _ most_places (λ i h. at i h)
    where
      two-terms : EqualityTerms ar k
      two-terms = equality-terms ar k good e z

      at : (i : ℕ) → i < most_places → get_or (turned (terms_of ar (unpacked k))) i 0 ≡ way_place (Turned k) i
      at i h =
          place-turned i refl refl
          (ap (λ (us : List ℕ). get_or (turned us) i 0) two-terms.are ∙ turned-at two-terms.smaller two-terms.greater i
          ∙ sym (ap (λ (us : List ℕ). get_or us (turn i) 0) two-terms.are) ∙ place-term ar k good e (turn i) (turn_below i h))

  twice-places : (t : ℕ) → along (λ i. get_or (t ∷ t ∷ []) i 0) most_places ≡ way_places (Twice t)
  twice-places t = along-same _ _ most_places (λ i h. twice-at t i)

  straight-binds : (i : ℕ) → i < into_count into → alike x (into_at into i) ≡ true → (τ : Partial) → τ 0 ≡ some 0
      → bind_terms τ (terms_of ar (unpacked (x / 2))) (terms_of ar (unpacked (into_at into i / 2))) ≡ bind_terms τ (places_in (x / 2)) (way_places (Straight (into_at into i / 2)))
  straight-binds i h q τ z =
      bind-places ar (x / 2) good label (terms_of ar (unpacked (into_at into i / 2))) τ (count_of i h q) z
      ∙ ap (bind_terms τ (places_in (x / 2))) (straight-places (into_at into i / 2) (into-label i h))

  turned-binds : (i : ℕ) → i < into_count into → is_equality x ≡ true → alike x (into_at into i) ≡ true → (τ : Partial) → τ 0 ≡ some 0
      → bind_terms τ (terms_of ar (unpacked (x / 2))) (turned (terms_of ar (unpacked (into_at into i / 2)))) ≡ bind_terms τ (places_in (x / 2)) (way_places (Turned (into_at into i / 2)))
  turned-binds i h s q τ z =
      bind-places ar (x / 2) good label (turned (terms_of ar (unpacked (into_at into i / 2)))) τ (turned-length (terms_of ar (unpacked (into_at into i / 2))) ∙ count_of i h q) z
      ∙ ap (bind_terms τ (places_in (x / 2))) (turned-places (into_at into i / 2) (into-label i h) (sym (alike_is x (into_at into i) q).0 ∙ predicate-zero x s))

  twice-binds : (t : ℕ) → is_equality x ≡ true → (τ : Partial) → τ 0 ≡ some 0
      → bind_terms τ (terms_of ar (unpacked (x / 2))) (t ∷ t ∷ []) ≡ bind_terms τ (places_in (x / 2)) (way_places (Twice t))
  twice-binds t s τ z =
      bind-places ar (x / 2) good label (t ∷ t ∷ []) τ (sym (arity-two ar good) ∙ ap (λ (r : ℕ). get_or ar r 0) (sym (predicate-zero x s))) z
      ∙ ap (bind_terms τ (places_in (x / 2))) (twice-places t)

  -- a way is a target
  pub way_in : {w : Way} → WayView into tab x w → is_nothing w ≡ false → WayTo ar (literals_in (drop first_minimum into)) T x w
  way_in no-view e = clash refl e
  way_in (one-view i h q) e = record {
    terms = terms_of ar (unpacked (into_at into i / 2));
    one_of = among-at i h q (terms_of ar (unpacked (into_at into i / 2))) (way-first (predicate_of (x / 2)) (terms_of ar (unpacked (into_at into i / 2))));
    same = straight-binds i h q;
  }
  way_in (turned-view i h s q) e = record {
    terms = turned (terms_of ar (unpacked (into_at into i / 2)));
    one_of = among-at i h q (turned (terms_of ar (unpacked (into_at into i / 2))))
        (subst (λ (r : ℕ). Memᴰ (turned (terms_of ar (unpacked (into_at into i / 2)))) (ways r (terms_of ar (unpacked (into_at into i / 2)))))
        (sym (predicate-zero x s)) (Memᴰ.tail (Memᴰ.head refl)));
    same = turned-binds i h s q;
  }
  way_in (twice-view t h s q k) e = record {
    terms = t ∷ t ∷ [];
    one_of = unfold targets literal_at in (Memᴰ.append_right (ways_among ar (predicate_of (x / 2)) (eqb (x % 2) 1) (literals_in (drop first_minimum into)))
        (subst (λ (r : ℕ). Memᴰ (t ∷ t ∷ []) (plain_ways r (eqb (x % 2) 1) T)) (sym (predicate-zero x s))
        (subst (λ (r : Bool). Memᴰ (t ∷ t ∷ []) (plain_ways 0 r T)) (sym (eq-eqb (x % 2) 1 q)) (twice_in T t (set.of t h k)))));
    same = twice-binds t s;
  }

  -- a target is a way
  pub record WayOf (us : List ℕ) : Type 0 where
    pub place : ℕ
    pub counted : place < way_count into x
    pub way : Way
    pub is : way_at into tab x place ≡ way
    pub some-way : is_nothing way ≡ false
    pub same : (τ : Partial) → τ 0 ≡ some 0 → bind_terms τ (terms_of ar (unpacked (x / 2))) us ≡ bind_terms τ (places_in (x / 2)) (way_places way)

  straight-of : (i : ℕ) → i < into_count into → alike x (into_at into i) ≡ true → WayOf (terms_of ar (unpacked (into_at into i / 2)))
  straight-of i h q = go (flag (is_equality x))
    where
      go : Flag (is_equality x) → WayOf (terms_of ar (unpacked (into_at into i / 2)))
      go (is_true l) = record {
        place = i * 2;
        counted = omega (arith, count-equal into x refl l);
        way = Straight (into_at into i / 2);
        is = sym (way_equal into tab x (i * 2) refl l
            (equal-straight into tab x (i * 2) (omega arith) {y = into_at into i} {b = true} (ap (λ (m : ℕ). get_or into (first_minimum + m) 0) (omega arith)) (sym q) refl (omega arith)));
        some-way = refl;
        same = straight-binds i h q;
      }
      go (is_false l) = record {
        place = i;
        counted = omega (arith, count-plain into x refl l);
        way = Straight (into_at into i / 2);
        is = sym (way-plain into tab x i refl l (plain-terms into x i {y = into_at into i} {b = true} refl (sym q) refl));
        some-way = refl;
        same = straight-binds i h q;
      }

  turned-of : (i : ℕ) → i < into_count into → is_equality x ≡ true → alike x (into_at into i) ≡ true → WayOf (turned (terms_of ar (unpacked (into_at into i / 2))))
  turned-of i h l q = record {
    place = i * 2 + 1;
    counted = omega (arith, count-equal into x refl l);
    way = Turned (into_at into i / 2);
    is = sym (way_equal into tab x (i * 2 + 1) refl l
        (equal-turned into tab x (i * 2 + 1) (omega arith) {y = into_at into i} {b = true} (ap (λ (m : ℕ). get_or into (first_minimum + m) 0) (omega arith)) (sym q) refl (omega arith)));
    some-way = refl;
    same = turned-binds i h l q;
  }

  twice_of : (t : ℕ) → Memᴰ t T → is_equality x ≡ true → x % 2 ≡ 1 → WayOf (t ∷ t ∷ [])
  twice_of t m l q = record {
    place = into_count into * 2 + t;
    counted = omega (arith, count-equal into x refl l, set.below t m);
    way = Twice t;
    is = go (has (into_count into * 2 + t - into_count into * 2) back);
    some-way = refl;
    same = twice-binds t l;
  }
    where
      back : into_count into * 2 + t - into_count into * 2 ≡ t
      back = omega arith

      has : (u : ℕ) → u ≡ t → (get_or into u 0 ≡ 0 → ⊥) ⊎ (get_or tab (first_minimum + u) 0 ≡ 0 → ⊥)
      has u e = at (flag (eqb (get_or into u 0) 0))
        where
          w : 0 < get_or into u 0 + get_or tab (first_minimum + u) 0
          w = rw e (set.has t m)

          at : Flag (eqb (get_or into u 0) 0) → (get_or into u 0 ≡ 0 → ⊥) ⊎ (get_or tab (first_minimum + u) 0 ≡ 0 → ⊥)
          at (is_true p) = let z = eqb-true (get_or into u 0) 0 p in inr (λ n. omega (arith, w))
          at (is_false p) = inl (eqb-false (get_or into u 0) 0 p)

      go : (get_or into (into_count into * 2 + t - into_count into * 2) 0 ≡ 0 → ⊥) ⊎ (get_or tab (first_minimum + (into_count into * 2 + t - into_count into * 2)) 0 ≡ 0 → ⊥)
          → way_at into tab x (into_count into * 2 + t) ≡ Twice t
      go (inl n) = sym (way_equal into tab x (into_count into * 2 + t) refl l (equal-into into tab x (into_count into * 2 + t) (omega arith) q refl n)) ∙ ap Twice back
      go (inr n) = sym (way_equal into tab x (into_count into * 2 + t) refl l (equal-tab into tab x (into_count into * 2 + t) (omega arith) q refl n)) ∙ ap Twice back

  pub way_out : (us : List ℕ) → Memᴰ us (targets ar (literals_in (drop first_minimum into)) T (literal_at x)) → WayOf us
  unfolding targets literal_at
  way_out us w = go (Memᴰ.append_cases (ways_among ar (predicate_of (x / 2)) (eqb (x % 2) 1) (literals_in (drop first_minimum into))) w)
    where
      ways-of : (p i : ℕ) → i < into_count into → alike x (into_at into i) ≡ true → predicate_of (x / 2) ≡ p
          → Memᴰ us (ways p (terms_of ar (unpacked (into_at into i / 2)))) → WayOf us
      ways-of zero i h q z (Memᴰ.head e) = subst WayOf (sym e) (straight-of i h q)
      ways-of zero i h q z (Memᴰ.tail (Memᴰ.head e)) = subst WayOf (sym e) (turned-of i h (zero-predicate x z) q)
      ways-of zero i h q z (Memᴰ.tail (Memᴰ.tail m)) = absurd (Memᴰ.not-nil m)
      ways-of (suc p) i h q z m = subst WayOf (sym (Memᴰ.eq_of_singleton m)) (straight-of i h q)

      truly : (p : ℕ) (b : Bool) → predicate_of (x / 2) ≡ p → eqb (x % 2) 1 ≡ b → Memᴰ us (plain_ways p b T) → WayOf us
      truly zero true z q m = let r = twice-out T us m in subst WayOf (sym r.1) (twice_of r.0 r.2 (zero-predicate x z) (eqb-true (x % 2) 1 q))
      truly zero false z q m = absurd (Memᴰ.not-nil m)
      truly (suc p) b z q m = absurd (Memᴰ.not-nil m)

      go : Memᴰ us (ways_among ar (predicate_of (x / 2)) (eqb (x % 2) 1) (literals_in (drop first_minimum into))) ⊎ Memᴰ us (plain_ways (predicate_of (x / 2)) (eqb (x % 2) 1) T) → WayOf us
      go (inl m) =
          let r = among-out ar (predicate_of (x / 2)) (eqb (x % 2) 1) (literals_in (drop first_minimum into)) us m in
          let s = mem-into into (lit r.label (eqb (x % 2) 1)) r.one_of in
          let k : r.label ≡ into_at into s.0 / 2 = ap (λ (l : Literal). l.label) s.2 in
          let b : eqb (x % 2) 1 ≡ eqb (into_at into s.0 % 2) 1 = ap (λ (l : Literal). l.sign) s.2 in
          ways-of (predicate_of (x / 2)) s.0 s.1 (is-alike x (into_at into s.0) (r.same-predicate ∙ ap predicate_of k) b) refl
          (subst (λ (y : ℕ). Memᴰ us (ways (predicate_of (x / 2)) (terms_of ar (unpacked y)))) k r.way)
      go (inr m) = truly (predicate_of (x / 2)) (eqb (x % 2) 1) refl refl m
