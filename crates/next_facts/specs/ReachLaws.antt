-- What a diagram can come to is sound for every completion of env, and exact where no term is open.
use Rattle.std.specs.Prelude.{◌≡◌, Bool, ◌&&◌, ◌||◌, ℕ, zero, suc, ◌+◌, ◌*◌, ◌≤◌, ◌<◌, length}
use Rattle.std.proofs.Math.Path.{refl, sym, ap, ap₂}
use Rattle.std.proofs.Common.{◌∙◌, arith, length-take-le}
use Rattle.std.proofs.Math.Bool.{true, false, not, cond}
use mathlib.Core.List.{List, [], ◌∷◌, map}
use Rattle.std.proofs.Math.ListN.{get_or, take}
use Rattle.std.proofs.lemmas.List.{length-map}
use Rattle.std.proofs.Math.Seq.{get_or-take, ext_get_or}
use Rattle.std.proofs.Math.Dec.{eqb}
use borrow.Author.Tests.{eqb-true, eqb-false, eq-eqb, ne_eqb, not-true}
use Rattle.basics.specs.Tests.{Flag, is_true, is_false, flag, and_left, and_right, or-one, or-other}
use Rattle.basics.specs.Members.{clash}
use Rattle.label.specs.Limits.{equality, equality_arity, term_end, most_places}
use Rattle.label.specs.Labels.{are_arities, is_label, predicate_of, place_at, unpacked, places_of, terms_of}
use Rattle.label.proofs.LabelLaws.{place_of, place_end}
use Rattle.label.proofs.ArityLaws.{arity-most, arity-two, terms-length}
use Rattle.diagram.specs.Diagram.{Diagram, leaf, branch, eval}
use Rattle.diagram.specs.WordLaws.{get_d_map, lists-equal, equal-lists}
use Rattle.diagram.specs.RowLaws.{same_tests}
use Rattle.diagram.specs.Listing.{Fine}
use Rattle.state.specs.State.{State, equated, truth, holds, atom_of, meaning, value}
use Rattle.state.specs.Lent.{fact_words, fact_count, predicate_at, objects_at, says_fact, some_below, said_by, state_of}
use Rattle.state.proofs.LentLaws.{objects-length, object-at, some-made, some-found, some-none, some_same}
use Rattle.regression.proofs.ResultLaws.{value-meaning}
use Rattle.next_facts.specs.Reach.{free, word_of, is_open, differs, fits, may_hold, may_fail, pick_leaf, reaches, reach_in, arity_of}

-- ===== Open edges =====

-- where the edges taken are open, only 0 is come to means that 0 is the leaf
module _ (m f c : ℕ → Bool) (P : ℕ → Type 0) (high : (l : ℕ) → P l → c l ≡ true → m l ≡ true) (low : (l : ℕ) → P l → c l ≡ false → f l ≡ true) where
  pick-high : (b : Bool) (x y : ℕ) → pick_leaf true b x y ≡ 0 → x ≡ 0
  unfolding pick_leaf
  pick-high b x y e = go (eqb x 0) refl
    where
      go : (z : Bool) → eqb x 0 ≡ z → x ≡ 0
      go true q = eqb-true x 0 q
      go false q = sym (ap (λ (z : Bool). cond (not z) x (cond b y 0)) q) ∙ e

  pick_low : (b : Bool) (x y : ℕ) → pick_leaf b true x y ≡ 0 → y ≡ 0
  unfolding pick_leaf
  pick_low b x y e = go b (eqb x 0) refl e
    where
      go : (b z : Bool) → eqb x 0 ≡ z → cond (b && not (eqb x 0)) x y ≡ 0 → y ≡ 0
      go false z q h = h
      go true true q h = sym (ap (λ (z : Bool). cond (not z) x y) q) ∙ h
      go true false q h = absurd (eqb-false x 0 q (sym (ap (λ (z : Bool). cond (not z) x y) q) ∙ h))

  pub reaches-zero : (ar : List ℕ) → ((l : ℕ) → is_label ar l ≡ true → P l) → (d : Diagram) → Fine ar d → reaches m f d ≡ 0 → eval c d ≡ 0
  unfolding reaches eval
  reaches-zero ar g (leaf v) w e = e
  reaches-zero ar g (branch l t u) w e = go (flag (c l)) (reaches-zero ar g t w.1) (reaches-zero ar g u w.2)
    where
      go : Flag (c l) → (reaches m f t ≡ 0 → eval c t ≡ 0) → (reaches m f u ≡ 0 → eval c u ≡ 0) → cond (c l) (eval c t) (eval c u) ≡ 0
      go (is_true q) x y = rw q (x (pick-high (f l) (reaches m f t) (reaches m f u) (ap (λ (b : Bool). pick_leaf b (f l) (reaches m f t) (reaches m f u)) (sym (high l (g l w.0) q)) ∙ e)))
      go (is_false q) x y = rw q (y (pick_low (m l) (reaches m f t) (reaches m f u) (ap (λ (b : Bool). pick_leaf (m l) b (reaches m f t) (reaches m f u)) (sym (low l (g l w.0) q)) ∙ e)))

-- where just these are open, it is the leaf
module _ (m f c : ℕ → Bool) (ar : List ℕ) (high : (l : ℕ) → is_label ar l ≡ true → m l ≡ c l) (low : (l : ℕ) → is_label ar l ≡ true → f l ≡ not (c l)) where
  pick_is : (b : Bool) (x y : ℕ) → pick_leaf b (not b) x y ≡ cond b x y
  unfolding pick_leaf
  pick_is true x y = go (eqb x 0) refl
    where
      go : (z : Bool) → eqb x 0 ≡ z → cond (not (eqb x 0)) x 0 ≡ x
      go true q = ap (λ (z : Bool). cond (not z) x 0) q ∙ sym (eqb-true x 0 q)
      go false q = ap (λ (z : Bool). cond (not z) x 0) q
  pick_is false x y = refl

  pub reaches-leaf : (d : Diagram) → Fine ar d → reaches m f d ≡ eval c d
  unfolding reaches eval
  reaches-leaf (leaf v) w = refl
  reaches-leaf (branch l t u) w =
      ap₂ (λ (a b : Bool). pick_leaf a b (reaches m f t) (reaches m f u)) (high l w.0) (low l w.0)
      ∙ pick_is (c l) (reaches m f t) (reaches m f u) ∙ ap₂ (cond (c l)) (reaches-leaf t w.1) (reaches-leaf u w.2)

-- ===== A label =====
equated-two : (os : List ℕ) → length os ≡ equality_arity → equated os ≡ eqb (get_or os 0 0) (get_or os 1 0)
equated-two [] e = absurd (omega arith)
equated-two (a ∷ []) e = absurd (omega arith)
equated-two (a ∷ b ∷ os) e = refl

truth-equal : (s : State) (p : ℕ) (os : List ℕ) → p ≡ equality → truth s p os ≡ equated os
truth-equal s p os e = rw e

truth-fact : (ar : List ℕ) (n : ℕ) (constants facts : List ℕ) (p : ℕ) (os : List ℕ) → (p ≡ equality → ⊥) → truth (state_of ar n constants facts) p os ≡ said_by ar facts p os
unfolding state_of
truth-fact ar n constants facts zero os h = absurd (h refl)
truth-fact ar n constants facts (suc p) os h = refl

differs-not : (w o : ℕ) → ((w ≡ free → ⊥) → o ≡ w) → differs w o ≡ false
unfolding differs
differs-not w o h = go (flag (eqb w free))
  where
    go : Flag (eqb w free) → (not (eqb w free) && not (eqb o w)) ≡ false
    go (is_true e) = rw e refl
    go (is_false e) = rw (e, eq-eqb o w (h (eqb-false w free e))) refl

not-differs : (w o : ℕ) → (w ≡ free → ⊥) → differs w o ≡ false → o ≡ w
unfolding differs
not-differs w o n e = go (flag (eqb o w))
  where
    go : Flag (eqb o w) → o ≡ w
    go (is_true q) = eqb-true o w q
    go (is_false q) = clash {b = not (eqb w free) && not (eqb o w)} (rw (ne_eqb w free n, q) refl) e

some-no : (k : ℕ) (q : ℕ → Bool) → some_below k q ≡ false → (j : ℕ) → j < k → q j ≡ false
some-no k q e j h = go (flag (q j))
  where
    go : Flag (q j) → q j ≡ false
    go (is_true z) = clash (some-made k q j h z) e
    go (is_false z) = z

module _ (ar : List ℕ) (good : are_arities ar ≡ true) (n : ℕ) (constants facts env : List ℕ) (θ : ℕ → ℕ)
    (agree : (t : ℕ) → t < term_end → (get_or env t 0 ≡ free → ⊥) → θ t ≡ get_or env t 0) where
  module _ (l : ℕ) (h : is_label ar l ≡ true) where
    few : arity_of ar l ≤ most_places
    few = arity-most ar (predicate_of l) good

    abbrev os : List ℕ
    os = map θ (terms_of ar (unpacked l))

    size : length (map θ (terms_of ar (unpacked l))) ≡ arity_of ar l
    size = length-map (terms_of ar (unpacked l)) θ ∙ terms-length ar l good

    term_is : (j : ℕ) → j < arity_of ar l → get_or (terms_of ar (unpacked l)) j 0 ≡ place_at l j
    unfolding terms_of predicate_of unpacked
    term_is j i = get_or-take (arity_of ar l) (places_of (unpacked l)) j 0 i ∙ place_of l j (omega (arith, few))

    object : (j : ℕ) → j < arity_of ar l → get_or (map θ (terms_of ar (unpacked l))) j 0 ≡ θ (place_at l j)
    object j i = get_d_map θ (terms_of ar (unpacked l)) j 0 0 (omega (arith, terms-length ar l good)) ∙ ap θ (term_is j i)

    given : (j : ℕ) → j < arity_of ar l → (word_of env l j ≡ free → ⊥) → get_or (map θ (terms_of ar (unpacked l))) j 0 ≡ word_of env l j
    given j i z = object j i ∙ agree (place_at l j) (place_end ar l j h (omega (arith, few))) z

    -- the objects of a row
    row-size : (i : ℕ) → i < fact_count facts → length (take (arity_of ar l) (objects_at facts i)) ≡ arity_of ar l
    row-size i m = length-take-le (arity_of ar l) (objects_at facts i) (omega (arith, objects-length facts i m, few))

    row_word : (i j : ℕ) → j < arity_of ar l → get_or (take (arity_of ar l) (objects_at facts i)) j 0 ≡ get_or facts (i * fact_words + 1 + j) 0
    row_word i j m = get_or-take (arity_of ar l) (objects_at facts i) j 0 m ∙ object-at facts i j (omega (arith, few))

    said_fits : (i : ℕ) → i < fact_count facts → says_fact ar facts (predicate_of l) (map θ (terms_of ar (unpacked l))) i ≡ true → fits facts env l (arity_of ar l) i ≡ true
    unfolding says_fact fits
    said_fits i m e =
        let a = and_left (eqb (predicate_at facts i) (predicate_of l)) _ e in
        let b = lists-equal (take (arity_of ar l) (objects_at facts i)) (map θ (terms_of ar (unpacked l))) (and_right (eqb (predicate_at facts i) (predicate_of l)) _ e) in
        rw (
          a,
          some-none (arity_of ar l) (λ j. differs (word_of env l j) (get_or facts (i * fact_words + 1 + j) 0)) (λ j u.
              differs-not (word_of env l j) (get_or facts (i * fact_words + 1 + j) 0) (λ z. sym (row_word i j u) ∙ ap (λ (x : List ℕ). get_or x j 0) b ∙ given j u z)),
        ) refl

    module _ (closed : (j : ℕ) → j < arity_of ar l → word_of env l j ≡ free → ⊥) where
      fits_said : (i : ℕ) → i < fact_count facts → fits facts env l (arity_of ar l) i ≡ true → says_fact ar facts (predicate_of l) (map θ (terms_of ar (unpacked l))) i ≡ true
      unfolding says_fact fits
      fits_said i m e =
          let a = and_left (eqb (predicate_at facts i) (predicate_of l)) _ e in
          let b = not-true _ (and_right (eqb (predicate_at facts i) (predicate_of l)) _ e) in
          let path : take (arity_of ar l) (objects_at facts i) ≡ map θ (terms_of ar (unpacked l))
          = ext_get_or 0 (take (arity_of ar l) (objects_at facts i)) (map θ (terms_of ar (unpacked l))) (row-size i m ∙ sym size) (λ j u.
          let q : j < arity_of ar l = omega (arith, row-size i m) in
          row_word i j q
          ∙ not-differs (word_of env l j) _ (closed j q) (some-no (arity_of ar l) (λ j. differs (word_of env l j) (get_or facts (i * fact_words + 1 + j) 0)) b j q)
          ∙ sym (given j q (closed j q))) in
          rw (a, path, equal-lists (map θ (terms_of ar (unpacked l)))) refl

      fact-exact : some_below (fact_count facts) (fits facts env l (arity_of ar l)) ≡ said_by ar facts (predicate_of l) (map θ (terms_of ar (unpacked l)))
      unfolding said_by
      fact-exact = some_same (fact_count facts) _ _ (λ i m. same_tests _ _ (fits_said i m) (said_fits i m))

      equal-exact : predicate_of l ≡ equality → eqb (word_of env l 0) (word_of env l 1) ≡ equated (map θ (terms_of ar (unpacked l)))
      equal-exact e =
          let two : arity_of ar l ≡ equality_arity = ap (λ (x : ℕ). get_or ar x 0) e ∙ arity-two ar good in
          sym (equated-two (map θ (terms_of ar (unpacked l))) (size ∙ two)
          ∙ ap₂ eqb (given 0 (omega arith) (closed 0 (omega arith))) (given 1 (omega arith) (closed 1 (omega arith))))

    closed-by : is_open env l (arity_of ar l) ≡ false → (j : ℕ) → j < arity_of ar l → word_of env l j ≡ free → ⊥
    unfolding is_open
    closed-by e j i z = clash {b = is_open env l (arity_of ar l)} (some-made (arity_of ar l) (λ j. eqb (word_of env l j) free) j i (eq-eqb _ free z)) e

    -- a label all of whose places have objects
    pub hold-exact : is_open env l (arity_of ar l) ≡ false → may_hold facts env l (arity_of ar l) ≡ holds (state_of ar n constants facts) θ (atom_of ar l)
    unfolding may_hold holds atom_of
    hold-exact e = go (flag (eqb (predicate_of l) equality))
      where
        go : Flag (eqb (predicate_of l) equality)
            → cond (eqb (predicate_of l) equality) (is_open env l (arity_of ar l) || eqb (word_of env l 0) (word_of env l 1)) (some_below (fact_count facts) (fits facts env l (arity_of ar l)))
            ≡ truth (state_of ar n constants facts) (predicate_of l) (map θ (terms_of ar (unpacked l)))
        go (is_true z) = rw (z, e) (equal-exact (closed-by e) (eqb-true _ _ z) ∙ sym (truth-equal (state_of ar n constants facts) (predicate_of l) _ (eqb-true _ _ z)))
        go (is_false z) = rw z (fact-exact (closed-by e) ∙ sym (truth-fact ar n constants facts (predicate_of l) _ (eqb-false _ _ z)))

    pub hold-sound : holds (state_of ar n constants facts) θ (atom_of ar l) ≡ true → may_hold facts env l (arity_of ar l) ≡ true
    unfolding may_hold holds atom_of said_by
    hold-sound e = go (flag (is_open env l (arity_of ar l))) (flag (eqb (predicate_of l) equality))
      where
        go : Flag (is_open env l (arity_of ar l)) → Flag (eqb (predicate_of l) equality) → may_hold facts env l (arity_of ar l) ≡ true
        go (is_false o) z = hold-exact o ∙ e
        go (is_true o) (is_true z) = rw (z, o) refl
        go (is_true o) (is_false z) =
            let w = some-found (fact_count facts) (says_fact ar facts (predicate_of l) (map θ (terms_of ar (unpacked l))))
            (sym (truth-fact ar n constants facts (predicate_of l) (map θ (terms_of ar (unpacked l))) (eqb-false _ _ z)) ∙ e) in
            rw z (some-made (fact_count facts) (fits facts env l (arity_of ar l)) w.0 w.1 (said_fits w.0 w.1 w.2))

    pub fail-sound : holds (state_of ar n constants facts) θ (atom_of ar l) ≡ false → may_fail facts env l (arity_of ar l) ≡ true
    unfolding may_fail
    fail-sound e = go (flag (is_open env l (arity_of ar l)))
      where
        go : Flag (is_open env l (arity_of ar l)) → (is_open env l (arity_of ar l) || not (may_hold facts env l (arity_of ar l))) ≡ true
        go (is_true o) = or-one _ _ o
        go (is_false o) = or-other (is_open env l (arity_of ar l)) _ (ap not (hold-exact o ∙ e))

  -- ===== A diagram =====

  -- sound: what only comes to 0 is 0 for every completion
  pub reach-sound : (d : Diagram) → Fine ar d → reach_in ar facts env d ≡ 0 → value (state_of ar n constants facts) (meaning ar d) θ ≡ 0
  unfolding reach_in
  reach-sound d w e = value-meaning (state_of ar n constants facts) ar d θ
      ∙ reaches-zero (λ l. may_hold facts env l (arity_of ar l)) (λ l. may_fail facts env l (arity_of ar l)) (λ l. holds (state_of ar n constants facts) θ (atom_of ar l))
      (λ l. is_label ar l ≡ true) hold-sound fail-sound ar (λ l h. h) d w e

  module _ (closed : (t : ℕ) → t < term_end → get_or env t 0 ≡ free → ⊥) where
    shut : (l : ℕ) → is_label ar l ≡ true → is_open env l (arity_of ar l) ≡ false
    unfolding is_open
    shut l h = some-none (arity_of ar l) (λ j. eqb (word_of env l j) free) (λ j i. ne_eqb _ free (closed (place_at l j) (place_end ar l j h (omega (arith, few l h)))))

    fail-exact : (l : ℕ) → is_label ar l ≡ true → may_fail facts env l (arity_of ar l) ≡ not (holds (state_of ar n constants facts) θ (atom_of ar l))
    unfolding may_fail
    fail-exact l h = ap₂ (λ (a b : Bool). a || not b) (shut l h) (hold-exact l h (shut l h))

    -- exact where nothing is open
    pub reach-exact : (d : Diagram) → Fine ar d → reach_in ar facts env d ≡ value (state_of ar n constants facts) (meaning ar d) θ
    unfolding reach_in
    reach-exact d w =
        reaches-leaf (λ l. may_hold facts env l (arity_of ar l)) (λ l. may_fail facts env l (arity_of ar l)) (λ l. holds (state_of ar n constants facts) θ (atom_of ar l)) ar
        (λ l h. hold-exact l h (shut l h)) fail-exact d w
        ∙ sym (value-meaning (state_of ar n constants facts) ar d θ)
