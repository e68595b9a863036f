-- Laws of the search for the highest leaf, in the words of the code.
use mathlib.Core.Path.{◌≡◌, refl, sym, ap, ap₂, subst, ◌∙◌}
use mathlib.Core.Bool.{Bool, true, false, ◌&&◌, cond}
use mathlib.Core.List.{List, [], ◌∷◌, map}
use Prim.Native.Nat.{ℕ, zero, suc, ◌+◌, ◌-◌, ◌*◌, ◌≤◌, ◌<◌}
use native.Mathlib.Omega.{arith}
use borrow.Author.Tests.{eqb-true, eqb-false, eq-eqb, ne_eqb}
use lib.ListN.{length, get_or, set, take, length-set, length-map, get_or-eq_default}
use lib.Seq.{get_or-set_same, get_or-set_other, set-get_or, set-set, length-take-le, get_or-take, ext_get_or}
use lib.Dec.{eqb}
use Rattle.basics.specs.Tests.{Cmp, below, equal, above, cmp, Flag, is_true, is_false, flag}
use Rattle.label.specs.Limits.{term_end, leaf_mark, predicate_count, most_places, equality, equality_arity}
use Rattle.label.specs.Labels.{are_arities, predicate_of, place_at, unpacked, places_of, terms_of}
use Rattle.label.proofs.LabelLaws.{label-fits, place_of, place_end}
use Rattle.label.proofs.ArityLaws.{arity-most, arity-two, arity-words, terms-length}
use Rattle.diagram.specs.Sizes.{highest_value}
use Rattle.diagram.specs.Diagram.{eval}
use Rattle.diagram.specs.Words.{label_at, high_at, low_at, row_count, every_below, equal_lists}
use Rattle.diagram.specs.WordLaws.{every-below, below-every, lists-equal, equal-lists, get_d_map}
use Rattle.diagram.specs.RowLaws.{same_tests}
use Rattle.diagram.specs.Validity.{Valid, tree}
use Rattle.diagram.specs.RowDiagrams.{leaf-row, branch_row}
use Rattle.diagram.specs.DiagramOfListing.{valid-rows, shown-rows}
use Rattle.valuing.specs.declared.Lookup.{Lookup}
use Rattle.valuing.specs.declared.Lookup.TheVariants.{Free, Bucket}
use Rattle.state.specs.State.{equated}
use Rattle.state.specs.Lent.{fact_count, predicate_at, objects_at, some_below, said_by, says_fact}
use Rattle.state.proofs.LentLaws.{objects-length, object-at, some_same}
use Rattle.fact_index.specs.Inner.{place_count, object_at, hash_end, hash_gap, hash_start, hash_step, hash_of, bucket_for}
use Rattle.fact_index.specs.Index.{buckets}
use Rattle.fact_index.specs.IndexLaws.{Hashing, hashing-start, hashing-on}
use Rattle.valuing.specs.Asking.{given_at, bucket_of, says, Placed, Asked}
use Rattle.valuing.specs.Search.{free, TopsBy, Numbered, lent_truth, lent_holds, end_row, leaf_from, Extends, given, Env, free_count, Labelled, LooksUp, Telling, Hit, old, new, Best, Ready}
use Rattle.valuing.proofs.FactLaws.{placed-place, placed-term}

-- reading an answer's row
pub follow-true : (ws : List ℕ) (r : ℕ) (b : Bool) → b ≡ true → get_or ws (r * 3 + 1) 0 ≡ cond b (high_at ws r) (low_at ws r)
unfolding high_at
follow-true ws r b e = rw e

pub follow-false : (ws : List ℕ) (r : ℕ) (b : Bool) → b ≡ false → get_or ws (r * 3 + 2) 0 ≡ cond b (high_at ws r) (low_at ws r)
unfolding low_at
follow-false ws r b e = rw e

-- ===== The places of a label =====

pub place-term : (ar : List ℕ) (l : ℕ) → are_arities ar ≡ true → (j : ℕ) → j < get_or ar (predicate_of l) 0 → get_or (terms_of ar (unpacked l)) j 0 ≡ place_at l j
unfolding terms_of predicate_of unpacked
place-term ar l e j h = get_or-take (get_or ar (predicate_of l) 0) (places_of (unpacked l)) j 0 h ∙ place_of l j (omega (arith, arity-most ar (predicate_of l) e))

module _ {ar env : List ℕ} {l : ℕ} (a : Labelled ar env l) where
  pub labelled-predicate : predicate_of l < predicate_count
  unfolding predicate_of unpacked
  labelled-predicate = (label-fits ar l a.label-fits).predicate-fits

  pub labelled-read : {p : ℕ} → p ≡ predicate_of l → p < length ar
  labelled-read e = omega (arith, arity-words ar a.arities, labelled-predicate)

  places-most : get_or ar (predicate_of l) 0 ≤ most_places
  places-most = arity-most ar (predicate_of l) a.arities

  label-placed : Placed env l (get_or ar (predicate_of l) 0)
  label-placed = record { words = a.words; most = places-most; below = λ j h. place_end ar l j a.label-fits (omega (arith, places-most)) }

  pub labelled-placed : {p : ℕ} → p ≡ predicate_of l → Placed env l (get_or ar p 0)
  labelled-placed e = rw e label-placed

  -- its terms, one by one
  term-at : (j : ℕ) → j < get_or ar (predicate_of l) 0 → get_or (terms_of ar (unpacked l)) j 0 ≡ place_at l j
  term-at = place-term ar l a.arities

  objects-length' : (θ : ℕ → ℕ) → length (map θ (terms_of ar (unpacked l))) ≡ get_or ar (predicate_of l) 0
  objects-length' θ = length-map (terms_of ar (unpacked l)) θ ∙ terms-length ar l a.arities

  object_of : (θ : ℕ → ℕ) (j : ℕ) → j < get_or ar (predicate_of l) 0 → get_or (map θ (terms_of ar (unpacked l))) j 0 ≡ θ (place_at l j)
  object_of θ j h = get_d_map θ (terms_of ar (unpacked l)) j 0 0 (omega (arith, terms-length ar l a.arities)) ∙ ap θ (term-at j h)

-- ===== The places looked up one by one =====

pub record Looking (ar env : List ℕ) (l k j h : ℕ) : Type 0 where
  pub arity : k ≡ get_or ar (predicate_of l) 0
  pub placed : Placed env l k
  pub most : j ≤ k
  pub number : Hashing (predicate_of l) (given_at env l) j h
  pub bound : (i : ℕ) → i < j → given_at env l i ≡ free → ⊥

pub looking-start : {ar env : List ℕ} {l p h : ℕ} → Labelled ar env l → p ≡ predicate_of l → (h ≡ hash_start p) × (h < hash_end * hash_gap) → Looking ar env l (get_or ar p 0) 0 h
looking-start {ar} {env} {l} {p} {h} a e q = record {
  arity = ap (λ (x : ℕ). get_or ar x 0) e;
  placed = labelled-placed a e;
  most = omega arith;
  number = hashing-start (q.0 ∙ ap hash_start e, q.1);
  bound = λ i l. absurd (omega arith);
}

module _ {ar env : List ℕ} {l k j h : ℕ} (s : Looking ar env l k j h) where
  pub looking-small : h < hash_end * hash_gap
  looking-small = s.number.small

  pub looking-done : {b : ℕ} → k ≤ j → (b ≡ bucket_for h) × (b < buckets) → LooksUp ar env l (Bucket b)
  unfolding bucket_of
  looking-done {b} m q =
      let z : j ≡ get_or ar (predicate_of l) 0 = omega (arith, s.most, s.arity) in
      record {
        unbound = λ u y. absurd (let o : ◌≡◌ {A = ℕ} 0 1 = cc in omega arith);
        bound = λ c y. let o : b ≡ c = cc in (λ i d. s.bound i (omega arith), sym o ∙ q.0 ∙ ap bucket_for (s.number.number ∙ ap (hash_of (predicate_of l) (given_at env l)) z));
      }

  module _ (m : j < k) where
    pub looking-place : j < most_places
    looking-place = placed-place s.placed m

    module _ {t : ℕ} (q : t ≡ place_at l j) where
      pub looking-term : t < length env
      looking-term = placed-term s.placed m q

      pub looking-free : get_or env t 0 ≡ free → LooksUp ar env l (Free t)
      looking-free z = record {
        unbound = λ u y. let o : t ≡ u = cc in (j, omega (arith, s.arity), sym o ∙ q, ap (λ (x : ℕ). get_or env x 0) (sym o) ∙ z);
        bound = λ b y. absurd (let o : ◌≡◌ {A = ℕ} 0 1 = cc in omega arith);
      }

      pub looking-on : {x : ℕ} → (get_or env t 0 ≡ free → ⊥) → (x ≡ hash_step h (get_or env t 0)) × (x < hash_end * hash_gap) → Looking ar env l k (j + 1) x
      looking-on n y = record {
        arity = s.arity;
        placed = s.placed;
        most = omega arith;
        number = hashing-on s.number (ap (λ (x : ℕ). get_or env x 0) q) y;
        bound = λ i u. here i u (cmp i j);
      }
        where
          here : (i : ℕ) → i < j + 1 → Cmp i j → given_at env l i ≡ free → ⊥
          here i u (below c) z = s.bound i c z
          here i u (equal c) z = n (ap (λ (x : ℕ). get_or env x 0) (q ∙ ap (place_at l) (sym c)) ∙ z)
          here i u (above c) z = absurd (omega arith)

-- ===== Truth =====

equated-two : (os : List ℕ) → length os ≡ equality_arity → equated os ≡ eqb (get_or os 0 0) (get_or os 1 0)
equated-two [] e = absurd (omega arith)
equated-two (a ∷ []) e = absurd (omega arith)
equated-two (a ∷ b ∷ os) e = refl

lent-equal : (ar facts : List ℕ) (p : ℕ) (os : List ℕ) → p ≡ equality → lent_truth ar facts p os ≡ equated os
lent-equal ar facts p os e = rw e

lent-fact : (ar facts : List ℕ) (p : ℕ) (os : List ℕ) → (p ≡ equality → ⊥) → lent_truth ar facts p os ≡ said_by ar facts p os
lent-fact ar facts zero os n = absurd (n refl)
lent-fact ar facts (suc p) os n = refl

-- what a row says, by places and by objects
says-fact : {ar env : List ℕ} {l : ℕ} (facts : List ℕ) → Labelled ar env l → (i : ℕ) → i < fact_count facts
    → says facts env l (get_or ar (predicate_of l) 0) i ≡ says_fact ar facts (predicate_of l) (map (given env) (terms_of ar (unpacked l))) i
unfolding says says_fact
says-fact {ar} {env} {l} facts a i h = ap (λ (b : Bool). eqb (predicate_at facts i) (predicate_of l) && b) (same_tests _ _ there back)
  where
    k : ℕ
    k = get_or ar (predicate_of l) 0

    few : k ≤ most_places
    few = places-most a

    os : List ℕ
    os = map (given env) (terms_of ar (unpacked l))

    size : length (take k (objects_at facts i)) ≡ k
    size = length-take-le k (objects_at facts i) (omega (arith, objects-length facts i h, few))

    word : (j : ℕ) → j < k → get_or (take k (objects_at facts i)) j 0 ≡ object_at facts i j
    word j m = get_or-take k (objects_at facts i) j 0 m ∙ object-at facts i j (omega (arith, few))

    there : every_below k (λ j. eqb (object_at facts i j) (given_at env l j)) ≡ true → equal_lists (take k (objects_at facts i)) os ≡ true
    there e =
        let path : take k (objects_at facts i) ≡ os = ext_get_or 0 (take k (objects_at facts i)) os (size ∙ sym (objects-length' a (given env))) (λ j m.
        let q : j < k = omega (arith, size) in
        word j q ∙ eqb-true _ _ (below-every k (λ j. eqb (object_at facts i j) (given_at env l j)) j e q) ∙ sym (object_of a (given env) j q)) in
        subst (λ (xs : List ℕ). equal_lists (take k (objects_at facts i)) xs ≡ true) path (equal-lists (take k (objects_at facts i)))

    back : equal_lists (take k (objects_at facts i)) os ≡ true → every_below k (λ j. eqb (object_at facts i j) (given_at env l j)) ≡ true
    back e = every-below k _ (λ j q.
        eq-eqb _ _ (sym (word j q) ∙ ap (λ (xs : List ℕ). get_or xs j 0) (lists-equal (take k (objects_at facts i)) os e) ∙ object_of a (given env) j q))

module _ {ar facts index env : List ℕ} {l b p : ℕ} (t : Telling ar facts index env l b) (e : p ≡ predicate_of l) where
  pub truth-read : p < length ar
  truth-read = labelled-read t.labelled e

  pub truth-predicate : p < predicate_count
  truth-predicate = omega (arith, labelled-predicate t.labelled)

  module _ (z : p ≡ equality) where
    equal-arity : get_or ar (predicate_of l) 0 ≡ equality_arity
    equal-arity = ap (λ (x : ℕ). get_or ar x 0) (sym e ∙ z) ∙ arity-two ar t.labelled.arities

    pub truth-term : {u j : ℕ} → j < equality_arity → u ≡ place_at l j → u < length env
    truth-term h q = placed-term (label-placed t.labelled) (omega (arith, equal-arity)) q

    pub truth-equal : {u v : ℕ} → u ≡ place_at l 0 → v ≡ place_at l 1 → eqb (get_or env u 0) (get_or env v 0) ≡ lent_holds ar facts (given env) l
    unfolding lent_holds
    truth-equal q r =
        let os : List ℕ = map (given env) (terms_of ar (unpacked l)) in
        ap₂ (λ (x y : ℕ). eqb (get_or env x 0) (get_or env y 0)) q r
        ∙ sym (lent-equal ar facts (predicate_of l) os (sym e ∙ z) ∙ equated-two os (objects-length' t.labelled (given env) ∙ equal-arity)
        ∙ ap₂ eqb (object_of t.labelled (given env) 0 (omega (arith, equal-arity))) (object_of t.labelled (given env) 1 (omega (arith, equal-arity))))

  pub truth-asked : Asked facts index env l (get_or ar p 0) b
  unfolding place_count
  truth-asked = record {
    arities = ar;
    index-fits = t.indexed;
    arity = rw e (omega (arith, places-most t.labelled));
    bucket = rw e t.bucket;
    placed = labelled-placed t.labelled e;
  }

  pub truth-found : {r : Bool} → (p ≡ equality → ⊥) → r ≡ some_below (fact_count facts) (says facts env l (get_or ar p 0)) → r ≡ lent_holds ar facts (given env) l
  unfolding lent_holds said_by
  truth-found n q =
      q ∙ ap (λ (x : ℕ). some_below (fact_count facts) (says facts env l (get_or ar x 0))) e
      ∙ some_same (fact_count facts) _ _ (says-fact facts t.labelled)
      ∙ sym (lent-fact ar facts (predicate_of l) (map (given env) (terms_of ar (unpacked l))) (λ z. n (e ∙ z)))

-- what θ makes of a label all of whose places have objects
holds-given : {ar env : List ℕ} {l : ℕ} (facts : List ℕ) (n : ℕ) (θ : ℕ → ℕ) → Labelled ar env l → Extends n env θ
    → ((j : ℕ) → j < get_or ar (predicate_of l) 0 → given_at env l j ≡ free → ⊥) → lent_holds ar facts θ l ≡ lent_holds ar facts (given env) l
unfolding lent_holds
holds-given {ar} {env} {l} facts n θ a x b =
    let ts = terms_of ar (unpacked l) in
    let size = objects-length' a in
    ap (lent_truth ar facts (predicate_of l)) (ext_get_or 0 (map θ ts) (map (given env) ts) (size θ ∙ sym (size (given env))) (λ j m.
    let h : j < get_or ar (predicate_of l) 0 = omega (arith, size θ) in
    object_of a θ j h ∙ x.agrees (place_at l j) ((label-placed a).below j h) (b j h) ∙ sym (object_of a (given env) j h)))

cond-pick : (b : Bool) (g : ℕ → ℕ) (x y : ℕ) → cond b (g x) (g y) ≡ g (cond b x y)
cond-pick true g x y = refl
cond-pick false g x y = refl

pick-below : (b : Bool) (x y m : ℕ) → x < m → y < m → cond b x y < m
pick-below true x y m p q = p
pick-below false x y m p q = q

-- ===== The leaf's row, by what its label says =====
end-leaf : (ws : List ℕ) (c : ℕ → Bool) (m r : ℕ) → label_at ws r ≡ leaf_mark → end_row ws c m r ≡ r
unfolding end_row
end-leaf ws c zero r e = refl
end-leaf ws c (suc m) r e = rw (eq-eqb (label_at ws r) leaf_mark e)

module _ (ar ws : List ℕ) (v : Valid ar ws) (c : ℕ → Bool) where
  -- the row below, by the choice
  abbrev next_row : ℕ → ℕ
  next_row r = cond (c (label_at ws r)) (high_at ws r) (low_at ws r)

  next-before : (r : ℕ) → r < row_count ws → (label_at ws r ≡ leaf_mark → ⊥) → next_row r < r
  next-before r h n =
      let row = branch_row ar ws (row_count ws) (valid-rows ar ws v) r h n in
      pick-below (c (label_at ws r)) (high_at ws r) (low_at ws r) r row.high-before row.low-before

  -- more depth than the row's number changes nothing
  abbrev Deep : ℕ → ℕ → Type 0
  Deep m k = (r : ℕ) → r ≤ m → r ≤ k → r < row_count ws → end_row ws c m r ≡ end_row ws c k r

  deep-leaf : (m k r : ℕ) → r < row_count ws → ((label_at ws r ≡ leaf_mark → ⊥) → end_row ws c m r ≡ end_row ws c k r) → end_row ws c m r ≡ end_row ws c k r
  deep-leaf m k r h f = go (flag (eqb (label_at ws r) leaf_mark))
    where
      go : Flag (eqb (label_at ws r) leaf_mark) → end_row ws c m r ≡ end_row ws c k r
      go (is_true e) = end-leaf ws c m r (eqb-true _ _ e) ∙ sym (end-leaf ws c k r (eqb-true _ _ e))
      go (is_false e) = f (eqb-false _ _ e)

  end-deep : (m k : ℕ) → Deep m k
  unfolding end_row
  end-deep zero k r p q h = deep-leaf zero k r h (λ n. absurd (omega (arith, next-before r h n)))
  end-deep (suc m) zero r p q h = deep-leaf (suc m) zero r h (λ n. absurd (omega (arith, next-before r h n)))
  end-deep (suc m) (suc k) r p q h = deep-leaf (suc m) (suc k) r h (λ n.
      let b = next-before r h n in
      rw (ne_eqb (label_at ws r) leaf_mark n) (end-deep m k (next_row r) (omega arith) (omega arith) (omega arith)))

  pub end_on : (r : ℕ) → r < row_count ws → (label_at ws r ≡ leaf_mark → ⊥) → end_row ws c r r ≡ end_row ws c (next_row r) (next_row r)
  unfolding end_row
  end_on zero h n = absurd (omega (arith, next-before zero h n))
  end_on (suc r) h n =
      let b = next-before (suc r) h n in
      rw (ne_eqb (label_at ws (suc r)) leaf_mark n) (end-deep r (next_row (suc r)) (next_row (suc r)) (omega arith) (omega arith) (omega arith))

-- the leaf's number is g of the leaf
module _ {g : ℕ → ℕ} {ws high : List ℕ} (ar : List ℕ) (v : Valid ar ws) (t : TopsBy g ws high (row_count ws)) (c : ℕ → Bool) where
  abbrev Ended : ℕ → Type 0
  Ended m = (r : ℕ) → r < m → r < row_count ws → get_or high (end_row ws c r r) 0 ≡ g (eval c (tree ws r))

  ended-step : (m : ℕ) → Ended m → Ended (suc m)
  unfolding eval
  ended-step m ih r l h = go (flag (eqb (label_at ws r) leaf_mark))
    where
      go : Flag (eqb (label_at ws r) leaf_mark) → get_or high (end_row ws c r r) 0 ≡ g (eval c (tree ws r))
      go (is_true e) =
          let e' = eqb-true _ _ e in
          ap (λ (k : ℕ). get_or high k 0) (end-leaf ws c r r e') ∙ t.leaves r h e' ∙ ap (λ d. g (eval c d)) (sym ((shown-rows ar ws v).leaves r h e'))
      go (is_false e) =
          let e' = eqb-false _ _ e in
          let b = next-before ar ws v c r h e' in
          ap (λ (k : ℕ). get_or high k 0) (end_on ar ws v c r h e')
          ∙ ih (next_row ar ws v c r) (omega arith) (omega arith)
          ∙ ap g (sym (cond-pick (c (label_at ws r)) (λ k. eval c (tree ws k)) (high_at ws r) (low_at ws r)))
          ∙ ap (λ d. g (eval c d)) (sym ((shown-rows ar ws v).branches r h e'))

  ended : (m : ℕ) → Ended m
  ended zero r l h = absurd (omega arith)
  ended (suc m) r l h = ended-step m (ended m) r l h

  pub end-number : (r : ℕ) → r < row_count ws → get_or high (end_row ws c r r) 0 ≡ g (eval c (tree ws r))
  end-number r h = ended (suc r) r (omega arith) h

pub tops-in-state : {g : ℕ → ℕ} {ws high : List ℕ} (ar : List ℕ) → Valid ar ws → TopsBy g ws high (row_count ws)
    → ((x : ℕ) → x ≤ highest_value → g x ≤ highest_value) → Numbered ws high
tops-in-state {g} {ws} {high} ar v t few = record {
  bound = λ r h c. omega (arith, end-number ar v t c r h, t.bound r h c);
  few = λ r h e. omega (arith, t.leaves r h e, few (high_at ws r) (leaf-row ar ws (row_count ws) (valid-rows ar ws v) r h e).value);
}

-- the number from a row
module _ (ar facts ws high : List ℕ) (v : Valid ar ws) (θ : ℕ → ℕ) (r : ℕ) (h : r < row_count ws) where
  from-leaf : label_at ws r ≡ leaf_mark → leaf_from ar facts ws high θ r ≡ get_or high r 0
  unfolding leaf_from
  from-leaf e = ap (λ (k : ℕ). get_or high k 0) (end-leaf ws (lent_holds ar facts θ) r r e)

  from-branch : (label_at ws r ≡ leaf_mark → ⊥)
      → leaf_from ar facts ws high θ r ≡ leaf_from ar facts ws high θ (cond (lent_holds ar facts θ (label_at ws r)) (high_at ws r) (low_at ws r))
  unfolding leaf_from
  from-branch e = ap (λ (k : ℕ). get_or high k 0) (end_on ar ws v (lent_holds ar facts θ) r h e)

-- an environment has an extension: object 0 for what has none
unfoldable pub filled : List ℕ → ℕ → ℕ
filled env t = cond (eqb (get_or env t 0) free) 0 (get_or env t 0)

pub filled-extends : {n : ℕ} {env : List ℕ} → Env n env → Extends n env (filled env)
unfolding filled
filled-extends {n} {env} f = record {
  agrees = λ t l h. ap (λ b. cond b 0 (get_or env t 0)) (ne_eqb _ free h);
  range = λ t. go t (flag (eqb (get_or env t 0) free)) (cmp t term_end);
}
  where
    go : (t : ℕ) → Flag (eqb (get_or env t 0) free) → Cmp t term_end → cond (eqb (get_or env t 0) free) 0 (get_or env t 0) < n
    go t (is_true e) c = rw e f.some
    go t (is_false e) (below c) = rw e (f.range t c (eqb-false _ _ e))
    go t (is_false e) (equal c) = rw e (omega (arith, f.some, f.places, get_or-eq_default env 0 (out t (omega arith))))
      where
        out : (t : ℕ) → term_end ≤ t → length env ≤ t
        out t l = omega (arith, f.places)
    go t (is_false e) (above c) = rw e (omega (arith, f.some, f.places, get_or-eq_default env 0 (out t (omega arith))))
      where
        out : (t : ℕ) → term_end ≤ t → length env ≤ t
        out t l = omega (arith, f.places)

-- rows followed: from r₀ to r the leaf stays, whatever the terms without an object are given
pub record Along (ws high ar facts index env : List ℕ) (n r₀ r : ℕ) : Type 0 where
  pub ready : Ready ws high ar facts index env n
  pub within : r < row_count ws
  pub same : (θ : ℕ → ℕ) → Extends n env θ → leaf_from ar facts ws high θ r₀ ≡ leaf_from ar facts ws high θ r

module _ {ws high ar facts index env : List ℕ} {n r₀ : ℕ} where
  pub along-start : Ready ws high ar facts index env n → r₀ < row_count ws → Along ws high ar facts index env n r₀ r₀
  along-start q h = record { ready = q; within = h; same = λ θ x. refl }

module _ {ws high ar facts index env : List ℕ} {n r₀ r : ℕ} (w : Along ws high ar facts index env n r₀ r) where
  top-bound : (θ : ℕ → ℕ) → leaf_from ar facts ws high θ r ≤ get_or high r 0
  unfolding leaf_from
  top-bound θ = w.ready.tops.bound r w.within (lent_holds ar facts θ)

  row_labelled : (label_at ws r ≡ leaf_mark → ⊥) → Labelled ar env (label_at ws r)
  row_labelled nl = record {
    arities = w.ready.valid.arities;
    label-fits = (branch_row ar ws (row_count ws) (valid-rows ar ws w.ready.valid) r w.within nl).label;
    words = w.ready.env-fits.places;
  }

  pub along-cut : {best : ℕ} → get_or high r 0 < best → Best ar facts ws high env n r₀ best best env
  along-cut h = record {
    restored = refl;
    kept = omega arith;
    above = λ θ x. omega (arith, w.same θ x, top-bound θ);
    hit = old refl;
  }

  pub along-leaf : {best : ℕ} → best ≤ get_or high r 0 → label_at ws r ≡ leaf_mark → Best ar facts ws high env n r₀ best (get_or high r 0 + 1) env
  along-leaf h e =
      let v = w.ready.valid in
      let θ₁ = filled env in
      record {
        restored = refl;
        kept = omega arith;
        above = λ θ x. omega (arith, w.same θ x, from-leaf ar facts ws high v θ r w.within e);
        hit = new θ₁ (filled-extends w.ready.env-fits) (omega (arith, w.same θ₁ (filled-extends w.ready.env-fits), from-leaf ar facts ws high v θ₁ r w.within e));
      }

  pub along_bind : {best b : ℕ} {env' : List ℕ} → Best ar facts ws high env n r best b env' → Best ar facts ws high env n r₀ best b env'
  along_bind {best} {b} t = record {
    restored = t.restored;
    kept = t.kept;
    above = λ θ x. omega (arith, w.same θ x, t.above θ x);
    hit = go t.hit;
  }
    where
      go : Hit ar facts ws high env n r best b → Hit ar facts ws high env n r₀ best b
      go (old e) = old e
      go (new θ x e) = new θ x (e ∙ ap suc (sym (w.same θ x)))

  -- its label, with every place's object
  module _ (nl : label_at ws r ≡ leaf_mark → ⊥) {s : Lookup} (q : LooksUp ar env (label_at ws r) s) where
    along-telling : {b : ℕ} → s ≡ Bucket b → Telling ar facts index env (label_at ws r) b
    along-telling {b} e = record { labelled = row_labelled nl; indexed = w.ready.indexed; bucket = (q.bound b e).1 }

    along-on : {b x : ℕ} {v : Bool} → s ≡ Bucket b → v ≡ lent_holds ar facts (given env) (label_at ws r) → x ≡ cond v (high_at ws r) (low_at ws r)
        → Along ws high ar facts index env n r₀ x
    along-on {b} {x} {v} e ev ex =
        let valid = w.ready.valid in
        let row = branch_row ar ws (row_count ws) (valid-rows ar ws valid) r w.within nl in
        record {
          ready = w.ready;
          within = rw ex (pick-below v (high_at ws r) (low_at ws r) (row_count ws) (omega (arith, row.high-before, w.within)) (omega (arith, row.low-before, w.within)));
          same = λ θ y.
              w.same θ y ∙ from-branch ar facts ws high valid θ r w.within nl
              ∙ ap (leaf_from ar facts ws high θ) (ap (λ c. cond c (high_at ws r) (low_at ws r)) (holds-given facts n θ (row_labelled nl) y (q.bound b e).0 ∙ sym ev) ∙ sym ex);
        }

    -- or one without
    module _ {t : ℕ} (e : s ≡ Free t) where
      along-free : get_or env t 0 ≡ free
      along-free = (q.unbound t e).3

      along-term : t < term_end
      along-term =
          let u = q.unbound t e in
          omega (arith, u.2, (label-placed (row_labelled nl)).below u.0 u.1)

-- objects given in turn
module _ {env : List ℕ} {n t : ℕ} (f : Env n env) (l : t < term_end) (e : get_or env t 0 ≡ free) where
  pub set-env : (v : ℕ) → v < n → Env n (set env t v)
  set-env v h = record {
    places = length-set env t v ∙ f.places;
    some = f.some;
    most = f.most;
    range = λ u m y. inside u m y (flag (eqb u t));
  }
    where
      inside : (u : ℕ) → u < term_end → (get_or (set env t v) u 0 ≡ free → ⊥) → Flag (eqb u t) → get_or (set env t v) u 0 < n
      inside u m y (is_true p) =
          let p' = eqb-true u t p in
          subst (λ (x : ℕ). get_or (set env t v) x 0 < n) (sym p') (rw (get_or-set_same env t v 0 (omega (arith, f.places))) h)
      inside u m y (is_false p) =
          let z = get_or-set_other env t u v 0 (eqb-false u t p) in
          rw z (f.range u m (λ x. y (z ∙ x)))

  -- an extension that gives t the object v
  pub extends-in : (v : ℕ) (θ : ℕ → ℕ) → Extends n env θ → θ t ≡ v → Extends n (set env t v) θ
  extends-in v θ x p = record { agrees = λ u m y. go u m y (flag (eqb u t)); range = x.range }
    where
      go : (u : ℕ) → u < term_end → (get_or (set env t v) u 0 ≡ free → ⊥) → Flag (eqb u t) → θ u ≡ get_or (set env t v) u 0
      go u m y (is_true d) =
          let d' = eqb-true u t d in
          subst (λ (w : ℕ). θ w ≡ get_or (set env t v) w 0) (sym d') (p ∙ sym (get_or-set_same env t v 0 (omega (arith, f.places))))
      go u m y (is_false d) =
          let z = get_or-set_other env t u v 0 (eqb-false u t d) in
          x.agrees u m (λ w. y (z ∙ w)) ∙ sym z

  pub extends-out : (v : ℕ) (θ : ℕ → ℕ) → Extends n (set env t v) θ → Extends n env θ
  extends-out v θ x = record { agrees = λ u m y. go u m y (flag (eqb u t)); range = x.range }
    where
      go : (u : ℕ) → u < term_end → (get_or env u 0 ≡ free → ⊥) → Flag (eqb u t) → θ u ≡ get_or env u 0
      go u m y (is_true d) = absurd (y (ap (λ w. get_or env w 0) (eqb-true u t d) ∙ e))
      go u m y (is_false d) =
          let z = get_or-set_other env t u v 0 (eqb-false u t d) in
          x.agrees u m (λ w. y (sym z ∙ w)) ∙ z

set-ready : {ws high ar facts index env : List ℕ} {n t : ℕ} → Ready ws high ar facts index env n → t < term_end → get_or env t 0 ≡ free → (v : ℕ) → v < n
    → Ready ws high ar facts index (set env t v) n
set-ready q l e v h = record { valid = q.valid; places = q.places; tops = q.tops; indexed = q.indexed; env-fits = set-env q.env-fits l e v h }

-- the objects below v were given to t, and b is the best
pub record Giving (ws high ar facts index env₀ env : List ℕ) (n r t best v b : ℕ) : Type 0 where
  pub ready : Ready ws high ar facts index env₀ n
  pub row : r < row_count ws
  pub term : t < term_end
  pub unbound : get_or env₀ t 0 ≡ free
  pub word : set env t free ≡ env₀
  pub most : v ≤ n
  pub kept : best ≤ b
  pub above : (θ : ℕ → ℕ) → Extends n env₀ θ → θ t < v → leaf_from ar facts ws high θ r < b
  pub hit : Hit ar facts ws high env₀ n r best b

pub giving-start : {ws high ar facts index env : List ℕ} {n r t best : ℕ} → Ready ws high ar facts index env n → r < row_count ws → t < term_end → get_or env t 0 ≡ free
    → Giving ws high ar facts index env env n r t best 0 best
giving-start {env = env} {t = t} q h l e = record {
  ready = q;
  row = h;
  term = l;
  unbound = e;
  word = ap (set env t) (sym e) ∙ set-get_or env t 0;
  most = omega arith;
  kept = omega arith;
  above = λ θ x m. absurd (omega arith);
  hit = old refl;
}

module _ {ws high ar facts index env₀ env : List ℕ} {n r t best v b : ℕ} (g : Giving ws high ar facts index env₀ env n r t best v b) where
  word_set : set env t v ≡ set env₀ t v
  word_set = sym (set-set env t free v) ∙ ap (λ x. set x t v) g.word

  pub giving-length : length env ≡ length env₀
  giving-length = sym (length-set env t free) ∙ ap length g.word

  pub giving-room : t < length env
  giving-room = omega (arith, giving-length, g.ready.env-fits.places, g.term)

  pub giving-ready : v < n → Ready ws high ar facts index (set env t v) n
  giving-ready h = rw word_set (set-ready g.ready g.term g.unbound v h)

  pub giving-on : {b' : ℕ} {env' : List ℕ} → v < n → Best ar facts ws high (set env t v) n r b b' env' → Giving ws high ar facts index env₀ env' n r t best (v + 1) b'
  giving-on {b'} {env'} h s = record {
    ready = g.ready;
    row = g.row;
    term = g.term;
    unbound = g.unbound;
    word = ap (λ x. set x t free) s.restored ∙ set-set env t v free ∙ g.word;
    most = omega arith;
    kept = omega (arith, g.kept, s.kept);
    above = λ θ x m. higher θ x m (cmp (θ t) v);
    hit = reached s.hit;
  }
    where
      higher : (θ : ℕ → ℕ) → Extends n env₀ θ → θ t < v + 1 → Cmp (θ t) v → leaf_from ar facts ws high θ r < b'
      higher θ x m (below c) = omega (arith, g.above θ x c, s.kept)
      higher θ x m (equal c) = s.above θ (rw word_set (extends-in g.ready.env-fits g.term g.unbound v θ x c))
      higher θ x m (above c) = absurd (omega arith)

      same-best : Hit ar facts ws high env₀ n r best b → b' ≡ b → Hit ar facts ws high env₀ n r best b'
      same-best (old e) q = old (q ∙ e)
      same-best (new θ x e) q = new θ x (q ∙ e)

      reached : Hit ar facts ws high (set env t v) n r b b' → Hit ar facts ws high env₀ n r best b'
      reached (old e) = same-best g.hit e
      reached (new θ x e) = new θ (extends-out g.ready.env-fits g.term g.unbound v θ (rw word_set at x)) e

  pub giving-cut : get_or high r 0 < b → Best ar facts ws high env₀ n r best b (set env t free)
  giving-cut h = record {
    restored = g.word;
    kept = g.kept;
    above = λ θ x. omega (arith, top θ);
    hit = g.hit;
  }
    where
      top : (θ : ℕ → ℕ) → leaf_from ar facts ws high θ r ≤ get_or high r 0
      top θ = top-bound (along-start g.ready g.row) θ

  pub giving-end : n ≤ v → Best ar facts ws high env₀ n r best b (set env t free)
  giving-end h = record {
    restored = g.word;
    kept = g.kept;
    above = λ θ x. g.above θ x (omega (arith, x.range t));
    hit = g.hit;
  }

-- the count of terms without an object falls
free-set : (env : List ℕ) (t v : ℕ) → t < length env → get_or env t 0 ≡ free → (v ≡ free → ⊥) → suc (free_count (set env t v)) ≡ free_count env
free-set [] t v l e n = absurd (omega arith)
free-set (o ∷ env) zero v l e n = rw (eq-eqb o free e, ne_eqb v free n) (omega arith)
free-set (o ∷ env) (suc t) v l e n = omega (arith, free-set env t v (omega arith) e n)

pub free-some : (env : List ℕ) (t : ℕ) → t < length env → get_or env t 0 ≡ free → 0 < free_count env
free-some [] t l e = absurd (omega arith)
free-some (o ∷ env) zero l e = rw (eq-eqb o free e) (omega arith)
free-some (o ∷ env) (suc t) l e = omega (arith, free-some env t (omega arith) e)

-- the measures of the two functions: binding falls below following, and following with one more object below binding
pub bind-falls : {ws high ar facts index env : List ℕ} {n t m : ℕ} → Ready ws high ar facts index env n → t < term_end → get_or env t 0 ≡ free
    → free_count env * 2 ≡ m → free_count env * 2 - 1 < m
bind-falls {env = env} {t = t} q l e z = omega (arith, free-some env t (omega (arith, q.env-fits.places)) e)

pub go-falls : {ws high ar facts index env₀ env : List ℕ} {n r t best v b m : ℕ} → Giving ws high ar facts index env₀ env n r t best v b → v < n
    → free_count env₀ * 2 - 1 ≡ m → free_count (set env t v) * 2 < m
go-falls {env₀ = env₀} {t = t} {v = v} g h z =
    let f = g.ready.env-fits in
    let s = free-set env₀ t v (omega (arith, f.places, g.term)) g.unbound (omega (arith, f.most)) in
    rw (word_set g) (omega arith)

-- rows followed, where env is as it was
pub record Going (ws high ar facts index env₀ env : List ℕ) (n r₀ r : ℕ) : Type 0 where
  pub still : env ≡ env₀
  pub along : Along ws high ar facts index env n r₀ r

pub going_start : {ws high ar facts index env : List ℕ} {n r₀ : ℕ} → Ready ws high ar facts index env n → r₀ < row_count ws
    → Going ws high ar facts index env env n r₀ r₀
going_start q h = record { still = refl; along = along-start q h }

module _ {ws high ar facts index env₀ env : List ℕ} {n r₀ r : ℕ} (g : Going ws high ar facts index env₀ env n r₀ r) where
  pub going-cut : {best : ℕ} → get_or high r 0 < best → Best ar facts ws high env₀ n r₀ best best env
  going-cut {best} h = subst (λ (e : List ℕ). Best ar facts ws high e n r₀ best best env) g.still (along-cut g.along h)

  pub going-value : get_or ws (r * 3) 0 ≡ leaf_mark → get_or high r 0 ≤ highest_value
  unfolding label_at
  going-value e = g.along.ready.tops.few r g.along.within e

  pub going-leaf : {best : ℕ} → best ≤ get_or high r 0 → get_or ws (r * 3) 0 ≡ leaf_mark → Best ar facts ws high env₀ n r₀ best (get_or high r 0 + 1) env
  unfolding label_at
  going-leaf {best} h e = subst (λ (z : List ℕ). Best ar facts ws high z n r₀ best (get_or high r 0 + 1) env) g.still (along-leaf g.along h e)

  pub going-bind : {best b : ℕ} {env' : List ℕ} → Best ar facts ws high env n r best b env' → Best ar facts ws high env₀ n r₀ best b env'
  going-bind {best} {b} {env'} t = subst (λ (z : List ℕ). Best ar facts ws high z n r₀ best b env') g.still (along_bind g.along t)

  pub going-kept : {best b : ℕ} {env' : List ℕ} → Best ar facts ws high env n r best b env' → length env' ≡ length env₀
  going-kept t = ap length (t.restored ∙ g.still)

  pub going-count : {m : ℕ} → free_count env₀ * 2 ≡ m → free_count env * 2 ≡ m
  going-count e = ap (λ z. free_count z * 2) g.still ∙ e

  module _ (nl : get_or ws (r * 3) 0 ≡ leaf_mark → ⊥) where
    pub going-labelled : Labelled ar env (get_or ws (r * 3) 0)
    unfolding label_at
    going-labelled = row_labelled g.along nl

    module _ {s : Lookup} (q : LooksUp ar env (get_or ws (r * 3) 0) s) where
      module _ {t : ℕ} (e : s ≡ Free t) where
        pub going-term : t < term_end
        unfolding label_at
        going-term = along-term g.along nl q e

        pub going-free : get_or env t 0 ≡ free
        unfolding label_at
        going-free = along-free g.along nl q e

        pub going-falls : {m : ℕ} → free_count env₀ * 2 ≡ m → free_count env * 2 - 1 < m
        going-falls z = bind-falls g.along.ready going-term going-free (going-count z)

      module _ {b : ℕ} (e : s ≡ Bucket b) where
        pub going-telling : Telling ar facts index env (get_or ws (r * 3) 0) b
        unfolding label_at
        going-telling = along-telling g.along nl q e

        module _ {x : ℕ} {v : Bool} (ev : v ≡ lent_holds ar facts (given env) (get_or ws (r * 3) 0)) (ex : x ≡ cond v (high_at ws r) (low_at ws r)) where
          pub going_on : Going ws high ar facts index env₀ env n r₀ x
          unfolding label_at
          going_on = record { still = g.still; along = along-on g.along nl q e ev ex }

          pub going_less : x < r
          unfolding label_at
          going_less =
              let row = branch_row ar ws (row_count ws) (valid-rows ar ws g.along.ready.valid) r g.along.within nl in
              rw ex (pick-below v (high_at ws r) (low_at ws r) r row.high-before row.low-before)
