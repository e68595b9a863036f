-- Laws of tests written as bytes.
use mathlib.Core.Path.{◌≡◌, refl, sym, ap, subst, ◌∙◌}
use mathlib.Core.Bool.{true, false}
use mathlib.Core.List.{List, [], ◌∷◌, ◌++◌, map, append-nil, append_assoc}
use Prim.Native.Nat.{ℕ, zero, suc, ◌+◌, ◌-◌, ◌*◌, ◌≤◌, ◌<◌}
use native.Mathlib.Omega.{arith}
use native.Mathlib.Numerals.{add-one}
use lib.ListN.{length, get_or, take, length-append}
use lib.Seq.{take-suc}
use lib.Dec.{eqb}
use borrow.Author.Tests.{eq-eqb, ne_eqb, eqb-true, eqb-false}
use Rattle.basics.specs.Tests.{Flag, is_true, is_false, flag}
use Rattle.label.specs.Limits.{equality, most_places}
use Rattle.label.specs.Labels.{are_arities, is_label, predicate_of, place_at, places_of, unpacked, terms_of}
use Rattle.label.proofs.LabelLaws.{place_of, place_base, predicate-of, label-fits}
use Rattle.label.proofs.ArityLaws.{arity-most, arity-two, arity-words}
use Rattle.diagram.specs.WordLaws.{map_snoc}
use Rattle.names.specs.Layout.{declared_at}
use Rattle.forms.specs.Tree.{term_bytes, many_bytes, atom_bytes}
use Rattle.answering.specs.Wrote.{Wrote}
use Rattle.answering.proofs.WriteLaws.{wrote_nothing, wrote_then}
use Rattle.diagram_form.specs.Form.{tables_of, term_tree, atom_tree}
use Rattle.spelling.specs.Spelling.{tables_at, Named}
use Rattle.spelling.specs.Parts.{name_at, term_text, places_text, head_text, test_text, test_bytes}
use Rattle.spelling.proofs.NameLaws.{name-within, term-within}

-- the places of a label, one more

many-snoc : {A : Type 0} (w : A → List ℕ) (xs : List A) (x : A) → many_bytes w (xs ++ (x ∷ [])) ≡ many_bytes w xs ++ (32 ∷ w x)
many-snoc w [] x = rw (append-nil (w x))
many-snoc w (y ∷ ys) x =
    ap (λ (z : List ℕ). 32 ∷ z) (ap (λ (z : List ℕ). w y ++ z) (many-snoc w ys x) ∙ sym (append_assoc (w y) (many_bytes w ys) (32 ∷ w x)))

module _ (names : List ℕ) (constants l : ℕ) where
  places-more : (k : ℕ) → k < most_places → places_text names constants l (k + 1) ≡ places_text names constants l k ++ ((32 ∷ []) ++ term_text names constants (place_at l k))
  unfolding places_text term_text
  places-more k h =
      let f = term_tree (tables_at names constants 0) in
      let ps : List ℕ = places_of (unpacked l) in
      let e : take (k + 1) ps ≡ take k ps ++ (place_at l k ∷ []) = rw (add-one k) (take-suc ps k 0 h ∙ ap (λ (x : ℕ). take k ps ++ (x ∷ [])) (place_of l k h)) in
      ap (λ (ts : List ℕ). many_bytes term_bytes (map f ts)) e ∙ ap (many_bytes term_bytes) (map_snoc f (take k ps) (place_at l k))
      ∙ many-snoc term_bytes (map f (take k ps)) (f (place_at l k))

  places-length : (k : ℕ) → k < most_places
      → length (places_text names constants l (k + 1)) ≡ length (places_text names constants l k) + (1 + length (term_text names constants (place_at l k)))
  places-length k h =
      let e = ap length (places-more k h) in
      omega (arith, length-append (places_text names constants l k) ((32 ∷ []) ++ term_text names constants (place_at l k)))

  places-grow : (k d : ℕ) → k + d ≤ most_places → length (places_text names constants l k) ≤ length (places_text names constants l (k + d))
  places-grow k zero h = let e : k + zero ≡ k = omega arith in rw e (omega arith)
  places-grow k (suc d) h =
      let e : k + suc d ≡ k + d + 1 = omega arith in
      rw e (omega (arith, places-grow k d (omega arith), places-length (k + d) (omega arith)))

  places-none : places_text names constants l 0 ≡ []
  unfolding places_text
  places-none = refl

  places-within : (k : ℕ) → k ≤ most_places → length (places_text names constants l k) ≤ k * 23
  places-within zero h = rw places-none (omega arith)
  places-within (suc k) h =
      let e : suc k ≡ k + 1 = omega arith in
      rw e (omega (arith, places-within k (omega arith), places-length k (omega arith), term-within names constants (place_at l k) (place_base l k)))

-- the first k of n places written
pub record PlacesWritten (s names : List ℕ) (constants l place n k end : ℕ) (s₁ : List ℕ) : Type 0 where
  pub within : k ≤ n
  pub wrote : Wrote s place (places_text names constants l k) end s₁
  pub same : length s₁ ≡ length s

pub places-start : (s names : List ℕ) (constants l place n : ℕ) → PlacesWritten s names constants l place n 0 place s
unfolding places_text
places-start s names constants l place n = record { within = omega arith; wrote = wrote_nothing s place; same = refl }

module _ {s names s₁ : List ℕ} {constants l place n k end : ℕ} (most : n ≤ most_places) (room : place + length (places_text names constants l n) ≤ length s)
    (x : PlacesWritten s names constants l place n k end s₁) (h : k < n) where
  next-room : end + (1 + length (term_text names constants (place_at l k))) ≤ length s
  next-room =
      let e : k + 1 + (n - (k + 1)) ≡ n = omega arith in
      let g : length (places_text names constants l (k + 1)) ≤ length (places_text names constants l n) =
      subst (λ (j : ℕ). length (places_text names constants l (k + 1)) ≤ length (places_text names constants l j)) e (places-grow names constants l (k + 1) (n - (k + 1)) (omega arith)) in
      omega (arith, x.wrote.behind, places-length names constants l k (omega arith))

  pub space-room : end + 1 ≤ length s₁
  space-room = omega (arith, next-room, x.same)

  module _ {s₂ : List ℕ} {q t : ℕ} (y : Wrote s₁ end (32 ∷ []) q s₂) (same : length s₂ ≡ length s₁) (e : t ≡ place_at l k) where
    pub term-room : q + length (term_text names constants t) ≤ length s₂
    term-room = rw e (omega (arith, next-room, x.same, y.behind))

    pub places-step : {s₃ : List ℕ} {r : ℕ} → Wrote s₂ q (term_text names constants t) r s₃ → length s₃ ≡ length s₂ → PlacesWritten s names constants l place n (k + 1) r s₃
    places-step {s₃} {r} z f =
        let w : Wrote s₂ q (term_text names constants (place_at l k)) r s₃ = subst (λ (u : ℕ). Wrote s₂ q (term_text names constants u) r s₃) e z in
        record {
          within = omega arith;
          wrote = rw (places-more names constants l k (omega arith))
              (wrote_then (omega (arith, next-room)) x.wrote (wrote_then (omega (arith, next-room, x.same, y.behind)) y w));
          same = f ∙ same ∙ x.same;
        }

pub places-done : {s names s₁ : List ℕ} {constants l place n k end : ℕ} → PlacesWritten s names constants l place n k end s₁ → n ≤ k
    → Wrote s place (places_text names constants l n) end s₁
places-done {s} {names} {s₁} {constants} {l} {place} {n} {k} {end} x h =
    let e : k ≡ n = omega (arith, x.within) in
    rw (← e) x.wrote

-- the word of a predicate

head-equal : (names : List ℕ) (predicates p : ℕ) → p ≡ equality → head_text names predicates p ≡ 40 ∷ 61 ∷ []
unfolding head_text
head-equal names predicates p e = rw (eq-eqb p equality e)

head-name : (names : List ℕ) (predicates p : ℕ) → (p ≡ equality → ⊥) → head_text names predicates p ≡ (40 ∷ []) ++ name_at names declared_at predicates (p - 1)
unfolding head_text
head-name names predicates p e = rw (ne_eqb p equality e)

head-within : (names : List ℕ) (predicates p : ℕ) → length (head_text names predicates p) ≤ 16
head-within names predicates p = go (flag (eqb p equality))
  where
    go : Flag (eqb p equality) → length (head_text names predicates p) ≤ 16
    go (is_true e) = rw (head-equal names predicates p (eqb-true p equality e)) (omega arith)
    go (is_false e) = rw (head-name names predicates p (eqb-false p equality e)) (omega (arith, name-within names declared_at predicates (p - 1)))

module _ (s names : List ℕ) (place predicates p : ℕ) where
  pub equal-room : p ≡ equality → place + length (head_text names predicates p) ≤ length s → place + 2 ≤ length s
  equal-room e h = omega (arith, ap length (head-equal names predicates p e))

  pub equal-wrote : {s' : List ℕ} {r : ℕ} → p ≡ equality → Wrote s place (40 ∷ 61 ∷ []) r s' → Wrote s place (head_text names predicates p) r s'
  equal-wrote e x = rw (head-equal names predicates p e) x

  module _ (e : p ≡ equality → ⊥) (h : place + length (head_text names predicates p) ≤ length s) where
    pub bracket-room : place + 1 ≤ length s
    bracket-room = omega (arith, ap length (head-name names predicates p e))

    pub head-room : {s₁ : List ℕ} {q : ℕ} → Wrote s place (40 ∷ []) q s₁ → length s₁ ≡ length s → q + length (name_at names declared_at predicates (p - 1)) ≤ length s₁
    head-room x g = omega (arith, ap length (head-name names predicates p e), x.behind)

    pub head-wrote : {s₁ s₂ : List ℕ} {q r : ℕ} → Wrote s place (40 ∷ []) q s₁ → Wrote s₁ q (name_at names declared_at predicates (p - 1)) r s₂
        → Wrote s place (head_text names predicates p) r s₂
    head-wrote x y =
        let f = head-name names predicates p e in
        rw f (wrote_then (omega (arith, ap length f, x.behind)) x y)

-- the atom of a label is its word, its places and a bracket

term-any : (names : List ℕ) (constants predicates t : ℕ) → term_tree (tables_at names constants predicates) t ≡ term_tree (tables_at names constants 0) t
unfolding term_tree tables_of
term-any names constants predicates t = refl

map-any : (names : List ℕ) (constants predicates : ℕ) (ts : List ℕ) → map (term_tree (tables_at names constants predicates)) ts ≡ map (term_tree (tables_at names constants 0)) ts
map-any names constants predicates [] = refl
map-any names constants predicates (t ∷ ts) = rw (map-any names constants predicates ts, term-any names constants predicates t)

equal-shape : (a b : List ℕ) → 40 ∷ 61 ∷ 32 ∷ (a ++ 32 ∷ (b ++ 41 ∷ [])) ≡ (40 ∷ 61 ∷ []) ++ ((32 ∷ (a ++ (32 ∷ (b ++ [])))) ++ (41 ∷ []))
equal-shape a b = simp (append_assoc, append-nil)

module _ (ar names : List ℕ) (constants predicates l : ℕ) where
  equality-text : eqb (predicate_of l) equality ≡ true → atom_bytes (atom_tree ar (tables_at names constants predicates) l)
      ≡ (40 ∷ 61 ∷ []) ++ (places_text names constants l 2 ++ (41 ∷ []))
  unfolding atom_tree places_text unpacked
  equality-text e =
      rw (e, term-any names constants predicates (place_at l 0), term-any names constants predicates (place_at l 1))
      (equal-shape (term_bytes (term_tree (tables_at names constants 0) (place_at l 0))) (term_bytes (term_tree (tables_at names constants 0) (place_at l 1))))

  fact-text : eqb (predicate_of l) equality ≡ false → atom_bytes (atom_tree ar (tables_at names constants predicates) l)
      ≡ ((40 ∷ []) ++ name_at names declared_at predicates (predicate_of l - 1)) ++ (places_text names constants l (get_or ar (predicate_of l) 0) ++ (41 ∷ []))
  unfolding atom_tree places_text name_at tables_of terms_of unpacked
  fact-text e = rw (e, map-any names constants predicates (terms_of ar (unpacked l)))

module _ (ar names : List ℕ) (constants predicates l : ℕ) (a : are_arities ar ≡ true) where
  pub atom-text : atom_bytes (atom_tree ar (tables_at names constants predicates) l)
      ≡ head_text names predicates (predicate_of l) ++ (places_text names constants l (get_or ar (predicate_of l) 0) ++ (41 ∷ []))
  atom-text = go (flag (eqb (predicate_of l) equality))
    where
      go : Flag (eqb (predicate_of l) equality) → atom_bytes (atom_tree ar (tables_at names constants predicates) l)
          ≡ head_text names predicates (predicate_of l) ++ (places_text names constants l (get_or ar (predicate_of l) 0) ++ (41 ∷ []))
      go (is_true e) =
          let z = eqb-true (predicate_of l) equality e in
          let n : get_or ar (predicate_of l) 0 ≡ 2 = ap (λ (p : ℕ). get_or ar p 0) z ∙ arity-two ar a in
          rw (head-equal names predicates (predicate_of l) z, n) (equality-text ar names constants predicates l e)
      go (is_false e) = rw (head-name names predicates (predicate_of l) (eqb-false (predicate_of l) equality e)) (fact-text ar names constants predicates l e)

  pub test-within : length (test_text ar names constants predicates l) ≤ test_bytes
  unfolding test_text
  test-within =
      let H : List ℕ = head_text names predicates (predicate_of l) in
      let P : List ℕ = places_text names constants l (get_or ar (predicate_of l) 0) in
      let m = arity-most ar (predicate_of l) a in
      omega (
        arith,
        length-append H (P ++ (41 ∷ 32 ∷ [])),
        length-append P (41 ∷ 32 ∷ []),
        head-within names predicates (predicate_of l),
        places-within names constants l (get_or ar (predicate_of l) 0) m,
      )

-- a test: (if, the word, the places, a bracket and a space

module _ (s ar names : List ℕ) (place constants predicates l : ℕ) (room : place + length (test_text ar names constants predicates l) ≤ length s) where
  abbrev H : List ℕ
  H = head_text names predicates (predicate_of l)

  abbrev P : List ℕ
  P = places_text names constants l (get_or ar (predicate_of l) 0)

  abbrev E : List ℕ
  E = 41 ∷ 32 ∷ []

  test-length : length (test_text ar names constants predicates l) ≡ 4 + (length H + (length P + 2))
  unfolding test_text
  test-length = omega (arith, length-append H (P ++ E), length-append P E)

  pub if-room : place + 4 ≤ length s
  if-room = omega (arith, test-length)

  module _ {s₁ : List ℕ} {i : ℕ} (x : Wrote s place (40 ∷ 105 ∷ 102 ∷ 32 ∷ []) i s₁) (e₁ : length s₁ ≡ length s) {p : ℕ} (d : p ≡ predicate_of l) where
    pub word_room : i + length (head_text names predicates p) ≤ length s₁
    word_room = rw d (omega (arith, test-length, x.behind))

    module _ {s₂ : List ℕ} {j : ℕ} (y : Wrote s₁ i (head_text names predicates p) j s₂) (e₂ : length s₂ ≡ length s₁) where
      y' : Wrote s₁ i H j s₂
      y' = subst (λ (z : ℕ). Wrote s₁ i (head_text names predicates z) j s₂) d y

      n-is : get_or ar p 0 ≡ get_or ar (predicate_of l) 0
      n-is = ap (λ (z : ℕ). get_or ar z 0) d

      pub places-room : j + length (places_text names constants l (get_or ar p 0)) ≤ length s₂
      places-room = rw d (omega (arith, test-length, x.behind, y'.behind))

      module _ {s₃ : List ℕ} {k : ℕ} (z : Wrote s₂ j (places_text names constants l (get_or ar p 0)) k s₃) (e₃ : length s₃ ≡ length s₂) where
        z' : Wrote s₂ j P k s₃
        z' = subst (λ (n : ℕ). Wrote s₂ j (places_text names constants l n) k s₃) n-is z

        pub end-room : k + 2 ≤ length s₃
        end-room = omega (arith, test-length, x.behind, y'.behind, z'.behind)

        pub test-wrote : {s₄ : List ℕ} {r : ℕ} → Wrote s₃ k (41 ∷ 32 ∷ []) r s₄ → Wrote s place (test_text ar names constants predicates l) r s₄
        unfolding test_text
        test-wrote w =
            let t = test-length in
            let c : i ≤ length s = omega (arith, x.behind) in
            let f : j ≤ length s₁ = omega (arith, x.behind, y'.behind) in
            let g : k ≤ length s₂ = omega (arith, x.behind, y'.behind, z'.behind) in
            wrote_then c x (wrote_then f y' (wrote_then g z' w))

-- a label's predicate has an arity, and the tables of names are within the words

pub predicate-there : (ar : List ℕ) (l : ℕ) {p : ℕ} → are_arities ar ≡ true → is_label ar l ≡ true → p ≡ predicate_of l → p < length ar
predicate-there ar l a h e = rw e (omega (arith, arity-words ar a, (label-fits ar l h).predicate-fits, predicate-of l))

pub constants-room : {names : List ℕ} {constants predicates : ℕ} → Named names constants predicates → 0 + constants * 2 ≤ length names
constants-room n = omega (arith, n.words, n.constants-few)

pub predicates-room : {names : List ℕ} {constants predicates : ℕ} → Named names constants predicates → declared_at + predicates * 2 ≤ length names
predicates-room n = omega (arith, n.words, n.predicates-few)
