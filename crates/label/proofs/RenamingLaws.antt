-- Laws of renamed labels: a map that keeps the order of terms keeps labels normal and in order. Closing up, moving apart and freeing are such maps.
use Rattle.std.specs.Prelude.{◌≡◌, ◌⊎◌, not, ◌||◌, length, take, eqb}
use Rattle.std.proofs.Math.Path.{refl, ap, subst}
use Rattle.std.proofs.Common.{sym, ap₂, ◌∙◌, inl, inr, arith}
use Rattle.std.proofs.Math.Bool.{true, cond}
use mathlib.Core.List.{List, [], ◌∷◌, map}
use Prim.Native.Nat.{ℕ, zero, suc, ◌+◌, ◌-◌, ◌≤◌, ◌<◌}
use Rattle.std.proofs.Math.ListN.{get_or}
use Rattle.std.proofs.Math.Dec.{ltb}
use borrow.Author.Tests.{ltb-true, ltb-false, eqb-true, lt-ltb, le-ltb, eq-eqb, ne_eqb}
use Rattle.basics.specs.Tests.{Flag, is_true, is_false, flag, Cmp, below, equal, above, cmp}
use Rattle.basics.specs.Members.{mem, clash}
use Rattle.label.specs.Limits.{first_parameter, parameter_count, first_variable, first_minimum, minimum_count, term_end, equality_arity, most_places}
use Rattle.label.specs.Terms.{is_term}
use Rattle.label.specs.Labels.{are_arities, places_of, place_in, predicate_of, unpacked, place_fits, in_order, is_atom, is_label, terms_of, equal_atom, equates, test_of, label_of}
use Rattle.label.specs.Inner.{Increasing, Numbered, Freed}
use Rattle.label.specs.Renamings.{placed, mapped, moved, renamed, rank, numbering, freeing, EachTerm, EachIn}
use Rattle.label.proofs.LabelLaws.{term-high, each-place, atom-same, Fitting, PlacesFit, atom-fits, fits-atom, atom-places, label-fits, label-packed, unpacked-packed, unused-zero, used-term}
use Rattle.label.proofs.ArityLaws.{arity-two}
use Rattle.label.specs.Order.{term_before, places_before, atom_before, label_before}
use Rattle.label.proofs.OrderLaws.{Fits, places-fit, term-numbers, order-numbers}
use Rattle.label.specs.declared.Atom.{Atom}
use Rattle.label.specs.declared.Test.TheVariants.{Is}

pub placed-used : (ρ : ℕ → ℕ) (n k t : ℕ) → k < n → placed ρ n k t ≡ ρ t
unfolding placed
placed-used ρ n k t h = rw (lt-ltb k n h)

pub placed-unused : (ρ : ℕ → ℕ) (n k t : ℕ) → n ≤ k → placed ρ n k t ≡ 0
unfolding placed
placed-unused ρ n k t h = rw (le-ltb k n h)

-- the places of a mapped atom
pub mapped-place : (ρ : ℕ → ℕ) (n : ℕ) (a : Atom) (k : ℕ) → k < most_places → place_in (mapped ρ n a) k ≡ placed ρ n k (place_in a k)
unfolding mapped
mapped-place ρ n a k h = each-place (λ j. place_in (mapped ρ n a) j ≡ placed ρ n j (place_in a j)) refl refl refl refl refl refl k h

-- a list whose places from k on are replaced
abbrev placed_from : (ℕ → ℕ) → ℕ → ℕ → List ℕ → List ℕ
placed_from ρ n k [] = []
placed_from ρ n k (t ∷ ts) = placed ρ n k t ∷ placed_from ρ n (suc k) ts

used-terms : (ρ : ℕ → ℕ) (n k m : ℕ) → m ≡ n - k → (ts : List ℕ) → take m (placed_from ρ n k ts) ≡ map ρ (take m ts)
used-terms ρ n k zero e ts = refl
used-terms ρ n k (suc m) e [] = refl
used-terms ρ n k (suc m) e (t ∷ ts) = ap₂ ◌∷◌ (placed-used ρ n k t (omega arith)) (used-terms ρ n (suc k) m (omega arith) ts)

pub mapped-terms : (ρ : ℕ → ℕ) (n : ℕ) (a : Atom) → take n (places_of (mapped ρ n a)) ≡ map ρ (take n (places_of a))
unfolding mapped
mapped-terms ρ n a = used-terms ρ n 0 n (omega arith) (places_of a)

-- an atom in order asks its own label
in-order-test : (ar : List ℕ) → get_or ar 0 0 ≡ equality_arity → (a : Atom) → Fitting ar a → test_of a ≡ label_of a
unfolding test_of equates in_order
in-order-test ar two a f = go (flag (eqb a.predicate 0))
  where
    go : Flag (eqb a.predicate 0) → test_of a ≡ label_of a
    go (is_true q) =
        let z : a.predicate ≡ 0 = eqb-true _ _ q in
        let n : get_or ar a.predicate 0 ≡ equality_arity = rw z two in
        let unused : (k : ℕ) → k < most_places → equality_arity ≤ k → place_in a k ≡ 0 = λ k h i. unused-zero _ k (place_in a k) (omega arith) (f.places-fit.fits k h) in
        let o = f.ordered in
        let k : ltb a.first a.second ≡ true = rw q at o in
        let h = ltb-true a.first a.second k in
        let same : a ≡ equal_atom a.first a.second =
        atom-same a (equal_atom a.first a.second) z (each-place (λ j. place_in a j ≡ place_in (equal_atom a.first a.second) j) refl refl
        (unused 2 (omega arith) (omega arith)) (unused 3 (omega arith) (omega arith)) (unused 4 (omega arith) (omega arith)) (unused 5 (omega arith) (omega arith))) in
        rw (q, ne_eqb a.first a.second (omega arith), lt-ltb a.first a.second h) (ap label_of (sym same))
    go (is_false q) = rw q

module _ (P : ℕ → Type 0) (ρ : ℕ → ℕ) (inc : Increasing P ρ) where
  -- a place stays one
  place-maps : (n k t : ℕ) → (k < n → P t) → place_fits n k (placed ρ n k t) ≡ true
  unfolding place_fits
  place-maps n k t p = go (cmp k n)
    where
      go : Cmp k n → cond (ltb k n) (is_term (placed ρ n k t)) (eqb (placed ρ n k t) 0) ≡ true
      go (below q) = rw (lt-ltb k n q, placed-used ρ n k t q) (inc.terms t (p q))
      go (equal q) = rw (le-ltb k n (omega arith), placed-unused ρ n k t (omega arith))
      go (above q) = rw (le-ltb k n (omega arith), placed-unused ρ n k t (omega arith))

  -- P names the terms in the used places from place k on
  abbrev Known : ℕ → ℕ → List ℕ → Type 0
  Known n k [] = Unit {0}
  Known n k (t ∷ ts) = (k < n → P t) × Known n (suc k) ts

  -- and the first difference of two atoms stays where it is
  places-before : (n k m : ℕ) → m ≡ n - k → (ts us : List ℕ) → Fits n k ts → Fits n k us → Known n k ts → Known n k us
      → places_before (take m ts) (take m us) ≡ true → places_before (map ρ (take m ts)) (map ρ (take m us)) ≡ true
  unfolding places_before
  places-before n k zero z ts us f g p q e = clash e refl
  places-before n k (suc m) z [] us f g p q e = clash e refl
  places-before n k (suc m) z (t ∷ ts) [] f g p q e = clash e refl
  places-before n k (suc m) z (t ∷ ts) (u ∷ us) f g p q e = go (cmp t u) (places-before n (suc k) m (omega arith) ts us f.1 g.1 p.1 q.1)
    where
      pt : P t
      pt = p.0 (omega arith)

      pu : P u
      pu = q.0 (omega arith)

      go : Cmp t u → (places_before (take m ts) (take m us) ≡ true → places_before (map ρ (take m ts)) (map ρ (take m us)) ≡ true)
          → cond (eqb (ρ t) (ρ u)) (places_before (map ρ (take m ts)) (map ρ (take m us))) (term_before (ρ t) (ρ u)) ≡ true
      go (below h) ih =
          let l = inc.order t u pt pu h in
          rw (ne_eqb (ρ t) (ρ u) (omega arith), term-numbers (ρ t) (ρ u) (inc.terms t pt) (inc.terms u pu)) (lt-ltb (ρ t) (ρ u) l)
      go (equal h) ih = rw (eq-eqb (ρ t) (ρ u) (ap ρ h)) (ih (rw (eq-eqb t u h) at e))
      go (above h) ih =
          let d : term_before t u ≡ true = rw (ne_eqb t u (omega arith)) at e in
          clash d (term-numbers t u (used-term n k t (omega arith) f.0) (used-term n k u (omega arith) g.0) ∙ le-ltb t u (omega arith))

  known : {n : ℕ} {a : Atom} → EachTerm P n a → Known n 0 (places_of a)
  known p = (
    λ h. p.on 0 h (omega arith),
    (
      λ h. p.on 1 h (omega arith),
      (λ h. p.on 2 h (omega arith), (λ h. p.on 3 h (omega arith), (λ h. p.on 4 h (omega arith), (λ h. p.on 5 h (omega arith), tt)))),
    ),
  )

  mapped-before : (ar : List ℕ) (a b : Atom) → Fitting ar a → Fitting ar b → EachTerm P (get_or ar a.predicate 0) a → EachTerm P (get_or ar b.predicate 0) b
      → atom_before ar a b ≡ true → atom_before ar (mapped ρ (get_or ar a.predicate 0) a) (mapped ρ (get_or ar b.predicate 0) b) ≡ true
  unfolding atom_before terms_of mapped
  mapped-before ar a b fa fb pa pb e = go (cmp a.predicate b.predicate)
    where
      same : (n : ℕ) → PlacesFit n a → PlacesFit n b → EachTerm P n a → EachTerm P n b → places_before (take n (places_of a)) (take n (places_of b)) ≡ true
          → places_before (take n (places_of (mapped ρ n a))) (take n (places_of (mapped ρ n b))) ≡ true
      same n f g p q d =
          rw (mapped-terms ρ n a, mapped-terms ρ n b)
          (places-before n 0 n (omega arith) (places_of a) (places_of b) (places-fit f) (places-fit g) (known p) (known q) d)

      go : Cmp a.predicate b.predicate → atom_before ar (mapped ρ (get_or ar a.predicate 0) a) (mapped ρ (get_or ar b.predicate 0) b) ≡ true
      go (below h) = rw (ne_eqb a.predicate b.predicate (omega arith)) (lt-ltb a.predicate b.predicate h)
      go (equal h) =
          let n : get_or ar b.predicate 0 ≡ get_or ar a.predicate 0 = ap (λ (p : ℕ). get_or ar p 0) (sym h) in
          rw (eq-eqb a.predicate b.predicate h, n)
          (same (get_or ar a.predicate 0) fa.places-fit (subst (λ (m : ℕ). PlacesFit m b) n fb.places-fit) pa (subst (λ (m : ℕ). EachTerm P m b) n pb)
          (rw (eq-eqb a.predicate b.predicate h, n) at e))
      go (above h) =
          let d : ltb a.predicate b.predicate ≡ true = rw (ne_eqb a.predicate b.predicate (omega arith)) at e in
          clash d (le-ltb a.predicate b.predicate (omega arith))

  -- an equality keeps its smaller term first
  mapped-order : (n : ℕ) (a : Atom) → (a.predicate ≡ 0 → n ≡ equality_arity) → EachTerm P n a → in_order a ≡ true → in_order (mapped ρ n a) ≡ true
  unfolding mapped in_order
  mapped-order n a two p o = go (flag (eqb a.predicate 0))
    where
      go : Flag (eqb a.predicate 0) → (not (eqb a.predicate 0) || ltb (placed ρ n 0 a.first) (placed ρ n 1 a.second)) ≡ true
      go (is_true q) =
          let e = two (eqb-true _ _ q) in
          let h : ltb a.first a.second ≡ true = rw q at o in
          rw (q, placed-used ρ n 0 a.first (omega arith), placed-used ρ n 1 a.second (omega arith))
          (lt-ltb _ _ (inc.order _ _ (p.on 0 (omega arith) (omega arith)) (p.on 1 (omega arith) (omega arith)) (ltb-true _ _ h)))
      go (is_false q) = rw q

  module _ (ar : List ℕ) (good : are_arities ar ≡ true) where
    two-places : (a : Atom) → a.predicate ≡ 0 → get_or ar a.predicate 0 ≡ equality_arity
    two-places a e = rw e (arity-two ar good)

    -- atoms stay atoms
    mapped-atom : (a : Atom) → is_atom ar a ≡ true → EachTerm P (get_or ar a.predicate 0) a → is_atom ar (mapped ρ (get_or ar a.predicate 0) a) ≡ true
    unfolding mapped
    mapped-atom a e p =
        let n = get_or ar a.predicate 0 in
        let f = atom-fits ar a e in
        fits-atom ar _ (record {
          predicate-fits = f.predicate-fits;
          places-fit = record {
            fits = λ k h. subst (λ (t : ℕ). place_fits n k t ≡ true) (sym (mapped-place ρ n a k h)) (place-maps n k (place_in a k) (λ i. p.on k i h));
          };
          ordered = mapped-order n a (two-places a) p f.ordered;
        })

    label-atom : (l : ℕ) → is_label ar l ≡ true → EachIn ar P l → is_atom ar (mapped ρ (get_or ar (predicate_of l) 0) (unpacked l)) ≡ true
    unfolding is_label unpacked predicate_of
    label-atom l e p = mapped-atom (unpacked l) e p

    -- the renamed label's atom
    pub renamed-atom : (l : ℕ) → is_label ar l ≡ true → EachIn ar P l → unpacked (renamed ar ρ l) ≡ mapped ρ (get_or ar (predicate_of l) 0) (unpacked l)
    unfolding renamed
    renamed-atom l e p = unpacked-packed _ (atom-places ar _ (label-atom l e p))

    -- labels stay labels
    pub renamed-label : (l : ℕ) → is_label ar l ≡ true → EachIn ar P l → is_label ar (renamed ar ρ l) ≡ true
    unfolding renamed
    renamed-label l e p = let a = label-atom l e p in label-packed ar _ (atom-places ar _ a) ∙ a

    -- nothing is turned round
    pub moved-renamed : (l : ℕ) → is_label ar l ≡ true → EachIn ar P l → moved ar ρ l ≡ Is (record { packed = renamed ar ρ l })
    unfolding moved renamed
    moved-renamed l e p = in-order-test ar (arity-two ar good) _ (atom-fits ar _ (label-atom l e p))

    labels-before : (l k : ℕ) → Fitting ar (unpacked l) → Fitting ar (unpacked k) → EachIn ar P l → EachIn ar P k → label_before ar l k ≡ true
        → atom_before ar (mapped ρ (get_or ar (predicate_of l) 0) (unpacked l)) (mapped ρ (get_or ar (predicate_of k) 0) (unpacked k)) ≡ true
    unfolding unpacked predicate_of
    labels-before l k fl fk pl pk e = mapped-before ar (unpacked l) (unpacked k) fl fk pl pk e

    -- labels keep their order
    pub renamed-less : (l k : ℕ) → is_label ar l ≡ true → is_label ar k ≡ true → EachIn ar P l → EachIn ar P k → l < k → renamed ar ρ l < renamed ar ρ k
    renamed-less l k el ek pl pk h =
        let b : label_before ar l k ≡ true = order-numbers ar l k el ek ∙ lt-ltb l k h in
        ltb-true _ _ (sym (order-numbers ar _ _ (renamed-label l el pl) (renamed-label k ek pk))
        ∙ ap₂ (atom_before ar) (renamed-atom l el pl) (renamed-atom k ek pk)
        ∙ labels-before l k (label-fits ar l el) (label-fits ar k ek) pl pk b)

    -- the terms are those that ρ gives
    pub renamed-terms : (l : ℕ) → is_label ar l ≡ true → EachIn ar P l → terms_of ar (unpacked (renamed ar ρ l)) ≡ map ρ (terms_of ar (unpacked l))
    unfolding terms_of mapped unpacked predicate_of
    renamed-terms l e p = ap (terms_of ar) (renamed-atom l e p) ∙ mapped-terms ρ (get_or ar (predicate_of l) 0) (unpacked l)

pub rank_mono : (vs : List ℕ) (t u : ℕ) → t ≤ u → rank vs t ≤ rank vs u
rank_mono [] t u h = omega arith
rank_mono (v ∷ vs) t u h = go (flag (ltb v t)) (flag (ltb v u)) (rank_mono vs t u h)
  where
    go : Flag (ltb v t) → Flag (ltb v u) → rank vs t ≤ rank vs u → cond (ltb v t) 1 0 + rank vs t ≤ cond (ltb v u) 1 0 + rank vs u
    go (is_true p) (is_true q) ih = rw (p, q) (omega arith)
    go (is_true p) (is_false q) ih = absurd (omega (arith, ltb-true v t p, ltb-false v u q))
    go (is_false p) (is_true q) ih = rw (p, q) (omega arith)
    go (is_false p) (is_false q) ih = rw (p, q) (omega arith)

pub rank_less : (vs : List ℕ) (t u : ℕ) → mem eqb t vs ≡ true → t < u → rank vs t < rank vs u
rank_less [] t u e h = clash e refl
rank_less (v ∷ vs) t u e h = go (flag (eqb t v)) (flag (ltb v t)) (flag (ltb v u)) (rank_less vs t u)
  where
    go : Flag (eqb t v) → Flag (ltb v t) → Flag (ltb v u) → (mem eqb t vs ≡ true → t < u → rank vs t < rank vs u)
        → cond (ltb v t) 1 0 + rank vs t < cond (ltb v u) 1 0 + rank vs u
    go (is_true x) p q ih =
        let z = eqb-true t v x in
        rw (le-ltb v t (omega arith), lt-ltb v u (omega arith)) (omega (arith, rank_mono vs t u (omega arith)))
    go (is_false x) (is_true p) (is_true q) ih = let m : mem eqb t vs ≡ true = rw x at e in rw (p, q) (omega (arith, ih m h))
    go (is_false x) (is_true p) (is_false q) ih = absurd (omega (arith, ltb-true v t p, ltb-false v u q))
    go (is_false x) (is_false p) (is_true q) ih = let m : mem eqb t vs ≡ true = rw x at e in rw (p, q) (omega (arith, ih m h))
    go (is_false x) (is_false p) (is_false q) ih = let m : mem eqb t vs ≡ true = rw x at e in rw (p, q) (omega (arith, ih m h))

pub rank-le : (vs : List ℕ) (t : ℕ) → rank vs t ≤ length vs
rank-le [] t = omega arith
rank-le (v ∷ vs) t = go (flag (ltb v t)) (rank-le vs t)
  where
    go : Flag (ltb v t) → rank vs t ≤ length vs → cond (ltb v t) 1 0 + rank vs t ≤ suc (length vs)
    go (is_true p) ih = rw p (omega arith)
    go (is_false p) ih = rw p (omega arith)

pub rank_below : (vs : List ℕ) (t : ℕ) → mem eqb t vs ≡ true → rank vs t < length vs
rank_below vs t e = omega (arith, rank_less vs t (suc t) e (omega arith), rank-le vs (suc t))

module _ (us vs : List ℕ) (m n t : ℕ) where
  pub numbering-low : t < first_variable → numbering us vs m n t ≡ t
  unfolding numbering
  numbering-low h = rw (lt-ltb t first_variable h)

  pub numbering-variable : first_variable ≤ t → t < first_minimum → numbering us vs m n t ≡ m + rank us t
  unfolding numbering
  numbering-variable h k = rw (le-ltb t first_variable h, lt-ltb t first_minimum k)

  pub numbering-minimum : first_minimum ≤ t → numbering us vs m n t ≡ n + rank vs t
  unfolding numbering
  numbering-minimum h = rw (le-ltb t first_variable (omega arith), le-ltb t first_minimum h)

variable-term : (t : ℕ) → first_variable ≤ t → t < term_end → is_term t ≡ true
variable-term t h k = sym (term-high h) ∙ lt-ltb t (first_minimum + minimum_count) (omega arith)

-- the place of a term that is numbered
data Numbers (us vs : List ℕ) (m n t : ℕ) : Type 0 where
  fixed : t < first_variable → numbering us vs m n t ≡ t → Numbers us vs m n t
  variable : first_variable ≤ t → t < first_minimum → mem eqb t us ≡ true → numbering us vs m n t ≡ m + rank us t → Numbers us vs m n t
  minimum : first_minimum ≤ t → mem eqb t vs ≡ true → numbering us vs m n t ≡ n + rank vs t → Numbers us vs m n t

-- each kind, renamed from its number on, fits below the end of the kind: the map keeps the order of the constants, the parameters, us and vs
pub numbering-increasing : (us vs : List ℕ) (m n : ℕ) → first_variable ≤ m → m + length us ≤ first_minimum → first_minimum ≤ n → n + length vs ≤ term_end
    → Increasing (Numbered us vs) (numbering us vs m n)
numbering-increasing us vs m n h room j space = record { terms = term; order = less }
  where
    numbers : (t : ℕ) → Numbered us vs t → Numbers us vs m n t
    numbers t p = go p.1 (cmp t first_variable)
      where
        go : (t < first_variable) ⊎ (((t < first_minimum) × (mem eqb t us ≡ true)) ⊎ ((first_minimum ≤ t) × (mem eqb t vs ≡ true))) → Cmp t first_variable → Numbers us vs m n t
        go (inl x) q = fixed x (numbering-low us vs m n t x)
        go (inr (inl x)) (below q) = fixed q (numbering-low us vs m n t q)
        go (inr (inl x)) (equal q) = variable (omega arith) x.0 x.1 (numbering-variable us vs m n t (omega arith) x.0)
        go (inr (inl x)) (above q) = variable (omega arith) x.0 x.1 (numbering-variable us vs m n t (omega arith) x.0)
        go (inr (inr x)) q = minimum x.0 x.1 (numbering-minimum us vs m n t x.0)

    term : (t : ℕ) → Numbered us vs t → is_term (numbering us vs m n t) ≡ true
    term t p = go (numbers t p)
      where
        go : Numbers us vs m n t → is_term (numbering us vs m n t) ≡ true
        go (fixed k e) = rw e p.0
        go (variable k l i e) = variable-term (numbering us vs m n t) (omega arith) (omega (arith, rank_below us t i))
        go (minimum k i e) = variable-term (numbering us vs m n t) (omega arith) (omega (arith, rank_below vs t i))

    less : (t u : ℕ) → Numbered us vs t → Numbered us vs u → t < u → numbering us vs m n t < numbering us vs m n u
    less t u p q l = go (numbers t p) (numbers u q)
      where
        go : Numbers us vs m n t → Numbers us vs m n u → numbering us vs m n t < numbering us vs m n u
        go (fixed k e) (fixed k' e') = omega arith
        go (fixed k e) (variable k' l' i' e') = omega arith
        go (fixed k e) (minimum k' i' e') = omega arith
        go (variable k g i e) (fixed k' e') = absurd (omega arith)
        go (variable k g i e) (variable k' g' i' e') = omega (arith, rank_less us t u i l)
        go (variable k g i e) (minimum k' i' e') = omega (arith, rank_below us t i)
        go (minimum k i e) (fixed k' e') = absurd (omega arith)
        go (minimum k i e) (variable k' g' i' e') = absurd (omega arith)
        go (minimum k i e) (minimum k' i' e') = omega (arith, rank_less vs t u i l)

pub freeing-constant : (c t : ℕ) → t < first_parameter → freeing c t ≡ t
unfolding freeing
freeing-constant c t h = rw (lt-ltb t first_parameter h)

pub freeing-parameter : (c t : ℕ) → first_parameter ≤ t → t < first_parameter + c → freeing c t ≡ t + (first_variable - first_parameter)
unfolding freeing
freeing-parameter c t h k = rw (le-ltb t first_parameter h, lt-ltb t (first_parameter + c) k)

pub freeing-variable : (c t : ℕ) → first_parameter + c ≤ first_variable → first_variable ≤ t → t < first_minimum → freeing c t ≡ t + c
unfolding freeing
freeing-variable c t m h k =
    rw (le-ltb t first_parameter (omega arith), le-ltb t (first_parameter + c) (omega arith), le-ltb t first_variable h, lt-ltb t first_minimum k)

pub freeing-minimum : (c t : ℕ) → first_parameter + c ≤ first_variable → first_minimum ≤ t → freeing c t ≡ t
unfolding freeing
freeing-minimum c t m h =
    rw (le-ltb t first_parameter (omega arith), le-ltb t (first_parameter + c) (omega arith), le-ltb t first_variable (omega arith), le-ltb t first_minimum h)

-- where freeing puts a term
data Image (c t : ℕ) : Type 0 where
  constant : t < first_parameter → freeing c t ≡ t → Image c t
  parameter : first_parameter ≤ t → t < first_parameter + c → freeing c t ≡ t + (first_variable - first_parameter) → Image c t
  variable : first_variable ≤ t → t + c < first_minimum → freeing c t ≡ t + c → Image c t
  minimum : first_minimum ≤ t → freeing c t ≡ t → Image c t

-- the parameters turn into variables, which the others follow
pub freeing-increasing : (c : ℕ) → c ≤ parameter_count → Increasing (Freed c) (freeing c)
freeing-increasing c m = record { terms = term; order = less }
  where
    image : (t : ℕ) → Freed c t → Image c t
    image t p = go p.1 (cmp t first_parameter) (cmp t first_minimum)
      where
        go : (t < first_parameter + c) ⊎ ((first_variable ≤ t) × (t < first_minimum → t + c < first_minimum)) → Cmp t first_parameter → Cmp t first_minimum → Image c t
        go (inl h) (below k) l = constant k (freeing-constant c t k)
        go (inl h) (equal k) l = parameter (omega arith) h (freeing-parameter c t (omega arith) h)
        go (inl h) (above k) l = parameter (omega arith) h (freeing-parameter c t (omega arith) h)
        go (inr h) k (below l) = variable h.0 (h.1 l) (freeing-variable c t (omega arith) h.0 l)
        go (inr h) k (equal l) = minimum (omega arith) (freeing-minimum c t (omega arith) (omega arith))
        go (inr h) k (above l) = minimum (omega arith) (freeing-minimum c t (omega arith) (omega arith))

    term : (t : ℕ) → Freed c t → is_term (freeing c t) ≡ true
    term t p = go (image t p)
      where
        go : Image c t → is_term (freeing c t) ≡ true
        go (constant k e) = rw e p.0
        go (parameter j k e) = variable-term (freeing c t) (omega arith) (omega arith)
        go (variable j k e) = variable-term (freeing c t) (omega arith) (omega arith)
        go (minimum k e) = rw e p.0

    less : (t u : ℕ) → Freed c t → Freed c u → t < u → freeing c t < freeing c u
    less t u p q h = go (image t p) (image u q)
      where
        go : Image c t → Image c u → freeing c t < freeing c u
        go (constant k e) (constant k' e') = omega arith
        go (constant k e) (parameter j' k' e') = omega arith
        go (constant k e) (variable j' k' e') = omega arith
        go (constant k e) (minimum k' e') = omega arith
        go (parameter j k e) (constant k' e') = absurd (omega arith)
        go (parameter j k e) (parameter j' k' e') = omega arith
        go (parameter j k e) (variable j' k' e') = omega arith
        go (parameter j k e) (minimum k' e') = omega arith
        go (variable j k e) (constant k' e') = absurd (omega arith)
        go (variable j k e) (parameter j' k' e') = absurd (omega arith)
        go (variable j k e) (variable j' k' e') = omega arith
        go (variable j k e) (minimum k' e') = omega arith
        go (minimum k e) (constant k' e') = absurd (omega arith)
        go (minimum k e) (parameter j' k' e') = absurd (omega arith)
        go (minimum k e) (variable j' k' e') = absurd (omega arith)
        go (minimum k e) (minimum k' e') = omega arith
