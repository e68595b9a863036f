-- Laws of the table of representatives.
use mathlib.Core.Path.{◌≡◌, refl, sym, ap, subst, ◌∙◌}
use mathlib.Core.Bool.{Bool, true, false, cond, ◌&&◌}
use mathlib.Core.List.{List, [], ◌∷◌, Memᴰ}
use Prim.Native.Nat.{ℕ, suc, ◌+◌, ◌-◌, ◌/◌, ◌%◌, ◌≤◌, ◌<◌}
use native.Mathlib.Omega.{arith}
use lib.ListN.{length, get_or, set, drop, length-set}
use lib.Seq.{get_or-set_same, get_or-set_other, drop-cons, drop-length}
use lib.Dec.{eqb}
use borrow.Author.Tests.{eq-eqb, ne_eqb}
use Rattle.basics.specs.Tests.{Cmp, cmp, below, equal, above}
use Rattle.label.specs.Limits.{term_end, equality}
use Rattle.label.specs.Labels.{are_arities, predicate_of, unpacked, terms_of}
use Rattle.label.specs.Inner.{map_of}
use Rattle.label.proofs.ArityLaws.{arity-two}
use Rattle.label.specs.declared.Atom.{Atom}
use Rattle.paths.specs.Paths.{Literal}
use Rattle.paths.specs.Inner.{InRange, literal_at, literals_in}
use Rattle.paths.specs.PathLaws.{range-terms}
use Rattle.contradiction.specs.Contradiction.{Equates, joining, representative}
use Rattle.contradiction.proofs.JoinLaws.{literal-names, literal-stays, representative-more}
use Rattle.contradiction.proofs.AgreeLaws.{join-agree}
use Rattle.contradict.specs.Representing.{Own, Merged, Taken, Represented}

-- one representative in the place of another
pub exchanged-here : (x y z : ℕ) → x ≡ y → z ≡ cond (eqb x y) z x
exchanged-here x y z e = rw (eq-eqb x y e)

pub exchanged-other : (x y z : ℕ) → (x ≡ y → ⊥) → x ≡ cond (eqb x y) z x
exchanged-other x y z e = rw (ne_eqb x y e)

-- `separate`
pub own-start : (table : List ℕ) → Own table table 0
own-start table = record { kept = refl; within = omega arith; each = λ x h. absurd (omega arith) }

pub own-next : {table₀ table : List ℕ} {t : ℕ} → term_end ≤ length table₀ → Own table₀ table t → t < term_end → Own table₀ (set table t t) (t + 1)
own-next {table₀} {table} {t} room o h = record { kept = length-set table t t ∙ o.kept; within = omega arith; each = λ x b. at x b (cmp x t) }
  where
    at : (x : ℕ) → x < t + 1 → Cmp x t → get_or (set table t t) x 0 ≡ x
    at x b (below k) = get_or-set_other table t x t 0 (λ z. omega arith) ∙ o.each x k
    at x b (equal k) = rw (k, get_or-set_same table t t 0 (omega (arith, o.kept)))
    at x b (above k) = absurd (omega arith)

pub own-end : {table₀ table : List ℕ} {t : ℕ} → Own table₀ table t → term_end ≤ t → Own table₀ table term_end
own-end {table₀} {table} {t} o h = let e : t ≡ term_end = omega (arith, o.within) in subst (Own table₀ table) e o

-- `join`
pub merged-start : (table : List ℕ) (t u : ℕ) → Merged table t u table 0
merged-start table t u = record { kept = refl; within = omega arith; each = λ x h. absurd (omega arith); rest = λ x h. refl }

pub merged-next : {table₀ table : List ℕ} {t u x v : ℕ} → term_end ≤ length table₀ → Merged table₀ t u table x → x < term_end
    → v ≡ cond (eqb (get_or table x 0) (get_or table₀ t 0)) (get_or table₀ u 0) (get_or table x 0) → Merged table₀ t u (set table x v) (x + 1)
merged-next {table₀} {table} {t} {u} {x} {v} room m h e = record {
  kept = length-set table x v ∙ m.kept;
  within = omega arith;
  each = λ y b. at y b (cmp y x);
  rest = λ y b. get_or-set_other table x y v 0 (λ z. omega arith) ∙ m.rest y (omega arith);
}
  where
    is : v ≡ joining t u (map_of table₀) x
    is = unfold joining in (e ∙ ap (λ (y : ℕ). cond (eqb y (get_or table₀ t 0)) (get_or table₀ u 0) y) (m.rest x (omega arith)))

    at : (y : ℕ) → y < x + 1 → Cmp y x → get_or (set table x v) y 0 ≡ joining t u (map_of table₀) y
    at y b (below k) = get_or-set_other table x y v 0 (λ z. omega arith) ∙ m.each y k
    at y b (equal k) = rw (k, get_or-set_same table x v 0 (omega (arith, m.kept))) is
    at y b (above k) = absurd (omega arith)

pub merged-end : {table₀ table : List ℕ} {t u x : ℕ} → Merged table₀ t u table x → term_end ≤ x → Merged table₀ t u table term_end
merged-end {table₀} {table} {t} {u} {x} m h = let e : x ≡ term_end = omega (arith, m.within) in subst (Merged table₀ t u table) e m

-- `join_literal`
sign-even : (x : ℕ) → x % 2 ≡ 0 → (literal_at x).sign ≡ false
unfolding literal_at
sign-even x e = ap (λ (y : ℕ). eqb y 1) e

pub sign-odd : (x : ℕ) → (x % 2 ≡ 0 → ⊥) → (literal_at x).sign ≡ true
unfolding literal_at
sign-odd x e = eq-eqb (x % 2) 1 (omega arith)

pub label_at : (x : ℕ) → (literal_at x).label ≡ x / 2
unfolding literal_at
label_at x = refl

and-false : (b : Bool) → (b && false) ≡ false
and-false true = refl
and-false false = refl

pub taken-even : {x : ℕ} {table : List ℕ} → x % 2 ≡ 0 → Taken x table table
taken-even {x} {table} e = record {
  kept = refl;
  each = λ ar g t h. sym (literal-stays ar (literal_at x) (ap (λ (b : Bool). b && eqb (predicate_of (literal_at x).label) equality) (sign-even x e)) (map_of table) t);
}

-- the predicate and the places of a label's atom
atom-predicate : (l : ℕ) → (unpacked l).predicate ≡ predicate_of l
unfolding unpacked predicate_of
atom-predicate l = refl

pub first_below : {a : Atom} (l : ℕ) → InRange term_end l → a ≡ unpacked l → a.first < term_end
first_below l r e = subst (λ (b : Atom). b.first < term_end) (sym e) (unfold unpacked in (r.places 0 (omega arith)))

pub second_below : {a : Atom} (l : ℕ) → InRange term_end l → a ≡ unpacked l → a.second < term_end
second_below l r e = subst (λ (b : Atom). b.second < term_end) (sym e) (unfold unpacked in (r.places 1 (omega arith)))

two-terms : (ar : List ℕ) → are_arities ar ≡ true → (b : Atom) → b.predicate ≡ equality → terms_of ar b ≡ b.first ∷ b.second ∷ []
unfolding terms_of
two-terms ar g b z = let q : get_or ar b.predicate 0 ≡ 2 = ap (λ (p : ℕ). get_or ar p 0) z ∙ arity-two ar g in rw q

module _ (x : ℕ) {a : Atom} (e : a ≡ unpacked (x / 2)) where
  predicate-is : predicate_of (literal_at x).label ≡ a.predicate
  predicate-is = ap predicate_of (label_at x) ∙ sym (atom-predicate (x / 2)) ∙ sym (ap (λ (b : Atom). b.predicate) e)

  pub taken-other : {table : List ℕ} → (a.predicate ≡ equality → ⊥) → Taken x table table
  taken-other {table} n = record {
    kept = refl;
    each = λ ar g t h. sym (literal-stays ar (literal_at x)
        (ap (λ (b : Bool). (literal_at x).sign && b) (ne_eqb (predicate_of (literal_at x).label) equality (λ z. n (sym predicate-is ∙ z))) ∙ and-false (literal_at x).sign)
        (map_of table) t);
  }

  pub taken-equality : {table table' : List ℕ} → (x % 2 ≡ 0 → ⊥) → a.predicate ≡ equality → Merged table a.first a.second table' term_end → Taken x table table'
  taken-equality {table} n z m = record {
    kept = m.kept;
    each = λ ar g t h. m.each t h ∙ sym (literal-names ar (literal_at x) a.first a.second (sign-odd x n) (names ar g) (map_of table) t);
  }
    where
      names : (ar : List ℕ) → are_arities ar ≡ true → Equates ar (literal_at x) a.first a.second
      names ar g = record {
        equates = predicate-is ∙ z;
        terms = ap (λ (l : ℕ). terms_of ar (unpacked l)) (label_at x) ∙ ap (terms_of ar) (sym e) ∙ two-terms ar g a z;
      }

-- `join_all`
pub literals-drop : (xs : List ℕ) (j : ℕ) → j < length xs → literals_in (drop j xs) ≡ literal_at (get_or xs j 0) ∷ literals_in (drop (suc j) xs)
unfolding literals_in
literals-drop xs j h = ap literals_in (drop-cons xs j 0 h)

pub literals-none : (xs : List ℕ) (j : ℕ) → j ≡ length xs → literals_in (drop j xs) ≡ []
unfolding literals_in
literals-none xs j e = ap (λ (k : ℕ). literals_in (drop k xs)) e ∙ ap literals_in (drop-length xs)

representative-none : (ar : List ℕ) (t : ℕ) → representative ar [] t ≡ t
unfolding representative
representative-none ar t = refl

pub represented-start : {table₀ table : List ℕ} (xs : List ℕ) → Own table₀ table term_end → Represented xs (length xs) table
represented-start xs o = record {
  each = λ ar g t h. o.each t h ∙ sym (ap (λ (ls : List Literal). representative ar ls t) (literals-none xs (length xs) refl) ∙ representative-none ar t);
}

pub last-below : {n j : ℕ} → 0 < j → j ≤ n → j - 1 < n
last-below h k = omega arith

pub represented-next : {xs table table' : List ℕ} {j x : ℕ} → Represented xs j table → 0 < j → j ≤ length xs → x ≡ get_or xs (j - 1) 0 → InRange term_end (x / 2) → Taken x table table'
    → Represented xs (j - 1) table'
represented-next {xs} {table} {table'} {j} {x} r p q e range k = record { each = at }
  where
    small : (ar : List ℕ) (u : ℕ) → Memᴰ u (terms_of ar (unpacked (literal_at x).label)) → u < term_end
    small ar u m = range-terms term_end ar (x / 2) range u (subst (λ (l : ℕ). Memᴰ u (terms_of ar (unpacked l))) (label_at x) m)

    at : (ar : List ℕ) → are_arities ar ≡ true → (t : ℕ) → t < term_end → get_or table' t 0 ≡ representative ar (literals_in (drop (j - 1) xs)) t
    at ar g t h =
        let i : suc (j - 1) ≡ j = omega arith in
        k.each ar g t h
        ∙ join-agree term_end (map_of table) (representative ar (literals_in (drop j xs))) (λ u b. r.each ar g u b) ar (literal_at x) (small ar) t h
        ∙ sym (ap (λ (ls : List Literal). representative ar ls t) (literals-drop xs (j - 1) (omega arith)
        ∙ ap (λ (n : ℕ). literal_at (get_or xs (j - 1) 0) ∷ literals_in (drop n xs)) i ∙ ap (λ (y : ℕ). literal_at y ∷ literals_in (drop j xs)) (sym e))
        ∙ representative-more ar (literal_at x) (literals_in (drop j xs)) t)

pub represented-all : {xs table : List ℕ} {j : ℕ} → Represented xs j table → j ≤ 0 → Represented xs 0 table
represented-all {xs} {table} {j} r h = let e : j ≡ 0 = omega arith in subst (λ (k : ℕ). Represented xs k table) e r
