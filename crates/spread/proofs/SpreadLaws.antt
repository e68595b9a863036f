-- Laws of the spread: the values ascend, each number is the count of its states, and the numbers add up to all states.
use Rattle.std.specs.Prelude.{◌≡◌, refl, Bool, true, false, ◌||◌, cond, List, [], ◌∷◌, map, ℕ, zero, suc, ◌+◌, ◌<◌, eqb, ltb}
use Rattle.std.proofs.Common.{sym, ◌∙◌, arith, eqb-true, eq-eqb, ne_eqb}
use Rattle.std.proofs.lemmas.Bool.{eqb-false}
use Rattle.basics.specs.Tests.{Flag, is_true, is_false, flag}
use Rattle.basics.specs.Members.{mem, clash}
use Rattle.rename.specs.Ascending.{Ascending}
use Rattle.rename.specs.AscendingLaws.{ascending-not}
use Rattle.state.specs.Max.{sum_of}
use Rattle.state.specs.Highest.{insert}
use Rattle.state.specs.Lent.{some_below}
use Rattle.elimination.proofs.NameLaws.{mem-insert, insert-ascending, insert-old}
use Rattle.spread.specs.Spread.{Entry, values, count_of, entries}

pub eqb_swap : (a b : ℕ) → eqb a b ≡ eqb b a
eqb_swap a b = go (flag (eqb a b))
  where
    go : Flag (eqb a b) → eqb a b ≡ eqb b a
    go (is_true e) = e ∙ sym (eq-eqb b a (sym (eqb-true a b e)))
    go (is_false e) = e ∙ sym (ne_eqb b a (λ q. eqb-false a b e (sym q)))

pub or_turn : (a b : Bool) → (a || b) ≡ (b || a)
or_turn true true = refl
or_turn true false = refl
or_turn false true = refl
or_turn false false = refl

-- ===== The values =====

-- each once, lowest first
pub values-ascend : (m : ℕ) (f : ℕ → ℕ) → Ascending 0 (values m f)
unfolding values
values-ascend zero f = tt
values-ascend (suc m) f = insert-ascending 0 (f m) (values m f) (omega arith) (values-ascend m f)

-- those that occur
pub values-occur : (m : ℕ) (f : ℕ → ℕ) (v : ℕ) → mem eqb v (values m f) ≡ some_below m (λ c. eqb (f c) v)
unfolding values
values-occur zero f v = refl
values-occur (suc m) f v = mem-insert v (f m) (values m f) ∙ rw (values-occur m f v, eqb_swap v (f m)) (or_turn (eqb (f m) v) (some_below m (λ c. eqb (f c) v)))

pub count_none : (m : ℕ) (f : ℕ → ℕ) (v : ℕ) → some_below m (λ c. eqb (f c) v) ≡ false → count_of m f v ≡ 0
unfolding count_of
count_none zero f v e = refl
count_none (suc m) f v e = go (flag (some_below m (λ c. eqb (f c) v))) (flag (eqb (f m) v)) (count_none m f v)
  where
    go : Flag (some_below m (λ c. eqb (f c) v)) → Flag (eqb (f m) v) → (some_below m (λ c. eqb (f c) v) ≡ false → count_of m f v ≡ 0)
        → count_of m f v + cond (eqb (f m) v) 1 0 ≡ 0
    go (is_true d) b ih = clash (rw d) e
    go (is_false d) (is_true b) ih = clash b (rw d at e)
    go (is_false d) (is_false b) ih = rw (ih d, b)

-- a value that occurs has a state
pub count-some : (m : ℕ) (f : ℕ → ℕ) (v : ℕ) → some_below m (λ c. eqb (f c) v) ≡ true → 0 < count_of m f v
unfolding count_of
count-some zero f v e = clash e refl
count-some (suc m) f v e = go (flag (some_below m (λ c. eqb (f c) v))) (flag (eqb (f m) v)) (count-some m f v)
  where
    go : Flag (some_below m (λ c. eqb (f c) v)) → Flag (eqb (f m) v) → (some_below m (λ c. eqb (f c) v) ≡ true → 0 < count_of m f v)
        → 0 < count_of m f v + cond (eqb (f m) v) 1 0
    go (is_true d) b ih = let h = ih d in omega arith
    go (is_false d) (is_true b) ih = rw b (omega arith)
    go (is_false d) (is_false b) ih = clash e (rw (d, b))

-- ===== Sums =====
sum_both : (vs : List ℕ) (g h : ℕ → ℕ) → sum_of vs (λ v. g v + h v) ≡ sum_of vs g + sum_of vs h
unfolding sum_of
sum_both [] g h = refl
sum_both (v ∷ vs) g h = let e = sum_both vs g h in omega arith

sum-new : (x : ℕ) (vs : List ℕ) (g : ℕ → ℕ) → mem eqb x vs ≡ false → sum_of (insert x vs) g ≡ g x + sum_of vs g
unfolding insert sum_of
sum-new x [] g e = refl
sum-new x (v ∷ vs) g e = go (flag (ltb x v)) (flag (eqb x v)) (sum-new x vs g)
  where
    go : Flag (ltb x v) → Flag (eqb x v) → (mem eqb x vs ≡ false → sum_of (insert x vs) g ≡ g x + sum_of vs g)
        → sum_of (cond (ltb x v) (x ∷ v ∷ vs) (cond (eqb x v) (v ∷ vs) (v ∷ insert x vs))) g ≡ g x + (g v + sum_of vs g)
    go (is_true b) d ih = rw b
    go (is_false b) (is_true d) ih = clash (rw d) e
    go (is_false b) (is_false d) ih = let k = ih (rw d at e) in rw (b, d) (omega arith)

sum-missing : (x : ℕ) (vs : List ℕ) → mem eqb x vs ≡ false → sum_of vs (λ v. cond (eqb x v) 1 0) ≡ 0
unfolding sum_of
sum-missing x [] e = refl
sum-missing x (v ∷ vs) e = go (flag (eqb x v)) (sum-missing x vs)
  where
    go : Flag (eqb x v) → (mem eqb x vs ≡ false → sum_of vs (λ v. cond (eqb x v) 1 0) ≡ 0) → cond (eqb x v) 1 0 + sum_of vs (λ v. cond (eqb x v) 1 0) ≡ 0
    go (is_true d) ih = clash (rw d) e
    go (is_false d) ih = rw (d, ih (rw d at e))

sum-once : (n x : ℕ) (vs : List ℕ) → Ascending n vs → mem eqb x vs ≡ true → sum_of vs (λ v. cond (eqb x v) 1 0) ≡ 1
unfolding sum_of
sum-once n x [] a e = clash e refl
sum-once n x (v ∷ vs) a e = go (flag (eqb x v)) (sum-once (suc v) x vs a.1)
  where
    go : Flag (eqb x v) → (mem eqb x vs ≡ true → sum_of vs (λ v. cond (eqb x v) 1 0) ≡ 1) → cond (eqb x v) 1 0 + sum_of vs (λ v. cond (eqb x v) 1 0) ≡ 1
    go (is_true d) ih =
        let q = eqb-true x v d in
        rw (d, sum-missing x vs (ascending-not (suc v) vs x a.1 (omega arith)))
    go (is_false d) ih = rw (d, ih (rw d at e))

-- the numbers of all values add up
pub counts-sum : (m : ℕ) (f : ℕ → ℕ) → sum_of (values m f) (count_of m f) ≡ m
unfolding values count_of sum_of
counts-sum zero f = refl
counts-sum (suc m) f =
    let a = sum_both (insert (f m) (values m f)) (count_of m f) (λ v. cond (eqb (f m) v) 1 0) in
    let b = sum-once 0 (f m) (insert (f m) (values m f)) (insert-ascending 0 (f m) (values m f) (omega arith) (values-ascend m f))
    (mem-insert (f m) (f m) (values m f) ∙ rw (eq-eqb (f m) (f m) refl)) in
    let c = old (flag (mem eqb (f m) (values m f))) in
    let d = counts-sum m f in
    omega arith
  where
    old : Flag (mem eqb (f m) (values m f)) → sum_of (insert (f m) (values m f)) (count_of m f) ≡ sum_of (values m f) (count_of m f)
    old (is_true e) = rw (insert-old 0 (f m) (values m f) (values-ascend m f) e)
    old (is_false e) =
        let z = count_none m f (f m) (sym (values-occur m f (f m)) ∙ e) in
        let s = sum-new (f m) (values m f) (count_of m f) e in
        omega arith

-- ===== The entries =====
sum-map : (vs : List ℕ) (h : ℕ → Entry) (g : Entry → ℕ) → sum_of (map h vs) g ≡ sum_of vs (λ v. g (h v))
unfolding sum_of
sum-map [] h g = refl
sum-map (v ∷ vs) h g = rw (sum-map vs h g)

map-twice : (vs : List ℕ) (h : ℕ → Entry) (g : Entry → ℕ) → ((v : ℕ) → g (h v) ≡ v) → map g (map h vs) ≡ vs
map-twice [] h g e = refl
map-twice (v ∷ vs) h g e = rw (e v, map-twice vs h g e)

-- the entries' values are the values that occur, ascending
pub entries-values : (m : ℕ) (f : ℕ → ℕ) → map (λ e. e.value) (entries m f) ≡ values m f
unfolding entries
entries-values m f = map-twice (values m f) (λ v. record { value = v; states = count_of m f v }) (λ e. e.value) (λ v. refl)

-- the states add up to all of them
pub entries-sum : (m : ℕ) (f : ℕ → ℕ) → sum_of (entries m f) (λ e. e.states) ≡ m
unfolding entries
entries-sum m f = sum-map (values m f) (λ v. record { value = v; states = count_of m f v }) (λ e. e.states) ∙ counts-sum m f
