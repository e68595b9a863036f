-- One state more is one value more entered; and entries of states can be entered into.
use mathlib.Core.Path.{◌≡◌, refl, ap, ap₂, sym, ◌∙◌}
use mathlib.Core.Bool.{Bool, true, false, cond}
use mathlib.Core.List.{List, [], ◌∷◌, map}
use Prim.Native.Nat.{ℕ, zero, suc, ◌+◌, ◌*◌, ◌≤◌, ◌<◌}
use native.Mathlib.Omega.{arith}
use lib.ListN.{length, get_or, length-map}
use lib.Dec.{eqb, ltb}
use borrow.Author.Tests.{eqb-true, eq-eqb, ltb-true}
use Rattle.basics.specs.Tests.{Flag, is_true, is_false, flag}
use Rattle.basics.specs.Members.{mem, clash}
use Rattle.rename.specs.Ascending.{Ascending}
use Rattle.rename.specs.AscendingLaws.{ascending-not, ascending-above, mem-place}
use Rattle.state.specs.Highest.{insert}
use Rattle.spread.specs.Spread.{Entry, values, count_of, entries}
use Rattle.spread.proofs.SpreadLaws.{values-ascend, values-occur, count_none, entries-values}
use Rattle.count_states.specs.Table.{line_words, value_at, states_at, entry_at, entries_at, once, more, enter, most_states, Enterable}
use Rattle.count_states.proofs.DigitLaws.{map_at}
use Rattle.count_states.proofs.TableLaws.{nothing, entry-is, length-entries, entries-at}

-- ===== One state more =====

-- the entry of v, counted by c; and c with one more for x
row : (ℕ → ℕ) → ℕ → Entry
row c v = record { value = v; states = c v }

abbrev plus : ℕ → (ℕ → ℕ) → ℕ → ℕ
plus x c v = c v + cond (eqb x v) 1 0

map-missing : (x : ℕ) (c : ℕ → ℕ) (vs : List ℕ) → mem eqb x vs ≡ false → map (row (plus x c)) vs ≡ map (row c) vs
unfolding row
map-missing x c [] e = refl
map-missing x c (v ∷ vs) e = go (flag (eqb x v)) (map-missing x c vs)
  where
    go : Flag (eqb x v) → (mem eqb x vs ≡ false → map (row (plus x c)) vs ≡ map (row c) vs) → row (plus x c) v ∷ map (row (plus x c)) vs ≡ row c v ∷ map (row c) vs
    go (is_true d) ih = clash (rw d) e
    go (is_false d) ih = ap₂ ◌∷◌ (entry-is refl (rw d (omega arith))) (ih (rw d at e))

enter-insert : (n x : ℕ) (c : ℕ → ℕ) (vs : List ℕ) → Ascending n vs → (mem eqb x vs ≡ false → c x ≡ 0) → map (row (plus x c)) (insert x vs) ≡ enter x (map (row c) vs)
unfolding insert enter row
enter-insert n x c [] a h = let z = h refl in ap (λ e. e ∷ []) (entry-is refl (rw (eq-eqb x x refl) (omega arith)))
enter-insert n x c (v ∷ vs) a h = go (flag (ltb x v)) (flag (eqb x v)) (enter-insert (suc v) x c vs a.1)
  where
    go : Flag (ltb x v) → Flag (eqb x v) → ((mem eqb x vs ≡ false → c x ≡ 0) → map (row (plus x c)) (insert x vs) ≡ enter x (map (row c) vs))
        → map (row (plus x c)) (cond (ltb x v) (x ∷ v ∷ vs) (cond (eqb x v) (v ∷ vs) (v ∷ insert x vs)))
        ≡ cond (ltb x v) (once x ∷ row c v ∷ map (row c) vs) (cond (eqb x v) (more (row c v) ∷ map (row c) vs) (row c v ∷ enter x (map (row c) vs)))
    go (is_true b) d ih =
        let l = ltb-true x v b in
        let o = ascending-not v (v ∷ vs) x (omega arith, a.1) l in
        let z = h o in
        rw b (ap₂ ◌∷◌ (entry-is refl (rw (eq-eqb x x refl) (omega arith))) (map-missing x c (v ∷ vs) o))
    go (is_false b) (is_true d) ih =
        let q = eqb-true x v d in
        rw (b, d) (ap₂ ◌∷◌ (entry-is refl (rw d (omega arith))) (map-missing x c vs (ascending-not (suc v) vs x a.1 (omega arith))))
    go (is_false b) (is_false d) ih = rw (b, d) (ap₂ ◌∷◌ (entry-is refl (rw d (omega arith))) (ih (λ e. h (rw (d, e)))))

-- "the number of states that have it", after state m
pub entries-step : (m : ℕ) (f : ℕ → ℕ) → entries (suc m) f ≡ enter (f m) (entries m f)
unfolding entries values count_of row
entries-step m f = enter-insert 0 (f m) (count_of m f) (values m f) (values-ascend m f) (λ e. count_none m f (f m) (sym (values-occur m f (f m)) ∙ e))

-- ===== The entries of m states in words =====
pub count_most : (m : ℕ) (f : ℕ → ℕ) (v : ℕ) → count_of m f v ≤ m
unfolding count_of
count_most zero f v = omega arith
count_most (suc m) f v = go (eqb (f m) v) (count_most m f v)
  where
    go : (b : Bool) {k : ℕ} → k ≤ m → k + cond b 1 0 ≤ suc m
    go true h = omega arith
    go false h = omega arith

ascending-at : (n : ℕ) (xs : List ℕ) (i j : ℕ) → Ascending n xs → i < j → j < length xs → get_or xs i 0 < get_or xs j 0
ascending-at n [] i j a h l = absurd (omega arith)
ascending-at n (x ∷ xs) i zero a h l = absurd (omega arith)
ascending-at n (x ∷ xs) zero (suc j) a h l = ascending-above (suc x) xs (get_or xs j 0) a.1 (mem-place xs j (omega arith))
ascending-at n (x ∷ xs) (suc i) (suc j) a h l = ascending-at (suc x) xs i j a.1 (omega arith) (omega arith)

module _ (t : List ℕ) (count m : ℕ) (f : ℕ → ℕ) (e : entries_at t count ≡ entries m f) where
  pub entries-count : count ≡ length (entries m f)
  entries-count = sym (length-entries t count) ∙ ap length e

  values-count : count ≡ length (values m f)
  values-count = entries-count ∙ sym (length-map (entries m f) (λ (x : Entry). x.value)) ∙ ap length (entries-values m f)

  value_read : (i : ℕ) → i < count → value_at t i ≡ get_or (values m f) i 0
  unfolding entry_at
  value_read i h =
      sym (map_at (λ (x : Entry). x.value) (entries_at t count) i 0 nothing (omega (arith, length-entries t count)) ∙ ap (λ (x : Entry). x.value) (entries-at t count i nothing h))
      ∙ ap (λ es. get_or (map (λ (x : Entry). x.value) es) i 0) e
      ∙ ap (λ vs. get_or vs i 0) (entries-values m f)

  states-read : (i : ℕ) → i < count → states_at t i ≤ m
  unfolding entry_at entries
  states-read i h =
      let p = entries-at t count i nothing h in
      let q = ap (λ es. get_or es i nothing) e ∙ map_at (λ v. record { value = v; states = count_of m f v }) (values m f) i nothing 0 (omega (arith, values-count)) in
      let r : states_at t i ≡ count_of m f (get_or (values m f) i 0) = ap (λ (x : Entry). x.states) (sym p ∙ q) in
      omega (arith, r, count_most m f (get_or (values m f) i 0))

  pub entries-enterable : m < most_states → count * line_words + line_words ≤ length t → Enterable t count
  entries-enterable h r = record {
    room = r;
    ascend = λ i j k l.
        let a = value_read i (omega arith) in
        let b = value_read j l in
        omega (arith, ascending-at 0 (values m f) i j (values-ascend m f) k (omega (arith, values-count)));
    few = λ i l. omega (arith, states-read i l);
  }
