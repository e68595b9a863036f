-- Laws of the words written.
use mathlib.Core.Path.{◌≡◌, refl, sym, ap, ap₂, ◌∙◌}
use mathlib.Core.Logic.{◌≢◌}
use mathlib.Core.List.{List, [], ◌∷◌, ◌++◌, append_assoc}
use Prim.Native.Nat.{ℕ, suc, ◌+◌, ◌-◌, ◌*◌, ◌<◌, ◌≤◌, zero-le}
use native.Mathlib.Numerals.{add-one}
use native.Mathlib.Omega.{arith}
use borrow.Author.Tests.{eq-eqb, ne_eqb}
use mir.Val.{Fits}
use mir.Syntax.{w64}
use lib.ListN.{length, get_or, set, take, drop, length-set, take-append-drop}
use lib.Seq.{take-suc, take-suc-set, drop-set-lt, drop-drop}
use Rattle.label.specs.Limits.{leaf_mark}
use Rattle.table.specs.declared.Row.{Row}
use Rattle.table.specs.Rows.{put_at}
use Rattle.table.proofs.RowLaws.{length-put, drop-put}
use Rattle.diagram.specs.Sizes.{space_rows}
use Rattle.diagram.specs.Words.{label_at, high_at, low_at}
use Rattle.write.specs.Writing.{renumbered, listed_rows, Renumberable, Emittable}

-- the laws of `renumbered` and `listed_rows`
pub renumbered-leaf : (s marks : List ℕ) (k : ℕ) → label_at s k ≡ leaf_mark → renumbered s marks k ≡ record { label = leaf_mark; high = high_at s k; low = 0 }
unfolding renumbered
renumbered-leaf s marks k e = rw (eq-eqb (label_at s k) leaf_mark e)

pub renumbered-branch : (s marks : List ℕ) (k : ℕ) → label_at s k ≢ leaf_mark
    → renumbered s marks k ≡ record { label = label_at s k; high = get_or marks (high_at s k) 0 - 1; low = get_or marks (low_at s k) 0 - 1 }
unfolding renumbered
renumbered-branch s marks k e = rw (ne_eqb (label_at s k) leaf_mark e)

abbrev pub row_words : Row → List ℕ
row_words r = r.label ∷ r.high ∷ r.low ∷ []

pub listed-none : (s marks : List ℕ) → listed_rows s marks [] ≡ []
unfolding listed_rows
listed-none s marks = refl

pub listed-snoc : (s marks ks : List ℕ) (k : ℕ) → listed_rows s marks (ks ++ (k ∷ [])) ≡ listed_rows s marks ks ++ row_words (renumbered s marks k)
unfolding listed_rows
listed-snoc s marks [] k = refl
listed-snoc s marks (x ∷ xs) k = rw (listed-snoc s marks xs k)

-- renumber
module _ {s marks : List ℕ} {k : ℕ} (r : Renumberable s marks k) where
  pub renumber-leaf : get_or s (k * 3) 0 ≡ leaf_mark
      → ◌≡◌ {A = Row} (record { label = get_or s (k * 3) 0; high = get_or s (k * 3 + 1) 0; low = 0 }) (renumbered s marks k)
  unfolding label_at high_at
  renumber-leaf e = (λ i. record { label = e i; high = get_or s (k * 3 + 1) 0; low = 0 }) ∙ sym (renumbered-leaf s marks k e)

  module _ (e : get_or s (k * 3) 0 ≡ leaf_mark → ⊥) where
    pub renumber-high : get_or s (k * 3 + 1) 0 < length marks
    unfolding label_at high_at
    renumber-high = omega (arith, r.high_small e, r.places)

    pub renumber-low : get_or s (k * 3 + 2) 0 < length marks
    unfolding label_at low_at
    renumber-low = omega (arith, r.low_small e, r.places)

    pub renumber-high-fits : Fits w64 (get_or s (k * 3 + 1) 0 * 2)
    unfolding label_at high_at
    renumber-high-fits = omega (arith, r.high_small e)

    pub renumber-low-fits : Fits w64 (get_or s (k * 3 + 2) 0 * 2)
    unfolding label_at low_at
    renumber-low-fits = omega (arith, r.low_small e)

    pub renumber-high-marked : {a : ℕ} → a ≡ get_or marks (get_or s (k * 3 + 1) 0) 0 → 1 ≤ a
    unfolding label_at high_at
    renumber-high-marked p = rw p (r.high-marked e)

    pub renumber-low-marked : {a : ℕ} → a ≡ get_or marks (get_or s (k * 3 + 2) 0) 0 → 1 ≤ a
    unfolding label_at low_at
    renumber-low-marked p = rw p (r.low-marked e)

    pub renumber-branch : {a b : ℕ} → a ≡ get_or marks (get_or s (k * 3 + 1) 0) 0 → b ≡ get_or marks (get_or s (k * 3 + 2) 0) 0
        → ◌≡◌ {A = Row} (record { label = get_or s (k * 3) 0; high = a - 1; low = b - 1 }) (renumbered s marks k)
    unfolding label_at high_at low_at
    renumber-branch p q = (λ i. record { label = get_or s (k * 3) 0; high = p i - 1; low = q i - 1 }) ∙ sym (renumbered-branch s marks k e)

-- a row written at place j
take_put : (out : List ℕ) (j : ℕ) (r : Row) → j * 3 + 3 ≤ length out → take ((j + 1) * 3) (put_at out j r) ≡ take (j * 3) out ++ row_words r
unfolding put_at
take_put out j r h =
    let x : List ℕ = set out (j * 3) r.label in
    let y : List ℕ = set x (j * 3 + 1) r.high in
    let lx : length x ≡ length out = length-set out (j * 3) r.label in
    let ly : length y ≡ length x = length-set x (j * 3 + 1) r.high in
    let e : (j + 1) * 3 ≡ suc (j * 3 + 2) = omega arith in
    let e' : j * 3 + 2 ≡ suc (j * 3 + 1) = omega arith in
    let e'' : j * 3 + 1 ≡ suc (j * 3) = omega arith in
    let a : take (j * 3 + 1) x ≡ take (j * 3) out ++ (r.label ∷ []) = ap (λ (n : ℕ). take n x) e'' ∙ take-suc-set out (j * 3) r.label (omega arith) in
    let b : take (j * 3 + 2) y ≡ take (j * 3 + 1) x ++ (r.high ∷ []) = ap (λ (n : ℕ). take n y) e' ∙ take-suc-set x (j * 3 + 1) r.high (omega arith) in
    ap (λ (n : ℕ). take n (set y (j * 3 + 2) r.low)) e ∙ take-suc-set y (j * 3 + 2) r.low (omega arith)
    ∙ ap (λ (z : List ℕ). z ++ (r.low ∷ [])) (b ∙ ap (λ (z : List ℕ). z ++ (r.high ∷ [])) a)
    ∙ append_assoc (take (j * 3) out ++ (r.label ∷ [])) (r.high ∷ []) (r.low ∷ [])
    ∙ append_assoc (take (j * 3) out) (r.label ∷ []) (r.high ∷ r.low ∷ [])

-- the loop of `emit`: j rows are written
pub record Emitting (s marks order : List ℕ) (m : ℕ) (out₀ out : List ℕ) (j : ℕ) : Type 0 where
  pub below : j ≤ m
  pub few : m ≤ space_rows
  pub places : space_rows ≤ length order
  pub room : m * 3 ≤ length out
  pub front : take (j * 3) out ≡ listed_rows s marks (take j order)
  pub rest : drop (j * 3) out ≡ drop (j * 3) out₀

pub emit-start : {s marks order out : List ℕ} {m : ℕ} → Emittable s marks order m out → Emitting s marks order m out out 0
unfolding listed_rows
emit-start e = record { below = zero-le; few = e.few; places = e.places; room = e.room; front = refl; rest = refl }

module _ {s marks order out₀ out : List ℕ} {m j : ℕ} (g : Emitting s marks order m out₀ out j) where
  pub emit-row : Emittable s marks order m out₀ → j < m → {k : ℕ} → k ≡ get_or order j 0 → Renumberable s marks k
  emit-row e h p = rw p (e.each j h)

  pub emit-on : j < m → {k : ℕ} → k ≡ get_or order j 0 → {r : Row} → r ≡ renumbered s marks k → {out' : List ℕ} → out' ≡ put_at out j r
      → Emitting s marks order m out₀ out' (j + 1)
  emit-on h {k} p {r} q {out'} e = record {
    below = omega arith;
    few = g.few;
    places = g.places;
    room = rw (e, length-put out j r) g.room;
    front = rw e (take_put out j r (omega (arith, g.room)) ∙ ap₂ ◌++◌ g.front (ap row_words (q ∙ ap (renumbered s marks) p))
        ∙ sym (listed-snoc s marks (take j order) (get_or order j 0)) ∙ ap (listed_rows s marks) (sym (take-suc order j 0 (omega (arith, g.few, g.places))))
        ∙ ap (λ (n : ℕ). listed_rows s marks (take n order)) (sym (add-one j)));
    rest = rw e (drop-put out j r ((j + 1) * 3) (omega arith) ∙ on);
  }
    where
      on : drop ((j + 1) * 3) out ≡ drop ((j + 1) * 3) out₀
      on =
          let n : (j + 1) * 3 ≡ j * 3 + 3 = omega arith in
          ap (λ (x : ℕ). drop x out) n ∙ sym (drop-drop 3 (j * 3) out) ∙ ap (drop 3) g.rest ∙ drop-drop 3 (j * 3) out₀ ∙ ap (λ (x : ℕ). drop x out₀) (sym n)

  pub emit-end : m ≤ j → out ≡ listed_rows s marks (take m order) ++ drop (m * 3) out₀
  emit-end h =
      let e : j ≡ m = omega (arith, g.below) in
      sym (take-append-drop (m * 3) out) ∙ ap₂ ◌++◌ (rw e at g.front) (rw e at g.rest)

-- a loop that copies words one by one
pub record Copying (s out₀ out : List ℕ) (n i : ℕ) : Type 0 where
  pub below : i ≤ n
  pub room : n ≤ length out
  pub front : take i out ≡ take i s
  pub rest : drop i out ≡ drop i out₀

pub copy_start : {s out : List ℕ} {n : ℕ} → n ≤ length out → Copying s out out n 0
copy_start h = record { below = zero-le; room = h; front = refl; rest = refl }

module _ {s out₀ out : List ℕ} {n i : ℕ} (g : Copying s out₀ out n i) where
  pub copy-on : i < n → n ≤ length s → Copying s out₀ (set out i (get_or s i 0)) n (i + 1)
  copy-on h l = record {
    below = omega arith;
    room = rw length-set g.room;
    front = rw add-one (take-suc-set out i (get_or s i 0) (omega (arith, g.room)) ∙ ap (λ (z : List ℕ). z ++ (get_or s i 0 ∷ [])) g.front ∙ sym (take-suc s i 0 (omega arith)));
    rest = rw add-one (drop-set-lt (suc i) out i (get_or s i 0) (omega arith) ∙ on);
  }
    where
      on : drop (suc i) out ≡ drop (suc i) out₀
      on =
          let e : suc i ≡ i + 1 = omega arith in
          ap (λ (x : ℕ). drop x out) e ∙ sym (drop-drop 1 i out) ∙ ap (drop 1) g.rest ∙ drop-drop 1 i out₀ ∙ ap (λ (x : ℕ). drop x out₀) (sym e)

  pub copy-end : n ≤ i → out ≡ take n s ++ drop n out₀
  copy-end h =
      let e : i ≡ n = omega (arith, g.below) in
      sym (take-append-drop n out) ∙ ap₂ ◌++◌ (rw e at g.front) (rw e at g.rest)
