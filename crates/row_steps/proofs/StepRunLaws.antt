-- Laws of the code of the row step: one-row tests, 1 - T, and the step itself.
use mathlib.Core.Path.{◌≡◌, refl, sym, ap, ap₂, subst, ◌∙◌}
use Rattle.std.proofs.lemmas.Option.{some_pair_parts}
use mathlib.Core.Logic.{◌≢◌}
use mathlib.Core.Bool.{true}
use mathlib.Core.List.{List}
use Prim.Native.Nat.{ℕ, suc, ◌+◌, ◌*◌, ◌-◌, ◌≤◌, ◌<◌}
use native.Mathlib.Omega.{arith}
use lib.ListN.{length, get_or, set, replicate, length-set, length-replicate, get_or-replicate}
use lib.Seq.{get_or-set_same, get_or-set_other}
use Rattle.refusal.specs.declared.Refusal.{Refusal}
use Rattle.refusal.specs.declared.Refusal.TheVariants.{Space as NoSpace}
use Rattle.basics.specs.Tests.{Cmp, below, equal, above, cmp}
use Rattle.basics.specs.Members.{mem}
use Rattle.basics.specs.Prefix.{Prefix, prefix_trans}
use Rattle.table.specs.declared.Row.{Row as TableRow}
use Rattle.table.specs.Rows.{row_at}
use Rattle.label.specs.Limits.{leaf_mark}
use Rattle.label.specs.declared.Label.{Label}
use Rattle.label.specs.declared.Test.{Test}
use Rattle.label.specs.declared.Test.TheVariants.{Always, Is}
use Rattle.diagram.specs.Sizes.{highest_value, space_rows}
use Rattle.diagram.specs.Diagram.{Diagram, leaf, branch, same}
use Rattle.diagram.specs.DiagramLaws.{onto-old}
use Rattle.diagram.specs.Rows.{onto}
use Rattle.diagram.specs.Words.{label_at, high_at, low_at}
use Rattle.diagram.specs.Validity.{tree}
use Rattle.diagram.specs.RowLaws.{onto-mem, kept-index-is, onto-keeps}
use Rattle.apply.specs.declared.Operation.TheVariants.{Sum, Product}
use Rattle.apply.specs.Formed.{add}
use Rattle.apply.proofs.FormedLaws.{add-begins}
use Rattle.store.specs.Space.{diagrams_of, Holds, stands_for, Formable, a-branch, Formation}
use Rattle.store.specs.AddLaws.{add-branch}
use Rattle.store.proofs.SpaceLaws.{length-diagrams, diagram-at, stands-branch, formed-room, formation-row, formation-tree, formation-old, full-more, holds-closed}
use Rattle.regression.specs.Calls.{Run, bind, form, combine}
use Rattle.regression.specs.Step.{test_diagram, exchanged, row_step}
use Rattle.regression.proofs.StepLaws.{most-test, most-exchanged}
use Rattle.regression.specs.Result.{AtMost}
use Rattle.row_steps.specs.Running.{Ready, Two, Three, Four, split_step, Gave, Ran, Noted, noted_for, Notable, Exchangeable, Exchanged, Testable, test_leaves}
use Rattle.row_steps.specs.RunLaws.{row_label, row-leaf, row-kids, row-branch, there-mem, formed-gave, formed-space, full-ran}
use Rattle.row_steps.specs.RunLaws.{ran-bind, ran-stop, gave-old, leaf-onto, row-known, full-known, one-most, ran-cast, ran-answer}
use Rattle.std.specs.Prelude.{Err, None, Ok, Option, Result, Some}
use Rattle.std.specs.Option.{ok_or}

-- what forming a row leaves of the rows before
pub record Grew (s₀ : List ℕ) (count : ℕ) (d : Diagram) (i n : ℕ) (s : List ℕ) : Type 0 where
  pub there : i < n
  pub is : tree s i ≡ d
  pub rows : diagrams_of s n ≡ onto d (diagrams_of s₀ count)
  pub old : (k : ℕ) → k < count → (k < n) × (tree s k ≡ tree s₀ k)

pub grew : {s₀ : List ℕ} {count : ℕ} {d : Diagram} {i n : ℕ} {s heads links : List ℕ}
    → Formation d (onto d (diagrams_of s₀ count)) (Some (i, n)) s heads links → Grew s₀ count d i n s
grew {s₀} {count} {d} f =
    let t = formation-tree f (onto-mem d (diagrams_of s₀ count)) in
    record { there = t.0; is = t.1; rows = (formation-row f).3; old = formation-old f s₀ count (onto-keeps d (diagrams_of s₀ count)) }

-- a branch whose children were put onto the rows, one after the other
module _ {s₀ heads₀ links₀ : List ℕ} {count : ℕ} (h : Holds s₀ heads₀ links₀ count) (l : ℕ) (below-mark : l < leaf_mark) (t f : Diagram)
    {i n j m : ℕ} {s₁ s₂ : List ℕ} (g₁ : Grew s₀ count t i n s₁) (g₂ : Grew s₁ n f j m s₂) where
  rows-two : diagrams_of s₂ m ≡ onto f (onto t (diagrams_of s₀ count))
  rows-two = g₂.rows ∙ ap (onto f) g₁.rows

  pub kid-formable : Formable m (record { label = l; high = i; low = j })
  kid-formable = a-branch below-mark (g₂.old i g₁.there).0 g₂.there

  stands : stands_for s₂ (record { label = l; high = i; low = j }) ≡ branch l t f
  stands = stands-branch s₂ (record { label = l; high = i; low = j }) below-mark ∙ ap₂ (branch l) ((g₂.old i g₁.there).1 ∙ g₁.is) g₂.is

  rows-branch : add (branch l t f) (diagrams_of s₂ m) ≡ onto (branch l t f) (diagrams_of s₀ count)
  rows-branch = ap (add (branch l t f)) rows-two ∙ add-branch l t f (diagrams_of s₀ count) (holds-closed h)

  pub kid-begins : Prefix (diagrams_of s₂ m) (onto (branch l t f) (diagrams_of s₀ count))
  kid-begins = subst (Prefix (diagrams_of s₂ m)) rows-branch (add-begins (branch l t f) (diagrams_of s₂ m))

  pub kid-formed : {r : Option (ℕ × ℕ)} {s heads links : List ℕ}
      → Formation (stands_for s₂ (record { label = l; high = i; low = j })) (add (stands_for s₂ (record { label = l; high = i; low = j })) (diagrams_of s₂ m)) r s heads links
      → Formation (branch l t f) (onto (branch l t f) (diagrams_of s₀ count)) r s heads links
  kid-formed {r} {s} {heads} {links} z =
      let y = subst (λ (d : Diagram). Formation d (add d (diagrams_of s₂ m)) r s heads links) stands z in
      subst (λ (rs : List Diagram). Formation (branch l t f) rs r s heads links) rows-branch y

-- no room for a child: none for the branch
module _ {s₀ heads₀ links₀ : List ℕ} {count : ℕ} (h : Holds s₀ heads₀ links₀ count) (l : ℕ) (t f : Diagram) where
  begins-all : Prefix (onto f (onto t (diagrams_of s₀ count))) (onto (branch l t f) (diagrams_of s₀ count))
  begins-all =
      subst (Prefix (onto f (onto t (diagrams_of s₀ count)))) (add-branch l t f (diagrams_of s₀ count) (holds-closed h))
      (add-begins (branch l t f) (onto f (onto t (diagrams_of s₀ count))))

  pub high-full : {s heads links : List ℕ} → Formation t (onto t (diagrams_of s₀ count)) None s heads links
      → Formation (branch l t f) (onto (branch l t f) (diagrams_of s₀ count)) None s heads links
  high-full z = full-more (branch l t f) (onto (branch l t f) (diagrams_of s₀ count)) z
      (prefix_trans (onto-keeps f (onto t (diagrams_of s₀ count))) begins-all)

  pub low-full : {i n : ℕ} {s₁ s heads links : List ℕ} → Grew s₀ count t i n s₁ → Formation f (onto f (diagrams_of s₁ n)) None s heads links
      → Formation (branch l t f) (onto (branch l t f) (diagrams_of s₀ count)) None s heads links
  low-full {i} {n} {s₁} {s} {heads} {links} g z =
      full-more (branch l t f) (onto (branch l t f) (diagrams_of s₀ count))
      (subst (λ (rs : List Diagram). Formation f (onto f rs) None s heads links) g.rows z) begins-all

-- a row that is there
pub old_row : {s heads links : List ℕ} {count i : ℕ} {d : Diagram} → Holds s heads links count → i < count → tree s i ≡ d
    → Formation d (diagrams_of s count) (Some (i, count)) s heads links
old_row {s} {heads} {links} {count} {i} {d} h l e =
    formed-room s heads links (diagrams_of s count) count (length-diagrams s count) h.written h.table d i
    (kept-index-is (diagrams_of s count) i d h.written.kept (omega (arith, length-diagrams s count)) (diagram-at s count i l ∙ e))

-- `form_pair`
module _ {s₀ heads₀ links₀ : List ℕ} {count : ℕ} (h : Holds s₀ heads₀ links₀ count) {l : ℕ} (b : l < leaf_mark) {v : ℕ} (w : ℕ) {r₁ : Option (ℕ × ℕ)} {s₁ heads₁ links₁ : List ℕ}
    (f₁ : Formation (leaf v) (add (leaf v) (diagrams_of s₀ count)) r₁ s₁ heads₁ links₁) where
  pub pair-high : r₁ ≡ None → Formation (branch l (leaf v) (leaf w)) (onto (branch l (leaf v) (leaf w)) (diagrams_of s₀ count)) None s₁ heads₁ links₁
  pair-high e = high-full h l (leaf v) (leaf w) (full-known (leaf-onto s₀ count f₁) e)

  module _ {i n : ℕ} (e₁ : r₁ ≡ Some (i, n)) where
    first : Grew s₀ count (leaf v) i n s₁
    first = grew (row-known (leaf-onto s₀ count f₁) e₁)

    pub pair-holds : Holds s₁ heads₁ links₁ n
    pair-holds = (row-known f₁ e₁).holds

    module _ {r₂ : Option (ℕ × ℕ)} {s₂ heads₂ links₂ : List ℕ} (f₂ : Formation (leaf w) (add (leaf w) (diagrams_of s₁ n)) r₂ s₂ heads₂ links₂) where
      pub pair-low : r₂ ≡ None → Formation (branch l (leaf v) (leaf w)) (onto (branch l (leaf v) (leaf w)) (diagrams_of s₀ count)) None s₂ heads₂ links₂
      pair-low e = low-full h l (leaf v) (leaf w) first (full-known (leaf-onto s₁ n f₂) e)

      module _ {j m : ℕ} (e₂ : r₂ ≡ Some (j, m)) where
        second : Grew s₁ n (leaf w) j m s₂
        second = grew (row-known (leaf-onto s₁ n f₂) e₂)

        pub pair-holds-2 : Holds s₂ heads₂ links₂ m
        pair-holds-2 = (row-known f₂ e₂).holds

        pub pair-formable : Formable m (record { label = l; high = i; low = j })
        pair-formable = kid-formable h l b (leaf v) (leaf w) first second

        pub pair-formed : {r : Option (ℕ × ℕ)} {s heads links : List ℕ}
            → Formation (stands_for s₂ (record { label = l; high = i; low = j })) (add (stands_for s₂ (record { label = l; high = i; low = j })) (diagrams_of s₂ m)) r s heads links
            → Formation (branch l (leaf v) (leaf w)) (onto (branch l (leaf v) (leaf w)) (diagrams_of s₀ count)) r s heads links
        pair-formed z = kid-formed h l b (leaf v) (leaf w) first second z

-- `form_leaves`
pub leaves-always : (s₀ : List ℕ) (count : ℕ) {t : Test} {v : ℕ} (w : ℕ) {r : Option (ℕ × ℕ)} {s heads links : List ℕ} → t ≡ Always
    → Formation (leaf v) (add (leaf v) (diagrams_of s₀ count)) r s heads links
    → Formation (test_leaves t v w) (onto (test_leaves t v w) (diagrams_of s₀ count)) r s heads links
unfolding test_leaves
leaves-always s₀ count {t} {v} w {r} {s} {heads} {links} e f = rw e (leaf-onto s₀ count f)

pub leaves-is : (s₀ : List ℕ) (count : ℕ) {t : Test} {l : Label} {v w : ℕ} {r : Option (ℕ × ℕ)} {s heads links : List ℕ} → t ≡ Is l
    → Formation (branch l.packed (leaf v) (leaf w)) (onto (branch l.packed (leaf v) (leaf w)) (diagrams_of s₀ count)) r s heads links
    → Formation (test_leaves t v w) (onto (test_leaves t v w) (diagrams_of s₀ count)) r s heads links
unfolding test_leaves
leaves-is s₀ count {t} {l} {v} {w} {r} {s} {heads} {links} e f = rw e f

-- `form_test` and `form_other`
leaves-test : (t : Test) → test_leaves t 1 0 ≡ test_diagram t
unfolding test_leaves test_diagram
leaves-test Always = refl
leaves-test (Is l) = refl

leaves-other : (t : Test) → test_leaves t 0 1 ≡ exchanged (test_diagram t)
unfolding test_leaves test_diagram exchanged
leaves-other Always = refl
leaves-other (Is l) = refl

module _ (s₀ : List ℕ) (count : ℕ) (t : Test) {r : Option (ℕ × ℕ)} {s heads links : List ℕ} where
  formed-as : {d e : Diagram} → d ≡ e → Formation d (onto d (diagrams_of s₀ count)) r s heads links → Formation e (onto e (diagrams_of s₀ count)) r s heads links
  formed-as q f = subst (λ (d : Diagram). Formation d (onto d (diagrams_of s₀ count)) r s heads links) q f

  pub test-formed : Formation (test_leaves t 1 0) (onto (test_leaves t 1 0) (diagrams_of s₀ count)) r s heads links
      → Formation (test_diagram t) (onto (test_diagram t) (diagrams_of s₀ count)) r s heads links
  test-formed f = formed-as (leaves-test t) f

  pub other-formed : Formation (test_leaves t 0 1) (onto (test_leaves t 0 1) (diagrams_of s₀ count)) r s heads links
      → Formation (exchanged (test_diagram t)) (onto (exchanged (test_diagram t)) (diagrams_of s₀ count)) r s heads links
  other-formed f = formed-as (leaves-other t) f

pub testable-label : {t : Test} {l : Label} → Testable t → t ≡ Is l → l.packed < leaf_mark
testable-label {t} {l} p e = p.label l e

-- `exchange`
exchanged-leaf : (v : ℕ) → exchanged (leaf v) ≡ leaf (1 - v)
unfolding exchanged
exchanged-leaf v = refl

exchanged-branch : (l : ℕ) (t f : Diagram) → exchanged (branch l t f) ≡ branch l (exchanged t) (exchanged f)
unfolding exchanged
exchanged-branch l t f = refl

-- notes of rows that stay
noted-later : {s₀ s memo : List ℕ} {count n : ℕ} → ((k : ℕ) → k < count → (k < n) × (tree s k ≡ tree s₀ k)) → Noted s₀ memo count → Noted s memo n
noted-later {s₀} {s} {memo} {count} {n} o q = record {
  places = q.places;
  each = λ k j l e.
      let z = q.each k j l e in
      let a = o k z.0 in
      let b = o j z.1 in
      (a.0, b.0, b.1 ∙ z.2 ∙ ap exchanged (sym a.1));
}

-- one more note
noted_more : {s memo : List ℕ} {n i j : ℕ} → Noted s memo n → i < n → i < space_rows → j < n → tree s j ≡ exchanged (tree s i) → Noted s (set memo i (j + 1)) n
noted_more {s} {memo} {n} {i} {j} q a c b e = record { places = rw length-set q.places; each = λ k m l x. go k m l x (cmp k i) }
  where
    other : (k m : ℕ) → k < space_rows → get_or (set memo i (j + 1)) k 0 ≡ suc m → (k ≡ i → ⊥) → (k < n) × (m < n) × (tree s m ≡ exchanged (tree s k))
    other k m l x d = q.each k m l (sym (get_or-set_other memo i k (j + 1) 0 d) ∙ x)

    go : (k m : ℕ) → k < space_rows → get_or (set memo i (j + 1)) k 0 ≡ suc m → Cmp k i → (k < n) × (m < n) × (tree s m ≡ exchanged (tree s k))
    go k m l x (below d) = other k m l x (λ z. omega arith)
    go k m l x (above d) = other k m l x (λ z. omega arith)
    go k m l x (equal d) =
        let p = get_or-set_same memo i (j + 1) 0 (omega (arith, q.places)) in
        let y : get_or (set memo i (j + 1)) i 0 ≡ suc m = subst (λ (z : ℕ). get_or (set memo i (j + 1)) z 0 ≡ suc m) d x in
        let w : m ≡ j = omega arith in
        (omega arith, omega arith, ap (tree s) w ∙ e ∙ ap (λ (z : ℕ). exchanged (tree s z)) (sym d))

-- `note`
pub row-noted : (i : ℕ) (memo : List ℕ) {r : Option (ℕ × ℕ)} {j n : ℕ} → r ≡ Some (j, n) → (Some (j, n) ≡ r) × (set memo i (j + 1) ≡ noted_for i r memo)
row-noted i memo e = (sym e, sym (ap (λ (y : Option (ℕ × ℕ)). noted_for i y memo) e))

-- `exchange`: a row that was formed
row_small : {d : Diagram} {rs : List Diagram} {j n : ℕ} {s heads links : List ℕ} → Formation d rs (Some (j, n)) s heads links → mem same d rs ≡ true → j + 1 < 65536
row_small f m = omega (arith, (formation-tree f m).0, f.holds.table.within)

-- the note of a row that was formed, where n₂ rows and their notes were there before
noting : {d : Diagram} {rs : List Diagram} {j n : ℕ} {s heads links : List ℕ} {s₂ memo₂ : List ℕ} {n₂ i : ℕ} → Formation d rs (Some (j, n)) s heads links → mem same d rs ≡ true
    → Prefix (diagrams_of s₂ n₂) rs → Noted s₂ memo₂ n₂ → i < n₂ → i < space_rows → d ≡ exchanged (tree s₂ i) → Noted s (set memo₂ i (j + 1)) n
noting {d} {rs} {j} {n} {s} {heads} {links} {s₂} {memo₂} {n₂} {i} f m b q a c e =
    let o = formation-old f s₂ n₂ b in
    let t = formation-tree f m in
    noted_more (noted-later o q) (o i a).0 c t.0 (t.1 ∙ e ∙ ap exchanged (sym (o i a).1))

module _ {s heads links memo : List ℕ} {count i : ℕ} (x : Exchangeable s heads links memo count i) where
  small_row : i < space_rows
  small_row = omega (arith, x.row, x.holds.table.within)

  pub memo-room : i < length memo
  memo-room = omega (arith, small_row, x.noted.places)

  pub row_room : i * 3 + 3 ≤ length s
  row_room = omega (arith, x.row, x.holds.table.within, x.holds.table.words)

  -- it is known
  pub exchange-known : {k : ℕ} → k ≡ get_or memo i 0 → (k ≡ 0 → ⊥) → Exchanged s count i (Some ((k - 1), count)) s heads links memo
  exchange-known {k} e n = record {
    formation = rw (onto-old (exchanged (tree s i)) (diagrams_of s count) there) (old_row x.holds z.1 z.2);
    noted = λ j m q. let w = some_pair_parts (k - 1) j count m q in subst (Noted s memo) w.1 x.noted;
  }
    where
      z : (i < count) × (k - 1 < count) × (tree s (k - 1) ≡ exchanged (tree s i))
      z = x.noted.each i (k - 1) small_row (sym e ∙ (let q : k ≡ suc (k - 1) = omega arith in q))

      there : mem same (exchanged (tree s i)) (diagrams_of s count) ≡ true
      there = subst (λ (d : Diagram). mem same d (diagrams_of s count) ≡ true) z.2 (there-mem x.holds (k - 1) z.1)

  -- the row of 1 - T is formed behind n₂ rows and their notes, and noted
  module _ {s₂ memo₂ : List ℕ} {n₂ : ℕ} (q : Noted s₂ memo₂ n₂) (o : (i < n₂) × (tree s₂ i ≡ tree s i)) {r : Option (ℕ × ℕ)} {s' heads' links' : List ℕ}
      (f : Formation (exchanged (tree s i)) (onto (exchanged (tree s i)) (diagrams_of s count)) r s' heads' links')
      (b : Prefix (diagrams_of s₂ n₂) (onto (exchanged (tree s i)) (diagrams_of s count))) where
    formed-notable : Notable memo₂ i r
    formed-notable = record {
      place = omega (arith, small_row, q.places);
      small = λ j n e. row_small (row-known f e) (onto-mem (exchanged (tree s i)) (diagrams_of s count));
    }

    formed-noted : {a : Option (ℕ × ℕ)} {memo' : List ℕ} → (a ≡ r) × (memo' ≡ noted_for i r memo₂) → Exchanged s count i a s' heads' links' memo'
    formed-noted {a} {memo'} e = record {
      formation = subst (λ (z : Option (ℕ × ℕ)). Formation (exchanged (tree s i)) (onto (exchanged (tree s i)) (diagrams_of s count)) z s' heads' links') (sym e.0) f;
      noted = λ j n z.
          let w : r ≡ Some (j, n) = sym e.0 ∙ z in
          subst (λ (m : List ℕ). Noted s' m n) (sym (e.1 ∙ ap (λ (y : Option (ℕ × ℕ)). noted_for i y memo₂) w))
          (noting (row-known f w) (onto-mem (exchanged (tree s i)) (diagrams_of s count)) b q o.0 small_row (ap exchanged (sym o.1)));
    }

  module _ {row : TableRow} (d : row ≡ row_at s i) where
    label_is : row.label ≡ label_at s i
    unfolding row_at label_at
    label_is = ap (λ (z : TableRow). z.label) d

    high_is : row.high ≡ high_at s i
    unfolding row_at high_at
    high_is = ap (λ (z : TableRow). z.high) d

    low-is : row.low ≡ low_at s i
    unfolding row_at low_at
    low-is = ap (λ (z : TableRow). z.low) d

    -- a leaf
    module _ (m : row.label ≡ leaf_mark) {v : ℕ} (q : v ≡ 1 - row.high) {r : Option (ℕ × ℕ)} {s' heads' links' : List ℕ}
        (f : Formation (leaf v) (add (leaf v) (diagrams_of s count)) r s' heads' links') where
      leaf-is : leaf v ≡ exchanged (tree s i)
      leaf-is = ap leaf (q ∙ ap (1 -◌) high_is) ∙ sym (ap exchanged (row-leaf x.holds i x.row (sym label_is ∙ m)) ∙ exchanged-leaf (high_at s i))

      leaf-formation : Formation (exchanged (tree s i)) (onto (exchanged (tree s i)) (diagrams_of s count)) r s' heads' links'
      leaf-formation = subst (λ (y : Diagram). Formation y (onto y (diagrams_of s count)) r s' heads' links') leaf-is (leaf-onto s count f)

      pub leaf-notable : Notable memo i r
      leaf-notable = formed-notable x.noted (x.row, refl) leaf-formation (onto-keeps (exchanged (tree s i)) (diagrams_of s count))

      pub exchange-leaf : {a : Option (ℕ × ℕ)} {memo' : List ℕ} → (a ≡ r) × (memo' ≡ noted_for i r memo) → Exchanged s count i a s' heads' links' memo'
      exchange-leaf e = formed-noted x.noted (x.row, refl) leaf-formation (onto-keeps (exchanged (tree s i)) (diagrams_of s count)) e

    -- a branch
    module _ (m : row.label ≡ leaf_mark → ⊥) where
      branch_row : label_at s i ≢ leaf_mark
      branch_row e = m (label_is ∙ e)

      pub kids : (row.high < i) × (row.low < i)
      kids = let k = row-kids x.holds i x.row branch_row in (omega (arith, high_is, k.0), omega (arith, low-is, k.1))

      label-less : row.label < leaf_mark
      label-less = let q = row_label x.holds i x.row in omega (arith, label_is)

      branch-is : branch row.label (exchanged (tree s row.high)) (exchanged (tree s row.low)) ≡ exchanged (tree s i)
      branch-is =
          (λ j. branch (label_is j) (exchanged (tree s (high_is j))) (exchanged (tree s (low-is j))))
          ∙ sym (ap exchanged (row-branch x.holds i x.row branch_row) ∙ exchanged-branch (label_at s i) (tree s (high_at s i)) (tree s (low_at s i)))

      as-branch : {r : Option (ℕ × ℕ)} {s' heads' links' : List ℕ}
          → Formation (branch row.label (exchanged (tree s row.high)) (exchanged (tree s row.low)))
          (onto (branch row.label (exchanged (tree s row.high)) (exchanged (tree s row.low))) (diagrams_of s count)) r s' heads' links'
          → Formation (exchanged (tree s i)) (onto (exchanged (tree s i)) (diagrams_of s count)) r s' heads' links'
      as-branch {r} {s'} {heads'} {links'} f = subst (λ (y : Diagram). Formation y (onto y (diagrams_of s count)) r s' heads' links') branch-is f

      pub exchange-high : Exchangeable s heads links memo count row.high
      exchange-high = record { holds = x.holds; noted = x.noted; row = omega (arith, kids.0, x.row) }

      module _ {r₁ : Option (ℕ × ℕ)} {s₁ heads₁ links₁ memo₁ : List ℕ} (x₁ : Exchanged s count row.high r₁ s₁ heads₁ links₁ memo₁) where
        pub exchange-high-full : r₁ ≡ None → Exchanged s count i None s₁ heads₁ links₁ memo₁
        exchange-high-full e = record {
          formation = as-branch (high-full x.holds row.label _ _ (full-known x₁.formation e));
          noted = λ j n z. let w : ◌≡◌ {A = ℕ} 0 1 = cc in absurd (omega arith);
        }

        module _ {i₁ n₁ : ℕ} (e₁ : r₁ ≡ Some (i₁, n₁)) where
          g₁ : Grew s count (exchanged (tree s row.high)) i₁ n₁ s₁
          g₁ = grew (row-known x₁.formation e₁)

          low-stays : (row.low < n₁) × (tree s₁ row.low ≡ tree s row.low)
          low-stays = g₁.old row.low (omega (arith, kids.1, x.row))

          pub exchange-low : Exchangeable s₁ heads₁ links₁ memo₁ n₁ row.low
          exchange-low = record { holds = (row-known x₁.formation e₁).holds; noted = x₁.noted i₁ n₁ e₁; row = low-stays.0 }

          module _ {r₂ : Option (ℕ × ℕ)} {s₂ heads₂ links₂ memo₂ : List ℕ} (x₂ : Exchanged s₁ n₁ row.low r₂ s₂ heads₂ links₂ memo₂) where
            f₂ : Formation (exchanged (tree s row.low)) (onto (exchanged (tree s row.low)) (diagrams_of s₁ n₁)) r₂ s₂ heads₂ links₂
            f₂ = subst (λ (y : Diagram). Formation (exchanged y) (onto (exchanged y) (diagrams_of s₁ n₁)) r₂ s₂ heads₂ links₂) low-stays.1 x₂.formation

            pub exchange-low-full : r₂ ≡ None → Exchanged s count i None s₂ heads₂ links₂ memo₂
            exchange-low-full e = record {
              formation = as-branch (low-full x.holds row.label _ _ g₁ (full-known f₂ e));
              noted = λ j n z. let w : ◌≡◌ {A = ℕ} 0 1 = cc in absurd (omega arith);
            }

            module _ {i₂ n₂ : ℕ} (e₂ : r₂ ≡ Some (i₂, n₂)) where
              g₂ : Grew s₁ n₁ (exchanged (tree s row.low)) i₂ n₂ s₂
              g₂ = grew (row-known f₂ e₂)

              pub exchange-holds : Holds s₂ heads₂ links₂ n₂
              exchange-holds = (row-known f₂ e₂).holds

              pub exchange-formable : Formable n₂ (record { label = row.label; high = i₁; low = i₂ })
              exchange-formable = kid-formable x.holds row.label label-less _ _ g₁ g₂

              stays : (i < n₂) × (tree s₂ i ≡ tree s i)
              stays = let a = g₁.old i x.row in let b = g₂.old i a.0 in (b.0, b.1 ∙ a.1)

              begins : Prefix (diagrams_of s₂ n₂) (onto (exchanged (tree s i)) (diagrams_of s count))
              begins = subst (Prefix (diagrams_of s₂ n₂)) (ap (λ (y : Diagram). onto y (diagrams_of s count)) branch-is) (kid-begins x.holds row.label label-less _ _ g₁ g₂)

              module _ {r : Option (ℕ × ℕ)} {s' heads' links' : List ℕ}
                  (f : Formation (stands_for s₂ (record { label = row.label; high = i₁; low = i₂ }))
                  (add (stands_for s₂ (record { label = row.label; high = i₁; low = i₂ })) (diagrams_of s₂ n₂)) r s' heads' links') where
                whole : Formation (exchanged (tree s i)) (onto (exchanged (tree s i)) (diagrams_of s count)) r s' heads' links'
                whole = as-branch (kid-formed x.holds row.label label-less _ _ g₁ g₂ f)

                pub branch-notable : Notable memo₂ i r
                branch-notable = formed-notable (x₂.noted i₂ n₂ e₂) stays whole begins

                pub exchange-branch : {a : Option (ℕ × ℕ)} {memo' : List ℕ} → (a ≡ r) × (memo' ≡ noted_for i r memo₂) → Exchanged s count i a s' heads' links' memo'
                exchange-branch e = formed-noted (x₂.noted i₂ n₂ e₂) stays whole begins e

-- `one_minus`
never : {P : Type 0} (n k j : ℕ) → k < n → ◌≡◌ {A = ℕ} (get_or (replicate n 0) k 0) (suc j) → P
never n k j h e = let z : ◌≡◌ {A = ℕ} (get_or (replicate n 0) k 0) 0 = get_or-replicate n k 0 0 h in let w : 0 ≡ suc j = sym z ∙ e in absurd (omega arith)

pub none-noted : {s heads links : List ℕ} {count i : ℕ} (n : ℕ) → space_rows ≤ n → Holds s heads links count → i < count → Exchangeable s heads links (replicate n 0) count i
none-noted {s} {heads} {links} {count} {i} n l h r = record {
  holds = h;
  noted = record { places = rw length-replicate l; each = λ k j q e. never n k j (omega arith) e };
  row = r;
}

-- `split_step`
abbrev rights : Diagram → Diagram → Diagram → Run Diagram
rights y f p = bind (combine Product y f) (λ q. combine Sum p q)

module _ {plan index s heads links : List ℕ} {limit count test other high low : ℕ} (ready : Ready plan index limit s heads links count)
    (four : Four count test other high low) {a : Result (ℕ × ℕ) (Refusal × ℕ)} {s₁ heads₁ links₁ index₁ : List ℕ}
    (x₁ : Ran limit (combine Product (tree s test) (tree s high)) s count a s₁ heads₁ links₁ index₁) where
  abbrev Split : Run Diagram
  Split = split_step (tree s test) (tree s other) (tree s high) (tree s low)

  pub split-left : {w : Refusal × ℕ} → a ≡ Err w → Ran limit Split s count (Err w) s₁ heads₁ links₁ index₁
  split-left e = ran-stop (combine Product (tree s test) (tree s high)) (rights (tree s other) (tree s low)) (ran-answer e x₁)

  module _ {left n : ℕ} (e₁ : a ≡ Ok (left, n)) where
    gave₁ : Gave (combine Product (tree s test) (tree s high)) s count left n s₁
    gave₁ = x₁.row left n e₁

    pub split-ready : (plan₁ : List ℕ) → length plan₁ ≡ length plan → Ready plan₁ index₁ limit s₁ heads₁ links₁ n
    split-ready plan₁ l = record { space = (ran-answer e₁ x₁).space; clean = x₁.clean; words = omega (arith, ready.words); most = ready.most }

    pub split-two : Two n other low
    split-two = record { first = omega (arith, four.other-there, gave₁.more); second = omega (arith, four.low-there, gave₁.more) }

    from-left : {r : Result (ℕ × ℕ) (Refusal × ℕ)} {s' heads' links' index' : List ℕ} → Ran limit (rights (tree s other) (tree s low) (tree s₁ left)) s₁ n r s' heads' links' index'
        → Ran limit Split s count r s' heads' links' index'
    from-left z = ran-bind (combine Product (tree s test) (tree s high)) (rights (tree s other) (tree s low)) gave₁ z

    module _ {b : Result (ℕ × ℕ) (Refusal × ℕ)} {s₂ heads₂ links₂ index₂ : List ℕ} (x₂ : Ran limit (combine Product (tree s₁ other) (tree s₁ low)) s₁ n b s₂ heads₂ links₂ index₂) where
      y₂ : Ran limit (combine Product (tree s other) (tree s low)) s₁ n b s₂ heads₂ links₂ index₂
      y₂ = ran-cast (λ i. combine Product (gave₁.stays other four.other-there i) (gave₁.stays low four.low-there i)) x₂

      pub split-right : {w : Refusal × ℕ} → b ≡ Err w → Ran limit Split s count (Err w) s₂ heads₂ links₂ index₂
      split-right e = from-left (ran-stop (combine Product (tree s other) (tree s low)) (λ q. combine Sum (tree s₁ left) q) (ran-answer e y₂))

      module _ {right k : ℕ} (e₂ : b ≡ Ok (right, k)) where
        gave₂ : Gave (combine Product (tree s other) (tree s low)) s₁ n right k s₂
        gave₂ = y₂.row right k e₂

        pub split-ready-2 : (plan₂ : List ℕ) → length plan₂ ≡ length plan → Ready plan₂ index₂ limit s₂ heads₂ links₂ k
        split-ready-2 plan₂ l = record { space = (ran-answer e₂ y₂).space; clean = y₂.clean; words = omega (arith, ready.words); most = ready.most }

        pub split-two-2 : Two k left right
        split-two-2 = record { first = omega (arith, gave₁.there, gave₂.more); second = gave₂.there }

        pub split-sum : {r : Result (ℕ × ℕ) (Refusal × ℕ)} {s₃ heads₃ links₃ index₃ : List ℕ} → Ran limit (combine Sum (tree s₂ left) (tree s₂ right)) s₂ k r s₃ heads₃ links₃ index₃
            → Ran limit Split s count r s₃ heads₃ links₃ index₃
        split-sum x₃ = from-left (ran-bind (combine Product (tree s other) (tree s low)) (λ q. combine Sum (tree s₁ left) q) gave₂
            (ran-cast (λ i. combine Sum (gave₂.stays left gave₁.there i) (tree s₂ right)) x₃))

-- where `ok_or` refuses, no row was formed
pub none-there : (o : Option (ℕ × ℕ)) {r : Result (ℕ × ℕ) (Refusal × ℕ)} {e d : Refusal × ℕ} → r ≡ ok_or o d → r ≡ Err e → (o ≡ None) × (e ≡ d)
none-there None p q = (refl, cc)
none-there (Some x) p q = cc

-- the steps behind T: 1 - T, and the rest
abbrev others : Diagram → Diagram → Diagram → Run Diagram
others t f x = bind (form (exchanged x)) (λ y. split_step x y t f)

module _ (T : Diagram) {plan index s₀ s₁ heads₁ links₁ : List ℕ} {limit count i n high low : ℕ} (gave : Gave (form T) s₀ count i n s₁)
    (ready : Ready plan index limit s₁ heads₁ links₁ n) (two : Two count high low) {r₂ : Option (ℕ × ℕ)} {s₂ heads₂ links₂ : List ℕ}
    (f₂ : Formation (exchanged (tree s₁ i)) (onto (exchanged (tree s₁ i)) (diagrams_of s₁ n)) r₂ s₂ heads₂ links₂) where
  from-test : {r : Result (ℕ × ℕ) (Refusal × ℕ)} {s' heads' links' index' : List ℕ} → Ran limit (others (tree s₀ high) (tree s₀ low) (tree s₁ i)) s₁ n r s' heads' links' index'
      → Ran limit (row_step T (tree s₀ high) (tree s₀ low)) s₀ count r s' heads' links' index'
  unfolding row_step
  from-test z = ran-bind (form T) (others (tree s₀ high) (tree s₀ low)) gave z

  small : AtMost highest_value (exchanged (tree s₁ i))
  small = one-most (exchanged (tree s₁ i)) (most-exchanged (tree s₁ i))

  pub other-full : r₂ ≡ None → Ran limit (row_step T (tree s₀ high) (tree s₀ low)) s₀ count (Err (NoSpace, space_rows)) s₂ heads₂ links₂ index
  other-full e = from-test (ran-stop (form (exchanged (tree s₁ i))) (λ y. split_step (tree s₁ i) y (tree s₀ high) (tree s₀ low))
      (full-ran s₁ n (exchanged (tree s₁ i)) small ready.space.values ready.clean (full-known f₂ e)))

  module _ {o m : ℕ} (e₂ : r₂ ≡ Some (o, m)) where
    gave-other : Gave (form (exchanged (tree s₁ i))) s₁ n o m s₂
    gave-other = formed-gave s₁ n (exchanged (tree s₁ i)) (row-known f₂ e₂)

    pub other-ready : Ready plan index limit s₂ heads₂ links₂ m
    other-ready = record {
      space = formed-space s₁ n (exchanged (tree s₁ i)) small ready.space.values (row-known f₂ e₂);
      clean = ready.clean;
      words = ready.words;
      most = ready.most;
    }

    pub other-four : Four m i o high low
    other-four = record {
      test-there = omega (arith, gave.there, gave-other.more);
      other-there = gave-other.there;
      high-there = omega (arith, two.first, gave.more, gave-other.more);
      low-there = omega (arith, two.second, gave.more, gave-other.more);
    }

    stays-2 : (k : ℕ) → k < count → tree s₂ k ≡ tree s₀ k
    stays-2 k l = gave-other.stays k (omega (arith, gave.more)) ∙ gave.stays k l

    pub other-split : {r : Result (ℕ × ℕ) (Refusal × ℕ)} {s' heads' links' index' : List ℕ}
        → Ran limit (split_step (tree s₂ i) (tree s₂ o) (tree s₂ high) (tree s₂ low)) s₂ m r s' heads' links' index'
        → Ran limit (row_step T (tree s₀ high) (tree s₀ low)) s₀ count r s' heads' links' index'
    other-split z = from-test (ran-bind (form (exchanged (tree s₁ i))) (λ y. split_step (tree s₁ i) y (tree s₀ high) (tree s₀ low)) gave-other
        (ran-cast (λ j. split_step (gave-other.stays i gave.there j) (tree s₂ o) (stays-2 high two.first j) (stays-2 low two.second j)) z))

-- `row_step`: T is a row that is there
module _ {plan index s heads links : List ℕ} {limit count test high low : ℕ} (ready : Ready plan index limit s heads links count) (three : Three count test high low)
    {r₁ : Option (ℕ × ℕ)} {s₁ heads₁ links₁ : List ℕ}
    (f₁ : Formation (exchanged (tree s test)) (onto (exchanged (tree s test)) (diagrams_of s count)) r₁ s₁ heads₁ links₁) where
  there : Gave (form (tree s test)) s count test count s
  there = gave-old ready.space.holds three.test-there

  sides : Two count high low
  sides = record { first = three.high-there; second = three.low-there }

  pub step-full : r₁ ≡ None → Ran limit (row_step (tree s test) (tree s high) (tree s low)) s count (Err (NoSpace, space_rows)) s₁ heads₁ links₁ index
  step-full e = other-full (tree s test) there ready sides f₁ e

  module _ {o n : ℕ} (e₁ : r₁ ≡ Some (o, n)) where
    pub step-ready : Ready plan index limit s₁ heads₁ links₁ n
    step-ready = other-ready (tree s test) there ready sides f₁ e₁

    pub step-four : Four n test o high low
    step-four = other-four (tree s test) there ready sides f₁ e₁

    pub step-split : {r : Result (ℕ × ℕ) (Refusal × ℕ)} {s' heads' links' index' : List ℕ}
        → Ran limit (split_step (tree s₁ test) (tree s₁ o) (tree s₁ high) (tree s₁ low)) s₁ n r s' heads' links' index'
        → Ran limit (row_step (tree s test) (tree s high) (tree s low)) s count r s' heads' links' index'
    step-split z = other-split (tree s test) there ready sides f₁ e₁ z

-- `test_step`: T is the test of what is asked
module _ (test : Test) {plan index s₀ heads₀ links₀ : List ℕ} {limit count high low : ℕ} (ready : Ready plan index limit s₀ heads₀ links₀ count) (two : Two count high low)
    {r₁ : Option (ℕ × ℕ)} {s₁ heads₁ links₁ : List ℕ} (f₁ : Formation (test_diagram test) (onto (test_diagram test) (diagrams_of s₀ count)) r₁ s₁ heads₁ links₁) where
  test-small : AtMost highest_value (test_diagram test)
  test-small = one-most (test_diagram test) (most-test test)

  pub test-full : r₁ ≡ None → Ran limit (row_step (test_diagram test) (tree s₀ high) (tree s₀ low)) s₀ count (Err (NoSpace, space_rows)) s₁ heads₁ links₁ index
  unfolding row_step
  test-full e = ran-stop (form (test_diagram test)) (others (tree s₀ high) (tree s₀ low))
      (full-ran s₀ count (test_diagram test) test-small ready.space.values ready.clean (full-known f₁ e))

  module _ {i n : ℕ} (e₁ : r₁ ≡ Some (i, n)) where
    formed : Gave (form (test_diagram test)) s₀ count i n s₁
    formed = formed-gave s₀ count (test_diagram test) (row-known f₁ e₁)

    then_ready : Ready plan index limit s₁ heads₁ links₁ n
    then_ready = record {
      space = formed-space s₀ count (test_diagram test) test-small ready.space.values (row-known f₁ e₁);
      clean = ready.clean;
      words = ready.words;
      most = ready.most;
    }

    pub test-holds : Holds s₁ heads₁ links₁ n
    test-holds = then_ready.space.holds

    module _ {r₂ : Option (ℕ × ℕ)} {s₂ heads₂ links₂ : List ℕ}
        (f₂ : Formation (exchanged (test_diagram test)) (onto (exchanged (test_diagram test)) (diagrams_of s₁ n)) r₂ s₂ heads₂ links₂) where
      at_row : Formation (exchanged (tree s₁ i)) (onto (exchanged (tree s₁ i)) (diagrams_of s₁ n)) r₂ s₂ heads₂ links₂
      at_row =
          subst (λ (d : Diagram). Formation (exchanged d) (onto (exchanged d) (diagrams_of s₁ n)) r₂ s₂ heads₂ links₂) (sym (grew (row-known f₁ e₁)).is) f₂

      pub test-other-full : r₂ ≡ None
          → Ran limit (row_step (test_diagram test) (tree s₀ high) (tree s₀ low)) s₀ count (Err (NoSpace, space_rows)) s₂ heads₂ links₂ index
      test-other-full e = other-full (test_diagram test) formed then_ready two at_row e

      module _ {o m : ℕ} (e₂ : r₂ ≡ Some (o, m)) where
        pub test-ready : Ready plan index limit s₂ heads₂ links₂ m
        test-ready = other-ready (test_diagram test) formed then_ready two at_row e₂

        pub test-four : Four m i o high low
        test-four = other-four (test_diagram test) formed then_ready two at_row e₂

        pub test-split : {r : Result (ℕ × ℕ) (Refusal × ℕ)} {s' heads' links' index' : List ℕ}
            → Ran limit (split_step (tree s₂ i) (tree s₂ o) (tree s₂ high) (tree s₂ low)) s₂ m r s' heads' links' index'
            → Ran limit (row_step (test_diagram test) (tree s₀ high) (tree s₀ low)) s₀ count r s' heads' links' index'
        test-split z = other-split (test_diagram test) formed then_ready two at_row e₂ z
