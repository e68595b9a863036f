-- Laws of the tests of literals.
use mathlib.Core.Path.{◌≡◌, refl, sym, ap, ◌∙◌}
use mathlib.Core.Bool.{Bool, true, false, not, ◌&&◌, ◌||◌}
use mathlib.Core.List.{List, Memᴰ}
use Prim.Native.Nat.{ℕ, suc, ◌+◌, ◌/◌, ◌%◌, ◌≤◌, ◌<◌}
use native.Mathlib.Omega.{arith}
use native.Mathlib.Numerals.{add-one}
use lib.ListN.{length, get_or, drop}
use lib.Dec.{eqb}
use borrow.Author.Tests.{eqb-true, ne_eqb}
use Rattle.basics.specs.Tests.{and_left}
use Rattle.label.specs.Limits.{term_end, predicate_count}
use Rattle.label.specs.Labels.{are_arities, is_label}
use Rattle.label.specs.Inner.{map_of}
use Rattle.label.specs.Renamings.{moved}
use Rattle.label.specs.Callers.{Movable}
use Rattle.label.specs.declared.Label.{Label}
use Rattle.label.specs.declared.Test.{Test}
use Rattle.label.specs.declared.Test.TheVariants.{Always, Is}
use Rattle.label.proofs.ArityLaws.{mem-at}
use Rattle.paths.specs.Paths.{Literal}
use Rattle.paths.specs.Inner.{AllInRange, literal_at, literals_in}
use Rattle.paths.specs.PathLaws.{label-range, mem-unmap}
use Rattle.contradiction.specs.Contradiction.{some_literal, asked, asks_for, affirms, is_said, clashes, clash_under, contradicts, representative}
use Rattle.contradiction.proofs.JoinLaws.{TermsBelow, terms-labels, representative-below}
use Rattle.contradiction.proofs.AgreeLaws.{clash-agree}
use Rattle.contradict.specs.Representing.{Represented, Labelled, Readable}
use Rattle.contradict.proofs.TableLaws.{label_at, sign-odd, literals-drop, literals-none}

-- ===== A loop over literals =====

module _ (f : Literal → Bool) (xs : List ℕ) where
  -- none of the first j literals has it
  abbrev pub From : ℕ → Type 0
  From j = (j ≤ length xs) × (some_literal f (literals_in xs) ≡ some_literal f (literals_in (drop j xs)))

  pub from_start : From 0
  from_start = (omega arith, refl)

  module _ {j : ℕ} (i : From j) (h : j < length xs) {b : Bool} {x : ℕ} (e : b ≡ f (literal_at x)) (d : x ≡ get_or xs j 0) where
    next : some_literal f (literals_in xs) ≡ (b || some_literal f (literals_in (drop (suc j) xs)))
    next =
        i.1 ∙ ap (some_literal f) (literals-drop xs j h) ∙ ap (λ (y : ℕ). f (literal_at y) || some_literal f (literals_in (drop (suc j) xs))) (sym d)
        ∙ ap (λ (c : Bool). c || some_literal f (literals_in (drop (suc j) xs))) (sym e)

    pub from-hit : b ≡ true → true ≡ some_literal f (literals_in xs)
    from-hit q = sym (next ∙ ap (λ (c : Bool). c || some_literal f (literals_in (drop (suc j) xs))) q)

    pub from_next : b ≡ false → From (j + 1)
    from_next q = (
      omega arith,
      next ∙ ap (λ (c : Bool). c || some_literal f (literals_in (drop (suc j) xs))) q ∙ ap (λ (n : ℕ). some_literal f (literals_in (drop n xs))) (sym (add-one j)),
    )

  pub from_end : {j : ℕ} → From j → length xs ≤ j → false ≡ some_literal f (literals_in xs)
  from_end {j} i h = sym (i.1 ∙ ap (some_literal f) (literals-none xs j (omega (arith, i.0))))

-- ===== One literal =====

arity-room : (ar : List ℕ) → are_arities ar ≡ true → predicate_count ≤ length ar
unfolding are_arities
arity-room ar g = let e = eqb-true (length ar) predicate_count (and_left (eqb (length ar) predicate_count) _ g) in omega arith

pub literal-movable : {ar xs table : List ℕ} {j x : ℕ} → Readable ar xs table → j < length xs → x ≡ get_or xs j 0 → Movable ar table (x / 2)
literal-movable {ar} {xs} r h e = record {
  arities = arity-room ar r.labelled.arities;
  terms = r.terms;
  label = ap (λ (y : ℕ). is_label ar (y / 2)) e ∙ r.labelled.labels _ h;
}

module _ (ar table : List ℕ) (x : ℕ) where
  asked-at : {t : Test} → t ≡ moved ar (map_of table) (x / 2) → asked ar (map_of table) (literal_at x) ≡ t
  asked-at e = ap (moved ar (map_of table)) (label_at x) ∙ sym e

  module _ (k : ℕ) where
    affirms-is : {t : Test} → t ≡ moved ar (map_of table) (x / 2) → {b : Bool} → (literal_at x).sign ≡ b → affirms ar (map_of table) k (literal_at x) ≡ (b && asks_for k t)
    unfolding affirms
    affirms-is e {b} s = ap (λ (c : Bool). c && asks_for k (asked ar (map_of table) (literal_at x))) s ∙ ap (λ (t : Test). b && asks_for k t) (asked-at e)

    pub affirms-even : x % 2 ≡ 0 → false ≡ affirms ar (map_of table) k (literal_at x)
    affirms-even e = sym (affirms-is refl even)
      where
        even : (literal_at x).sign ≡ false
        even = unfold literal_at in (ap (λ (y : ℕ). eqb y 1) e)

    module _ (n : x % 2 ≡ 0 → ⊥) {t : Test} (e : t ≡ moved ar (map_of table) (x / 2)) where
      pub affirms-truth : t ≡ Always → false ≡ affirms ar (map_of table) k (literal_at x)
      affirms-truth q = sym (affirms-is e (sign-odd x n) ∙ ap (asks_for k) q)

      pub affirms-label : {l : Label} → t ≡ Is l → eqb l.packed k ≡ affirms ar (map_of table) k (literal_at x)
      affirms-label q = sym (affirms-is e (sign-odd x n) ∙ ap (asks_for k) q)

  module _ (xs : List ℕ) where
    clashes-is : {t : Test} → t ≡ moved ar (map_of table) (x / 2) → {b : Bool} → (literal_at x).sign ≡ b
        → clashes ar (map_of table) (literals_in xs) (literal_at x) ≡ (not b && is_said ar (map_of table) (literals_in xs) t)
    unfolding clashes
    clashes-is e {b} s =
        ap (λ (c : Bool). not c && is_said ar (map_of table) (literals_in xs) (asked ar (map_of table) (literal_at x))) s
        ∙ ap (λ (t : Test). not b && is_said ar (map_of table) (literals_in xs) t) (asked-at e)

    pub clashes-odd : x % 2 ≡ 1 → false ≡ clashes ar (map_of table) (literals_in xs) (literal_at x)
    clashes-odd e = sym (clashes-is refl (sign-odd x (λ z. omega arith)))

    module _ (n : x % 2 ≡ 1 → ⊥) {t : Test} (e : t ≡ moved ar (map_of table) (x / 2)) where
      even : (literal_at x).sign ≡ false
      even = unfold literal_at in (ne_eqb (x % 2) 1 n)

      pub clashes-truth : t ≡ Always → true ≡ clashes ar (map_of table) (literals_in xs) (literal_at x)
      clashes-truth q = sym (clashes-is e even ∙ ap (is_said ar (map_of table) (literals_in xs)) q)

      pub clashes-label : {l : Label} {b : Bool} → t ≡ Is l → b ≡ some_literal (affirms ar (map_of table) l.packed) (literals_in xs)
          → b ≡ clashes ar (map_of table) (literals_in xs) (literal_at x)
      clashes-label q d = d ∙ sym (clashes-is e even ∙ ap (is_said ar (map_of table) (literals_in xs)) q)

-- ===== All of them =====

pub labelled-range : {ar xs : List ℕ} → Labelled ar xs → AllInRange term_end xs
labelled-range {ar} {xs} l = record { each = λ i h. label-range ar (get_or xs i 0 / 2) (l.labels i h) }

pub clash-is : (ar table xs : List ℕ) → clash_under ar (map_of table) (literals_in xs) ≡ some_literal (clashes ar (map_of table) (literals_in xs)) (literals_in xs)
unfolding clash_under
clash-is ar table xs = refl

module _ {ar xs table : List ℕ} (l : Labelled ar xs) (room : term_end ≤ length table) (r : Represented xs 0 table) where
  small : TermsBelow term_end ar (literals_in xs)
  small = terms-labels ar (literals_in xs) (λ k m. label_of k m)
    where
      label_of : (k : Literal) → Memᴰ k (literals_in xs) → is_label ar k.label ≡ true
      label_of k m =
          let r = mem-unmap literal_at xs k (unfold literals_in in m) in
          ap (λ (z : Literal). is_label ar z.label) r.2 ∙ ap (is_label ar) (label_at r.0) ∙ mem-at (λ x. is_label ar (x / 2) ≡ true) xs l.labels r.0 r.1

  pub represented-readable : Readable ar xs table
  represented-readable = record {
    labelled = l;
    terms = record {
      whole = room;
      below = λ t h. omega (arith, r.each ar l.arities t h, representative-below term_end ar (literals_in xs) small t h);
    };
  }

  pub contradicts-is : {b : Bool} → b ≡ clash_under ar (map_of table) (literals_in xs) → b ≡ contradicts ar (literals_in xs)
  unfolding contradicts
  contradicts-is e = e ∙ clash-agree term_end (map_of table) (representative ar (literals_in xs)) (r.each ar l.arities) ar l.arities (literals_in xs) small
