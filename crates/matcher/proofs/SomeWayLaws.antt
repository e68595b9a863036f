-- A literal that has no way keeps its list from matching.
use mathlib.Core.Path.{◌≡◌, refl, sym, ap, subst, ◌∙◌}
use mathlib.Core.Logic.{◌⊎◌, inl, inr}
use mathlib.Core.Bool.{Bool, true, false, not}
use mathlib.Core.List.Memᴰ
use mathlib.Core.List.{List, [], ◌∷◌, Memᴰ}
use Prim.Native.Nat.{ℕ, zero, suc, ◌+◌, ◌*◌, ◌/◌, ◌%◌, ◌≤◌, ◌<◌}
use native.Mathlib.Omega.{arith}
use lib.ListN.{length, get_or, set, drop, length-set, length-drop}
use lib.Seq.{get_or-drop, get_or-set_same, get_or-set_other}
use lib.Dec.{eqb, ltb}
use borrow.Author.Tests.{eqb-true, eqb-false, ltb-false}
use Rattle.basics.specs.Tests.{and_left, and_right, Flag, is_true, is_false, flag, Cmp, cmp, below, equal, above}
use Rattle.basics.specs.Members.{clash}
use Rattle.label.specs.Limits.{first_minimum}
use Rattle.label.specs.Labels.{predicate_of}
use Rattle.paths.specs.Paths.{Literal}
use Rattle.paths.specs.Inner.{literal_at, literals_in}
use Rattle.cutting.specs.Match.{start, ways_among, plain_ways, targets, matches}
use Rattle.cutting.specs.Searchable.{Searchable}
use Rattle.cutting.proofs.MatchLaws.{among-out, some_out}
use Rattle.matcher.specs.Search.{is_equality, alike}
use Rattle.matcher.specs.Parts.{NoWay, kind_of, kind_count, Kinds, WayPost, WaysPost}
use Rattle.matcher.proofs.WayLaws.{untaken}
use Rattle.matcher.proofs.LiteralLaws.{is-alike, zero-predicate}
use Rattle.matcher.proofs.PartLaws.{literal-at, at_literal}
use Rattle.matcher.proofs.JoinLaws.{matches-fewer}

like : (x y : ℕ) → predicate_of (literal_at x).label ≡ predicate_of (literal_at y).label → (literal_at x).sign ≡ (literal_at y).sign → alike x y ≡ true
unfolding literal_at
like x y p s = is-alike x y p s

-- such a literal has no target
no_target : (ar T into : List ℕ) (x : ℕ) → NoWay into x → (us : List ℕ) → Memᴰ us (targets ar (literals_in (drop first_minimum into)) T (literal_at x)) → ⊥
unfolding targets
no_target ar T into x n us m =
    go (Memᴰ.append_cases (ways_among ar (predicate_of (literal_at x).label) (literal_at x).sign (literals_in (drop first_minimum into))) m)
  where
    equalities : (p : ℕ) (b : Bool) → predicate_of (literal_at x).label ≡ p → (literal_at x).sign ≡ b → Memᴰ us (plain_ways p b T) → ⊥
    equalities zero true e s w =
        n.equality (unfold literal_at in (zero-predicate x e)) (unfold literal_at in (eqb-true (x % 2) 1 s))
    equalities zero false e s w = Memᴰ.not-nil w
    equalities (suc p) b e s w = Memᴰ.not-nil w

    go : Memᴰ us (ways_among ar (predicate_of (literal_at x).label) (literal_at x).sign (literals_in (drop first_minimum into)))
        ⊎ Memᴰ us (plain_ways (predicate_of (literal_at x).label) (literal_at x).sign T) → ⊥
    go (inl w) =
        let r = among-out ar (predicate_of (literal_at x).label) (literal_at x).sign (literals_in (drop first_minimum into)) us w in
        let i = at_literal (drop first_minimum into) _ r.one_of in
        let y = get_or (drop first_minimum into) i.0 0 in
        clash (like x y (r.same-predicate ∙ ap (λ (l : Literal). predicate_of l.label) i.2) (ap (λ (l : Literal). l.sign) i.2))
        (ap (alike x) (get_or-drop first_minimum into i.0 0) ∙ n.others (first_minimum + i.0) (omega arith) (omega (arith, i.1, length-drop first_minimum into)))
    go (inr w) = equalities (predicate_of (literal_at x).label) (literal_at x).sign refl refl w

one-fails : (ar T into : List ℕ) (x : ℕ) → NoWay into x → matches ar (literals_in (drop first_minimum into)) T (literal_at x ∷ []) start ≡ true → ⊥
unfolding matches
one-fails ar T into x n e = let r = some_out (targets ar (literals_in (drop first_minimum into)) T (literal_at x)) _ e in no_target ar T into x n r.0 r.1

pub ways-fail : {ord into kinds : List ℕ} {r : Bool} → WaysPost ord kinds r → Kinds into kinds (length into) → not r ≡ true → (ar T : List ℕ)
    → Searchable ar (literals_in (drop first_minimum into)) T → false ≡ matches ar (literals_in (drop first_minimum into)) T (literals_in ord) start
ways-fail {ord} {into} {kinds} {r} w k q ar T s = go (flag (matches ar (literals_in (drop first_minimum into)) T (literals_in ord) start))
  where
    only : (i : ℕ) → i < length ord → (l : Literal) → Memᴰ l (literal_at (get_or ord i 0) ∷ []) → Memᴰ l (literals_in ord)
    only i h l (Memᴰ.head e) = subst (λ (k : Literal). Memᴰ k (literals_in ord)) (sym e) (literal-at ord i h)
    only i h l (Memᴰ.tail m) = absurd (Memᴰ.not-nil m)

    go : Flag (matches ar (literals_in (drop first_minimum into)) T (literals_in ord) start) → false ≡ matches ar (literals_in (drop first_minimum into)) T (literals_in ord) start
    go (is_false z) = sym z
    go (is_true z) =
        let n = w.no (untaken q) into k in
        absurd (one-fails ar T into (get_or ord n.0 0) n.2
        (matches-fewer ar (literals_in (drop first_minimum into)) T s (literals_in ord) (literal_at (get_or ord n.0 0) ∷ []) (only n.0 n.1) z))

-- ===== is_equal, has_way =====
pub equal-yes : (x : ℕ) {b : Bool} → b ≡ is_equality x → not b ≡ true → false ≡ false → is_equality x ≡ true → x % 2 ≡ 1 → ⊥
equal-yes x q e f h z = clash h (sym q ∙ untaken e)

pub equal-not : (x : ℕ) → eqb (x % 2) 1 ≡ false → is_equality x ≡ true → x % 2 ≡ 1 → ⊥
equal-not x e h = eqb-false (x % 2) 1 e

pub way-yes : (kinds : List ℕ) (x : ℕ) → WayPost kinds x true
way-yes kinds x = record { kind = λ e. clash refl e; unmarked = λ e. clash refl e; equality = λ e. clash refl e }

pub way-marked : (kinds : List ℕ) (x : ℕ) {b : Bool} {k w : ℕ} → (b ≡ false → is_equality x ≡ true → x % 2 ≡ 1 → ⊥) → b ≡ false → k ≡ kind_of x → k < kind_count
    → w ≡ get_or kinds k 0 → WayPost kinds x (ltb 0 w)
way-marked kinds x {b} {k} {w} f e q h z = record {
  kind = λ i. omega arith;
  unmarked = λ i. ap (λ (j : ℕ). get_or kinds j 0) (sym q) ∙ sym z ∙ omega (arith, ltb-false 0 w i);
  equality = λ i. f e;
}

-- a kind is a small number
pub predicate-small : (x : ℕ) {p : ℕ} → p ≡ predicate_of (x / 2) → p ≤ x / 2
unfolding predicate_of
predicate-small x e = omega arith

pub kind-is : (x : ℕ) {p : ℕ} → p ≡ predicate_of (x / 2) → p * 2 + x % 2 ≡ kind_of x
kind-is x e = ap (λ (q : ℕ). q * 2 + x % 2) e

-- ===== mark_kinds =====
module _ {into : List ℕ} where
  pub kinds-start : {kinds : List ℕ} → kind_count ≤ length kinds → Kinds into kinds first_minimum
  kinds-start h = record { room = h; each = λ i a b. absurd (omega arith) }

  module _ {kinds : List ℕ} {j w k : ℕ} (s : Kinds into kinds j) (e : w ≡ get_or into j 0) (q : k ≡ kind_of w) where
    pub kinds-marked : k < kind_count → Kinds into (set kinds k 1) (j + 1)
    kinds-marked h = record { room = omega (arith, length-set kinds k 1, s.room); each = λ i a b c. go i a b c (cmp i j) }
      where
        here : get_or (set kinds k 1) k 0 ≡ 1
        here = get_or-set_same kinds k 1 0 (omega (arith, s.room))

        old : (v : ℕ) → 0 < get_or kinds v 0 → Cmp v k → 0 < get_or (set kinds k 1) v 0
        old v p (below c) = omega (arith, get_or-set_other kinds k v 1 0 (omega arith))
        old v p (equal c) = omega (arith, ap (λ (i : ℕ). get_or (set kinds k 1) i 0) c, here)
        old v p (above c) = omega (arith, get_or-set_other kinds k v 1 0 (omega arith))

        go : (i : ℕ) → first_minimum ≤ i → i < j + 1 → kind_of (get_or into i 0) < kind_count → Cmp i j → 0 < get_or (set kinds k 1) (kind_of (get_or into i 0)) 0
        go i a b c (below d) = old (kind_of (get_or into i 0)) (s.each i a d c) (cmp (kind_of (get_or into i 0)) k)
        go i a b c (equal d) =
            let z : kind_of (get_or into i 0) ≡ k = ap (λ (v : ℕ). kind_of (get_or into v 0)) d ∙ sym (q ∙ ap kind_of e) in
            omega (arith, ap (λ (v : ℕ). get_or (set kinds k 1) v 0) z, here)
        go i a b c (above d) = absurd (omega arith)

    pub kinds-other : kind_count ≤ k → Kinds into kinds (j + 1)
    kinds-other h = record { room = s.room; each = λ i a b c. go i a b c (cmp i j) }
      where
        go : (i : ℕ) → first_minimum ≤ i → i < j + 1 → kind_of (get_or into i 0) < kind_count → Cmp i j → 0 < get_or kinds (kind_of (get_or into i 0)) 0
        go i a b c (below d) = s.each i a d c
        go i a b c (equal d) =
            let z : kind_of (get_or into i 0) ≡ k = ap (λ (v : ℕ). kind_of (get_or into v 0)) d ∙ sym (q ∙ ap kind_of e) in
            absurd (omega arith)
        go i a b c (above d) = absurd (omega arith)

  pub kinds-end : {kinds : List ℕ} {j : ℕ} → Kinds into kinds j → length into ≤ j → Kinds into kinds (length into)
  kinds-end s h = record { room = s.room; each = λ i a b. s.each i a (omega arith) }

-- ===== have_ways =====
pub ways-yes : (ord kinds : List ℕ) → WaysPost ord kinds true
ways-yes ord kinds = record { no = λ e. clash refl e }

-- two literals that are alike are of one kind
alike-kind : (x y : ℕ) → alike x y ≡ true → kind_of x ≡ kind_of y
unfolding alike
alike-kind x y e =
    let u = eqb-true (predicate_of (x / 2)) (predicate_of (y / 2)) (and_left (eqb (predicate_of (x / 2)) (predicate_of (y / 2))) (eqb (x % 2) (y % 2)) e) in
    let v = eqb-true (x % 2) (y % 2) (and_right (eqb (predicate_of (x / 2)) (predicate_of (y / 2))) (eqb (x % 2) (y % 2)) e) in
    omega arith

pub ways-no : {ord kinds : List ℕ} {i x : ℕ} {r : Bool} → i < length ord → x ≡ get_or ord i 0 → WayPost kinds x r → not r ≡ true → WaysPost ord kinds false
ways-no {ord} {kinds} {i} {x} {r} h e w q = record {
  no = λ z into s. (i, h, subst (NoWay into) e (record { others = others into s; equality = w.equality (untaken q) }));
}
  where
    others : (into : List ℕ) → Kinds into kinds (length into) → (j : ℕ) → first_minimum ≤ j → j < length into → alike x (get_or into j 0) ≡ false
    others into s j a b = go (flag (alike x (get_or into j 0)))
      where
        go : Flag (alike x (get_or into j 0)) → alike x (get_or into j 0) ≡ false
        go (is_false z) = z
        go (is_true z) =
            let u = alike-kind x (get_or into j 0) z in
            let k = w.kind (untaken q) in
            let v = s.each j a b (omega arith) in
            let m = w.unmarked (untaken q) in
            absurd (omega (arith, ap (λ (t : ℕ). get_or kinds t 0) u))
