-- The search of all parts: each matches by itself exactly if all of them match together.
use mathlib.Core.Path.{◌≡◌, refl, sym, ap, subst, ◌∙◌}
use mathlib.Core.Bool.{Bool, true, false, not}
use mathlib.Core.List.{List, [], ◌∷◌, ◌++◌, Memᴰ}
use Prim.Native.Nat.{ℕ, ◌+◌, ◌-◌, ◌/◌, ◌≤◌, ◌<◌}
use native.Mathlib.Omega.{arith}
use lib.ListN.{length, get_or, take, drop, replicate, length-take, length-drop, length-replicate}
use lib.Seq.{take-add, take_all, get_or-take, get_or-drop}
use Rattle.basics.specs.Tests.{Flag, is_true, is_false, flag, Cmp, cmp, below, equal, above}
use Rattle.basics.specs.Members.{clash}
use Rattle.label.specs.Limits.{first_minimum}
use Rattle.label.specs.Labels.{unpacked, terms_of}
use Rattle.paths.specs.Paths.{Literal}
use Rattle.cutting.specs.Match.{start, matches}
use Rattle.cutting.specs.Searchable.{Searchable}
use Rattle.cutting.proofs.MatchLaws.{in-terms, matches-order}
use Rattle.paths.specs.Inner.{InRange, AllInRange, literal_at, literals_in}
use Rattle.matcher.specs.Search.{Setting}
use Rattle.matcher.specs.Stored.{Ready, PartPost}
use Rattle.matcher.specs.Parts.{Strangers, SeenTo, Reordered, Separable, PartTaken, PartsPost}
use Rattle.matcher.proofs.TermLaws.{in_place}
use Rattle.matcher.proofs.WayLaws.{untaken, unleft}
use Rattle.matcher.proofs.LiteralLaws.{mem-at, at_mem}
use Rattle.matcher.proofs.CoversLaws.{of-terms, variable-not}
use Rattle.matcher.proofs.OrderLaws.{reordered-range, seen_start, seen_apart}
use Rattle.matcher.proofs.JoinLaws.{matches-fewer, Disjoint, matches-join}

-- ===== Literals by number =====
pub literal-at : (xs : List ℕ) (i : ℕ) → i < length xs → Memᴰ (literal_at (get_or xs i 0)) (literals_in xs)
unfolding literals_in
literal-at xs i h = mem-at literal_at xs i h

pub at_literal : (xs : List ℕ) (l : Literal) → Memᴰ l (literals_in xs) → (i : ℕ) × (i < length xs) × (l ≡ literal_at (get_or xs i 0))
unfolding literals_in
at_literal xs l m = at_mem literal_at xs l m

append-literals : (xs ys : List ℕ) → literals_in (xs ++ ys) ≡ literals_in xs ++ literals_in ys
unfolding literals_in
append-literals [] ys = refl
append-literals (x ∷ xs) ys = ap (λ (r : List Literal). literal_at x ∷ r) (append-literals xs ys)

-- literals of one list that are all in another
abbrev Among : List ℕ → List ℕ → Type 0
Among xs ys = (l : Literal) → Memᴰ l (literals_in xs) → Memᴰ l (literals_in ys)

reordered-in : {ord₀ ord : List ℕ} → Reordered 0 ord₀ ord → Among ord ord₀
reordered-in {ord₀} {ord} r l m =
    let x = at_literal ord l m in
    let y = r.back x.0 (omega arith) (omega (arith, x.1, r.length-same)) in
    subst (λ (k : Literal). Memᴰ k (literals_in ord₀)) (sym (x.2 ∙ ap literal_at y.3)) (literal-at ord₀ y.0 y.2)

reordered-out : {ord₀ ord : List ℕ} → Reordered 0 ord₀ ord → Among ord₀ ord
reordered-out {ord₀} {ord} r l m =
    let x = at_literal ord₀ l m in
    let y = r.forth x.0 (omega arith) x.1 in
    subst (λ (k : Literal). Memᴰ k (literals_in ord)) (sym (x.2 ∙ ap literal_at y.3)) (literal-at ord y.0 (omega (arith, y.2, r.length-same)))

-- a literal of a part stands in the whole
part_at : (ord : List ℕ) (k m : ℕ) (l : Literal) → Memᴰ l (literals_in (take m (drop k ord))) → (i : ℕ) × (k ≤ i) × (i < length ord) × (l ≡ literal_at (get_or ord i 0))
part_at ord k m l n =
    let x = at_literal (take m (drop k ord)) l n in
    let h : x.0 < m = omega (arith, x.1, length-take m (drop k ord)) in (
      k + x.0,
      omega arith,
      omega (arith, x.1, length-take m (drop k ord), length-drop k ord),
      x.2 ∙ ap literal_at (get_or-take m (drop k ord) x.0 0 h ∙ get_or-drop k ord x.0 0),
    )

front_at : (ord : List ℕ) (k : ℕ) (l : Literal) → Memᴰ l (literals_in (take k ord)) → (i : ℕ) × (i < k) × (i < length ord) × (l ≡ literal_at (get_or ord i 0))
front_at ord k l n =
    let x = at_literal (take k ord) l n in
    let h : x.0 < k = omega (arith, x.1, length-take k ord) in
    (x.0, h, omega (arith, x.1, length-take k ord), x.2 ∙ ap literal_at (get_or-take k ord x.0 0 h))

-- a part's labels are in range
pub part-range : (ord : List ℕ) (k m : ℕ) → AllInRange first_minimum ord → AllInRange first_minimum (take m (drop k ord))
part-range ord k m g = record { each = at }
  where
    at : (i : ℕ) → i < length (take m (drop k ord)) → InRange first_minimum (get_or (take m (drop k ord)) i 0 / 2)
    at i h =
        let q : i < m = omega (arith, length-take m (drop k ord)) in
        subst (λ (y : ℕ). InRange first_minimum (y / 2)) (sym (get_or-take m (drop k ord) i 0 q ∙ get_or-drop k ord i 0))
        (g.each (k + i) (omega (arith, length-take m (drop k ord), length-drop k ord)))

-- fewer literals, and a table with the same marks
setting-part : {ar T ord₀ into tab₀ : List ℕ} (xs tab : List ℕ) → Setting ar T ord₀ into tab₀ → Among xs ord₀
    → ((v : ℕ) → first_minimum ≤ v → get_or tab v 0 ≡ get_or tab₀ v 0) → Setting ar T xs into tab
setting-part {ar} {T} {ord₀} {into} {tab₀} xs tab s f k = record {
  search = s.search;
  labels = record { each = λ l m. s.labels.each l (f l m) };
  below = s.below;
  own = λ t m. let o = of-terms ar (literals_in xs) t m in s.own t (in-terms ar (literals_in ord₀) o.0 t (f o.0 o.1) o.2);
  has = λ t m. omega (arith, s.has t m, k (first_minimum + t) (omega arith));
  of = λ t h m. s.of t h (omega (arith, k (first_minimum + t) (omega arith)));
}

-- ===== match_parts =====

-- the literals before k match, and share no variable with those behind
pub record Parted (ord₀ into tab₀ theta₀ ord tab theta seen : List ℕ) (k : ℕ) : Type 0 where
  pub most : k ≤ length ord
  pub reordered : Reordered 0 ord₀ ord
  pub ready : Ready ord into tab theta
  pub tab-count : length tab ≡ length tab₀
  pub theta-count : length theta ≡ length theta₀
  pub seen-count : length seen ≡ first_minimum
  pub tab-kept : (v : ℕ) → first_minimum ≤ v → get_or tab v 0 ≡ get_or tab₀ v 0
  pub seen-to : SeenTo ord seen k
  pub strangers : Strangers ord seen k
  pub so_far : (ar T : List ℕ) → Setting ar T ord₀ into tab₀ → matches ar (literals_in (drop first_minimum into)) T (literals_in (take k ord)) start ≡ true

pub parted-start : {ord into tab theta : List ℕ} → Ready ord into tab theta → (m : ℕ) → m ≡ first_minimum → Parted ord into tab theta ord tab theta (replicate m 0) 0
parted-start {ord} {into} {tab} {theta} g m e = let s = seen_start ord m (omega arith) in record {
  most = omega arith;
  reordered = record { length-same = refl; front = λ i h. refl; back = λ i a b. (i, a, b, refl); forth = λ i a b. (i, a, b, refl) };
  ready = g;
  tab-count = refl;
  theta-count = refl;
  seen-count = length-replicate m 0 ∙ e;
  tab-kept = λ v h. refl;
  seen-to = s.0;
  strangers = s.1;
  so_far = λ ar T x. unfold matches literals_in in refl;
}

module _ {ord₀ into tab₀ theta₀ ord tab theta seen : List ℕ} {k : ℕ} (p : Parted ord₀ into tab₀ theta₀ ord tab theta seen k) where
  pub parted-separable : k < length ord → Separable ord seen k
  parted-separable h = record { ranged = p.ready.ranged; seen-to = p.seen-to; some = h; few = p.ready.few }

  pub parted-end : length ord ≤ k → PartsPost ord₀ into tab₀ true
  parted-end h = record {
    answer = λ ar T s.
        sym (p.so_far ar T s) ∙ ap (λ (xs : List ℕ). matches ar (literals_in (drop first_minimum into)) T (literals_in xs) start) (take_all k ord h)
        ∙ matches-order ar (literals_in (drop first_minimum into)) T s.search (literals_in ord) (literals_in ord₀) start (reordered-in p.reordered) (reordered-out p.reordered);
  }

  module _ {e : ℕ} {ord' seen' : List ℕ} (t : PartTaken ord k e ord' seen') where
    whole : Reordered 0 ord₀ ord'
    whole = record {
      length-same = t.reordered.length-same ∙ p.reordered.length-same;
      front = λ i h. absurd (omega arith);
      back = back;
      forth = forth;
    }
      where
        inside : (i : ℕ) → i < length ord → (j : ℕ) × (j < length ord) × (get_or ord' i 0 ≡ get_or ord j 0)
        inside i h = go (cmp i k)
          where
            later : k ≤ i → (j : ℕ) × (j < length ord) × (get_or ord' i 0 ≡ get_or ord j 0)
            later q = let x = t.reordered.back i q h in (x.0, x.2, x.3)

            go : Cmp i k → (j : ℕ) × (j < length ord) × (get_or ord' i 0 ≡ get_or ord j 0)
            go (below q) = (i, h, t.reordered.front i q)
            go (equal q) = later (omega arith)
            go (above q) = later (omega arith)

        outside : (i : ℕ) → i < length ord → (j : ℕ) × (j < length ord) × (get_or ord i 0 ≡ get_or ord' j 0)
        outside i h = go (cmp i k)
          where
            later : k ≤ i → (j : ℕ) × (j < length ord) × (get_or ord i 0 ≡ get_or ord' j 0)
            later q = let x = t.reordered.forth i q h in (x.0, x.2, x.3)

            go : Cmp i k → (j : ℕ) × (j < length ord) × (get_or ord i 0 ≡ get_or ord' j 0)
            go (below q) = (i, h, sym (t.reordered.front i q))
            go (equal q) = later (omega arith)
            go (above q) = later (omega arith)

        back : (i : ℕ) → 0 ≤ i → i < length ord₀ → (j : ℕ) × (0 ≤ j) × (j < length ord₀) × (get_or ord' i 0 ≡ get_or ord₀ j 0)
        back i a b =
            let x = inside i (omega (arith, p.reordered.length-same)) in
            let y = p.reordered.back x.0 (omega arith) (omega (arith, x.1, p.reordered.length-same)) in
            (y.0, omega arith, y.2, x.2 ∙ y.3)

        forth : (i : ℕ) → 0 ≤ i → i < length ord₀ → (j : ℕ) × (0 ≤ j) × (j < length ord₀) × (get_or ord₀ i 0 ≡ get_or ord' j 0)
        forth i a b =
            let y = p.reordered.forth i a b in
            let x = outside y.0 (omega (arith, y.2, p.reordered.length-same)) in
            (x.0, omega arith, omega (arith, x.1, p.reordered.length-same), y.3 ∙ x.2)

    pub parted-ready : Ready (take (e - k) (drop k ord')) into tab theta
    parted-ready = record {
      few = omega (arith, length-take (e - k) (drop k ord'), t.most, t.more, p.ready.few);
      ranged = part-range ord' k (e - k) (reordered-range t.reordered p.ready.ranged);
      sorted = p.ready.sorted;
      tab-room = p.ready.tab-room;
      theta-room = p.ready.theta-room;
      stays = p.ready.stays;
    }

    part-among : Among (take (e - k) (drop k ord')) ord₀
    part-among l m =
        let x = part_at ord' k (e - k) l m in
        reordered-in whole l (subst (λ (y : Literal). Memᴰ y (literals_in ord')) (sym x.3) (literal-at ord' x.0 x.2))

    part-setting : (ar T : List ℕ) → Setting ar T ord₀ into tab₀ → Setting ar T (take (e - k) (drop k ord')) into tab
    part-setting ar T s = setting-part (take (e - k) (drop k ord')) tab s part-among p.tab-kept

    module _ {r : Bool} {tab' theta' : List ℕ} (a : PartPost (take (e - k) (drop k ord')) into tab r tab' theta') where
      pub parted-fail : not r ≡ true → PartsPost ord₀ into tab₀ false
      parted-fail q = record { answer = λ ar T s. go ar T s (flag (matches ar (literals_in (drop first_minimum into)) T (literals_in ord₀) start)) }
        where
          go : (ar T : List ℕ) → Setting ar T ord₀ into tab₀ → Flag (matches ar (literals_in (drop first_minimum into)) T (literals_in ord₀) start)
              → false ≡ matches ar (literals_in (drop first_minimum into)) T (literals_in ord₀) start
          go ar T s (is_false z) = sym z
          go ar T s (is_true z) =
              clash (matches-fewer ar (literals_in (drop first_minimum into)) T s.search (literals_in ord₀) (literals_in (take (e - k) (drop k ord'))) part-among z)
              (sym (a.answer ar T (part-setting ar T s)) ∙ untaken q)

      disjoint : (ar : List ℕ) (ls : List Literal) (T : List ℕ) (ok : Searchable ar ls T)
          → Disjoint ar ls T ok (literals_in (take k ord')) (literals_in (take (e - k) (drop k ord')))
      unfolding literal_at
      disjoint ar ls T ok l m n o u v w =
          let x = front_at ord' k l n in
          let y = part_at ord' k (e - k) m o in
          let z = t.reordered.back y.0 y.1 (omega (arith, y.2, t.reordered.length-same)) in
          let stays = ap literal_at (t.reordered.front x.0 x.1) in
          let b = in_place ar (get_or ord x.0 0 / 2) ok.arities u (subst (λ (i : Literal). Memᴰ u (terms_of ar (unpacked i.label))) (x.3 ∙ stays) v) in
          let d = in_place ar (get_or ord z.0 0 / 2) ok.arities u (subst (λ (i : Literal). Memᴰ u (terms_of ar (unpacked i.label))) (y.3 ∙ ap literal_at z.3) w) in
          variable-not u (seen_apart p.seen-to p.strangers x.0 z.0 b.0 d.0 x.1 b.1 z.1 z.2 d.1 u b.2 d.2)

      pub parted-next : not r ≡ false → length seen' ≡ length seen → length tab' ≡ length tab → length theta' ≡ length theta
          → Parted ord₀ into tab₀ theta₀ ord' tab' theta' seen' e
      parted-next q c c₁ c₂ = record {
        most = omega (arith, t.most, t.reordered.length-same);
        reordered = whole;
        ready = record {
          few = omega (arith, p.ready.few, t.reordered.length-same);
          ranged = reordered-range t.reordered p.ready.ranged;
          sorted = p.ready.sorted;
          tab-room = omega (arith, p.ready.tab-room);
          theta-room = omega (arith, p.ready.theta-room);
          stays = a.stays;
        };
        tab-count = c₁ ∙ p.tab-count;
        theta-count = c₂ ∙ p.theta-count;
        seen-count = c ∙ p.seen-count;
        tab-kept = λ v h. a.tab-kept v h ∙ p.tab-kept v h;
        seen-to = t.seen-to;
        strangers = t.strangers;
        so_far = so_far;
      }
        where
          joined : literals_in (take e ord') ≡ literals_in (take k ord') ++ literals_in (take (e - k) (drop k ord'))
          joined =
              let i : e ≡ k + (e - k) = omega (arith, t.more) in
              ap (λ (j : ℕ). literals_in (take j ord')) i ∙ ap literals_in (take-add k (e - k) ord') ∙ append-literals (take k ord') (take (e - k) (drop k ord'))

          before : (l : Literal) → Memᴰ l (literals_in (take k ord')) → Memᴰ l (literals_in (take k ord))
          before l m =
              let x = front_at ord' k l m in
              subst (λ (y : Literal). Memᴰ y (literals_in (take k ord)))
              (ap literal_at (get_or-take k ord x.0 0 x.1) ∙ sym (x.3 ∙ ap literal_at (t.reordered.front x.0 x.1)))
              (literal-at (take k ord) x.0 (omega (arith, x.1, x.2, length-take k ord, t.reordered.length-same)))

          so_far : (ar T : List ℕ) → Setting ar T ord₀ into tab₀ → matches ar (literals_in (drop first_minimum into)) T (literals_in (take e ord')) start ≡ true
          so_far ar T s =
              ap (λ (qs : List Literal). matches ar (literals_in (drop first_minimum into)) T qs start) joined
              ∙ matches-join ar (literals_in (drop first_minimum into)) T s.search (literals_in (take k ord')) (literals_in (take (e - k) (drop k ord')))
              (disjoint ar (literals_in (drop first_minimum into)) T s.search)
              (matches-fewer ar (literals_in (drop first_minimum into)) T s.search (literals_in (take k ord)) (literals_in (take k ord')) before (p.so_far ar T s))
              (sym (a.answer ar T (part-setting ar T s)) ∙ unleft q)
