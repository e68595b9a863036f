-- The order in which literals are taken, and where a part ends.
use mathlib.Core.Path.{◌≡◌, refl, sym, ap, subst, ◌∙◌}
use mathlib.Core.Bool.{Bool, true, false, not, ◌&&◌}
use mathlib.Core.List.{List}
use Prim.Native.Nat.{ℕ, zero, suc, ◌+◌, ◌*◌, ◌/◌, ◌≤◌, ◌<◌}
use native.Mathlib.Omega.{arith}
use lib.ListN.{length, get_or, set, replicate, length-set, length-replicate}
use lib.Seq.{get_or-set_same, get_or-set_other}
use lib.Dec.{ltb, leb}
use borrow.Author.Tests.{lt-leb, le-leb, ltb-false}
use Rattle.basics.specs.Tests.{Cmp, cmp, below, equal, above}
use Rattle.listing.specs.Used.{marked}
use Rattle.label.specs.Limits.{first_variable, first_minimum, most_places}
use Rattle.label.specs.Labels.{place_at}
use Rattle.paths.specs.Inner.{InRange, AllInRange}
use Rattle.matcher.specs.Search.{places_in, any_of}
use Rattle.matcher.specs.Parts.{is_seen, shares, strange, worst, Ranked, Strangers, Best, SeenTo, Reordered, Takable, Taken, Separable, PartTaken}
use Rattle.matcher.specs.declared.Pick.{Pick}
use Rattle.matcher.proofs.AlongLaws.{along-in, any-hit, any-more, any_none, any-never}
use Rattle.matcher.proofs.WayLaws.{untaken}
use Rattle.matcher.proofs.MarkLaws.{marked-stays, marked-set, length_marked}

-- ===== is_seen, shares =====
module _ (seen : List ℕ) (t : ℕ) where
  pub seen_low : t < first_variable → false ≡ is_seen seen t
  unfolding is_seen
  seen_low h = rw (lt-leb first_variable t h)

  pub seen-is : {w : ℕ} → w ≡ get_or seen t 0 → first_variable ≤ t → ltb 0 w ≡ is_seen seen t
  unfolding is_seen
  seen-is e h = rw (e, le-leb first_variable t h)

  seen_none : is_seen seen t ≡ false → first_variable ≤ t → get_or seen t 0 ≡ 0
  unfolding is_seen
  seen_none e h = let f : ltb 0 (get_or seen t 0) ≡ false = sym (ap (λ (b : Bool). b && ltb 0 (get_or seen t 0)) (le-leb first_variable t h)) ∙ e in omega (arith, ltb-false 0 (get_or seen t 0) f)

-- the places before k have no seen variable
pub record Sharing (seen : List ℕ) (x k : ℕ) : Type 0 where
  pub most : k ≤ most_places
  pub none : any_of (λ i. is_seen seen (place_at (x / 2) i)) k ≡ false

pub sharing-start : (seen : List ℕ) (x : ℕ) → Sharing seen x 0
unfolding any_of
sharing-start seen x = record { most = omega arith; none = refl }

module _ {seen : List ℕ} {x k t : ℕ} {b : Bool} (s : Sharing seen x k) (h : k < most_places) (e : t ≡ place_at (x / 2) k) (p : b ≡ is_seen seen t) where
  at_place : is_seen seen (place_at (x / 2) k) ≡ b
  at_place = ap (is_seen seen) (sym e) ∙ sym p

  pub sharing-hit : b ≡ true → true ≡ shares seen x
  unfolding shares
  sharing-hit q = sym (any-hit (λ i. is_seen seen (place_at (x / 2) i)) most_places k h (at_place ∙ q))

  pub sharing-next : b ≡ false → Sharing seen x (k + 1)
  sharing-next q = record { most = omega arith; none = any-more (λ i. is_seen seen (place_at (x / 2) i)) k s.none (at_place ∙ q) }

pub sharing-end : {seen : List ℕ} {x k : ℕ} → Sharing seen x k → most_places ≤ k → false ≡ shares seen x
unfolding shares
sharing-end {seen} {x} {k} s h =
    let e : k ≡ most_places = omega (arith, s.most) in
    sym (subst (λ (n : ℕ). any_of (λ i. is_seen seen (place_at (x / 2) i)) n ≡ false) e s.none)

-- a literal that shares no seen variable
shares-none : (seen : List ℕ) (x : ℕ) → shares seen x ≡ false → (k : ℕ) → k < most_places → first_variable ≤ place_at (x / 2) k → get_or seen (place_at (x / 2) k) 0 ≡ 0
unfolding shares
shares-none seen x e k h l = seen_none seen (place_at (x / 2) k) (any_none (λ i. is_seen seen (place_at (x / 2) i)) most_places k e h) l

-- ===== rank =====
pub rank-known : (seen : List ℕ) (x : ℕ) → Ranked seen x 0
rank-known seen x = record { most = omega arith; strangers = λ k. absurd (omega arith) }

module _ (seen : List ℕ) (x : ℕ) {n : ℕ} (h : n ≤ most_places) where
  pub rank-strange : {b : Bool} → b ≡ shares seen x → not b ≡ true → Ranked seen x (strange + n * 2)
  rank-strange p e = record { most = omega arith; strangers = λ k. sym p ∙ untaken e }

  pub rank-equal : Ranked seen x (n * 2 + 1)
  rank-equal = record { most = omega arith; strangers = λ k. absurd (omega arith) }

  pub rank-other : Ranked seen x (n * 2)
  rank-other = record { most = omega arith; strangers = λ k. absurd (omega arith) }

-- ===== best =====

-- the literals from k to i are looked at, the one of lowest rank is `at`
pub record Choosing (ord seen : List ℕ) (k i at low : ℕ) : Type 0 where
  pub from : k ≤ i
  pub most : i ≤ length ord
  pub at_from : k ≤ at
  pub at-below : at < length ord
  pub strangers : strange ≤ low → (j : ℕ) → k ≤ j → j < i → shares seen (get_or ord j 0) ≡ false

pub choosing-start : {ord : List ℕ} (seen : List ℕ) {k : ℕ} → k < length ord → Choosing ord seen k k k worst
choosing-start seen h = record { from = omega arith; most = omega arith; at_from = omega arith; at-below = h; strangers = λ l j a b. absurd (omega arith) }

module _ {ord seen : List ℕ} {k i at low : ℕ} (c : Choosing ord seen k i at low) (h : i < length ord) {w r : ℕ} (e : w ≡ get_or ord i 0) (q : Ranked seen w r) where
  here : strange ≤ r → shares seen (get_or ord i 0) ≡ false
  here l = ap (shares seen) (sym e) ∙ q.strangers l

  more : (strange ≤ low) → (strange ≤ r) → (j : ℕ) → k ≤ j → j < i + 1 → Cmp j i → shares seen (get_or ord j 0) ≡ false
  more l m j a b (below d) = c.strangers l j a d
  more l m j a b (equal d) = ap (λ (y : ℕ). shares seen (get_or ord y 0)) d ∙ here m
  more l m j a b (above d) = absurd (omega arith)

  pub choosing-lower : r < low → Choosing ord seen k (i + 1) i r
  choosing-lower l = record {
    from = omega (arith, c.from);
    most = omega arith;
    at_from = c.from;
    at-below = h;
    strangers = λ m j a b. more (omega arith) m j a b (cmp j i);
  }

  pub choosing-same : low ≤ r → Choosing ord seen k (i + 1) at low
  choosing-same l = record {
    from = omega (arith, c.from);
    most = omega arith;
    at_from = c.at_from;
    at-below = c.at-below;
    strangers = λ m j a b. more m (omega arith) j a b (cmp j i);
  }

pub choosing-known : {ord seen : List ℕ} {k i at low : ℕ} → Choosing ord seen k i at low → i < length ord → Best ord seen k (record { at = i; rank = 0 })
choosing-known c h = record { from = c.from; below = h; strangers = λ l. absurd (omega arith) }

pub choosing-end : {ord seen : List ℕ} {k i at low : ℕ} → Choosing ord seen k i at low → length ord ≤ i → Best ord seen k (record { at = at; rank = low })
choosing-end c h = record { from = c.at_from; below = c.at-below; strangers = λ l. record { each = λ j a b. c.strangers l j a (omega arith) } }

-- ===== take_literal =====
pub take-room : {ord seen : List ℕ} {k at : ℕ} → Takable ord seen k at → (v : ℕ) → k < length (set ord at v)
take-room {ord} {seen} {k} {at} g v = omega (arith, g.from, g.below, length-set ord at v)

module _ {ord seen : List ℕ} {k at : ℕ} (g : Takable ord seen k at) where
  abbrev swapped : List ℕ
  swapped = set (set ord at (get_or ord k 0)) k (get_or ord at 0)

  at-k : get_or swapped k 0 ≡ get_or ord at 0
  at-k = get_or-set_same (set ord at (get_or ord k 0)) k (get_or ord at 0) 0 (take-room g (get_or ord k 0))

  at_other : (i : ℕ) → (i ≡ k → ⊥) → (i ≡ at → ⊥) → get_or swapped i 0 ≡ get_or ord i 0
  at_other i a b = get_or-set_other (set ord at (get_or ord k 0)) k i (get_or ord at 0) 0 a ∙ get_or-set_other ord at i (get_or ord k 0) 0 b

  at_at : (at ≡ k → ⊥) → get_or swapped at 0 ≡ get_or ord k 0
  at_at a = get_or-set_other (set ord at (get_or ord k 0)) k at (get_or ord at 0) 0 a ∙ get_or-set_same ord at (get_or ord k 0) 0 g.below

  swap-reordered : Reordered k ord swapped
  swap-reordered = record {
    length-same = length-set (set ord at (get_or ord k 0)) k (get_or ord at 0) ∙ length-set ord at (get_or ord k 0);
    front = λ i h. at_other i (omega arith) (omega (arith, g.from));
    back = λ i a b. back i a b (cmp i k) (cmp i at);
    forth = λ i a b. forth i a b (cmp i k) (cmp i at);
  }
    where
      back : (i : ℕ) → k ≤ i → i < length ord → Cmp i k → Cmp i at → (j : ℕ) × (k ≤ j) × (j < length ord) × (get_or swapped i 0 ≡ get_or ord j 0)
      back i a b (below p) q = absurd (omega arith)
      back i a b (equal p) q = (at, g.from, g.below, ap (λ (y : ℕ). get_or swapped y 0) p ∙ at-k)
      back i a b (above p) (below q) = (i, a, b, at_other i (omega arith) (omega arith))
      back i a b (above p) (equal q) = (k, omega arith, omega arith, ap (λ (y : ℕ). get_or swapped y 0) q ∙ at_at (omega arith))
      back i a b (above p) (above q) = (i, a, b, at_other i (omega arith) (omega arith))

      first : (i : ℕ) → i ≡ k → Cmp at k → (j : ℕ) × (k ≤ j) × (j < length ord) × (get_or ord i 0 ≡ get_or swapped j 0)
      first i p (below q) = absurd (omega (arith, g.from))
      first i p (equal q) = (k, omega arith, omega (arith, g.below), ap (λ (y : ℕ). get_or ord y 0) (p ∙ sym q) ∙ sym at-k)
      first i p (above q) = (at, g.from, g.below, ap (λ (y : ℕ). get_or ord y 0) p ∙ sym (at_at (omega arith)))

      forth : (i : ℕ) → k ≤ i → i < length ord → Cmp i k → Cmp i at → (j : ℕ) × (k ≤ j) × (j < length ord) × (get_or ord i 0 ≡ get_or swapped j 0)
      forth i a b (below p) q = absurd (omega arith)
      forth i a b (equal p) q = first i p (cmp at k)
      forth i a b (above p) (below q) = (i, a, b, sym (at_other i (omega arith) (omega arith)))
      forth i a b (above p) (equal q) = (k, omega arith, omega arith, ap (λ (y : ℕ). get_or ord y 0) q ∙ sym at-k)
      forth i a b (above p) (above q) = (i, a, b, sym (at_other i (omega arith) (omega arith)))

  pub swap-taken : {w : ℕ} {seen' : List ℕ} → w ≡ get_or ord at 0 → seen' ≡ marked (places_in (w / 2)) seen → Taken ord k swapped seen'
  swap-taken {w} {seen'} e q = record {
    reordered = swap-reordered;
    seen-to = record { room = omega (arith, ap length q, length_marked (places_in (w / 2)) seen, g.seen-to.room); each = λ i j a b. each i j a b (cmp i k) };
  }
    where
      small : (i j : ℕ) → i < length ord → j < most_places → place_at (get_or ord i 0 / 2) j < length seen
      small i j a b = omega (arith, (g.ranged.each i a).places j b, g.seen-to.room)

      each : (i j : ℕ) → i < k + 1 → j < most_places → Cmp i k → 0 < get_or seen' (place_at (get_or swapped i 0 / 2) j) 0
      each i j a b (below c) =
          subst (λ (y : ℕ). 0 < get_or seen' (place_at (y / 2) j) 0) (sym (at_other i (omega arith) (omega (arith, g.from))))
          (subst (λ (ms : List ℕ). 0 < get_or ms (place_at (get_or ord i 0 / 2) j) 0) (sym q)
          (marked-stays (places_in (w / 2)) seen (place_at (get_or ord i 0 / 2) j) (small i j (omega (arith, g.from, g.below)) b) (g.seen-to.each i j c b)))
      each i j a b (equal c) =
          subst (λ (y : ℕ). 0 < get_or seen' (place_at (y / 2) j) 0) (e ∙ sym (ap (λ (y : ℕ). get_or swapped y 0) c ∙ at-k))
          (subst (λ (ms : List ℕ). 0 < get_or ms (place_at (w / 2) j) 0) (sym q)
          (marked-set (places_in (w / 2)) seen (place_at (w / 2) j) (subst (λ (y : ℕ). place_at (y / 2) j < length seen) (sym e) (small at j g.below b))
          (along-in (place_at (w / 2)) most_places j b)))
      each i j a b (above c) = absurd (omega arith)

-- the literals in another order are still in range
pub reordered-range : {k : ℕ} {ord ord' : List ℕ} → Reordered k ord ord' → AllInRange first_minimum ord → AllInRange first_minimum ord'
reordered-range {k} {ord} {ord'} r g = record { each = λ i h. at i (omega (arith, r.length-same)) (cmp i k) }
  where
    later : (i : ℕ) → k ≤ i → i < length ord → InRange first_minimum (get_or ord' i 0 / 2)
    later i a h = let x = r.back i a h in subst (λ (y : ℕ). InRange first_minimum (y / 2)) (sym x.3) (g.each x.0 x.2)

    at : (i : ℕ) → i < length ord → Cmp i k → InRange first_minimum (get_or ord' i 0 / 2)
    at i h (below c) = subst (λ (y : ℕ). InRange first_minimum (y / 2)) (sym (r.front i c)) (g.each i h)
    at i h (equal c) = later i (omega arith) h
    at i h (above c) = later i (omega arith) h

-- ===== next_part =====
reordered-after : {k e : ℕ} {ord ord₁ ord₂ : List ℕ} → k ≤ e → Reordered k ord ord₁ → Reordered e ord₁ ord₂ → Reordered k ord ord₂
reordered-after {k} {e} {ord} {ord₁} {ord₂} h r s = record {
  length-same = s.length-same ∙ r.length-same;
  front = λ i a. s.front i (omega arith) ∙ r.front i a;
  back = λ i a b. back i a b (cmp i e);
  forth = λ i a b. let x = r.forth i a b in forth i x.0 x.1 x.2 x.3 (cmp x.0 e);
}
  where
    then : (i j : ℕ) → k ≤ j → j < length ord → get_or ord₂ i 0 ≡ get_or ord₁ j 0 → (l : ℕ) × (k ≤ l) × (l < length ord) × (get_or ord₂ i 0 ≡ get_or ord l 0)
    then i j a b q = let x = r.back j a b in (x.0, x.1, x.2, q ∙ x.3)

    moved : (i : ℕ) → k ≤ i → i < length ord → e ≤ i → (l : ℕ) × (k ≤ l) × (l < length ord) × (get_or ord₂ i 0 ≡ get_or ord l 0)
    moved i a b c = let x = s.back i c (omega (arith, r.length-same)) in then i x.0 (omega (arith, x.1)) (omega (arith, x.2, r.length-same)) x.3

    back : (i : ℕ) → k ≤ i → i < length ord → Cmp i e → (l : ℕ) × (k ≤ l) × (l < length ord) × (get_or ord₂ i 0 ≡ get_or ord l 0)
    back i a b (below c) = then i i a b (s.front i c)
    back i a b (equal c) = moved i a b (omega arith)
    back i a b (above c) = moved i a b (omega arith)

    later : (i j : ℕ) → k ≤ j → j < length ord → get_or ord i 0 ≡ get_or ord₁ j 0 → e ≤ j → (l : ℕ) × (k ≤ l) × (l < length ord) × (get_or ord i 0 ≡ get_or ord₂ l 0)
    later i j a b q c =
        let x = s.forth j c (omega (arith, r.length-same)) in
        (x.0, omega (arith, x.1), omega (arith, x.2, r.length-same), q ∙ x.3)

    forth : (i j : ℕ) → k ≤ j → j < length ord → get_or ord i 0 ≡ get_or ord₁ j 0 → Cmp j e → (l : ℕ) × (k ≤ l) × (l < length ord) × (get_or ord i 0 ≡ get_or ord₂ l 0)
    forth i j a b q (below c) = (j, a, b, q ∙ sym (s.front j c))
    forth i j a b q (equal c) = later i j a b q (omega arith)
    forth i j a b q (above c) = later i j a b q (omega arith)

-- the part goes from k as far as e; its first literal is taken in ord₀
pub record Parting (ord₀ : List ℕ) (k : ℕ) (ord seen : List ℕ) (e : ℕ) : Type 0 where
  pub more : k < e
  pub most : e ≤ length ord₀
  pub ranged : AllInRange first_minimum ord
  pub reordered : Reordered k ord₀ ord
  pub seen-to : SeenTo ord seen e

pub parting-takable : {ord seen : List ℕ} {k : ℕ} {b : Pick} → Separable ord seen k → Best ord seen k b → Takable ord seen k b.at
parting-takable g b = record { ranged = g.ranged; seen-to = g.seen-to; from = b.from; below = b.below }

pub parting-start : {ord seen : List ℕ} {k : ℕ} {ord' seen' : List ℕ} → Separable ord seen k → Taken ord k ord' seen' → Parting ord' k ord' seen' (k + 1)
parting-start g t = record {
  more = omega arith;
  most = omega (arith, g.some, t.reordered.length-same);
  ranged = reordered-range t.reordered g.ranged;
  reordered = record { length-same = refl; front = λ i h. refl; back = λ i a b. (i, a, b, refl); forth = λ i a b. (i, a, b, refl) };
  seen-to = t.seen-to;
}

module _ {ord₀ : List ℕ} {k : ℕ} {ord seen : List ℕ} {e : ℕ} (p : Parting ord₀ k ord seen e) where
  pub parting-more : {b : Pick} → Best ord seen e b → Takable ord seen e b.at
  parting-more b = record { ranged = p.ranged; seen-to = p.seen-to; from = b.from; below = b.below }

  pub parting-next : {ord' seen' : List ℕ} → e < length ord₀ → Taken ord e ord' seen' → Parting ord₀ k ord' seen' (e + 1)
  parting-next h t = record {
    more = omega (arith, p.more);
    most = omega arith;
    ranged = reordered-range t.reordered p.ranged;
    reordered = reordered-after (omega (arith, p.more)) p.reordered t.reordered;
    seen-to = t.seen-to;
  }

  module _ {ord₁ seen₀ : List ℕ} (t : Taken ord₁ k ord₀ seen₀) where
    parting-done : Strangers ord seen e → PartTaken ord₁ k e ord seen
    parting-done s = record {
      more = p.more;
      most = omega (arith, p.most, t.reordered.length-same);
      reordered = reordered-after (omega arith) t.reordered p.reordered;
      seen-to = p.seen-to;
      strangers = s;
    }

    pub parting-found : {b : Pick} → Best ord seen e b → strange ≤ b.rank → PartTaken ord₁ k e ord seen
    parting-found b h = parting-done (b.strangers h)

    pub parting-end : length ord₀ ≤ e → PartTaken ord₁ k (length ord) ord seen
    parting-end h =
        let q : e ≡ length ord = omega (arith, p.most, p.reordered.length-same) in
        subst (λ (i : ℕ). PartTaken ord₁ k i ord seen) q (parting-done (record { each = λ i a b. absurd (omega arith) }))

-- ===== match_parts =====

-- nothing is seen at the start
zero-shares : (seen : List ℕ) → ((t : ℕ) → get_or seen t 0 ≡ 0) → (x : ℕ) → shares seen x ≡ false
unfolding shares
zero-shares seen z x = any-never (λ i. is_seen seen (place_at (x / 2) i)) most_places (λ k h. unseen (place_at (x / 2) k))
  where
    no : (b : Bool) → (b && false) ≡ false
    no true = refl
    no false = refl

    unseen : (t : ℕ) → is_seen seen t ≡ false
    unseen t = unfold is_seen in (ap (λ (w : ℕ). leb first_variable t && ltb 0 w) (z t) ∙ no (leb first_variable t))

get_d-zeros : (m t : ℕ) → ◌≡◌ {A = ℕ} (get_or (replicate m 0) t 0) 0
get_d-zeros zero t = refl
get_d-zeros (suc m) zero = refl
get_d-zeros (suc m) (suc t) = get_d-zeros m t

pub seen_start : (ord : List ℕ) (m : ℕ) → first_minimum ≤ m → SeenTo ord (replicate m 0) 0 × Strangers ord (replicate m 0) 0
seen_start ord m h = (
  record { room = omega (arith, length-replicate {A = ℕ} m 0); each = λ i j a b. absurd (omega arith) },
  record { each = λ i a b. zero-shares (replicate m 0) (get_d-zeros m) (get_or ord i 0) },
)

-- a literal of the first k and one behind share no variable
pub seen_apart : {ord seen : List ℕ} {k : ℕ} → SeenTo ord seen k → Strangers ord seen k → (i j a b : ℕ) → i < k → a < most_places → k ≤ j → j < length ord → b < most_places
    → (t : ℕ) → t ≡ place_at (get_or ord i 0 / 2) a → t ≡ place_at (get_or ord j 0 / 2) b → t < first_variable
seen_apart {ord} {seen} {k} s g i j a b h l m n o t p q = go (cmp t first_variable)
  where
    no : first_variable ≤ t → ⊥
    no z =
        let u = shares-none seen (get_or ord j 0) (g.each j m n) b o (omega arith) in
        let v = s.each i a h l in
        let w : get_or seen t 0 ≡ 0 = ap (λ (y : ℕ). get_or seen y 0) q ∙ u in
        let x : 0 < get_or seen t 0 = subst (λ (y : ℕ). 0 < get_or seen y 0) (sym p) v in
        omega arith

    go : Cmp t first_variable → t < first_variable
    go (below c) = c
    go (equal c) = absurd (no (omega arith))
    go (above c) = absurd (no (omega arith))
