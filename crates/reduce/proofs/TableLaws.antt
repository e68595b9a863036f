-- Laws of the tables of facts.
use mathlib.Core.Path.{◌≡◌, refl, sym, ap, subst, ◌∙◌}
use mathlib.Core.Bool.{Bool, true, false, not, cond}
use mathlib.Core.List.{List, ◌∷◌}
use Prim.Native.Nat.{ℕ, zero, suc, ◌+◌, ◌-◌, ◌*◌, ◌/◌, ◌%◌, ◌^◌, ◌≤◌, ◌<◌}
use native.Mathlib.Omega.{arith}
use native.Mathlib.Nat.{pow-suc, mul-div_cancel, mod-lt, zero-add, add-zero}
use native.Mathlib.Numerals.{add-one}
use lib.ListN.{length, get_or, set}
use lib.Seq.{get_or-set_same, get_or-set_other}
use lib.Dec.{eqb}
use borrow.Author.Tests.{eq-eqb, ne_eqb}
use Rattle.basics.specs.Tests.{Cmp, cmp, below, equal, above}
use Rattle.basics.specs.Members.{mem}
use Rattle.label.specs.Limits.{leaf_mark, term_end, first_variable, variable_count, first_minimum}
use Rattle.label.specs.Inner.{map_of}
use Rattle.label.specs.Renamings.{rank, renamed}
use Rattle.label.specs.Callers.{TermMap, Movable}
use Rattle.diagram.specs.Words.{label_at}
use Rattle.rename.specs.Maps.{used_from, used_variables, is_used}
use Rattle.rename.specs.MapLaws.{rank-next, used-variable, used-variables-ascending}
use Rattle.rename.specs.AscendingLaws.{ascending-not, rank-none}
use Rattle.reduce.specs.Tables.{digits, Divided, Placed, Dividing, Ranked, Mapping, Mapped, fact_word, Labelled, Filled}

-- ===== `objects_into` =====
digits_more : (n c i : ℕ) → digits n (suc c) i ≡ (i / n ^ c) ∷ digits n c (i % n ^ c)
unfolding digits
digits_more n c i = refl

pub divide-start : {v all i : ℕ} {out : List ℕ} → Divided v all i out → Dividing v i out out 0 (v - 0) i all
divide-start {v} {all} {i} {out} g = subst (λ (e : ℕ). Dividing v i out out 0 e i all) (let z : v ≡ v - 0 = omega arith in z) (record {
  rest = omega arith;
  power = g.power;
  below = g.one;
  done = λ k h. absurd (omega arith);
  kept = λ k h. refl;
  come = λ k. ap (λ (x : ℕ). get_or (digits v v i) x 0) (zero-add k);
})

module _ {v i : ℕ} {out₀ out : List ℕ} {j e x p : ℕ} (g : Dividing v i out₀ out j e x p) (h : j < v) where
  left : ℕ
  left = e - 1

  one_left : e ≡ suc left
  unfolding left
  one_left = omega (arith, g.rest)

  power-is : p ≡ v ^ left * v
  power-is = g.power ∙ ap (λ (k : ℕ). v ^ k) one_left ∙ pow-suc v left

  next_power : p / v ≡ v ^ left
  next_power = ap (λ (k : ℕ). k / v) power-is ∙ mul-div_cancel (v ^ left) (omega arith)

  positive : (a b : ℕ) → x < a * b → 0 < a
  positive zero b l = absurd (let z : zero * b ≡ 0 = omega arith in omega arith)
  positive (suc a) b l = omega arith

  some-power : 0 < v ^ left
  some-power = positive (v ^ left) v (subst (λ (k : ℕ). x < k) power-is g.below)

  pub power-some : 0 < p / v
  power-some = omega (arith, next_power, some-power)

  pub divide-more : j < length out → Dividing v i out₀ (set out j (x / (p / v))) (j + 1) (e - 1) (x % (p / v)) (p / v)
  unfolding left
  divide-more l = record {
    rest = omega (arith, g.rest);
    power = next_power;
    below = mod-lt x (omega (arith, next_power, some-power));
    done = λ k b. done k b (cmp k j);
    kept = λ k b. get_or-set_other out j k (x / (p / v)) 0 (λ z. omega arith) ∙ g.kept k (omega arith);
    come = λ k. ap (λ (y : ℕ). get_or (digits v v i) y 0) (let z : j + 1 + k ≡ j + suc k = omega arith in z) ∙ g.come (suc k) ∙ ap (λ (l : List ℕ). get_or l (suc k) 0) first
        ∙ ap (λ (y : ℕ). get_or (digits v (e - 1) (x % y)) k 0) (sym next_power);
  }
    where
      first : digits v e x ≡ (x / v ^ (e - 1)) ∷ digits v (e - 1) (x % v ^ (e - 1))
      first = ap (λ (k : ℕ). digits v k x) one_left ∙ digits_more v (e - 1) x

      here : x / (p / v) ≡ get_or (digits v v i) j 0
      here =
          ap (λ (y : ℕ). x / y) next_power ∙ sym (ap (λ (l : List ℕ). get_or l 0 0) first) ∙ sym (g.come 0)
          ∙ ap (λ (y : ℕ). get_or (digits v v i) y 0) (add-zero j)

      done : (k : ℕ) → k < j + 1 → Cmp k j → get_or (set out j (x / (p / v))) k 0 ≡ get_or (digits v v i) k 0
      done k b (below q) = get_or-set_other out j k (x / (p / v)) 0 (λ z. omega arith) ∙ g.done k q
      done k b (equal q) = rw (q, get_or-set_same out j (x / (p / v)) 0 l) here
      done k b (above q) = absurd (omega arith)

pub divide-next : {v i : ℕ} {out₀ out : List ℕ} {j x p : ℕ} → Dividing v i out₀ out j (v - j) x p → j < v → j < length out
    → Dividing v i out₀ (set out j (x / (p / v))) (j + 1) (v - (j + 1)) (x % (p / v)) (p / v)
divide-next {v} {i} {out₀} {out} {j} {x} {p} g h l =
    subst (λ (e : ℕ). Dividing v i out₀ (set out j (x / (p / v))) (j + 1) e (x % (p / v)) (p / v)) (let z : v - j - 1 ≡ v - (j + 1) = omega arith in z) (divide-more g h l)

pub divide-end : {v i : ℕ} {out₀ out : List ℕ} {j e x p : ℕ} → Dividing v i out₀ out j e x p → v ≤ j → Placed v i out₀ out
divide-end g h = record { each = λ k l. g.done k (omega arith); kept = λ k l. g.kept k (omega (arith, g.rest)) }

-- ===== `rank_after`, `object_map` =====
used-is : (marks : List ℕ) (t : ℕ) → is_used marks t ≡ not (eqb (get_or marks t 0) 0)
unfolding is_used
used-is marks t = refl

-- behind the last of them there is no variable
used-beyond : (marks : List ℕ) (t n u : ℕ) → t + n ≤ u → mem eqb u (used_from marks t n) ≡ false
unfolding used_from
used-beyond marks t zero u h = refl
used-beyond marks t (suc n) u h = go (is_used marks t) (used-beyond marks (suc t) n u (omega arith))
  where
    go : (b : Bool) → mem eqb u (used_from marks (suc t) n) ≡ false → mem eqb u (cond b (t ∷ used_from marks (suc t) n) (used_from marks (suc t) n)) ≡ false
    go true e = rw (ne_eqb u t (omega arith)) e
    go false e = e

module _ (marks : List ℕ) (t : ℕ) where
  abbrev U : List ℕ
  U = used_variables marks

  next-rank : rank U (t + 1) ≡ rank U t + cond (mem eqb t U) 1 0
  next-rank = ap (rank U) (add-one t) ∙ rank-next first_variable U t (used-variables-ascending marks)

  rank_same : {c : ℕ} → mem eqb t U ≡ false → Ranked marks t c → Ranked marks (t + 1) c
  rank_same {c} e g = record {
    is = sym (next-rank ∙ ap (λ (b : Bool). rank U t + cond b 1 0) e ∙ omega (arith, g.is));
    most = omega (arith, g.most);
  }

  pub rank-low : {c : ℕ} → t < first_variable → Ranked marks t c → Ranked marks (t + 1) c
  rank-low h g = rank_same (ascending-not first_variable U t (used-variables-ascending marks) h) g

  pub rank-high : {c : ℕ} → first_minimum ≤ t → Ranked marks t c → Ranked marks (t + 1) c
  rank-high h g = rank_same (unfold used_variables in used-beyond marks first_variable variable_count t (omega arith)) g

  module _ (h : first_variable ≤ t) (l : t < first_minimum) where
    used-here : (b : Bool) → eqb (get_or marks t 0) 0 ≡ b → mem eqb t U ≡ not b
    used-here b e = used-variable marks t h l ∙ used-is marks t ∙ ap not e

    pub rank-unused : {c : ℕ} → get_or marks t 0 ≡ 0 → Ranked marks t c → Ranked marks (t + 1) c
    rank-unused z g = rank_same (used-here true (eq-eqb (get_or marks t 0) 0 z)) g

    pub rank-used : {c : ℕ} → (get_or marks t 0 ≡ 0 → ⊥) → Ranked marks t c → Ranked marks (t + 1) (c + 1)
    rank-used {c} z g = record {
      is = sym (next-rank ∙ ap (λ (b : Bool). rank U t + cond b 1 0) (used-here false (ne_eqb (get_or marks t 0) 0 z)) ∙ omega (arith, g.is));
      most = omega (arith, g.most);
    }

pub rank-start : (marks : List ℕ) → Ranked marks 0 0
rank-start marks = record { is = sym (rank-none first_variable (used_variables marks) 0 (used-variables-ascending marks) (omega arith)); most = omega arith }

pub map-start : (marks objects map : List ℕ) → Mapped marks objects map 0
map-start marks objects map = record { each = λ u h. absurd (omega arith) }

pub map_more : {marks objects map₀ map : List ℕ} {t c : ℕ} → Mapping marks objects map₀ → length map ≡ length map₀ → t < term_end → Mapped marks objects map t → Ranked marks t c
    → Mapped marks objects (set map t (get_or objects c 0)) (t + 1)
map_more {marks} {objects} {map₀} {map} {t} {c} w o b g e = record { each = λ u h. each u h (cmp u t) }
  where
    l : t < length map
    l = omega (arith, w.whole)

    each : (u : ℕ) → u < t + 1 → Cmp u t → get_or (set map t (get_or objects c 0)) u 0 ≡ get_or objects (rank (used_variables marks) u) 0
    each u h (below q) = get_or-set_other map t u (get_or objects c 0) 0 (λ z. omega arith) ∙ g.each u q
    each u h (equal q) = rw (q, get_or-set_same map t (get_or objects c 0) 0 l) (ap (λ (y : ℕ). get_or objects y 0) e.is)
    each u h (above q) = absurd (omega arith)

pub map-end : {marks objects map : List ℕ} {t : ℕ} → Mapped marks objects map t → term_end ≤ t → Mapped marks objects map term_end
map-end g h = record { each = λ u l. g.each u (omega arith) }

-- ===== `fact_word`, `fact_rows` =====
module _ {ar ws : List ℕ} {n : ℕ} (g : Labelled ar ws n) {map : List ℕ} (m : TermMap map) {r : ℕ} (h : r < n) where
  pub word-leaf : get_or ws (r * 3) 0 ≡ leaf_mark → 0 ≡ fact_word ar ws map r
  unfolding fact_word label_at
  word-leaf e = rw (eq-eqb (get_or ws (r * 3) 0) leaf_mark e)

  module _ (e : get_or ws (r * 3) 0 ≡ leaf_mark → ⊥) where
    pub word-movable : Movable ar map (get_or ws (r * 3) 0)
    unfolding label_at
    word-movable = record { arities = g.arities; terms = m; label = g.labels r h e }

    pub word-branch : {x : ℕ} → x ≡ renamed ar (map_of map) (get_or ws (r * 3) 0) → x ≡ fact_word ar ws map r
    unfolding fact_word label_at
    word-branch q = q ∙ rw (ne_eqb (get_or ws (r * 3) 0) leaf_mark e)

pub fill_start : (ar ws map : List ℕ) (base : ℕ) (facts : List ℕ) → Filled ar ws map base 0 facts facts
fill_start ar ws map base facts = record { each = λ k h. absurd (omega arith); front = λ j h. refl; behind = λ j h. refl }

pub fill_more : {ar ws map : List ℕ} {base r x : ℕ} {facts₀ facts : List ℕ} → Filled ar ws map base r facts₀ facts → base + r < length facts → x ≡ fact_word ar ws map r
    → Filled ar ws map base (r + 1) facts₀ (set facts (base + r) x)
fill_more {ar} {ws} {map} {base} {r} {x} {facts₀} {facts} g l e = record {
  each = λ k h. each k h (cmp k r);
  front = λ j h. get_or-set_other facts (base + r) j x 0 (λ z. omega arith) ∙ g.front j h;
  behind = λ j h. get_or-set_other facts (base + r) j x 0 (λ z. omega arith) ∙ g.behind j (omega arith);
}
  where
    each : (k : ℕ) → k < r + 1 → Cmp k r → get_or (set facts (base + r) x) (base + k) 0 ≡ fact_word ar ws map k
    each k h (below q) = get_or-set_other facts (base + r) (base + k) x 0 (λ z. omega arith) ∙ g.each k q
    each k h (equal q) = rw (q, get_or-set_same facts (base + r) x 0 l) e
    each k h (above q) = absurd (omega arith)

pub fill_end : {ar ws map : List ℕ} {base r n : ℕ} {facts₀ facts : List ℕ} → Filled ar ws map base r facts₀ facts → r ≤ n → n ≤ r → Filled ar ws map base n facts₀ facts
fill_end {ar} {ws} {map} {base} {r} {n} {facts₀} {facts} g h k = let e : r ≡ n = omega arith in subst (λ (y : ℕ). Filled ar ws map base y facts₀ facts) e g
