-- Laws of the sets of variables that the code makes, of their sizes, and of the cases of a label, in the words of the code.
use mathlib.Core.Path.{◌≡◌, refl, ap, sym, ◌∙◌, subst}
use mathlib.Core.Bool.{Bool, true, false, cond}
use mathlib.Core.List.{List, [], ◌∷◌}
use Prim.Native.Nat.{ℕ, suc, ◌+◌, ◌-◌, ◌*◌, ◌/◌, ◌%◌, ◌^◌, ◌≤◌, ◌<◌, min}
use native.Mathlib.Omega.{arith}
use native.Mathlib.Nat.{pow-zero, pow-succ', mul_assoc, one-le-pow, mul-le-mul_left, mul-le-mul_right, le_trans}
use native.Mathlib.Numerals.{add-one}
use lib.ListN.{length, get_or}
use lib.Pow.{shl_exact}
use lib.Bits.{bit_or}
use lib.Dec.{eqb, leb}
use borrow.Author.Tests.{eqb-true, leb-true, le-leb, lt-leb, eq-eqb}
use Rattle.basics.specs.Tests.{and_left, and_right, Cmp, below, equal, above, cmp, Either, one, other, either, or-one, or-other}
use Rattle.basics.specs.Members.{mem, clash}
use Rattle.label.specs.Limits.{first_variable, first_minimum, term_end, most_places}
use Rattle.label.specs.Labels.{predicate_of, place_at, unpacked, terms_of}
use Rattle.rename.specs.AscendingLaws.{ascending-one, mem-place}
use Rattle.state.specs.State.{atom_of}
use Rattle.elimination.specs.Tables.{sum_to}
use Rattle.elimination.specs.Elimination.{label_variables, most_entries}
use Rattle.elimination.proofs.NameLaws.{Whence, new, old, in-vars_of, vars_of-in, vars_of-ascending}
use Rattle.eliminate.specs.Masks.{names_of, env_of, decoded}
use Rattle.eliminate.specs.MaskLaws.{names-zero, of_zero, of-ascending, of-below, of_or, of_one}
use Rattle.eliminate.specs.PlaceLaws.{Within, decoded-length, decoded-other, decoded-range, decoded-over}
use Rattle.eliminate.specs.Calls.{Decodable, Asked, One, Labelled, tells, cases_of, Countable, Moved, Counted}
use Rattle.eliminate.proofs.DigitLaws.{onwards, none-onwards, odd-onwards, even-onwards}
use Rattle.eliminate.proofs.TruthLaws.{asked-arity, terms-length, term-at}

-- ===== One variable =====
pub one_none : (t : ℕ) → t < first_variable → One t 0
one_none t h = record { is = λ u. rw (of_zero, lt-leb first_variable t h) }

pub one-some : (t : ℕ) → t < first_minimum → first_variable ≤ t → One t (1 * 2 ^ (t - first_variable) % 2 ^ 64)
one-some t h f = record {
  is = λ u.
      let e : first_variable + (t - first_variable) ≡ t = omega arith in
      rw (shl_exact {a = 1} 1 (t - first_variable) 64 (omega arith) (omega arith), of_one (t - first_variable) u (omega arith), e, le-leb first_variable t f);
}

-- ===== The variables of a label =====
place-mem : (u : ℕ) (xs : List ℕ) → mem eqb u xs ≡ true → (k : ℕ) × (k < length xs) × (get_or xs k 0 ≡ u)
place-mem u [] e = clash e refl
place-mem u (x ∷ xs) e = go (either (eqb u x) (mem eqb u xs) e) (place-mem u xs)
  where
    go : Either (eqb u x) (mem eqb u xs) → (mem eqb u xs ≡ true → (k : ℕ) × (k < length xs) × (get_or xs k 0 ≡ u))
        → (k : ℕ) × (k < suc (length xs)) × (get_or (x ∷ xs) k 0 ≡ u)
    go (one q) ih = (0, omega arith, sym (eqb-true u x q))
    go (other q) ih = let r = ih q in (suc r.0, omega (arith, r.1), r.2)

-- the variables of the first k places
pub record Gathering (ar : List ℕ) (l arity set k : ℕ) : Type 0 where
  pub labelled : Labelled ar l
  pub arity-is : arity ≡ get_or ar (predicate_of l) 0
  pub few : arity ≤ most_places
  pub end : k ≤ arity
  pub sound : (u : ℕ) → mem eqb u (names_of set) ≡ true → mem eqb u (label_variables ar l) ≡ true
  pub complete : (j : ℕ) → j < k → first_variable ≤ place_at l j → mem eqb (place_at l j) (names_of set) ≡ true

pub gather-start : (ar : List ℕ) (l : ℕ) {p : ℕ} → Labelled ar l → p ≡ predicate_of l → Gathering ar l (get_or ar p 0) 0 0
gather-start ar l {p} a e = record {
  labelled = a;
  arity-is = ap (λ q. get_or ar q 0) e;
  few = rw e (asked-arity a);
  end = omega arith;
  sound = λ u m. clash m (rw of_zero);
  complete = λ j h f. absurd (omega arith);
}

module _ {ar : List ℕ} {l arity set k : ℕ} (g : Gathering ar l arity set k) where
  pub gather-place : k < arity → k < most_places
  gather-place h = let f = g.few in omega arith

  pub gather-term : {t : ℕ} → k < arity → t ≡ place_at l k → t < first_minimum
  gather-term h e = rw e (g.labelled.plain k (rw (← g.arity-is) h))

  own : k < arity → first_variable ≤ place_at l k → mem eqb (place_at l k) (label_variables ar l) ≡ true
  unfolding label_variables atom_of
  own h f =
      let h' : k < get_or ar (predicate_of l) 0 = rw (← g.arity-is) h in
      let w = terms-length g.labelled in
      vars_of-in (place_at l k) (terms_of ar (unpacked l)) [] f
      (rw (← term-at g.labelled k h') (mem-place (terms_of ar (unpacked l)) k (omega arith)))

  pub gather-on : {t r : ℕ} → k < arity → t ≡ place_at l k → One t r → Gathering ar l arity (bit_or set r) (k + 1)
  gather-on {t} {r} h e o = record {
    labelled = g.labelled;
    arity-is = g.arity-is;
    few = g.few;
    end = omega arith;
    sound = λ u m. from u (either (mem eqb u (names_of set)) (mem eqb u (names_of r)) (sym (of_or set r u) ∙ m));
    complete = λ j q f. there j (cmp j k) q f;
  }
    where
      from : (u : ℕ) → Either (mem eqb u (names_of set)) (mem eqb u (names_of r)) → mem eqb u (label_variables ar l) ≡ true
      from u (one q) = g.sound u q
      from u (other q) =
          let z = sym (o.is u) ∙ q in
          let f = leb-true first_variable t (and_left (leb first_variable t) _ z) in
          let w = eqb-true u t (and_right (leb first_variable t) _ z) in
          rw (w, e) (own h (rw e at f))

      there : (j : ℕ) → Cmp j k → j < k + 1 → first_variable ≤ place_at l j → mem eqb (place_at l j) (names_of (bit_or set r)) ≡ true
      there j (below x) q f = of_or set r (place_at l j) ∙ or-one _ _ (g.complete j x f)
      there j (equal x) q f =
          let z : t ≡ place_at l j = rw x e in
          let f' : first_variable ≤ t = omega arith in
          of_or set r (place_at l j)
          ∙ or-other (mem eqb (place_at l j) (names_of set)) _ (o.is (place_at l j) ∙ rw (le-leb first_variable t f', eq-eqb (place_at l j) t (sym z)))
      there j (above x) q f = absurd (omega arith)

  pub gather-end : arity ≤ k → names_of set ≡ label_variables ar l
  unfolding label_variables atom_of
  gather-end h = ascending-one first_variable first_variable (names_of set) (label_variables ar l) (of-ascending set)
      (vars_of-ascending (terms_of ar (unpacked l)) [] tt) g.sound (λ u m. back u (in-vars_of u (terms_of ar (unpacked l)) [] m))
    where
      back : (u : ℕ) → Whence u (terms_of ar (unpacked l)) [] → mem eqb u (names_of set) ≡ true
      back u (old q) = clash q refl
      back u (new f q) =
          let r = place-mem u (terms_of ar (unpacked l)) q in
          let w = terms-length g.labelled in
          let i = g.arity-is in
          let b = r.1 in
          let z : place_at l r.0 ≡ u = sym (term-at g.labelled r.0 (omega arith)) ∙ r.2 in
          rw (← z) (g.complete r.0 (omega arith) (omega arith))

-- ===== Sizes =====
pub record Sizing (n m rest size v : ℕ) : Type 0 where
  pub some : 0 < n
  pub end : v ≤ first_minimum
  pub least : 1 ≤ size
  pub few : size ≤ most_entries
  pub is : size * n ^ length (onwards v rest) ≡ n ^ length (names_of m)

pub size-start : (n m : ℕ) → 0 < n → Sizing n m m 1 first_variable
unfolding names_of
size-start n m h = record { some = h; end = omega arith; least = omega arith; few = omega arith; is = omega arith }

module _ {n m rest size v : ℕ} (s : Sizing n m rest size v) where
  whole : onwards v rest ≡ [] → size ≡ min (n ^ length (names_of m)) (most_entries + 1)
  whole e =
      let w : size * n ^ 0 ≡ n ^ length (names_of m) = rw e at s.is in
      let z = pow-zero n in
      let f = s.few in
      let u : size * n ^ 0 ≡ size * 1 = ap (λ x. size * x) z in
      omega arith

  pub size_none : rest ≡ 0 → size ≡ min (n ^ length (names_of m)) (most_entries + 1)
  size_none e = whole (rw e (names-zero (first_minimum - v) v))

  pub size-end : first_minimum ≤ v → size ≡ min (n ^ length (names_of m)) (most_entries + 1)
  size-end h = whole (none-onwards v rest h)

  module _ (h : v < first_minimum) (e : rest % 2 ≡ 1) where
    odd : size * n * n ^ length (onwards (v + 1) (rest / 2)) ≡ n ^ length (names_of m)
    odd =
        let w : size * n ^ suc (length (onwards (v + 1) (rest / 2))) ≡ n ^ length (names_of m) = rw (odd-onwards v rest h e) at s.is in
        mul_assoc size n (n ^ length (onwards (v + 1) (rest / 2))) ∙ ap (λ x. size * x) (sym (pow-succ' n (length (onwards (v + 1) (rest / 2))))) ∙ w

    -- what the product passes, the whole passes
    more : size * n ≤ n ^ length (names_of m)
    more =
        let p : 1 ≤ n ^ length (onwards (v + 1) (rest / 2)) = one-le-pow (length (onwards (v + 1) (rest / 2))) n s.some in
        let q : size * n * 1 ≤ size * n * n ^ length (onwards (v + 1) (rest / 2)) = mul-le-mul_left (size * n) p in
        let o = odd in
        omega arith

    pub size-large : most_entries < n → most_entries + 1 ≡ min (n ^ length (names_of m)) (most_entries + 1)
    size-large q = let w = more in let p : 1 * n ≤ size * n = mul-le-mul_right n s.least in omega arith

    pub size-over : most_entries < size * n → most_entries + 1 ≡ min (n ^ length (names_of m)) (most_entries + 1)
    size-over q = let w = more in omega arith

    pub size-odd : size * n ≤ most_entries → Sizing n m (rest / 2) (size * n) (v + 1)
    size-odd q = record {
      some = s.some;
      end = omega arith;
      least = let l = s.some in let p : 1 * n ≤ size * n = mul-le-mul_right n s.least in omega arith;
      few = q;
      is = odd;
    }

  pub size_fits : n ≤ most_entries → size * n ≤ most_entries * most_entries
  size_fits q = le_trans (mul-le-mul_right n s.few) (mul-le-mul_left most_entries q)

  pub size-even : v < first_minimum → (rest % 2 ≡ 1 → ⊥) → Sizing n m (rest / 2) size (v + 1)
  size-even h e = record {
    some = s.some;
    end = omega arith;
    least = s.least;
    few = s.few;
    is = rw (even-onwards v rest h e) at s.is;
  }

-- ===== Words that are moved =====
pub moved_none : (n set : ℕ) (env : List ℕ) → Moved n set env env
moved_none n set env = record { kept = refl; over = λ c. refl; others = λ t m. refl; range = λ r. r }

pub within-names : (set : ℕ) (env : List ℕ) → term_end ≤ length env → Within env (names_of set)
within-names set env h t m = let z = of-below set t m in omega arith

pub moved-decode : {n set : ℕ} {env₀ env env' : List ℕ} (c : ℕ) → 0 < n → term_end ≤ length env → Moved n set env₀ env
    → env' ≡ decoded n (names_of set) c env → Moved n set env₀ env'
moved-decode {n} {set} {env₀} {env} {env'} c s h w e = record {
  kept = ap length e ∙ decoded-length n (names_of set) c env ∙ w.kept;
  over = λ d. ap (decoded n (names_of set) d) e ∙ decoded-over n first_variable (names_of set) d c env (of-ascending set) ∙ w.over d;
  others = λ t m. ap (λ x. env_of x t) e ∙ decoded-other n (names_of set) c env t m ∙ w.others t m;
  range = λ r t. subst (λ x. env_of x t < n) (sym e) (decoded-range n (names_of set) c env s (within-names set env h) (w.range r) t);
}

-- ===== The cases of a label =====
pub record Casing (ar facts env₀ : List ℕ) (n l set m : ℕ) (env : List ℕ) (count c : ℕ) : Type 0 where
  pub countable : Countable ar env₀ n l
  pub few : m ≤ most_entries
  pub end : c ≤ m
  pub moved : Moved n set env₀ env
  pub count-is : count ≡ cases_of ar facts env₀ n l set c
  pub count-few : count ≤ c

pub case-start : (ar facts env : List ℕ) (n l set m : ℕ) → Countable ar env n l → m ≤ most_entries → Casing ar facts env n l set m env 0 0
unfolding cases_of
case-start ar facts env n l set m a h = record {
  countable = a;
  few = h;
  end = omega arith;
  moved = moved_none n set env;
  count-is = refl;
  count-few = omega arith;
}

module _ {ar facts env₀ env : List ℕ} {n l set m count c : ℕ} (s : Casing ar facts env₀ n l set m env count c) where
  room : term_end ≤ length env
  room = let w = s.moved.kept in let p = s.countable.asked.places in omega arith

  pub case-decodable : Decodable env n
  case-decodable = record { some = s.countable.some; places = room }

  pub case-asked : {env' : List ℕ} → env' ≡ decoded n (names_of set) c env → Asked ar env' l
  case-asked e = record {
    labelled = s.countable.asked.labelled;
    places = let r = room in rw (e, decoded-length n (names_of set) c env) r;
  }

  pub case-small : (b : Bool) {x : ℕ} → c < m → x ≡ cond b 1 0 → count + x ≤ most_entries
  case-small b {x} h e = go b e
    where
      go : (b : Bool) → x ≡ cond b 1 0 → count + x ≤ most_entries
      go true z = let f = s.few in let k = s.count-few in omega arith
      go false z = let f = s.few in let k = s.count-few in omega arith

  pub case-on : {env' : List ℕ} (b : Bool) {x : ℕ} → c < m → env' ≡ decoded n (names_of set) c env → b ≡ tells ar facts env' l → x ≡ cond b 1 0
      → Casing ar facts env₀ n l set m env' (count + x) (c + 1)
  unfolding cases_of sum_to
  case-on {env'} b {x} h e t z = record {
    countable = s.countable;
    few = s.few;
    end = omega arith;
    moved = moved-decode c s.countable.some room s.moved e;
    count-is =
        let y : x ≡ cond (tells ar facts (decoded n (names_of set) c env₀) l) 1 0 = z ∙ ap (λ q. cond q 1 0) (t ∙ ap (λ q. tells ar facts q l) (e ∙ s.moved.over c)) in
        rw (add-one c, s.count-is, y);
    count-few = small b z;
  }
    where
      small : (b : Bool) → x ≡ cond b 1 0 → count + x ≤ c + 1
      small true z = let k = s.count-few in omega arith
      small false z = let k = s.count-few in omega arith

  pub case-end : m ≤ c → Counted ar facts env₀ n l set m count env
  case-end h = record {
    count = let e : c ≡ m = omega (arith, s.end) in rw (← e) s.count-is;
    moved = s.moved;
  }
