-- Laws of counting a row's entries, in the words of the code.
use mathlib.Core.Path.{◌≡◌, refl, ap, ap₂, sym, ◌∙◌}
use mathlib.Core.Bool.{Bool, true, false, not, ◌&&◌, ◌||◌, cond}
use mathlib.Core.List.{List, [], ◌∷◌}
use Prim.Native.Nat.{ℕ, zero, suc, ◌+◌, ◌-◌, ◌*◌, ◌/◌, ◌%◌, ◌^◌, ◌≤◌, ◌<◌, min}
use native.Mathlib.Omega.{arith}
use native.Mathlib.Nat.{pow-succ', mul_comm, mul_assoc, mul-div_cancel, pow-le-pow_right, mul-le-mul_left, mul-le-mul_right, le_trans, div-le_self}
use lib.ListN.{length}
use lib.Bits.{bit_and, bit_or, bit_xor}
use lib.Pow.{pow-add}
use lib.Dec.{eqb}
use borrow.Author.Tests.{eqb-true}
use Rattle.basics.specs.Tests.{Flag, is_true, is_false, flag, and_left, or-one, or-other}
use Rattle.basics.specs.Members.{mem, nodup-le}
use Rattle.label.specs.Limits.{first_variable, variable_count, first_minimum}
use Rattle.diagram.specs.WordLaws.{number-test}
use Rattle.rename.specs.Ascending.{Ascending}
use Rattle.rename.specs.AscendingLaws.{ascending-one, ascending-weaken, ascending-nodup}
use Rattle.state.specs.State.{atom_of, State}
use Rattle.state.specs.Terms.{args}
use Rattle.state.specs.Highest.{vars_of}
use Rattle.elimination.specs.Tables.{Table, sum_to, entries, join, aggregate_entries}
use Rattle.elimination.specs.Elimination.{label_variables, most_entries}
use Rattle.elimination.specs.Inner.{Full, Named, geometric}
use Rattle.elimination.proofs.TableLaws.{union-full, join-named, unite-named}
use Rattle.elimination.proofs.CountLaws.{label_cases, lacking, full-entries, join-entries}
use Rattle.elimination.proofs.CaseLaws.{cases-split, aggregate-sum}
use Rattle.eliminate.specs.Masks.{names_of, decoded}
use Rattle.eliminate.specs.MaskLaws.{names-zero, apart, of-ascending, of_and, of_xor, of_or}
use Rattle.eliminate.specs.Calls.{tells, cases_of, Counted}
use Rattle.eliminate.specs.Stores.{Said, union_of}
use Rattle.eliminate.specs.Counts.{Shrinks, Shrunk, row_total, exactly, too_many, Rowing, Rowed}
use Rattle.eliminate.proofs.DigitLaws.{onwards, none-onwards, odd-onwards, even-onwards}
use Rattle.eliminate.proofs.SetLaws.{moved_none}
use Rattle.eliminate.proofs.RowLaws.{cases-are, union-names}

-- ===== shrink =====
pub record Shrinking (n whole m rest size sum v : ℕ) : Type 0 where
  pub some : 0 < n
  pub end : v ≤ first_minimum
  pub start : first_variable ≤ v
  pub few : size ≤ most_entries
  pub sum-few : sum ≤ (v - first_variable) * most_entries
  pub is : (small : ℕ) → whole ≡ small * n ^ length (names_of m)
      → (size ≡ small * n ^ length (onwards v rest)) × (sum + geometric n small (length (onwards v rest)) ≡ geometric n small (length (names_of m)))

pub shrink-start : (n whole m : ℕ) → Shrinks n whole → Shrinking n whole m m whole 0 first_variable
unfolding names_of
shrink-start n whole m s = record {
  some = s.some;
  end = omega arith;
  start = omega arith;
  few = s.few;
  sum-few = omega arith;
  is = λ small e. (e, omega arith);
}

module _ {n whole m rest size sum v : ℕ} (s : Shrinking n whole m rest size sum v) where
  all-few : sum ≤ variable_count * most_entries
  all-few =
      let f = s.sum-few in
      let e = s.end in
      let d : v - first_variable ≤ variable_count = omega arith in
      let q : (v - first_variable) * most_entries ≤ variable_count * most_entries = mul-le-mul_right most_entries d in
      omega arith

  done : onwards v rest ≡ [] → Shrunk n whole m sum
  unfolding geometric
  done z = record {
    is = λ small e.
        let w : sum + geometric n small (length (onwards v rest)) ≡ geometric n small (length (names_of m)) = (s.is small e).1 in
        let u : sum + geometric n small 0 ≡ geometric n small (length (names_of m)) = rw z at w in
        let y : geometric n small 0 ≡ 0 = refl in
        omega arith;
    few = all-few;
  }

  pub shrink-none : rest ≡ 0 → Shrunk n whole m sum
  shrink-none e = done (rw e (names-zero (first_minimum - v) v))

  pub shrink-end : first_minimum ≤ v → Shrunk n whole m sum
  shrink-end h = done (none-onwards v rest h)

  divided : size / n ≤ size
  divided = div-le_self size n

  pub shrink-small : sum + size / n ≤ (variable_count + 1) * most_entries
  shrink-small = let a = all-few in let d = divided in let f = s.few in omega arith

  pub shrink-odd : v < first_minimum → rest % 2 ≡ 1 → Shrinking n whole m (rest / 2) (size / n) (sum + size / n) (v + 1)
  unfolding geometric
  shrink-odd h e = record {
    some = s.some;
    end = omega arith;
    start = let b = s.start in omega arith;
    few = let d = divided in let f = s.few in omega arith;
    sum-few =
        let b = s.start in
        let z : v + 1 - first_variable ≡ suc (v - first_variable) = omega arith in
        let f = s.few in
        let d = divided in
        let k = s.sum-few in
        let q : suc (v - first_variable) * most_entries ≡ (v - first_variable) * most_entries + most_entries = omega arith in
        rw z (omega arith);
    is = λ small w. step small (s.is small w);
  }
    where
      step : (small : ℕ) → (size ≡ small * n ^ length (onwards v rest)) × (sum + geometric n small (length (onwards v rest)) ≡ geometric n small (length (names_of m)))
          → (size / n ≡ small * n ^ length (onwards (v + 1) (rest / 2)))
          × (sum + size / n + geometric n small (length (onwards (v + 1) (rest / 2))) ≡ geometric n small (length (names_of m)))
      step small p =
          let o = odd-onwards v rest h e in
          let k : ℕ = length (onwards (v + 1) (rest / 2)) in
          let a : size ≡ small * n ^ suc k = p.0 ∙ ap (λ vs. small * n ^ length vs) o in
          let b : sum + geometric n small (suc k) ≡ geometric n small (length (names_of m)) = ap (λ vs. sum + geometric n small (length vs)) (sym o) ∙ p.1 in
          let c : size ≡ small * n ^ k * n = a ∙ ap (λ z. small * z) (pow-succ' n k ∙ mul_comm n (n ^ k)) ∙ sym (mul_assoc small (n ^ k) n) in
          let d : size / n ≡ small * n ^ k = ap (λ z. z / n) c ∙ mul-div_cancel (small * n ^ k) s.some in
          let g : geometric n small (suc k) ≡ small * n ^ k + geometric n small k = unfolded n small k in
          (d, omega arith)
        where
          unfolded : (n small k : ℕ) → geometric n small (suc k) ≡ small * n ^ k + geometric n small k
          unfolded n small k = refl

  pub shrink-even : v < first_minimum → (rest % 2 ≡ 1 → ⊥) → Shrinking n whole m (rest / 2) size sum (v + 1)
  shrink-even h e = record {
    some = s.some;
    end = omega arith;
    start = let b = s.start in omega arith;
    few = s.few;
    sum-few =
        let b = s.start in
        let z : v + 1 - first_variable ≡ suc (v - first_variable) = omega arith in
        let k = s.sum-few in
        let q : suc (v - first_variable) * most_entries ≡ (v - first_variable) * most_entries + most_entries = omega arith in
        rw z (omega arith);
    is = λ small w. rw (← even-onwards v rest h e) (s.is small w);
  }

-- ===== The names that a label lacks =====
lacks : List ℕ → List ℕ → List ℕ
lacks us [] = []
lacks us (v ∷ vs) = cond (mem eqb v us) (lacks us vs) (v ∷ lacks us vs)

lacking-length : (us vs : List ℕ) → lacking us vs ≡ length (lacks us vs)
unfolding lacks lacking
lacking-length us [] = refl
lacking-length us (v ∷ vs) = go (mem eqb v us) (lacking-length us vs)
  where
    go : (b : Bool) → lacking us vs ≡ length (lacks us vs) → cond b (lacking us vs) (suc (lacking us vs)) ≡ length (cond b (lacks us vs) (v ∷ lacks us vs))
    go true h = h
    go false h = ap suc h

lacks-ascending : (n : ℕ) (us vs : List ℕ) → Ascending n vs → Ascending n (lacks us vs)
unfolding lacks
lacks-ascending n us [] a = tt
lacks-ascending n us (v ∷ vs) a = go (mem eqb v us) (lacks-ascending (suc v) us vs a.1)
  where
    go : (b : Bool) → Ascending (suc v) (lacks us vs) → Ascending n (cond b (lacks us vs) (v ∷ lacks us vs))
    go true r = let h = a.0 in ascending-weaken n (suc v) (lacks us vs) (omega arith) r
    go false r = (a.0, r)

mem-lacks : (us vs : List ℕ) (t : ℕ) → mem eqb t (lacks us vs) ≡ (mem eqb t vs && not (mem eqb t us))
unfolding lacks
mem-lacks us [] t = refl
mem-lacks us (v ∷ vs) t = go (flag (mem eqb v us)) (flag (eqb t v)) (mem-lacks us vs t)
  where
    drop : (b : Bool) → (b && false) ≡ false
    drop true = refl
    drop false = refl

    go : Flag (mem eqb v us) → Flag (eqb t v) → mem eqb t (lacks us vs) ≡ (mem eqb t vs && not (mem eqb t us))
        → mem eqb t (cond (mem eqb v us) (lacks us vs) (v ∷ lacks us vs)) ≡ ((eqb t v || mem eqb t vs) && not (mem eqb t us))
    go (is_true e) (is_true d) h = let z = eqb-true t v d in rw (e, d, h, z, e) (drop (mem eqb v vs))
    go (is_true e) (is_false d) h = rw (e, d, h)
    go (is_false e) (is_true d) h = let z = eqb-true t v d in rw (e, d, z, e)
    go (is_false e) (is_false d) h = rw (e, d, h)

apart-and : (a b : Bool) → apart a (a && b) ≡ (a && not b)
apart-and true b = refl
apart-and false b = refl

-- the set of the names of `set` that are not in `own`
pub mem-rest : (set own t : ℕ) → mem eqb t (names_of (bit_xor set (bit_and set own))) ≡ (mem eqb t (names_of set) && not (mem eqb t (names_of own)))
mem-rest set own t =
    of_xor set (bit_and set own) t ∙ ap (apart (mem eqb t (names_of set))) (of_and set own t) ∙ apart-and (mem eqb t (names_of set)) (mem eqb t (names_of own))

lack-is : (set own : ℕ) → lacking (names_of own) (names_of set) ≡ length (names_of (bit_xor set (bit_and set own)))
lack-is set own = lacking-length (names_of own) (names_of set)
    ∙ ap length (ascending-one first_variable first_variable (lacks (names_of own) (names_of set)) (names_of (bit_xor set (bit_and set own)))
    (lacks-ascending first_variable (names_of own) (names_of set) (of-ascending set)) (of-ascending (bit_xor set (bit_and set own)))
    (λ t e. mem-rest set own t ∙ sym (mem-lacks (names_of own) (names_of set) t) ∙ e)
    (λ t e. mem-lacks (names_of own) (names_of set) t ∙ sym (mem-rest set own t) ∙ e))

-- ===== Sizes of parts =====
pub part_length : (a b : ℕ) → ((t : ℕ) → mem eqb t (names_of a) ≡ true → mem eqb t (names_of b) ≡ true) → length (names_of a) ≤ length (names_of b)
part_length a b w = nodup-le eqb number-test (names_of a) (names_of b) (ascending-nodup first_variable (names_of a) (of-ascending a)) w

-- a part's size is exact where the whole's is
pub part-size : {n r : ℕ} (a b : ℕ) → 0 < n → n ^ length (names_of b) ≤ most_entries → ((t : ℕ) → mem eqb t (names_of a) ≡ true → mem eqb t (names_of b) ≡ true)
    → r ≡ min (n ^ length (names_of a)) (most_entries + 1) → (r ≡ n ^ length (names_of a)) × (r ≤ most_entries)
part-size {n} {r} a b s f w e =
    let p : n ^ length (names_of a) ≤ n ^ length (names_of b) = pow-le-pow_right s (part_length a b w) in
    (omega arith, omega arith)

cases-less : (ar facts env : List ℕ) (n l set m : ℕ) → cases_of ar facts env n l set m ≤ m
unfolding cases_of sum_to
cases-less ar facts env n l set zero = omega arith
cases-less ar facts env n l set (suc m) = go (tells ar facts (decoded n (names_of set) m env) l) (cases-less ar facts env n l set m)
  where
    go : (b : Bool) → cases_of ar facts env n l set m ≤ m → cases_of ar facts env n l set m + cond b 1 0 ≤ suc m
    go true h = omega arith
    go false h = omega arith

-- ===== A row's count =====
module _ {ar env : List ℕ} {n l own high low drops : ℕ} (w : Rowing ar env n l own high low drops) where
  abbrev all : ℕ
  all = bit_or (bit_or own high) low

  in-own : (t : ℕ) → mem eqb t (names_of own) ≡ true → mem eqb t (names_of all) ≡ true
  in-own t m = of_or (bit_or own high) low t ∙ or-one _ _ (of_or own high t ∙ or-one _ _ m)

  in-high : (t : ℕ) → mem eqb t (names_of (bit_xor high (bit_and high own))) ≡ true → mem eqb t (names_of all) ≡ true
  in-high t m = of_or (bit_or own high) low t
      ∙ or-one _ _ (of_or own high t ∙ or-other (mem eqb t (names_of own)) _ (and_left (mem eqb t (names_of high)) _ (sym (mem-rest high own t) ∙ m)))

  in-low : (t : ℕ) → mem eqb t (names_of (bit_xor low (bit_and low own))) ≡ true → mem eqb t (names_of all) ≡ true
  in-low t m = of_or (bit_or own high) low t ∙ or-other (mem eqb t (names_of (bit_or own high))) _ (and_left (mem eqb t (names_of low)) _ (sym (mem-rest low own t) ∙ m))

  -- the union's entries
  union-entries : (s : State) (os : List ℕ) (x y : Table) (facts : List ℕ) → Said s os ar facts env n → names_of high ≡ x.names → names_of low ≡ y.names → Full x → Full y
      → entries s os (union_of s ar l x y) ≡ n ^ length (names_of all)
  union-entries s os x y facts g p q fx fy =
      full-entries s os (union_of s ar l x y) (union-full s (atom_of ar l) x y fx fy)
      ∙ ap₂ (λ m vs. m ^ length vs) g.size_is (union-names s ar l own high low x y w.own_is p q)

  pub row-large : (facts : List ℕ) {whole : ℕ} → whole ≡ min (n ^ length (names_of all)) (most_entries + 1) → most_entries < whole
      → Rowed ar facts env n l own high low drops whole env
  unfolding row_total
  row-large facts {whole} e h = record {
    count = λ s os x y g p q fx fy nx ny.
        let u = union-entries s os x y facts g p q fx fy in
        too_many h (omega arith);
    moved = moved_none n own env;
    whole = λ q. absurd (omega arith);
  }

  module _ {whole choices : ℕ} (whole_is : whole ≡ min (n ^ length (names_of all)) (most_entries + 1)) (small : whole ≤ most_entries)
      (choices-is : choices ≡ min (n ^ length (names_of own)) (most_entries + 1)) where
    some : 0 < n
    some = w.countable.some

    fits : n ^ length (names_of all) ≤ most_entries
    fits = omega arith

    pub row-choices : choices ≤ most_entries
    row-choices = (part-size own all some fits in-own choices-is).1

    pub row-shrinks : Shrinks n whole
    row-shrinks = record { some = some; few = small }

    module _ {facts env' : List ℕ} {c : ℕ} (counted : Counted ar facts env n l own choices c env') where
      pub row-less : c ≤ choices
      row-less = rw counted.count (cases-less ar facts env n l own choices)

      pub row-yes : {yes : ℕ} → yes ≡ min (n ^ length (names_of (bit_xor high (bit_and high own)))) (most_entries + 1) → c * yes ≤ most_entries * most_entries
      row-yes {yes} yes-is =
          let y = (part-size (bit_xor high (bit_and high own)) all some fits in-high yes-is).1 in
          let k : c ≤ most_entries = omega (arith, row-less, row-choices) in
          le_trans (mul-le-mul_right yes k) (mul-le-mul_left most_entries y)

      pub row-no : {no : ℕ} → no ≡ min (n ^ length (names_of (bit_xor low (bit_and low own)))) (most_entries + 1) → (choices - c) * no ≤ most_entries * most_entries
      row-no {no} no-is =
          let y = (part-size (bit_xor low (bit_and low own)) all some fits in-low no-is).1 in
          let k : choices - c ≤ most_entries = omega (arith, row-choices) in
          le_trans (mul-le-mul_right no k) (mul-le-mul_left most_entries y)

      module _ {yes no : ℕ} (yes-is : yes ≡ min (n ^ length (names_of (bit_xor high (bit_and high own)))) (most_entries + 1))
          (no-is : no ≡ min (n ^ length (names_of (bit_xor low (bit_and low own)))) (most_entries + 1)) where
        pub row-exact : {rest : ℕ} → Shrunk n whole drops rest → Rowed ar facts env n l own high low drops (c * yes + (choices - c) * no + whole + rest) env'
        unfolding row_total label_variables
        row-exact {rest} k = record {
          count = λ s os x y g p q fx fy nx ny. exactly (sums s os x y g p q fx fy nx ny);
          moved = counted.moved;
          whole = λ q. let f = fits in omega arith;
        }
          where
            sums : (s : State) (os : List ℕ) (x y : Table) → Said s os ar facts env n → names_of high ≡ x.names → names_of low ≡ y.names → Full x → Full y → Named x → Named y
                → c * yes + (choices - c) * no + whole + rest ≡ row_total s os ar l x y (names_of drops)
            sums s os x y g p q fx fy nx ny = ap₂ ◌+◌ (ap₂ ◌+◌ (ap₂ ◌+◌ true-part false-part) whole_part) drop-part
              where
                own_is : vars_of (args (atom_of ar l)) [] ≡ names_of own
                own_is = sym w.own_is

                exact : choices ≡ n ^ length (names_of own)
                exact = (part-size own all some fits in-own choices-is).0

                yes-cases : c ≡ label_cases s os true (atom_of ar l)
                yes-cases = counted.count ∙ ap (cases_of ar facts env n l own) exact ∙ cases-are s os ar facts env n l own g w.countable.asked.places w.own_is

                no_cases : choices - c ≡ label_cases s os false (atom_of ar l)
                no_cases =
                    let z : label_cases s os true (atom_of ar l) + label_cases s os false (atom_of ar l) ≡ n ^ length (names_of own)
                    = cases-split s os (atom_of ar l) ∙ ap₂ (λ m vs. m ^ length vs) g.size_is own_is in
                    let y = yes-cases in
                    let e = exact in
                    omega arith

                true-part : c * yes ≡ entries s os (join s true (atom_of ar l) x)
                true-part =
                    ap₂ ◌*◌ yes-cases
                    ((part-size (bit_xor high (bit_and high own)) all some fits in-high yes-is).0
                    ∙ ap₂ (λ m j. m ^ j) (sym g.size_is) (sym (lack-is high own) ∙ ap₂ lacking (sym own_is) p))
                    ∙ sym (join-entries s os true (atom_of ar l) x fx nx)

                false-part : (choices - c) * no ≡ entries s os (join s false (atom_of ar l) y)
                false-part =
                    ap₂ ◌*◌ no_cases
                    ((part-size (bit_xor low (bit_and low own)) all some fits in-low no-is).0
                    ∙ ap₂ (λ m j. m ^ j) (sym g.size_is) (sym (lack-is low own) ∙ ap₂ lacking (sym own_is) q))
                    ∙ sym (join-entries s os false (atom_of ar l) y fy ny)

                whole_part : whole ≡ entries s os (union_of s ar l x y)
                whole_part = let u = union-entries s os x y facts g p q fx fy in let f = fits in omega arith

                drop-part : rest ≡ aggregate_entries s os (names_of drops) (union_of s ar l x y)
                drop-part =
                    let j : ℕ = length (names_of all) - length (names_of drops) in
                    let i = part_length drops all w.inside in
                    let len : length (names_of all) ≡ length (names_of drops) + j = omega arith in
                    let u = union-names s ar l own high low x y w.own_is p q in
                    let power : n ^ length (names_of all) ≡ n ^ j * n ^ length (names_of drops)
                    = ap (λ z. n ^ z) len ∙ pow-add n (length (names_of drops)) j ∙ mul_comm (n ^ length (names_of drops)) (n ^ j) in
                    let f = fits in
                    let z : whole ≡ n ^ j * n ^ length (names_of drops) = omega arith in
                    k.is (n ^ j) z ∙ ap (λ m. geometric m (m ^ j) (length (names_of drops))) (sym g.size_is)
                    ∙ sym (aggregate-sum s os (names_of drops) (union_of s ar l x y) g.good.some (union-full s (atom_of ar l) x y fx fy)
                    (unite-named (join s true (atom_of ar l) x) (join s false (atom_of ar l) y) (join-named s false (atom_of ar l) y ny))
                    (ascending-nodup first_variable (names_of drops) (of-ascending drops)) (λ t m. ap (mem eqb t) u ∙ w.inside t m) j (ap length u ∙ len))
