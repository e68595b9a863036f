-- Laws of the objects of a (true p o ..), read one after another.
use mathlib.Core.Path.{◌≡◌, refl, sym, ap, ap₂, subst, ◌∙◌}
use mathlib.Core.Bool.{Bool, true, false, ◌&&◌, cond}
use mathlib.Core.List.{List, [], ◌∷◌, ◌++◌, append-nil, append_assoc}
use Prim.Native.Nat.{ℕ, zero, suc, ◌+◌, ◌-◌, ◌<◌, ◌≤◌}
use native.Mathlib.Omega.{arith}
use borrow.Author.Tests.{eq-eqb, ne_eqb, eqb-true, eqb-false, lt-ltb, le-ltb, ltb-false}
use Rattle.basics.specs.Tests.{Flag, is_true, is_false, flag}
use lib.ListN.{length, get_or, set, drop, length-append, length-drop, length-set}
use lib.Seq.{get_or-set_same, get_or-set_other}
use lib.Dec.{eqb, ltb}
use Rattle.label.specs.Limits.{most_places}
use Rattle.state.specs.Lent.{fact_words, all_below}
use Rattle.events.specs.declared.Event.{Event}
use Rattle.events.specs.declared.Next.{Next}
use Rattle.events.specs.Inner.{next_at}
use Rattle.events.specs.Front.{is_end, events_of}
use Rattle.events.specs.FrontLaws.{next-end, next_more, next-moves, events-short}
use Rattle.events.specs.Contents.{number_in, numbers_in}
use Rattle.facts.specs.declared.Tuple.{Tuple}
use Rattle.facts.specs.Inner.{EmptyRow, TupleOf, tuple_more, kept, most_bytes}

pub add_done : (t : Tuple) (v n : ℕ) {b : Bool} → b ≡ (t.within && ltb v n) → record { count = t.count + 1; within = b } ≡ tuple_more t v n
unfolding tuple_more
add_done t v n a = λ i. record { count = t.count + 1; within = a i }

pub keep-none : (row : List ℕ) (count v : ℕ) → most_places ≤ count → row ≡ kept row count v
unfolding kept
keep-none row count v h = rw (le-ltb count most_places h)

pub keep_one : (row : List ℕ) (count v : ℕ) → count < most_places → set row (1 + count) v ≡ kept row count v
unfolding kept
keep_one row count v h = rw (lt-ltb count most_places h)

below_more : (n v : ℕ) (os : List ℕ) → all_below n (os ++ (v ∷ [])) ≡ (all_below n os && ltb v n)
below_more n v [] = and-true (ltb v n)
  where
    and-true : (b : Bool) → (b && true) ≡ b
    and-true true = refl
    and-true false = refl
below_more n v (o ∷ os) = rw (below_more n v os) (assoc (ltb o n) (all_below n os) (ltb v n))
  where
    assoc : (a b c : Bool) → (a && (b && c)) ≡ ((a && b) && c)
    assoc true b c = refl
    assoc false b c = refl

eqb-suc : (a b : ℕ) → eqb a b ≡ eqb (suc a) (suc b)
eqb-suc a b = go (flag (eqb a b))
  where
    go : Flag (eqb a b) → eqb a b ≡ eqb (suc a) (suc b)
    go (is_true e) = let q = eqb-true a b e in e ∙ sym (eq-eqb (suc a) (suc b) (omega arith))
    go (is_false e) = let q = eqb-false a b e in e ∙ sym (ne_eqb (suc a) (suc b) (λ z. q (omega arith)))

-- what stands at place k: v if it is the next, else what stood there
abbrev slot_of : ℕ → ℕ → ℕ → ℕ → ℕ
slot_of count k old v = cond (eqb count k) v old

at_more : (os : List ℕ) (k v : ℕ) → get_or (os ++ (v ∷ [])) k 0 ≡ slot_of (length os) k (get_or os k 0) v
at_more [] zero v = refl
at_more [] (suc k) v = rw (ne_eqb 0 (suc k) (λ e. omega arith))
at_more (o ∷ os) zero v = rw (ne_eqb (suc (length os)) 0 (λ e. omega arith))
at_more (o ∷ os) (suc k) v = at_more os k v ∙ ap (λ (b : Bool). cond b v (get_or os k 0)) (eqb-suc (length os) k)

kept-length : (row : List ℕ) (count v : ℕ) → length (kept row count v) ≡ length row
unfolding kept
kept-length row count v = go (ltb count most_places)
  where
    go : (b : Bool) → length (cond b (set row (1 + count) v) row) ≡ length row
    go true = length-set row (1 + count) v
    go false = refl

kept_at : (row : List ℕ) (count v j : ℕ) → length row ≡ fact_words → j < most_places → get_or (kept row count v) (suc j) 0 ≡ slot_of count j (get_or row (suc j) 0) v
unfolding kept
kept_at row count v j e h = go (flag (ltb count most_places)) (flag (eqb count j))
  where
    go : Flag (ltb count most_places) → Flag (eqb count j) → get_or (cond (ltb count most_places) (set row (1 + count) v) row) (suc j) 0 ≡ slot_of count j (get_or row (suc j) 0) v
    go (is_true p) (is_true q) =
        let z : suc j ≡ 1 + count = omega (arith, eqb-true count j q) in
        rw (p, q) (ap (λ (m : ℕ). get_or (set row (1 + count) v) m 0) z ∙ get_or-set_same row (1 + count) v 0 (omega (arith, eqb-true count j q)))
    go (is_true p) (is_false q) =
        let n = eqb-false count j q in
        rw (p, q) (get_or-set_other row (1 + count) (suc j) v 0 (λ z. n (omega arith)))
    go (is_false p) (is_true q) = absurd (omega (arith, ltb-false count most_places p, eqb-true count j q))
    go (is_false p) (is_false q) = rw (p, q)

tuple-more : (n v : ℕ) (os : List ℕ) (t : Tuple) (row : List ℕ) → TupleOf n os t row → TupleOf n (os ++ (v ∷ [])) (tuple_more t v n) (kept row t.count v)
unfolding tuple_more
tuple-more n v os t row o = record {
  count = ap (λ (m : ℕ). m + 1) o.count ∙ sym (length-append os (v ∷ []));
  within = ap (λ (b : Bool). b && ltb v n) o.within ∙ sym (below_more n v os);
  size = kept-length row t.count v ∙ o.size;
  objects = λ j h. kept_at row t.count v j o.size h ∙ ap₂ (λ (c y : ℕ). slot_of c j y v) o.count (o.objects j h) ∙ sym (at_more os j v);
}

-- the objects up to the place, and those behind it
pub record Counting (line : List ℕ) (start n : ℕ) (t : Tuple) (row : List ℕ) (place : ℕ) : Type 0 where
  pub objects : List ℕ
  pub tuple : TupleOf n objects t row
  pub rest : numbers_in (events_of (drop start line)) ≡ objects ++ numbers_in (events_of (drop place line))
  pub within : place ≤ length line
  pub few : t.count ≤ place

module _ (line : List ℕ) (start n : ℕ) where
  pub count-start : {row : List ℕ} → start ≤ length line → EmptyRow row → Counting line start n (record { count = 0; within = true }) row start
  count-start h z = record {
    objects = [];
    tuple = record { count = refl; within = refl; size = z.size; objects = z.zeros };
    rest = refl;
    within = h;
    few = omega arith;
  }

  module _ (t : Tuple) (row : List ℕ) (place : ℕ) (c : Counting line start n t row place) where
    ended : events_of (drop place line) ≡ [] → TupleOf n (numbers_in (events_of (drop start line))) t row
    ended e = subst (λ (os : List ℕ). TupleOf n os t row) (sym (c.rest ∙ ap (λ (es : List Event). c.objects ++ numbers_in es) e ∙ append-nil c.objects)) c.tuple

    pub count-out : length line ≤ place → TupleOf n (numbers_in (events_of (drop start line))) t row
    count-out h = ended (events-short (drop place line) (rw length-drop (omega arith)))

    count-step : is_end (next_at line place).event ≡ false
        → Counting line start n (tuple_more t (number_in (next_at line place).event) n) (kept row t.count (number_in (next_at line place).event)) (next_at line place).place
    unfolding tuple_more
    count-step f =
        let m = next-moves line place c.within in
        let l = m.1 f in
        let k = c.few in
        let v : ℕ = number_in (next_at line place).event in
        record {
          objects = c.objects ++ (v ∷ []);
          tuple = tuple-more n v c.objects t row c.tuple;
          rest = c.rest ∙ ap (λ (es : List Event). c.objects ++ numbers_in es) (next_more line place f)
              ∙ sym (append_assoc c.objects (v ∷ []) (numbers_in (events_of (drop (next_at line place).place line))));
          within = m.0;
          few = omega arith;
        }

    module _ {x : Next} (q : x ≡ next_at line place) {b : Bool} (p : b ≡ is_end x.event) where
      pub count-end : b ≡ true → TupleOf n (numbers_in (events_of (drop start line))) t row
      count-end e = ended (next-end line place (ap (λ (y : Next). is_end y.event) (sym q) ∙ sym p ∙ e))

      ongoing : b ≡ false → is_end (next_at line place).event ≡ false
      ongoing e = ap (λ (y : Next). is_end y.event) (sym q) ∙ sym p ∙ e

      pub count-on : {v : ℕ} {u : Tuple} {row' : List ℕ} → b ≡ false → v ≡ number_in x.event → row' ≡ kept row t.count v → u ≡ tuple_more t v n
          → Counting line start n u row' x.place
      count-on {v} {u} e w k z = rw (z, k, w, q) (count-step (ongoing e))

      pub count-shrinks : b ≡ false → length line - x.place < length line - place
      count-shrinks e =
          let m = next-moves line place c.within in
          let l = m.1 (ongoing e) in
          let k = m.0 in
          rw q (omega arith)

    pub count-row : length row ≡ fact_words
    count-row = c.tuple.size

    pub count-few : length line ≤ most_bytes → t.count ≤ most_bytes
    count-few h = let a = c.few in let b = c.within in omega arith
