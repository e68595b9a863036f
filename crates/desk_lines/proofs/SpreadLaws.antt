-- Laws of the checks of (count n) on lent words.
use mathlib.Core.Path.{◌≡◌, refl, sym, ap, subst, ◌∙◌}
use mathlib.Core.Bool.{Bool, true, false, not, ◌&&◌, true≢false}
use mathlib.Core.List.{List, []}
use Prim.Native.Nat.{ℕ, ◌≤◌, ◌<◌}
use native.Mathlib.Omega.{arith}
use lib.Dec.{leb}
use borrow.Author.Tests.{le-leb, lt-leb, leb-true}
use Rattle.basics.specs.Tests.{and_left, and_right}
use Rattle.refusal.specs.declared.Refusal.TheVariants.{Range}
use Rattle.refusal.specs.Outcome.{Outcome, refused}
use Rattle.state.specs.Lent.{constants_below, is_state, most_objects}
use Rattle.spread.specs.Spread.{Entry, spread}
use Rattle.session.specs.Session.{refuse_if}
use Rattle.count_states.specs.Counted.{counted_as, Countable, Counts}
use Rattle.desk_lines.specs.Counting.{spread_read, Spreadable}
use Rattle.refusal.specs.declared.Refusal.{Refusal}
use Rattle.std.specs.Prelude.{Err, Result}

-- a refusal, whatever stands in the table
refused-counts : {o : Outcome (List Entry)} (table : List ℕ) → o ≡ refused Range → Counts o (Err Range) table
refused-counts table e = record {
  answer = sym (ap counted_as e);
  lines = λ es f. let z = sym e ∙ f in let o : ◌≡◌ {A = ℕ} 0 1 = cc in absurd (omega arith);
}

-- the two checks of 4, by the test of a state without facts
module _ (some few placed : Bool) (o : Outcome (List Entry)) where
  abbrev read : Outcome (List Entry)
  read = refuse_if (not (some && few)) Range (refuse_if (not placed) Range o)

  unfew : few ≡ false → read ≡ refused Range
  unfew e = rw e (go some)
    where
      go : (a : Bool) → refuse_if (not (a && false)) Range (refuse_if (not placed) Range o) ≡ refused Range
      go true = refl
      go false = refl

  unfit : (some && (placed && true)) ≡ false → read ≡ refused Range
  unfit e = go some placed few e
    where
      go : (a p b : Bool) → (a && (p && true)) ≡ false → refuse_if (not (a && b)) Range (refuse_if (not p) Range o) ≡ refused Range
      go true true b e = absurd (true≢false e)
      go true false true e = refl
      go true false false e = refl
      go false p b e = refl

  fit : few ≡ true → (some && (placed && true)) ≡ true → read ≡ o
  fit f e = rw (f, and_left some (placed && true) e, and_left placed true (and_right some (placed && true) e))

module _ (ar : List ℕ) (predicates n : ℕ) (constants ws : List ℕ) where
  pub count-above : most_objects < n → {table : List ℕ} → Counts (spread_read ar predicates n constants ws) (Err Range) table
  unfolding spread_read
  count-above h {table} =
      refused-counts table (unfew (leb 1 n) (leb n most_objects) (constants_below n constants) (spread ar predicates n constants ws) (lt-leb n most_objects h))

  module _ {b : Bool} (q : b ≡ is_state ar n constants []) where
    pub count-unfit : b ≡ false → {table : List ℕ} → Counts (spread_read ar predicates n constants ws) (Err Range) table
    unfolding spread_read is_state
    count-unfit e {table} =
        refused-counts table (unfit (leb 1 n) (leb n most_objects) (constants_below n constants) (spread ar predicates n constants ws) (sym q ∙ e))

    pub count-fit : n ≤ most_objects → b ≡ true → {r : Result ℕ Refusal} {table : List ℕ} → Counts (spread ar predicates n constants ws) r table
        → Counts (spread_read ar predicates n constants ws) r table
    unfolding spread_read is_state
    count-fit h e {r} {table} c =
        subst (λ (o : Outcome (List Entry)). Counts o r table)
        (sym (fit (leb 1 n) (leb n most_objects) (constants_below n constants) (spread ar predicates n constants ws) (le-leb n most_objects h) (sym q ∙ e))) c

    pub countable : {table : List ℕ} → Spreadable ar predicates ws table → n ≤ most_objects → b ≡ true → Countable ar predicates n constants ws table
    unfolding is_state
    countable t h e =
        let f = sym q ∙ e in
        let some = leb-true 1 n (and_left (leb 1 n) (constants_below n constants && true) f) in
        record {
          declared = t.declared;
          some = omega (arith, some);
          few = h;
          placed = and_left (constants_below n constants) true (and_right (leb 1 n) (constants_below n constants && true) f);
          listed = t.listed;
          room = t.room;
        }
