-- The answers of a combination, taken apart.
use Rattle.std.specs.Prelude.{◌≡◌, true, false, List, ℕ, ◌≤◌, ◌<◌, length, ltb}
use Rattle.std.proofs.Math.Path.{refl}
use borrow.Author.Tests.{ltb-true, ltb-false}
use Rattle.basics.specs.Tests.{Flag, is_true, is_false, flag}
use Rattle.diagram.specs.Sizes.{space_rows}
use Rattle.diagram.specs.Diagram.{Diagram}
use Rattle.diagram.specs.Listing.{index}
use Rattle.apply.specs.declared.Operation.{Operation}
use Rattle.apply.specs.Combination.{operate}
use Rattle.apply.specs.Apply.{apply}
use Rattle.apply.specs.Pairs.{pairs, pair_count, overflows}
use Rattle.combine.specs.Joining.{rows_after, join_answer}
use Rattle.combine.specs.declared.Joined.{Joined}
use Rattle.combine.specs.declared.Joined.TheVariants.{At, TooManyPairs, TooHighValue, NoRoom}

-- the result's row i, the rows n then and the pairs p
pub record Told (op : Operation) (limit : ℕ) (a b : Diagram) (rs : List Diagram) (i n p : ℕ) : Type 0 where
  pub few : pair_count op a b ≤ limit
  pub calm : overflows (operate op) (pairs op a b) ≡ false
  pub room : length (rows_after op a b rs) ≤ space_rows
  pub row : i ≡ index (apply (operate op) a b) (rows_after op a b rs)
  pub count : n ≡ length (rows_after op a b rs)
  pub reached : p ≡ pair_count op a b

-- how a combination ends, and why
pub data Ended (op : Operation) (limit : ℕ) (a b : Diagram) (rs : List Diagram) (r : Joined) : Type 0 where
  many : r ≡ TooManyPairs → limit < pair_count op a b → Ended op limit a b rs r
  high : r ≡ TooHighValue → pair_count op a b ≤ limit → overflows (operate op) (pairs op a b) ≡ true → Ended op limit a b rs r
  full : r ≡ NoRoom → pair_count op a b ≤ limit → overflows (operate op) (pairs op a b) ≡ false → space_rows < length (rows_after op a b rs) → Ended op limit a b rs r
  row : {i n p : ℕ} → r ≡ At i n p → Told op limit a b rs i n p → Ended op limit a b rs r

module _ (op : Operation) (limit : ℕ) (a b : Diagram) (rs : List Diagram) {r : Joined} (e : r ≡ join_answer op limit a b rs) where
  pub ended : Ended op limit a b rs r
  unfolding join_answer
  ended = go (flag (ltb limit (pair_count op a b))) (flag (overflows (operate op) (pairs op a b))) (flag (ltb space_rows (length (rows_after op a b rs))))
    where
      go : Flag (ltb limit (pair_count op a b)) → Flag (overflows (operate op) (pairs op a b)) → Flag (ltb space_rows (length (rows_after op a b rs))) → Ended op limit a b rs r
      go (is_true x) y z = many (rw x at e) (ltb-true _ _ x)
      go (is_false x) (is_true y) z = high (rw (x, y) at e) (ltb-false _ _ x) y
      go (is_false x) (is_false y) (is_true z) = full (rw (x, y, z) at e) (ltb-false _ _ x) y (ltb-true _ _ z)
      go (is_false x) (is_false y) (is_false z) =
          row (rw (x, y, z) at e) (record { few = ltb-false _ _ x; calm = y; room = ltb-false _ _ z; row = refl; count = refl; reached = refl })
