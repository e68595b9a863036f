-- Laws of what a walk asks, for those who prepare it: room for a number for each row, objects for the parameters; and of the best so far.
use Rattle.std.specs.Prelude.{◌≡◌, true, List, [], ◌∷◌, ℕ, zero, suc, ◌≤◌, ◌<◌, length, get_or, ltb}
use Rattle.std.proofs.Common.{ap, arith, ltb-true}
use Rattle.basics.specs.Tests.{and_left, and_right}
use Rattle.diagram.specs.Sizes.{most_rows}
use Rattle.diagram.specs.Words.{row_count, is_listing}
use Rattle.diagram.specs.ListingValid.{listing-is-valid}
use Rattle.state.specs.State.{State, Good}
use Rattle.state.specs.Highest.{Bound}
use Rattle.state.specs.Lent.{all_below, is_state}
use Rattle.fact_index.specs.Inner.{indexed_count, Indexed}
use Rattle.valuing.specs.Search.{Topping, Tops}
use Rattle.valuing.specs.Walks.{climbed, Prepared}
use Rattle.std.specs.Prelude.{Ok}

-- ===== The rows' highest leaves =====
pub topping-room : (ar ws high : List ℕ) → is_listing ar ws ≡ true → most_rows ≤ length high → Topping ws high
topping-room ar ws high e h =
    let v = listing-is-valid ar ws e in
    record { arities = ar; valid = v; places = omega (arith, v.few) }

pub prepared : (ar ws high : List ℕ) (n : ℕ) (constants facts index : List ℕ) → is_listing ar ws ≡ true → is_state ar n constants facts ≡ true → most_rows ≤ length high
    → Tops ws high (row_count ws) → Indexed ar facts index (indexed_count facts index) → Prepared ar ws high n constants facts index
prepared ar ws high n constants facts index e s h t i =
    record { listed = e; lent = s; places = omega (arith, (listing-is-valid ar ws e).few); tops = t; indexed = i }

-- ===== Objects for the parameters =====
pub bound-below : {s : State} → Good s → (os : List ℕ) → all_below s.size os ≡ true → Bound s os
bound-below {s} good os e = record { each = go os e }
  where
    go : (os : List ℕ) → all_below s.size os ≡ true → (i : ℕ) → get_or os i (s.constant 0) < s.size
    go [] e i = good.placed 0
    go (o ∷ os) e zero = ltb-true o s.size (and_left (ltb o s.size) _ e)
    go (o ∷ os) e (suc i) = go os (and_right (ltb o s.size) _ e) i

-- ===== The best so far =====
pub climbed-first : (v : ℕ) → climbed 0 (Ok v) ≡ Ok (suc v)
unfolding climbed
climbed-first v = ap Ok (omega arith)
