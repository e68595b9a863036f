-- Words of a part.
use mathlib.Core.Path.{◌≡◌, ap}
use mathlib.Core.List.{List}
use Prim.Native.Nat.{ℕ, ◌+◌, ◌-◌}
use native.Mathlib.Omega.{arith}
use lib.ListN.{take, drop}
use Rattle.model.specs.Layout.{part, span_words, variant_words, spans_at}

-- the words of a part that begins at i and ends at i + n
pub part-words : (s : List ℕ) (i n : ℕ) → take (i + n - i) (drop i s) ≡ part s i n
part-words s i n = let e : i + n - i ≡ n = omega arith in ap (λ (k : ℕ). take k (drop i s)) e

-- the words of a variant's truth diagrams: where they stand
pub part-spans : (table : List ℕ) (place : ℕ) → take (place + variant_words - (place + 2)) (drop (place + 2) table) ≡ spans_at table place
part-spans table place = let e : place + variant_words - (place + 2) ≡ span_words = omega arith in ap (λ (k : ℕ). take k (drop (place + 2) table)) e
