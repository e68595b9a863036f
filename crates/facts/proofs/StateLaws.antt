-- Laws of a state in lent words, one for each way out of a line.
use mathlib.Core.Path.{◌≡◌, refl, sym, ap, ◌∙◌}
use mathlib.Core.List.{List}
use Prim.Native.Nat.{ℕ, ◌+◌, ◌*◌, ◌<◌, ◌≤◌}
use native.Mathlib.Omega.{arith}
use borrow.Author.Tests.{le-leb, lt-leb, ne_eqb}
use lib.ListN.{length, get_or, set, length-set}
use lib.Seq.{take-set-lt, take-set-le}
use Rattle.label.specs.Limits.{constant_count}
use Rattle.refusal.specs.declared.Refusal.TheVariants.{Name, Range}
use Rattle.words.specs.declared.Key.{Key}
use Rattle.names.specs.Keys.{keys_at, place_of}
use Rattle.names.specs.Layout.{constants_at}
use Rattle.names.specs.KeyLaws.{among-at, among_none}
use Rattle.refusal.specs.Outcome.{ok}
use Rattle.state.specs.Lent.{fact_words, most_objects}
use Rattle.fact_index.specs.Inner.{Clean}
use Rattle.fact_index.specs.IndexLaws.{clean-indexed}
use Rattle.session.specs.Facts.{objects_line, is_line, cleared, placed}
use Rattle.declare.specs.declared.Counts.{Counts}
use Rattle.declare.specs.Tables.{names_of, GoodNames}
use Rattle.facts.specs.declared.Live.{Live}
use Rattle.facts.specs.Inner.{Living, Placing, Unindexed, Unplaced}
use Rattle.facts.specs.Words.{part, live_of, GoodLive, placed_base, facts_base, index_base, index_words}
use Rattle.facts.specs.PartLaws.{part_at, same-behind, set-in, set_before}
use Rattle.facts.specs.WordLaws.{live-ext, cleared-live, index-rows, index_stays}
use Rattle.std.specs.Prelude.{Err, Ok}

-- ===== (objects n) =====

module _ (ar s : List ℕ) (n : ℕ) where
  pub objects-none : n ≡ 0 → Living ar (objects_line n) s (Err Range) s
  unfolding objects_line
  objects-none e = record { lives = (rw e, refl) }

  pub objects-many : (n ≡ 0 → ⊥) → most_objects < n → Living ar (objects_line n) s (Err Range) s
  unfolding objects_line
  objects-many z h = record { lives = (rw (le-leb 1 n (omega arith), lt-leb n most_objects h), refl) }

  pub objects-done : {u t : List ℕ} (l : Live) → (n ≡ 0 → ⊥) → n ≤ most_objects → GoodLive s l → Unindexed s u → Unplaced u t facts_base
      → Living ar (objects_line n) s (Ok (record { objects = n; facts = 0; count = 0; total = 0 })) t
  unfolding objects_line cleared
  objects-done {u} {t} l z h g x c =
      let r = g.room in
      let v = x.stays.size in
      let w = c.cleared.size in
      let clean : Clean (part t index_base index_words) = rw (same-behind u t facts_base index_base index_words c.rest (omega arith)) x.clean in
      record {
        lives = (
          rw (le-leb 1 n (omega (arith, z)), le-leb n most_objects h) (ap ok (sym (cleared-live n (omega arith) c.cleared))),
          record { room = omega arith; objects = h; facts = omega arith },
          index-rows (omega (arith, z)) (clean-indexed ar _ _ clean),
        );
      }

-- ===== (is c o) =====

module _ (table s : List ℕ) (n : Counts) (l : Live) (k : Key) (o : ℕ) {c : ℕ} (p : c ≡ place_of k (keys_at table constants_at n.constants)) where
  pub place-unknown : n.constants ≤ c → Placing (is_line (names_of table n) (live_of s l) k o) s l (Err Name) s
  unfolding is_line names_of
  place-unknown h = record { living = λ ar x. record { lives = (rw (among_none table constants_at n.constants k p h), refl) } }

  placed_at : c < constant_count → get_or (part s placed_base constant_count) c 0 ≡ get_or s (placed_base + c) 0
  placed_at h = part_at s placed_base constant_count c h

  module _ (g : GoodNames table n) (h : c < n.constants) where
    pub place-again : get_or s (placed_base + c) 0 ≡ 1 → Placing (is_line (names_of table n) (live_of s l) k o) s l (Err Name) s
    unfolding is_line names_of live_of
    place-again e =
        let f = g.constants in
        record { living = λ ar x. record { lives = (rw (among-at table constants_at n.constants k p h, ← p, placed_at (omega arith), e), refl) } }

    module _ (e : get_or s (placed_base + c) 0 ≡ 1 → ⊥) where
      pub place-beyond : l.objects ≤ o → Placing (is_line (names_of table n) (live_of s l) k o) s l (Err Range) s
      unfolding is_line names_of live_of
      place-beyond b =
          let f = g.constants in
          record {
            living = λ ar x. record {
              lives = (
                rw (among-at table constants_at n.constants k p h, ← p, placed_at (omega arith), ne_eqb (get_or s (placed_base + c) 0) 1 e, le-leb l.objects o b),
                refl,
              );
            };
          }

      pub place-done : GoodLive s l → o < l.objects → Placing (is_line (names_of table n) (live_of s l) k o) s l (Ok l) (set (set s (placed_base + c) 1) c o)
      unfolding is_line names_of live_of placed
      place-done v b =
          let f = g.constants in
          let m : c < constant_count = omega arith in
          let u : List ℕ = set s (placed_base + c) 1 in
          let stays : (i k : ℕ) → facts_base ≤ i → part (set u c o) i k ≡ part s i k =
          λ i k q. set_before u i k c o (omega arith) ∙ set_before s i k (placed_base + c) 1 (omega arith) in
          record {
            living = λ ar x. record {
              lives = (
                rw (among-at table constants_at n.constants k p h, ← p, placed_at m, ne_eqb (get_or s (placed_base + c) 0) 1 e, lt-leb l.objects o b)
                    (ap ok (live-ext _ _ refl
                    (sym (set_before u placed_base constant_count c o (omega arith) ∙ set-in s placed_base constant_count c 1 m))
                    (sym (take-set-lt constant_count u c o m ∙ ap (λ (y : List ℕ). set y c o) (take-set-le constant_count s (placed_base + c) 1 (omega arith))))
                    (sym (stays facts_base (l.facts * fact_words) (omega arith)))
                    refl
                    refl)),
                record { room = rw (length-set, length-set) v.room; objects = v.objects; facts = v.facts },
                index_stays (set u c o) l refl refl (stays facts_base (l.facts * fact_words) (omega arith)) (stays index_base index_words (omega arith)) x,
              );
            };
          }

pub place-room : (table s : List ℕ) (n : Counts) (l : Live) (c i x : ℕ) → GoodNames table n → GoodLive s l → c < n.constants → c < length (set s i x)
place-room table s n l c i x g v h = let a = g.constants in let b = v.room in rw length-set (omega arith)
