-- Laws of the facts in lent words: the search for one, and one more.
use mathlib.Core.Path.{◌≡◌, refl, sym, ap, ap₂, subst, ◌∙◌}
use mathlib.Core.Bool.{Bool, true, false, not}
use mathlib.Core.List.{List, [], ◌∷◌, ◌++◌}
use Prim.Native.Nat.{ℕ, zero, suc, ◌+◌, ◌*◌, ◌-◌, ◌<◌, ◌≤◌}
use native.Mathlib.Omega.{arith}
use borrow.Author.Tests.{le-leb, lt-leb, eq-eqb, ne_eqb, eqb-true}
use lib.ListN.{length, get_or, set, take, drop, replicate, length-set, length-append, length-replicate}
use lib.Seq.{take-add, drop-drop, take_all, ext_get_or, get_or-take, get_or-set_same, get_or-set_other, length-take-le, paste, length-paste}
use lib.Dec.{eqb}
use Rattle.basics.specs.Tests.{and_left}
use Rattle.state.specs.Lent.{fact_count, all_below, fact_words, most_facts, fact_row}
use Rattle.state.proofs.LentLaws.{some-made, some-none}
use Rattle.fact_index.specs.Inner.{bucket_at, indexed_count, Indexed, Asks}
use Rattle.fact_index.specs.Index.{buckets}
use Rattle.fact_index.specs.IndexLaws.{bucket-same, indexed-same, index-add}
use Rattle.fact_index.specs.SearchLaws.{Chain, chain_head, chain-start, chain-row, chain_link, chain-less, chain-hit, chain-on, chain-none}
use Rattle.session.specs.Session.{refuse_if}
use Rattle.diagram.specs.WordLaws.{below-every}
use Rattle.session.specs.Facts.{same_word, row_is, is_fact, with_fact, begun_again, fact_line, true_line}
use Rattle.facts.specs.declared.Live.{Live}
use Rattle.facts.specs.declared.Tuple.{Tuple}
use Rattle.words.specs.declared.Key.{Key}
use Rattle.names.specs.Keys.{keys_at, place_of}
use Rattle.names.specs.Layout.{declared_at}
use Rattle.names.specs.KeyLaws.{among-at, among_none}
use Rattle.declare.specs.declared.Counts.{Counts}
use Rattle.declare.specs.Tables.{names_of, GoodVocabulary}
use Rattle.label.specs.Limits.{constant_count, predicate_count, most_places}
use Rattle.label.specs.Labels.{are_arities}
use Rattle.refusal.specs.declared.Refusal.TheVariants.{Name, Arity, Range, Space}
use Rattle.refusal.specs.Outcome.{ok}
use Rattle.facts.specs.Inner.{FactIndex, Living, TupleOf, Telling}
use Rattle.facts.specs.Words.{part, live_of, GoodLive, placed_base, facts_base, index_base, index_words, state_words}
use Rattle.facts.specs.Noting.{Findable, noted, PutIn}
use Rattle.facts.specs.PartLaws.{length_part, part_at, part-lent, set-behind, paste-in, paste-before, paste-behind}
use Rattle.facts.specs.WordLaws.{live-ext, fact-count, index-rows, index-holds, index_stays}
use Rattle.facts.proofs.IndexLaws.{entered}
use Rattle.refusal.specs.declared.Refusal.{Refusal}
use Rattle.std.specs.Prelude.{Err, Ok, Result}

-- ===== The search =====

-- a fact that is the row is in the row's bucket, and all facts are in the index
module _ {facts index row : List ℕ} {b : ℕ} (x : Findable facts index row b) where
  all-indexed : fact_count facts ≡ indexed_count facts index
  unfolding indexed_count
  all-indexed = omega (arith, x.indexed.places)

  asked : Asks facts index (row_is facts row) b
  asked = record {
    arities = x.arities;
    fits = subst (Indexed x.arities facts index) all-indexed x.indexed;
    bucket = x.bucket.1;
    only = λ i e. bucket-same x.arities facts row i 0 (λ j h. word i j e h) ∙ sym x.bucket.0;
  }
    where
      word : (i j : ℕ) → row_is facts row i ≡ true → j < fact_words → get_or facts (i * fact_words + j) 0 ≡ get_or row (0 * fact_words + j) 0
      word i j e h =
          let z : j ≡ 0 * fact_words + j = omega arith in
          eqb-true _ _ (below-every fact_words (same_word facts row i) j e h) ∙ ap (λ (k : ℕ). get_or row k 0) z

-- facts in the bucket from `at` on were looked at
pub record Looked (facts index row : List ℕ) (b at : ℕ) : Type 0 where
  pub chain : Chain facts index (row_is facts row) b at

module _ {facts index row : List ℕ} {b : ℕ} (x : Findable facts index row b) where
  pub look-start : Looked facts index row b (get_or index b 0)
  look-start = record { chain = chain-start (asked x) }

  pub look-head : b < length index
  look-head = chain_head (asked x)

  module _ {at : ℕ} (l : Looked facts index row b at) where
    pub look_none : at ≡ 0 → false ≡ is_fact facts row
    unfolding is_fact
    look_none z = sym (some-none (fact_count facts) (row_is facts row) (λ i h. (chain-none l.chain z).no refl i (omega arith) (omega (arith, all-indexed x))))

    module _ (n : at ≡ 0 → ⊥) {r : Bool} (e : r ≡ row_is facts row (at - 1)) where
      pub look_hit : r ≡ true → true ≡ is_fact facts row
      unfolding is_fact
      look_hit t =
          let f = (chain-hit l.chain n e t).yes refl in
          sym (some-made (fact_count facts) (row_is facts row) f.0 (omega (arith, all-indexed x, f.1)) f.2)

module _ {facts index row : List ℕ} {b at : ℕ} (l : Looked facts index row b at) (n : at ≡ 0 → ⊥) where
  pub look-row : (at - 1) * fact_words + fact_words ≤ length facts
  look-row = chain-row l.chain n

  pub look-link : buckets + (at - 1) < length index
  look-link = chain_link l.chain n

  pub look-less : get_or index (buckets + (at - 1)) 0 < at
  look-less = chain-less l.chain n

  pub look-on : {r : Bool} → r ≡ row_is facts row (at - 1) → r ≡ false → Looked facts index row b (get_or index (buckets + (at - 1)) 0)
  look-on e t = record { chain = chain-on l.chain n e t }

-- ===== One more =====

-- the row behind the facts, and at the head of bucket b
module _ (s : List ℕ) (l : Live) (row : List ℕ) (b : ℕ) where
  abbrev place : ℕ
  place = facts_base + l.facts * fact_words

  abbrev written : List ℕ
  written = paste s place row fact_words

  abbrev entry : List ℕ
  entry = set written (index_base + buckets + l.facts) (get_or written (index_base + b) 0)

  abbrev put : List ℕ
  put = set entry (index_base + b) (l.facts + 1)

  module _ (g : GoodLive s l) (few : l.facts < most_facts) (e : length row ≡ fact_words) (m : b < buckets) where
    entry-size : length entry ≡ length s
    entry-size =
        length-set written (index_base + buckets + l.facts) (get_or written (index_base + b) 0)
        ∙ length-paste s place row fact_words (omega (arith, g.room)) (omega arith)

    put-size : length put ≡ length s
    put-size = length-set entry (index_base + b) (l.facts + 1) ∙ entry-size

    put-before : (i n : ℕ) → i + n ≤ index_base → part put i n ≡ part written i n
    put-before i n h =
        set-behind entry i n (index_base + b) (l.facts + 1) (omega arith)
        ∙ set-behind written i n (index_base + buckets + l.facts) (get_or written (index_base + b) 0) (omega arith)

    put_front : (i n : ℕ) → i + n ≤ place → part put i n ≡ part s i n
    put_front i n h = put-before i n (omega arith) ∙ paste-before s place row fact_words (omega (arith, g.room)) (omega arith) i n h

    put-row : part put place fact_words ≡ row
    put-row =
        put-before place fact_words (omega arith)
        ∙ (paste-in s place row fact_words (omega (arith, g.room)) (omega arith) ∙ take_all fact_words row (omega arith))

    put-facts : part put facts_base ((l.facts + 1) * fact_words) ≡ part s facts_base (l.facts * fact_words) ++ row
    put-facts =
        let z : (l.facts + 1) * fact_words ≡ l.facts * fact_words + fact_words = omega arith in
        ap (λ (n : ℕ). part put facts_base n) z ∙ (take-add (l.facts * fact_words) fact_words (drop facts_base put)
        ∙ ap₂ ◌++◌ (put_front facts_base (l.facts * fact_words) (omega arith)) (ap (take fact_words) (drop-drop (l.facts * fact_words) facts_base put) ∙ put-row))

    put-index : part put index_base index_words
        ≡ set (set (part s index_base index_words) (buckets + l.facts) (get_or (part s index_base index_words) b 0)) b (l.facts + 1)
    put-index =
        entered written l.facts b few m
        ∙ ap (λ (y : List ℕ). set (set y (buckets + l.facts) (get_or y b 0)) b (l.facts + 1))
        (paste-behind s place row fact_words (omega (arith, g.room)) (omega arith) index_base index_words (omega arith))

    -- a word of the facts
    put_word : (i : ℕ) → i < (l.facts + 1) * fact_words → get_or (part put facts_base ((l.facts + 1) * fact_words)) i 0 ≡ get_or put (facts_base + i) 0
    put_word i h = part_at put facts_base ((l.facts + 1) * fact_words) i h

    put-indexed : (ar : List ℕ) → Indexed ar (part s facts_base (l.facts * fact_words)) (part s index_base index_words) l.facts → b ≡ bucket_at ar row 0
        → Indexed ar (part put facts_base ((l.facts + 1) * fact_words)) (part put index_base index_words) (l.facts + 1)
    put-indexed ar x q =
        let f = l.facts in
        let facts : List ℕ = part put facts_base ((f + 1) * fact_words) in
        let size = length_part put facts_base ((f + 1) * fact_words) (omega (arith, put-size, g.room)) in
        let long = length_part s index_base index_words g.room in
        rw put-index
        (index-add ar facts (part s index_base index_words) f b (indexed-same facts x (omega arith) old) (omega arith) (omega arith)
        (q ∙ sym (bucket-same ar facts row f 0 new), m))
      where
        old : (i : ℕ) → i < l.facts * fact_words → get_or (part put facts_base ((l.facts + 1) * fact_words)) i 0 ≡ get_or (part s facts_base (l.facts * fact_words)) i 0
        old i h =
            put_word i (omega arith) ∙ (sym (part_at put facts_base (l.facts * fact_words) i h)
            ∙ ap (λ (y : List ℕ). get_or y i 0) (put_front facts_base (l.facts * fact_words) (omega arith)))

        new : (j : ℕ) → j < fact_words → get_or (part put facts_base ((l.facts + 1) * fact_words)) (l.facts * fact_words + j) 0 ≡ get_or row (0 * fact_words + j) 0
        new j h =
            let y : facts_base + (l.facts * fact_words + j) ≡ place + j = omega arith in
            let z : j ≡ 0 * fact_words + j = omega arith in
            put_word (l.facts * fact_words + j) (omega arith) ∙ (ap (λ (k : ℕ). get_or put k 0) y ∙ (sym (part_at put place fact_words j h)
            ∙ (ap (λ (y : List ℕ). get_or y j 0) put-row ∙ ap (λ (k : ℕ). get_or row k 0) z)))

    put_in : PutIn s l row b put
    unfolding live_of with_fact
    put_in = record {
      live = live-ext _ _ refl (put_front placed_base constant_count (omega arith)) (put_front 0 constant_count (omega arith)) put-facts refl refl;
      good = record { room = omega (arith, put-size, g.room); objects = g.objects; facts = omega arith };
      index = put-indexed;
    }

    module _ {u : List ℕ} (w : u ≡ paste s (facts_base + l.facts * fact_words) row fact_words) where
      pub put-room : index_base + b < length (set u (index_base + buckets + l.facts) (get_or u (index_base + b) 0))
      put-room = rw w (omega (arith, entry-size, g.room))

      pub put-done : PutIn s l row b (set (set u (index_base + buckets + l.facts) (get_or u (index_base + b) 0)) (index_base + b) (l.facts + 1))
      put-done = rw w put_in

-- ===== A fact told =====

padded-at : (os : List ℕ) (m j : ℕ) → get_or (os ++ replicate m 0) j 0 ≡ get_or os j 0
padded-at [] zero j = refl
padded-at [] (suc m) zero = refl
padded-at [] (suc m) (suc j) = padded-at [] m j
padded-at (o ∷ os) m zero = refl
padded-at (o ∷ os) m (suc j) = padded-at os m j

-- the row of the objects kept, with its predicate
row_made : (p : ℕ) {n : ℕ} {os : List ℕ} {o : Tuple} {row : List ℕ} → TupleOf n os o row → set row 0 p ≡ fact_row p os
row_made p {n} {os} {o} {row} w = ext_get_or 0 (set row 0 p) (fact_row p os) (length-set row 0 p ∙ w.size ∙ sym size) word
  where
    tail : length (take most_places (os ++ replicate most_places 0)) ≡ most_places
    tail = length-take-le most_places (os ++ replicate most_places 0) (omega (arith, length-append os (replicate most_places 0), length-replicate {A = ℕ} most_places 0))

    size : length (fact_row p os) ≡ fact_words
    size = ap suc tail

    word : (j : ℕ) → j < length (set row 0 p) → get_or (set row 0 p) j 0 ≡ get_or (fact_row p os) j 0
    word zero h = get_or-set_same row 0 p 0 (omega (arith, w.size))
    word (suc j) h =
        let q : j < most_places = omega (arith, length-set row 0 p, w.size) in
        get_or-set_other row 0 (suc j) p 0 (λ e. omega arith) ∙ w.objects j q
        ∙ sym (get_or-take most_places (os ++ replicate most_places 0) j 0 q ∙ padded-at os most_places j)

module _ {ar s : List ℕ} {l : Live} (row : List ℕ) (g : GoodLive s l) (x : FactIndex ar s l) where
  pub note-find : {b : ℕ} → 1 ≤ l.objects → (b ≡ bucket_at ar row 0) × (b < buckets)
      → Findable (take (facts_base + l.facts * fact_words - facts_base) (drop facts_base s)) (take (state_words - index_base) (drop index_base s)) row b
  note-find o e = rw (part-lent s facts_base (l.facts * fact_words)) (record {
    arities = ar;
    indexed = subst (Indexed ar _ _) (sym (fact-count g)) (index-holds o x);
    bucket = e;
  })

  module _ {r : Bool} (q : r ≡ is_fact (take (facts_base + l.facts * fact_words - facts_base) (drop facts_base s)) row) where
    lent-facts : r ≡ is_fact (part s facts_base (l.facts * fact_words)) row
    lent-facts = q ∙ ap (λ (y : List ℕ). is_fact y row) (part-lent s facts_base (l.facts * fact_words))

    pub note-again : r ≡ true → Living ar (fact_line (live_of s l) row) s (Ok (record { objects = l.objects; facts = l.facts; count = 0; total = 0 })) s
    unfolding fact_line begun_again live_of
    note-again t = record {
      lives = (
        rw (← lent-facts, t),
        record { room = g.room; objects = g.objects; facts = g.facts },
        index_stays s (record { objects = l.objects; facts = l.facts; count = 0; total = 0 }) refl refl refl refl x,
      );
    }

    module _ (t : r ≡ false) where
      pub note-space : most_facts ≤ l.facts → Living ar (fact_line (live_of s l) row) s (Err Space) s
      unfolding fact_line live_of
      note-space h = record { lives = (rw (← lent-facts, t, fact-count g, le-leb most_facts l.facts h), refl) }

      pub note-done : {b : ℕ} {u : List ℕ} → 1 ≤ l.objects → (b ≡ bucket_at ar row 0) × (b < buckets) → l.facts < most_facts → PutIn s l row b u
          → Living ar (fact_line (live_of s l) row) s (Ok (noted l)) u
      unfolding fact_line live_of
      note-done o e h p = record {
        lives = (
          rw (← lent-facts, t, fact-count g, lt-leb most_facts l.facts h) (ap ok (sym p.live)),
          p.good,
          index-rows o (p.index ar (index-holds o x) e.0),
        );
      }

module _ (ar table s : List ℕ) (n : Counts) (l : Live) (k : Key) (o : Tuple) (row : List ℕ) {i : ℕ} (p : i ≡ place_of k (keys_at table declared_at n.predicates)) where
  pub tell-name : n.predicates ≤ i → Telling ar table n s l k o row (Err Name) s
  unfolding true_line names_of
  tell-name h = record { told = λ os w. record { lives = (rw (among_none table declared_at n.predicates k p h), refl) } }

  module _ (h : i < n.predicates) where
    predicate-at : get_or ar (i + 1) 0 ≡ get_or ar (suc (place_of k (keys_at table declared_at n.predicates))) 0
    predicate-at = let e : i + 1 ≡ suc (place_of k (keys_at table declared_at n.predicates)) = omega arith in ap (λ (j : ℕ). get_or ar j 0) e

    pub tell-arity : (o.count ≡ get_or ar (i + 1) 0 → ⊥) → Telling ar table n s l k o row (Err Arity) s
    unfolding true_line names_of
    tell-arity e = record {
      told = λ os w. record {
        lives = (
          rw (among-at table declared_at n.predicates k p h, ← w.count, ← predicate-at, ne_eqb o.count (get_or ar (i + 1) 0) e),
          refl,
        );
      };
    }

    module _ (e : o.count ≡ get_or ar (i + 1) 0) where
      pub tell-range : o.within ≡ false → Telling ar table n s l k o row (Err Range) s
      unfolding true_line names_of live_of
      tell-range b = record {
        told = λ os w. record {
          lives = (
            rw (among-at table declared_at n.predicates k p h, ← w.count, ← predicate-at, eq-eqb o.count (get_or ar (i + 1) 0) e, ← w.within, b),
            refl,
          );
        };
      }

      pub tell-done : {r : Result Live Refusal} {t : List ℕ} → o.within ≡ true → Living ar (fact_line (live_of s l) (set row 0 (i + 1))) s r t → Telling ar table n s l k o row r t
      unfolding true_line names_of live_of
      tell-done {r} {t} b v = record {
        told = λ os w.
            rw (among-at table declared_at n.predicates k p h, ← w.count, ← predicate-at, eq-eqb o.count (get_or ar (i + 1) 0) e)
            (within os w);
      }
        where
          number : i + 1 ≡ suc (place_of k (keys_at table declared_at n.predicates))
          number = omega arith

          within : (os : List ℕ) → TupleOf l.objects os o row
              → Living ar (refuse_if (not (all_below (live_of s l).objects os)) Range (fact_line (live_of s l) (fact_row (suc (place_of k (keys_at table declared_at n.predicates))) os))) s r t
          within os w = rw (← number, ← row_made (i + 1) w, ← w.within, b) v

pub tell-room : (ar table : List ℕ) (n : Counts) (i : ℕ) → GoodVocabulary table ar n → i < n.predicates → i + 1 < length ar
unfolding are_arities
tell-room ar table n i g h =
    let e = eqb-true (length ar) predicate_count (and_left (eqb (length ar) predicate_count) _ g.arities) in
    let b = g.names.predicates in
    omega arith
