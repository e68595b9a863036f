-- What contracts of inner functions and proofs cite. Nothing here has to be believed.
use Rattle.std.specs.Prelude.{◌≡◌, ◌&&◌, cond, List, ℕ, suc, ◌+◌, ◌*◌, ◌<◌, eqb, ltb, length, get_or, set, take, drop}
use Rattle.label.specs.Limits.{most_places}
use Rattle.refusal.specs.Outcome.{Outcome, ok, refused}
use Rattle.state.specs.Lent.{fact_words, all_below}
use Rattle.fact_index.specs.Inner.{Indexed, Clean}
use Rattle.session.specs.Session.{Live as SessionLive}
use Rattle.session.specs.Facts.{true_line}
use Rattle.words.specs.declared.Key.{Key}
use Rattle.declare.specs.declared.Counts.{Counts}
use Rattle.declare.specs.Tables.{names_of}
use Rattle.facts.specs.declared.Tuple.{Tuple}
use Rattle.facts.specs.declared.Live.{Live}
use Rattle.facts.specs.Words.{facts_base, index_base, index_words, part, live_of, GoodLive}
use Rattle.refusal.specs.declared.Refusal.{Refusal}
use Rattle.std.specs.Prelude.{Err, Ok, Result}

-- a line has at most 4,095 bytes
abbrev pub most_bytes : ℕ
most_bytes = 4095

-- ===== The index of the facts =====

-- the rows that it holds: none before an accepted (objects n)
unfoldable pub indexed_rows : Live → ℕ
indexed_rows l = cond (eqb l.objects 0) 0 l.facts

-- it stands behind the facts
pub record FactIndex (ar s : List ℕ) (l : Live) : Type 0 where
  pub indexed : Indexed ar (part s facts_base (l.facts * fact_words)) (part s index_base index_words) (indexed_rows l)

-- words that are no part of the index stay
pub record Reindexed (s t : List ℕ) : Type 0 where
  pub size : length t ≡ length s
  pub front : take index_base t ≡ take index_base s

-- and it has no rows
pub record Unindexed (s t : List ℕ) : Type 0 where
  pub stays : Reindexed s t
  pub clean : Clean (part t index_base index_words)

-- and it holds the first n rows of the facts
pub record Rowed (ar s : List ℕ) (n : ℕ) (t : List ℕ) : Type 0 where
  pub stays : Reindexed s t
  pub indexed : Indexed ar (part t facts_base (n * fact_words)) (part t index_base index_words) n

-- and it is that of the state
pub record Remade (ar s : List ℕ) (l : Live) (t : List ℕ) : Type 0 where
  pub stays : Reindexed s t
  pub index : FactIndex ar t l

-- ===== Lines =====

abbrev pub Lives : List ℕ → Outcome SessionLive → List ℕ → Result Live Refusal → List ℕ → Type 0
Lives ar o s (Ok l) t = (o ≡ ok (live_of t l)) × GoodLive t l × FactIndex ar t l
Lives ar o s (Err r) t = (o ≡ refused r) × (t ≡ s)

-- the state behind an accepted line, with the index of its facts; a refused one leaves the words as they were
pub record Living (ar : List ℕ) (o : Outcome SessionLive) (s : List ℕ) (r : Result Live Refusal) (t : List ℕ) : Type 0 where
  pub lives : Lives ar o s r t

-- the same, whatever the arity list is: facts stay
pub record Placing (o : Outcome SessionLive) (s : List ℕ) (l : Live) (r : Result Live Refusal) (t : List ℕ) : Type 0 where
  pub living : (ar : List ℕ) → FactIndex ar s l → Living ar o s r t

-- the first n words are 0
pub record Cleared (s t : List ℕ) (n : ℕ) : Type 0 where
  pub size : length t ≡ length s
  pub zeros : (i : ℕ) → i < n → get_or t i 0 ≡ 0

-- and the others are as they were
pub record Unplaced (s t : List ℕ) (n : ℕ) : Type 0 where
  pub cleared : Cleared s t n
  pub rest : drop n t ≡ drop n s

-- no constant is placed, and no fact indexed
pub record Emptied (s t : List ℕ) : Type 0 where
  pub cleared : Cleared s t facts_base
  pub clean : Clean (part t index_base index_words)

-- a row of a fact with no object yet
pub record EmptyRow (row : List ℕ) : Type 0 where
  pub size : length row ≡ fact_words
  pub zeros : (j : ℕ) → j < most_places → get_or row (suc j) 0 ≡ 0

-- what is kept of the objects os of a line, in a state of n objects: their number, whether all are objects, and, in a row, one for each place
pub record TupleOf (n : ℕ) (os : List ℕ) (o : Tuple) (row : List ℕ) : Type 0 where
  pub count : o.count ≡ length os
  pub within : o.within ≡ all_below n os
  pub size : length row ≡ fact_words
  pub objects : (j : ℕ) → j < most_places → get_or row (suc j) 0 ≡ get_or os j 0

-- one object v more
unfoldable pub tuple_more : Tuple → ℕ → ℕ → Tuple
tuple_more t v n = record { count = t.count + 1; within = t.within && ltb v n }

unfoldable pub kept : List ℕ → ℕ → ℕ → List ℕ
kept row count v = cond (ltb count most_places) (set row (1 + count) v) row

-- a line (true p o ..) whose predicate has the key k and whose objects os are kept as o and the row
pub record Telling (ar table : List ℕ) (n : Counts) (s : List ℕ) (l : Live) (k : Key) (o : Tuple) (row : List ℕ) (r : Result Live Refusal) (t : List ℕ) : Type 0 where
  pub told : (os : List ℕ) → TupleOf l.objects os o row → Living ar (true_line ar (names_of table n) (live_of s l) k os) s r t
