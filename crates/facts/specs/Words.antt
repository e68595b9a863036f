-- A state in lent words: the constants' objects, marks of those placed, the facts as rows of words, then their index (crate fact_index).
use Rattle.std.specs.Prelude.{List, ℕ, ◌+◌, ◌*◌, ◌≤◌, length, take, drop}
use Rattle.label.specs.Limits.{constant_count}
use Rattle.state.specs.Lent.{fact_words, most_facts, most_objects}
use Rattle.fact_index.specs.Index.{buckets}
use Rattle.session.specs.Session.{Live as SessionLive}
use Rattle.facts.specs.declared.Live.{Live}

abbrev pub placed_base : ℕ
placed_base = constant_count

abbrev pub facts_base : ℕ
facts_base = constant_count + constant_count

abbrev pub index_base : ℕ
index_base = facts_base + most_facts * fact_words

-- buckets, and a link for each fact
abbrev pub index_words : ℕ
index_words = buckets + most_facts

abbrev pub state_words : ℕ
state_words = index_base + index_words

abbrev pub part : List ℕ → ℕ → ℕ → List ℕ
part s i n = take n (drop i s)

unfoldable pub live_of : List ℕ → Live → SessionLive
live_of s l = record {
  objects = l.objects;
  placed = part s placed_base constant_count;
  constants = part s 0 constant_count;
  facts = part s facts_base (l.facts * fact_words);
  count = l.count;
  total = l.total;
}

pub record GoodLive (s : List ℕ) (l : Live) : Type 0 where
  pub room : state_words ≤ length s
  pub objects : l.objects ≤ most_objects
  pub facts : l.facts ≤ most_facts
