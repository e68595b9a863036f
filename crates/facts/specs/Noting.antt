-- What the parts of the code of (true p o ..) keep. Nobody must believe these: Words has what the line promises.
use Rattle.std.specs.Prelude.{◌≡◌, List, ℕ, ◌+◌, ◌*◌, ◌<◌}
use Rattle.state.specs.Lent.{fact_words, fact_count}
use Rattle.fact_index.specs.Inner.{bucket_at, Indexed}
use Rattle.fact_index.specs.Index.{buckets}
use Rattle.session.specs.Facts.{with_fact}
use Rattle.facts.specs.declared.Live.{Live}
use Rattle.facts.specs.Words.{facts_base, index_base, index_words, part, live_of, GoodLive}

-- all facts are in the index, and b is the bucket of the row
pub record Findable (facts index row : List ℕ) (b : ℕ) : Type 0 where
  pub arities : List ℕ
  pub indexed : Indexed arities facts index (fact_count facts)
  pub bucket : (b ≡ bucket_at arities row 0) × (b < buckets)

-- the state behind one fact more
abbrev pub noted : Live → Live
noted l = record { objects = l.objects; facts = l.facts + 1; count = 0; total = 0 }

-- one fact more, which is in the index if b is its bucket
pub record PutIn (s : List ℕ) (l : Live) (row : List ℕ) (b : ℕ) (t : List ℕ) : Type 0 where
  pub live : live_of t (noted l) ≡ with_fact (live_of s l) row
  pub good : GoodLive t (noted l)
  pub index : (ar : List ℕ) → Indexed ar (part s facts_base (l.facts * fact_words)) (part s index_base index_words) l.facts → b ≡ bucket_at ar row 0
      → Indexed ar (part t facts_base ((l.facts + 1) * fact_words)) (part t index_base index_words) (l.facts + 1)
