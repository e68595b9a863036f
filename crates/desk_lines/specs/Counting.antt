-- What the parts of the code of (count n) require and answer. Nobody must believe these: Lines has what the function of the line promises.
use Rattle.std.specs.Prelude.{◌≡◌, true, not, ◌&&◌, List, ℕ, ◌≤◌, ◌<◌, length, leb}
use Rattle.refusal.specs.declared.Refusal.TheVariants.{Range}
use Rattle.refusal.specs.Outcome.{Outcome}
use Rattle.label.specs.Limits.{predicate_count}
use Rattle.diagram.specs.Words.{is_listing}
use Rattle.state.specs.Lent.{constants_below, most_objects}
use Rattle.spread.specs.Spread.{Entry, spread}
use Rattle.session.specs.Session.{refuse_if}
use Rattle.count_states.specs.Counted.{table_words}

-- what the line reads of lent words: count_read on them (session)
unfoldable pub spread_read : List ℕ → ℕ → ℕ → List ℕ → List ℕ → Outcome (List Entry)
unfolding constants_below spread
spread_read ar predicates n constants ws =
    refuse_if (not (leb 1 n && leb n most_objects)) Range
    (refuse_if (not (constants_below n constants)) Range
    (spread ar predicates n constants ws))

-- declared predicates, a value's listing, and room for the lines
pub record Spreadable (ar : List ℕ) (predicates : ℕ) (ws table : List ℕ) : Type 0 where
  pub declared : predicates < predicate_count
  pub listed : is_listing ar ws ≡ true
  pub room : table_words ≤ length table
