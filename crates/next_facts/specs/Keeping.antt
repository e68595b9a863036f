-- The rows of a predicate that stays, taken from the lent facts where these stand in order.
use Rattle.std.specs.Prelude.{◌≡◌, Bool, true, cond, List, [], ◌∷◌, ℕ, suc, ◌+◌, ◌*◌, ◌≤◌, ◌<◌, get_or, take, drop, eqb}
use Rattle.diagram.specs.Words.{up_to}
use Rattle.state.specs.Lent.{fact_words, fact_count, predicate_at, all_below, is_state}
use Rattle.state.specs.Max.{gather}
use Rattle.reduction.specs.Claims.{Lower}
use Rattle.state.specs.Lent.{fact_row}
use Rattle.next_facts.specs.Reach.{free}
use Rattle.next_facts.specs.Filling.{objects_in}

-- the words of row i that count: its predicate, and an object for each of its places
unfoldable pub key_at : List ℕ → List ℕ → ℕ → List ℕ
unfolding predicate_at
key_at ar facts i = take (suc (get_or ar (predicate_at facts i) 0)) (drop (i * fact_words) facts)

-- each row is lower than the next
pub record Ordered (ar facts : List ℕ) : Type 0 where
  pub each : (i : ℕ) → suc i < fact_count facts → Lower (key_at ar facts i) (key_at ar facts (suc i))

-- row i, if it is one of p
unfoldable pub kept_at : List ℕ → ℕ → ℕ → ℕ → List (List ℕ)
unfolding predicate_at objects_in
kept_at facts p k i = cond (eqb (predicate_at facts i) p) (fact_row p (objects_in facts (i * fact_words + 1) k) ∷ []) []

-- those of the first m rows
unfoldable pub kept_rows : List ℕ → ℕ → ℕ → ℕ → List (List ℕ)
unfolding kept_at
kept_rows facts p k m = gather (kept_at facts p k) (up_to m)

-- a state, the objects of the parameters, and what is known of the order of its facts
pub record Standing (ar facts constants os : List ℕ) (n : ℕ) (ordered : Bool) : Type 0 where
  pub lent : is_state ar n constants facts ≡ true
  pub objects : all_below n os ≡ true
  pub most : n ≤ free
  pub order : ordered ≡ true → Ordered ar facts
