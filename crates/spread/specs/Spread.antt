-- How many states of n objects have which value (document 02, L11).
use Rattle.std.specs.Prelude.{Bool, cond, List, [], ◌∷◌, map, ℕ, zero, suc, ◌+◌, ◌^◌, eqb, ltb}
use Rattle.refusal.specs.declared.Refusal.TheVariants.{Ground, Valuations}
use Rattle.refusal.specs.Outcome.{Outcome, ok, refused}
use Rattle.diagram.specs.Listing.{diagram_of}
use Rattle.state.specs.State.{meaning}
use Rattle.state.specs.Highest.{insert}
use Rattle.minimum.specs.Number.{number}
use Rattle.state.specs.Lent.{some_below}
use Rattle.elimination.specs.Answer.{is_too_large}
use Rattle.spread.specs.Ground.{most_ground, ground_count, choice_state}

-- what a (count) line says: a value, and how many states have it
pub record Entry : Type 0 where
  pub value : ℕ
  pub states : ℕ

-- value and states, entry by entry: the words in which lines are handed on
unfoldable pub entry_words : List Entry → List ℕ
entry_words [] = []
entry_words (e ∷ l) = e.value ∷ e.states ∷ entry_words l

-- the values f 0 to f (m - 1): "each value that occurs, lowest first"
unfoldable pub values : ℕ → (ℕ → ℕ) → List ℕ
unfolding insert
values zero f = []
values (suc m) f = insert (f m) (values m f)

-- how many of the numbers below m have the value v
unfoldable pub count_of : ℕ → (ℕ → ℕ) → ℕ → ℕ
count_of zero f v = 0
count_of (suc m) f v = count_of m f v + cond (eqb (f m) v) 1 0

-- each value that occurs "with the number of states that have it"
unfoldable pub entries : ℕ → (ℕ → ℕ) → List Entry
unfolding values count_of
entries m f = map (λ v. record { value = v; states = count_of m f v }) (values m f)

-- the value in choice c's state: what (value) prints there
unfoldable pub value_in : List ℕ → ℕ → ℕ → List ℕ → List ℕ → ℕ → ℕ
unfolding choice_state number meaning
value_in ar count n constants ws c = number (choice_state ar count n constants c) [] (meaning ar (diagram_of ws))

-- the entries of all states of n objects
unfoldable pub entries_of : List ℕ → ℕ → ℕ → List ℕ → List ℕ → List Entry
unfolding ground_count entries value_in
entries_of ar count n constants ws = entries (2 ^ ground_count ar count n) (value_in ar count n constants ws)

-- a state meets 15
unfoldable pub some_too_large : List ℕ → ℕ → ℕ → List ℕ → List ℕ → Bool
unfolding ground_count choice_state is_too_large
some_too_large ar count n constants ws = some_below (2 ^ ground_count ar count n) (λ c. is_too_large ar (choice_state ar count n constants c) [] ws)

-- "24 .. checked before any state is formed"; "number 15 is judged for each state; one that meets it refuses the whole form"
unfoldable pub spread : List ℕ → ℕ → ℕ → List ℕ → List ℕ → Outcome (List Entry)
unfolding ground_count some_too_large entries_of
spread ar count n constants ws =
    cond (ltb most_ground (ground_count ar count n)) (refused Ground)
    (cond (some_too_large ar count n constants ws) (refused Valuations)
    (ok (entries_of ar count n constants ws)))
