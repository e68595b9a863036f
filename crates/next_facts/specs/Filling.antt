-- Objects for the places of a predicate, one after the other, and the rows written so far.
use Rattle.std.specs.Prelude.{◌≡◌, true, cond, List, [], ◌∷◌, ◌++◌, map, ℕ, zero, suc, ◌+◌, ◌-◌, ◌*◌, ◌≤◌, ◌<◌, length, get_or, set, take, drop, eqb, ltb, leb}
use Rattle.label.specs.Limits.{first_parameter, first_variable, term_end, most_places, leaf_mark, predicate_count}
use Rattle.label.specs.Labels.{are_arities, packed, atom_from}
use Rattle.diagram.specs.Words.{up_to}
use Rattle.diagram.specs.Sizes.{most_rows}
use Rattle.diagram.specs.Validity.{Valid}
use Rattle.regression.specs.RegressCall.{truth_words, are_listings}
use Rattle.truths.specs.TruthChecks.{has_truth}
use Rattle.state.specs.Lent.{fact_words, most_facts, fact_row}
use Rattle.state.specs.Max.{gather}
use Rattle.replay.specs.Replay.{flat}
use Rattle.next_facts.specs.Reach.{free, reached, Reaching}
use Rattle.std.specs.Prelude.{None, Option, Some}

-- ===== The words that env begins with =====

-- the object of parameter i: that of constant 0 where it has none
abbrev pub parameter_word : List ℕ → List ℕ → ℕ → ℕ
parameter_word constants os i = get_or os i (get_or constants 0 0)

-- constants and parameters have their objects, the k arguments none, the other variables that of constant 0
unfoldable pub first_word : List ℕ → List ℕ → ℕ → ℕ → ℕ
first_word constants os k t =
    cond (ltb t first_parameter) (get_or constants t 0)
    (cond (ltb t first_variable) (parameter_word constants os (t - first_parameter)) (cond (ltb (t - first_variable) k) free (get_or constants 0 0)))

-- the first m words are those
pub record Begun (constants os : List ℕ) (k : ℕ) (env : List ℕ) (m : ℕ) : Type 0 where
  pub words : length env ≡ term_end
  pub each : (t : ℕ) → t < m → get_or env t 0 ≡ first_word constants os k t

-- all of them
unfoldable pub first_env : List ℕ → List ℕ → ℕ → List ℕ
unfolding first_word
first_env constants os k = map (first_word constants os k) (up_to term_end)

-- ===== The diagram of a predicate that stays =====

-- the first k variables
abbrev pub own_terms : ℕ → List ℕ
own_terms k = map (first_variable +◌) (up_to k)

-- place i of p(?a ..) with k places
unfoldable pub own_place : ℕ → ℕ → ℕ
own_place k i = get_or (own_terms k) i 0

unfoldable pub own_label : ℕ → ℕ → ℕ
unfolding packed
own_label p k = packed (atom_from p (own_terms k))

-- 1 where p holds, else 0
unfoldable pub own_words : ℕ → ℕ → List ℕ
unfolding own_label
own_words p k = leaf_mark ∷ 1 ∷ 0 ∷ leaf_mark ∷ 0 ∷ 0 ∷ own_label p k ∷ 0 ∷ 1 ∷ []

-- ===== Rows of facts =====

-- the k objects that stand at the place
unfoldable pub objects_in : List ℕ → ℕ → ℕ → List ℕ
objects_in ws at k = take k (drop at ws)

-- word i of the row of p with these objects
unfoldable pub row_word : List ℕ → ℕ → ℕ → ℕ → ℕ → ℕ
row_word ws at p k i = cond (eqb i 0) p (cond (leb i k) (get_or ws (at + (i - 1)) 0) 0)

-- the rows of p with the arguments that have objects, c of its k places left: none as soon as the diagram can only come to 0
unfoldable pub under : List ℕ → List ℕ → List ℕ → ℕ → ℕ → ℕ → ℕ → List ℕ → List (List ℕ)
unfolding reached objects_in
under ar facts ws p k n zero env = cond (reached ar facts ws env) (fact_row p (objects_in env first_variable k) ∷ []) []
under ar facts ws p k n (suc c) env =
    cond (reached ar facts ws env) (gather (λ v. under ar facts ws p k n c (set env (first_variable + (k - (c + 1))) v)) (up_to n)) []

-- its rows below v, of the place before the last c
unfoldable pub spread : List ℕ → List ℕ → List ℕ → ℕ → ℕ → ℕ → ℕ → List ℕ → ℕ → List (List ℕ)
unfolding under
spread ar facts ws p k n c env v = gather (λ o. under ar facts ws p k n c (set env (first_variable + (k - (c + 1))) o)) (up_to v)

-- all rows of p by its diagram's words
unfoldable pub rows_by : List ℕ → List ℕ → List ℕ → ℕ → ℕ → List ℕ → List ℕ → List (List ℕ)
unfolding under first_env
rows_by ar facts ws p n constants os = under ar facts ws p (get_or ar p 0) n (get_or ar p 0) (first_env constants os (get_or ar p 0))

-- the diagram's words: those of its truth diagram, or of the one that keeps it
unfoldable pub words_at : List ℕ → List ℕ → List ℕ → ℕ → List ℕ
unfolding own_words has_truth
words_at ar listings spans p = cond (has_truth spans p) (truth_words listings spans p) (own_words p (get_or ar p 0))

-- the rows of the first m predicates behind equality
unfoldable pub all_rows : List ℕ → List ℕ → List ℕ → List ℕ → ℕ → List ℕ → List ℕ → ℕ → List (List ℕ)
unfolding rows_by words_at
all_rows ar facts listings spans n constants os m = gather (λ p. rows_by ar facts (words_at ar listings spans (p + 1)) (p + 1) n constants os) (up_to m)

-- m rows, or more than a state in hand may have
unfoldable pub rows_counted : ℕ → Option ℕ
rows_counted m = cond (leb m most_facts) (Some m) None

-- the rows of the list are written behind the first `count` ones
pub record Filled (rows : List (List ℕ)) (count : ℕ) (out : List ℕ) (r : Option ℕ) (out' : List ℕ) : Type 0 where
  pub answer : r ≡ rows_counted (count + length rows)
  pub written : (m : ℕ) → r ≡ Some m → take (m * fact_words) out' ≡ take (count * fact_words) out ++ flat rows

-- and env is as it was
pub record FilledBy (rows : List (List ℕ)) (count : ℕ) (env out : List ℕ) (r : Option ℕ) (env' out' : List ℕ) : Type 0 where
  pub filled : Filled rows count out r out'
  pub restored : (m : ℕ) → r ≡ Some m → env' ≡ env

-- room for the rows, and a place for them
pub record Room (out : List ℕ) (count : ℕ) : Type 0 where
  pub words : most_facts * fact_words ≤ length out
  pub few : count ≤ most_facts

-- what rows are filled from: c of the k places of the predicate are left
pub record Fillable (ar ws env marks out : List ℕ) (k c count : ℕ) : Type 0 where
  pub reaching : Reaching ar ws env marks
  pub most : k ≤ most_places
  pub left : c ≤ k
  pub room : Room out count

-- a diagram's words, numbers for its rows, and room
pub record Walkable (ar ws marks out : List ℕ) (p count : ℕ) : Type 0 where
  pub valid : Valid ar ws
  pub predicate : p < predicate_count
  pub places : most_rows ≤ length marks
  pub room : Room out count

-- a variant's truth diagrams, numbers for their rows, and room
pub record Askable (ar listings spans marks out : List ℕ) (p count : ℕ) : Type 0 where
  pub arities : are_arities ar ≡ true
  pub listed : are_listings ar listings spans 1 (predicate_count - 1) ≡ true
  pub some : 0 < p
  pub predicate : p < predicate_count
  pub places : most_rows ≤ length marks
  pub room : Room out count
