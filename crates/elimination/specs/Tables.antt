-- Tables over variables, how they are joined, united and aggregated, and their entries (document 02, L6; source document 003).
use Rattle.std.specs.Prelude.{Bool, true, false, not, ◌&&◌, ◌||◌, cond, List, [], ◌∷◌, ℕ, zero, suc, ◌+◌, eqb}
use Rattle.state.specs.Max.{max_to}
use Rattle.state.specs.State.{Atomic, State, holds}
use Rattle.state.specs.Terms.{args}
use Rattle.state.specs.Highest.{put, vars_of, start}
use Rattle.state.specs.Lent.{some_below}

-- A table names variables, each once, ascending. An entry is a choice of an object for each of them, with a value.
-- θ gives every term an object: whether the table has an entry for the objects of its names, and that entry's value.
pub record Table : Type 0 where
  pub names : List ℕ
  pub has : (ℕ → ℕ) → Bool
  pub value : (ℕ → ℕ) → ℕ

-- ===== How many entries =====

-- f 0 + .. + f (n - 1)
unfoldable pub sum_to : ℕ → (ℕ → ℕ) → ℕ
sum_to zero f = 0
sum_to (suc n) f = sum_to n f + f n

-- for how many choices of an object below n for each variable of the list p holds; with no variable there is one choice
unfoldable pub count_choices : ℕ → List ℕ → (ℕ → ℕ) → ((ℕ → ℕ) → Bool) → ℕ
unfolding sum_to put
count_choices n [] θ p = cond (p θ) 1 0
count_choices n (v ∷ vs) θ p = sum_to n (λ o. count_choices n vs (put θ v o) p)

-- what is no variable as placed, parameters by the tuple os
unfoldable pub entries : State → List ℕ → Table → ℕ
unfolding count_choices start
entries s os x = count_choices s.size x.names (start s os) x.has

-- ===== The tables =====

-- "a leaf table has one entry"
unfoldable pub leaf_table : ℕ → Table
leaf_table v = record { names = []; has = λ θ. true; value = λ θ. v }

-- whether a truth is the case b
abbrev pub is_case : Bool → Bool → Bool
is_case true c = c
is_case false c = not c

-- "its label's true cases are joined with the true row's table and its false cases with the false row's"; "a join names the atom's and the child's
-- variables": an entry for each choice for which the atom is the case b and the child's table x has the rest
unfoldable pub join : State → Bool → Atomic → Table → Table
unfolding holds vars_of
join s b a x = record {
  names = vars_of (args a) x.names;
  has = λ θ. is_case b (holds s θ a) && x.has θ;
  value = x.value;
}

-- "the two are united"; "a union both sides' with the missing ones filled in": an entry of a side for every choice for the names that it lacks
unfoldable pub unite : Table → Table → Table
unfolding vars_of
unite x y = record {
  names = vars_of x.names y.names;
  has = λ θ. x.has θ || y.has θ;
  value = λ θ. cond (x.has θ) (x.value θ) (y.value θ);
}

-- the list without v
unfoldable pub without : ℕ → List ℕ → List ℕ
without v [] = []
without v (u ∷ us) = cond (eqb v u) (without v us) (u ∷ without v us)

-- "an aggregation drops one named variable and keeps the highest value" of its entries
unfoldable pub aggregate : ℕ → ℕ → Table → Table
unfolding put max_to without
aggregate n v x = record {
  names = without v x.names;
  has = λ θ. some_below n (λ o. x.has (put θ v o));
  value = λ θ. max_to n (λ o. cond (x.has (put θ v o)) (x.value (put θ v o)) 0);
}

-- one variable after the other
unfoldable pub aggregate_all : ℕ → List ℕ → Table → Table
unfolding aggregate
aggregate_all n [] x = x
aggregate_all n (v ∷ vs) x = aggregate_all n vs (aggregate n v x)

-- the entries of each aggregation's table
unfoldable pub aggregate_entries : State → List ℕ → List ℕ → Table → ℕ
unfolding entries aggregate
aggregate_entries s os [] x = 0
aggregate_entries s os (v ∷ vs) x = entries s os (aggregate s.size v x) + aggregate_entries s os vs (aggregate s.size v x)
