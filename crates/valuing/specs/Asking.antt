-- What a label asks of the index of facts, where its terms have objects (crate fact_index).
use Rattle.std.specs.Prelude.{◌≡◌, Bool, ◌&&◌, List, ℕ, ◌≤◌, ◌<◌, length, get_or, eqb}
use Rattle.label.specs.Limits.{most_places, term_end}
use Rattle.label.specs.Labels.{predicate_of, place_at}
use Rattle.diagram.specs.Words.{every_below}
use Rattle.state.specs.Lent.{predicate_at}
use Rattle.fact_index.specs.Inner.{place_count, object_at, hash_of, bucket_for, indexed_count, Indexed}

-- the object of place j of the label l, where env has an object for each term
abbrev pub given_at : List ℕ → ℕ → ℕ → ℕ
given_at env l j = get_or env (place_at l j) 0

-- the bucket of the fact that the label l with k places asks for
unfoldable pub bucket_of : List ℕ → ℕ → ℕ → ℕ
bucket_of env l k = bucket_for (hash_of (predicate_of l) (given_at env l) k)

-- row i says what the label l with k places asks for
unfoldable pub says : List ℕ → List ℕ → ℕ → ℕ → ℕ → Bool
unfolding predicate_at
says facts env l k i = eqb (predicate_at facts i) (predicate_of l) && every_below k (λ j. eqb (object_at facts i j) (given_at env l j))

-- env has a word for each term, and the first k places of the label l are terms
pub record Placed (env : List ℕ) (l k : ℕ) : Type 0 where
  pub words : length env ≡ term_end
  pub most : k ≤ most_places
  pub below : (j : ℕ) → j < k → place_at l j < term_end

-- a fact that is asked for by an index: the label l with all places of its predicate, and its bucket b
pub record Asked (facts index env : List ℕ) (l k b : ℕ) : Type 0 where
  pub arities : List ℕ
  pub index-fits : Indexed arities facts index (indexed_count facts index)
  pub arity : k ≡ place_count arities (predicate_of l)
  pub bucket : b ≡ bucket_of env l k
  pub placed : Placed env l k
