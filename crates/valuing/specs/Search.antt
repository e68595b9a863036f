-- The search for the highest leaf: rows are followed, and a term is given an object only when a label on the way needs it.
use Rattle.std.specs.Prelude.{◌≡◌, Bool, true, cond, List, [], ◌∷◌, map, ℕ, zero, suc, ◌+◌, ◌-◌, ◌≤◌, ◌<◌, max, length, get_or, eqb}
use Rattle.label.specs.Limits.{term_end, leaf_mark, first_parameter, first_variable}
use Rattle.label.specs.Labels.{are_arities, is_label, predicate_of, place_at, unpacked, terms_of}
use Rattle.diagram.specs.Sizes.{highest_value}
use Rattle.diagram.specs.Diagram.{eval}
use Rattle.diagram.specs.Words.{label_at, high_at, low_at, row_count}
use Rattle.diagram.specs.Validity.{Valid, tree}
use Rattle.valuing.specs.declared.Lookup.{Lookup}
use Rattle.valuing.specs.declared.Lookup.TheVariants.{Free, Bucket}
use Rattle.state.specs.State.{equated, low}
use Rattle.state.specs.Lent.{said_by}
use Rattle.fact_index.specs.Inner.{indexed_count, Indexed}
use Rattle.valuing.specs.Asking.{given_at, bucket_of}

-- what stands in `env`, a word for each term, where a term has no object yet: no object is that high
abbrev pub free : ℕ
free = 18446744073709551615

-- `high` has for each of the first n rows a number that g of no leaf below the row passes, and for a leaf g of its value
pub record TopsBy (g : ℕ → ℕ) (ws high : List ℕ) (n : ℕ) : Type 0 where
  pub bound : (r : ℕ) → r < n → (c : ℕ → Bool) → g (eval c (tree ws r)) ≤ get_or high r 0
  pub leaves : (r : ℕ) → r < n → label_at ws r ≡ leaf_mark → get_or high r 0 ≡ g (high_at ws r)

-- of the leaves themselves
abbrev pub Tops : List ℕ → List ℕ → ℕ → Type 0
Tops ws high n = TopsBy (λ x. x) ws high n

-- room for a number for each row
pub record Topping (ws high : List ℕ) : Type 0 where
  pub arities : List ℕ
  pub valid : Valid arities ws
  pub places : row_count ws ≤ length high

-- the number of row i, by those of its children
unfoldable pub top_by : (ℕ → ℕ) → List ℕ → List ℕ → ℕ → ℕ
top_by g ws high i = cond (eqb (label_at ws i) leaf_mark) (g (high_at ws i)) (max (get_or high (high_at ws i) 0) (get_or high (low_at ws i) 0))

-- whether p holds of the objects os, by lent facts
abbrev pub lent_truth : List ℕ → List ℕ → ℕ → List ℕ → Bool
lent_truth ar facts zero os = equated os
lent_truth ar facts (suc p) os = said_by ar facts (suc p) os

-- what the label l says under θ
unfoldable pub lent_holds : List ℕ → List ℕ → (ℕ → ℕ) → ℕ → Bool
lent_holds ar facts θ l = lent_truth ar facts (predicate_of l) (map θ (terms_of ar (unpacked l)))

-- the leaf's row to which the choice c leads from row r, at most `depth` rows deep: children stand before their parents, so that r rows are enough
unfoldable pub end_row : List ℕ → (ℕ → Bool) → ℕ → ℕ → ℕ
end_row ws c zero r = r
end_row ws c (suc depth) r = cond (eqb (label_at ws r) leaf_mark) r (end_row ws c depth (cond (c (label_at ws r)) (high_at ws r) (low_at ws r)))

-- the number of the leaf to which θ leads from row r
unfoldable pub leaf_from : List ℕ → List ℕ → List ℕ → List ℕ → (ℕ → ℕ) → ℕ → ℕ
unfolding end_row
leaf_from ar facts ws high θ r = get_or high (end_row ws (lent_holds ar facts θ) r r) 0

-- θ gives every term one of n objects, and terms that have one in env that one
pub record Extends (n : ℕ) (env : List ℕ) (θ : ℕ → ℕ) : Type 0 where
  pub agrees : (t : ℕ) → t < term_end → (get_or env t 0 ≡ free → ⊥) → θ t ≡ get_or env t 0
  pub range : (t : ℕ) → θ t < n

-- the object of the term t in env
abbrev pub given : List ℕ → ℕ → ℕ
given env t = get_or env t 0

-- env has a word for each term, an object below n or `free`
pub record Env (n : ℕ) (env : List ℕ) : Type 0 where
  pub places : length env ≡ term_end
  pub some : 0 < n
  pub most : n ≤ free
  pub range : (t : ℕ) → t < term_end → (get_or env t 0 ≡ free → ⊥) → get_or env t 0 < n

-- what a term that is no variable has: a constant its object, a parameter its object of os, and that of constant 0 where os has none
unfoldable pub fixed_in : List ℕ → List ℕ → ℕ → ℕ
fixed_in constants os t = low first_parameter t (get_or constants t 0) (get_or os (t - first_parameter) (get_or constants 0 0))

-- the first m terms have their objects, the others what they had before
pub record Placing (constants os env₀ env : List ℕ) (m : ℕ) : Type 0 where
  pub places : length env ≡ term_end
  pub bound : (t : ℕ) → t < m → get_or env t 0 ≡ fixed_in constants os t
  pub others : (t : ℕ) → m ≤ t → get_or env t 0 ≡ get_or env₀ t 0

-- the terms that are no variables have their objects, the variables none
pub record Started (constants os env : List ℕ) : Type 0 where
  pub places : length env ≡ term_end
  pub bound : (t : ℕ) → t < first_variable → get_or env t 0 ≡ fixed_in constants os t
  pub unbound : (t : ℕ) → first_variable ≤ t → t < term_end → get_or env t 0 ≡ free

-- how many terms have no object yet
abbrev pub free_count : List ℕ → ℕ
free_count [] = 0
free_count (o ∷ env) = cond (eqb o free) 1 0 + free_count env

-- env has a word for each term, and l is a label under the arity list ar
pub record Labelled (ar env : List ℕ) (l : ℕ) : Type 0 where
  pub arities : are_arities ar ≡ true
  pub label-fits : is_label ar l ≡ true
  pub words : length env ≡ term_end

-- the places of the label l looked up: one whose term has no object yet, or the bucket of what l asks for, where all have one
pub record LooksUp (ar env : List ℕ) (l : ℕ) (r : Lookup) : Type 0 where
  pub unbound : (t : ℕ) → r ≡ Free t → (j : ℕ) × (j < get_or ar (predicate_of l) 0) × (t ≡ place_at l j) × (get_or env t 0 ≡ free)
  pub bound : (b : ℕ) → r ≡ Bucket b → ((j : ℕ) → j < get_or ar (predicate_of l) 0 → given_at env l j ≡ free → ⊥) × (b ≡ bucket_of env l (get_or ar (predicate_of l) 0))

-- what the truth of a label needs: an index, and the bucket b of what it asks for
pub record Telling (ar facts index env : List ℕ) (l b : ℕ) : Type 0 where
  pub labelled : Labelled ar env l
  pub indexed : Indexed ar facts index (indexed_count facts index)
  pub bucket : b ≡ bucket_of env l (get_or ar (predicate_of l) 0)

-- b is the best so far, or one more than the number of a leaf that is reached from row r
pub data Hit (ar facts ws high env : List ℕ) (n r best b : ℕ) : Type 0 where
  old : b ≡ best → Hit ar facts ws high env n r best b
  new : (θ : ℕ → ℕ) → Extends n env θ → b ≡ suc (leaf_from ar facts ws high θ r) → Hit ar facts ws high env n r best b

-- b is the highest of `best` and one more than the number of each leaf that is reached from row r; env is as it was
pub record Best (ar facts ws high env : List ℕ) (n r best b : ℕ) (env' : List ℕ) : Type 0 where
  pub restored : env' ≡ env
  pub kept : best ≤ b
  pub above : (θ : ℕ → ℕ) → Extends n env θ → leaf_from ar facts ws high θ r < b
  pub hit : Hit ar facts ws high env n r best b

-- the rows' numbers: that of no leaf below a row passes the row's, and a leaf's has room for one more
pub record Numbered (ws high : List ℕ) : Type 0 where
  pub bound : (r : ℕ) → r < row_count ws → (c : ℕ → Bool) → get_or high (end_row ws c r r) 0 ≤ get_or high r 0
  pub few : (r : ℕ) → r < row_count ws → label_at ws r ≡ leaf_mark → get_or high r 0 ≤ highest_value

-- what the search needs
pub record Ready (ws high ar facts index env : List ℕ) (n : ℕ) : Type 0 where
  pub valid : Valid ar ws
  pub places : row_count ws ≤ length high
  pub tops : Numbered ws high
  pub indexed : Indexed ar facts index (indexed_count facts index)
  pub env-fits : Env n env
