-- What the code's inner functions ask and promise.
use Rattle.std.specs.Prelude.{◌≡◌, Bool, true, false, ◌&&◌, cond, List, map, ℕ, zero, suc, ◌+◌, ◌*◌, ◌^◌, ◌≤◌, ◌<◌, length, get_or, eqb, leb}
use Rattle.basics.specs.Members.{mem}
use Rattle.label.specs.Limits.{term_end, first_variable, first_minimum}
use Rattle.label.specs.Labels.{are_arities, is_label, predicate_of, place_at, unpacked, terms_of}
use Rattle.state.specs.Max.{max_to}
use Rattle.state.specs.State.{equated}
use Rattle.state.specs.Lent.{said_by}
use Rattle.elimination.specs.Tables.{sum_to}
use Rattle.elimination.specs.Elimination.{most_entries}
use Rattle.eliminate.specs.Masks.{names_of, env_of, place_of, decoded}

-- a word for each term, and an object
pub record Decodable (env : List ℕ) (n : ℕ) : Type 0 where
  pub some : 0 < n
  pub places : term_end ≤ length env

-- objects below n, and few enough choices for the variables of the set m
pub record Placeable (env : List ℕ) (n m : ℕ) : Type 0 where
  pub some : 0 < n
  pub places : term_end ≤ length env
  pub range : (t : ℕ) → env_of env t < n
  pub few : n ^ length (names_of m) ≤ most_entries

-- the objects of a label's terms
unfoldable pub objects_of : List ℕ → List ℕ → ℕ → List ℕ
objects_of ar env l = map (env_of env) (terms_of ar (unpacked l))

-- whether a predicate holds of objects, by lent facts
abbrev pub lent_truth : List ℕ → List ℕ → ℕ → List ℕ → Bool
lent_truth ar facts zero os = equated os
lent_truth ar facts (suc p) os = said_by ar facts (suc p) os

-- what a label says of the objects that env gives its terms
unfoldable pub tells : List ℕ → List ℕ → List ℕ → ℕ → Bool
unfolding objects_of
tells ar facts env l = lent_truth ar facts (predicate_of l) (objects_of ar env l)

-- no place of the label l has a minimum variable
abbrev pub PlainLabel : List ℕ → ℕ → Type 0
PlainLabel ar l = (k : ℕ) → k < get_or ar (predicate_of l) 0 → place_at l k < first_minimum

-- a label under an arity list, without minimum variables: sets have a bit for each variable, and none for these (document 02, L12)
pub record Labelled (ar : List ℕ) (l : ℕ) : Type 0 where
  pub arities : are_arities ar ≡ true
  pub label : is_label ar l ≡ true
  pub plain : PlainLabel ar l

-- and a word for each term
pub record Asked (ar env : List ℕ) (l : ℕ) : Type 0 where
  pub labelled : Labelled ar l
  pub places : term_end ≤ length env

-- r is the set of t alone, if t is a variable, and empty if not
pub record One (t r : ℕ) : Type 0 where
  pub is : (u : ℕ) → mem eqb u (names_of r) ≡ (leb first_variable t && eqb u t)

-- for how many of the first m choices for the variables of the set the label holds
unfoldable pub cases_of : List ℕ → List ℕ → List ℕ → ℕ → ℕ → ℕ → ℕ → ℕ
unfolding sum_to decoded tells
cases_of ar facts env n l set m = sum_to m (λ c. cond (tells ar facts (decoded n (names_of set) c env) l) 1 0)

-- what counting the cases asks
pub record Countable (ar env : List ℕ) (n l : ℕ) : Type 0 where
  pub asked : Asked ar env l
  pub some : 0 < n

-- env has other objects for the variables of the set only
pub record Moved (n set : ℕ) (env env' : List ℕ) : Type 0 where
  pub kept : length env' ≡ length env
  pub over : (c : ℕ) → decoded n (names_of set) c env' ≡ decoded n (names_of set) c env
  pub others : (t : ℕ) → mem eqb t (names_of set) ≡ false → env_of env' t ≡ env_of env t
  pub range : ((t : ℕ) → env_of env t < n) → (t : ℕ) → env_of env' t < n

-- what counting the cases ensures
pub record Counted (ar facts env : List ℕ) (n l set m r : ℕ) (env' : List ℕ) : Type 0 where
  pub count : r ≡ cases_of ar facts env n l set m
  pub moved : Moved n set env env'

-- ===== Tables in words: a row's head is two words, its table's names as a set, and where its entries begin in `space` =====
unfoldable pub set_at : List ℕ → ℕ → ℕ
set_at heads i = get_or heads (i * 2) 0

unfoldable pub start_at : List ℕ → ℕ → ℕ
start_at heads i = get_or heads (i * 2 + 1) 0

-- the entry of row i's table for the objects in env
unfoldable pub entry_in : List ℕ → List ℕ → List ℕ → ℕ → ℕ → ℕ
unfolding set_at start_at place_of names_of
entry_in heads space env n i = get_or space (start_at heads i + place_of n (names_of (set_at heads i)) (env_of env)) 0

-- that of the child that the label leads to
unfoldable pub look_in : List ℕ → List ℕ → List ℕ → List ℕ → ℕ → ℕ → ℕ → ℕ → List ℕ → ℕ
unfolding tells entry_in
look_in ar facts heads space n l high low env = cond (tells ar facts env l) (entry_in heads space env n high) (entry_in heads space env n low)

-- the highest over the first m choices for the variables of the set
unfoldable pub best_in : List ℕ → List ℕ → List ℕ → List ℕ → ℕ → ℕ → ℕ → ℕ → ℕ → ℕ → List ℕ → ℕ
unfolding max_to decoded look_in names_of
best_in ar facts heads space n l high low set m env = max_to m (λ c. look_in ar facts heads space n l high low (decoded n (names_of set) c env))

-- row i has a head and a table, whatever objects below n are chosen
pub record Stored (heads space : List ℕ) (n i : ℕ) : Type 0 where
  pub head : i * 2 + 2 ≤ length heads
  pub few : n ^ length (names_of (set_at heads i)) ≤ most_entries
  pub room : start_at heads i + n ^ length (names_of (set_at heads i)) ≤ length space

-- what reading an entry asks
pub record Entering (heads space env : List ℕ) (n i : ℕ) : Type 0 where
  pub stored : Stored heads space n i
  pub some : 0 < n
  pub places : term_end ≤ length env
  pub range : (t : ℕ) → env_of env t < n

-- what reading the union asks
pub record Looking (ar heads space env : List ℕ) (n l high low : ℕ) : Type 0 where
  pub asked : Asked ar env l
  pub some : 0 < n
  pub range : (t : ℕ) → env_of env t < n
  pub high-stored : Stored heads space n high
  pub low-stored : Stored heads space n low

-- what finding the highest entry ensures
pub record Best (ar facts heads space : List ℕ) (n l high low set m : ℕ) (env : List ℕ) (r : ℕ) (env' : List ℕ) : Type 0 where
  pub is : r ≡ best_in ar facts heads space n l high low set m env
  pub moved : Moved n set env env'

-- what writing a table asks: the children's tables stand before it, and there is room for it
pub record Filling (ar heads space env : List ℕ) (n l high low kept start count drops m : ℕ) : Type 0 where
  pub looking : Looking ar heads space env n l high low
  pub high_end : start_at heads high + n ^ length (names_of (set_at heads high)) ≤ start
  pub low_end : start_at heads low + n ^ length (names_of (set_at heads low)) ≤ start
  pub room : start + count ≤ length space
  pub count-is : count ≡ n ^ length (names_of kept)
  pub m-is : m ≡ n ^ length (names_of drops)
