-- What callers of this crate must know.
use Rattle.std.specs.Prelude.{◌≡◌, ◌≢◌, true, List, ℕ, ◌+◌, ◌≤◌, length}
use Rattle.label.specs.Limits.{first_minimum, term_end, predicate_count, parameter_count, leaf_mark}
use Rattle.label.specs.Labels.{is_label}
use Rattle.label.specs.Callers.{TermMap}
use Rattle.diagram.specs.Words.{is_listing}
use Rattle.rename.specs.Maps.{used_variables, used_minimums}

-- the used variables, numbered from `first` on, fit below the minimum variables, and the used minimum variables, numbered from `minimum` on, below the end of the terms
pub record Closable (used : List ℕ) (first minimum : ℕ) (map : List ℕ) : Type 0 where
  pub marks : term_end ≤ length used
  pub whole : term_end ≤ length map
  pub room : first + length (used_variables used) ≤ first_minimum
  pub space : minimum + length (used_minimums used) ≤ term_end

-- an action's parameter count
pub record Countable (count : ℕ) (map : List ℕ) : Type 0 where
  pub few : count ≤ parameter_count
  pub whole : term_end ≤ length map

-- a word that is a label, or marks a leaf
pub record Word (ar map : List ℕ) (x : ℕ) : Type 0 where
  pub arities : predicate_count ≤ length ar
  pub terms : TermMap map
  pub label : x ≢ leaf_mark → is_label ar x ≡ true

-- a listing, a map of its terms, and room for the listing
pub record Renamable (ar ws map out : List ℕ) : Type 0 where
  pub listing : is_listing ar ws ≡ true
  pub terms : TermMap map
  pub room : length ws ≤ length out
