-- What finding the winning paths of a listing requires and ensures (document 02, L13).
use Rattle.std.specs.Prelude.{◌≡◌, Bool, true, false, not, ◌||◌, List, ℕ, zero, suc, ◌+◌, ◌*◌, ◌^◌, ◌≤◌, ◌<◌, min, length, get_or, eqb}
use Rattle.basics.specs.Members.{mem}
use Rattle.diagram.specs.Words.{row_count, is_listing}
use Rattle.diagram.specs.Listing.{diagram_of}
use Rattle.diagram.specs.Variables.{variables}
use Rattle.listing.specs.Used.{Used}
use Rattle.reduction.specs.Combinations.{formed, winners}
use Rattle.reduction.specs.Reduction.{most_runs, most_formed, has_kinds, reduce_answer, answer_of, buffer_of}
use Rattle.diagram.specs.Sizes.{result_words, space_words}
use Rattle.paths.specs.Inner.{Routed}
use Rattle.reduce.specs.Searching.{is_marked}
use Rattle.refusal.specs.declared.Refusal.{Refusal}
use Rattle.std.specs.Prelude.{Result}

-- a listing with its paths and the marks of its terms, few enough valuations and paths (27), and a place for each path
pub record Winnable (ar ws counts marks wins : List ℕ) (n m v all : ℕ) : Type 0 where
  pub listing : is_listing ar ws ≡ true
  pub whole : n ≡ row_count ws
  pub routed : Routed ws counts n m
  pub used : Used ar (diagram_of ws) marks
  pub count : v ≡ length (variables ar (diagram_of ws))
  pub power : all ≡ v ^ v
  pub few : all * m ≤ most_runs
  pub places : m ≤ length wins

-- how many combinations are formed, as far as one above the most; if it is not above, the winning paths are marked besides those that were
pub record Winning (ar ws : List ℕ) (m : ℕ) (wins wins' : List ℕ) (r : ℕ) : Type 0 where
  pub answer : r ≡ min (suc most_formed) (formed ar (diagram_of ws))
  pub marks : r ≤ most_formed → (p : ℕ) → p < m → is_marked wins' p ≡ (is_marked wins p || mem eqb p (winners ar (diagram_of ws)))

-- a listing that none of 17, 26 and 27 refuses, and room for a result and for the rows formed
pub record Plain (ar ws counts used : List ℕ) (n m v all : ℕ) (out work : List ℕ) : Type 0 where
  pub listing : is_listing ar ws ≡ true
  pub whole : n ≡ row_count ws
  pub routed : Routed ws counts n m
  pub marks : Used ar (diagram_of ws) used
  pub count : v ≡ length (variables ar (diagram_of ws))
  pub power : all ≡ v ^ v
  pub few : all * m ≤ most_runs
  pub kinds : has_kinds ar (diagram_of ws) ≡ false
  pub out-room : result_words ≤ length out
  pub work-room : space_words ≤ length work

-- what the call promises: the answer, and the result buffer
pub record ReduceCallAnswered (ar ws out : List ℕ) (r : Result ℕ Refusal) (out' : List ℕ) : Type 0 where
  pub answer : r ≡ answer_of (reduce_answer ar (diagram_of ws))
  pub words : out' ≡ buffer_of out (reduce_answer ar (diagram_of ws))

-- one of the n terms from `first` on is marked
unfoldable pub some_used : List ℕ → ℕ → ℕ → Bool
some_used used first zero = false
some_used used first (suc t) = not (eqb (get_or used (first + t) 0) 0) || some_used used first t

-- a listing with the marks of its terms
pub record Markable (ar ws used : List ℕ) (n : ℕ) : Type 0 where
  pub listing : is_listing ar ws ≡ true
  pub whole : n ≡ row_count ws
  pub marks : Used ar (diagram_of ws) used

-- a listing, and room for a result and for the rows formed
pub record Reducible (ar ws out work : List ℕ) : Type 0 where
  pub listing : is_listing ar ws ≡ true
  pub out-room : result_words ≤ length out
  pub work-room : space_words ≤ length work
