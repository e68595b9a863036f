-- The facts of the rows' labels under every valuation, as the code fills them in (document 02, L13).
use Rattle.std.specs.Prelude.{◌≡◌, ◌≢◌, true, cond, List, [], ◌∷◌, ℕ, zero, suc, ◌+◌, ◌*◌, ◌/◌, ◌%◌, ◌^◌, ◌≤◌, ◌<◌, length, get_or, eqb}
use Rattle.label.specs.Limits.{leaf_mark, term_end, predicate_count, variable_count}
use Rattle.label.specs.Labels.{is_label}
use Rattle.label.specs.Inner.{map_of}
use Rattle.label.specs.Renamings.{rank, renamed}
use Rattle.diagram.specs.Sizes.{most_rows}
use Rattle.diagram.specs.Words.{label_at}
use Rattle.rename.specs.Maps.{used_variables}
use Rattle.reduce.specs.Searching.{fact_end}
use Rattle.reduce.specs.Facts.{fact_of}

-- valuation i of c variables over n objects: its numbers are the digits of i in base n
unfoldable pub digits : ℕ → ℕ → ℕ → List ℕ
digits n zero i = []
digits n (suc c) i = (i / n ^ c) ∷ digits n c (i % n ^ c)

-- what finding the objects of valuation i requires: `all` is the number of valuations
pub record Divided (v all i : ℕ) (out : List ℕ) : Type 0 where
  pub places : v ≤ length out
  pub power : all ≡ v ^ v
  pub one : i < all

-- what it ensures: the objects of the variables in their order; the words behind are as they were
pub record Placed (v i : ℕ) (out out' : List ℕ) : Type 0 where
  pub each : (j : ℕ) → j < v → get_or out' j 0 ≡ get_or (digits v v i) j 0
  pub kept : (j : ℕ) → v ≤ j → get_or out' j 0 ≡ get_or out j 0

-- what is still to come after j objects: e more, the digits of x
pub record Dividing (v i : ℕ) (out₀ out : List ℕ) (j e x p : ℕ) : Type 0 where
  pub rest : j + e ≡ v
  pub power : p ≡ v ^ e
  pub below : x < p
  pub done : (k : ℕ) → k < j → get_or out k 0 ≡ get_or (digits v v i) k 0
  pub kept : (k : ℕ) → j ≤ k → get_or out k 0 ≡ get_or out₀ k 0
  pub come : (k : ℕ) → get_or (digits v v i) (j + k) 0 ≡ get_or (digits v e x) k 0

-- c of the marked variables are below the term t
pub record Ranked (marks : List ℕ) (t c : ℕ) : Type 0 where
  pub is : c ≡ rank (used_variables marks) t
  pub most : c ≤ t

-- what the map of a valuation requires: the marks of the terms, and the objects of the variables in their order
pub record Mapping (marks objects map : List ℕ) : Type 0 where
  pub marked : term_end ≤ length marks
  pub placed : term_end ≤ length objects
  pub whole : term_end ≤ length map

-- the first t terms have their objects: that of the variable of the same rank
pub record Mapped (marks objects map : List ℕ) (t : ℕ) : Type 0 where
  pub each : (u : ℕ) → u < t → get_or map u 0 ≡ get_or objects (rank (used_variables marks) u) 0

-- the fact of row r's label under a map of terms to objects; 0 for a leaf
unfoldable pub fact_word : List ℕ → List ℕ → List ℕ → ℕ → ℕ
fact_word ar ws map r = cond (eqb (label_at ws r) leaf_mark) 0 (renamed ar (map_of map) (label_at ws r))

-- rows whose branches have labels under ar
pub record Labelled (ar ws : List ℕ) (n : ℕ) : Type 0 where
  pub arities : predicate_count ≤ length ar
  pub rows : n * 3 ≤ length ws
  pub few : n ≤ most_rows
  pub labels : (r : ℕ) → r < n → label_at ws r ≢ leaf_mark → is_label ar (label_at ws r) ≡ true

-- the facts of the first r rows stand from `base` on; the other words are as they were
pub record Filled (ar ws map : List ℕ) (base r : ℕ) (facts₀ facts : List ℕ) : Type 0 where
  pub each : (k : ℕ) → k < r → get_or facts (base + k) 0 ≡ fact_word ar ws map k
  pub front : (j : ℕ) → j < base → get_or facts j 0 ≡ get_or facts₀ j 0
  pub behind : (j : ℕ) → base + r ≤ j → get_or facts j 0 ≡ get_or facts₀ j 0

-- what filling in the facts under valuation i requires
pub record Blocked (ar ws marks facts : List ℕ) (n v all i base : ℕ) : Type 0 where
  pub labelled : Labelled ar ws n
  pub marked : term_end ≤ length marks
  pub few : v ≤ variable_count
  pub power : all ≡ v ^ v
  pub one : i < all
  pub room : base + n ≤ length facts

-- the facts under a valuation stand from `base` on, those before stay, and facts stay facts
pub record Grounded (ar ws marks os : List ℕ) (base n : ℕ) (facts₀ facts : List ℕ) : Type 0 where
  pub each : (k : ℕ) → k < n → label_at ws k ≢ leaf_mark → get_or facts (base + k) 0 ≡ fact_of ar (used_variables marks) os (label_at ws k)
  pub front : (j : ℕ) → j < base → get_or facts j 0 ≡ get_or facts₀ j 0
  pub codes : ((j : ℕ) → get_or facts₀ j 0 < fact_end) → (j : ℕ) → get_or facts j 0 < fact_end

-- what filling in all facts requires
pub record Tabling (ar ws marks facts : List ℕ) (n v all : ℕ) : Type 0 where
  pub labelled : Labelled ar ws n
  pub marked : term_end ≤ length marks
  pub few : v ≤ variable_count
  pub power : all ≡ v ^ v
  pub room : all * n ≤ length facts
  pub clean : (j : ℕ) → get_or facts j 0 < fact_end

-- the facts under the first i valuations are there
pub record Tabled (ar ws marks : List ℕ) (n v i : ℕ) (facts : List ℕ) : Type 0 where
  pub each : (k r : ℕ) → k < i → r < n → label_at ws r ≢ leaf_mark → get_or facts (k * n + r) 0 ≡ fact_of ar (used_variables marks) (digits v v k) (label_at ws r)
  pub codes : (j : ℕ) → get_or facts j 0 < fact_end
