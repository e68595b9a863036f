-- Paths as the search has them (document 01, section 'Cut'): literals as numbers, behind marks, one for each term.
use Rattle.std.specs.Prelude.{◌≡◌, Bool, true, ℕ, ◌+◌, ◌-◌, ◌/◌, ◌≤◌, ◌<◌, length, get_or, take, drop}
use mathlib.Core.List.{List, Memᴰ}
use Rattle.label.specs.Limits.{first_variable, first_minimum}
use Rattle.label.specs.Labels.{are_arities, unpacked, terms_of}
use Rattle.diagram.specs.Words.{row_count, is_listing}
use Rattle.diagram.specs.Listing.{diagram_of}
use Rattle.diagram.specs.Variables.{is_plain}
use Rattle.paths.specs.Paths.{most_paths, Literal, Path, literals, terms_in}
use Rattle.cutting.specs.Match.{start, matches}
use Rattle.cutting.specs.Cut.{covers}
use Rattle.cutting.specs.Searchable.{PathLabels}
use Rattle.paths.specs.Inner.{InRange, AllInRange, Rows, Counted, At, literals_in}
use Rattle.matcher.specs.Search.{Sorted, Setting}

-- table marks the terms of the literals
pub record Marks (ar : List ℕ) (table : ℕ → ℕ) (ls : List Literal) : Type 0 where
  pub below : (t : ℕ) → Memᴰ t (terms_in ar ls) → t < first_minimum
  pub has : (t : ℕ) → Memᴰ t (terms_in ar ls) → 0 < table t
  pub of : (t : ℕ) → t < first_minimum → 0 < table t → Memᴰ t (terms_in ar ls)

-- the terms of the literal x
unfoldable pub terms_of_code : List ℕ → ℕ → List ℕ
terms_of_code ar x = terms_of ar (unpacked (x / 2))

-- what marking the literal x requires
pub record Markable (ar marks : List ℕ) (x : ℕ) : Type 0 where
  pub arities : are_arities ar ≡ true
  pub room : first_minimum ≤ length marks
  pub range : InRange first_minimum (x / 2)

-- n literals stand behind marks
pub record Coded (ar out : List ℕ) (n : ℕ) : Type 0 where
  pub arities : are_arities ar ≡ true
  pub room : first_minimum + n ≤ length out
  pub few : n < most_paths
  pub ranged : (j : ℕ) → j < n → InRange first_minimum (get_or out (first_minimum + j) 0 / 2)

-- the marks are cleared, what is behind them stays
pub record Cleared (out₀ out : List ℕ) : Type 0 where
  pub clear : (t : ℕ) → t < first_minimum → get_or out t 0 ≡ 0
  pub behind : drop first_minimum out ≡ drop first_minimum out₀

-- the terms of the first n of them are marked
pub record Marking (ar out₀ out : List ℕ) (n : ℕ) : Type 0 where
  pub length-kept : length out ≡ length out₀
  pub behind : drop first_minimum out ≡ drop first_minimum out₀
  pub has : (j t : ℕ) → j < n → Memᴰ t (terms_of_code ar (get_or out₀ (first_minimum + j) 0)) → 0 < get_or out t 0
  pub of : (t : ℕ) → t < first_minimum → 0 < get_or out t 0 → (j : ℕ) × (j < n) × Memᴰ t (terms_of_code ar (get_or out₀ (first_minimum + j) 0))

-- path k of the listing ws under the arity list ar, which has no minimum variable, with its n rows' counts of paths, and room for it behind marks
pub record Enterable (ar ws counts : List ℕ) (n k : ℕ) (out : List ℕ) : Type 0 where
  pub listed : is_listing ar ws ≡ true
  pub plain : is_plain ar (diagram_of ws) ≡ true
  pub whole : n ≡ row_count ws
  pub rows : Rows ws n
  pub counted : Counted ws counts n
  pub path : At ws n (n - 1) k
  pub room : first_minimum + most_paths ≤ length out

-- the j literals of the path stand in order behind the marks of its terms
pub record Stored (ar : List ℕ) (p : Path) (out : List ℕ) (j : ℕ) : Type 0 where
  pub few : j < most_paths
  pub are : literals_in (take j (drop first_minimum out)) ≡ literals p
  pub sorted : Sorted (take (first_minimum + j) out)
  pub ranged : AllInRange first_minimum (take j (drop first_minimum out))
  pub marks : Marks ar (λ t. get_or out t 0) (literals p)

-- what a search of its own starts from: literals, those of the first path, room for the table, and terms that are no variables stay
pub record Ready (ord into tab theta : List ℕ) : Type 0 where
  pub few : length ord < most_paths
  pub ranged : AllInRange first_minimum ord
  pub sorted : Sorted into
  pub tab-room : first_minimum + first_minimum ≤ length tab
  pub theta-room : first_minimum ≤ length theta
  pub stays : (v : ℕ) → v < first_variable → get_or theta v 0 ≡ v

-- what it gives
pub record PartPost (ord into tab : List ℕ) (r : Bool) (tab' theta' : List ℕ) : Type 0 where
  pub answer : (ar T : List ℕ) → Setting ar T ord into tab → r ≡ matches ar (literals_in (drop first_minimum into)) T (literals_in ord) start
  pub tab-kept : (v : ℕ) → first_minimum ≤ v → get_or tab' v 0 ≡ get_or tab v 0
  pub stays : (v : ℕ) → v < first_variable → get_or theta' v 0 ≡ v

-- a literals of the first path stand in order behind marks, b of the second path behind others
pub record BothStored (into : List ℕ) (a : ℕ) (from : List ℕ) (b : ℕ) : Type 0 where
  pub into-room : first_minimum + a ≤ length into
  pub sorted : Sorted (take (first_minimum + a) into)
  pub from-room : first_minimum + b ≤ length from
  pub ranged : AllInRange first_minimum (take b (drop first_minimum from))
  pub few : b < most_paths

-- what the search answers of two stored paths
pub record Answers (into : List ℕ) (a : ℕ) (from : List ℕ) (b : ℕ) (r : Bool) : Type 0 where
  pub each : (ar : List ℕ) → are_arities ar ≡ true → (p q : Path) → PathLabels ar p → PathLabels ar q → Stored ar p into a → Stored ar q from b → r ≡ covers ar p q
