-- Failures of the search (document 01, section 'Cut': whether a replacement exists). A failure tells the variables that it depends on, so that the
-- search goes back past all others, and may be remembered: where these variables have the same values it fails again.
use Rattle.std.specs.Prelude.{◌≡◌, Bool, true, false, List, ℕ, zero, suc, ◌+◌, ◌*◌, ◌/◌, ◌%◌, ◌≤◌, ◌<◌, length, get_or, drop}
use Rattle.label.specs.Limits.{first_variable, variable_count, first_minimum, most_places}
use Rattle.label.specs.Labels.{place_at}
use Rattle.cutting.specs.Match.{start, matches}
use Rattle.cutting.specs.Searchable.{Solves}
use Rattle.paths.specs.Inner.{AllInRange, literals_in}
use Rattle.matcher.specs.Search.{segment, known, Replacing, Sorted, Tabled, Setting, Inside}
use Rattle.matcher.specs.declared.Answer.{Answer}
use Rattle.matcher.specs.declared.Answer.TheVariants.{Found, Failed, Weary}

-- ===== Sets of variables, as masks =====

-- bit i of m
unfoldable pub bit_at : ℕ → ℕ → ℕ
bit_at m zero = m % 2
bit_at m (suc i) = bit_at (m / 2) i

-- the variable first_variable + i is in the set m
abbrev pub In : ℕ → ℕ → Type 0
In m i = bit_at m i ≡ 1

-- m is the set of t alone; empty if t is no variable
pub record One (t m : ℕ) : Type 0 where
  pub has : (i : ℕ) → t ≡ first_variable + i → In m i
  pub only : (i : ℕ) → In m i → t ≡ first_variable + i

-- m is the set of the variables in the first n places of the label l
pub record Variables (l n m : ℕ) : Type 0 where
  pub has : (k i : ℕ) → k < n → place_at l k ≡ first_variable + i → In m i
  pub only : (i : ℕ) → In m i → (k : ℕ) × (k < n) × (place_at l k ≡ first_variable + i)

-- bound is the set of the variables that come first before place m
pub record Bound (tab : List ℕ) (bound m : ℕ) : Type 0 where
  pub early : (i : ℕ) → i < variable_count → In bound i → get_or tab (first_variable + i) 0 ≤ m
  pub has : (i : ℕ) → i < variable_count → get_or tab (first_variable + i) 0 ≤ m → In bound i

-- ===== What a failure says =====

-- σ has the words from `at` on for the variables of the mask
abbrev pub Agrees : ℕ → List ℕ → ℕ → (ℕ → ℕ) → Type 0
Agrees mask s at σ = (i : ℕ) → i < variable_count → In mask i → σ (first_variable + i) ≡ get_or s (at + i) 0

-- no match at all has these words for the variables of the mask
pub record Nogood (ord into tab : List ℕ) (mask : ℕ) (s : List ℕ) (at : ℕ) : Type 0 where
  pub nothing : (ar T : List ℕ) → Setting ar T ord into tab → (z : Solves ar (literals_in (drop first_minimum into)) T (segment ord 0 (length ord)) start)
      → Agrees mask s at z.σ → ⊥

-- ===== The store =====

abbrev pub store_rows : ℕ
store_rows = 256

abbrev pub row_words : ℕ
row_words = variable_count + 2

abbrev pub store_words : ℕ
store_words = store_rows + store_rows * row_words

-- before the rows stand words that say nothing; a row is a flag, a mask and a word for each variable
abbrev pub row_of : ℕ → ℕ
row_of i = store_rows + i * row_words

-- the first m words from `at` on are those of theta, for the variables of the mask
pub record Same (theta store : List ℕ) (at mask m : ℕ) : Type 0 where
  pub each : (i : ℕ) → i < m → In mask i → get_or theta (first_variable + i) 0 ≡ get_or store (at + i) 0

-- each row that is used is a failure; a shorter store has no rows
pub record Remembers (ord into tab store : List ℕ) : Type 0 where
  pub some : 0 < length store
  pub each : store_words ≤ length store → (i : ℕ) → i < store_rows → get_or store (row_of i) 0 ≡ 1 → Nogood ord into tab (get_or store (row_of i + 1) 0) store (row_of i + 2)

-- a failure of a row: its mask is within `bound`, its words are those of theta
pub record Recalled (theta store : List ℕ) (bound q : ℕ) : Type 0 where
  pub row : ℕ
  pub long : store_words ≤ length store
  pub below : row < store_rows
  pub used : get_or store (row_of row) 0 ≡ 1
  pub mask : get_or store (row_of row + 1) 0 ≡ q
  pub words : Same theta store (row_of row + 2) q variable_count
  pub within : (i : ℕ) → In q i → In bound i

pub record RecallPost (theta store : List ℕ) (bound : ℕ) (r : Answer) : Type 0 where
  pub failed : (q : ℕ) → r ≡ Failed q → Recalled theta store bound q
  pub weary : r ≡ Weary → length store < store_words

-- the words of the first m variables stand from `at` on, and all else as before
pub record Copied (theta store store' : List ℕ) (at m : ℕ) : Type 0 where
  pub length-kept : length store' ≡ length store
  pub words : (i : ℕ) → i < m → get_or store' (at + i) 0 ≡ get_or theta (first_variable + i) 0
  pub before : (i : ℕ) → i < at → get_or store' i 0 ≡ get_or store i 0
  pub behind : (i : ℕ) → at + variable_count ≤ i → get_or store' i 0 ≡ get_or store i 0

-- a row has the mask and the words of theta, and all other rows are as before
pub record Rewritten (theta store : List ℕ) (mask row : ℕ) (store' : List ℕ) : Type 0 where
  pub length-kept : length store' ≡ length store
  pub mask_is : get_or store' (row_of row + 1) 0 ≡ mask
  pub words : (i : ℕ) → i < variable_count → get_or store' (row_of row + 2 + i) 0 ≡ get_or theta (first_variable + i) 0
  pub others : (i o : ℕ) → (i ≡ row → ⊥) → o < row_words → get_or store' (row_of i + o) 0 ≡ get_or store (row_of i + o) 0

pub record RememberPost (theta store : List ℕ) (mask : ℕ) (store' : List ℕ) : Type 0 where
  pub rewritten : store_words ≤ length store → (row : ℕ) × (row < store_rows) × Rewritten theta store mask row store'

-- ===== Answers =====

abbrev pub is_found : Answer → Bool
is_found Found = true
is_found (Failed q) = false
is_found Weary = false

abbrev pub is_weary : Answer → Bool
is_weary Found = false
is_weary (Failed q) = false
is_weary Weary = true

abbrev pub mask_of : Answer → ℕ
mask_of Found = 0
mask_of (Failed q) = q
mask_of Weary = 0

-- an answer is handed up at once, unless it is a failure that depends on more than `bound`
pub record HandedUp (a : Answer) (bound : ℕ) (r : Bool) : Type 0 where
  pub yes : r ≡ true → (q : ℕ) → a ≡ Failed q → (i : ℕ) → In q i → In bound i
  pub no : r ≡ false → a ≡ Failed (mask_of a)

-- ===== The search =====

-- what the search of the literals from k on starts from
pub record Solving (ord into tab theta store : List ℕ) (k bound : ℕ) : Type 0 where
  pub tabled : Tabled ord tab (length ord)
  pub ranged : AllInRange first_minimum ord
  pub sorted : Sorted into
  pub replacing : Replacing tab theta (k * most_places)
  pub most : k ≤ length ord
  pub bounds : Bound tab bound (k * most_places)
  pub remembers : Remembers ord into tab store

-- a match of the literals from k on, beyond what is known; or no match at all has the words of theta on the mask; or the store has no rows
pub record SolvePost (ord into tab theta store : List ℕ) (k bound : ℕ) (r : Answer) (theta' store' : List ℕ) : Type 0 where
  pub found : r ≡ Found → (ar T : List ℕ) → Setting ar T ord into tab → Inside T (known tab theta (k * most_places))
      → matches ar (literals_in (drop first_minimum into)) T (segment ord k (length ord)) (known tab theta (k * most_places)) ≡ true
  pub failed : (q : ℕ) → r ≡ Failed q → Nogood ord into tab q theta first_variable
  pub within : (q : ℕ) → r ≡ Failed q → (i : ℕ) → In q i → In bound i
  pub weary : r ≡ Weary → length store < store_words
  pub kept : (v : ℕ) → v < first_minimum → get_or tab v 0 ≤ k * most_places → get_or theta' v 0 ≡ get_or theta v 0
  pub remembers : Remembers ord into tab store'

-- what the search of all literals starts from, and what it gives
pub record Decidable (ord into tab theta : List ℕ) : Type 0 where
  pub tabled : Tabled ord tab (length ord)
  pub ranged : AllInRange first_minimum ord
  pub sorted : Sorted into
  pub replacing : Replacing tab theta 0

pub record Decided (ord into tab : List ℕ) (r : Bool) (theta' : List ℕ) : Type 0 where
  pub answer : (ar T : List ℕ) → Setting ar T ord into tab → r ≡ matches ar (literals_in (drop first_minimum into)) T (literals_in ord) start
  pub stays : (v : ℕ) → v < first_variable → get_or theta' v 0 ≡ v
