-- The search part by part (document 01, section 'Cut'): literals that share no variable are searched by themselves, and within a part those with
-- the fewest new variables come first.
use Rattle.std.specs.Prelude.{◌≡◌, Bool, true, false, ◌&&◌, List, ℕ, ◌+◌, ◌*◌, ◌/◌, ◌%◌, ◌≤◌, ◌<◌, length, get_or, drop, ltb, leb}
use Rattle.label.specs.Limits.{first_variable, first_minimum, predicate_count, most_places}
use Rattle.label.specs.Labels.{predicate_of, place_at}
use Rattle.paths.specs.Paths.{most_paths}
use Rattle.cutting.specs.Match.{start, matches}
use Rattle.paths.specs.Inner.{AllInRange, literals_in}
use Rattle.matcher.specs.Search.{is_equality, any_of, alike, Setting}
use Rattle.matcher.specs.declared.Pick.{Pick}

-- the term t is a variable that was seen
unfoldable pub is_seen : List ℕ → ℕ → Bool
is_seen seen t = leb first_variable t && ltb 0 (get_or seen t 0)

-- the literal x has such a variable
unfoldable pub shares : List ℕ → ℕ → Bool
unfolding is_seen any_of
shares seen x = any_of (λ k. is_seen seen (place_at (x / 2) k)) most_places

-- a literal's rank: from this on if it shares no seen variable; all ranks are below the second
abbrev pub strange : ℕ
strange = 100

abbrev pub worst : ℕ
worst = 200

pub record Ranked (seen : List ℕ) (x r : ℕ) : Type 0 where
  pub most : r < worst
  pub strangers : strange ≤ r → shares seen x ≡ false

-- no literal from k on shares a seen variable
pub record Strangers (ord seen : List ℕ) (k : ℕ) : Type 0 where
  pub each : (i : ℕ) → k ≤ i → i < length ord → shares seen (get_or ord i 0) ≡ false

-- the literal of lowest rank from k on
pub record Best (ord seen : List ℕ) (k : ℕ) (b : Pick) : Type 0 where
  pub from : k ≤ b.at
  pub below : b.at < length ord
  pub strangers : strange ≤ b.rank → Strangers ord seen k

-- the terms of the first k literals are seen
pub record SeenTo (ord seen : List ℕ) (k : ℕ) : Type 0 where
  pub room : first_minimum ≤ length seen
  pub each : (i j : ℕ) → i < k → j < most_places → 0 < get_or seen (place_at (get_or ord i 0 / 2) j) 0

-- the same literals from k on in another order, those before k as they were
pub record Reordered (k : ℕ) (ord ord' : List ℕ) : Type 0 where
  pub length-same : length ord' ≡ length ord
  pub front : (i : ℕ) → i < k → get_or ord' i 0 ≡ get_or ord i 0
  pub back : (i : ℕ) → k ≤ i → i < length ord → (j : ℕ) × (k ≤ j) × (j < length ord) × (get_or ord' i 0 ≡ get_or ord j 0)
  pub forth : (i : ℕ) → k ≤ i → i < length ord → (j : ℕ) × (k ≤ j) × (j < length ord) × (get_or ord i 0 ≡ get_or ord' j 0)

-- what taking the literal `at` at place k requires and gives
pub record Takable (ord seen : List ℕ) (k at : ℕ) : Type 0 where
  pub ranged : AllInRange first_minimum ord
  pub seen-to : SeenTo ord seen k
  pub from : k ≤ at
  pub below : at < length ord

pub record Taken (ord : List ℕ) (k : ℕ) (ord' seen' : List ℕ) : Type 0 where
  pub reordered : Reordered k ord ord'
  pub seen-to : SeenTo ord' seen' (k + 1)

-- from k on there is a part, as far as e: no literal from e on shares a variable with one before
pub record Separable (ord seen : List ℕ) (k : ℕ) : Type 0 where
  pub ranged : AllInRange first_minimum ord
  pub seen-to : SeenTo ord seen k
  pub some : k < length ord
  pub few : length ord < most_paths

pub record PartTaken (ord : List ℕ) (k : ℕ) (e : ℕ) (ord' seen' : List ℕ) : Type 0 where
  pub more : k < e
  pub most : e ≤ length ord
  pub reordered : Reordered k ord ord'
  pub seen-to : SeenTo ord' seen' e
  pub strangers : Strangers ord' seen' e

-- what the search of all parts answers
pub record PartsPost (ord into tab : List ℕ) (r : Bool) : Type 0 where
  pub answer : (ar T : List ℕ) → Setting ar T ord into tab → r ≡ matches ar (literals_in (drop first_minimum into)) T (literals_in ord) start

-- no literal of the first path has the predicate and sign of x, and x is no true equality
pub record NoWay (into : List ℕ) (x : ℕ) : Type 0 where
  pub others : (j : ℕ) → first_minimum ≤ j → j < length into → alike x (get_or into j 0) ≡ false
  pub equality : is_equality x ≡ true → x % 2 ≡ 1 → ⊥

-- the kind of a literal: its predicate and sign
abbrev pub kind_of : ℕ → ℕ
kind_of x = predicate_of (x / 2) * 2 + x % 2

abbrev pub kind_count : ℕ
kind_count = predicate_count * 2

-- kinds marks the kinds of the literals of the first path, as far as j
pub record Kinds (into kinds : List ℕ) (j : ℕ) : Type 0 where
  pub room : kind_count ≤ length kinds
  pub each : (i : ℕ) → first_minimum ≤ i → i < j → kind_of (get_or into i 0) < kind_count → 0 < get_or kinds (kind_of (get_or into i 0)) 0

-- what the tests for ways say
pub record WayPost (kinds : List ℕ) (x : ℕ) (r : Bool) : Type 0 where
  pub kind : r ≡ false → kind_of x < kind_count
  pub unmarked : r ≡ false → get_or kinds (kind_of x) 0 ≡ 0
  pub equality : r ≡ false → is_equality x ≡ true → x % 2 ≡ 1 → ⊥

pub record WaysPost (ord kinds : List ℕ) (r : Bool) : Type 0 where
  pub no : r ≡ false → (into : List ℕ) → Kinds into kinds (length into) → (i : ℕ) × (i < length ord) × NoWay into (get_or ord i 0)
