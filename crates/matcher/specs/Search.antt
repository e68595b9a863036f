-- The search as the code makes it: literals as numbers, a table of the places where terms come first, and the ways to go on, numbered. There are no
-- minimum variables (document 02, L12), so that terms are below first_minimum, and those from first_variable on are variables.
use Rattle.std.specs.Prelude.{◌≡◌, Bool, true, false, ◌&&◌, ◌||◌, cond, ℕ, zero, suc, ◌+◌, ◌-◌, ◌*◌, ◌/◌, ◌%◌, ◌≤◌, ◌<◌, length, get_or, set, take, drop, eqb, ltb, leb}
use mathlib.Core.List.{List, [], ◌∷◌, ◌++◌, Memᴰ}
use Rattle.std.proofs.Math.Option.{some, none}
use Rattle.label.specs.Limits.{first_variable, first_minimum, term_base, most_places, equality, equality_arity}
use Rattle.label.specs.Labels.{predicate_of, place_at, equates}
use Rattle.label.specs.declared.Test.TheVariants.{Always, Is}
use Rattle.paths.specs.Paths.{most_paths, Literal, terms_in}
use Rattle.paths.specs.Inner.{InRange, literal_at, literals_in}
use Rattle.cutting.specs.Match.{Partial, bind_terms}
use Rattle.cutting.specs.Searchable.{AllLabels, Searchable}
use Rattle.matcher.specs.declared.Way.{Way}
use Rattle.matcher.specs.declared.Way.TheVariants.{Straight, Turned, Twice, Nothing}

-- f 0, f 1, .., f (n - 1)
unfoldable pub along : (ℕ → ℕ) → ℕ → List ℕ
along f zero = []
along f (suc n) = along f n ++ (f n ∷ [])

-- the places of a label, unused ones 0
abbrev pub places_in : ℕ → List ℕ
places_in l = along (place_at l) most_places

-- place m of literals one after the other, as many places to each as a label has
abbrev pub term_at : List ℕ → ℕ → ℕ
term_at ord m = place_at (get_or ord (m / most_places) 0 / 2) (m % most_places)

-- those from k to n
unfoldable pub segment : List ℕ → ℕ → ℕ → List Literal
unfolding literals_in literal_at
segment ord k n = literals_in (take (n - k) (drop k ord))

-- tab tells of each term the place, counted from 1, where it comes first; 0 for what is no variable. What is known before place m: the terms that came first
-- before it, as theta has them.
unfoldable pub known : List ℕ → List ℕ → ℕ → Partial
known tab theta m t = cond (ltb t first_minimum) (cond (leb (get_or tab t 0) m) (some (get_or theta t 0)) none) (some t)

-- the term t, met at place m, is to become u: it is written where it comes first, else compared
unfoldable pub slot_fits : List ℕ → List ℕ → ℕ → ℕ → ℕ → Bool
slot_fits tab theta m t u = cond (eqb (get_or tab t 0) (m + 1)) true (eqb (get_or theta t 0) u)

unfoldable pub slot_after : List ℕ → List ℕ → ℕ → ℕ → ℕ → List ℕ
slot_after tab theta m t u = cond (eqb (get_or tab t 0) (m + 1)) (set theta t u) theta

-- the places of the label l stand from place m on
pub record Slots (tab : List ℕ) (m l : ℕ) : Type 0 where
  pub room : first_minimum ≤ length tab
  pub range : InRange first_minimum l
  pub seen : (k : ℕ) → k < most_places → get_or tab (place_at l k) 0 ≤ m + k + 1
  pub only : (k v : ℕ) → k < most_places → v < first_minimum → get_or tab v 0 ≡ m + k + 1 → v ≡ place_at l k

-- theta replaces terms by terms, as far as they are known before place m, and what is no variable stays
pub record Replacing (tab theta : List ℕ) (m : ℕ) : Type 0 where
  pub room : first_minimum ≤ length theta
  pub stays : (v : ℕ) → v < first_variable → get_or theta v 0 ≡ v
  pub terms : (v : ℕ) → v < first_minimum → get_or tab v 0 ≤ m → get_or theta v 0 < first_minimum

-- ===== The ways to go on =====

-- the literal x is an equality or its negation
unfoldable pub is_equality : ℕ → Bool
is_equality x = eqb (predicate_of (x / 2)) equality

-- the place of an equality that comes into place k when it is turned round
unfoldable pub turn : ℕ → ℕ
turn k = cond (eqb k 0) 1 (cond (eqb k 1) 0 k)

-- what place k becomes by a way
unfoldable pub way_place : Way → ℕ → ℕ
unfolding turn
way_place (Straight c) k = place_at c k
way_place (Turned c) k = place_at c (turn k)
way_place (Twice t) k = cond (ltb k equality_arity) t 0
way_place Nothing k = 0

abbrev pub way_places : Way → List ℕ
way_places w = along (way_place w) most_places

abbrev pub is_nothing : Way → Bool
is_nothing (Straight c) = false
is_nothing (Turned c) = false
is_nothing (Twice t) = false
is_nothing Nothing = true

-- what binding the places of l by the way w gives
pub record BindPost (tab theta : List ℕ) (m l : ℕ) (w : Way) (r : Bool) (theta' : List ℕ) : Type 0 where
  pub yes : r ≡ true → bind_terms (known tab theta m) (places_in l) (way_places w) ≡ some (known tab theta' (m + most_places))
  pub no : r ≡ false → bind_terms (known tab theta m) (places_in l) (way_places w) ≡ none
  pub kept : (v : ℕ) → v < first_minimum → get_or tab v 0 ≤ m → get_or theta' v 0 ≡ get_or theta v 0

-- two literals have one predicate and one sign
unfoldable pub alike : ℕ → ℕ → Bool
alike x y = eqb (predicate_of (x / 2)) (predicate_of (y / 2)) && eqb (x % 2) (y % 2)

-- the literals of the first path stand behind a table of its terms
abbrev pub into_count : List ℕ → ℕ
into_count into = length into - first_minimum

abbrev pub into_at : List ℕ → ℕ → ℕ
into_at into j = get_or into (first_minimum + j) 0

-- way j for a literal of a predicate that is not equality: literal j of the first path
unfoldable pub plain_way : List ℕ → ℕ → ℕ → Way
unfolding alike
plain_way into x j = cond (alike x (into_at into j)) (Straight (into_at into j / 2)) Nothing

-- way j for an equality: literal j / 2, turned round for odd j; then t = t for each term
unfoldable pub equal_way : List ℕ → List ℕ → ℕ → ℕ → Way
unfolding alike
equal_way into tab x j =
    cond (ltb j (into_count into * 2))
    (cond (alike x (into_at into (j / 2)))
    (cond (eqb (j % 2) 0) (Straight (into_at into (j / 2) / 2)) (Turned (into_at into (j / 2) / 2)))
    Nothing)
    (cond (eqb (x % 2) 1 && ltb 0 (get_or into (j - into_count into * 2) 0 + get_or tab (first_minimum + (j - into_count into * 2)) 0))
    (Twice (j - into_count into * 2))
    Nothing)

unfoldable pub way_at : List ℕ → List ℕ → ℕ → ℕ → Way
unfolding is_equality plain_way equal_way
way_at into tab x j = cond (is_equality x) (equal_way into tab x j) (plain_way into x j)

unfoldable pub way_count : List ℕ → ℕ → ℕ
unfolding is_equality
way_count into x = cond (is_equality x) (into_count into * 2 + first_minimum) (into_count into)

-- what trying a way gives: its places bound, or nothing
pub data TryPost (tab theta : List ℕ) (m x : ℕ) (r : Bool) (theta' : List ℕ) (w : Way) : Type 0 where
  no_way : is_nothing w ≡ true → r ≡ false → theta' ≡ theta → TryPost tab theta m x r theta' w
  a-way : is_nothing w ≡ false → BindPost tab theta m (x / 2) w r theta' → TryPost tab theta m x r theta' w

-- ===== Literals whose terms are all known =====

-- all of f 0, .., f (n - 1) are true; one of them is
unfoldable pub all_of : (ℕ → Bool) → ℕ → Bool
all_of f zero = true
all_of f (suc n) = all_of f n && f n

unfoldable pub any_of : (ℕ → Bool) → ℕ → Bool
any_of f zero = false
any_of f (suc n) = any_of f n || f n

abbrev pub all_known : List ℕ → ℕ → ℕ → Bool
all_known tab m l = all_of (λ k. leb (get_or tab (place_at l k) 0) m) most_places

-- the number y is among the literals of the first path, or not
pub record Finds (into : List ℕ) (y : ℕ) (r : Bool) : Type 0 where
  pub yes : r ≡ true → (i : ℕ) × (i < into_count into) × (into_at into i ≡ y)
  pub no : r ≡ false → (i : ℕ) → i < into_count into → into_at into i ≡ y → ⊥

-- what place k of the label l becomes under theta
abbrev pub image_of : List ℕ → ℕ → ℕ → ℕ
image_of theta l k = get_or theta (place_at l k) 0

-- theta gives the places of l terms
pub record Images (theta : List ℕ) (l : ℕ) : Type 0 where
  pub room : first_minimum ≤ length theta
  pub range : InRange first_minimum l
  pub terms : (k : ℕ) → k < most_places → image_of theta l k < first_minimum

-- the label of predicate p and places f 0, .., f (n - 1), if there were n places
unfoldable pub packing : ℕ → (ℕ → ℕ) → ℕ → ℕ
packing p f zero = p
packing p f (suc n) = packing p f n * term_base + f n

-- the label that l becomes under theta, its places in their order
abbrev pub image_label : List ℕ → ℕ → ℕ
image_label theta l = packing (predicate_of l) (image_of theta l) most_places

-- what the literal x becomes under theta is among the literals of the first path, or is t = t true
pub data Met (into theta : List ℕ) (x : ℕ) (r : Bool) : Type 0 where
  truth : is_equality x ≡ true → equates (image_of theta (x / 2) 0) (image_of theta (x / 2) 1) ≡ Always → r ≡ eqb (x % 2) 1 → Met into theta x r
  equal : (y : ℕ) → is_equality x ≡ true → equates (image_of theta (x / 2) 0) (image_of theta (x / 2) 1) ≡ Is (record { packed = y }) → Finds into (y * 2 + x % 2) r
      → Met into theta x r
  other : is_equality x ≡ false → Finds into (image_label theta (x / 2) * 2 + x % 2) r → Met into theta x r

-- ===== The search =====

-- the first path's literals are in order behind their terms, their labels in range
pub record Sorted (into : List ℕ) : Type 0 where
  pub room : first_minimum ≤ length into
  pub order : (i j : ℕ) → i < j → j < into_count into → into_at into i < into_at into j
  pub ranged : (i : ℕ) → i < into_count into → InRange first_minimum (into_at into i / 2)

-- the n literals of the second path, and the table of the places where their terms come first; behind it that of its terms
pub record Tabled (ord tab : List ℕ) (n : ℕ) : Type 0 where
  pub room : n ≤ length ord
  pub few : n < most_paths
  pub tab-room : first_minimum + first_minimum ≤ length tab
  pub fixed : (v : ℕ) → v < first_variable → get_or tab v 0 ≡ 0
  pub free : (v : ℕ) → first_variable ≤ v → v < first_minimum → 0 < get_or tab v 0
  pub seen : (m : ℕ) → m < n * most_places → get_or tab (term_at ord m) 0 ≤ m + 1
  pub only : (m v : ℕ) → m < n * most_places → v < first_minimum → get_or tab v 0 ≡ m + 1 → v ≡ term_at ord m

-- the terms of T, the labels of both paths, and their tables of terms
pub record Setting (ar : List ℕ) (T ord into tab : List ℕ) : Type 0 where
  pub search : Searchable ar (literals_in (drop first_minimum into)) T
  pub labels : AllLabels ar (literals_in ord)
  pub below : (t : ℕ) → Memᴰ t T → t < first_minimum
  pub own : (t : ℕ) → Memᴰ t (terms_in ar (literals_in ord)) → Memᴰ t T
  pub has : (t : ℕ) → Memᴰ t T → 0 < get_or into t 0 + get_or tab (first_minimum + t) 0
  pub of : (t : ℕ) → t < first_minimum → 0 < get_or into t 0 + get_or tab (first_minimum + t) 0 → Memᴰ t T

-- what is known of the variables are terms of T
pub record Inside (T : List ℕ) (τ : Partial) : Type 0 where
  pub each : (v w : ℕ) → first_variable ≤ v → v < first_minimum → τ v ≡ some w → Memᴰ w T

-- before any place: what is no variable is 0, variables come behind all places
abbrev pub late : ℕ
late = most_paths * most_places

pub record Unplaced (tab : List ℕ) : Type 0 where
  pub room : first_minimum ≤ length tab
  pub fixed : (v : ℕ) → v < first_variable → get_or tab v 0 ≡ 0
  pub free : (v : ℕ) → first_variable ≤ v → v < first_minimum → get_or tab v 0 ≡ late

-- the terms of the places before m have their first places
pub record Placing (ord tab₀ tab : List ℕ) (m : ℕ) : Type 0 where
  pub length-kept : length tab ≡ length tab₀
  pub fixed : (v : ℕ) → v < first_variable → get_or tab v 0 ≡ 0
  pub free : (v : ℕ) → first_variable ≤ v → v < first_minimum → 0 < get_or tab v 0
  pub early : (v : ℕ) → v < first_minimum → (get_or tab v 0 ≡ late → ⊥) → get_or tab v 0 ≤ m
  pub seen : (i : ℕ) → i < m → get_or tab (term_at ord i) 0 ≤ i + 1
  pub only : (i v : ℕ) → i < m → v < first_minimum → get_or tab v 0 ≡ i + 1 → v ≡ term_at ord i
  pub kept : (v : ℕ) → first_minimum ≤ v → get_or tab v 0 ≡ get_or tab₀ v 0
