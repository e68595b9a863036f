-- Ground listings, and the states by whose numbers two of them are compared (document 02, L14).
use Rattle.std.specs.Prelude.{◌≡◌, Bool, true, not, ◌&&◌, ◌||◌, List, [], ◌∷◌, ℕ, ◌<◌, length, get_or, eqb}
use Rattle.label.specs.Limits.{constant_count, equality, leaf_mark}
use Rattle.label.specs.Terms.{is_constant}
use Rattle.label.specs.Labels.{predicate_of, unpacked, terms_of}
use Rattle.diagram.specs.Words.{label_at, row_count, every_below}
use Rattle.diagram.specs.Listing.{diagram_of}
use Rattle.state.specs.State.{meaning, State, Good, low}
use Rattle.state.specs.Terms.{Each}
use Rattle.minimum.specs.Number.{number}

-- every term of the list is a constant
abbrev pub all_constants : List ℕ → Bool
all_constants [] = true
all_constants (t ∷ ts) = is_constant t && all_constants ts

-- "no variables of either kind, no parameters and no equality": the label's terms are constants, and its predicate is not equality
unfoldable pub is_ground_label : List ℕ → ℕ → Bool
is_ground_label ar l = all_constants (terms_of ar (unpacked l)) && not (eqb (predicate_of l) equality)

-- "two ground diagrams": each row of the listing is a leaf or has such a label
unfoldable pub is_ground : List ℕ → List ℕ → Bool
unfolding is_ground_label label_at
is_ground ar ws = every_below (row_count ws) (λ i. eqb (label_at ws i) leaf_mark || is_ground_label ar (label_at ws i))

-- the value of a listing in a state: its number
unfoldable pub value_in : List ℕ → List ℕ → State → ℕ
unfolding number meaning diagram_of
value_in ar ws s = number s [] (meaning ar (diagram_of ws))

-- "the same value in every state" that P names
abbrev pub SameValues : (State → Type 0) → List ℕ → List ℕ → List ℕ → Type 0
SameValues P ar x y = (s : State) → P s → value_in ar x s ≡ value_in ar y s

-- a state of document 01: constants are objects, and facts are about its objects, as many as the predicate has places
pub record StateUnder (ar : List ℕ) (s : State) : Type 0 where
  pub good : Good s
  pub own : (p : ℕ) (os : List ℕ) → s.fact p os ≡ true → Each (λ o. o < s.size) os
  pub count : (p : ℕ) (os : List ℕ) → s.fact p os ≡ true → length os ≡ get_or ar p 0

-- "states where constants have different objects"
pub record DistinctConstants (ar : List ℕ) (s : State) : Type 0 where
  pub state : StateUnder ar s
  pub different : (c d : ℕ) → c < constant_count → d < constant_count → s.constant c ≡ s.constant d → c ≡ d

-- as many objects as constants, constant c at object c: only the facts are free
unfoldable pub own_objects : (ℕ → List ℕ → Bool) → State
own_objects facts = record { size = constant_count; constant = λ c. low constant_count c c 0; fact = facts }

-- "the same value in every state exactly when they are equal row for row. States where constants have different objects must suffice for it."
pub record EqualNumbers (ar x y : List ℕ) : Type 0 where
  -- plain: the same words have the same value, whatever the state
  pub values : x ≡ y → SameValues (StateUnder ar) ar x y
  pub rows : SameValues (StateUnder ar) ar x y → x ≡ y
  pub rows-distinct : SameValues (DistinctConstants ar) ar x y → x ≡ y
  -- even these states suffice
  pub rows-own : ((facts : ℕ → List ℕ → Bool) → StateUnder ar (own_objects facts) → value_in ar x (own_objects facts) ≡ value_in ar y (own_objects facts)) → x ≡ y
