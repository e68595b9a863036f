-- A state as it is lent: its size, the constants' objects, and its facts as rows of words (document 01, section 'States and value').
use Rattle.std.specs.Prelude.{List, [], ◌∷◌, ◌++◌, Bool, true, false, ◌&&◌, ◌||◌, ℕ, zero, suc, ◌+◌, ◌*◌, ◌/◌, length, get_or, take, drop, replicate, eqb, ltb, leb}
use Rattle.label.specs.Limits.{constant_count, most_places}
use Rattle.diagram.specs.Words.{equal_lists, every_below}
use Rattle.state.specs.State.{State, low}

-- words of a row of facts: its predicate, and an object for each place
abbrev pub fact_words : ℕ
fact_words = suc most_places

-- a row of facts: the predicate and its objects, 0 in unused places
abbrev pub fact_row : ℕ → List ℕ → List ℕ
fact_row p os = p ∷ take most_places (os ++ replicate most_places 0)

-- "at most 64 objects"
abbrev pub most_objects : ℕ
most_objects = 64

-- a state in hand has at most this many facts
abbrev pub most_facts : ℕ
most_facts = 1024

-- words behind the last whole row name no fact
abbrev pub fact_count : List ℕ → ℕ
fact_count facts = length facts / fact_words

unfoldable pub predicate_at : List ℕ → ℕ → ℕ
predicate_at facts i = get_or facts (i * fact_words) 0

-- the words behind the predicate
unfoldable pub objects_at : List ℕ → ℕ → List ℕ
objects_at facts i = take most_places (drop (suc (i * fact_words)) facts)

-- row i says that p holds of the objects os: places past the arity are unused
unfoldable pub says_fact : List ℕ → List ℕ → ℕ → List ℕ → ℕ → Bool
unfolding predicate_at objects_at
says_fact ar facts p os i = eqb (predicate_at facts i) p && equal_lists (take (get_or ar p 0) (objects_at facts i)) os

-- q holds of some number below n
abbrev pub some_below : ℕ → (ℕ → Bool) → Bool
some_below zero q = false
some_below (suc n) q = some_below n q || q n

-- some row says that p holds of os
unfoldable pub said_by : List ℕ → List ℕ → ℕ → List ℕ → Bool
unfolding says_fact
said_by ar facts p os = some_below (fact_count facts) (says_fact ar facts p os)

-- the lent state; places past the last constant have object 0
unfoldable pub state_of : List ℕ → ℕ → List ℕ → List ℕ → State
unfolding said_by
state_of ar n constants facts = record {
  size = n;
  constant = λ c. low constant_count c (get_or constants c 0) 0;
  fact = said_by ar facts;
}

-- every object of the list is below n
abbrev pub all_below : ℕ → List ℕ → Bool
all_below n [] = true
all_below n (o ∷ os) = ltb o n && all_below n os

-- row i names objects below n only
unfoldable pub names_below : List ℕ → ℕ → List ℕ → ℕ → Bool
unfolding predicate_at objects_at
names_below ar n facts i = all_below n (take (get_or ar (predicate_at facts i) 0) (objects_at facts i))

-- the constants' objects are below n
unfoldable pub constants_below : ℕ → List ℕ → Bool
constants_below n constants = every_below constant_count (λ c. ltb (get_or constants c 0) n)

-- there is an object, and no object that the lent words name is n or beyond
unfoldable pub is_state : List ℕ → ℕ → List ℕ → List ℕ → Bool
unfolding names_below constants_below
is_state ar n constants facts =
    leb 1 n && (constants_below n constants && every_below (fact_count facts) (names_below ar n facts))
