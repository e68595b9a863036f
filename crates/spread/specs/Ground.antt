-- Ground facts and the states of n objects (document 02, L11).
use Rattle.std.specs.Prelude.{Bool, true, false, ◌&&◌, List, [], ◌∷◌, ◌++◌, map, ℕ, zero, suc, pred, ◌+◌, ◌/◌, ◌%◌, ◌^◌, length, get_or, eqb, ltb}
use Rattle.state.specs.Max.{tuples}
use Rattle.state.specs.State.{State}
use Rattle.state.specs.Lent.{fact_row, state_of, all_below}

-- "24, more than 16 ground facts"
abbrev pub most_ground : ℕ
most_ground = 16

-- a ground fact: a predicate and its objects
pub data Ground : Type 0 where
  ground : ℕ → List ℕ → Ground

-- f 0, then f 1, up to f (n - 1), one behind the other
unfoldable pub joined : {A : Type 0} → ℕ → (ℕ → List A) → List A
joined zero f = []
joined (suc n) f = joined n f ++ f n

-- the ground facts of predicate p
unfoldable pub facts_of : List ℕ → ℕ → ℕ → List Ground
unfolding tuples
facts_of ar n p = map (ground p) (tuples n (get_or ar p 0))

-- "each ground fact of every declared predicate": the declared ones are 1 to count
unfoldable pub ground_facts : List ℕ → ℕ → ℕ → List Ground
unfolding joined facts_of
ground_facts ar count n = joined count (λ p. facts_of ar n (suc p))

-- whether g is one of them: a declared predicate, as many objects as it has places, all below n
unfoldable pub is_ground : List ℕ → ℕ → ℕ → Ground → Bool
is_ground ar count n (ground p os) = (ltb 0 p && ltb (pred p) count) && (eqb (length os) (get_or ar p 0) && all_below n os)

-- how many there are
unfoldable pub ground_count : List ℕ → ℕ → ℕ → ℕ
ground_count ar zero n = 0
ground_count ar (suc p) n = ground_count ar p n + n ^ get_or ar (suc p) 0

-- "one choice of true or false for each ground fact": choice c of g facts, the lowest bit for the first
unfoldable pub bits : ℕ → ℕ → List Bool
bits zero c = []
bits (suc g) c = eqb (c % 2) 1 ∷ bits g (c / 2)

-- the facts that are chosen true
unfoldable pub chosen : List Bool → List Ground → List Ground
chosen [] fs = []
chosen (b ∷ bs) [] = []
chosen (true ∷ bs) (f ∷ fs) = f ∷ chosen bs fs
chosen (false ∷ bs) (f ∷ fs) = chosen bs fs

-- its row, as (true ..) makes it
abbrev pub row_of : Ground → List ℕ
row_of (ground p os) = fact_row p os

unfoldable pub rows_of : List Ground → List ℕ
rows_of [] = []
rows_of (f ∷ fs) = row_of f ++ rows_of fs

-- the facts of choice c, as they are lent
unfoldable pub lent_choice : List ℕ → ℕ → ℕ → ℕ → List ℕ
unfolding rows_of chosen bits ground_facts ground_count
lent_choice ar count n c = rows_of (chosen (bits (ground_count ar count n) c) (ground_facts ar count n))

-- the state of choice c, "with the constants placed as they are now"
unfoldable pub choice_state : List ℕ → ℕ → ℕ → List ℕ → ℕ → State
unfolding lent_choice
choice_state ar count n constants c = state_of ar n constants (lent_choice ar count n c)
