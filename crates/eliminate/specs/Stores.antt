-- Words that hold tables of a state, and what writing one ensures.
use Rattle.std.specs.Prelude.{◌≡◌, true, false, List, ℕ, ◌+◌, ◌<◌, get_or, eqb}
use Rattle.basics.specs.Members.{mem}
use Rattle.state.specs.State.{atom_of, State, Good, Fits}
use Rattle.state.specs.Lent.{said_by}
use Rattle.elimination.specs.Tables.{Table, join, unite, aggregate_all}
use Rattle.elimination.specs.Inner.{Sees, Full}
use Rattle.eliminate.specs.Masks.{names_of, env_of, place_of}
use Rattle.eliminate.specs.Calls.{set_at, start_at}

-- the state that the lent words say, with objects in env as it and the tuple os place them
pub record Said (s : State) (os : List ℕ) (ar facts env : List ℕ) (n : ℕ) : Type 0 where
  pub good : Good s
  pub size_is : s.size ≡ n
  pub facts-are : s.fact ≡ said_by ar facts
  pub fits : Fits s os (env_of env)

-- the words hold the table x of row i, wherever the parameters have the objects os
pub record Holds (s : State) (os : List ℕ) (heads space : List ℕ) (i : ℕ) (x : Table) : Type 0 where
  pub names-are : names_of (set_at heads i) ≡ x.names
  pub full : Full x
  pub sees : Sees x
  pub entry : (θ : ℕ → ℕ) → Fits s os θ → get_or space (start_at heads i + place_of s.size x.names θ) 0 ≡ x.value θ

-- the union of a row's joins
abbrev pub union_of : State → List ℕ → ℕ → Table → Table → Table
union_of s ar l x y = unite (join s true (atom_of ar l) x) (join s false (atom_of ar l) y)

-- what writing a table ensures: whatever tables the words hold for the children, the row's table stands from `start` on
pub record Filled (ar facts heads space env : List ℕ) (n l high low kept start drops : ℕ) (space' env' : List ℕ) : Type 0 where
  pub before : (j : ℕ) → j < start → get_or space' j 0 ≡ get_or space j 0
  pub table : (s : State) (os : List ℕ) (x y : Table) → Said s os ar facts env n → Holds s os heads space high x → Holds s os heads space low y
      → ((t : ℕ) → mem eqb t (union_of s ar l x y).names ≡ true → mem eqb t (names_of drops) ≡ false → mem eqb t (names_of kept) ≡ true)
      → (θ : ℕ → ℕ) → Fits s os θ → get_or space' (start + place_of n (names_of kept) θ) 0 ≡ (aggregate_all n (names_of drops) (union_of s ar l x y)).value θ
  pub fits : (s : State) (os : List ℕ) → Said s os ar facts env n → Fits s os (env_of env')
  pub range : (t : ℕ) → env_of env' t < n
