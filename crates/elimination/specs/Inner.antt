-- What contracts of inner functions and laws say of tables. Nothing here has to be believed.
use Rattle.std.specs.Prelude.{◌≡◌, true, List, ℕ, zero, suc, ◌+◌, ◌*◌, ◌^◌, ◌≤◌, eqb}
use Rattle.basics.specs.Members.{mem}
use Rattle.label.specs.Limits.{first_variable}
use Rattle.rename.specs.Ascending.{Ascending}
use Rattle.elimination.specs.Tables.{Table}

-- two valuations agree on what is no variable, and on the names
abbrev pub Agree : List ℕ → (ℕ → ℕ) → (ℕ → ℕ) → Type 0
Agree vs θ η = (t : ℕ) → (first_variable ≤ t → mem eqb t vs ≡ true) → θ t ≡ η t

-- the table sees only its names and what is no variable
pub record Sees (x : Table) : Type 0 where
  pub same-has : (θ η : ℕ → ℕ) → Agree x.names θ η → x.has θ ≡ x.has η
  pub same-value : (θ η : ℕ → ℕ) → Agree x.names θ η → x.value θ ≡ x.value η

-- names are variables, each once, ascending
abbrev pub Named : Table → Type 0
Named x = Ascending first_variable x.names

-- an entry for every choice
abbrev pub Full : Table → Type 0
Full x = (θ : ℕ → ℕ) → x.has θ ≡ true

-- small + small * n + .. : k terms
unfoldable pub geometric : ℕ → ℕ → ℕ → ℕ
geometric n small zero = 0
geometric n small (suc k) = small * n ^ k + geometric n small k
