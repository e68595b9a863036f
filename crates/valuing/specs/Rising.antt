-- The search where there are minimum variables (document 02, L12): every choice of objects for the maximum variables is tried, and beneath each the lowest
-- leaf is sought, as the highest of leaves turned about.
use Rattle.std.specs.Prelude.{◌≡◌, true, cond, List, ℕ, suc, ◌-◌, ◌≤◌, ◌<◌, length, get_or, ltb}
use Rattle.label.specs.Limits.{term_end, first_minimum}
use Rattle.diagram.specs.Sizes.{highest_value}
use Rattle.diagram.specs.Diagram.{eval}
use Rattle.diagram.specs.Words.{row_count}
use Rattle.diagram.specs.Listing.{diagram_of}
use Rattle.diagram.specs.Validity.{Valid}
use Rattle.diagram.specs.Variables.{occurs}
use Rattle.fact_index.specs.Inner.{indexed_count, Indexed}
use Rattle.valuing.specs.Search.{free, TopsBy, lent_holds, Extends, Env}

-- what stands for the leaf x: the lower the leaf, the higher; what is below `best` as high as can be, so that the search beneath a choice ends there
unfoldable pub turned : ℕ → ℕ → ℕ
turned best x = cond (ltb x best) highest_value (highest_value - x)

-- the leaf to which θ leads
unfoldable pub leaf_of : List ℕ → List ℕ → List ℕ → (ℕ → ℕ) → ℕ
unfolding lent_holds
leaf_of ar facts ws θ = eval (lent_holds ar facts θ) (diagram_of ws)

-- η differs from θ at minimum variables only
pub record Beneath (n : ℕ) (θ η : ℕ → ℕ) : Type 0 where
  pub same : (t : ℕ) → t < first_minimum → η t ≡ θ t
  pub range : (t : ℕ) → η t < n

-- b is the best so far, or at most one more than every leaf beneath one choice
pub data Held (ar facts ws env : List ℕ) (n best b : ℕ) : Type 0 where
  old : b ≡ best → Held ar facts ws env n best b
  new : (θ : ℕ → ℕ) → Extends n env θ → ((η : ℕ → ℕ) → Beneath n θ η → b ≤ suc (leaf_of ar facts ws η)) → Held ar facts ws env n best b

-- b is the highest of `best` and one more than the lowest leaf beneath each choice
pub record Risen (ar facts ws env : List ℕ) (n best b : ℕ) : Type 0 where
  pub kept : best ≤ b
  pub above : (θ : ℕ → ℕ) → Extends n env θ → (η : ℕ → ℕ) × Beneath n θ η × (leaf_of ar facts ws η < b)
  pub held : Held ar facts ws env n best b

-- and env is as it was, leaves are turned about by b
pub record Settled (ar facts ws env : List ℕ) (n best b : ℕ) (low' env' : List ℕ) : Type 0 where
  pub restored : env' ≡ env
  pub lows : TopsBy (turned b) ws low' (row_count ws)
  pub risen : Risen ar facts ws env n best b

-- no leaf passes this
abbrev pub Topmost : List ℕ → List ℕ → List ℕ → List ℕ → ℕ → ℕ → Type 0
Topmost ar facts ws env n most = (θ : ℕ → ℕ) → Extends n env θ → leaf_of ar facts ws θ < most

-- the terms before t that occur have objects, those from t on none
pub record Chosen (ws ar facts index env : List ℕ) (n t : ℕ) : Type 0 where
  pub valid : Valid ar ws
  pub indexed : Indexed ar facts index (indexed_count facts index)
  pub env-fits : Env n env
  pub end : t ≤ first_minimum
  pub bound : (u : ℕ) → u < t → occurs ar u (diagram_of ws) ≡ true → get_or env u 0 ≡ free → ⊥
  pub unbound : (u : ℕ) → t ≤ u → u < term_end → get_or env u 0 ≡ free

-- and `low` has a number for each row, by leaves turned about
pub record Rising (ws low ar facts index env : List ℕ) (n t best : ℕ) : Type 0 where
  pub chosen : Chosen ws ar facts index env n t
  pub places : row_count ws ≤ length low
  pub lows : TopsBy (turned best) ws low (row_count ws)

-- r is the first term from t on that is marked, or where the maximum variables end
pub record Next (marks : List ℕ) (t r : ℕ) : Type 0 where
  pub least : t ≤ r
  pub end : r ≤ first_minimum
  pub none : (u : ℕ) → t ≤ u → u < r → get_or marks u 0 ≡ 0
