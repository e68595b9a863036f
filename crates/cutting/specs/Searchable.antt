-- What the laws of the search suppose: literals with labels, and the terms among which it looks.
use Rattle.std.specs.Prelude.{◌≡◌, true, ℕ, ◌<◌}
use Rattle.std.proofs.Math.Option.{some}
use mathlib.Core.List.{List, Memᴰ}
use Rattle.label.specs.Limits.{term_base}
use Rattle.label.specs.Labels.{are_arities, is_label, unpacked, terms_of}
use Rattle.paths.specs.Paths.{Literal, Path, literals, terms_in}
use Rattle.cutting.specs.Match.{Partial}
use Rattle.cutting.specs.Cut.{Matched}

-- every label of the list is one under the arity list
pub record AllLabels (ar : List ℕ) (ls : List Literal) : Type 0 where
  pub each : (l : Literal) → Memᴰ l ls → is_label ar l.label ≡ true

-- the literals of a path have labels
pub record PathLabels (ar : List ℕ) (p : Path) : Type 0 where
  pub each : AllLabels ar (literals p)

-- the two lists and their terms are as the search wants them
pub record Searchable (ar : List ℕ) (ls : List Literal) (T : List ℕ) : Type 0 where
  pub arities : are_arities ar ≡ true
  pub labels : AllLabels ar ls
  pub holds-terms : (t : ℕ) → Memᴰ t (terms_in ar ls) → Memᴰ t T
  pub small : (t : ℕ) → Memᴰ t T → t < term_base

-- σ gives what τ knows
pub record ExtendsPartial (σ : ℕ → ℕ) (τ : Partial) : Type 0 where
  pub known : (t u : ℕ) → τ t ≡ some u → σ t ≡ u

-- a replacement beyond τ, by terms of T, that takes each literal of qs to one of ls or to t = t true
pub record Solves (ar : List ℕ) (ls : List Literal) (T : List ℕ) (qs : List Literal) (τ : Partial) : Type 0 where
  pub σ : ℕ → ℕ
  pub extends : ExtendsPartial σ τ
  pub image : (l : Literal) → Memᴰ l qs → (t : ℕ) → Memᴰ t (terms_of ar (unpacked l.label)) → Memᴰ (σ t) T
  pub matched : (l : Literal) → Memᴰ l qs → Matched ar σ ls l
