-- Labels as the operations on diagrams need them: under the arity list, and with a choice of terms.
use Rattle.std.specs.Prelude.{◌≡◌, true, List, ℕ, ◌+◌, ◌≤◌, ◌<◌}
use Rattle.label.specs.Limits.{first_variable}
use Rattle.label.specs.Labels.{is_label, predicate_of, unpacked, terms_of}
use Rattle.diagram.specs.Diagram.{Diagram, EveryLabel}
use Rattle.state.specs.Terms.{Each}
use Rattle.regression.specs.Parameters.{Allowed}
use Rattle.declared.specs.Inner.{Constant}

-- a label under the arity list, its predicate up to p, its terms in P
pub record Proper (ar : List ℕ) (p : ℕ) (P : ℕ → Type 0) (l : ℕ) : Type 0 where
  pub is-label : is_label ar l ≡ true
  pub predicate : predicate_of l ≤ p
  pub terms : Each P (terms_of ar (unpacked l))

-- every label of d is
abbrev pub AllProper : List ℕ → ℕ → (ℕ → Type 0) → Diagram → Type 0
AllProper ar p P d = EveryLabel (Proper ar p P) d

-- one of the first c constants, one of the first k parameters, or a variable of either kind
pub record Known (c k t : ℕ) : Type 0 where
  pub constants : Constant c t
  pub parameters : Allowed k t

-- so in a truth diagram, whose variables are the n arguments
pub record KnownArgument (c k n t : ℕ) : Type 0 where
  pub known : Known c k t
  pub arguments : t < first_variable + n
