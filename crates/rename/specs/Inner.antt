-- What contracts of inner functions and proofs cite. Nothing here has to be believed.
use Rattle.std.specs.Prelude.{◌≡◌, true, cond, Bool, List, [], ◌∷◌, ℕ, ◌+◌, ◌≤◌, ◌<◌, length, eqb}
use Rattle.label.specs.Limits.{first_variable, first_minimum, term_end, leaf_mark, first_parameter, parameter_count}
use Rattle.label.specs.Labels.{is_label}
use Rattle.label.specs.Renamings.{EachIn}
use Rattle.diagram.specs.Diagram.{Diagram, EveryLabel}
use Rattle.diagram.specs.Variables.{variables, minimums, occurs}
use Rattle.rename.specs.Valuations.{leaf_of}
use Rattle.rename.specs.Freeing.{freed}

-- every label of the diagrams ds is in Q
abbrev pub AllLabels : (ℕ → Type 0) → List Diagram → Type 0
AllLabels Q [] = Unit {0}
AllLabels Q (d ∷ ds) = EveryLabel Q d × AllLabels Q ds

-- g keeps the order of the labels in Q
pub record Keeps (Q : ℕ → Type 0) (g : ℕ → ℕ) : Type 0 where
  pub order : (l k : ℕ) → Q l → Q k → l < k → g l < g k

-- the first word of a row: a branch's label changed by g, or a leaf's mark
abbrev pub labelled : (ℕ → ℕ) → ℕ → ℕ
labelled g x = cond (eqb x leaf_mark) x (g x)

-- the words of rows, each branch's label changed by g
abbrev pub relabelled : (ℕ → ℕ) → List ℕ → List ℕ
relabelled g [] = []
relabelled g (x ∷ []) = x ∷ []
relabelled g (x ∷ y ∷ []) = x ∷ y ∷ []
relabelled g (x ∷ y ∷ z ∷ ws) = labelled g x ∷ y ∷ z ∷ relabelled g ws

-- labels under the arity list ar whose terms P names
abbrev pub Named : List ℕ → (ℕ → Type 0) → ℕ → Type 0
Named ar P l = (is_label ar l ≡ true) × EachIn ar P l

-- the variables of d, numbered from m on, and its minimum variables, numbered from n on, stay each among their kind
pub record KindsFit (ar : List ℕ) (m n : ℕ) (d : Diagram) : Type 0 where
  pub variables-from : first_variable ≤ m
  pub variables-end : m + length (variables ar d) ≤ first_minimum
  pub minimums-from : first_minimum ≤ n
  pub minimums-end : n + length (minimums ar d) ≤ term_end

-- no parameter past the count occurs, and no variable would pass the last
pub record Freeable (ar : List ℕ) (c : ℕ) (d : Diagram) : Type 0 where
  pub count : c ≤ parameter_count
  pub parameters : (t : ℕ) → occurs ar t d ≡ true → t < first_variable → t < first_parameter + c
  pub variables : (t : ℕ) → occurs ar t d ≡ true → first_variable ≤ t → t < first_minimum → t + c < first_minimum

-- an assignment that leads the freed diagram where η leads d; parameters, which the freed diagram no longer has, by ζ
pub record FreedBy (ar : List ℕ) (c : ℕ) (d : Diagram) (η ζ : ℕ → ℕ) : Type 0 where
  pub assign : ℕ → ℕ
  pub constants : (t : ℕ) → t < first_parameter → assign t ≡ η t
  pub parameters : (t : ℕ) → first_parameter ≤ t → t < first_variable → assign t ≡ ζ t
  pub minimums : (t : ℕ) → first_minimum ≤ t → assign t ≡ η t
  pub range : (n : ℕ) → ((t : ℕ) → η t < n) → ((t : ℕ) → ζ t < n) → (t : ℕ) → assign t < n
  pub value : (h : ℕ → List ℕ → Bool) → leaf_of ar h assign (freed ar c d) ≡ leaf_of ar h η d

-- an assignment for the freed diagram, read back: parameter i has what variable i is assigned
pub record BoundBy (ar : List ℕ) (c : ℕ) (d : Diagram) (θ : ℕ → ℕ) : Type 0 where
  pub assign : ℕ → ℕ
  pub constants : (t : ℕ) → t < first_parameter → assign t ≡ θ t
  pub parameters : (i : ℕ) → i < c → assign (first_parameter + i) ≡ θ (first_variable + i)
  pub others : (t : ℕ) → first_parameter + c ≤ t → t < first_variable → assign t ≡ θ t
  pub minimums : (t : ℕ) → first_minimum ≤ t → assign t ≡ θ t
  pub range : (n : ℕ) → ((t : ℕ) → θ t < n) → (t : ℕ) → assign t < n
  pub value : (h : ℕ → List ℕ → Bool) → leaf_of ar h θ (freed ar c d) ≡ leaf_of ar h assign d

-- parameters that are freed are assigned freely, as the variables are, whatever the minimum variables are assigned
pub record FreedFree (ar : List ℕ) (c : ℕ) (d : Diagram) : Type 0 where
  pub freed-by : (η ζ : ℕ → ℕ) → FreedBy ar c d η ζ
  pub bound_by : (θ : ℕ → ℕ) → BoundBy ar c d θ
