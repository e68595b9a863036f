-- T at a label as the code forms it, and kept for a label that occurs again (document 01, section 'Regression').
use Rattle.std.specs.Prelude.{◌≡◌, true, List, ℕ, ◌/◌, ◌%◌, ◌<◌, length, get_or}
use Rattle.basics.specs.Members.{Within}
use Rattle.refusal.specs.Outcome.{ok}
use Rattle.label.specs.Labels.{is_label}
use Rattle.diagram.specs.Sizes.{space_rows}
use Rattle.diagram.specs.Diagram.{Diagram, same}
use Rattle.diagram.specs.Validity.{tree}
use Rattle.store.specs.Space.{diagrams_of}
use Rattle.regression.specs.Calls.{Run, bind, form}
use Rattle.regression.specs.Regression.{Truths, truth_at}
use Rattle.row_steps.specs.Running.{Ran}
use Rattle.truths.specs.TruthChecks.{Lent}
use Rattle.refusal.specs.declared.Refusal.{Refusal}
use Rattle.std.specs.Prelude.{Ok, Result}

-- T for the label l, its rows formed
abbrev pub formed_truth : List ℕ → Truths → ℕ → Run Diagram
formed_truth ar truths l = bind (truth_at ar truths l) form

-- truth diagrams lent as listings, and a label whose T is asked for
pub record Asking (ar truths spans : List ℕ) (l : ℕ) : Type 0 where
  pub lent : Lent ar truths spans
  pub label : is_label ar l ≡ true

-- slots for labels; a slot has the label times the number of rows that a space may have, and the row of its T
abbrev pub slots : ℕ
slots = 1024

abbrev pub slot_base : ℕ
slot_base = space_rows

abbrev pub slot_label : List ℕ → ℕ → ℕ
slot_label kept b = get_or kept b 0 / slot_base

abbrev pub slot_row : List ℕ → ℕ → ℕ
slot_row kept b = get_or kept b 0 % slot_base

-- a step that was run, and whose rows are among rs
pub record Known {A : Type 0} (m : Run A) (a : A) (rs : List Diagram) : Type 0 where
  pub before : List Diagram
  pub after : List Diagram
  pub ran : m before ≡ ok (a, after)
  pub there : Within same after rs

-- T stands in row i of the space, and forming it again would form nothing
pub record Stands (ar : List ℕ) (truths : Truths) (s : List ℕ) (count l i : ℕ) : Type 0 where
  pub there : i < count
  pub known : Known (formed_truth ar truths l) (tree s i) (diagrams_of s count)

-- every slot that has a label has the row of its T
pub record Keeps (ar : List ℕ) (truths : Truths) (s : List ℕ) (count : ℕ) (kept : List ℕ) : Type 0 where
  pub places : length kept ≡ slots
  pub each : (b : ℕ) → b < slots → is_label ar (slot_label kept b) ≡ true → Stands ar truths s count (slot_label kept b) (slot_row kept b)

-- what running the step m with room for `limit` pairs ensures where T is kept
pub record KeptRan (limit : ℕ) (ar : List ℕ) (truths : Truths) (m : Run Diagram) (s₀ : List ℕ) (count : ℕ) (r : Result (ℕ × ℕ) (Refusal × ℕ)) (s heads links index kept : List ℕ) : Type 0 where
  pub ran : Ran limit m s₀ count r s heads links index
  pub keeps : (i n : ℕ) → r ≡ Ok (i, n) → Keeps ar truths s n kept
