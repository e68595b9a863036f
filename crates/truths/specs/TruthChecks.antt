-- The checks of lent truth diagrams as the code makes them (document 01, sections 'Regression' and 'Refusals by trade word').
use Rattle.std.specs.Prelude.{◌≡◌, Bool, true, not, ◌&&◌, ◌||◌, cond, List, ℕ, ◌-◌, ◌≤◌, ◌<◌, eqb, ltb}
use Rattle.std.proofs.Math.Option.{Option, some, none}
use Rattle.refusal.specs.declared.Refusal.TheVariants.{Truth, Unbound}
use Rattle.refusal.specs.Outcome.{Outcome, refused}
use Rattle.label.specs.Limits.{predicate_count, equality, leaf_mark}
use Rattle.label.specs.Labels.{are_arities}
use Rattle.diagram.specs.Diagram.{Diagram}
use Rattle.diagram.specs.Words.{label_at, high_at, is_listing}
use Rattle.regression.specs.RegressCall.{truth_count, are_listings, truth_words, truths_of, leaf_above, unbound_variable, check_truths}
use Rattle.refusal.specs.declared.Refusal.{Refusal}
use Rattle.std.specs.Prelude.{Err, Ok, Result}

-- predicate p has a truth diagram: it is not equality, and words are lent for it
unfoldable pub has_truth : List ℕ → ℕ → Bool
has_truth spans p = not (eqb p equality) && not (eqb (truth_count spans p) 0)

-- lent truth diagrams that are listings under an arity list
pub record Lent (ar truths spans : List ℕ) : Type 0 where
  pub arities : are_arities ar ≡ true
  pub listings : are_listings ar truths spans 1 (predicate_count - 1) ≡ true

-- the lent truth diagram of predicate p is a listing, if there is one
abbrev pub is_listed_at : List ℕ → List ℕ → List ℕ → ℕ → Bool
is_listed_at ar truths spans p = eqb (truth_count spans p) 0 || is_listing ar (truth_words truths spans p)

-- row k is a leaf above 1
unfoldable pub is_high_leaf : List ℕ → ℕ → Bool
is_high_leaf ws k = eqb (label_at ws k) leaf_mark && ltb 1 (high_at ws k)

-- 7, then 6, for the truth diagram of a predicate of arity n
abbrev pub verdict_on : List ℕ → ℕ → Diagram → Result (Unit {0}) Refusal
verdict_on ar n d = cond (leaf_above 1 d) (Err Truth) (cond (unbound_variable ar n d) (Err Unbound) (Ok tt))

abbrev pub verdict_of : List ℕ → ℕ → Option Diagram → Result (Unit {0}) Refusal
verdict_of ar n none = (Ok tt)
verdict_of ar n (some d) = verdict_on ar n d

pub record Between (a p b : ℕ) : Type 0 where
  pub from_first : a ≤ p
  pub to_last : p < b

-- what comes after a verdict
abbrev pub after_verdict : {A : Type 0} → Result (Unit {0}) Refusal → Outcome A → Outcome A
after_verdict (Ok tt) after = after
after_verdict (Err w) after = refused w

-- the verdict v on all lent truth diagrams
pub record Judged (ar truths spans : List ℕ) (v : Result (Unit {0}) Refusal) : Type 0 where
  pub each : (after : Outcome Diagram) → check_truths ar (truths_of truths spans) 1 (predicate_count - 1) after ≡ after_verdict v after
