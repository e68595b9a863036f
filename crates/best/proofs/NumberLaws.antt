-- The numbers that (best) may answer: 8 to 11, by its calls, and 15; so never 12.
use Rattle.std.specs.Prelude.{◌≡◌, refl, Bool, true, false, cond, ℕ, length, ltb}
use Rattle.std.proofs.Common.{ap, subst, inl, inr, arith}
use mathlib.Core.List.{List, [], ◌∷◌, ◌++◌}
use Rattle.std.proofs.Math.Option.{Option, some, none}
use Rattle.refusal.specs.declared.Refusal.{Refusal}
use Rattle.refusal.specs.declared.Refusal.TheVariants.{Variables, Space, Pairs, Value, Scale}
use Rattle.refusal.specs.Numbers.{number_of}
use Rattle.refusal.specs.Outcome.{Outcome, ok, refused, and_then}
use Rattle.label.specs.Labels.{predicate_of}
use Rattle.label.specs.Renamings.{moved}
use Rattle.diagram.specs.Sizes.{most_rows, space_rows, most_pairs}
use Rattle.diagram.specs.Diagram.{Diagram, leaf, branch}
use Rattle.diagram.specs.Rows.{rows, onto}
use Rattle.apply.specs.declared.Operation.{Operation}
use Rattle.apply.specs.declared.Operation.TheVariants.{Sum, Product}
use Rattle.apply.specs.declared.Names.{Names}
use Rattle.apply.specs.declared.Names.TheVariants.{Apart, Shared}
use Rattle.apply.specs.declared.Combined.{Combined}
use Rattle.apply.specs.declared.Combined.TheVariants.{Refused}
use Rattle.apply.specs.Pairs.{pairs, pair_count, overflows}
use Rattle.apply.specs.Combination.{operate, left_operand, right_operand, too_many, rows_formed, combination, diagram_answer, done_as}
use Rattle.state.specs.State.{State}
use Rattle.regression.specs.Calls.{Run, pure, bind, form, combine}
use Rattle.regression.specs.Step.{exchanged, row_step, test_diagram}
use Rattle.regression.specs.Regression.{Truths, result_of, row_result, row_results, last_of, over_rows, replacement, truth_of, truth_from, truth_at, regression, regressed}
use Rattle.mdp.specs.Model.{Variant, Action, Model}
use Rattle.mdp.specs.Backup.{given, combined, variants_sum}
use Rattle.best.specs.Best.{best_answer}
use Rattle.best.specs.Inner.{Refuses, OfCall, OfBest, Stops, in-calls, in-binding, Stopped, here, later}
use Rattle.best.proofs.RefusalLaws.{refused-stopped}

-- ===== What refuses an outcome =====

module _ {A : Type 0} {P : Refusal → Type 0} where
  refuses-ok : {a : A} → Refuses P (ok a)
  refuses-ok = record { given = λ r e. let z : ◌≡◌ {A = ℕ} 0 1 = cc in absurd (omega arith) }

  refuses-refused : {x : Refusal} → P x → Refuses {A = A} P (refused x)
  refuses-refused {x} p = record { given = λ r e. let q : x ≡ r = cc in subst P q p }

  refuses-cond : (b : Bool) (x y : Outcome A) → Refuses P x → Refuses P y → Refuses P (cond b x y)
  refuses-cond true x y p q = p
  refuses-cond false x y p q = q

refuses-then : {A B : Type 0} {P : Refusal → Type 0} {f : A → Outcome B} (o : Outcome A) → Refuses P o → ((a : A) → Refuses P (f a)) → Refuses P (and_then o f)
refuses-then (ok a) p q = q a
refuses-then (refused r) p q = refuses-refused (p.given r refl)

-- ===== The steps of a call =====

record Calls {A : Type 0} (m : Run A) : Type 0 where
  given : (rs : List Diagram) → Refuses OfCall (m rs)

calls-pure : {A : Type 0} (a : A) → Calls (pure a)
calls-pure a = record { given = λ rs. refuses-ok }

calls-bind : {A B : Type 0} (m : Run A) (f : A → Run B) → Calls m → ((a : A) → Calls (f a)) → Calls (bind m f)
calls-bind m f p q = record { given = λ rs. refuses-then (m rs) (p.given rs) (λ r. (q r.0).given r.1) }

form-calls : (d : Diagram) → Calls (form d)
unfolding form
form-calls d = record { given = λ rs. refuses-cond (ltb space_rows (length (onto d rs))) (refused Space) (ok (d, onto d rs)) (refuses-refused (omega arith)) refuses-ok }

combine-calls : (op : Operation) (a b : Diagram) → Calls (combine op a b)
unfolding combine
combine-calls op a b = record {
  given = λ rs.
      refuses-cond (ltb most_pairs (pair_count op a b)) (refused Pairs) _ (refuses-refused (omega arith))
      (refuses-cond (overflows (operate op) (pairs op a b)) (refused Value) _ (refuses-refused (omega arith))
      ((form-calls _).given rs));
}

step-calls : (T t f : Diagram) → Calls (row_step T t f)
unfolding row_step
step-calls T t f =
    calls-bind _ _ (form-calls T) (λ x.
    calls-bind _ _ (form-calls (exchanged x)) (λ y.
    calls-bind _ _ (combine-calls Product x t) (λ left.
    calls-bind _ _ (combine-calls Product y f) (λ right.
    combine-calls Sum left right))))

module _ (T : ℕ → Run Diagram) (h : (l : ℕ) → Calls (T l)) where
  row-calls : (whole results : List Diagram) (r : Diagram) → Calls (row_result T whole results r)
  unfolding row_result
  row-calls whole results (leaf v) = form-calls (leaf v)
  row-calls whole results (branch l t f) = calls-bind _ _ (h l) (λ x. step-calls x (result_of whole results t) (result_of whole results f))

  rows-calls : (whole more results : List Diagram) → Calls (row_results T whole more results)
  unfolding row_results
  rows-calls whole [] results = calls-pure results
  rows-calls whole (r ∷ more) results = calls-bind _ _ (row-calls whole results r) (λ x. rows-calls whole more (results ++ (x ∷ [])))

  over-calls : (d : Diagram) → Calls (over_rows T d)
  unfolding over_rows
  over-calls d = calls-bind _ _ (rows-calls (rows d) (rows d) []) (λ results. calls-pure (last_of results))

replacement-calls : (ar : List ℕ) (σ : ℕ → ℕ) (d : Diagram) → Calls (replacement ar σ d)
unfolding replacement
replacement-calls ar σ d = over-calls _ (λ l. calls-pure (test_diagram (moved ar σ l))) d

from-calls : (ar : List ℕ) (o : Option Diagram) (l : ℕ) → Calls (truth_from ar o l)
unfolding truth_from
from-calls ar none l = calls-pure _
from-calls ar (some d) l = replacement-calls ar _ d

regressed-calls : (ar : List ℕ) (truths : Truths) (d : Diagram) → Refuses OfCall (regressed ar truths d)
unfolding regressed regression truth_at
regressed-calls ar truths d =
    refuses-then (regression ar truths d []) ((over-calls (truth_at ar truths) (λ l. from-calls ar (truth_of truths (predicate_of l)) l) d).given []) (λ r.
    refuses-cond (ltb most_rows (length (rows r.0))) (refused Space) (ok r.0) (refuses-refused (omega arith)) refuses-ok)

-- ===== Combinations =====

given-cond : (b : Bool) (x : Refusal) (o : Combined) (d : Diagram) → OfCall x → Refuses OfCall (given o d) → Refuses OfCall (given (cond b (Refused x) o) d)
given-cond true x o d p q = refuses-refused p
given-cond false x o d p q = q

combined-calls : (op : Operation) (names : Names) (ar : List ℕ) (a b : Diagram) → Refuses OfCall (combined op names ar a b)
unfolding combined diagram_answer
combined-calls op names ar a b = go (done_as op names ar a b)
  where
    go : (n : Names) → Refuses OfCall (given (diagram_answer op n ar a b) (combination op n ar a b))
    go n =
        given-cond (too_many n ar a b) Variables _ (combination op n ar a b) (omega arith)
        (given-cond (ltb most_pairs (pair_count op (left_operand n ar a b) (right_operand n ar a b))) Pairs _ (combination op n ar a b) (omega arith)
        (given-cond (overflows (operate op) (pairs op (left_operand n ar a b) (right_operand n ar a b))) Value _ (combination op n ar a b) (omega arith)
        (given-cond (ltb space_rows (rows_formed op n ar a b)) Space _ (combination op n ar a b) (omega arith)
        (given-cond (ltb most_rows (length (rows (combination op n ar a b)))) Space _ (combination op n ar a b) (omega arith)
        refuses-ok))))

variants-calls : (ar : List ℕ) (g : ℕ) (d sum : Diagram) (vs : List Variant) → Refuses OfCall (variants_sum ar g d sum vs)
unfolding variants_sum
variants-calls ar g d sum [] = refuses-ok
variants-calls ar g d sum (v ∷ vs) =
    refuses-then (regressed ar v.truths d) (regressed-calls ar v.truths d) (λ r.
    refuses-then (combined Product Shared ar v.weight (leaf g)) (combined-calls Product Shared ar v.weight (leaf g)) (λ w.
    refuses-then (combined Product Shared ar r w) (combined-calls Product Shared ar r w) (λ p.
    refuses-then (combined Sum Apart ar sum p) (combined-calls Sum Apart ar sum p) (λ sum'.
    variants-calls ar g d sum' vs))))

-- ===== The answer =====

module _ (m : Model) (s : State) (d : Diagram) where
  stops-numbers : (a : Action) (r : Refusal) → Stops m s d a r → OfBest r
  stops-numbers a r (in-calls {r = r'} e) = inl ((variants-calls m.arities m.numerator d (leaf 0) a.variants).given r' e)
  stops-numbers a r (in-binding e t f) = inr refl

  stopped-numbers : (l : List Action) (r : Refusal) → Stopped m s d l r → OfBest r
  stopped-numbers l r (here {a = a} {r = r'} h) = stops-numbers a r' h
  stopped-numbers l r (later {l = l'} {r = r'} p h) = stopped-numbers l' r' h

  -- 8 to 11, or 15
  pub best-numbers : (r : Refusal) → best_answer m s d ≡ refused r → OfBest r
  best-numbers r e = stopped-numbers m.actions r (refused-stopped m s d r e)

  -- "It has their refusals, not 12"
  pub best-not-scale : best_answer m s d ≡ refused Scale → ⊥
  best-not-scale e = go (best-numbers Scale e)
    where
      go : OfBest Scale → ⊥
      go (inl h) = let z = h.1 in omega arith
      go (inr q) = let z = ap number_of q in omega arith
