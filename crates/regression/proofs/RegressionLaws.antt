-- Laws of replacement and regression: row by row in number order they give the diagrams of `Result`, and a label's T that is there already adds nothing.
use Rattle.std.specs.Prelude.{◌≡◌, refl, ℕ, pred, ◌≤◌, length, get_or, ltb}
use Rattle.std.proofs.Math.Path.{ap}
use Rattle.std.proofs.Common.{sym, ◌∙◌, subst, arith, ltb-false}
use mathlib.Core.List.{List, [], ◌∷◌, ◌++◌, append-nil, append_assoc, map}
use Rattle.std.proofs.Math.Option.{Option, some, none}
use Rattle.std.proofs.Math.ListN.{length-append, length-map, get_or-map, get_or-append}
use Rattle.std.proofs.Math.Seq.{get_or-append_seam}
use Rattle.refusal.specs.declared.Refusal.TheVariants.{Space}
use Rattle.refusal.specs.Outcome.{ok, Accepted}
use Rattle.refusal.specs.OutcomeLaws.{accepted-ok, accepted-then, accepted-cond}
use Rattle.label.specs.Labels.{predicate_of, unpacked, terms_of}
use Rattle.label.specs.Renamings.{moved}
use Rattle.diagram.specs.Sizes.{most_rows}
use Rattle.diagram.specs.Diagram.{Diagram, leaf, branch}
use Rattle.diagram.specs.Rows.{rows}
use Rattle.diagram.specs.Listing.{index}
use Rattle.diagram.specs.Inner.{Earlier, Kept}
use Rattle.diagram.specs.ListingLaws.{get_d-index}
use Rattle.diagram.specs.RowLaws.{rows-kept, rows-root}
use Rattle.regression.specs.Calls.{Run, pure, bind, form}
use Rattle.regression.proofs.CallLaws.{Gives, gives-pure, gives-bind, gives-mono, form-gives, Steady, steady-pure, steady-bind, steady-form}
use Rattle.regression.specs.Step.{label_test, test_diagram, row_step}
use Rattle.regression.proofs.StepLaws.{step_gives, steady-step}
use Rattle.regression.specs.Regression.{result_of, row_result, row_results, last_of, over_rows, argument, replacement, Truths, truth_of, truth_from, truth_at, regression, regressed}
use Rattle.regression.specs.Result.{stepped, rebuilt, replaced, truth_given, truth_diagram, regressed_diagram}

-- the laws of `row_result`, `row_results` and `over_rows`: nothing else unfolds them
pub row-leaf : (run : ℕ → Run Diagram) (whole results : List Diagram) (v : ℕ) → row_result run whole results (leaf v) ≡ form (leaf v)
unfolding row_result
row-leaf run whole results v = refl

pub row-branch : (run : ℕ → Run Diagram) (whole results : List Diagram) (l : ℕ) (t f : Diagram)
    → row_result run whole results (branch l t f) ≡ bind (run l) (λ x. row_step x (result_of whole results t) (result_of whole results f))
unfolding row_result
row-branch run whole results l t f = refl

pub results-none : (run : ℕ → Run Diagram) (whole results : List Diagram) → row_results run whole [] results ≡ pure results
unfolding row_results
results-none run whole results = refl

pub results-cons : (run : ℕ → Run Diagram) (whole : List Diagram) (r : Diagram) (more results : List Diagram)
    → row_results run whole (r ∷ more) results ≡ bind (row_result run whole results r) (λ x. row_results run whole more (results ++ (x ∷ [])))
unfolding row_results
results-cons run whole r more results = refl

pub over-rows : (run : ℕ → Run Diagram) (d : Diagram) → over_rows run d ≡ bind (row_results run (rows d) (rows d) []) (λ results. pure (last_of results))
unfolding over_rows
over-rows run d = refl

-- the laws of `rebuilt`
pub rebuilt-leaf : (T : ℕ → Diagram) (v : ℕ) → rebuilt T (leaf v) ≡ leaf v
unfolding rebuilt
rebuilt-leaf T v = refl

pub rebuilt-branch : (T : ℕ → Diagram) (l : ℕ) (t f : Diagram) → rebuilt T (branch l t f) ≡ stepped (T l) (rebuilt T t) (rebuilt T f)
unfolding rebuilt
rebuilt-branch T l t f = refl

map_snoc : (g : Diagram → Diagram) (l : List Diagram) (x : Diagram) → map g l ++ (g x ∷ []) ≡ map g (l ++ (x ∷ []))
map_snoc g [] x = refl
map_snoc g (y ∷ ys) x = ap (g y ∷◌) (map_snoc g ys x)

-- the results of the rows done are there, by the numbers of the rows
pub result-done : (T : ℕ → Diagram) (whole done more : List Diagram) (x : Diagram) → whole ≡ done ++ more → Earlier whole (length done) x
    → result_of whole (map (rebuilt T) done) x ≡ rebuilt T x
unfolding rebuilt
result-done T whole done more x e h =
    get_or-map (rebuilt T) done (index x whole) (leaf 0)
    ∙ ap (rebuilt T) (sym (get_or-append done more (leaf 0) (index x whole) h.before) ∙ ap (λ (w : List Diagram). get_or w (index x whole) (leaf 0)) (sym e)
    ∙ get_d-index x whole (leaf 0) h.is_row)

module _ (run : ℕ → Run Diagram) (T : ℕ → Diagram) (is : (l : ℕ) → Gives (λ x. x ≡ T l) (run l)) where
  row_gives : (whole done more : List Diagram) (r : Diagram) → Kept whole → whole ≡ done ++ (r ∷ more)
      → Gives (λ x. x ≡ rebuilt T r) (row_result run whole (map (rebuilt T) done) r)
  unfolding rebuilt
  row_gives whole done more (leaf v) k e = rw (row-leaf run whole (map (rebuilt T) done) v) (form-gives (leaf v))
  row_gives whole done more (branch l t f) k e =
      let c = k.children (length done) l t f (rw e (omega (arith, length-append done (branch l t f ∷ more))))
      (rw e (get_or-append_seam done (branch l t f) more (leaf 0))) in
      rw (
        row-branch run whole (map (rebuilt T) done) l t f,
        result-done T whole done (branch l t f ∷ more) t e c.0,
        result-done T whole done (branch l t f ∷ more) f e c.1,
      ) (gives-bind _ _ (is l) (λ x hx. gives-mono (step_gives x (rebuilt T t) (rebuilt T f)) (λ y hy. hy ∙ rw hx refl)))

  pub results-give : (whole done more : List Diagram) → Kept whole → whole ≡ done ++ more
      → Gives (λ x. x ≡ map (rebuilt T) whole) (row_results run whole more (map (rebuilt T) done))
  results-give whole done [] k e =
      rw (results-none run whole (map (rebuilt T) done)) (gives-pure (map (rebuilt T) done) (rw (e, append-nil done) refl))
  results-give whole done (r ∷ more) k e =
      rw (results-cons run whole r more (map (rebuilt T) done)) (gives-bind _ _ (row_gives whole done more r k e) (λ x hx.
      subst (λ (rest : List Diagram). Gives (λ (y : List Diagram). y ≡ map (rebuilt T) whole) (row_results run whole more rest))
      (sym (map_snoc (rebuilt T) done r) ∙ ap (λ (y : Diagram). map (rebuilt T) done ++ (y ∷ [])) (sym hx))
      (results-give whole (done ++ (r ∷ [])) more k (e ∙ sym (append_assoc done (r ∷ []) more)))))

  -- row by row in number order: what the root gives
  pub over-gives : (d : Diagram) → Gives (λ x. x ≡ rebuilt T d) (over_rows run d)
  unfolding rebuilt
  over-gives d = rw (over-rows run d) (gives-bind _ _ (results-give (rows d) [] (rows d) (rows-kept d) refl) (λ rs h.
      gives-pure (last_of rs) (rw (h, length-map (rows d) (rebuilt T)) (get_or-map (rebuilt T) (rows d) (pred (length (rows d))) (leaf 0) ∙ ap (rebuilt T) (rows-root d)))))

module _ (run : ℕ → Run Diagram) (steady : (l : ℕ) → Steady (run l)) where
  pub steady-row : (whole results : List Diagram) (r : Diagram) → Steady (row_result run whole results r)
  steady-row whole results (leaf v) = rw (row-leaf run whole results v) (steady-form (leaf v))
  steady-row whole results (branch l t f) =
      rw (row-branch run whole results l t f) (steady-bind _ _ (steady l) (λ x. steady-step x (result_of whole results t) (result_of whole results f)))

  pub steady-rows : (whole more results : List Diagram) → Steady (row_results run whole more results)
  steady-rows whole [] results = rw (results-none run whole results) (steady-pure results)
  steady-rows whole (r ∷ more) results =
      rw (results-cons run whole r more results) (steady-bind _ _ (steady-row whole results r) (λ x. steady-rows whole more (results ++ (x ∷ []))))

  pub steady-over : (d : Diagram) → Steady (over_rows run d)
  steady-over d = rw (over-rows run d) (steady-bind _ _ (steady-rows (rows d) (rows d) []) (λ results. steady-pure (last_of results)))

-- replacement
pub replacement-gives : (ar : List ℕ) (σ : ℕ → ℕ) (d : Diagram) → Gives (λ x. x ≡ replaced ar σ d) (replacement ar σ d)
unfolding replacement replaced
replacement-gives ar σ d =
    over-gives (λ l. pure (test_diagram (moved ar σ l))) (λ l. test_diagram (moved ar σ l)) (λ l. gives-pure (test_diagram (moved ar σ l)) refl) d

pub steady-replacement : (ar : List ℕ) (σ : ℕ → ℕ) (d : Diagram) → Steady (replacement ar σ d)
unfolding replacement
steady-replacement ar σ d = steady-over (λ l. pure (test_diagram (moved ar σ l))) (λ l. steady-pure (test_diagram (moved ar σ l))) d

-- T for a label
truth-from : (ar : List ℕ) (o : Option Diagram) (l : ℕ) → Gives (λ x. x ≡ truth_given ar o l) (truth_from ar o l)
unfolding truth_from truth_given
truth-from ar none l = gives-pure (label_test l) refl
truth-from ar (some d) l = replacement-gives ar (argument (terms_of ar (unpacked l))) d

steady-from : (ar : List ℕ) (o : Option Diagram) (l : ℕ) → Steady (truth_from ar o l)
unfolding truth_from
steady-from ar none l = steady-pure (label_test l)
steady-from ar (some d) l = steady-replacement ar (argument (terms_of ar (unpacked l))) d

pub truth-gives : (ar : List ℕ) (truths : Truths) (l : ℕ) → Gives (λ x. x ≡ truth_diagram ar truths l) (truth_at ar truths l)
unfolding truth_at truth_diagram
truth-gives ar truths l = truth-from ar (truth_of truths (predicate_of l)) l

pub steady-truth : (ar : List ℕ) (truths : Truths) (l : ℕ) → Steady (truth_at ar truths l)
unfolding truth_at
steady-truth ar truths l = steady-from ar (truth_of truths (predicate_of l)) l

-- regression
pub regression-gives : (ar : List ℕ) (truths : Truths) (d : Diagram) → Gives (λ x. x ≡ regressed_diagram ar truths d) (regression ar truths d)
unfolding regression regressed_diagram
regression-gives ar truths d = over-gives (truth_at ar truths) (truth_diagram ar truths) (truth-gives ar truths) d

-- an accepted regression is the diagram of `Result`, of at most 1,024 rows
pub record IsRegressed (ar : List ℕ) (truths : Truths) (d r : Diagram) : Type 0 where
  pub is : r ≡ regressed_diagram ar truths d
  pub few : length (rows r) ≤ most_rows

pub regressed-is : (ar : List ℕ) (truths : Truths) (d : Diagram) → Accepted (IsRegressed ar truths d) (regressed ar truths d)
unfolding regressed
regressed-is ar truths d = accepted-then (regression ar truths d []) ((regression-gives ar truths d).given []) (λ r h.
    accepted-cond (ltb most_rows (length (rows r.0))) Space (ok r.0) (λ e. accepted-ok (record { is = h; few = ltb-false _ _ e })))
