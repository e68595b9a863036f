-- Reduction leaves the value in every state, and leaves a closed-up diagram that has a listing.
use Rattle.std.specs.Prelude.{◌≡◌, refl, Bool, true, false, not, cond, ◌&&◌, List, [], ◌∷◌, ℕ, ◌≤◌, ◌<◌, length, eqb, ltb}
use Rattle.std.proofs.Common.{subst, arith}
use borrow.Author.Tests.{ltb-false, not-true, not-false}
use Rattle.refusal.specs.declared.Refusal.{Refusal}
use Rattle.refusal.specs.declared.Refusal.TheVariants.{Paths, Kinds, Runs, Combinations}
use Rattle.refusal.specs.Outcome.{ok, refused, Accepted}
use Rattle.basics.specs.Tests.{and_left, and_right, neither}
use Rattle.label.specs.Limits.{equality, constant_count, first_variable, first_minimum}
use Rattle.label.specs.Terms.{is_constant}
use Rattle.label.specs.Labels.{predicate_of, unpacked, terms_of}
use Rattle.diagram.specs.Diagram.{Diagram, leaf, branch, EveryLabel}
use Rattle.diagram.specs.Rows.{rows}
use Rattle.diagram.specs.Listing.{Good as Listed}
use Rattle.diagram.specs.Variables.{is_plain, closed}
use Rattle.rename.specs.ClosingLaws.{closed-good, closed-twice, closed-rows}
use Rattle.state.specs.Max.{none}
use Rattle.state.specs.State.{atom_of, meaning, State, Good}
use Rattle.state.specs.Terms.{Each, args, Terms}
use Rattle.state.specs.Highest.{Bound}
use Rattle.state.proofs.HighestLaws.{bound-tuple}
use Rattle.minimum.specs.Number.{Number, number}
use Rattle.minimum.proofs.NumberLaws.{number_is, number-equal}
use Rattle.minimum.proofs.PlainLaws.{fine-plain}
use Rattle.regression.specs.Parameters.{Allowed, Within}
use Rattle.regression.proofs.ResultLaws.{terms-every, every-terms}
use Rattle.paths.specs.Paths.{paths, most_paths}
use Rattle.cutting.specs.Cut.{reduced}
use Rattle.reduction.specs.Combinations.{some_of, formed, winners}
use Rattle.reduction.specs.Reduction.{is_on, keeping, reduced_diagram, is_general, has_kinds, runs, most_runs, most_formed, reduce_answer}
use Rattle.reduction.specs.Inner.{ReductionAnswered}
use Rattle.reduction.specs.Claims.{Values}
use Rattle.reduction.proofs.KeepingLaws.{keeping-every, keeping-good, keeping-few, reduced-every}
use Rattle.reduction.proofs.ModelLaws.{Varied, keeping-number}
use Rattle.reduction.proofs.ClosedLaws.{within-closed, closed-number}

-- ===== What is not refused =====

-- without constants and parameters every term is a variable
each-varied : (ts : List ℕ) → some_of is_constant ts ≡ false → Each (Allowed 0) ts → Each (λ t. first_variable ≤ t) ts
each-varied [] e w = tt
each-varied (t ∷ ts) e w =
    let n = neither (is_constant t) (some_of is_constant ts) e in
    (w.0 (unfold is_constant in omega (arith, ltb-false t constant_count n.0)), each-varied ts n.1 w.1)

general-every : (ar : List ℕ) (d : Diagram) → is_general ar d ≡ true → EveryLabel (λ l. Each (Allowed 0) (args (atom_of ar l))) d → EveryLabel (Varied ar) d
unfolding is_general atom_of
general-every ar (leaf v) e w = tt
general-every ar (branch l t f) e w =
    let x = and_right (not (eqb (predicate_of l) equality)) _ e in
    let y = and_right (not (some_of is_constant (terms_of ar (unpacked l)))) _ x in (
      each-varied (terms_of ar (unpacked l)) (not-true (some_of is_constant (terms_of ar (unpacked l))) (and_left _ (is_general ar t && is_general ar f) x)) w.0,
      general-every ar t (and_left (is_general ar t) (is_general ar f) y) w.1,
      general-every ar f (and_right (is_general ar t) (is_general ar f) y) w.2,
    )

pub general-varied : (ar : List ℕ) (d : Diagram) → is_general ar d ≡ true → Within 0 (meaning ar d) → EveryLabel (Varied ar) d
general-varied ar d e w = general-every ar d e (terms-every (Allowed 0) ar d w.terms)

-- neither equality nor a constant, and no minimum variable
pub kinds-none : (ar : List ℕ) (d : Diagram) → has_kinds ar d ≡ false → (is_general ar d ≡ true) × (is_plain ar d ≡ true)
unfolding has_kinds
kinds-none ar d e =
    let q = not-false (is_general ar d && is_plain ar d) e in
    (and_left (is_general ar d) (is_plain ar d) q, and_right (is_general ar d) (is_plain ar d) q)

pub answered : (ar : List ℕ) (d r : Diagram) → reduce_answer ar d ≡ ok r → ReductionAnswered ar d r
unfolding reduce_answer
answered ar d r e = go (ltb most_paths (length (paths d))) refl (has_kinds ar d) refl (ltb most_runs (runs ar d)) refl (ltb most_formed (formed ar d)) refl e
  where
    not-refused : (n : Refusal) → refused n ≡ ok r → ⊥
    not-refused n z = let f : ◌≡◌ {A = ℕ} 0 1 = cc in omega arith

    go : (a : Bool) → ltb most_paths (length (paths d)) ≡ a → (b : Bool) → has_kinds ar d ≡ b → (c : Bool) → ltb most_runs (runs ar d) ≡ c
        → (x : Bool) → ltb most_formed (formed ar d) ≡ x
        → cond a (refused Paths) (cond b (refused Kinds) (cond c (refused Runs) (cond x (refused Combinations) (ok (reduced_diagram ar d))))) ≡ ok r → ReductionAnswered ar d r
    go true p b q c u x v z = absurd (not-refused Paths z)
    go false p true q c u x v z = absurd (not-refused Kinds z)
    go false p false q true u x v z = absurd (not-refused Runs z)
    go false p false q false u true v z = absurd (not-refused Combinations z)
    go false p false q false u false v z = record {
      paths-few = ltb-false most_paths (length (paths d)) p;
      general = (kinds-none ar d q).0;
      plain = (kinds-none ar d q).1;
      runs-few = ltb-false most_runs (runs ar d) u;
      formed-few = ltb-false most_formed (formed ar d) v;
      is = cc;
    }

-- ===== The result =====
module _ (ar : List ℕ) (d : Diagram) (listed : Listed ar d) (few : length (paths d) ≤ most_paths) where
  abbrev kept : Diagram
  kept = reduced (keeping (is_on d (winners ar d)) d)

  kept-good : Listed ar kept
  kept-good = keeping-good (is_on d (winners ar d)) ar d listed few

  pub reduced-listed : Listed ar (reduced_diagram ar d)
  unfolding reduced_diagram
  reduced-listed = closed-good ar kept kept-good

  pub reduced-closed : closed ar (reduced_diagram ar d) ≡ reduced_diagram ar d
  unfolding reduced_diagram
  reduced-closed = closed-twice ar kept kept-good

  -- so that 9 is never met
  pub reduced-few : length (rows (reduced_diagram ar d)) ≤ 511
  unfolding reduced_diagram
  reduced-few = omega (arith, closed-rows ar kept kept-good, keeping-few (is_on d (winners ar d)) d few)

  -- the terms that are left are terms of the diagram
  kept-terms : (P : ℕ → Type 0) → Terms P (meaning ar d) → Terms P (meaning ar kept)
  kept-terms P w = every-terms P ar kept
      (reduced-every (λ l. Each P (args (atom_of ar l))) (keeping (is_on d (winners ar d)) d)
      (keeping-every (is_on d (winners ar d)) (λ l. Each P (args (atom_of ar l))) d (terms-every P ar d w)))

  pub reduced-within : Within 0 (meaning ar d) → Within 0 (meaning ar (reduced_diagram ar d))
  unfolding reduced_diagram
  reduced-within w = within-closed 0 ar kept kept-good (record { terms = kept-terms (Allowed 0) w.terms })

  -- whatever is the number of the diagram is that of the result, in every state
  pub reduced-number : is_general ar d ≡ true → is_plain ar d ≡ true → Within 0 (meaning ar d) → (s : State) (os : List ℕ) (x : ℕ)
      → Number s os (meaning ar d) x → Number s os (meaning ar (reduced_diagram ar d)) x
  unfolding reduced_diagram
  reduced-number e p w s os x m =
      let plain = fine-plain ar d listed.fine p in
      closed-number ar kept kept-good s os x (keeping-number ar d plain (general-varied ar d e w) (kept-terms (λ t. t < first_minimum) plain) s os x m)

-- ===== The theorems =====

-- "The value is the same in every state"
pub reduce-keeps : (ar : List ℕ) (d r : Diagram) → Listed ar d → Within 0 (meaning ar d) → reduce_answer ar d ≡ ok r
    → (s : State) → Good s → number s [] (meaning ar r) ≡ number s [] (meaning ar d)
reduce-keeps ar d r listed w e s good =
    let a = answered ar d r e in
    let b : Bound s [] = bound-tuple good none in
    let h = reduced-number ar d listed a.paths-few a.general a.plain w s [] (number s [] (meaning ar d)) (number_is s [] good b (meaning ar d)) in
    number-equal s [] good b (meaning ar r) (number s [] (meaning ar d)) (subst (λ (x : Diagram). Number s [] (meaning ar x) (number s [] (meaning ar d))) a.is h)

-- so that "lists of backups and cuts may now hold reductions anywhere"
pub reduce-is : (ar : List ℕ) (y : State → ℕ) (d : Diagram) → Values ar y d → Accepted (Values ar y) (reduce_answer ar d)
reduce-is ar y d v = record { given = values }
  where
    values : (r : Diagram) → reduce_answer ar d ≡ ok r → Values ar y r
    values r e =
        let a = answered ar d r e in
        subst (Values ar y) a.is (record {
          listed = reduced-listed ar d v.listed a.paths-few;
          is-closed = reduced-closed ar d v.listed a.paths-few;
          within = reduced-within ar d v.listed a.paths-few v.within;
          numbers = λ s g. reduced-number ar d v.listed a.paths-few a.general a.plain v.within s [] (y s) (v.numbers s g);
        })
