-- Combinations and closing up name nothing new.
use Rattle.std.specs.Prelude.{◌≡◌, ◌⊎◌, Bool, true, false, List, ℕ, ◌+◌, ◌≤◌, ◌<◌, get_or, eqb, ltb}
use Rattle.std.proofs.Math.Path.{refl}
use Rattle.std.proofs.Common.{sym, ap, subst, inl, inr, arith, ltb-false}
use Rattle.std.proofs.Math.ListN.{length}
use Rattle.basics.specs.Tests.{Cmp, below, equal, above, cmp, neither}
use Rattle.basics.specs.Members.{mem}
use Rattle.refusal.specs.Outcome.{Accepted}
use Rattle.refusal.specs.OutcomeLaws.{accepted-ok, accepted-refused}
use Rattle.label.specs.Limits.{first_variable, variable_count, first_minimum, minimum_count, term_end}
use Rattle.label.specs.Terms.{is_term}
use Rattle.label.specs.Labels.{are_arities, predicate_of, unpacked, terms_of}
use Rattle.label.proofs.LabelLaws.{term-below}
use Rattle.label.specs.Inner.{Increasing, Numbered}
use Rattle.label.specs.Renamings.{mapped, renamed, numbering, EachIn}
use Rattle.label.proofs.RenamingLaws.{renamed-atom, renamed-label, renamed-terms, numbering-low, numbering-variable, numbering-minimum, numbering-increasing}
use Rattle.label.specs.declared.Atom.{Atom}
use Rattle.diagram.specs.Diagram.{Diagram, leaf, branch, relabel, EveryLabel}
use Rattle.diagram.specs.Variables.{occurs, variables, minimums, closed_from, closed, after}
use Rattle.diagram.specs.Rows.{rows}
use Rattle.diagram.specs.RowLists.{row_tree}
use Rattle.rename.specs.Inner.{KindsFit}
use Rattle.rename.specs.Relabelling.{Terms}
use Rattle.rename.specs.TermLaws.{label-terms}
use Rattle.rename.specs.VariableLaws.{occurs-terms, terms-each-occurs, occurs-variable, variables-few, occurs-minimum, minimums-few}
use Rattle.rename.specs.ClosingLaws.{after-fit}
use Rattle.apply.specs.declared.Operation.{Operation}
use Rattle.apply.specs.declared.Names.{Names}
use Rattle.apply.specs.declared.Names.TheVariants.{Apart, Shared}
use Rattle.apply.specs.declared.Combined.{Combined}
use Rattle.apply.specs.declared.Combined.TheVariants.{Done, Refused}
use Rattle.apply.specs.Apply.{apply}
use Rattle.apply.proofs.GoodLaws.{every-apply}
use Rattle.apply.specs.Combination.{operate, combination, diagram_answer, done_as, too_many}
use Rattle.apply.proofs.CombinationLaws.{done-accepted}
use Rattle.state.specs.State.{atom_of}
use Rattle.state.specs.Terms.{Each}
use Rattle.state.proofs.ValueLaws.{Each-map, Each-mono}
use Rattle.regression.proofs.FreeCallLaws.{each_in}
use Rattle.cutting.specs.Cut.{reduced, cut_at, cut_diagram}
use Rattle.reduction.specs.Combinations.{winners}
use Rattle.reduction.specs.Reduction.{is_on, keeping, reduced_diagram}
use Rattle.reduction.proofs.KeepingLaws.{keeping-every, reduced-every}
use Rattle.mdp.specs.Backup.{given, combined}
use Rattle.mdp.proofs.CutLaws.{every-cut}
use Rattle.declared.specs.Proper.{Proper, AllProper}

-- ===== Labels one by one =====

pub every-mono : (P Q : ℕ → Type 0) → ((l : ℕ) → P l → Q l) → (d : Diagram) → EveryLabel P d → EveryLabel Q d
every-mono P Q h (leaf v) w = tt
every-mono P Q h (branch l t f) w = (h l w.0, every-mono P Q h t w.1, every-mono P Q h f w.2)

pub proper-mono : (ar : List ℕ) (p : ℕ) (P Q : ℕ → Type 0) → ((t : ℕ) → P t → Q t) → (d : Diagram) → AllProper ar p P d → AllProper ar p Q d
proper-mono ar p P Q h = every-mono (Proper ar p P) (Proper ar p Q) (λ l w. record {
  is-label = w.is-label;
  predicate = w.predicate;
  terms = Each-mono P Q h (terms_of ar (unpacked l)) w.terms;
})

pub proper-terms : (ar : List ℕ) (p : ℕ) (P : ℕ → Type 0) (d : Diagram) → AllProper ar p P d → Terms ar P d
unfolding atom_of
proper-terms ar p P (leaf v) w = tt
proper-terms ar p P (branch l t f) w = (each_in P ar l w.0.terms, proper-terms ar p P t w.1, proper-terms ar p P f w.2)

term-terms : (ar : List ℕ) (p : ℕ) (P : ℕ → Type 0) (d : Diagram) → AllProper ar p P d → Terms ar (λ t. is_term t ≡ true) d
term-terms ar p P (leaf v) w = tt
term-terms ar p P (branch l t f) w = (label-terms ar l w.0.is-label, term-terms ar p P t w.1, term-terms ar p P f w.2)

-- a term that occurs is a term
pub proper-term : (ar : List ℕ) (p : ℕ) (P : ℕ → Type 0) (d : Diagram) → AllProper ar p P d → (t : ℕ) → occurs ar t d ≡ true → (is_term t ≡ true) × P t
proper-term ar p P d w t o = (occurs-terms ar (λ u. is_term u ≡ true) d t (term-terms ar p P d w) o, occurs-terms ar P d t (proper-terms ar p P d w) o)

-- ===== Labels renamed in their order =====

same-predicate : (k l : ℕ) (ρ : ℕ → ℕ) (n : ℕ) → unpacked k ≡ mapped ρ n (unpacked l) → predicate_of k ≡ predicate_of l
unfolding unpacked predicate_of mapped
same-predicate k l ρ n e = ap (λ (a : Atom). a.predicate) e

module _ (ar : List ℕ) (good : are_arities ar ≡ true) (p : ℕ) (P Q R : ℕ → Type 0) (ρ : ℕ → ℕ) (inc : Increasing R ρ) (gives : (t : ℕ) → P t → Q (ρ t)) where
  label-renamed : (l : ℕ) → EachIn ar R l → Proper ar p P l → Proper ar p Q (renamed ar ρ l)
  label-renamed l r w = record {
    is-label = renamed-label R ρ inc ar good l w.is-label r;
    predicate =
        subst (λ (q : ℕ). q ≤ p) (sym (same-predicate (renamed ar ρ l) l ρ (get_or ar (predicate_of l) 0) (renamed-atom R ρ inc ar good l w.is-label r))) w.predicate;
    terms = subst (Each Q) (sym (renamed-terms R ρ inc ar good l w.is-label r)) (Each-map P Q ρ gives (terms_of ar (unpacked l)) w.terms);
  }

  pub proper-renamed : (d : Diagram) → Terms ar R d → AllProper ar p P d → AllProper ar p Q (relabel (renamed ar ρ) d)
  unfolding relabel
  proper-renamed (leaf v) r w = tt
  proper-renamed (branch l t f) r w = (label-renamed l r.0 w.0, proper-renamed t r.1 w.1, proper-renamed f r.2 w.2)

-- ===== Closing up =====

module _ (ar : List ℕ) (good : are_arities ar ≡ true) (p : ℕ) (P : ℕ → Type 0) (free : (t : ℕ) → first_variable ≤ t → P t) where
  numbered : (d : Diagram) → AllProper ar p P d → Terms ar (Numbered (variables ar d) (minimums ar d)) d
  numbered d w = terms-each-occurs ar (Numbered (variables ar d) (minimums ar d)) d (λ t o. let e = (proper-term ar p P d w t o).0 in (e, place t o (term-below t e) (cmp t first_variable)))
    where
      Kind : ℕ → Type 0
      Kind t = ((t < first_minimum) × (mem eqb t (variables ar d) ≡ true)) ⊎ ((first_minimum ≤ t) × (mem eqb t (minimums ar d) ≡ true))

      high : (t : ℕ) → occurs ar t d ≡ true → t < term_end → first_variable ≤ t → Cmp t first_minimum → Kind t
      high t o b h (below k) = inl (k, occurs-variable ar d t o h k)
      high t o b h (equal k) = inr (omega arith, occurs-minimum ar d t o (omega arith) b)
      high t o b h (above k) = inr (omega arith, occurs-minimum ar d t o (omega arith) b)

      place : (t : ℕ) → occurs ar t d ≡ true → t < term_end → Cmp t first_variable → (t < first_variable) ⊎ Kind t
      place t o b (below h) = inl h
      place t o b (equal h) = inr (high t o b (omega arith) (cmp t first_minimum))
      place t o b (above h) = inr (high t o b (omega arith) (cmp t first_minimum))

  numbering-in : (us vs : List ℕ) (m n : ℕ) → first_variable ≤ m → first_minimum ≤ n → (t : ℕ) → P t → P (numbering us vs m n t)
  numbering-in us vs m n from least t h = go (cmp t first_variable) (cmp t first_minimum)
    where
      last : first_minimum ≤ t → P (numbering us vs m n t)
      last k = subst P (sym (numbering-minimum us vs m n t k)) (free _ (omega arith))

      high : first_variable ≤ t → Cmp t first_minimum → P (numbering us vs m n t)
      high k (below l) = subst P (sym (numbering-variable us vs m n t k l)) (free _ (omega arith))
      high k (equal l) = last (omega arith)
      high k (above l) = last (omega arith)

      go : Cmp t first_variable → Cmp t first_minimum → P (numbering us vs m n t)
      go (below k) l = subst P (sym (numbering-low us vs m n t k)) h
      go (equal k) l = high (omega arith) l
      go (above k) l = high (omega arith) l

  closed_from-proper : (m n : ℕ) (d : Diagram) → KindsFit ar m n d → AllProper ar p P d → AllProper ar p P (closed_from ar m n d)
  unfolding closed_from
  closed_from-proper m n d fit w =
      let us = variables ar d in
      let vs = minimums ar d in
      proper-renamed ar good p P P (Numbered us vs) (numbering us vs m n)
      (numbering-increasing us vs m n fit.variables-from fit.variables-end fit.minimums-from fit.minimums-end)
      (numbering-in us vs m n fit.variables-from fit.minimums-from) d (numbered d w) w

  pub closed-proper : (d : Diagram) → AllProper ar p P d → AllProper ar p P (closed ar d)
  unfolding closed
  closed-proper d w = closed_from-proper first_variable first_minimum d (record {
    variables-from = omega arith;
    variables-end = omega (arith, variables-few ar d);
    minimums-from = omega arith;
    minimums-end = omega (arith, minimums-few ar d);
  }) w

  -- ===== Combination =====

  combination-proper : (op : Operation) (names : Names) (a b : Diagram) → too_many names ar a b ≡ false → AllProper ar p P a → AllProper ar p P b
      → AllProper ar p P (combination op names ar a b)
  unfolding combination after
  combination-proper op Shared a b e x y = every-apply (operate op) (Proper ar p P) a b x y
  combination-proper op Apart a b e x y =
      let v = length (variables ar a) + length (variables ar b) in
      let u = length (minimums ar a) + length (minimums ar b) in
      let few = neither (ltb variable_count v) (ltb minimum_count u) e in
      closed-proper (apply (operate op) (closed ar a) (after ar a b))
      (every-apply (operate op) (Proper ar p P) (closed ar a) (after ar a b) (closed-proper a x)
      (closed_from-proper (first_variable + length (variables ar a)) (first_minimum + length (minimums ar a)) b
      (after-fit ar a b (ltb-false variable_count v few.0) (ltb-false minimum_count u few.1)) y))

  pub combined-proper : (op : Operation) (names : Names) (a b : Diagram) → AllProper ar p P a → AllProper ar p P b → Accepted (AllProper ar p P) (combined op names ar a b)
  unfolding combined
  combined-proper op names a b x y = go (done_as op names ar a b) (diagram_answer op (done_as op names ar a b) ar a b) refl
    where
      go : (done : Names) (o : Combined) → diagram_answer op done ar a b ≡ o → Accepted (AllProper ar p P) (given o (combination op done ar a b))
      go done (Done n m) e = accepted-ok (combination-proper op done a b (done-accepted op done ar a b n m e).variables x y)
      go done (Refused r) e = accepted-refused

  -- ===== Edges that go: cuts and reductions =====

  pub cut-proper : (d : Diagram) (k : ℕ) (b : Bool) → AllProper ar p P d → AllProper ar p P (cut_diagram ar d k b)
  unfolding cut_diagram
  cut-proper d k b w =
      let r = row_tree (rows d) k in
      closed-proper (reduced (cut_at r b d)) (reduced-every (Proper ar p P) (cut_at r b d) (every-cut (Proper ar p P) r b d w))

  pub reduced-proper : (d : Diagram) → AllProper ar p P d → AllProper ar p P (reduced_diagram ar d)
  unfolding reduced_diagram
  reduced-proper d w =
      let stays = is_on d (winners ar d) in
      closed-proper (reduced (keeping stays d)) (reduced-every (Proper ar p P) (keeping stays d) (keeping-every stays (Proper ar p P) d w))
