-- Laws of the terms and the variables of a diagram, and of diagrams whose terms are renamed in their order.
use Rattle.std.specs.Prelude.{◌≡◌, ◌⊎◌, ◌||◌, cond, List, ◌∷◌, map, ℕ, zero, suc, ◌+◌, ◌≤◌, ◌<◌, length}
use Rattle.std.proofs.Math.Path.{refl}
use Rattle.std.proofs.Common.{sym, inl, inr, arith, eqb-true, eq-eqb}
use Rattle.std.proofs.Math.Bool.{true}
use Rattle.std.proofs.Math.Dec.{eqb}
use Rattle.basics.specs.Tests.{Flag, is_true, is_false, flag, Either, one, other, either, or-one, or-other, Cmp, below, equal, above, cmp}
use Rattle.basics.specs.Members.{mem, clash}
use Rattle.label.specs.Limits.{first_variable, variable_count, first_minimum, minimum_count, term_end}
use Rattle.label.specs.Terms.{is_term}
use Rattle.label.specs.Labels.{are_arities, unpacked, terms_of}
use Rattle.label.specs.Inner.{Increasing, Numbered}
use Rattle.label.specs.Renamings.{renamed, EachIn}
use Rattle.label.proofs.LabelLaws.{term-below}
use Rattle.label.proofs.RenamingLaws.{renamed-label, renamed-less, renamed-terms}
use Rattle.diagram.specs.Diagram.{Diagram, leaf, branch, relabel, EveryLabel}
use Rattle.diagram.specs.Rows.{rows}
use Rattle.diagram.specs.Listing.{listing, Fine, Good}
use Rattle.diagram.specs.RowDiagrams.{not-mark}
use Rattle.diagram.specs.Variables.{occurs, occurring, variables, minimums}
use Rattle.rename.specs.Inner.{Named, Keeps, relabelled}
use Rattle.rename.specs.Relabelling.{Terms}
use Rattle.rename.specs.RelabelLaws.{labels-weaken, relabel-ordered, relabel-reduced, relabel-count, relabel-listing}
use Rattle.rename.specs.Ascending.{Ascending}
use Rattle.rename.specs.AscendingLaws.{Source, map-mem, mem-map, ascending-weaken}
use Rattle.rename.specs.TermLaws.{each_weaken, each-mem, mem-each, label-terms}

-- the terms of a diagram
pub terms-weaken : (ar : List ℕ) (P R : ℕ → Type 0) (d : Diagram) → ((t : ℕ) → P t → R t) → Terms ar P d → Terms ar R d
terms-weaken ar P R d h q = labels-weaken (EachIn ar P) (EachIn ar R) d (λ l e. each_weaken P R _ _ h e) q

pub terms-occur : (ar : List ℕ) (d : Diagram) → Terms ar (λ t. occurs ar t d ≡ true) d
unfolding occurs
terms-occur ar (leaf v) = tt
terms-occur ar (branch l x y) = (
  each_weaken _ _ _ _ (λ t e. or-one _ _ e) (each-mem ar l),
  terms-weaken ar _ _ x (λ t e. or-other (mem eqb t (terms_of ar (unpacked l))) _ (or-one _ _ e)) (terms-occur ar x),
  terms-weaken ar _ _ y (λ t e. or-other (mem eqb t (terms_of ar (unpacked l))) _ (or-other (occurs ar t x) _ e)) (terms-occur ar y),
)

pub occurs-terms : (ar : List ℕ) (P : ℕ → Type 0) (d : Diagram) (t : ℕ) → Terms ar P d → occurs ar t d ≡ true → P t
unfolding occurs
occurs-terms ar P (leaf v) t q e = clash e refl
occurs-terms ar P (branch l x y) t q e = go (either (mem eqb t (terms_of ar (unpacked l))) _ e) (occurs-terms ar P x t q.1) (occurs-terms ar P y t q.2)
  where
    go : Either (mem eqb t (terms_of ar (unpacked l))) (occurs ar t x || occurs ar t y) → (occurs ar t x ≡ true → P t) → (occurs ar t y ≡ true → P t) → P t
    go (one p) i j = mem-each ar P l t q.0 p
    go (other p) i j = inner (either (occurs ar t x) _ p)
      where
        inner : Either (occurs ar t x) (occurs ar t y) → P t
        inner (one r) = i r
        inner (other r) = j r

-- what is true of every term that occurs
pub terms-each-occurs : (ar : List ℕ) (P : ℕ → Type 0) (d : Diagram) → ((t : ℕ) → occurs ar t d ≡ true → P t) → Terms ar P d
terms-each-occurs ar P d h = terms-weaken ar (λ t. occurs ar t d ≡ true) P d h (terms-occur ar d)

pub fine-terms : (ar : List ℕ) (d : Diagram) → Fine ar d → Terms ar (λ t. is_term t ≡ true) d
fine-terms ar (leaf v) f = tt
fine-terms ar (branch l x y) f = (label-terms ar l f.0, fine-terms ar x f.1, fine-terms ar y f.2)

pub occurs-term : (ar : List ℕ) (d : Diagram) (t : ℕ) → Fine ar d → occurs ar t d ≡ true → is_term t ≡ true
occurs-term ar d t f e = occurs-terms ar (λ t. is_term t ≡ true) d t (fine-terms ar d f) e

pub named-labels : (ar : List ℕ) (P : ℕ → Type 0) (d : Diagram) → Fine ar d → Terms ar P d → EveryLabel (Named ar P) d
named-labels ar P (leaf v) f q = tt
named-labels ar P (branch l x y) f q = ((f.0, q.0), named-labels ar P x f.1 q.1, named-labels ar P y f.2 q.2)

-- those of n terms that occur: the laws of one kind of variables, whose numbers are the n from t on
pub in-occurring : (ar : List ℕ) (d : Diagram) (t n u : ℕ) → mem eqb u (occurring ar d t n) ≡ true → (occurs ar u d ≡ true) × (t ≤ u) × (u < t + n)
unfolding occurring
in-occurring ar d t zero u e = clash e refl
in-occurring ar d t (suc n) u e = go (flag (occurs ar t d)) (in-occurring ar d (suc t) n u)
  where
    later : (mem eqb u (occurring ar d (suc t) n) ≡ true → (occurs ar u d ≡ true) × (suc t ≤ u) × (u < suc t + n)) → mem eqb u (occurring ar d (suc t) n) ≡ true
        → (occurs ar u d ≡ true) × (t ≤ u) × (u < t + suc n)
    later ih q = let h = ih q in (h.0, omega arith, omega arith)

    first : Either (eqb u t) (mem eqb u (occurring ar d (suc t) n)) → occurs ar t d ≡ true
        → (mem eqb u (occurring ar d (suc t) n) ≡ true → (occurs ar u d ≡ true) × (suc t ≤ u) × (u < suc t + n)) → (occurs ar u d ≡ true) × (t ≤ u) × (u < t + suc n)
    first (one q) p ih = let z = eqb-true u t q in (rw z p, omega arith, omega arith)
    first (other q) p ih = later ih q

    go : Flag (occurs ar t d) → (mem eqb u (occurring ar d (suc t) n) ≡ true → (occurs ar u d ≡ true) × (suc t ≤ u) × (u < suc t + n))
        → (occurs ar u d ≡ true) × (t ≤ u) × (u < t + suc n)
    go (is_true p) ih = first (either (eqb u t) _ (rw p at e)) p ih
    go (is_false p) ih = later ih (rw p at e)

pub occurring-in : (ar : List ℕ) (d : Diagram) (t n u : ℕ) → occurs ar u d ≡ true → t ≤ u → u < t + n → mem eqb u (occurring ar d t n) ≡ true
unfolding occurring
occurring-in ar d t zero u e h k = absurd (omega arith)
occurring-in ar d t (suc n) u e h k = go (flag (occurs ar t d)) (cmp t u) (occurring-in ar d (suc t) n u e)
  where
    go : Flag (occurs ar t d) → Cmp t u → (suc t ≤ u → u < suc t + n → mem eqb u (occurring ar d (suc t) n) ≡ true)
        → mem eqb u (cond (occurs ar t d) (t ∷ occurring ar d (suc t) n) (occurring ar d (suc t) n)) ≡ true
    go (is_true p) (below q) ih = rw p (or-other (eqb u t) _ (ih q (omega arith)))
    go (is_true p) (equal q) ih = rw p (or-one _ _ (eq-eqb u t (sym q)))
    go (is_true p) (above q) ih = absurd (omega arith)
    go (is_false p) (below q) ih = rw p (ih q (omega arith))
    go (is_false p) (equal q) ih = clash e (rw (← q) p)
    go (is_false p) (above q) ih = absurd (omega arith)

pub occurring-ascending : (ar : List ℕ) (d : Diagram) (t n : ℕ) → Ascending t (occurring ar d t n)
unfolding occurring
occurring-ascending ar d t zero = tt
occurring-ascending ar d t (suc n) = go (flag (occurs ar t d)) (occurring-ascending ar d (suc t) n)
  where
    go : Flag (occurs ar t d) → Ascending (suc t) (occurring ar d (suc t) n) → Ascending t (cond (occurs ar t d) (t ∷ occurring ar d (suc t) n) (occurring ar d (suc t) n))
    go (is_true p) ih = rw p (omega arith, ih)
    go (is_false p) ih = rw p (ascending-weaken t (suc t) (occurring ar d (suc t) n) (omega arith) ih)

pub length-occurring : (ar : List ℕ) (d : Diagram) (t n : ℕ) → length (occurring ar d t n) ≤ n
unfolding occurring
length-occurring ar d t zero = omega arith
length-occurring ar d t (suc n) = go (flag (occurs ar t d)) (length-occurring ar d (suc t) n)
  where
    go : Flag (occurs ar t d) → length (occurring ar d (suc t) n) ≤ n → length (cond (occurs ar t d) (t ∷ occurring ar d (suc t) n) (occurring ar d (suc t) n)) ≤ suc n
    go (is_true p) ih = rw p (omega arith)
    go (is_false p) ih = rw p (omega arith)

-- the laws of `variables` and `minimums`: nothing else unfolds them
module _ (ar : List ℕ) (d : Diagram) where
  pub variable-occurs : (t : ℕ) → mem eqb t (variables ar d) ≡ true → (occurs ar t d ≡ true) × (first_variable ≤ t) × (t < first_minimum)
  unfolding variables
  variable-occurs t e = in-occurring ar d first_variable variable_count t e

  pub occurs-variable : (t : ℕ) → occurs ar t d ≡ true → first_variable ≤ t → t < first_minimum → mem eqb t (variables ar d) ≡ true
  unfolding variables
  occurs-variable t e h k = occurring-in ar d first_variable variable_count t e h k

  pub variables-ascending : Ascending first_variable (variables ar d)
  unfolding variables
  variables-ascending = occurring-ascending ar d first_variable variable_count

  pub variables-few : length (variables ar d) ≤ variable_count
  unfolding variables
  variables-few = length-occurring ar d first_variable variable_count

  pub minimum-occurs : (t : ℕ) → mem eqb t (minimums ar d) ≡ true → (occurs ar t d ≡ true) × (first_minimum ≤ t) × (t < term_end)
  unfolding minimums
  minimum-occurs t e = in-occurring ar d first_minimum minimum_count t e

  pub occurs-minimum : (t : ℕ) → occurs ar t d ≡ true → first_minimum ≤ t → t < term_end → mem eqb t (minimums ar d) ≡ true
  unfolding minimums
  occurs-minimum t e h k = occurring-in ar d first_minimum minimum_count t e h k

  pub minimums-few : length (minimums ar d) ≤ minimum_count
  unfolding minimums
  minimums-few = length-occurring ar d first_minimum minimum_count

  -- each term that occurs is a constant, a parameter, or one of the variables of its kind
  pub occurs-numbered : Fine ar d → (t : ℕ) → occurs ar t d ≡ true → Numbered (variables ar d) (minimums ar d) t
  occurs-numbered f t e = (occurs-term ar d t f e, go (cmp t first_variable) (cmp t first_minimum))
    where
      least : first_minimum ≤ t → (first_minimum ≤ t) × (mem eqb t (minimums ar d) ≡ true)
      least h = (h, occurs-minimum t e h (term-below t (occurs-term ar d t f e)))

      high : first_variable ≤ t → Cmp t first_minimum
          → (t < first_variable) ⊎ (((t < first_minimum) × (mem eqb t (variables ar d) ≡ true)) ⊎ ((first_minimum ≤ t) × (mem eqb t (minimums ar d) ≡ true)))
      high h (below k) = inr (inl (k, occurs-variable t e h k))
      high h (equal k) = inr (inr (least (omega arith)))
      high h (above k) = inr (inr (least (omega arith)))

      go : Cmp t first_variable → Cmp t first_minimum
          → (t < first_variable) ⊎ (((t < first_minimum) × (mem eqb t (variables ar d) ≡ true)) ⊎ ((first_minimum ≤ t) × (mem eqb t (minimums ar d) ≡ true)))
      go (below h) k = inl h
      go (equal h) k = high (omega arith) k
      go (above h) k = high (omega arith) k

  pub terms-numbered : Fine ar d → Terms ar (Numbered (variables ar d) (minimums ar d)) d
  terms-numbered f = terms-each-occurs ar (Numbered (variables ar d) (minimums ar d)) d (occurs-numbered f)

-- a term that ρ gives for one of d
pub record Origin (ar : List ℕ) (ρ : ℕ → ℕ) (d : Diagram) (t : ℕ) : Type 0 where
  pub origin : ℕ
  pub occurring : occurs ar origin d ≡ true
  pub gives : ρ origin ≡ t

-- a diagram whose terms are renamed in their order
module _ (ar : List ℕ) (good : are_arities ar ≡ true) (P : ℕ → Type 0) (ρ : ℕ → ℕ) (inc : Increasing P ρ) where
  pub renaming-keeps : Keeps (Named ar P) (renamed ar ρ)
  renaming-keeps = record { order = λ l k p q h. renamed-less P ρ inc ar good l k p.0 q.0 p.1 q.1 h }

  pub renaming-fine : (d : Diagram) → Fine ar d → Terms ar P d → Fine ar (relabel (renamed ar ρ) d)
  unfolding relabel
  renaming-fine (leaf v) f q = f
  renaming-fine (branch l x y) f q = (renamed-label P ρ inc ar good l f.0 q.0, renaming-fine x f.1 q.1, renaming-fine y f.2 q.2)

  pub renaming-good : (d : Diagram) → Good ar d → Terms ar P d → Good ar (relabel (renamed ar ρ) d)
  renaming-good d g q =
      let n = named-labels ar P d g.fine q in
      record {
        arities = good;
        ordered = relabel-ordered (Named ar P) (renamed ar ρ) renaming-keeps d n g.ordered;
        reduced = relabel-reduced (Named ar P) (renamed ar ρ) renaming-keeps d n g.reduced;
        fine = renaming-fine d g.fine q;
        few = rw (relabel-count (Named ar P) (renamed ar ρ) renaming-keeps d n) g.few;
      }

  pub renaming-rows : (d : Diagram) → Fine ar d → Terms ar P d → length (rows (relabel (renamed ar ρ) d)) ≡ length (rows d)
  renaming-rows d f q = relabel-count (Named ar P) (renamed ar ρ) renaming-keeps d (named-labels ar P d f q)

  pub renaming-listing : (d : Diagram) → Fine ar d → Terms ar P d → listing (relabel (renamed ar ρ) d) ≡ relabelled (renamed ar ρ) (listing d)
  renaming-listing d f q = relabel-listing (Named ar P) (renamed ar ρ) renaming-keeps (λ l p. not-mark ar l p.0) d (named-labels ar P d f q)

  -- the terms are those that ρ gives
  pub occurs-renaming : (d : Diagram) (t : ℕ) → Fine ar d → Terms ar P d → occurs ar t d ≡ true → occurs ar (ρ t) (relabel (renamed ar ρ) d) ≡ true
  unfolding relabel occurs
  occurs-renaming (leaf v) t f q e = clash e refl
  occurs-renaming (branch l x y) t f q e =
      rw (renamed-terms P ρ inc ar good l f.0 q.0)
      (go (either (mem eqb t (terms_of ar (unpacked l))) _ e) (occurs-renaming x t f.1 q.1) (occurs-renaming y t f.2 q.2))
    where
      deeper : Either (occurs ar t x) (occurs ar t y) → (occurs ar t x ≡ true → occurs ar (ρ t) (relabel (renamed ar ρ) x) ≡ true)
          → (occurs ar t y ≡ true → occurs ar (ρ t) (relabel (renamed ar ρ) y) ≡ true)
          → (occurs ar (ρ t) (relabel (renamed ar ρ) x) || occurs ar (ρ t) (relabel (renamed ar ρ) y)) ≡ true
      deeper (one r) i j = or-one _ _ (i r)
      deeper (other r) i j = or-other (occurs ar (ρ t) (relabel (renamed ar ρ) x)) _ (j r)

      go : Either (mem eqb t (terms_of ar (unpacked l))) (occurs ar t x || occurs ar t y) → (occurs ar t x ≡ true → occurs ar (ρ t) (relabel (renamed ar ρ) x) ≡ true)
          → (occurs ar t y ≡ true → occurs ar (ρ t) (relabel (renamed ar ρ) y) ≡ true)
          → (mem eqb (ρ t) (map ρ (terms_of ar (unpacked l))) || (occurs ar (ρ t) (relabel (renamed ar ρ) x) || occurs ar (ρ t) (relabel (renamed ar ρ) y))) ≡ true
      go (one p) i j = or-one _ _ (mem-map ρ t (terms_of ar (unpacked l)) p)
      go (other p) i j = or-other (mem eqb (ρ t) (map ρ (terms_of ar (unpacked l)))) _ (deeper (either (occurs ar t x) _ p) i j)

  pub renaming-occurs : (d : Diagram) (t : ℕ) → Fine ar d → Terms ar P d → occurs ar t (relabel (renamed ar ρ) d) ≡ true → Origin ar ρ d t
  unfolding relabel occurs
  renaming-occurs (leaf v) t f q e = clash e refl
  renaming-occurs (branch l x y) t f q e =
      go (either (mem eqb t (map ρ (terms_of ar (unpacked l)))) _ (rw (renamed-terms P ρ inc ar good l f.0 q.0) at e)) (renaming-occurs x t f.1 q.1)
      (renaming-occurs y t f.2 q.2)
    where
      here : Source ρ (terms_of ar (unpacked l)) t → Origin ar ρ (branch l x y) t
      here s = record { origin = s.source; occurring = or-one _ _ s.inside; gives = s.gives }

      in-x : Origin ar ρ x t → Origin ar ρ (branch l x y) t
      in-x s = record { origin = s.origin; occurring = or-other (mem eqb s.origin (terms_of ar (unpacked l))) _ (or-one _ _ s.occurring); gives = s.gives }

      in-y : Origin ar ρ y t → Origin ar ρ (branch l x y) t
      in-y s =
          record { origin = s.origin; occurring = or-other (mem eqb s.origin (terms_of ar (unpacked l))) _ (or-other (occurs ar s.origin x) _ s.occurring); gives = s.gives }

      deeper : Either (occurs ar t (relabel (renamed ar ρ) x)) (occurs ar t (relabel (renamed ar ρ) y)) → (occurs ar t (relabel (renamed ar ρ) x) ≡ true → Origin ar ρ x t)
          → (occurs ar t (relabel (renamed ar ρ) y) ≡ true → Origin ar ρ y t) → Origin ar ρ (branch l x y) t
      deeper (one r) i j = in-x (i r)
      deeper (other r) i j = in-y (j r)

      go : Either (mem eqb t (map ρ (terms_of ar (unpacked l)))) (occurs ar t (relabel (renamed ar ρ) x) || occurs ar t (relabel (renamed ar ρ) y))
          → (occurs ar t (relabel (renamed ar ρ) x) ≡ true → Origin ar ρ x t) → (occurs ar t (relabel (renamed ar ρ) y) ≡ true → Origin ar ρ y t) → Origin ar ρ (branch l x y) t
      go (one p) i j = here (map-mem ρ t (terms_of ar (unpacked l)) p)
      go (other p) i j = deeper (either (occurs ar t (relabel (renamed ar ρ) x)) _ p) i j
