-- Closing up and moving apart are as crate minimum has them, kind by kind (document 02, L12).
use Rattle.std.specs.Prelude.{◌≡◌, Bool, true, false, cond, ℕ, suc, ◌+◌, ◌≤◌, ◌<◌, length, eqb, ltb}
use Rattle.std.proofs.Math.Path.{ap₂}
use Rattle.std.proofs.Common.{sym, ◌∙◌, arith, ltb-true, ltb-false}
use mathlib.Core.List.{List, [], ◌∷◌, Memᴰ}
use Rattle.std.proofs.lemmas.Bool.{eqb-false}
use Rattle.basics.specs.Tests.{Flag, is_true, is_false, flag}
use Rattle.basics.specs.Members.{mem}
use Rattle.label.specs.Limits.{first_variable, variable_count, first_minimum, minimum_count}
use Rattle.label.proofs.LabelLaws.{term-below}
use Rattle.label.specs.Renamings.{numbering}
use Rattle.label.specs.Inner.{Numbered}
use Rattle.diagram.specs.Diagram.{Tree, Diagram, leaf, branch}
use Rattle.diagram.specs.Listing.{Good as Listed}
use Rattle.diagram.specs.Variables.{occurs, occurring, variables, minimums as minimums_of, closed_from, closed, after}
use Rattle.rename.specs.Inner.{KindsFit}
use Rattle.rename.specs.Ascending.{Ascending}
use Rattle.rename.specs.AscendingLaws.{ascending-one, ascending-weaken}
use Rattle.rename.specs.VariableLaws.{in-occurring, occurring-in, occurring-ascending, occurs-term, occurs-numbered}
use Rattle.rename.specs.ClosingLaws.{closing-increasing, closed-fit, after-fit}
use Rattle.apply.proofs.GoodLaws.{fine-every}
use Rattle.state.specs.State.{Atomic, meaning}
use Rattle.state.specs.Terms.{Each, args, Terms, rename}
use Rattle.state.proofs.ValueLaws.{Terms-mono}
use Rattle.state.specs.Highest.{insert, vars_of, vars_in, vars}
use Rattle.state.proofs.HighestLaws.{vars-up, vars-in}
use Rattle.minimum.specs.Number.{below, from, maximums, minimums}
use Rattle.minimum.specs.Operations.{closed_kinds, after_kinds}
use Rattle.minimum.proofs.NumberLaws.{below_each, from_each, below_in, from_in}
use Rattle.minimum.proofs.OccurLaws.{mem-each, occur-terms, terms-occur}
use Rattle.minimum.proofs.PlainLaws.{vars-each}
use Rattle.minimum.proofs.ApartLaws.{in_mem}
use Rattle.regression.proofs.FreeCallLaws.{meaning-renamed}

-- ===== The variables of a diagram, by labels and by what they say =====

insert-ascending : (n t : ℕ) (vs : List ℕ) → n ≤ t → Ascending n vs → Ascending n (insert t vs)
unfolding insert
insert-ascending n t [] h a = (h, tt)
insert-ascending n t (v ∷ vs) h a = go (flag (ltb t v)) (flag (eqb t v)) (insert-ascending (suc v) t vs)
  where
    go : Flag (ltb t v) → Flag (eqb t v) → (suc v ≤ t → Ascending (suc v) vs → Ascending (suc v) (insert t vs))
        → Ascending n (cond (ltb t v) (t ∷ v ∷ vs) (cond (eqb t v) (v ∷ vs) (v ∷ insert t vs)))
    go (is_true p) q r = rw p (h, (ltb-true t v p, a.1))
    go (is_false p) (is_true q) r = rw (p, q) a
    go (is_false p) (is_false q) r = rw (p, q) (a.0, r (omega (arith, ltb-false t v p, eqb-false t v q)) a.1)

vars_of-ascending : (ts vs : List ℕ) → Ascending first_variable vs → Ascending first_variable (vars_of ts vs)
unfolding vars_of
vars_of-ascending [] vs a = a
vars_of-ascending (t ∷ ts) vs a = go (flag (ltb t first_variable)) (vars_of-ascending ts vs a)
  where
    go : Flag (ltb t first_variable) → Ascending first_variable (vars_of ts vs) → Ascending first_variable (cond (ltb t first_variable) (vars_of ts vs) (insert t (vars_of ts vs)))
    go (is_true p) r = rw p r
    go (is_false p) r = rw p (insert-ascending first_variable t (vars_of ts vs) (ltb-false t first_variable p) r)

vars_in-ascending : (d : Tree Atomic) (vs : List ℕ) → Ascending first_variable vs → Ascending first_variable (vars_in d vs)
unfolding vars_in
vars_in-ascending (leaf x) vs a = a
vars_in-ascending (branch l t f) vs a = vars_of-ascending (args l) (vars_in t (vars_in f vs)) (vars_in-ascending t (vars_in f vs) (vars_in-ascending f vs a))

vars-ascending : (d : Tree Atomic) → Ascending first_variable (vars d)
unfolding vars
vars-ascending d = vars_in-ascending d [] tt

below-ascending : (m n : ℕ) (vs : List ℕ) → Ascending n vs → Ascending n (below m vs)
unfolding below
below-ascending m n [] a = tt
below-ascending m n (v ∷ vs) a = go (ltb v m) (below-ascending m (suc v) vs a.1)
  where
    go : (b : Bool) → Ascending (suc v) (below m vs) → Ascending n (cond b (v ∷ below m vs) (below m vs))
    go true r = (a.0, r)
    go false r = ascending-weaken n (suc v) (below m vs) (omega (arith, a.0)) r

from-ascending : (m n : ℕ) (vs : List ℕ) → Ascending n vs → Ascending n (from m vs)
unfolding from
from-ascending m n [] a = tt
from-ascending m n (v ∷ vs) a = go (ltb v m) (from-ascending m (suc v) vs a.1)
  where
    go : (b : Bool) → Ascending (suc v) (from m vs) → Ascending n (cond b (from m vs) (v ∷ from m vs))
    go true r = ascending-weaken n (suc v) (from m vs) (omega (arith, a.0)) r
    go false r = (a.0, r)

each_both : (P Q : ℕ → Type 0) (ts : List ℕ) → Each P ts → Each Q ts → Each (λ t. P t × Q t) ts
each_both P Q [] x y = tt
each_both P Q (t ∷ ts) x y = ((x.0, y.0), each_both P Q ts x.1 y.1)

module _ (ar : List ℕ) (d : Diagram) (good : Listed ar d) where
  -- what is a variable is one that occurs
  found : Each (λ t. (occurs ar t d ≡ true) × (first_variable ≤ t)) (vars (meaning ar d))
  found = each_both (λ t. occurs ar t d ≡ true) (λ t. first_variable ≤ t) (vars (meaning ar d)) (vars-each _ (meaning ar d) (occur-terms ar d)) (vars-up (meaning ar d))

  met : (t : ℕ) → occurs ar t d ≡ true → first_variable ≤ t → Memᴰ t (vars (meaning ar d))
  met t o = terms-occur (λ u. first_variable ≤ u → Memᴰ u (vars (meaning ar d))) ar t d (vars-in (meaning ar d)) o

  -- one kind, of the c numbers from f on: an ascending list of those that occur
  kind-is : (f c n : ℕ) (xs : List ℕ) → Ascending n xs → ((t : ℕ) → mem eqb t xs ≡ true → (occurs ar t d ≡ true) × (f ≤ t) × (t < f + c))
      → ((t : ℕ) → occurs ar t d ≡ true → f ≤ t → t < f + c → mem eqb t xs ≡ true) → xs ≡ occurring ar d f c
  kind-is f c n xs a there back = ascending-one n f xs (occurring ar d f c) a (occurring-ascending ar d f c)
      (λ t e. let o = there t e in occurring-in ar d f c t o.0 o.1 o.2)
      (λ t e. let o = in-occurring ar d f c t e in back t o.0 o.1 o.2)

  pub maximums-variables : maximums (meaning ar d) ≡ variables ar d
  unfolding maximums variables
  maximums-variables =
      let vs = vars (meaning ar d) in
      kind-is first_variable variable_count first_variable (below first_minimum vs) (below-ascending first_minimum first_variable vs (vars-ascending (meaning ar d)))
      (λ t e. let o = mem-each _ t (below first_minimum vs) (below_each _ first_minimum vs found) e in (o.0.0, o.0.1, o.1))
      (λ t o h k. in_mem t (below first_minimum vs) (below_in first_minimum t k vs (met t o h)))

  pub minimums-minimums : minimums (meaning ar d) ≡ minimums_of ar d
  unfolding minimums minimums_of
  minimums-minimums =
      let vs = vars (meaning ar d) in
      kind-is first_minimum minimum_count first_variable (from first_minimum vs) (from-ascending first_minimum first_variable vs (vars-ascending (meaning ar d)))
      (λ t e. let o = mem-each _ t (from first_minimum vs) (from_each _ first_minimum vs found) e in (o.0.0, o.1, term-below t (occurs-term ar d t good.fine o.0.0)))
      (λ t o h k. in_mem t (from first_minimum vs) (from_in first_minimum t h vs (met t o (omega arith))))

  -- ===== Variables numbered from m and from n on =====

  pub closed_from-kinds : (m n : ℕ) → KindsFit ar m n d
      → meaning ar (closed_from ar m n d) ≡ rename (numbering (maximums (meaning ar d)) (minimums (meaning ar d)) m n) (meaning ar d)
  unfolding closed_from
  closed_from-kinds m n fit =
      meaning-renamed (Numbered (variables ar d) (minimums_of ar d)) (numbering (variables ar d) (minimums_of ar d) m n) (closing-increasing ar m n d fit good)
      ar good.arities d (fine-every ar d good.fine) numbered
      ∙ ap₂ (λ us vs. rename (numbering us vs m n) (meaning ar d)) (sym maximums-variables) (sym minimums-minimums)
    where
      numbered : Terms (Numbered (variables ar d) (minimums_of ar d)) (meaning ar d)
      numbered = Terms-mono (λ t. occurs ar t d ≡ true) (Numbered (variables ar d) (minimums_of ar d)) (occurs-numbered ar d good.fine) (meaning ar d) (occur-terms ar d)

  pub closed-kinds : meaning ar (closed ar d) ≡ closed_kinds (meaning ar d)
  unfolding closed closed_kinds
  closed-kinds = closed_from-kinds first_variable first_minimum (closed-fit ar d good)

pub after-kinds : (ar : List ℕ) (a b : Diagram) → Listed ar a → Listed ar b → length (variables ar a) + length (variables ar b) ≤ variable_count
    → length (minimums_of ar a) + length (minimums_of ar b) ≤ minimum_count → meaning ar (after ar a b) ≡ after_kinds (meaning ar a) (meaning ar b)
unfolding after after_kinds
after-kinds ar a b x y room space =
    closed_from-kinds ar b y (first_variable + length (variables ar a)) (first_minimum + length (minimums_of ar a)) (after-fit ar a b room space)
    ∙ ap₂ (λ us vs. rename (numbering (maximums (meaning ar b)) (minimums (meaning ar b)) (first_variable + length us) (first_minimum + length vs)) (meaning ar b))
    (sym (maximums-variables ar a x)) (sym (minimums-minimums ar a x))
