-- Without minimum variables the number is the highest leaf; a diagram that is plain by its labels has none.
use Rattle.std.specs.Prelude.{◌≡◌, List, [], ◌∷◌, Bool, true, false, cond, ℕ, zero, suc, ◌≤◌, ◌<◌, length, get_or, take, ltb, eqb}
use Rattle.std.proofs.Math.Path.{refl}
use Rattle.std.proofs.Common.{ap, ap₂, sym, ◌∙◌, arith, le_of_eq, le_trans, lt-ltb, eqb-true}
use Rattle.basics.specs.Members.{clash}
use Rattle.label.specs.Limits.{first_variable, first_minimum, minimum_count, term_end}
use Rattle.label.specs.Labels.{is_label, places_of, unpacked, terms_of}
use Rattle.label.proofs.LabelLaws.{term-below, used-term, label-fits}
use Rattle.diagram.specs.Diagram.{Tree, Diagram, leaf, branch, relabel}
use Rattle.diagram.specs.Listing.{Fine}
use Rattle.diagram.specs.Variables.{occurs, minimums as minimums_of, is_plain}
use Rattle.state.specs.State.{Atomic, atom_of, meaning, State, value}
use Rattle.state.specs.Terms.{Each, args, Terms}
use Rattle.state.proofs.ValueLaws.{by-low, Terms-mono, value_same}
use Rattle.state.specs.Inner.{Highest}
use Rattle.state.specs.Highest.{max_vals, insert, vars_of, vars_in, vars, start, highest}
use Rattle.minimum.proofs.MinLaws.{max-min}
use Rattle.minimum.specs.Number.{Under, Number, min_vals, below, from, maximums, minimums, number}
use Rattle.minimum.specs.Operations.{Plain}
use Rattle.minimum.proofs.NumberLaws.{under-self}
use Rattle.minimum.proofs.OccurLaws.{occur-terms, terms-occur, none-occurs}

insert-each : (P : ℕ → Type 0) (t : ℕ) (vs : List ℕ) → P t → Each P vs → Each P (insert t vs)
unfolding insert
insert-each P t [] h w = (h, tt)
insert-each P t (v ∷ vs) h w = go (ltb t v) (eqb t v) (insert-each P t vs h w.1)
  where
    go : (b c : Bool) → Each P (insert t vs) → Each P (cond b (t ∷ v ∷ vs) (cond c (v ∷ vs) (v ∷ insert t vs)))
    go true c r = (h, w)
    go false true r = w
    go false false r = (w.0, r)

vars_of-each : (P : ℕ → Type 0) (ts vs : List ℕ) → Each P ts → Each P vs → Each P (vars_of ts vs)
unfolding vars_of
vars_of-each P [] vs h w = w
vars_of-each P (t ∷ ts) vs h w = go (ltb t first_variable) (vars_of-each P ts vs h.1 w)
  where
    go : (b : Bool) → Each P (vars_of ts vs) → Each P (cond b (vars_of ts vs) (insert t (vars_of ts vs)))
    go true r = r
    go false r = insert-each P t (vars_of ts vs) h.0 r

vars_in-each : (P : ℕ → Type 0) (d : Tree Atomic) (vs : List ℕ) → Terms P d → Each P vs → Each P (vars_in d vs)
unfolding vars_in
vars_in-each P (leaf x) vs h w = w
vars_in-each P (branch a t f) vs h w = vars_of-each P (args a) (vars_in t (vars_in f vs)) h.0 (vars_in-each P t (vars_in f vs) h.1 (vars_in-each P f vs h.2 w))

-- what every term is, every variable is
pub vars-each : (P : ℕ → Type 0) (d : Tree Atomic) → Terms P d → Each P (vars d)
unfolding vars
vars-each P d h = vars_in-each P d [] h tt

below_all : (m : ℕ) (vs : List ℕ) → Each (λ v. v < m) vs → below m vs ≡ vs
unfolding below
below_all m [] w = refl
below_all m (v ∷ vs) w = rw (lt-ltb v m w.0) (ap (v ∷◌) (below_all m vs w.1))

from-none : (m : ℕ) (vs : List ℕ) → Each (λ v. v < m) vs → from m vs ≡ []
unfolding from
from-none m [] w = refl
from-none m (v ∷ vs) w = rw (lt-ltb v m w.0) (from-none m vs w.1)

pub number-plain : (s : State) (os : List ℕ) (d : Tree Atomic) → Plain d → number s os d ≡ highest s os d
unfolding number highest maximums minimums
number-plain s os d w =
    ap₂ (λ us vs. max_vals s.size us (start s os) (λ θ. min_vals s.size vs θ (value s d)))
    (below_all first_minimum (vars d) (vars-each (λ t. t < first_minimum) d w)) (from-none first_minimum (vars d) (vars-each (λ t. t < first_minimum) d w))
    ∙ unfold min_vals in refl

-- what is under a valuation has its leaf
pub plain-under : (s : State) (os : List ℕ) (d : Tree Atomic) → Plain d → (θ η : ℕ → ℕ) → Under s os θ η → value s d η ≡ value s d θ
plain-under s os d w θ η u = value_same (λ t. t < first_minimum) s d η θ w u.same

pub highest-number : (s : State) (os : List ℕ) (d : Tree Atomic) → Plain d → (x : ℕ) → Highest s os d x → Number s os d x
highest-number s os d w x m = max-min m.point m.inside
    (λ η u. le_of_eq (sym (plain-under s os d w m.point η u ∙ m.value)))
    (λ θ f. (θ, under-self f, m.bound θ f))

pub number-highest : (s : State) (os : List ℕ) (d : Tree Atomic) → Plain d → (x : ℕ) → Number s os d x → Highest s os d x
number-highest s os d w x m = record {
  point = m.point;
  inside = m.inside;
  value = sym (plain-under s os d w m.point m.lowest.point m.lowest.inside) ∙ m.lowest.value;
  bound = λ θ f. let b = m.bound θ f in le_trans (le_of_eq (sym (plain-under s os d w θ b.0 b.1))) b.2;
}

-- ===== Labels =====

-- the first n of a list, one by one
pub each_take : (P : ℕ → Type 0) (n : ℕ) (ts : List ℕ) → ((k : ℕ) → k < n → k < length ts → P (get_or ts k 0)) → Each P (take n ts)
each_take P zero ts f = tt
each_take P (suc n) [] f = tt
each_take P (suc n) (t ∷ ts) f = (f 0 (omega arith) (omega arith), each_take P n ts (λ k h i. f (suc k) (omega arith) (omega arith)))

-- the terms of a label end where the minimum variables do
label-ends : (ar : List ℕ) (l : ℕ) → is_label ar l ≡ true → Each (λ t. t < term_end) (terms_of ar (unpacked l))
unfolding terms_of
label-ends ar l h = each_take (λ t. t < term_end) (get_or ar (unpacked l).predicate 0) (places_of (unpacked l))
    (λ k i j. term-below (get_or (places_of (unpacked l)) k 0) (used-term _ k _ i ((label-fits ar l h).places-fit.fits k j)))

fine-ends : (ar : List ℕ) (d : Diagram) → Fine ar d → Terms (λ t. t < term_end) (meaning ar d)
unfolding meaning relabel atom_of
fine-ends ar (leaf x) w = tt
fine-ends ar (branch l t f) w = (label-ends ar l w.0, fine-ends ar t w.1, fine-ends ar f w.2)

plain-occurs : (ar : List ℕ) (d : Diagram) → is_plain ar d ≡ true → (t : ℕ) → first_minimum ≤ t → t < term_end → occurs ar t d ≡ false
unfolding is_plain minimums_of
plain-occurs ar d e = none-occurs ar d first_minimum minimum_count (eqb-true (length (minimums_of ar d)) 0 e)

-- no minimum variable among the labels of a listing: none in what it says
pub fine-plain : (ar : List ℕ) (d : Diagram) → Fine ar d → is_plain ar d ≡ true → Plain (meaning ar d)
fine-plain ar d w e = Terms-mono (λ t. occurs ar t d ≡ true) (λ t. t < first_minimum) (λ t o. by-low (t < first_minimum) first_minimum t (λ h. h)
    (λ h. clash o (plain-occurs ar d e t h (terms-occur (λ u. u < term_end) ar t d (fine-ends ar d w) o))))
    (meaning ar d) (occur-terms ar d)
