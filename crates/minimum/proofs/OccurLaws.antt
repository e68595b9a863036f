-- The terms of what a diagram says are those that occur in its labels.
use Rattle.std.specs.Prelude.{◌≡◌, refl, true, false, ◌||◌, List, [], ◌∷◌, ℕ, zero, suc, ◌+◌, ◌≤◌, ◌<◌, length, eqb}
use Rattle.std.proofs.Common.{arith, eqb-true, eq-eqb}
use Rattle.basics.specs.Tests.{Flag, is_true, is_false, flag, Either, one, other, either, or-one, or-other, Cmp, below, equal, above, cmp}
use Rattle.basics.specs.Members.{mem, clash}
use Rattle.label.specs.Labels.{unpacked, terms_of}
use Rattle.diagram.specs.Diagram.{Diagram, leaf, branch, relabel}
use Rattle.diagram.specs.Variables.{occurs, occurring}
use Rattle.state.specs.State.{atom_of, meaning}
use Rattle.state.specs.Terms.{Each, Terms}
use Rattle.state.proofs.ValueLaws.{Each-mono, Terms-mono}

pub mem-each : (P : ℕ → Type 0) (t : ℕ) (ts : List ℕ) → Each P ts → mem eqb t ts ≡ true → P t
mem-each P t [] w h = clash h refl
mem-each P t (u ∷ us) w h = go (either (eqb t u) (mem eqb t us) h) (mem-each P t us w.1)
  where
    go : Either (eqb t u) (mem eqb t us) → (mem eqb t us ≡ true → P t) → P t
    go (one e) ih = rw (eqb-true t u e) w.0
    go (other e) ih = ih e

each-mem : (ts us : List ℕ) → ((t : ℕ) → mem eqb t ts ≡ true → mem eqb t us ≡ true) → Each (λ t. mem eqb t us ≡ true) ts
each-mem [] us h = tt
each-mem (t ∷ ts) us h = (h t (or-one (eqb t t) _ (eq-eqb t t refl)), each-mem ts us (λ u k. h u (or-other (eqb u t) _ k)))

pub terms-occur : (P : ℕ → Type 0) (ar : List ℕ) (t : ℕ) (d : Diagram) → Terms P (meaning ar d) → occurs ar t d ≡ true → P t
unfolding meaning relabel occurs atom_of
terms-occur P ar t (leaf v) w h = clash h refl
terms-occur P ar t (branch l x y) w h =
    go (either (mem eqb t (terms_of ar (unpacked l))) (occurs ar t x || occurs ar t y) h) (terms-occur P ar t x w.1) (terms-occur P ar t y w.2)
  where
    inside : Either (occurs ar t x) (occurs ar t y) → (occurs ar t x ≡ true → P t) → (occurs ar t y ≡ true → P t) → P t
    inside (one e) p q = p e
    inside (other e) p q = q e

    go : Either (mem eqb t (terms_of ar (unpacked l))) (occurs ar t x || occurs ar t y) → (occurs ar t x ≡ true → P t) → (occurs ar t y ≡ true → P t) → P t
    go (one e) p q = mem-each P t (terms_of ar (unpacked l)) w.0 e
    go (other e) p q = inside (either (occurs ar t x) (occurs ar t y) e) p q

pub occur-terms : (ar : List ℕ) (d : Diagram) → Terms (λ t. occurs ar t d ≡ true) (meaning ar d)
unfolding meaning relabel occurs atom_of
occur-terms ar (leaf v) = tt
occur-terms ar (branch l x y) = (
  Each-mono _ (λ t. (mem eqb t (terms_of ar (unpacked l)) || (occurs ar t x || occurs ar t y)) ≡ true) (λ t h. or-one _ _ h) (terms_of ar (unpacked l))
      (each-mem (terms_of ar (unpacked l)) (terms_of ar (unpacked l)) (λ t h. h)),
  Terms-mono _ (λ t. (mem eqb t (terms_of ar (unpacked l)) || (occurs ar t x || occurs ar t y)) ≡ true)
      (λ t h. or-other (mem eqb t (terms_of ar (unpacked l))) _ (or-one _ _ h)) (meaning ar x) (occur-terms ar x),
  Terms-mono _ (λ t. (mem eqb t (terms_of ar (unpacked l)) || (occurs ar t x || occurs ar t y)) ≡ true)
      (λ t h. or-other (mem eqb t (terms_of ar (unpacked l))) _ (or-other (occurs ar t x) _ h)) (meaning ar y) (occur-terms ar y),
)

-- none of n terms occurs
pub none-occurs : (ar : List ℕ) (d : Diagram) (t n : ℕ) → length (occurring ar d t n) ≡ 0 → (u : ℕ) → t ≤ u → u < t + n → occurs ar u d ≡ false
unfolding occurring
none-occurs ar d t zero e u h k = absurd (omega arith)
none-occurs ar d t (suc n) e u h k = go (flag (occurs ar t d)) (cmp t u) (none-occurs ar d (suc t) n)
  where
    go : Flag (occurs ar t d) → Cmp t u → (length (occurring ar d (suc t) n) ≡ 0 → (v : ℕ) → suc t ≤ v → v < suc t + n → occurs ar v d ≡ false) → occurs ar u d ≡ false
    go (is_true p) q ih = let z : suc (length (occurring ar d (suc t) n)) ≡ 0 = rw p at e in absurd (omega arith)
    go (is_false p) (below q) ih = ih (rw p at e) u q (omega arith)
    go (is_false p) (equal q) ih = rw (← q) p
    go (is_false p) (above q) ih = absurd (omega arith)
