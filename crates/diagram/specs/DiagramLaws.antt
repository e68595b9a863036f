-- Laws of diagrams as trees and of their rows.
use Rattle.std.specs.Prelude.{◌≡◌, refl, ◌≢◌, true, false, List, [], ◌∷◌, ◌++◌, ℕ, ◌+◌, ◌≤◌, eqb}
use Rattle.std.proofs.Common.{ap, sym, ◌∙◌, true≢false, arith, eqb-true, eq-eqb}
use Rattle.basics.specs.Tests.{and_left, and_right}
use Rattle.basics.specs.Members.{IsTest, mem}
use Rattle.diagram.specs.Diagram.{Diagram, leaf, branch, same, From}
use Rattle.diagram.specs.Rows.{onto}

pub same-eq : (a b : Diagram) → same a b ≡ true → a ≡ b
unfolding same
same-eq (leaf v) (leaf w) e = ap leaf (eqb-true v w e)
same-eq (leaf v) (branch k u g) e = absurd (true≢false (sym e))
same-eq (branch l t f) (leaf w) e = absurd (true≢false (sym e))
same-eq (branch l t f) (branch k u g) e =
    let p = eqb-true l k (and_left _ _ e) in
    let r = and_right (eqb l k) _ e in
    let q = same-eq t u (and_left _ _ r) in
    let s = same-eq f g (and_right (same t u) _ r) in
    cc

pub same_refl : (a : Diagram) → same a a ≡ true
unfolding same
same_refl (leaf v) = eq-eqb v v refl
same_refl (branch l t f) = rw (eq-eqb l l refl, same_refl t, same_refl f)

pub same-ne : (a b : Diagram) → same a b ≡ false → a ≢ b
same-ne a b e p = true≢false (sym (same_refl a) ∙ (cc))

pub diagram-test : IsTest same
diagram-test = record { sound = same-eq; complete = same_refl }

pub from-weaken : (m n : ℕ) (d : Diagram) → m ≤ n → From n d → From m d
from-weaken m n (leaf v) h o = tt
from-weaken m n (branch l t f) h o = (omega arith, o.1, o.2)

-- the laws of `onto`: nothing else unfolds it
pub onto-old : (d : Diagram) (rs : List Diagram) → mem same d rs ≡ true → onto d rs ≡ rs
unfolding onto
onto-old (leaf v) rs e = rw (e, onto)
onto-old (branch l t f) rs e = rw (e, onto)

pub onto-leaf : (v : ℕ) (rs : List Diagram) → mem same (leaf v) rs ≡ false → onto (leaf v) rs ≡ rs ++ (leaf v ∷ [])
unfolding onto
onto-leaf v rs e = rw (e, onto)

pub onto-branch : (l : ℕ) (t f : Diagram) (rs : List Diagram) → mem same (branch l t f) rs ≡ false
    → onto (branch l t f) rs ≡ onto f (onto t rs) ++ (branch l t f ∷ [])
unfolding onto
onto-branch l t f rs e = rw (e, onto)
