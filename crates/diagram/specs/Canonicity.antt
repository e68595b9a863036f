-- Canonicity: two ordered reduced diagrams that mean the same are equal.
use Rattle.std.specs.Prelude.{◌≡◌, refl, Bool, true, false, cond, ℕ, suc, ◌<◌, eqb}
use Rattle.std.proofs.Common.{ap, sym, ◌∙◌, arith, eq-eqb, ne_eqb}
use Rattle.basics.specs.Tests.{Cmp, below, equal, above, cmp}
use Rattle.diagram.specs.Diagram.{Diagram, leaf, branch, eval, From, Ordered, Reduced}
use Rattle.diagram.specs.DiagramLaws.{from-weaken}

-- the same meaning, for every choice of truths for all labels
abbrev pub Alike : Diagram → Diagram → Type 0
Alike a b = (c : ℕ → Bool) → eval c a ≡ eval c b

-- the choice c with b at l
unfoldable pub choosing : (ℕ → Bool) → ℕ → Bool → ℕ → Bool
choosing c l b k = cond (eqb l k) b (c k)

pub choosing-same : (c : ℕ → Bool) (l : ℕ) (b : Bool) → choosing c l b l ≡ b
unfolding choosing
choosing-same c l b = rw (eq-eqb l l refl)

pub choosing-other : (c : ℕ → Bool) (l : ℕ) (b : Bool) (k : ℕ) → l < k → choosing c l b k ≡ c k
unfolding choosing
choosing-other c l b k h = rw (ne_eqb l k (λ p. omega arith))

-- a diagram whose labels are all above l does not see the choice at l
pub eval-choosing : (c : ℕ → Bool) (l : ℕ) (b : Bool) (d : Diagram) → From (suc l) d → eval (choosing c l b) d ≡ eval c d
unfolding eval
eval-choosing c l b (leaf v) o = refl
eval-choosing c l b (branch k t f) o =
    rw (
      choosing-other c l b k o.0,
      eval-choosing c l b t (from-weaken (suc l) (suc k) t (omega arith) o.1),
      eval-choosing c l b f (from-weaken (suc l) (suc k) f (omega arith) o.2),
    )

-- the meaning of a branch whose label is chosen
pub eval-true : (c : ℕ → Bool) (l : ℕ) (t f : Diagram) → From (suc l) t → eval (choosing c l true) (branch l t f) ≡ eval c t
unfolding eval
eval-true c l t f o = rw (choosing-same c l true, eval-choosing c l true t o)

pub eval-false : (c : ℕ → Bool) (l : ℕ) (t f : Diagram) → From (suc l) f → eval (choosing c l false) (branch l t f) ≡ eval c f
unfolding eval
eval-false c l t f o = rw (choosing-same c l false, eval-choosing c l false f o)

-- the two children of a branch that means what b means, where b does not see its label
pub alike-true : (l : ℕ) (t f b : Diagram) → From (suc l) t → From (suc l) b → Alike (branch l t f) b → Alike t b
alike-true l t f b o p h c = sym (eval-true c l t f o) ∙ h (choosing c l true) ∙ eval-choosing c l true b p

pub alike-false : (l : ℕ) (t f b : Diagram) → From (suc l) f → From (suc l) b → Alike (branch l t f) b → Alike f b
alike-false l t f b o p h c = sym (eval-false c l t f o) ∙ h (choosing c l false) ∙ eval-choosing c l false b p

pub alike-sym : (a b : Diagram) → Alike a b → Alike b a
alike-sym a b h c = sym (h c)

pub from-ordered : (n : ℕ) (d : Diagram) → From n d → Ordered d
from-ordered n d o = from-weaken 0 n d (omega arith) o

lone-leaf : (v : ℕ) (b : Diagram) → Ordered b → Reduced b → Alike (leaf v) b → leaf v ≡ b
unfolding eval
lone-leaf v (leaf w) o r h = ap leaf (h (λ n. true))
lone-leaf v (branch k u g) o r h =
    let p = lone-leaf v u (from-ordered _ u o.1) r.1
    (alike-sym u (leaf v) (alike-true k u g (leaf v) o.1 tt (alike-sym (leaf v) (branch k u g) h))) in
    let q = lone-leaf v g (from-ordered _ g o.2) r.2
    (alike-sym g (leaf v) (alike-false k u g (leaf v) o.2 tt (alike-sym (leaf v) (branch k u g) h))) in
    absurd (r.0 (sym p ∙ q))

abbrev Unique : Diagram → Type 0
Unique a = (b : Diagram) → Ordered a → Reduced a → Ordered b → Reduced b → Alike a b → a ≡ b

-- a branch against a branch, by the order of the labels: the recursive calls come in as hypotheses
meet : (l : ℕ) (t f : Diagram) (k : ℕ) (u g : Diagram) → Unique t → Unique f
    → (Ordered u → Reduced u → Alike (branch l t f) u → branch l t f ≡ u)
    → (Ordered g → Reduced g → Alike (branch l t f) g → branch l t f ≡ g)
    → Ordered (branch l t f) → Reduced (branch l t f) → Ordered (branch k u g) → Reduced (branch k u g) → Alike (branch l t f) (branch k u g)
    → Cmp l k → branch l t f ≡ branch k u g
meet l t f k u g it jf iu jg o r p s h (below lt) =
    let b = branch k u g in
    let pb : From (suc l) b = (lt, p.1, p.2) in
    let x = it b (from-ordered _ t o.1) r.1 p s (alike-true l t f b o.1 pb h) in
    let y = jf b (from-ordered _ f o.2) r.2 p s (alike-false l t f b o.2 pb h) in
    absurd (r.0 (x ∙ sym y))
meet l t f k u g it jf iu jg o r p s h (above gt) =
    let a = branch l t f in
    let pa : From (suc k) a = (gt, o.1, o.2) in
    let x = iu (from-ordered _ u p.1) s.1 (alike-sym u a (alike-true k u g a p.1 pa (alike-sym a (branch k u g) h))) in
    let y = jg (from-ordered _ g p.2) s.2 (alike-sym g a (alike-false k u g a p.2 pa (alike-sym a (branch k u g) h))) in
    absurd (s.0 (sym x ∙ y))
meet l t f k u g it jf iu jg o r p s h (equal e) =
    let ou : From (suc l) u = rw e p.1 in
    let og : From (suc l) g = rw e p.2 in
    let h' : Alike (branch l t f) (branch l u g) = rw (← e) at h in
    let x = it u (from-ordered _ t o.1) r.1 (from-ordered _ u p.1) s.1
    (λ c. sym (eval-true c l t f o.1) ∙ h' (choosing c l true) ∙ eval-true c l u g ou) in
    let y = jf g (from-ordered _ f o.2) r.2 (from-ordered _ g p.2) s.2
    (λ c. sym (eval-false c l t f o.2) ∙ h' (choosing c l false) ∙ eval-false c l u g og) in
    cc

-- the second diagram is taken apart here
step : (l : ℕ) (t f : Diagram) → Unique t → Unique f → Unique (branch l t f)
step l t f it jf (leaf w) o r p s h = sym (lone-leaf w (branch l t f) o r (alike-sym (branch l t f) (leaf w) h))
step l t f it jf (branch k u g) o r p s h =
    meet l t f k u g it jf (λ q z. step l t f it jf u o r q z) (λ q z. step l t f it jf g o r q z) o r p s h (cmp l k)

pub canonicity : (a b : Diagram) → Ordered a → Reduced a → Ordered b → Reduced b → Alike a b → a ≡ b
canonicity (leaf v) b o r p s h = lone-leaf v b p s h
canonicity (branch l t f) b o r p s h = step l t f (canonicity t) (canonicity f) b o r p s h
