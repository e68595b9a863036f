-- Diagrams as trees: meaning, equality, order and reduction (document 01, section 'Terms, labels, listings').
use Rattle.std.specs.Prelude.{Bool, false, ◌&&◌, cond, ◌≢◌, ℕ, suc, ◌≤◌, eqb}

-- a leaf with its value, or a branch: a label, what is under true, what is under false. Sharing is no part of the meaning.
pub data Tree (L : Type 0) : Type 0 where
  leaf : ℕ → Tree L
  branch : L → Tree L → Tree L → Tree L

-- a diagram's labels are packed numbers
abbrev pub Diagram : Type 0
Diagram = Tree ℕ

-- a diagram's meaning: the leaf that each choice of true or false for all labels leads to, choices against equality included
unfoldable pub eval : {L : Type 0} → (L → Bool) → Tree L → ℕ
eval c (leaf v) = v
eval c (branch l t f) = cond (c l) (eval c t) (eval c f)

-- the labels changed by g
unfoldable pub relabel : {L M : Type 0} → (L → M) → Tree L → Tree M
relabel g (leaf v) = leaf v
relabel g (branch l t f) = branch (g l) (relabel g t) (relabel g f)

-- whether two diagrams are equal
unfoldable pub same : Diagram → Diagram → Bool
same (leaf v) (leaf w) = eqb v w
same (leaf v) (branch k u g) = false
same (branch l t f) (leaf w) = false
same (branch l t f) (branch k u g) = eqb l k && (same t u && same f g)

-- every label is at least n, and a child's label is greater than its parent's
abbrev pub From : ℕ → Diagram → Type 0
From n (leaf v) = Unit {0}
From n (branch l t f) = (n ≤ l) × From (suc l) t × From (suc l) f

abbrev pub Ordered : Diagram → Type 0
Ordered d = From 0 d

-- no branch has two equal children
abbrev pub Reduced : Diagram → Type 0
Reduced (leaf v) = Unit {0}
Reduced (branch l t f) = (t ≢ f) × Reduced t × Reduced f

-- P holds of every label
abbrev pub EveryLabel : (ℕ → Type 0) → Diagram → Type 0
EveryLabel P (leaf v) = Unit {0}
EveryLabel P (branch l t f) = P l × EveryLabel P t × EveryLabel P f
