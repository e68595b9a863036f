-- The order of labels as the thesis writes it (document 02, L3; section 3.2.5 of source document 001).
use Rattle.std.specs.Prelude.{Bool, true, false, cond, List, [], ◌∷◌, ◌≡◌, ◌⊎◌, ℕ, eqb, ltb}
use Rattle.label.specs.Terms.{kind_of}
use Rattle.label.specs.Labels.{unpacked, terms_of}
use Rattle.label.specs.declared.Atom.{Atom}
use Rattle.label.specs.declared.Kind.{Kind}
use Rattle.label.specs.declared.Kind.TheVariants.{Constant, Parameter, Variable, Minimum, None}

-- constants before parameters before variables before minimum variables
abbrev pub kind_rank : Kind → ℕ
kind_rank Constant = 0
kind_rank Parameter = 1
kind_rank Variable = 2
kind_rank Minimum = 3
kind_rank None = 4

-- two terms are compared "by kind of term and then by number"
unfoldable pub term_before : ℕ → ℕ → Bool
term_before t u = cond (eqb (kind_rank (kind_of t)) (kind_rank (kind_of u))) (ltb t u) (ltb (kind_rank (kind_of t)) (kind_rank (kind_of u)))

-- places are compared by "the first differing place"
unfoldable pub places_before : List ℕ → List ℕ → Bool
places_before [] us = false
places_before (t ∷ ts) [] = false
places_before (t ∷ ts) (u ∷ us) = cond (eqb t u) (places_before ts us) (term_before t u)

-- "predicates first and then" the places that the arity list says are used
unfoldable pub atom_before : List ℕ → Atom → Atom → Bool
atom_before ar a b = cond (eqb a.predicate b.predicate) (places_before (terms_of ar a) (terms_of ar b)) (ltb a.predicate b.predicate)

-- the label l comes before the label k
abbrev pub label_before : List ℕ → ℕ → ℕ → Bool
label_before ar l k = atom_before ar (unpacked l) (unpacked k)

-- a strict total order on what P names
pub record StrictTotal (P : ℕ → Type 0) (before : ℕ → ℕ → Bool) : Type 0 where
  pub irreflexive : (l : ℕ) → P l → before l l ≡ false
  pub transitive : (l k m : ℕ) → P l → P k → P m → before l k ≡ true → before k m ≡ true → before l m ≡ true
  pub trichotomous : (l k : ℕ) → P l → P k → (before l k ≡ true) ⊎ ((l ≡ k) ⊎ (before k l ≡ true))
