-- Maps of terms, and labels renamed by them (document 01, sections 'Combination' and 'Regression').
use Rattle.std.specs.Prelude.{cond, List, [], ◌∷◌, ℕ, ◌+◌, ◌-◌, ◌<◌, get_or, ltb}
use Rattle.label.specs.Limits.{first_parameter, first_variable, first_minimum, most_places}
use Rattle.label.specs.Labels.{place_in, packed, unpacked, test_of, predicate_of}
use Rattle.label.specs.declared.Atom.{Atom}
use Rattle.label.specs.declared.Test.{Test}

-- place k of a predicate of arity n, its term replaced; an unused place stays 0
unfoldable pub placed : (ℕ → ℕ) → ℕ → ℕ → ℕ → ℕ
placed ρ n k t = cond (ltb k n) (ρ t) 0

-- an atom of arity n, all of its terms replaced together
unfoldable pub mapped : (ℕ → ℕ) → ℕ → Atom → Atom
mapped ρ n a = record {
  predicate = a.predicate;
  first = placed ρ n 0 a.first;
  second = placed ρ n 1 a.second;
  third = placed ρ n 2 a.third;
  fourth = placed ρ n 3 a.fourth;
  fifth = placed ρ n 4 a.fifth;
  sixth = placed ρ n 5 a.sixth;
}

-- what the label l asks once its terms are replaced
unfoldable pub moved : List ℕ → (ℕ → ℕ) → ℕ → Test
moved ar ρ l = test_of (mapped ρ (get_or ar (predicate_of l) 0) (unpacked l))

-- the label l renamed, for maps that keep the order of its terms
unfoldable pub renamed : List ℕ → (ℕ → ℕ) → ℕ → ℕ
renamed ar ρ l = packed (mapped ρ (get_or ar (predicate_of l) 0) (unpacked l))

-- how many numbers of vs are below t
abbrev pub rank : List ℕ → ℕ → ℕ
rank [] t = 0
rank (v ∷ vs) t = cond (ltb v t) 1 0 + rank vs t

-- the variables us renamed to m, m + 1, .. and the minimum variables vs to n, n + 1, .., each kind in its order: closing up has the first number of each kind,
-- the second operand of a call apart that and the first's count of the kind
unfoldable pub numbering : List ℕ → List ℕ → ℕ → ℕ → ℕ → ℕ
numbering us vs m n t = cond (ltb t first_variable) t (cond (ltb t first_minimum) (m + rank us t) (n + rank vs t))

-- freeing: parameter i turns into variable i, and the other variables move up by the parameter count c; minimum variables stay
unfoldable pub freeing : ℕ → ℕ → ℕ
freeing c t =
    cond (ltb t first_parameter) t
    (cond (ltb t (first_parameter + c)) (t + (first_variable - first_parameter))
    (cond (ltb t first_variable) t
    (cond (ltb t first_minimum) (t + c) t)))

-- P names every term of an atom of arity n
pub record EachTerm (P : ℕ → Type 0) (n : ℕ) (a : Atom) : Type 0 where
  pub on : (k : ℕ) → k < n → k < most_places → P (place_in a k)

-- P names every term of the label l
abbrev pub EachIn : List ℕ → (ℕ → Type 0) → ℕ → Type 0
EachIn ar P l = EachTerm P (get_or ar (predicate_of l) 0) (unpacked l)
