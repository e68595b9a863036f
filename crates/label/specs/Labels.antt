-- Atoms, labels and arity lists (document 01, section 'Terms, labels, listings'; document 02, L8).
use Rattle.std.specs.Prelude.{Bool, true, not, ◌&&◌, ◌||◌, cond, List, [], ◌∷◌, ℕ, suc, ◌+◌, ◌*◌, ◌/◌, ◌%◌, length, get_or, take, eqb, ltb, leb}
use Rattle.label.specs.Limits.{predicate_count, most_places, equality, equality_arity, term_base, predicate_weight, weight_at}
use Rattle.label.specs.Terms.{is_term}
use Rattle.label.specs.declared.Atom.{Atom}
use Rattle.label.specs.declared.Test.{Test}
use Rattle.label.specs.declared.Test.TheVariants.{Always, Is}

-- an arity list: 32 arities, the first of them 2, each at most 6
abbrev pub all_at_most : ℕ → List ℕ → Bool
all_at_most m [] = true
all_at_most m (x ∷ xs) = leb x m && all_at_most m xs

unfoldable pub are_arities : List ℕ → Bool
are_arities ar = eqb (length ar) predicate_count && (eqb (get_or ar equality 0) equality_arity && all_at_most most_places ar)

-- an atom is a predicate and six places, unused ones 0: its places, the first being place 0
abbrev pub places_of : Atom → List ℕ
places_of a = a.first ∷ a.second ∷ a.third ∷ a.fourth ∷ a.fifth ∷ a.sixth ∷ []

abbrev pub place_in : Atom → ℕ → ℕ
place_in a k = get_or (places_of a) k 0

-- the atom of a predicate and its places
abbrev pub atom_from : ℕ → List ℕ → Atom
atom_from p ts = record {
  predicate = p;
  first = get_or ts 0 0;
  second = get_or ts 1 0;
  third = get_or ts 2 0;
  fourth = get_or ts 3 0;
  fifth = get_or ts 4 0;
  sixth = get_or ts 5 0;
}

-- its label: predicate · 2^48 + t1 · 2^40 + t2 · 2^32 + t3 · 2^24 + t4 · 2^16 + t5 · 2^8 + t6
abbrev pub weighed : ℕ → List ℕ → ℕ
weighed k [] = 0
weighed k (t ∷ ts) = t * weight_at k + weighed (suc k) ts

unfoldable pub packed : Atom → ℕ
packed a = a.predicate * predicate_weight + weighed 0 (places_of a)

unfoldable pub predicate_of : ℕ → ℕ
predicate_of l = l / predicate_weight

-- what stands in place k of a label
unfoldable pub place_at : ℕ → ℕ → ℕ
place_at l k = l / weight_at k % term_base

unfoldable pub unpacked : ℕ → Atom
unfolding predicate_of place_at
unpacked l = record {
  predicate = predicate_of l;
  first = place_at l 0;
  second = place_at l 1;
  third = place_at l 2;
  fourth = place_at l 3;
  fifth = place_at l 4;
  sixth = place_at l 5;
}

-- place k of a predicate of arity n: a term, or 0 where it is unused
unfoldable pub place_fits : ℕ → ℕ → ℕ → Bool
place_fits n k t = cond (ltb k n) (is_term t) (eqb t 0)

-- the places from place k on
abbrev pub places_fit : ℕ → ℕ → List ℕ → Bool
places_fit n k [] = true
places_fit n k (t ∷ ts) = place_fits n k t && places_fit n (suc k) ts

-- equality has its smaller term first; t = t is no label
unfoldable pub in_order : Atom → Bool
in_order a = not (eqb a.predicate equality) || ltb a.first a.second

unfoldable pub is_atom : List ℕ → Atom → Bool
is_atom ar a = ltb a.predicate predicate_count && (places_fit (get_or ar a.predicate 0) 0 (places_of a) && in_order a)

-- l is a label under the arity list ar
unfoldable pub is_label : List ℕ → ℕ → Bool
is_label ar l = is_atom ar (unpacked l)

-- the terms of an atom under the arity list ar: its used places
unfoldable pub terms_of : List ℕ → Atom → List ℕ
terms_of ar a = take (get_or ar a.predicate 0) (places_of a)

-- what an atom asks, after its terms were replaced: t = t is plain truth, an equality has its smaller term first
abbrev pub label_of : Atom → Test
label_of a = Is (record { packed = packed a })

-- the atom that two terms are equal
abbrev pub equal_atom : ℕ → ℕ → Atom
equal_atom t u = atom_from equality (t ∷ u ∷ [])

unfoldable pub equates : ℕ → ℕ → Test
equates t u = cond (eqb t u) Always (cond (ltb t u) (label_of (equal_atom t u)) (label_of (equal_atom u t)))

unfoldable pub test_of : Atom → Test
test_of a = cond (eqb a.predicate equality) (equates a.first a.second) (label_of a)
