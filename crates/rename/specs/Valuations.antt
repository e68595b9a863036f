-- What a valuation makes of labels (document 01, section 'States and value').
use Rattle.std.specs.Prelude.{Bool, List, map, ℕ}
use Rattle.label.specs.Labels.{predicate_of, unpacked, terms_of}
use Rattle.diagram.specs.Diagram.{Diagram, eval}

-- the choice that an assignment θ of objects to terms makes, where h says which predicates hold of which objects
unfoldable pub holds : List ℕ → (ℕ → List ℕ → Bool) → (ℕ → ℕ) → ℕ → Bool
holds ar h θ l = h (predicate_of l) (map θ (terms_of ar (unpacked l)))

-- the leaf that an assignment leads to
abbrev pub leaf_of : List ℕ → (ℕ → List ℕ → Bool) → (ℕ → ℕ) → Diagram → ℕ
leaf_of ar h θ d = eval (holds ar h θ) d
