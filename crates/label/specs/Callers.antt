-- What callers of the inner functions of this crate must know.
use Rattle.std.specs.Prelude.{List, ◌≡◌, Bool, true, ℕ, ◌-◌, ◌*◌, ◌/◌, ◌^◌, ◌≤◌, ◌<◌, length, get_or, eqb}
use Rattle.label.specs.Limits.{predicate_count, most_places, term_bits, term_base, term_end}
use Rattle.label.specs.Labels.{is_label, predicate_of, unpacked}
use Rattle.label.specs.Inner.{map_of}
use Rattle.label.specs.Renamings.{mapped}
use Rattle.label.specs.declared.Atom.{Atom}

-- the places from place n on are all 0: as one test of the packed number
abbrev pub ends_at : ℕ → ℕ → Bool
ends_at l n = eqb (l / 2 ^ ((most_places - n) * term_bits) * 2 ^ ((most_places - n) * term_bits)) l

-- every place is below n
pub record Places (n : ℕ) (a : Atom) : Type 0 where
  pub first_below : a.first < n
  pub second_below : a.second < n
  pub third-below : a.third < n
  pub fourth-below : a.fourth < n
  pub fifth-below : a.fifth < n
  pub sixth-below : a.sixth < n

-- an atom that packs
pub record Packable (a : Atom) : Type 0 where
  pub predicate-below : a.predicate < predicate_count
  pub places : Places term_base a

-- a lent map of terms: a term for each term
pub record TermMap (map : List ℕ) : Type 0 where
  pub whole : term_end ≤ length map
  pub below : (t : ℕ) → t < term_end → get_or map t 0 < term_end

-- an atom whose places the map has
pub record Mappable (a : Atom) (map : List ℕ) : Type 0 where
  pub whole : term_end ≤ length map
  pub places : Places term_end a

-- a label and a map of its terms
pub record Movable (ar map : List ℕ) (l : ℕ) : Type 0 where
  pub arities : predicate_count ≤ length ar
  pub terms : TermMap map
  pub label : is_label ar l ≡ true

-- the atom r of the label l with its terms replaced
pub record Replaced (ar map : List ℕ) (l : ℕ) (r : Atom) : Type 0 where
  pub atom : r ≡ mapped (map_of map) (get_or ar (predicate_of l) 0) (unpacked l)
  pub packable : Packable r
