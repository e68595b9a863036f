-- What the code of an atom's places needs to know: a label is its atom, and a term added at a place's weight fills that place.
use Prim.Native.Nat.{ℕ, zero, suc, ◌+◌, ◌-◌, ◌*◌, ◌^◌, ◌%◌, ◌/◌, ◌≤◌, ◌<◌}
use mathlib.Core.Path.{◌≡◌, refl, sym, ap, subst, ◌∙◌}
use mathlib.Core.List.{List, [], ◌∷◌}
use native.Mathlib.Omega.{arith}
use lib.ListN.{length, get_or, take, set, length-set, get_or-eq_default}
use lib.Seq.{ext_get_or, get_or-set_same, get_or-set_other}
use native.Mathlib.Nat.{lt_of_lt_of_le}
use lib.Pow.{shl_lt, pow_mono, shl_exact}
use Rattle.basics.specs.Tests.{Cmp, cmp}
use Rattle.basics.specs.Tests.Cmp.{below, equal, above}
use Rattle.label.specs.Limits.{predicate_count, predicate_weight, most_places, term_bits, term_base, weight_at}
use Rattle.label.specs.Labels.{places_of, place_in, atom_from, weighed, packed, predicate_of, unpacked}
use Rattle.label.proofs.LabelLaws.{places-below, below-places, atom-same, place-from, packed-unpacked, unpacked-packed}
use Rattle.label.proofs.ArityLaws.{take_at, take_past}
use Rattle.label.specs.Callers.{Places, Packable}
use Rattle.label.specs.declared.Atom.{Atom}
use Rattle.reader.specs.Callers.{placed, Fillable}

-- atoms by their places

-- an atom is its predicate and its places up to where the rest is 0
pub whole : (a : Atom) (n : ℕ) → ((k : ℕ) → n ≤ k → place_in a k ≡ 0) → atom_from a.predicate (take n (places_of a)) ≡ a
whole a n z = atom-same (atom_from a.predicate (take n (places_of a))) a refl (λ k h. place-from a.predicate (take n (places_of a)) k h ∙ go k (cmp k n))
  where
    go : (k : ℕ) → Cmp k n → get_or (take n (places_of a)) k 0 ≡ place_in a k
    go k (below h) = take_at n (places_of a) k h
    go k (equal h) = take_past n (places_of a) k (omega arith) ∙ sym (z k (omega arith))
    go k (above h) = take_past n (places_of a) k (omega arith) ∙ sym (z k (omega arith))

places-from : (q : ℕ) (ts : List ℕ) → length ts ≡ most_places → places_of (atom_from q ts) ≡ ts
places-from q ts e = ext_get_or 0 (places_of (atom_from q ts)) ts (sym e) (λ k h. place-from q ts k h)

-- an atom without terms

empty-packed : (q : ℕ) → packed (atom_from q []) ≡ q * predicate_weight
unfolding packed
empty-packed q = omega arith

empty-places : (q : ℕ) → Places term_base (atom_from q [])
empty-places q = below-places term_base (atom_from q []) (λ k h. rw (place-from q [] k h) (omega arith))

pub empty-unpacked : (q : ℕ) → unpacked (q * predicate_weight) ≡ atom_from q []
empty-unpacked q = ap unpacked (sym (empty-packed q)) ∙ unpacked-packed (atom_from q []) (empty-places q)

pub empty-packs : (q : ℕ) → q < predicate_count → Packable (unpacked (q * predicate_weight))
empty-packs q h = rw (empty-unpacked q) (record { predicate-below = h; places = empty-places q })

pub empty-unfilled : (q k : ℕ) → place_in (unpacked (q * predicate_weight)) k ≡ 0
empty-unfilled q k = ap (λ (a : Atom). place_in a k) (empty-unpacked q) ∙ go (cmp k most_places)
  where
    go : Cmp k most_places → place_in (atom_from q []) k ≡ 0
    go (below h) = place-from q [] k h
    go (equal h) = get_or-eq_default (places_of (atom_from q [])) 0 {n = k} (omega arith)
    go (above h) = get_or-eq_default (places_of (atom_from q [])) 0 {n = k} (omega arith)

-- a place is filled

module _ (a : Atom) (k t : ℕ) where
  pub placed-places : places_of (placed a k t) ≡ set (places_of a) k t
  placed-places = places-from a.predicate (set (places_of a) k t) (length-set (places_of a) k t)

  pub placed-other : (j : ℕ) → k < j → place_in (placed a k t) j ≡ place_in a j
  placed-other j h = ap (λ (ts : List ℕ). get_or ts j 0) placed-places ∙ get_or-set_other (places_of a) k j t 0 (λ e. omega arith)

  placed_below : Places term_base a → t < term_base → Places term_base (placed a k t)
  placed_below p h = below-places term_base (placed a k t) (λ j l. subst (λ (ts : List ℕ). get_or ts j 0 < term_base) (sym placed-places) (go j l (cmp j k)))
    where
      other : (j : ℕ) → j < most_places → (j ≡ k → ⊥) → get_or (set (places_of a) k t) j 0 < term_base
      other j l f = rw (get_or-set_other (places_of a) k j t 0 f) (places-below a p j l)

      go : (j : ℕ) → j < most_places → Cmp j k → get_or (set (places_of a) k t) j 0 < term_base
      go j l (below f) = other j l (λ e. omega arith)
      go j l (equal e) = rw (e, get_or-set_same (places_of a) k t 0 (omega arith)) h
      go j l (above f) = other j l (λ e. omega arith)

  pub placed-packs : Packable a → t < term_base → Packable (placed a k t)
  placed-packs p h = record { predicate-below = p.predicate-below; places = placed_below p.places h }

-- the sum of the weighed places grows by the weighed term

first-grows : (x t w v r : ℕ) → x ≡ 0 → w ≡ v → t * w + r ≡ x * w + r + t * v
first-grows x t w v r e f = rw (e, ← f) (omega arith)

later-grows : (x y z w v : ℕ) → y ≡ z + w → w ≡ v → x + y ≡ x + z + v
later-grows x y z w v e f = omega arith

weighed-set : (ts : List ℕ) (j k t : ℕ) → k < length ts → get_or ts k 0 ≡ 0 → weighed j (set ts k t) ≡ weighed j ts + t * weight_at (j + k)
weighed-set [] j k t h e = absurd (omega arith)
weighed-set (x ∷ ts) j zero t h e =
    first-grows x t (weight_at j) (weight_at (j + 0)) (weighed (suc j) ts) e (ap (λ (i : ℕ). weight_at i) (omega arith))
weighed-set (x ∷ ts) j (suc k) t h e =
    later-grows (x * weight_at j) (weighed (suc j) (set ts k t)) (weighed (suc j) ts) (t * weight_at (suc j + k)) (t * weight_at (j + suc k))
    (weighed-set ts (suc j) k t (omega arith) e) (ap (λ (i : ℕ). t * weight_at i) (omega arith))

placed-packed : (a : Atom) (k t : ℕ) → k < most_places → place_in a k ≡ 0 → packed (placed a k t) ≡ packed a + t * weight_at k
unfolding packed
placed-packed a k t h e =
    ap (λ (ts : List ℕ). a.predicate * predicate_weight + weighed 0 ts) (placed-places a k t)
    ∙ later-grows (a.predicate * predicate_weight) (weighed 0 (set (places_of a) k t)) (weighed 0 (places_of a)) (t * weight_at (0 + k)) (t * weight_at k)
    (weighed-set (places_of a) 0 k t h e) (ap (λ (i : ℕ). t * weight_at i) (omega arith))

-- so the code's sum is the label of the atom with the place filled

abbrev word_bits : ℕ
word_bits = 64

module _ (l k t : ℕ) (f : Fillable l k t) where
  places-end : t * weight_at k < predicate_weight
  places-end =
      lt_of_lt_of_le (shl_lt term_bits ((most_places - 1 - k) * term_bits) f.term) (pow_mono {j = most_places * term_bits} (omega (arith, f.place)))

  label-end : l < predicate_count * predicate_weight
  unfolding unpacked predicate_of
  label-end = let h : l / predicate_weight < predicate_count = f.packable.predicate-below in omega arith

  shift-exact : (t * weight_at k) % 2 ^ word_bits ≡ t * weight_at k
  shift-exact = shl_exact term_bits ((most_places - 1 - k) * term_bits) word_bits f.term (omega arith)

  pub fill-room : l + (t * weight_at k) % 2 ^ word_bits < 2 ^ word_bits
  fill-room = rw shift-exact (omega (arith, places-end, label-end))

  pub fill_is : unpacked (l + (t * weight_at k) % 2 ^ word_bits) ≡ placed (unpacked l) k t
  fill_is =
      ap (λ (x : ℕ). unpacked (l + x)) shift-exact
      ∙ ap (λ (x : ℕ). unpacked (x + t * weight_at k)) (sym (packed-unpacked l))
      ∙ ap unpacked (sym (placed-packed (unpacked l) k t f.place f.zero))
      ∙ unpacked-packed (placed (unpacked l) k t) (placed_below (unpacked l) k t f.packable.places f.term)
