-- The objects of a (did ..) line as they are written and as they are held: a number above 10^18 is held at 10^18 + 1, and none of these is an object.
use Rattle.std.specs.Prelude.{◌≡◌, refl, Bool, true, false, ◌&&◌, List, [], ◌∷◌, map, ℕ, zero, suc, ◌≤◌, ◌<◌, length, get_or, ltb}
use Rattle.std.proofs.Common.{ap, ap₂, sym, ◌∙◌, ltb-true, ltb-false, lt-ltb}
use native.Mathlib.Omega.{arith}
use Rattle.basics.specs.Tests.{and_left, and_right, Flag, is_true, is_false, flag}
use Rattle.basics.specs.Members.{clash}
use Rattle.state.specs.Max.{Tuple, none, more}
use Rattle.state.specs.Lent.{all_below, most_objects}
use Rattle.words.specs.Bytes.{decimal, value_of}
use Rattle.events.specs.Events.{number_event}
use Rattle.events.specs.Contents.{numbers_in}

pub numbers-held : (ns : List (List ℕ)) → numbers_in (map number_event ns) ≡ map value_of ns
numbers-held [] = refl
numbers-held (n ∷ ns) = ap (λ (l : List ℕ). value_of n ∷ l) (numbers-held ns)

module _ (n : ℕ) (few : n ≤ most_objects) where
  held : (d : List ℕ) → decimal d < n → value_of d ≡ decimal d
  unfolding value_of
  held d h = omega arith

  written : (d : List ℕ) → value_of d < n → decimal d < n
  unfolding value_of
  written d h = omega arith

  abbrev pub Below : List (List ℕ) → Type 0
  Below ns = (i : ℕ) → i < length ns → decimal (get_or ns i []) < n

  rest : (d : List ℕ) (ns : List (List ℕ)) → Below (d ∷ ns) → Below ns
  rest d ns h i l = h (suc i) (omega arith)

  pub objects-held : (ns : List (List ℕ)) → Below ns → map value_of ns ≡ map decimal ns
  objects-held [] h = refl
  objects-held (d ∷ ns) h = ap₂ (λ (o : ℕ) (os : List ℕ). o ∷ os) (held d (h 0 (omega arith))) (objects-held ns (rest d ns h))

  pub objects-tuple : (ns : List (List ℕ)) → Below ns → Tuple n (length ns) (map decimal ns)
  objects-tuple [] h = none
  objects-tuple (d ∷ ns) h = more (h 0 (omega arith)) (objects-tuple ns (rest d ns h))

  pub objects-below : (ns : List (List ℕ)) → Below ns → all_below n (map value_of ns) ≡ true
  objects-below [] h = refl
  objects-below (d ∷ ns) h =
      let k = h 0 (omega arith) in
      let e = held d k in
      ap₂ ◌&&◌ (lt-ltb (value_of d) n (omega arith)) (objects-below ns (rest d ns h))

  pub below-objects : (ns : List (List ℕ)) → all_below n (map value_of ns) ≡ true → Below ns
  below-objects [] e i l = absurd (omega arith)
  below-objects (d ∷ ns) e zero l = written d (ltb-true (value_of d) n (and_left (ltb (value_of d) n) _ e))
  below-objects (d ∷ ns) e (suc i) l = below-objects ns (and_right (ltb (value_of d) n) _ e) i (omega arith)

  beyond : (d : List ℕ) → n ≤ value_of d → n ≤ decimal d
  unfolding value_of
  beyond d h = omega arith

  -- one is n or beyond
  pub not-below : (ns : List (List ℕ)) → all_below n (map value_of ns) ≡ false → (i : ℕ) × (i < length ns) × (n ≤ decimal (get_or ns i []))
  not-below [] e = clash refl e
  not-below (d ∷ ns) e = go (flag (ltb (value_of d) n)) (not-below ns)
    where
      go : Flag (ltb (value_of d) n) → (all_below n (map value_of ns) ≡ false → (i : ℕ) × (i < length ns) × (n ≤ decimal (get_or ns i [])))
          → (i : ℕ) × (i < length (d ∷ ns)) × (n ≤ decimal (get_or (d ∷ ns) i []))
      go (is_false f) ih = (0, omega arith, beyond d (ltb-false (value_of d) n f))
      go (is_true f) ih = let x = ih (sym (ap (λ (b : Bool). b && all_below n (map value_of ns)) f) ∙ e) in let l = x.1 in (suc x.0, omega arith, x.2)
