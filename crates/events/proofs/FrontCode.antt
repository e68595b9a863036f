-- What the functions of a pass answer, from what their parts answered.
use mir.Val.{bool_byte}
use mathlib.Core.Path.{◌≡◌, ap, ◌∙◌}
use mathlib.Core.List.{List}
use mathlib.Core.Bool.{Bool, true, false, cond}
use Prim.Native.Nat.{ℕ, suc, ◌+◌, ◌-◌, ◌≤◌, ◌<◌}
use native.Mathlib.Numerals.{add-one}
use native.Mathlib.Omega.{arith}
use lib.Dec.{eqb}
use lib.ListN.{length, get_or, take, drop, drop_of_length-le, length-drop}
use lib.Seq.{drop-cons}
use borrow.Author.Tests.{eq-eqb, ne_eqb}
use Rattle.words.specs.ByteLaws.{part-tail}
use Rattle.events.specs.declared.Seen.{Seen}
use Rattle.events.specs.FrontLaws.{front-moves}
use Rattle.events.specs.Inner.{next_at}
use Rattle.events.specs.Front.{space_bit, spaces, front_of}

module _ (s : List ℕ) (i : ℕ) where
  pub spaces-stop : i < length s → get_or s i 0 ≡ 41 → spaces (drop i s) ≡ 0
  unfolding spaces
  spaces-stop h e = rw (drop-cons s i 0 h) (ap (λ (b : Bool). cond b 0 (space_bit (get_or s i 0) + spaces (drop (suc i) s))) (eq-eqb _ 41 e))

  pub spaces-more : i < length s → (get_or s i 0 ≡ 41 → ⊥) → spaces (drop i s) ≡ space_bit (get_or s i 0) + spaces (drop (i + 1) s)
  unfolding spaces
  spaces-more h e = rw (add-one, drop-cons s i 0 h) (ap (λ (b : Bool). cond b 0 (space_bit (get_or s i 0) + spaces (drop (suc i) s))) (ne_eqb _ 41 e))

  pub spaces-end : length s ≤ i → spaces (drop i s) ≡ 0
  unfolding spaces
  spaces-end h = ap spaces (drop_of_length-le s h)

-- a byte adds one where it is a space
pub bit_is : {n : ℕ} (b : ℕ) → n ≡ bool_byte (eqb b 32) → (n ≡ space_bit b) × (n ≤ 1)
unfolding space_bit
bit_is {n} b = go (eqb b 32)
  where
    go : (t : Bool) → n ≡ bool_byte t → (n ≡ cond t 1 0) × (n ≤ 1)
    go true e = (e, omega (arith, e))
    go false e = (e, omega (arith, e))

pub next-front : (s : List ℕ) (i : ℕ) {x : Seen} → x ≡ front_of (take (length s - i) (drop i s)) → record { event = x.event; place = i + x.taken } ≡ next_at s i
unfolding next_at
next-front s i e = rw (e, part-tail i s)

-- the next place is within the line
pub next-room : (s : List ℕ) (i : ℕ) (x : Seen) → i ≤ length s → x ≡ front_of (take (length s - i) (drop i s)) → i + x.taken ≤ length s
next-room s i x h e =
    let p : x ≡ front_of (drop i s) = e ∙ ap front_of (part-tail i s) in
    omega (arith, ap (λ (y : Seen). y.taken) p, (front-moves (drop i s)).within, length-drop i s)
