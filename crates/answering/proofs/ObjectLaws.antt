-- Laws of bytes written as numbers, a space before each.
use Prim.Native.Nat.{ℕ, ◌+◌, ◌*◌, ◌≤◌, ◌<◌}
use mathlib.Core.Path.{◌≡◌, refl, sym, ap, ◌∙◌}
use mathlib.Core.List.{List, [], ◌∷◌, ◌++◌, append_assoc, append-nil}
use native.Mathlib.Omega.{arith}
use native.Mathlib.Numerals.{add-one}
use lib.ListN.{length, get_or, take, length-append}
use lib.Seq.{take-suc, take_all}
use Rattle.answers.specs.DigitLaws.{digits-byte}
use Rattle.answers.specs.Answers.{field, fields}
use Rattle.answering.specs.Wrote.{Wrote, WroteWithin}
use Rattle.answering.proofs.WriteLaws.{wrote_nothing, wrote_then}

fields-append : (us vs : List ℕ) → fields (us ++ vs) ≡ fields us ++ fields vs
unfolding fields
fields-append [] vs = refl
fields-append (u ∷ us) vs = rw (fields-append us vs) (sym (append_assoc (field u) (fields us) (fields vs)))

fields-more : (vs : List ℕ) (i : ℕ) → i < length vs → fields (take (i + 1) vs) ≡ fields (take i vs) ++ field (get_or vs i 0)
unfolding fields
fields-more vs i h =
    rw (add-one i, take-suc vs i 0 h)
    (fields-append (take i vs) (get_or vs i 0 ∷ []) ∙ ap (λ (w : List ℕ). fields (take i vs) ++ w) (append-nil (field (get_or vs i 0))))

-- the first i of at most n objects written
pub record ObjectsWritten (s vs : List ℕ) (n place i end : ℕ) (s₁ : List ℕ) : Type 0 where
  pub within : i ≤ length vs
  pub few : i ≤ n
  pub wrote : Wrote s place (fields (take i vs)) end s₁
  pub short : length (fields (take i vs)) ≤ i * 4
  pub same : length s₁ ≡ length s

pub objects-start : (s vs : List ℕ) (n place : ℕ) → ObjectsWritten s vs n place 0 place s
unfolding fields
objects-start s [] n place = record { within = omega arith; few = omega arith; wrote = wrote_nothing s place; short = omega arith; same = refl }
objects-start s (v ∷ vs) n place = record { within = omega arith; few = omega arith; wrote = wrote_nothing s place; short = omega arith; same = refl }

module _ {s vs s₁ : List ℕ} {n place i end : ℕ} (room : place + length vs * 4 + 21 ≤ length s) (x : ObjectsWritten s vs n place i end s₁) (h : i < length vs) where
  pub object-room : end + 21 ≤ length s₁
  object-room = omega (arith, x.wrote.behind, x.short, x.same)

  byte-short : get_or vs i 0 < 256 → length (field (get_or vs i 0)) ≤ 4
  unfolding field
  byte-short b = omega (arith, digits-byte (get_or vs i 0) b)

  pub object-more : {s₂ : List ℕ} {r : ℕ} → (i ≡ n → ⊥) → get_or vs i 0 < 256 → length s₂ ≡ length s₁ → WroteWithin s₁ end (field (get_or vs i 0)) 21 r s₂
      → ObjectsWritten s vs n place (i + 1) r s₂
  object-more {s₂} {r} g b e p =
      let q = fields-more vs i h in
      record {
        within = omega arith;
        few = omega (arith, x.few);
        wrote = rw q (wrote_then (omega (arith, x.wrote.behind, x.short)) x.wrote p.wrote);
        short = omega (arith, ap length q, length-append (fields (take i vs)) (field (get_or vs i 0)), x.short, byte-short b);
        same = e ∙ x.same;
      }

module _ {s vs s₁ : List ℕ} {n place i end : ℕ} (x : ObjectsWritten s vs n place i end s₁) where
  pub objects-all : i ≡ n → WroteWithin s place (fields (take n vs)) (length vs * 4) end s₁
  objects-all e = rw (← e) (record { wrote = x.wrote; within = omega (arith, x.short, x.within) })

  pub objects-done : length vs ≤ i → WroteWithin s place (fields (take n vs)) (length vs * 4) end s₁
  objects-done h =
      let e : take n vs ≡ take i vs = take_all n vs (omega (arith, x.few)) ∙ sym (take_all i vs h) in
      rw e (record { wrote = x.wrote; within = omega (arith, x.short, x.within) })
