-- The ways through the functions that rename the words of a listing, in the words of their tests and callees.
use mathlib.Core.Path.{◌≡◌, refl, ap, sym, ◌∙◌}
use mathlib.Core.Logic.{◌≢◌}
use mathlib.Core.Bool.{true}
use mathlib.Core.List.{List, [], ◌∷◌, ◌++◌, append_assoc}
use Prim.Native.Nat.{ℕ, zero, suc, ◌+◌, ◌*◌, ◌/◌, ◌≤◌, ◌<◌}
use native.Mathlib.Omega.{arith}
use lib.ListN.{length, get_or, set, take, drop}
use lib.Seq.{drop-cons, set_at, take-suc, length-take-le, take_all}
use lib.Dec.{eqb}
use borrow.Author.Tests.{eqb-true, eq-eqb, ne_eqb}
use Rattle.basics.specs.Tests.{and_left}
use Rattle.label.specs.Limits.{predicate_count, leaf_mark}
use Rattle.label.specs.Labels.{are_arities, is_label}
use Rattle.label.specs.Inner.{map_of}
use Rattle.label.specs.Renamings.{renamed}
use Rattle.label.specs.Callers.{Movable}
use Rattle.diagram.specs.Words.{label_at}
use Rattle.diagram.specs.Validity.{ValidRow, a-leaf, a-branch}
use Rattle.diagram.specs.ListingValid.{listing-is-valid}
use Rattle.rename.specs.Inner.{labelled, relabelled}
use Rattle.rename.specs.Calls.{Word, Renamable}
use Rattle.rename.specs.Steps.{Copied}

-- relabel_word
pub word-leaf : (g : ℕ → ℕ) {x : ℕ} → x ≡ leaf_mark → x ≡ labelled g x
word-leaf g {x} e = rw (eq-eqb x leaf_mark e)

pub word-movable : {ar map : List ℕ} {x : ℕ} → Word ar map x → (x ≡ leaf_mark → ⊥) → Movable ar map x
word-movable {ar} {map} {x} w n = record { arities = w.arities; terms = w.terms; label = w.label n }

pub word-branch : (g : ℕ → ℕ) {x y : ℕ} → (x ≡ leaf_mark → ⊥) → y ≡ g x → y ≡ labelled g x
word-branch g {x} {y} n e = rw (ne_eqb x leaf_mark n) e

-- the words of a row
length-relabelled : (g : ℕ → ℕ) (ws : List ℕ) → length (relabelled g ws) ≡ length ws
length-relabelled g [] = refl
length-relabelled g (x ∷ []) = refl
length-relabelled g (x ∷ y ∷ []) = refl
length-relabelled g (x ∷ y ∷ z ∷ ws) = ap (λ n. suc (suc (suc n))) (length-relabelled g ws)

relabelled-row : (g : ℕ → ℕ) (ws : List ℕ) (k : ℕ) → k * 3 + 2 < length ws
    → (get_or (relabelled g ws) (k * 3) 0 ≡ labelled g (get_or ws (k * 3) 0)) × (get_or (relabelled g ws) (k * 3 + 1) 0 ≡ get_or ws (k * 3 + 1) 0)
    × (get_or (relabelled g ws) (k * 3 + 2) 0 ≡ get_or ws (k * 3 + 2) 0)
relabelled-row g [] k h = absurd (omega arith)
relabelled-row g (x ∷ []) k h = absurd (omega arith)
relabelled-row g (x ∷ y ∷ []) k h = absurd (omega arith)
relabelled-row g (x ∷ y ∷ z ∷ ws) zero h = (refl, refl, refl)
relabelled-row g (x ∷ y ∷ z ∷ ws) (suc k) h =
    let e₀ : suc k * 3 ≡ suc (suc (suc (k * 3))) = omega arith in
    let e₁ : suc (suc (suc (k * 3))) + 1 ≡ suc (suc (suc (k * 3 + 1))) = omega arith in
    let e₂ : suc (suc (suc (k * 3))) + 2 ≡ suc (suc (suc (k * 3 + 2))) = omega arith in
    rw (e₀, e₁, e₂) (relabelled-row g ws k (omega arith))

-- one more word written
copy-next : (new old out : List ℕ) (n v : ℕ) → n < length new → n < length old → v ≡ get_or new n 0 → Copied new old out n → Copied new old (set out n v) (suc n)
copy-next new old out n v h k e p =
    let x : out ≡ take n new ++ (get_or old n 0 ∷ drop (suc n) old) = p ∙ ap (λ z. take n new ++ z) (drop-cons old n 0 k) in
    rw (take-suc new n 0 h)
    (ap (λ m. set m n v) x ∙ set_at (take n new) (get_or old n 0) (drop (suc n) old) v n (length-take-le n new (omega arith))
    ∙ ap (λ w. take n new ++ (w ∷ drop (suc n) old)) e ∙ sym (append_assoc (take n new) (get_or new n 0 ∷ []) (drop (suc n) old)))

-- relabel_rows: the first k rows are written
pub record Renaming (ar ws map old out : List ℕ) (k : ℕ) : Type 0 where
  pub within : k ≤ length ws / 3
  pub copied : Copied (relabelled (renamed ar (map_of map)) ws) old out (k * 3)

pub renaming-start : (ar ws map out : List ℕ) → Renaming ar ws map out out 0
renaming-start ar ws map out = record { within = omega arith; copied = refl }

arities-many : (ar : List ℕ) → are_arities ar ≡ true → predicate_count ≤ length ar
unfolding are_arities
arities-many ar e = omega (arith, eqb-true (length ar) predicate_count (and_left (eqb (length ar) predicate_count) _ e))

module _ {ar ws map old : List ℕ} (pre : Renamable ar ws map old) {k : ℕ} (h : k < length ws / 3) where
  pub row_word : Word ar map (get_or ws (k * 3) 0)
  unfolding label_at
  row_word =
      let v = listing-is-valid ar ws pre.listing in
      record { arities = arities-many ar v.arities; terms = pre.terms; label = go (v.each k h) }
    where
      go : ValidRow ar ws k → get_or ws (k * 3) 0 ≢ leaf_mark → is_label ar (get_or ws (k * 3) 0) ≡ true
      go (a-leaf r) n = absurd (n r.mark)
      go (a-branch r) n = r.label

  pub renaming-on : {out : List ℕ} {x : ℕ} → Renaming ar ws map old out k → x ≡ labelled (renamed ar (map_of map)) (get_or ws (k * 3) 0)
      → Renaming ar ws map old (set (set (set out (k * 3) x) (k * 3 + 1) (get_or ws (k * 3 + 1) 0)) (k * 3 + 2) (get_or ws (k * 3 + 2) 0)) (k + 1)
  renaming-on {out} {x} c e = record { within = omega arith; copied = rw (e₃) three }
    where
      g : ℕ → ℕ
      g = renamed ar (map_of map)

      new : List ℕ
      new = relabelled g ws

      e₁ : k * 3 + 1 ≡ suc (k * 3)
      e₁ = omega arith

      e₂ : k * 3 + 2 ≡ suc (suc (k * 3))
      e₂ = omega arith

      e₃ : (k + 1) * 3 ≡ suc (suc (suc (k * 3)))
      e₃ = omega arith

      room : length ws ≤ length old
      room = pre.room

      size : length new ≡ length ws
      size = length-relabelled g ws

      row : (get_or new (k * 3) 0 ≡ labelled g (get_or ws (k * 3) 0)) × (get_or new (k * 3 + 1) 0 ≡ get_or ws (k * 3 + 1) 0) × (get_or new (k * 3 + 2) 0 ≡ get_or ws (k * 3 + 2) 0)
      row = relabelled-row g ws k (omega arith)

      one : Copied new old (set out (k * 3) x) (suc (k * 3))
      one = copy-next new old out (k * 3) x (omega (arith, size)) (omega (arith, room)) (e ∙ sym row.0) c.copied

      two : Copied new old (set (set out (k * 3) x) (k * 3 + 1) (get_or ws (k * 3 + 1) 0)) (suc (suc (k * 3)))
      two =
          rw e₁ (copy-next new old (set out (k * 3) x) (suc (k * 3)) (get_or ws (suc (k * 3)) 0) (omega (arith, size)) (omega (arith, room))
          (ap (λ i. get_or ws i 0) (sym e₁) ∙ sym row.1 ∙ ap (λ i. get_or new i 0) e₁) one)

      three : Copied new old (set (set (set out (k * 3) x) (k * 3 + 1) (get_or ws (k * 3 + 1) 0)) (k * 3 + 2) (get_or ws (k * 3 + 2) 0)) (suc (suc (suc (k * 3))))
      three =
          rw e₂
          (copy-next new old (set (set out (k * 3) x) (k * 3 + 1) (get_or ws (k * 3 + 1) 0)) (suc (suc (k * 3))) (get_or ws (suc (suc (k * 3))) 0) (omega (arith, size)) (omega (arith, room))
          (ap (λ i. get_or ws i 0) (sym e₂) ∙ sym row.2 ∙ ap (λ i. get_or new i 0) e₂) two)

pub renaming-end : {ar ws map old out : List ℕ} {k : ℕ} → Renamable ar ws map old → Renaming ar ws map old out k → length ws / 3 ≤ k
    → out ≡ relabelled (renamed ar (map_of map)) ws ++ drop (length ws) old
renaming-end {ar} {ws} {map} {old} {out} {k} pre c h =
    let v = (listing-is-valid ar ws pre.listing).whole in
    let w = c.within in
    let e : k * 3 ≡ length ws = omega arith in
    let new = relabelled (renamed ar (map_of map)) ws in
    let f : take (length ws) new ≡ new = take_all (length ws) new (omega (arith, length-relabelled (renamed ar (map_of map)) ws)) in
    let p : out ≡ take (length ws) new ++ drop (length ws) old = rw (← e) c.copied in
    p ∙ ap (λ z. z ++ drop (length ws) old) f
