-- Laws of bytes written one after another.
use Prim.Native.Nat.{ℕ, suc, ◌+◌, ◌/◌, ◌%◌, ◌≤◌, ◌<◌}
use mathlib.Core.Path.{◌≡◌, sym, ap, ◌∙◌}
use mathlib.Core.List.{List, [], ◌∷◌, ◌++◌, append_assoc, append-nil}
use native.Mathlib.Omega.{arith}
use native.Mathlib.Numerals.{add-one}
use lib.ListN.{length, get_or, set, take, drop, length-append, take-append-drop}
use lib.Seq.{set_split, set_at, drop-cons, length-take-le, append_snoc, take_at, drop-append-add, drop-drop}
use Rattle.answers.specs.Digits.{digits}
use Rattle.answers.specs.DigitLaws.{digits-one, digits_more, digits-some, digits-short}
use Rattle.cutting.specs.declared.Edge.{Edge}
use Rattle.cutting.specs.declared.Edge.TheVariants.{True, False}
use Rattle.answers.specs.Answers.{field, edge_field, line_end}
use Rattle.answers.specs.Inner.{line_bytes}
use Rattle.answering.specs.Wrote.{Wrote, WroteWithin}

module _ (s : List ℕ) (place : ℕ) where
  pub wrote_nothing : Wrote s place [] place s
  wrote_nothing = record { behind = omega arith; bytes = rw (append-nil (take place s)) (sym (take-append-drop place s)) }

  pub one_byte : (b : ℕ) → place < length s → Wrote s place (b ∷ []) (place + 1) (set s place b)
  one_byte b h = record { behind = omega arith; bytes = rw (add-one place) (set_split s place b h ∙ sym (append_snoc (take place s) b (drop (suc place) s))) }

  -- one byte more
  more_byte : (w : List ℕ) (i b : ℕ) (s₁ : List ℕ) → i < length s → Wrote s place w i s₁ → Wrote s place (w ++ (b ∷ [])) (i + 1) (set s₁ i b)
  more_byte w i b s₁ h p =
      let n : length (take place s ++ w) ≡ i = omega (arith, length-append (take place s) w, length-take-le place s (omega (arith, p.behind)), p.behind) in
      let e : s₁ ≡ (take place s ++ w) ++ get_or s i 0 ∷ drop (suc i) s = p.bytes ∙ ap (λ (x : List ℕ). (take place s ++ w) ++ x) (drop-cons s i 0 h) in
      record {
        behind = omega (arith, length-append w (b ∷ []), p.behind);
        bytes = rw (e, add-one i) (set_at (take place s ++ w) (get_or s i 0) (drop (suc i) s) b i n ∙ shape (take place s) w b (drop (suc i) s));
      }
    where
      shape : (x y : List ℕ) (c : ℕ) (z : List ℕ) → (x ++ y) ++ c ∷ z ≡ (x ++ (y ++ (c ∷ []))) ++ z
      shape x y c z = simp append_assoc

-- first some bytes, then others behind them
pub wrote_then : {s v s₁ w s₂ : List ℕ} {place q r : ℕ} → q ≤ length s → Wrote s place v q s₁ → Wrote s₁ q w r s₂ → Wrote s place (v ++ w) r s₂
wrote_then {s} {v} {s₁} {w} {s₂} {place} {q} {r} h x y =
    let P : List ℕ = take place s ++ v in
    let n : length P ≡ q = omega (arith, length-append (take place s) v, length-take-le place s (omega (arith, x.behind)), x.behind) in
    let f : take q s₁ ≡ P = rw x.bytes (take_at P (drop q s) q n) in
    let m : length P + length w ≡ r = omega (arith, y.behind) in
    let k : q + length w ≡ length P + length w = omega arith in
    let g : drop r s₁ ≡ drop r s =
    rw (x.bytes, ← m) (drop-append-add P (drop q s) (length w) ∙ drop-drop (length w) q s ∙ ap (λ (k : ℕ). drop k s) k) in
    record {
      behind = omega (arith, x.behind, y.behind, length-append v w);
      bytes = y.bytes ∙ (λ i. f i ++ w ++ g i) ∙ shape (take place s) v w (drop r s);
    }
  where
    shape : (a b c d : List ℕ) → ((a ++ b) ++ c) ++ d ≡ (a ++ (b ++ c)) ++ d
    shape a b c d = simp append_assoc

-- a number's digits
number-below : {s s₁ : List ℕ} {place v i : ℕ} → place + length (digits v) ≤ length s → 9 < v → Wrote s place (digits (v / 10)) i s₁ → i < length s
number-below {s} {s₁} {place} {v} {i} h l p =
    let e = ap length (digits_more v l) in
    omega (arith, p.behind, length-append (digits (v / 10)) ((v % 10 + 48) ∷ []))

pub number-next : {s s₁ : List ℕ} {place v i : ℕ} → place + length (digits v) ≤ length s → 9 < v → Wrote s place (digits (v / 10)) i s₁
    → length s₁ ≡ length s → i < length s₁
number-next h l p e = omega (arith, number-below h l p)

pub number-first : (s : List ℕ) (place v : ℕ) → place + length (digits v) ≤ length s → place < length s
number-first s place v h = omega (arith, digits-some v)

pub number-room : (s : List ℕ) (place v : ℕ) → place + length (digits v) ≤ length s → 9 < v → place + length (digits (v / 10)) ≤ length s
number-room s place v h l =
    let e = ap length (digits_more v l) in
    omega (arith, length-append (digits (v / 10)) ((v % 10 + 48) ∷ []))

pub number-one : {s : List ℕ} {place v : ℕ} → place + length (digits v) ≤ length s → v ≤ 9 → Wrote s place (digits v) (place + 1) (set s place (v + 48))
number-one {s} {place} {v} h l = rw (digits-one v l) (one_byte s place (v + 48) (omega (arith, digits-some v)))

pub number_more : {s s₁ : List ℕ} {place v i : ℕ} → place + length (digits v) ≤ length s → 9 < v → Wrote s place (digits (v / 10)) i s₁
    → Wrote s place (digits v) (i + 1) (set s₁ i (v % 10 + 48))
number_more {s} {s₁} {place} {v} {i} h l p =
    rw (digits_more v l) (more_byte s place (digits (v / 10)) i (v % 10 + 48) s₁ (number-below h l p) p)

-- a space and a number
pub field_room : {s s₁ : List ℕ} {place i : ℕ} (v : ℕ) → place + 21 ≤ length s → Wrote s place (32 ∷ []) i s₁ → length s₁ ≡ length s → v < 18446744073709551616
    → i + length (digits v) ≤ length s₁
field_room v h p e l = omega (arith, p.behind, digits-short v l)

pub wrote-field : {s s₁ s₂ : List ℕ} {place i r : ℕ} (v : ℕ) → place + 21 ≤ length s → Wrote s place (32 ∷ []) i s₁ → Wrote s₁ i (digits v) r s₂
    → v < 18446744073709551616 → WroteWithin s place (field v) 21 r s₂
unfolding field
wrote-field v h p q l =
    record { wrote = wrote_then (omega (arith, p.behind)) p q; within = omega (arith, digits-short v l) }

-- an edge's side
pub edge-true : {s s' : List ℕ} {place r : ℕ} {e : Edge} → e ≡ True → Wrote s place (edge_field True) r s' → WroteWithin s place (edge_field e) 6 r s'
edge-true q p = rw q (record { wrote = p; within = omega arith })

pub edge-false : {s s' : List ℕ} {place r : ℕ} {e : Edge} → e ≡ False → Wrote s place (edge_field False) r s' → WroteWithin s place (edge_field e) 6 r s'
edge-false q p = rw q (record { wrote = p; within = omega arith })

-- one word of a line more, where the line has room
pub wrote-more : {s v s₁ w s₂ : List ℕ} {m n q r : ℕ} → m + n ≤ length s → WroteWithin s 0 v m q s₁ → WroteWithin s₁ q w n r s₂ → WroteWithin s 0 (v ++ w) (m + n) r s₂
wrote-more {s} {v} {s₁} {w} h x y =
    record {
      wrote = wrote_then (omega (arith, x.wrote.behind, x.within)) x.wrote y.wrote;
      within = omega (arith, length-append v w, x.within, y.within);
    }

-- a line's beginning, and its end
pub of_word : {s w s' : List ℕ} {place r : ℕ} (n : ℕ) → length w ≤ n → Wrote s place w r s' → WroteWithin s place w n r s'
of_word n h p = record { wrote = p; within = h }

pub wider : {s w s' : List ℕ} {place r m : ℕ} (n : ℕ) → m ≤ n → WroteWithin s place w m r s' → WroteWithin s place w n r s'
wider n h p = record { wrote = p.wrote; within = omega (arith, p.within) }

module _ {s head s₁ : List ℕ} {i : ℕ} (room : line_bytes ≤ length s) (short : length head ≤ 8) (h : Wrote s 0 head i s₁) where
  pub one_field : {s₂ s' a : List ℕ} {j r : ℕ} → WroteWithin s₁ i a 21 j s₂ → Wrote s₂ j line_end r s' → WroteWithin s 0 (head ++ a ++ line_end) line_bytes r s'
  one_field x e = wider line_bytes (omega arith) (wrote-more (omega arith) (wrote-more (omega arith) (of_word 8 short h) x) (of_word 2 (omega arith) e))

  module _ {s₂ s₃ a b : List ℕ} {j k : ℕ} (x : WroteWithin s₁ i a 21 j s₂) (y : WroteWithin s₂ j b 21 k s₃) where
    two-words : WroteWithin s 0 (head ++ a ++ b) 50 k s₃
    two-words = wrote-more (omega arith) (wrote-more (omega arith) (of_word 8 short h) x) y

    pub two_fields : {s' : List ℕ} {r : ℕ} → Wrote s₃ k line_end r s' → WroteWithin s 0 (head ++ a ++ b ++ line_end) line_bytes r s'
    two_fields e = wider line_bytes (omega arith) (wrote-more (omega arith) two-words (of_word 2 (omega arith) e))

    module _ {s₄ c : List ℕ} {l : ℕ} (z : WroteWithin s₃ k c 21 l s₄) where
      three-words : WroteWithin s 0 (head ++ a ++ b ++ c) 71 l s₄
      three-words = wrote-more (omega arith) two-words z

      pub three-fields : {s' : List ℕ} {r : ℕ} → Wrote s₄ l line_end r s' → WroteWithin s 0 (head ++ a ++ b ++ c ++ line_end) line_bytes r s'
      three-fields e = wider line_bytes (omega arith) (wrote-more (omega arith) three-words (of_word 2 (omega arith) e))

      module _ {s₅ d : List ℕ} {m : ℕ} (u : WroteWithin s₄ l d 21 m s₅) (four : length head ≤ 4) where
        pub four-fields : {s' : List ℕ} {r : ℕ} → Wrote s₅ m line_end r s' → WroteWithin s 0 (head ++ a ++ b ++ c ++ d ++ line_end) line_bytes r s'
        four-fields e =
            wider line_bytes (omega arith)
            (wrote-more (omega arith) (wrote-more (omega arith) (wrote-more (omega arith) (wrote-more (omega arith) (wrote-more (omega arith) (of_word 4 four h) x) y) z) u)
            (of_word 2 (omega arith) e))
