-- Laws of the lines of answers and of rows.
use Prim.Native.Nat.{ℕ, ◌+◌, ◌*◌, ◌-◌, ◌≤◌, ◌<◌}
use mathlib.Core.Path.{◌≡◌, sym, subst}
use mathlib.Core.List.{List, [], ◌∷◌, ◌++◌}
use native.Mathlib.Omega.{arith}
use borrow.Author.Tests.{eq-eqb, ne_eqb, le-leb, lt-leb}
use lib.ListN.{length, get_or, take, drop}
use lib.Seq.{take_at, length-take-le}
use Rattle.words.specs.declared.Key.{Key}
use Rattle.words.specs.Keys.{name_of}
use Rattle.refusal.specs.declared.Refusal.{Refusal}
use Rattle.refusal.specs.Numbers.{number_of}
use Rattle.label.specs.Limits.{leaf_mark}
use Rattle.diagram.specs.Words.{label_at, high_at, low_at}
use Rattle.cutting.specs.declared.Edge.{Edge}
use Rattle.answers.specs.declared.Answer.{Answer}
use Rattle.answers.specs.declared.Answer.TheVariants.{Value, Backup, Cut, Reduce, Refused, Best, Did}
use Rattle.answers.specs.Answers.{field, fields, name_field, edge_field, leaf_field, line_end, answer_line, row_line, row_line_at, count_line_at}
use Rattle.answers.specs.Answers.{value_head, backup_head, cut_head, reduce_head, best_head, count_head, did_head, refused_head, row_head}
use Rattle.answers.specs.Inner.{line_bytes, put_answer, put_result, Placed}
use Rattle.answering.specs.Wrote.{Wrote, WroteWithin}
use Rattle.answering.proofs.WriteLaws.{wrote_nothing, one_field, three-fields, four-fields, of_word, wider, wrote-more}
use Rattle.answering.proofs.KeyLaws.{name-short}
use Rattle.std.specs.Prelude.{None, Option, Some}

-- the line of three parts
pub reduce-parts : {s s₁ s₂ s' a : List ℕ} {i j r : ℕ} → line_bytes ≤ length s → Wrote s 0 reduce_head i s₁ → WroteWithin s₁ i a 21 j s₂ → Wrote s₂ j line_end r s'
    → WroteWithin s 0 (reduce_head ++ a ++ line_end) line_bytes r s'
reduce-parts room h x e = one_field room (omega arith) h x e

-- the lines of five and six parts
module _ {s s₁ s₂ s₃ s₄ s' a b c : List ℕ} {i j k l r : ℕ} (room : line_bytes ≤ length s) where
  pub value-parts : Wrote s 0 value_head i s₁ → WroteWithin s₁ i a 21 j s₂ → WroteWithin s₂ j b 21 k s₃ → WroteWithin s₃ k c 21 l s₄ → Wrote s₄ l line_end r s'
      → WroteWithin s 0 (value_head ++ a ++ b ++ c ++ line_end) line_bytes r s'
  value-parts h x y z e = three-fields room (omega arith) h x y z e

  pub cut_parts : Wrote s 0 cut_head i s₁ → WroteWithin s₁ i a 21 j s₂ → WroteWithin s₂ j b 6 k s₃ → WroteWithin s₃ k c 21 l s₄ → Wrote s₄ l line_end r s'
      → WroteWithin s 0 (cut_head ++ a ++ b ++ c ++ line_end) line_bytes r s'
  cut_parts h x y z e = three-fields room (omega arith) h x (wider 21 (omega arith) y) z e

  pub branch-parts : {s₅ d : List ℕ} {m : ℕ} → Wrote s 0 row_head i s₁ → WroteWithin s₁ i a 21 j s₂ → WroteWithin s₂ j b 21 k s₃ → WroteWithin s₃ k c 21 l s₄ → WroteWithin s₄ l d 21 m s₅
      → Wrote s₅ m line_end r s' → WroteWithin s 0 (row_head ++ a ++ b ++ c ++ d ++ line_end) line_bytes r s'
  branch-parts h x y z u e = four-fields room (omega arith) h x y z u (omega arith) e

module _ {s s₁ s₂ s₃ s₄ s' a c : List ℕ} {i j k l r : ℕ} (room : line_bytes ≤ length s) where
  pub leaf-parts : Wrote s 0 row_head i s₁ → WroteWithin s₁ i a 21 j s₂ → Wrote s₂ j leaf_field k s₃ → WroteWithin s₃ k c 21 l s₄ → Wrote s₄ l line_end r s'
      → WroteWithin s 0 (row_head ++ a ++ leaf_field ++ c ++ line_end) line_bytes r s'
  leaf-parts h x y z e = three-fields room (omega arith) h x (of_word 21 (omega arith) y) z e

-- the line of a move: behind its head and a space the name, then the objects
abbrev move_head : List ℕ
move_head = best_head ++ (32 ∷ [])

module _ {s s₁ : List ℕ} {i : ℕ} (k : Key) (room : line_bytes ≤ length s) (h : Wrote s 0 move_head i s₁) where
  pub name-room : length s₁ ≡ length s → i + length (name_of k) ≤ length s₁
  name-room e = omega (arith, h.behind, name-short k)

  module _ {s₂ : List ℕ} {j : ℕ} (x : Wrote s₁ i (name_of k) j s₂) where
    pub objects-room : length s₁ ≡ length s → length s₂ ≡ length s₁ → j + 16 + 21 ≤ length s₂
    objects-room e g = omega (arith, h.behind, x.behind, name-short k)

    pub end-room : {s₃ w : List ℕ} {l : ℕ} → length s₁ ≡ length s → length s₂ ≡ length s₁ → length s₃ ≡ length s₂ → WroteWithin s₂ j w 16 l s₃ → l + 2 ≤ length s₃
    end-room e g m y = omega (arith, h.behind, x.behind, name-short k, y.wrote.behind, y.within)

    pub move-parts : {s₃ s' w : List ℕ} {l r : ℕ} → WroteWithin s₂ j w 16 l s₃ → Wrote s₃ l line_end r s'
        → WroteWithin s 0 (best_head ++ name_field k ++ w ++ line_end) line_bytes r s'
    unfolding name_field
    move-parts y e =
        let n = wrote-more (omega arith) (of_word 6 (omega arith) h) (of_word 15 (name-short k) x) in
        wider line_bytes (omega arith) (wrote-more (omega arith) (wrote-more (omega arith) n y) (of_word 2 (omega arith) e))

-- the line of a row
module _ {s s' : List ℕ} {r : ℕ} (ws : List ℕ) (k : ℕ) where
  pub row-leaf : get_or ws (k * 3) 0 ≡ leaf_mark → WroteWithin s 0 (row_head ++ field k ++ leaf_field ++ field (get_or ws (k * 3 + 1) 0) ++ line_end) line_bytes r s'
      → WroteWithin s 0 (row_line_at ws k) line_bytes r s'
  unfolding row_line_at row_line label_at high_at
  row-leaf e w = rw (eq-eqb (get_or ws (k * 3) 0) leaf_mark e) w

  pub row-branch : (get_or ws (k * 3) 0 ≡ leaf_mark → ⊥)
      → WroteWithin s 0 (row_head ++ field k ++ field (get_or ws (k * 3) 0) ++ field (get_or ws (k * 3 + 1) 0) ++ field (get_or ws (k * 3 + 2) 0) ++ line_end) line_bytes r s'
      → WroteWithin s 0 (row_line_at ws k) line_bytes r s'
  unfolding row_line_at row_line label_at high_at low_at
  row-branch e w = rw (ne_eqb (get_or ws (k * 3) 0) leaf_mark e) w

-- a line of a spread
pub count-pair : {s s' : List ℕ} {r : ℕ} (ws : List ℕ) (k : ℕ)
    → WroteWithin s 0 (count_head ++ field (get_or ws (k * 2) 0) ++ field (get_or ws (k * 2 + 1) 0) ++ line_end) line_bytes r s'
    → WroteWithin s 0 (count_line_at ws k) line_bytes r s'
unfolding count_line_at
count-pair ws k w = w

-- the line of an answer
module _ {s s' : List ℕ} {r : ℕ} {answer : Answer} where
  pub line-value : {v k n : ℕ} → answer ≡ Value v k n → WroteWithin s 0 (value_head ++ field v ++ field k ++ field n ++ line_end) line_bytes r s'
      → WroteWithin s 0 (answer_line answer) line_bytes r s'
  unfolding answer_line
  line-value e w = rw e w

  pub line-backup : {k n : ℕ} → answer ≡ Backup k n → WroteWithin s 0 (backup_head ++ field k ++ field n ++ line_end) line_bytes r s'
      → WroteWithin s 0 (answer_line answer) line_bytes r s'
  unfolding answer_line
  line-backup e w = rw e w

  pub line-cut : {i n : ℕ} {g : Edge} → answer ≡ Cut i g n → WroteWithin s 0 (cut_head ++ field i ++ edge_field g ++ field n ++ line_end) line_bytes r s'
      → WroteWithin s 0 (answer_line answer) line_bytes r s'
  unfolding answer_line
  line-cut e w = rw e w

  pub line-reduce : {n : ℕ} → answer ≡ Reduce n → WroteWithin s 0 (reduce_head ++ field n ++ line_end) line_bytes r s' → WroteWithin s 0 (answer_line answer) line_bytes r s'
  unfolding answer_line
  line-reduce e w = rw e w

  pub line_refused : {w : Refusal} {m n : ℕ} → answer ≡ Refused w n → m ≡ number_of w → WroteWithin s 0 (refused_head ++ field m ++ field n ++ line_end) line_bytes r s'
      → WroteWithin s 0 (answer_line answer) line_bytes r s'
  unfolding answer_line
  line_refused e p w = rw (e, ← p) w

  pub line-did : {n t : ℕ} → answer ≡ Did n t → WroteWithin s 0 (did_head ++ field n ++ field t ++ line_end) line_bytes r s' → WroteWithin s 0 (answer_line answer) line_bytes r s'
  unfolding answer_line
  line-did e w = rw e w

pub line-best : {s s' : List ℕ} {r : ℕ} {answer : Answer} {k : Key} {n a b c d : ℕ} → answer ≡ Best k n a b c d
    → WroteWithin s 0 (best_head ++ name_field k ++ fields (take n (a ∷ b ∷ c ∷ d ∷ [])) ++ line_end) line_bytes r s' → WroteWithin s 0 (answer_line answer) line_bytes r s'
unfolding answer_line
line-best e w = rw e w

-- an answer without a line
pub line-none : (s : List ℕ) (answer : Answer) → answer_line answer ≡ [] → WroteWithin s 0 (answer_line answer) line_bytes 0 s
line-none s answer e = rw e (record { wrote = wrote_nothing s 0; within = omega arith })

-- bytes put where there is room
pub placed-full : (s w : List ℕ) (place : ℕ) → length s < place + length w → Placed s place w None s
unfolding put_answer put_result
placed-full s w place h = record {
  answer = rw (lt-leb (place + length w) (length s) h);
  result = rw (lt-leb (place + length w) (length s) h);
}

pub placed_past : (s w : List ℕ) {place : ℕ} → length s < place → Placed s place w None s
placed_past s w {place} h = placed-full s w place (omega arith)

pub placed-short : (s w : List ℕ) {place : ℕ} → place ≤ length s → length s - place < length w → Placed s place w None s
placed-short s w {place} h l = placed-full s w place (omega arith)

pub placed_at : {s w s' : List ℕ} {place r : ℕ} → place ≤ length s → length w ≤ length s - place → Wrote s place w r s' → Placed s place w (Some r) s'
unfolding put_answer put_result
placed_at {s} {w} {s'} {place} {r} h l p =
    let g : place + length w ≤ length s = omega arith in
    record {
      answer = rw (le-leb (place + length w) (length s) g, ← p.behind);
      result = rw (le-leb (place + length w) (length s) g, ← p.behind) p.bytes;
    }

-- a line of its own, then put
pub line-bytes : {s w s' : List ℕ} {n : ℕ} → WroteWithin s 0 w line_bytes n s' → take n s' ≡ w
line-bytes {s} {w} {s'} {n} p = rw p.wrote.bytes (take_at w (drop n s) n (omega (arith, p.wrote.behind)))

pub line-room : {s w s' : List ℕ} {n : ℕ} → length s' ≡ line_bytes → WroteWithin s 0 w line_bytes n s' → n ≤ length s'
line-room e p = omega (arith, p.wrote.behind, p.within)

pub line_taken : {s w s' : List ℕ} {n : ℕ} → length s' ≡ line_bytes → WroteWithin s 0 w line_bytes n s' → n ≡ length (take n s')
line_taken {s} {w} {s'} {n} e p = sym (length-take-le n s' (line-room e p))

pub placed-line : {s s' line line' : List ℕ} (w : List ℕ) {place n : ℕ} {r : Option ℕ} → WroteWithin line 0 w line_bytes n line' → Placed s place (take n line') r s' → Placed s place w r s'
placed-line {s} {s'} w {place} {n} {r} p y = subst (λ (x : List ℕ). Placed s place x r s') (line-bytes p) y
