-- Laws of choose, in the words of the code; and the rows picked are those of the choice.
use mathlib.Core.Path.{◌≡◌, refl, ap, ap₂, sym, ◌∙◌}
use mathlib.Core.Bool.{Bool, true, false, cond}
use mathlib.Core.List.{List, [], ◌∷◌, ◌++◌, append_assoc, append-nil}
use Prim.Native.Nat.{ℕ, suc, ◌+◌, ◌-◌, ◌*◌, ◌/◌, ◌%◌, ◌≤◌, ◌<◌}
use native.Mathlib.Omega.{arith}
use lib.ListN.{length, take, drop, length-drop, take-append-drop}
use lib.Seq.{take_at, drop_at, drop-drop, paste, take-paste}
use lib.Dec.{eqb}
use borrow.Author.Tests.{eq-eqb, ne_eqb}
use Rattle.state.specs.Lent.{fact_words}
use Rattle.spread.specs.Ground.{Ground, ground_facts, ground_count, bits, chosen, row_of, rows_of, lent_choice}
use Rattle.spread.proofs.GroundLaws.{length-ground}
use Rattle.count_states.specs.Facts.{picked, Choosing, Chosen}
use Rattle.count_states.proofs.RowLaws.{length-row}

-- ===== choose =====

-- m words are written, of the rows before row i
pub record Picking (rows : List ℕ) (g c : ℕ) (facts₀ facts : List ℕ) (m rest i : ℕ) : Type 0 where
  pub size : length facts ≡ length facts₀
  pub within : i ≤ g
  pub most : m ≤ i * fact_words
  pub left : take m facts ++ picked (drop (i * fact_words) rows) (g - i) rest ≡ picked rows g c

pub pick-start : (rows : List ℕ) (g c : ℕ) (facts : List ℕ) → Picking rows g c facts facts 0 c 0
pick-start rows g c facts =
    let e : g - 0 ≡ g = omega arith in
    record { size = refl; within = omega arith; most = omega arith; left = ap (λ z. picked rows z c) e }

picked-step : (rows : List ℕ) (g i r : ℕ) → i < g
    → picked (drop (i * fact_words) rows) (g - i) r
    ≡ cond (eqb (r % 2) 1) (take fact_words (drop (i * fact_words) rows)) [] ++ picked (drop ((i + 1) * fact_words) rows) (g - (i + 1)) (r / 2)
unfolding picked
picked-step rows g i r h =
    let e : g - i ≡ suc (g - (i + 1)) = omega arith in
    let d : i * fact_words + fact_words ≡ (i + 1) * fact_words = omega arith in
    ap (λ z. picked (drop (i * fact_words) rows) z r) e
    ∙ ap (λ z. cond (eqb (r % 2) 1) (take fact_words (drop (i * fact_words) rows)) [] ++ picked z (g - (i + 1)) (r / 2))
    (drop-drop fact_words (i * fact_words) rows ∙ ap (λ z. drop z rows) d)

module _ {rows facts₀ facts : List ℕ} {g c m rest i : ℕ} (a : Choosing rows facts₀ g) (p : Picking rows g c facts₀ facts m rest i) (h : i < g) where
  pub pick-from : i * fact_words + fact_words ≤ length rows
  pick-from = omega (arith, a.rows-there)

  pub pick-room : m + fact_words ≤ length facts
  pick-room = omega (arith, a.room, p.most, p.size)

  pub pick_odd : {facts' : List ℕ} → length facts' ≡ length facts → facts' ≡ paste facts m (drop (i * fact_words) rows) fact_words → rest % 2 ≡ 1
      → Picking rows g c facts₀ facts' (m + fact_words) (rest / 2) (i + 1)
  pick_odd {facts'} s e q =
      let w = length-drop (i * fact_words) rows in
      let f = pick-from in
      let o = pick-room in
      let next : List ℕ = picked (drop ((i + 1) * fact_words) rows) (g - (i + 1)) (rest / 2) in
      let row : List ℕ = take fact_words (drop (i * fact_words) rows) in
      record {
        size = s ∙ p.size;
        within = omega arith;
        most = omega (arith, p.most);
        left =
            ap (λ z. z ++ next) (ap (take (m + fact_words)) e ∙ take-paste facts m (drop (i * fact_words) rows) fact_words (omega arith) (omega arith))
            ∙ append_assoc (take m facts) row next
            ∙ ap (λ z. take m facts ++ z) (sym (picked-step rows g i rest h ∙ ap (λ b. cond b row [] ++ next) (eq-eqb (rest % 2) 1 q)))
            ∙ p.left;
      }

  pub pick_even : (rest % 2 ≡ 1 → ⊥) → Picking rows g c facts₀ facts m (rest / 2) (i + 1)
  pick_even q =
      let next : List ℕ = picked (drop ((i + 1) * fact_words) rows) (g - (i + 1)) (rest / 2) in
      let row : List ℕ = take fact_words (drop (i * fact_words) rows) in
      record {
        size = p.size;
        within = omega arith;
        most = omega (arith, p.most);
        left = ap (λ z. take m facts ++ z) (sym (picked-step rows g i rest h ∙ ap (λ b. cond b row [] ++ next) (ne_eqb (rest % 2) 1 q))) ∙ p.left;
      }

pub pick_end : {rows facts₀ facts : List ℕ} {g c m rest i : ℕ} → Choosing rows facts₀ g → Picking rows g c facts₀ facts m rest i → g ≤ i → Chosen rows g c m facts
unfolding picked
pick_end {rows} {facts₀} {facts} {g} {c} {m} {rest} {i} a p h =
    let e : g - i ≡ 0 = omega arith in
    record {
      most = omega (arith, a.room, p.most, p.size, p.within);
      words = sym (append-nil (take m facts)) ∙ ap (λ z. take m facts ++ picked (drop (i * fact_words) rows) z rest) (sym e) ∙ p.left;
    }

-- ===== The rows of a choice =====
picked-rows : (fs : List Ground) (rest : List ℕ) (c : ℕ) → picked (rows_of fs ++ rest) (length fs) c ≡ rows_of (chosen (bits (length fs) c) fs)
unfolding picked rows_of chosen bits
picked-rows [] rest c = refl
picked-rows (f ∷ fs) rest c =
    ap (λ z. picked z (suc (length fs)) c) (append_assoc (row_of f) (rows_of fs) rest)
    ∙ ap₂ (λ x y. cond (eqb (c % 2) 1) x [] ++ picked y (length fs) (c / 2))
    (take_at (row_of f) (rows_of fs ++ rest) fact_words (length-row f)) (drop_at (row_of f) (rows_of fs ++ rest) fact_words (length-row f))
    ∙ ap (λ z. cond (eqb (c % 2) 1) (row_of f) [] ++ z) (picked-rows fs rest (c / 2))
    ∙ go (eqb (c % 2) 1)
  where
    go : (b : Bool) → cond b (row_of f) [] ++ rows_of (chosen (bits (length fs) (c / 2)) fs) ≡ rows_of (chosen (b ∷ bits (length fs) (c / 2)) (f ∷ fs))
    go true = refl
    go false = refl

pub picked-lent : (ar : List ℕ) (count n : ℕ) (rows : List ℕ) → take (ground_count ar count n * fact_words) rows ≡ rows_of (ground_facts ar count n)
    → (c : ℕ) → picked rows (ground_count ar count n) c ≡ lent_choice ar count n c
unfolding lent_choice
picked-lent ar count n rows e c =
    let k : ℕ = ground_count ar count n * fact_words in
    let l = length-ground ar count n in
    ap₂ (λ z g. picked z g c) (sym (take-append-drop k rows) ∙ ap (λ z. z ++ drop k rows) e) (sym l)
    ∙ picked-rows (ground_facts ar count n) (drop k rows) c
    ∙ ap (λ g. rows_of (chosen (bits g c) (ground_facts ar count n))) l
