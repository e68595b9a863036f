-- Laws of lines printed from a table: the rows of a listing, or a spread.
use Prim.Native.Nat.{ℕ, zero, suc, ◌+◌, ◌*◌, ◌-◌, ◌≤◌, ◌<◌}
use mathlib.Core.Path.{◌≡◌, refl, sym, ap, subst, ◌∙◌}
use mathlib.Core.Bool.{Bool, true, false, cond}
use mathlib.Core.List.{List, [], ◌++◌}
use native.Mathlib.Omega.{arith}
use native.Mathlib.Numerals.{add-one}
use borrow.Author.Tests.{le-leb, lt-leb, leb-true, leb-false}
use lib.Dec.{leb}
use lib.ListN.{length, get_or, take, length-append}
use Rattle.diagram.specs.Sizes.{most_rows}
use Rattle.answers.specs.declared.Answer.TheVariants.{Show}
use Rattle.answers.specs.Answers.{row_line_at, row_lines, count_line_at, count_lines, answer_bytes}
use Rattle.answers.specs.Inner.{line_bytes, put_answer, put_result, Placed}
use Rattle.answers.specs.Writing.{IsWord, most_bytes}
use Rattle.answers.specs.AnswerLaws.{answer-short, counts-short}
use Rattle.answering.specs.declared.Table.{Table}
use Rattle.answering.specs.declared.Table.TheVariants.{Rows, Counts}
use Rattle.answering.specs.Wrote.{Wrote, WroteWithin}
use Rattle.answering.specs.Tables.{Holds, table_line, table_lines}
use Rattle.answering.proofs.WriteLaws.{wrote_nothing, wrote_then}
use Rattle.answering.proofs.LineLaws.{placed-full, placed_at, line-bytes}
use Rattle.std.specs.Prelude.{None, Option, Some}

-- a line of a table
module _ {s s' : List ℕ} {r : ℕ} (ws : List ℕ) (k : ℕ) {t : Table} where
  pub line-rows : t ≡ Rows → WroteWithin s 0 (row_line_at ws k) line_bytes r s' → WroteWithin s 0 (table_line t ws k) line_bytes r s'
  line-rows e w = rw e w

  pub line-counts : t ≡ Counts → WroteWithin s 0 (count_line_at ws k) line_bytes r s' → WroteWithin s 0 (table_line t ws k) line_bytes r s'
  line-counts e w = rw e w

pub holds_row : (ws : List ℕ) (k : ℕ) {t : Table} → Holds t (k + 1) ws → t ≡ Rows → k * 3 + 3 ≤ length ws
holds_row ws k h e = let g = subst (λ (t : Table). Holds t (k + 1) ws) e h in omega (arith, g)

pub holds-count : (ws : List ℕ) (k : ℕ) {t : Table} → Holds t (k + 1) ws → t ≡ Counts → k * 2 + 2 ≤ length ws
holds-count ws k h e = let g = subst (λ (t : Table). Holds t (k + 1) ws) e h in omega (arith, g)

pub holds-next : (t : Table) (ws : List ℕ) (k n : ℕ) → Holds t n ws → k < n → Holds t (k + 1) ws
holds-next Rows ws k n h l = omega arith
holds-next Counts ws k n h l = omega arith

-- the first lines
lines_more : (t : Table) (ws : List ℕ) (k : ℕ) → table_lines t ws (k + 1) ≡ table_lines t ws k ++ table_line t ws k
unfolding row_lines count_lines
lines_more Rows ws k = rw (add-one k)
lines_more Counts ws k = rw (add-one k)

lines_none : (t : Table) (ws : List ℕ) → table_lines t ws 0 ≡ []
unfolding row_lines count_lines
lines_none Rows ws = refl
lines_none Counts ws = refl

lines-length : (t : Table) (ws : List ℕ) (k : ℕ) → length (table_lines t ws (k + 1)) ≡ length (table_lines t ws k) + length (table_line t ws k)
lines-length t ws k = ap length (lines_more t ws k) ∙ length-append (table_lines t ws k) (table_line t ws k)

lines-grow : (t : Table) (ws : List ℕ) (k d : ℕ) → length (table_lines t ws k) ≤ length (table_lines t ws (k + d))
lines-grow t ws k zero = let e : k + zero ≡ k = omega arith in rw e (omega arith)
lines-grow t ws k (suc d) =
    let e : k + suc d ≡ k + d + 1 = omega arith in
    rw e (omega (arith, lines-grow t ws k d, lines-length t ws (k + d)))

lines-below : (t : Table) (ws : List ℕ) (k n : ℕ) → k < n → length (table_lines t ws (k + 1)) ≤ length (table_lines t ws n)
lines-below t ws k n h =
    let e : k + 1 + (n - (k + 1)) ≡ n = omega arith in
    subst (λ (j : ℕ). length (table_lines t ws (k + 1)) ≤ length (table_lines t ws j)) e (lines-grow t ws (k + 1) (n - (k + 1)))

-- the place behind the first k of n lines
pub record LinesPlace (t : Table) (ws : List ℕ) (n place limit k end : ℕ) : Type 0 where
  pub within : k ≤ n
  pub here : end ≡ place + length (table_lines t ws k)
  pub room : end ≤ limit

pub end-start : (t : Table) (ws : List ℕ) (n : ℕ) {place limit : ℕ} → place ≤ limit → LinesPlace t ws n place limit 0 place
end-start t ws n h = record { within = omega arith; here = omega (arith, ap length (lines_none t ws)); room = h }

put_full : (limit place : ℕ) (w : List ℕ) → limit < place + length w → None ≡ put_answer limit place w
unfolding put_answer
put_full limit place w h = rw (lt-leb (place + length w) limit h)

pub end-past : (t : Table) (ws : List ℕ) (n : ℕ) {place limit : ℕ} → limit < place → None ≡ put_answer limit place (table_lines t ws n)
end-past t ws n {place} {limit} h = put_full limit place (table_lines t ws n) (omega arith)

module _ {t : Table} {ws line line' : List ℕ} {n place limit k end m : ℕ} (x : LinesPlace t ws n place limit k end) (h : k < n)
    (w : WroteWithin line 0 (table_line t ws k) line_bytes m line') where
  pub end-full : limit - end < m → None ≡ put_answer limit place (table_lines t ws n)
  end-full l =
      let g = lines-below t ws k n h in
      put_full limit place (table_lines t ws n) (omega (arith, x.here, x.room, w.wrote.behind, lines-length t ws k))

  pub end_more : m ≤ limit - end → LinesPlace t ws n place limit (k + 1) (end + m)
  end_more l =
      record { within = omega arith; here = omega (arith, x.here, w.wrote.behind, lines-length t ws k); room = omega (arith, x.room) }

pub end-done : {t : Table} {ws : List ℕ} {n place limit k end : ℕ} → LinesPlace t ws n place limit k end → n ≤ k → Some end ≡ put_answer limit place (table_lines t ws n)
unfolding put_answer
end-done {t} {ws} {n} {place} {limit} {k} {end} x h =
    let e : k ≡ n = omega (arith, x.within) in
    let g : end ≡ place + length (table_lines t ws n) = rw (← e) x.here in
    rw (← g, le-leb end limit x.room)

-- the first k of n lines written
pub record LinesWritten (s : List ℕ) (t : Table) (ws : List ℕ) (n place k end : ℕ) (s₁ : List ℕ) : Type 0 where
  pub within : k ≤ n
  pub wrote : Wrote s place (table_lines t ws k) end s₁
  pub same : length s₁ ≡ length s

pub lines_start : (s : List ℕ) (t : Table) (ws : List ℕ) (n place : ℕ) → LinesWritten s t ws n place 0 place s
lines_start s t ws n place = record { within = omega arith; wrote = rw (lines_none t ws) (wrote_nothing s place); same = refl }

module _ {t : Table} {s ws s₁ line line' : List ℕ} {n place k end m : ℕ} (room : place + length (table_lines t ws n) ≤ length s)
    (x : LinesWritten s t ws n place k end s₁) (h : k < n) (w : WroteWithin line 0 (table_line t ws k) line_bytes m line') where
  written_below : end + length (table_line t ws k) ≤ length s
  written_below =
      let g = lines-below t ws k n h in
      omega (arith, x.wrote.behind, lines-length t ws k)

  pub lines-room : end + length (take m line') ≤ length s₁
  lines-room = rw (line-bytes w, x.same) written_below

  pub written-more : {s₂ : List ℕ} {r : ℕ} → length s₂ ≡ length s₁ → Wrote s₁ end (take m line') r s₂ → LinesWritten s t ws n place (k + 1) r s₂
  written-more {s₂} {r} e p =
      let q : Wrote s₁ end (table_line t ws k) r s₂ = subst (λ (y : List ℕ). Wrote s₁ end y r s₂) (line-bytes w) p in
      record {
        within = omega arith;
        wrote = rw (lines_more t ws k) (wrote_then (omega (arith, written_below)) x.wrote q);
        same = e ∙ x.same;
      }

pub lines-done : {t : Table} {s ws s₁ : List ℕ} {n place k end : ℕ} → LinesWritten s t ws n place k end s₁ → n ≤ k → Wrote s place (table_lines t ws n) end s₁
lines-done {t} {s} {ws} {s₁} {n} {place} {k} {end} x h =
    let e : k ≡ n = omega (arith, x.within) in
    rw (← e) x.wrote

full_at : {n : ℕ} → None ≡ Some n → ⊥
full_at e = let z : ◌≡◌ {A = ℕ} 0 1 = cc in omega arith

-- lines measured, then put
module _ (s w : List ℕ) (place : ℕ) {x : Option ℕ} (p : x ≡ put_answer (length s) place w) where
  pub measured-full : x ≡ None → Placed s place w None s
  unfolding put_result put_answer
  measured-full e = go (leb (place + length w) (length s)) refl
    where
      go : (b : Bool) → leb (place + length w) (length s) ≡ b → Placed s place w None s
      go true q = absurd (full_at (sym e ∙ p ∙ ap (λ (b : Bool). cond b (Some (place + length w)) None) q))
      go false q = placed-full s w place (leb-false (place + length w) (length s) q)

  pub measured-room : {n : ℕ} → x ≡ Some n → place + length w ≤ length s
  unfolding put_answer
  measured-room {n} e = go (leb (place + length w) (length s)) refl
    where
      go : (b : Bool) → leb (place + length w) (length s) ≡ b → place + length w ≤ length s
      go true q = leb-true (place + length w) (length s) q
      go false q = absurd (full_at (sym (sym e ∙ p ∙ ap (λ (b : Bool). cond b (Some (place + length w)) None) q)))

  pub measured-at : {s' : List ℕ} {n r : ℕ} → x ≡ Some n → Wrote s place w r s' → Placed s place w (Some r) s'
  measured-at e q = let g = measured-room e in placed_at (omega arith) (omega arith) q

-- the rows of a listing, and a spread; their bytes at most
module _ {s s' : List ℕ} (ws : List ℕ) {place : ℕ} (n : ℕ) {r : Option ℕ} (g : (i : ℕ) → IsWord (get_or ws i 0)) where
  pub rows-put : Placed s place (row_lines ws n) r s' → Placed s place (row_lines ws n) r s' × (n ≤ most_rows → length (row_lines ws n) ≤ most_bytes)
  unfolding answer_bytes
  rows-put p = (p, λ h. answer-short ws [] [] (Show n) g h tt)

  pub counts-put : Placed s place (count_lines ws n) r s' → Placed s place (count_lines ws n) r s' × (n ≤ most_rows → length (count_lines ws n) ≤ most_bytes)
  counts-put p = (p, λ h. counts-short ws n g h)
