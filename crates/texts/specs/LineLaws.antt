-- Laws of lines: a text is its first line and the lines behind it.
use Rattle.std.specs.Prelude.{◌≡◌, refl, Bool, true, false, cond, List, [], ◌∷◌, ℕ, zero, suc, ◌+◌, ◌≤◌, ◌<◌, length, get_or, take, drop, eqb}
use Rattle.std.proofs.Common.{ap, arith, eq-eqb, ne_eqb, eqb-true}
use Rattle.std.proofs.Math.Bool.{not}
use Rattle.words.specs.Bytes.{run}
use Rattle.words.specs.ByteLaws.{run-le, run_more, run-stop, run_end, run_take}
use Rattle.session.specs.Texts.{line_feed, Lines, behind_byte, lines_of}
use Rattle.texts.specs.Ends.{in_line, line_length}

-- a whole line in front
abbrev pub behind_line : List ℕ → Lines → Lines
behind_line l t = record { whole = l ∷ t.whole; rest = t.rest }

pub line-within : (s : List ℕ) → line_length s ≤ length s
unfolding line_length
line-within s = run-le in_line s

-- byte by byte
module _ (s : List ℕ) (i : ℕ) where
  pub line-stop : i < length s → get_or s i 0 ≡ line_feed → line_length (drop i s) ≡ 0
  unfolding line_length
  line-stop h e = run-stop in_line s i h (ap not (eq-eqb (get_or s i 0) line_feed e))

  pub line-more : i < length s → (get_or s i 0 ≡ line_feed → ⊥) → line_length (drop i s) ≡ suc (line_length (drop (i + 1) s))
  unfolding line_length
  line-more h e = run_more in_line s i h (ap not (ne_eqb (get_or s i 0) line_feed e))

  pub line-past : length s ≤ i → line_length (drop i s) ≡ 0
  unfolding line_length
  line-past h = run_end in_line s i h

-- a line feed ends the first line
pub lines-first : (s : List ℕ) → line_length s < length s → lines_of s ≡ behind_line (take (line_length s) s) (lines_of (drop (suc (line_length s)) s))
unfolding line_length run lines_of
lines-first [] h = absurd (omega arith)
lines-first (b ∷ s) h = go (eqb b line_feed) (lines-first s) h
  where
    go : (t : Bool)
        → (line_length s < length s → lines_of s ≡ behind_line (take (line_length s) s) (lines_of (drop (suc (line_length s)) s)))
        → cond (not t) (suc (line_length s)) 0 < suc (length s)
        → cond t (behind_line [] (lines_of s)) (behind_byte b (lines_of s).whole (lines_of s).rest)
        ≡ behind_line (take (cond (not t) (suc (line_length s)) 0) (b ∷ s)) (lines_of (drop (cond (not t) (suc (line_length s)) 0) s))
    go true ih h = refl
    go false ih h = ap (λ (x : Lines). behind_byte b x.whole x.rest) (ih (omega arith))

-- no line feed: the bytes are the rest
pub lines_none : (s : List ℕ) → line_length s ≡ length s → lines_of s ≡ record { whole = []; rest = s }
unfolding line_length run lines_of
lines_none [] h = refl
lines_none (b ∷ s) h = go (eqb b line_feed) (lines_none s) h
  where
    go : (t : Bool) → (line_length s ≡ length s → lines_of s ≡ record { whole = []; rest = s }) → cond (not t) (suc (line_length s)) 0 ≡ suc (length s)
        → cond t (behind_line [] (lines_of s)) (behind_byte b (lines_of s).whole (lines_of s).rest) ≡ record { whole = []; rest = b ∷ s }
    go true ih h = absurd (omega arith)
    go false ih h = ap (λ (x : Lines). behind_byte b x.whole x.rest) (ih (omega arith))

-- the bytes before the first line feed have none, and one ends them
pub line-whole : (s : List ℕ) → line_length (take (line_length s) s) ≡ length (take (line_length s) s)
unfolding line_length
line-whole s = run_take in_line s

pub line-ends : (s : List ℕ) → line_length s < length s → get_or s (line_length s) 0 ≡ line_feed
unfolding line_length run
line-ends [] h = absurd (omega arith)
line-ends (b ∷ s) h = go (eqb b line_feed) refl (line-ends s) h
  where
    go : (t : Bool) → eqb b line_feed ≡ t → (line_length s < length s → get_or s (line_length s) 0 ≡ line_feed) → cond (not t) (suc (line_length s)) 0 < suc (length s)
        → get_or (b ∷ s) (cond (not t) (suc (line_length s)) 0) 0 ≡ line_feed
    go true e ih h = eqb-true b line_feed e
    go false e ih h = ih (omega arith)

-- no line feed in the first bytes of a line
pub line-front : (n : ℕ) (s : List ℕ) → line_length s ≡ length s → line_length (take n s) ≡ length (take n s)
unfolding line_length run
line-front zero [] h = refl
line-front zero (b ∷ s) h = refl
line-front (suc n) [] h = refl
line-front (suc n) (b ∷ s) h = go (eqb b line_feed) (line-front n s) h
  where
    go : (t : Bool) → (line_length s ≡ length s → line_length (take n s) ≡ length (take n s)) → cond (not t) (suc (line_length s)) 0 ≡ suc (length s)
        → cond (not t) (suc (line_length (take n s))) 0 ≡ suc (length (take n s))
    go true ih h = absurd (omega arith)
    go false ih h = ap suc (ih (omega arith))

-- without a whole line all bytes are the rest
pub rest_all : (s : List ℕ) → (lines_of s).whole ≡ [] → (lines_of s).rest ≡ s
unfolding lines_of
rest_all [] e = refl
rest_all (b ∷ s) e = go (eqb b line_feed) (lines_of s).whole (lines_of s).rest (rest_all s) e
  where
    go : (t : Bool) (ls : List (List ℕ)) (r : List ℕ) → (ls ≡ [] → r ≡ s)
        → (cond t (record { whole = [] ∷ ls; rest = r }) (behind_byte b ls r)).whole ≡ [] → (cond t (record { whole = [] ∷ ls; rest = r }) (behind_byte b ls r)).rest ≡ b ∷ s
    go true ls r ih e = absurd (let z = ap length e in omega arith)
    go false [] r ih e = ap (λ (x : List ℕ). b ∷ x) (ih refl)
    go false (l ∷ ls) r ih e = absurd (let z = ap length e in omega arith)
