-- What a shown listing is: the rows of the value diagram, which begin the words that hold it; and the lines of a spread, whose words begin others.
use Rattle.std.specs.Prelude.{◌≡◌, refl, true, List, ℕ, zero, suc, ◌+◌, ◌*◌, ◌≤◌, ◌<◌, length, take}
use Rattle.std.proofs.Common.{sym, ap, ◌∙◌, arith, get_or-take, take_all, length-take-le}
use Rattle.std.proofs.Math.Decide.{dec_lt}
use Rattle.diagram.specs.Rows.{rows}
use Rattle.diagram.specs.Words.{label_at, high_at, low_at, is_listing}
use Rattle.diagram.specs.Listing.{diagram_of}
use Rattle.diagram.specs.ListingLaws.{length-listing}
use Rattle.diagram.specs.Listings.{is-listing-diagram}
use Rattle.answers.specs.declared.Answer.{Answer}
use Rattle.answers.specs.declared.Answer.TheVariants as A
use Rattle.answers.specs.Answers.{row_line_at, row_lines, count_line_at, count_lines, answer_bytes}

-- ===== The bytes of an answer =====

-- the rows of words are those of words that begin with them
pub rows-begin : (m : ℕ) (ws : List ℕ) (n : ℕ) → n * 3 ≤ m → row_lines (take m ws) n ≡ row_lines ws n
unfolding row_lines row_line_at label_at high_at low_at
rows-begin m ws zero h = refl
rows-begin m ws (suc n) h =
    rw (
      rows-begin m ws n (omega arith),
      get_or-take m ws (n * 3) 0 (omega arith),
      get_or-take m ws (n * 3 + 1) 0 (omega arith),
      get_or-take m ws (n * 3 + 2) 0 (omega arith),
    )

-- and so are the lines of a spread
pub counts-begin : (m : ℕ) (ws : List ℕ) (n : ℕ) → n * 2 ≤ m → count_lines (take m ws) n ≡ count_lines ws n
unfolding count_lines count_line_at
counts-begin m ws zero h = refl
counts-begin m ws (suc n) h =
    rw (counts-begin m ws n (omega arith), get_or-take m ws (n * 2) 0 (omega arith), get_or-take m ws (n * 2 + 1) 0 (omega arith))

-- only a shown listing reads the words, only a spread its table
pub answers-same : (vs ws form us ts : List ℕ) (a : Answer) → ((n : ℕ) → a ≡ A.Show n → row_lines vs n ≡ row_lines ws n)
    → ((k m : ℕ) → a ≡ A.Count k m → count_lines us m ≡ count_lines ts m) → answer_bytes vs form us a ≡ answer_bytes ws form ts a
unfolding answer_bytes
answers-same vs ws form us ts (A.Value v k s) h t = refl
answers-same vs ws form us ts (A.Backup k n) h t = refl
answers-same vs ws form us ts (A.Cut i e n) h t = refl
answers-same vs ws form us ts (A.Reduce n) h t = refl
answers-same vs ws form us ts (A.Refused r line) h t = refl
answers-same vs ws form us ts (A.Show n) h t = h n refl
answers-same vs ws form us ts (A.Text n) h t = refl
answers-same vs ws form us ts (A.Best k n a b c d) h t = refl
answers-same vs ws form us ts (A.Count k m) h t = t k m refl
answers-same vs ws form us ts (A.Did n m) h t = refl
answers-same vs ws form us ts A.Nothing h t = refl

-- words that begin others are not more
pub begins : (ws t : List ℕ) → take (length t) ws ≡ t → length t ≤ length ws
begins ws t e = go (dec_lt (length ws) (length t))
  where
    go : Dec (length ws < length t) → length t ≤ length ws
    go (yes h) = let p : length ws ≡ length t = ap length (sym (take_all (length t) ws (omega arith)) ∙ e) in omega arith
    go (no h) = omega arith

-- ===== The words that hold it =====

-- a listing at the beginning of words has as many rows as it shows
pub held-count : (ar ws : List ℕ) (n : ℕ) → is_listing ar (take (n * 3) ws) ≡ true → n * 3 ≤ length ws → length (rows (diagram_of (take (n * 3) ws))) ≡ n
held-count ar ws n h l =
    let p = length-listing (diagram_of (take (n * 3) ws)) in
    let q = ap length (is-listing-diagram ar (take (n * 3) ws) h) in
    omega (arith, length-take-le (n * 3) ws l)
