-- Laws of a part of a list, n words from the place b on: its words, and words written in it, before it or behind it.
use Rattle.std.specs.Prelude.{◌≡◌, List, [], ◌∷◌, ◌++◌, ℕ, zero, suc, ◌+◌, ◌-◌, ◌<◌, ◌≤◌, length, get_or, set, take, drop}
use Rattle.std.proofs.Common.{sym, ap, ◌∙◌, append_assoc, arith, length-drop, take-take, drop-drop, drop_at, get_or-take, get_or-drop, length-take-le, drop-set-lt, take_at}
use Rattle.std.proofs.Math.Seq.{take-nil, take-set-lt, paste}
use Rattle.std.proofs.lemmas.List.{take-set-le, drop-set-add}
use Rattle.std.proofs.lemmas.List.Edits.{take-paste, drop-paste}
use Rattle.facts.specs.Words.{part}

pub length_part : (s : List ℕ) (b n : ℕ) → b + n ≤ length s → length (part s b n) ≡ n
length_part s b n h = length-take-le n (drop b s) (rw length-drop (omega arith))

pub part_at : (s : List ℕ) (b n i : ℕ) → i < n → get_or (part s b n) i 0 ≡ get_or s (b + i) 0
part_at s b n i h = get_or-take n (drop b s) i 0 h ∙ get_or-drop b s i 0

-- as code lends it: from the place b up to the place b + n
pub part-lent : (s : List ℕ) (b n : ℕ) → take (b + n - b) (drop b s) ≡ part s b n
part-lent s b n = let e : b + n - b ≡ n = omega arith in ap (λ (m : ℕ). take m (drop b s)) e

-- ===== Words that stay =====

-- a part is what stands from its beginning on in the words up to its end
part-ends : (s : List ℕ) (b n : ℕ) → part s b n ≡ drop b (take (b + n) s)
part-ends s zero n = let e : n ≡ zero + n = omega arith in ap (λ (m : ℕ). take m s) e
part-ends [] (suc b) n = take-nil n ∙ sym (ap (drop (suc b)) (take-nil (suc b + n)))
part-ends (x ∷ s) (suc b) n = let e : suc (b + n) ≡ suc b + n = omega arith in part-ends s b n ∙ ap (λ (m : ℕ). drop (suc b) (take m (x ∷ s))) e

-- two lists that agree up to the end of a part, or from its beginning or an earlier place on, have the same part
pub same-before : (s t : List ℕ) (m b n : ℕ) → take m t ≡ take m s → b + n ≤ m → part t b n ≡ part s b n
same-before s t m b n e h =
    part-ends t b n ∙ (ap (drop b) (sym (take-take (b + n) m t h) ∙ (ap (take (b + n)) e ∙ take-take (b + n) m s h)) ∙ sym (part-ends s b n))

pub same-behind : (s t : List ℕ) (m b n : ℕ) → drop m t ≡ drop m s → m ≤ b → part t b n ≡ part s b n
same-behind s t m b n e h = ap (take n) (from t ∙ (ap (drop (b - m)) e ∙ sym (from s)))
  where
    from : (l : List ℕ) → drop b l ≡ drop (b - m) (drop m l)
    from l = let z : b ≡ m + (b - m) = omega arith in ap (λ (k : ℕ). drop k l) z ∙ sym (drop-drop (b - m) m l)

-- ===== One word =====

module _ (s : List ℕ) (b n i x : ℕ) where
  pub set-in : i < n → part (set s (b + i) x) b n ≡ set (part s b n) i x
  set-in h = ap (take n) (drop-set-add b s i x) ∙ take-set-lt n (drop b s) i x h

  pub set_before : i < b → part (set s i x) b n ≡ part s b n
  set_before h = ap (take n) (drop-set-lt b s i x h)

  pub set-behind : b + n ≤ i → part (set s i x) b n ≡ part s b n
  set-behind h = same-before s (set s i x) (b + n) b n (take-set-le (b + n) s i x h) (omega arith)

-- ===== Some words =====

-- the first k words of w in the place of those from i on
module _ (s : List ℕ) (i : ℕ) (w : List ℕ) (k : ℕ) (room : i ≤ length s) (words : k ≤ length w) where
  pub paste-in : part (paste s i w k) i k ≡ take k w
  paste-in = part-ends (paste s i w k) i k ∙ (ap (drop i) (take-paste s i w k room words) ∙ drop_at (take i s) (take k w) i (length-take-le i s room))

  pub paste-front : take i (paste s i w k) ≡ take i s
  paste-front = ap (take i) (append_assoc (take i s) (take k w) (drop (i + k) s)) ∙ take_at (take i s) (take k w ++ drop (i + k) s) i (length-take-le i s room)

  pub paste-before : (b n : ℕ) → b + n ≤ i → part (paste s i w k) b n ≡ part s b n
  paste-before b n h = same-before s (paste s i w k) i b n paste-front h

  pub paste-behind : (b n : ℕ) → i + k ≤ b → part (paste s i w k) b n ≡ part s b n
  paste-behind b n h = same-behind s (paste s i w k) (i + k) b n (drop-paste s i w k room words) h
