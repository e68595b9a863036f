-- No reply has more bytes than 1,024 rows shown, forms and spreads too (document 01, section 'A run, whole'; document 02, L2, L9, L10 and L11).
use Rattle.std.specs.Prelude.{◌≡◌, refl, ℕ, zero, suc, ◌+◌, ◌*◌, ◌-◌, ◌/◌, ◌≤◌, ◌<◌, get_or}
use Rattle.std.proofs.Common.{sym, ◌∙◌, subst}
use Rattle.std.proofs.Math.Path.{ap}
use mathlib.Core.List.{List, []}
use native.Mathlib.Omega.{arith}
use Rattle.std.proofs.Math.Decide.{dec_lt}
use Rattle.std.proofs.Math.ListN.{length, length-append, get_or-eq_default}
use Rattle.label.proofs.LabelLaws.{label-below}
use Rattle.diagram.specs.Diagram.{Diagram}
use Rattle.diagram.specs.Words.{label_at, high_at, low_at, row_count}
use Rattle.diagram.specs.Listing.{Good, listing}
use Rattle.diagram.specs.Validity.{ValidRow, a-leaf, a-branch}
use Rattle.diagram.specs.ListingOfDiagram.{valid-listing}
use Rattle.words.specs.declared.Key.{Key}
use Rattle.answers.specs.declared.Answer.{Answer}
use Rattle.answers.specs.declared.Answer.TheVariants as A
use Rattle.answers.specs.Answers.{answer_bytes, line_feed}
use Rattle.answers.specs.Writing.{IsWord, OfWords, most_bytes}
use Rattle.answers.specs.AnswerLaws.{counts-short, answer-short}
use Rattle.session.specs.Session.{Session}
use Rattle.session.specs.Replies.{reply}
use Rattle.session.specs.Texts.{value_form, table_of, reply_bytes}
use Rattle.session.specs.Good.{GoodSession}
use Rattle.session_laws.proofs.PlaceLaws.{placed-objects}
use Rattle.session_laws.proofs.MoveLaws.{tuple-below}
use Rattle.session_laws.proofs.PrintLaws.{reply-shows, reply-prints, reply-moves, reply-counts, reply-replays}

-- ===== The words of a listing =====

-- a number is the first, second or third word of a row
data Third (i : ℕ) : Type 0 where
  first : (k : ℕ) → i ≡ k * 3 → Third i
  second : (k : ℕ) → i ≡ k * 3 + 1 → Third i
  third : (k : ℕ) → i ≡ k * 3 + 2 → Third i

thirds : (i : ℕ) → Third i
thirds i = go (i - i / 3 * 3) refl
  where
    go : (r : ℕ) → i - i / 3 * 3 ≡ r → Third i
    go zero e = first (i / 3) (omega arith)
    go (suc zero) e = second (i / 3) (omega arith)
    go (suc (suc zero)) e = third (i / 3) (omega arith)
    go (suc (suc (suc r))) e = absurd (omega arith)

module _ (ar : List ℕ) (d : Diagram) (g : Good ar d) where
  row_words : (k : ℕ) → k < row_count (listing d) → IsWord (label_at (listing d) k) × IsWord (high_at (listing d) k) × IsWord (low_at (listing d) k)
  row_words k h = go ((valid-listing ar d g).each k h)
    where
      go : ValidRow ar (listing d) k → IsWord (label_at (listing d) k) × IsWord (high_at (listing d) k) × IsWord (low_at (listing d) k)
      go (a-leaf r) = omega (arith, r.mark, r.value, r.third)
      go (a-branch r) = omega (arith, label-below ar (label_at (listing d) k) r.label, r.high-before, r.low-before, (valid-listing ar d g).few)

  -- each is a machine word
  listing-words : (i : ℕ) → IsWord (get_or (listing d) i 0)
  unfolding label_at high_at low_at
  listing-words i = go (dec_lt i (length (listing d))) (thirds i)
    where
      go : Dec (i < length (listing d)) → Third i → IsWord (get_or (listing d) i 0)
      go (no f) t = let z : length (listing d) ≤ i = omega arith in let e = get_or-eq_default (listing d) 0 z in omega arith
      go (yes l) (first k e) = let w = (valid-listing ar d g).whole in rw e (row_words k (omega arith)).0
      go (yes l) (second k e) = let w = (valid-listing ar d g).whole in rw e (row_words k (omega arith)).1
      go (yes l) (third k e) = let w = (valid-listing ar d g).whole in rw e (row_words k (omega arith)).2

-- ===== A reply =====

no_words : (i : ℕ) → IsWord (get_or [] i 0)
no_words i = omega arith

-- an answer's bytes in a session
abbrev bytes_in : Session → Answer → List ℕ
bytes_in τ a = answer_bytes (listing τ.held.diagram) (value_form τ) (table_of τ a) a

module _ (σ : Session) (good : GoodSession σ) (number : ℕ) (s : List ℕ) where
  as-answered : (a : Answer) → (reply σ number s).answer ≡ a
      → length (reply_bytes (reply σ number s)) ≡ length (bytes_in (reply σ number s).session a)
  unfolding reply_bytes
  as-answered a e = ap (λ (b : Answer). length (bytes_in (reply σ number s).session b)) e

  by_answer : (a : Answer) → (reply σ number s).answer ≡ a → OfWords a → length (reply_bytes (reply σ number s)) ≤ most_bytes
  unfolding answer_bytes
  by_answer (A.Value v k w) e h = omega (arith, as-answered (A.Value v k w) e, answer-short [] [] [] (A.Value v k w) no_words h tt)
  by_answer (A.Backup k n) e h = omega (arith, as-answered (A.Backup k n) e, answer-short [] [] [] (A.Backup k n) no_words h tt)
  by_answer (A.Cut i x n) e h = omega (arith, as-answered (A.Cut i x n) e, answer-short [] [] [] (A.Cut i x n) no_words h tt)
  by_answer (A.Reduce n) e h = omega (arith, as-answered (A.Reduce n) e, answer-short [] [] [] (A.Reduce n) no_words h tt)
  by_answer (A.Refused r l) e h = omega (arith, as-answered (A.Refused r l) e, answer-short [] [] [] (A.Refused r l) no_words h tt)
  by_answer (A.Show n) e h =
      let p = reply-shows σ number s n e in
      let words = listing-words σ.model.arities σ.held.diagram (good.begun p.run).value.listed in
      let same = ap (λ (τ : Session). length (bytes_in τ (A.Show n))) p.session in
      omega (arith, as-answered (A.Show n) e, same, answer-short (listing σ.held.diagram) (value_form σ) [] (A.Show n) words h tt)
  by_answer (A.Text n) e h =
      let p = reply-prints σ number s n e in
      omega (arith, ap length p.bytes, length-append (value_form σ) line_feed, p.count, p.short)
  by_answer (A.Best k n a b c d) e h = omega (arith, as-answered (A.Best k n a b c d) e, answer-short [] [] [] (A.Best k n a b c d) no_words h tt)
  by_answer (A.Count n m) e h =
      let p = reply-counts σ good number s n m e in
      let same = ap (λ (τ : Session). length (bytes_in τ (A.Count n m))) p.session in
      omega (arith, as-answered (A.Count n m) e, same, counts-short (table_of σ (A.Count n m)) m p.words h)
  by_answer (A.Did n t) e h = omega (arith, as-answered (A.Did n t) e, answer-short [] [] [] (A.Did n t) no_words h tt)
  by_answer A.Nothing e h = omega (arith, as-answered A.Nothing e)

  -- the reply of a good session, where its numbers are machine words and a (show) has at most 1,024 rows
  pub reply-short : OfWords (reply σ number s).answer → length (reply_bytes (reply σ number s)) ≤ most_bytes
  reply-short = by_answer (reply σ number s).answer refl

  -- a move's objects are below 64
  pub best-words : (k : Key) (n a b c d : ℕ) → (reply σ number s).answer ≡ A.Best k n a b c d → OfWords (A.Best k n a b c d)
  best-words k n a b c d e =
      let v = reply-moves σ good number s k n a b c d e in
      let x = v.0 in
      let object : (i : ℕ) → get_or x.objects i 0 < σ.live.objects = tuple-below v.1.objects (placed-objects σ v.1.placed) in
      let most = good.most in
      subst OfWords (sym v.1.answer ∙ e) (omega (arith, object 0, object 1, object 2, object 3))

  -- a spread has at most 1,023 lines
  pub count-words : (n m : ℕ) → (reply σ number s).answer ≡ A.Count n m → OfWords (A.Count n m)
  count-words n m e = omega (arith, (reply-counts σ good number s n m e).few)

  -- count and total are at most 10^18
  pub did-words : (n t : ℕ) → (reply σ number s).answer ≡ A.Did n t → OfWords (A.Did n t)
  did-words n t e = let v = reply-replays σ number s n t e in subst OfWords (sym v.1.answer ∙ e) v.1.words
