-- Laws of `write_result`: the result's listing is written, then closed up.
use mathlib.Core.Path.{◌≡◌, sym, ap, ◌∙◌}
use mathlib.Core.List.{List, ◌++◌}
use Prim.Native.Nat.{ℕ, ◌*◌, ◌≤◌, ◌<◌}
use native.Mathlib.Omega.{arith}
use lib.ListN.{length, take, drop, replicate, length-replicate, get_or-replicate, length-append}
use lib.Seq.{take-append_seam, drop-append_seam}
use lib.Dec.{leb}
use borrow.Author.Tests.{lt-ltb, le-ltb, leb-true, leb-false, lt-leb, le-leb}
use Rattle.basics.specs.Tests.{Flag, is_true, is_false, flag}
use Rattle.refusal.specs.declared.Refusal.TheVariants.{Space}
use Rattle.diagram.specs.Sizes.{most_rows, space_rows}
use Rattle.diagram.specs.Diagram.{Diagram}
use Rattle.diagram.specs.Rows.{rows}
use Rattle.diagram.specs.Listing.{listing, diagram_of, Good}
use Rattle.diagram.specs.ListingLaws.{length-listing}
use Rattle.diagram.specs.ListingOfDiagram.{valid-listing, diagram-listing}
use Rattle.diagram.specs.Validity.{tree}
use Rattle.diagram.specs.Variables.{closed}
use Rattle.apply.specs.declared.Combined.TheVariants.{Done, Refused}
use Rattle.apply.specs.Combination.{written}
use Rattle.rename.specs.ClosingLaws.{closed-count}
use Rattle.write.specs.Numbering.{Unmarked}
use Rattle.write.specs.Renaming.{listed_in}
use Rattle.write.specs.Writing as write
use Rattle.write.specs.Writing.{write_answer, write_words, WritePost}
use Rattle.apart.specs.Results.{Closable, Regular, Writable, result_answer, ResultWritten}
use Rattle.std.specs.Prelude.{None, Option, Some}

regular-good : (ar : List ℕ) (d : Diagram) → Regular ar d → length (rows d) ≤ most_rows → Good ar d
regular-good ar d g h = record { arities = g.arities; ordered = g.ordered; reduced = g.reduced; fine = g.fine; few = h }

-- the answers of `write`, taken apart
module _ (d : Diagram) (out : List ℕ) where
  many-rows : None ≡ write_answer d → most_rows < length (rows d)
  unfolding write_answer
  many-rows e = go (flag (leb (length (rows d)) most_rows))
    where
      go : Flag (leb (length (rows d)) most_rows) → most_rows < length (rows d)
      go (is_true p) = let k : None ≡ Some (length (rows d)) = rw p at e in absurd (let z : ◌≡◌ {A = ℕ} 0 1 = cc in omega arith)
      go (is_false p) = leb-false (length (rows d)) most_rows p

  few-rows : (m : ℕ) → Some m ≡ write_answer d → (length (rows d) ≤ most_rows) × (m ≡ length (rows d))
  unfolding write_answer
  few-rows m e = go (flag (leb (length (rows d)) most_rows))
    where
      go : Flag (leb (length (rows d)) most_rows) → (length (rows d) ≤ most_rows) × (m ≡ length (rows d))
      go (is_true p) = let k : Some m ≡ Some (length (rows d)) = rw p at e in (leb-true (length (rows d)) most_rows p, cc)
      go (is_false p) = let k : Some m ≡ None = rw p at e in absurd (let z : ◌≡◌ {A = ℕ} 0 1 = cc in omega arith)

  words-many : most_rows < length (rows d) → write_words d out ≡ out
  unfolding write_words
  words-many h = rw (lt-leb (length (rows d)) most_rows h)

  words-few : length (rows d) ≤ most_rows → write_words d out ≡ listing d ++ drop (length (rows d) * 3) out
  unfolding write_words
  words-few h = rw (le-leb (length (rows d)) most_rows h)

-- the laws of `result_answer`
module _ (ar : List ℕ) (d : Diagram) (g : Regular ar d) (p : ℕ) where
  count : length (rows (closed ar d)) ≡ length (rows d)
  count = closed-count ar d g.arities g.fine

  answer-many : most_rows < length (rows d) → Refused Space ≡ result_answer ar d p
  unfolding result_answer
  answer-many h = rw (lt-ltb most_rows (length (rows (closed ar d))) (omega (arith, count)))

  answer-few : length (rows d) ≤ most_rows → Done (length (rows d)) p ≡ result_answer ar d p
  unfolding result_answer
  answer-few h = rw (le-ltb most_rows (length (rows (closed ar d))) (omega (arith, count)), count)

-- no row is marked in a new array
pub unmarked-made : (n : ℕ) → space_rows ≤ n → Unmarked (replicate n 0)
unmarked-made n h = record { places = rw length-replicate h; zeros = λ k l. get_or-replicate n k 0 0 (omega arith) }

module _ {ar s out : List ℕ} {count root : ℕ} (g : Writable ar s count root out) where
  pub result-writable : (n₁ n₂ : ℕ) → space_rows ≤ n₁ → space_rows ≤ n₂ → write.Writable s count root (replicate n₁ 0) (replicate n₂ 0) out
  result-writable n₁ n₂ h k = record {
    written = g.written;
    words = g.words;
    within = g.within;
    root-there = g.root-there;
    unmarked = unmarked-made n₁ h;
    order-places = rw length-replicate k;
    room = omega (arith, g.room);
  }

  module _ {x : Option ℕ} {marks' out' : List ℕ} (w : WritePost s root out x marks' out') where
    pub result-many : (p : ℕ) → x ≡ None → ResultWritten ar (tree s root) p out (Refused Space) out'
    result-many p e =
        let h = many-rows (tree s root) out (sym e ∙ w.answer) in
        record { answer = answer-many ar (tree s root) g.regular p h; words = w.words ∙ words-many (tree s root) out h }

    module _ {m : ℕ} (e : x ≡ Some m) where
      rows_few : (length (rows (tree s root)) ≤ most_rows) × (m ≡ length (rows (tree s root)))
      rows_few = few-rows (tree s root) out m (sym e ∙ w.answer)

      result-good : Good ar (tree s root)
      result-good = regular-good ar (tree s root) g.regular rows_few.0

      long : m * 3 ≡ length (listing (tree s root))
      long = omega (arith, length-listing (tree s root), rows_few.1)

      out-is : out' ≡ listing (tree s root) ++ drop (m * 3) out
      out-is = w.words ∙ words-few (tree s root) out rows_few.0 ∙ ap (λ (k : ℕ). listing (tree s root) ++ drop (k * 3) out) (sym rows_few.1)

      taken : take (m * 3) out' ≡ listing (tree s root)
      taken = rw (out-is, long) (take-append_seam (listing (tree s root)) (drop (length (listing (tree s root))) out))

      dropped : drop (m * 3) out' ≡ drop (m * 3) out
      dropped = rw (out-is, long) (drop-append_seam (listing (tree s root)) (drop (length (listing (tree s root))) out))

      pub result-closable : Closable ar out' m
      result-closable = record {
        valid = rw taken (valid-listing ar (tree s root) result-good);
        room = rw out-is (omega (arith, length-append (listing (tree s root)) (drop (m * 3) out), long));
      }

      pub result-done : (p : ℕ) {out'' : List ℕ} → out'' ≡ listing (closed ar (listed_in out' m)) ++ drop (m * 3) out' → ResultWritten ar (tree s root) p out (Done m p) out''
      result-done p {out''} q =
          let d = tree s root in
          let l : listed_in out' m ≡ d = ap diagram_of taken ∙ diagram-listing ar d result-good in
          let n : m * 3 ≡ length (listing (closed ar d)) = omega (arith, length-listing (closed ar d), closed-count ar d g.regular.arities g.regular.fine, rows_few.1) in
          record {
            answer = ap (λ (k : ℕ). Done k p) rows_few.1 ∙ answer-few ar d g.regular p rows_few.0;
            words = q ∙ (λ i. listing (closed ar (l i)) ++ dropped i) ∙ ap (λ (k : ℕ). listing (closed ar d) ++ drop k out) n;
          }
