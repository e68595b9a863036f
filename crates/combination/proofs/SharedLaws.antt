-- The ways through a shared combination.
use mathlib.Core.Path.{◌≡◌, refl, sym, ap, ◌∙◌, subst}
use mathlib.Core.List.{List, [], ◌++◌}
use Prim.Native.Nat.{ℕ, suc, pred, ◌*◌, ◌-◌, ◌/◌, ◌≤◌, ◌<◌}
use native.Mathlib.Omega.{arith}
use lib.ListN.{length, take, drop, replicate, length-replicate, get_or-replicate}
use lib.Seq.{length-take-le}
use lib.Dec.{ltb}
use borrow.Author.Tests.{lt-ltb, le-ltb, ltb-false}
use Rattle.basics.specs.Tests.{Flag, is_true, is_false, flag}
use Rattle.refusal.specs.declared.Refusal.TheVariants.{Pairs, Value, Space}
use Rattle.label.specs.Limits.{leaf_mark}
use Rattle.label.proofs.LabelLaws.{label-below}
use Rattle.diagram.specs.Sizes.{most_rows, space_rows, most_pairs, highest_value, result_words, space_words}
use Rattle.diagram.specs.Diagram.{Diagram}
use Rattle.diagram.specs.Rows.{onto, rows}
use Rattle.diagram.specs.Words.{label_at, high_at, low_at, row_count}
use Rattle.diagram.specs.Listing.{listing, diagram_of}
use Rattle.diagram.specs.Validity.{Valid, ValidRow, a-leaf, a-branch, tree}
use Rattle.diagram.specs.DiagramOfListing.{shown-rows, diagram-is}
use Rattle.diagram.specs.Inner.{Written}
use Rattle.diagram.specs.WrittenRows.{written-listing-words}
use Rattle.apply.specs.declared.Operation.{Operation}
use Rattle.apply.specs.declared.Names.TheVariants.{Shared}
use Rattle.apply.specs.declared.Combined.{Combined}
use Rattle.apply.specs.declared.Combined.TheVariants.{Done, Refused}
use Rattle.apply.specs.Apply.{apply}
use Rattle.apply.specs.Pairs.{pairs, pair_count, overflows}
use Rattle.apply.specs.Combination.{operate, combination, diagram_answer, written, rows_formed}
use Rattle.apply.proofs.CombinationLaws.{rows-shared}
use Rattle.apply.proofs.RowLaws.{rows-onto}
use Rattle.plan.specs.Walk.{Leads}
use Rattle.plan.specs.Plan.{Clean}
use Rattle.plan.specs.PlanLaws.{index-empty}
use Rattle.table.proofs.TableLaws.{clean-made}
use Rattle.store.specs.Space.{diagrams_of, Holds}
use Rattle.store.proofs.SpaceLaws.{holds-none, diagrams-none, length-diagrams}
use Rattle.combine.specs.RowPairs.{Operand}
use Rattle.combine.specs.Paired.{Pairable}
use Rattle.combine.specs.Joining.{join_answer, count_after, diagrams_after, Joint}
use Rattle.combine.specs.Calls.{few, CombineAnswered}
use Rattle.combine.specs.declared.Joined.{Joined}
use Rattle.combine.specs.declared.Joined.TheVariants.{At, TooManyPairs, TooHighValue, NoRoom}
use Rattle.combination.specs.Finishing.{rows_in, finish_answer, finish_words, Finishable, Finished}
use Rattle.combination.specs.Sharing.{Operands, SharedIn}

-- finish_rows
module _ {n p : ℕ} {s out : List ℕ} (able : Finishable (At 0 n p) s out) where
  pub rows-over : most_rows < n → Finished (At 0 n p) s out (Refused Space) out
  unfolding finish_words
  rows-over h = record { answer = rw (lt-ltb most_rows n h); words = rw (lt-ltb most_rows n h) }

  pub rows_fit : {out' : List ℕ} → n ≤ most_rows → out' ≡ take (n * 3) s ++ drop (n * 3) out → Finished (At 0 n p) s out (Done n p) out'
  unfolding finish_words
  rows_fit h e = record {
    answer = rw (le-ltb most_rows n h);
    words = rw (le-ltb most_rows n h, length-take-le (n * 3) s able.there) e;
  }

-- finish
module _ {r : Joined} {s out : List ℕ} where
  pub finish-able : {i n p : ℕ} → Finishable r s out → r ≡ At i n p → Finishable (At 0 n p) s out
  finish-able {i} {n} {p} f e = record { there = subst (λ (x : Joined). rows_in x * 3 ≤ length s) e f.there; room = f.room }

  pub finish-at : {i n p : ℕ} {q : Combined} {out' : List ℕ} → r ≡ At i n p → Finished (At 0 n p) s out q out' → Finished r s out q out'
  unfolding finish_words
  finish-at {i} {n} {p} e f = record { answer = f.answer ∙ ap finish_answer (sym e); words = f.words ∙ ap (λ (x : Joined). written (finish_answer x) (take (rows_in x * 3) s) out) (sym e) }

  pub finish-pairs : r ≡ TooManyPairs → Finished r s out (Refused Pairs) out
  unfolding finish_words
  finish-pairs e = record { answer = ap finish_answer (sym e); words = ap (λ (x : Joined). written (finish_answer x) (take (rows_in x * 3) s) out) (sym e) }

  pub finish-value : r ≡ TooHighValue → Finished r s out (Refused Value) out
  unfolding finish_words
  finish-value e = record { answer = ap finish_answer (sym e); words = ap (λ (x : Joined). written (finish_answer x) (take (rows_in x * 3) s) out) (sym e) }

  pub finish-space : r ≡ NoRoom → Finished r s out (Refused Space) out
  unfolding finish_words
  finish-space e = record { answer = ap finish_answer (sym e); words = ap (λ (x : Joined). written (finish_answer x) (take (rows_in x * 3) s) out) (sym e) }

-- a listing is an operand
row-most : (ar ws : List ℕ) (k : ℕ) → ValidRow ar ws k → label_at ws k ≤ leaf_mark
row-most ar ws k (a-leaf r) = omega (arith, r.mark)
row-most ar ws k (a-branch r) = omega (arith, label-below ar (label_at ws k) r.label)

row-value : (ar ws : List ℕ) (k : ℕ) → ValidRow ar ws k → label_at ws k ≡ leaf_mark → high_at ws k ≤ highest_value
row-value ar ws k (a-leaf r) e = r.value
row-value ar ws k (a-branch r) e = absurd (omega (arith, label-below ar (label_at ws k) r.label))

row-high : (ar ws : List ℕ) (k : ℕ) → ValidRow ar ws k → (label_at ws k ≡ leaf_mark → ⊥) → (high_at ws k < k) × (low_at ws k < k)
row-high ar ws k (a-leaf r) n = absurd (n r.mark)
row-high ar ws k (a-branch r) n = (r.high-before, r.low-before)

module _ (ar ws : List ℕ) (v : Valid ar ws) where
  last_row : suc (length ws / 3 - 1) ≡ row_count ws
  last_row = omega (arith, v.some)

  pub listing-operand : Operand ws (suc (length ws / 3 - 1)) (tree ws)
  listing-operand = rw last_row (record {
    shown = shown-rows ar ws v;
    most = λ k h. row-most ar ws k (v.each k h);
    values = λ k h. row-value ar ws k (v.each k h);
  })

  pub listing-leads : Leads ws (length ws / 3 - 1)
  listing-leads =
      let s = v.some in
      let f = v.few in
      let w = v.whole in
      record {
        room = omega arith;
        few = omega arith;
        most = λ k h. row-most ar ws k (v.each k (omega arith));
        high = λ k h n. (row-high ar ws k (v.each k (omega arith)) n).0;
        low = λ k h n. (row-high ar ws k (v.each k (omega arith)) n).1;
      }

  pub root_is : tree ws (length ws / 3 - 1) ≡ diagram_of ws
  root_is = let e : length ws / 3 - 1 ≡ pred (row_count ws) = omega arith in ap (tree ws) e ∙ sym (diagram-is ar ws v)

-- the working arrays, made anew
plan-clean : (n : ℕ) → 4096 ≤ n → Clean (replicate n 0)
plan-clean n h = record { slots = rw length-replicate h; zeros = λ b l. get_or-replicate n b 0 0 (omega arith) }

pub shared-pairable : (ar : List ℕ) {x y : List ℕ} (n m limit : ℕ) → Valid ar x → Valid ar y → limit * 5 ≤ n → 4096 ≤ m → limit ≤ 65535
    → Pairable x y (replicate n 0) (replicate m 0) limit (length x / 3 - 1) (length y / 3 - 1)
shared-pairable ar {x} {y} n m limit vx vy h k l = record {
  first = listing-operand ar x vx;
  second = listing-operand ar y vy;
  leading = record { first = listing-leads ar x vx; second = listing-leads ar y vy };
  empty = index-empty (replicate n 0) (replicate m 0) limit (rw length-replicate h) l (plan-clean m k);
}

pub shared-holds : (work : List ℕ) (n m : ℕ) → space_words ≤ length work → 2048 ≤ n → 2048 ≤ m → Holds work (replicate n 0) (replicate m 0) 0
shared-holds work n m h k l = holds-none work (replicate n 0) (replicate m 0) h (rw length-replicate l) (clean-made n k)

-- the answer of a shared call
module _ (op : Operation) (ar : List ℕ) (a b : Diagram) where
  combination-is : combination op Shared ar a b ≡ apply (operate op) a b
  unfolding combination
  combination-is = refl

  formed-is : rows_formed op Shared ar a b ≡ length (rows (apply (operate op) a b))
  formed-is = rows-shared op ar a b ∙ ap (λ (e : Diagram). length (rows e)) combination-is

  answer-is : finish_answer (join_answer op most_pairs a b []) ≡ diagram_answer op Shared ar a b
  unfolding diagram_answer join_answer
  answer-is = go (flag (ltb most_pairs (pair_count op a b))) (flag (overflows (operate op) (pairs op a b))) (flag (ltb space_rows (length (onto (apply (operate op) a b) []))))
    where
      go : Flag (ltb most_pairs (pair_count op a b)) → Flag (overflows (operate op) (pairs op a b)) → Flag (ltb space_rows (length (onto (apply (operate op) a b) [])))
          → finish_answer (join_answer op most_pairs a b []) ≡ diagram_answer op Shared ar a b
      go (is_true e) f g = rw e
      go (is_false e) (is_true f) g = rw (e, f)
      go (is_false e) (is_false f) (is_true g) = rw (e, f, formed-is, rows-onto (apply (operate op) a b), g)
      go (is_false e) (is_false f) (is_false g) = rw (e, f, formed-is, combination-is, rows-onto (apply (operate op) a b), g)

  -- where there is a result, its rows are in the space
  words_are : (s heads links : List ℕ) (i n p : ℕ) → At i n p ≡ join_answer op most_pairs a b [] → Holds s heads links n
      → diagrams_of s n ≡ onto (apply (operate op) a b) [] → take (n * 3) s ≡ listing (combination op Shared ar a b)
  words_are s heads links i n p e h q =
      let z : diagrams_of s n ≡ rows (apply (operate op) a b) = q ∙ sym (rows-onto (apply (operate op) a b)) in
      let len : n ≡ length (rows (apply (operate op) a b)) = sym (length-diagrams s n) ∙ ap length z in
      ap (λ (k : ℕ). take (k * 3) s) len
      ∙ written-listing-words s (apply (operate op) a b) (subst (Written s) z h.written) (omega (arith, h.table.words, h.table.within))
      ∙ ap listing (sym combination-is)

-- shared_with
pub shared-in : (op : Operation) (limit : ℕ) (ar x y work : List ℕ) {r : Joined} {s heads links hs : List ℕ} → Operands ar x y work
    → Joint op limit (tree x (length x / 3 - 1)) (tree y (length y / 3 - 1)) work 0 r s heads links hs → SharedIn op limit x y work r s
shared-in op limit ar x y work {r} {s} {heads} {links} {hs} c j = record {
  answer = j.answer ∙ (λ i. join_answer op limit (root_is ar x c.first i) (root_is ar y c.second i) (diagrams-none work i));
  heads = heads;
  links = links;
  holds = j.holds;
  diagrams = j.diagrams ∙ (λ i. diagrams_after op (root_is ar x c.first i) (root_is ar y c.second i) (diagrams-none work i) r);
}

-- few pairs are no more than a call may have
few-answer : (op : Operation) (a b : Diagram) (rs : List Diagram) (r : Joined) → (r ≡ TooManyPairs → ⊥) → r ≡ join_answer op few a b rs → r ≡ join_answer op most_pairs a b rs
unfolding join_answer
few-answer op a b rs r n e = go (flag (ltb few (pair_count op a b)))
  where
    go : Flag (ltb few (pair_count op a b)) → r ≡ join_answer op most_pairs a b rs
    go (is_true q) = absurd (n (rw q at e))
    go (is_false q) =
        let l = ltb-false few (pair_count op a b) q in
        rw (le-ltb most_pairs (pair_count op a b) (omega arith)) (rw q at e)

pub few-many : {op : Operation} {x y work : List ℕ} {r : Joined} {s : List ℕ} → (r ≡ TooManyPairs → ⊥) → SharedIn op few x y work r s → SharedIn op most_pairs x y work r s
few-many {op} {x} {y} {work} {r} {s} n j = record {
  answer = few-answer op (diagram_of x) (diagram_of y) [] r n j.answer;
  heads = j.heads;
  links = j.links;
  holds = j.holds;
  diagrams = j.diagrams;
}

-- combine_shared
pub shared-finishable : {op : Operation} {limit : ℕ} {x y work : List ℕ} {r : Joined} {s out : List ℕ} → SharedIn op limit x y work r s → result_words ≤ length out → Finishable r s out
shared-finishable {op} {limit} {x} {y} {work} {r} {s} {out} j h = record { there = there r j.holds; room = h }
  where
    there : (z : Joined) → Holds s j.heads j.links (count_after 0 z) → rows_in z * 3 ≤ length s
    there (At i n p) k = omega (arith, k.table.words, k.table.within)
    there TooManyPairs k = omega arith
    there TooHighValue k = omega arith
    there NoRoom k = omega arith

pub shared-out : (op : Operation) (ar x y : List ℕ) {work out : List ℕ} {r : Joined} {s : List ℕ} {q : Combined} {out' : List ℕ}
    → SharedIn op most_pairs x y work r s → Finished r s out q out' → CombineAnswered op Shared ar x y out q out'
unfolding finish_words
shared-out op ar x y {work} {out} {r} {s} {q} {out'} j f = record {
  answer = f.answer ∙ ap finish_answer j.answer ∙ answer-is op ar (diagram_of x) (diagram_of y);
  words = f.words ∙ buffer r j.answer j.holds j.diagrams ∙ ap (λ (z : Combined). written z (listing (combination op Shared ar (diagram_of x) (diagram_of y))) out) (sym f.answer);
}
  where
    buffer : (z : Joined) → z ≡ join_answer op most_pairs (diagram_of x) (diagram_of y) [] → Holds s j.heads j.links (count_after 0 z)
        → diagrams_of s (count_after 0 z) ≡ diagrams_after op (diagram_of x) (diagram_of y) [] z
        → finish_words z s out ≡ written (finish_answer z) (listing (combination op Shared ar (diagram_of x) (diagram_of y))) out
    buffer (At i n p) e h k =
        ap (λ (ws : List ℕ). written (finish_answer (At i n p)) ws out) (words_are op ar (diagram_of x) (diagram_of y) s j.heads j.links i n p e h k)
    buffer TooManyPairs e h k = refl
    buffer TooHighValue e h k = refl
    buffer NoRoom e h k = refl
