-- Stopping under a zero (document 02, L4): a pair left out stands below one that is there and forms leaf 0 as that one does. So what overflows and what is formed
-- stay, and an answer that was not refusal 10 stays but for its count.
use Rattle.std.specs.Prelude.{◌≡◌, ◌⊎◌, Bool, cond, ◌||◌, List, [], ℕ, ◌≤◌, length, ltb}
use Rattle.std.proofs.Math.Path.{refl}
use Rattle.std.proofs.Common.{ap, sym, ◌∙◌, inl, inr, arith, ltb-false, le-ltb}
use Rattle.std.proofs.Math.Bool.{true, false}
use Rattle.basics.specs.Tests.{Flag, is_true, is_false, flag, Either, one, other, either, or-one, or-other}
use Rattle.basics.specs.Members.{mem, NoDup, Within, nodup-le, clash}
use Rattle.refusal.specs.declared.Refusal.TheVariants.{Variables, Pairs, Value, Space}
use Rattle.diagram.specs.Sizes.{most_rows, space_rows, most_pairs}
use Rattle.diagram.specs.Diagram.{Diagram, leaf, branch, same}
use Rattle.diagram.specs.DiagramLaws.{diagram-test}
use Rattle.diagram.specs.Rows.{rows}
use Rattle.apply.specs.declared.Operation.{Operation}
use Rattle.apply.specs.declared.Operation.TheVariants.{Sum}
use Rattle.apply.specs.declared.Names.{Names}
use Rattle.apply.specs.declared.Combined.TheVariants.{Done, Refused}
use Rattle.apply.specs.Apply.{apply}
use Rattle.apply.specs.Pairs.{Pair, same_pair, absorbs, ends, descend, successor, pairs, pair_count, too_high, overflows}
use Rattle.apply.specs.Visit.{visit}
use Rattle.apply.specs.Formed.{formed}
use Rattle.apply.specs.Combination.{operate, left_operand, right_operand, too_many, operand_rows, rows_formed, combination, diagram_answer}
use Rattle.apply.specs.Inner.{absorbing, zero_pair}
use Rattle.apply.specs.Before.{all_pairs, all_count, answer_before, recounted}
use Rattle.apply.proofs.Course.{absorbed-left, absorbed-right, absorb-left, absorb-right}
use Rattle.apply.proofs.PairLaws.{pair-test, pairs-root, pairs-closed, pairs-least, pairs-induct}
use Rattle.apply.proofs.VisitLaws.{visit-within, pairs-within, visit-nodup, visit-count}
use Rattle.apply.proofs.OverflowLaws.{overflow-found, overflow-made, overflows-less, Overflow}
use Rattle.apply.proofs.FormedLaws.{Formed, before, result, formed-from, formed-mem, formed-keeps, formed-within, formed-nodup}
use Rattle.apply.proofs.CombinationLaws.{operands-nodup}

-- a pair with a leaf that absorbs forms leaf 0, has no value above 10^18, and so have its successors
module _ (op : Operation) where
  forms-left : (a b : Diagram) → absorbing op a ≡ true → apply (operate op) a b ≡ leaf 0
  unfolding absorbing
  forms-left (leaf v) b e = absorbed-left op v b e
  forms-left (branch l t f) b e = clash e refl

  forms-right : (a b : Diagram) → absorbing op b ≡ true → apply (operate op) a b ≡ leaf 0
  unfolding absorbing
  forms-right a (leaf w) e = absorbed-right op a w e
  forms-right a (branch k u g) e = clash e refl

  zero-forms : (p : Pair) → zero_pair op p ≡ true → apply (operate op) p.0 p.1 ≡ leaf 0
  unfolding zero_pair
  zero-forms p h = go (either (absorbing op p.0) (absorbing op p.1) h)
    where
      go : Either (absorbing op p.0) (absorbing op p.1) → apply (operate op) p.0 p.1 ≡ leaf 0
      go (one e) = forms-left p.0 p.1 e
      go (other e) = forms-right p.0 p.1 e

  high-left : (a b : Diagram) → absorbing op a ≡ true → too_high (operate op) a b ≡ false
  unfolding absorbing
  high-left (leaf v) (leaf w) e = rw (absorb-left op v w e)
  high-left (leaf v) (branch k u g) e = refl
  high-left (branch l t f) b e = clash e refl

  high-right : (a b : Diagram) → absorbing op b ≡ true → too_high (operate op) a b ≡ false
  unfolding absorbing
  high-right (leaf v) (leaf w) e = rw (absorb-right op v w e)
  high-right (leaf v) (branch k u g) e = clash e refl
  high-right (branch l t f) b e = refl

  zero-low : (p : Pair) → zero_pair op p ≡ true → too_high (operate op) p.0 p.1 ≡ false
  unfolding zero_pair
  zero-low p h = go (either (absorbing op p.0) (absorbing op p.1) h)
    where
      go : Either (absorbing op p.0) (absorbing op p.1) → too_high (operate op) p.0 p.1 ≡ false
      go (one e) = high-left p.0 p.1 e
      go (other e) = high-right p.0 p.1 e

  absorbing-stays : (w : Bool) (a b : Diagram) → absorbing op a ≡ true → absorbing op (descend w a b) ≡ true
  unfolding absorbing descend
  absorbing-stays w (leaf v) b e = e
  absorbing-stays w (branch l t f) b e = clash e refl

  zero-stays : (w : Bool) (p : Pair) → zero_pair op p ≡ true → zero_pair op (successor w p) ≡ true
  unfolding zero_pair successor
  zero-stays w p h = go (either (absorbing op p.0) (absorbing op p.1) h)
    where
      go : Either (absorbing op p.0) (absorbing op p.1) → (absorbing op (descend w p.0 p.1) || absorbing op (descend w p.1 p.0)) ≡ true
      go (one e) = or-one _ _ (absorbing-stays w p.0 p.1 e)
      go (other e) = or-other (absorbing op (descend w p.0 p.1)) _ (absorbing-stays w p.1 p.0 e)

  -- where a pair ends before both are leaves, one of them absorbs
  ends_more : (a b : Diagram) → ends Sum a b ≡ false → ends op a b ≡ true → zero_pair op (a, b) ≡ true
  unfolding ends zero_pair
  ends_more (leaf v) (leaf w) n e = clash refl n
  ends_more (leaf v) (branch k u g) n e = or-one (absorbs op v) _ e
  ends_more (branch l t f) (leaf w) n e = e
  ends_more (branch l t f) (branch k u g) n e = clash e refl

  ends-less : (a b : Diagram) → ends op a b ≡ false → ends Sum a b ≡ false
  unfolding ends
  ends-less (leaf v) (leaf w) n = n
  ends-less (leaf v) (branch k u g) n = refl
  ends-less (branch l t f) (leaf w) n = refl
  ends-less (branch l t f) (branch k u g) n = refl

  module _ (a b : Diagram) where
    -- the pairs are among those of old, and no more of them
    pub zero-within : Within same_pair (pairs op a b) (all_pairs a b)
    zero-within = (pairs-least op a b).least (all_pairs a b) (pairs-root Sum a b)
        (record { successors = λ p h n w. (pairs-closed Sum a b).successors p h (ends-less p.0 p.1 n) w })

    pub zero-count : pair_count op a b ≤ all_count a b
    zero-count =
        let l = nodup-le same_pair pair-test (visit op a b []) (visit Sum a b []) (visit-nodup op a b [] tt)
        (λ p h. pairs-within Sum a b p (zero-within p (visit-within op a b p h))) in
        omega (arith, visit-count op a b, visit-count Sum a b)

    -- a pair left out forms leaf 0, and so does one that is there
    pub record LeftOut (p : Pair) : Type 0 where
      pub zero : zero_pair op p ≡ true
      pub above : Pair
      pub there : mem same_pair above (pairs op a b) ≡ true
      pub zero-above : zero_pair op above ≡ true

    abbrev Kept : Pair → Type 0
    Kept p = (mem same_pair p (pairs op a b) ≡ true) ⊎ LeftOut p

    kept_step : (p : Pair) → Kept p → ends Sum p.0 p.1 ≡ false → (w : Bool) → Kept (successor w p)
    kept_step p (inl m) n w = go (flag (ends op p.0 p.1))
      where
        go : Flag (ends op p.0 p.1) → Kept (successor w p)
        go (is_true e) =
            let z = ends_more p.0 p.1 n e in
            inr (record { zero = zero-stays w p z; above = p; there = m; zero-above = z })
        go (is_false e) = inl ((pairs-closed op a b).successors p m e w)
    kept_step p (inr o) n w = inr (record { zero = zero-stays w p o.zero; above = o.above; there = o.there; zero-above = o.zero-above })

    pub zero-kept : (p : Pair) → mem same_pair p (all_pairs a b) ≡ true → Kept p
    zero-kept p h = pairs-induct Sum Kept kept_step a b (inl (pairs-root op a b)) p h

    -- refusal 11 has the same condition
    pub zero-overflows : overflows (operate op) (pairs op a b) ≡ overflows (operate op) (all_pairs a b)
    zero-overflows = go (flag (overflows (operate op) (all_pairs a b)))
      where
        high : (o : Overflow (operate op) (all_pairs a b)) → Kept o.pair → overflows (operate op) (pairs op a b) ≡ true
        high o (inl m) = overflow-made (operate op) (pairs op a b) o.pair m o.high
        high o (inr l) = clash o.high (zero-low o.pair l.zero)

        go : Flag (overflows (operate op) (all_pairs a b)) → overflows (operate op) (pairs op a b) ≡ overflows (operate op) (all_pairs a b)
        go (is_true e) = let o = overflow-found (operate op) (all_pairs a b) e in high o (zero-kept o.pair o.member) ∙ sym e
        go (is_false e) = overflows-less (operate op) (pairs op a b) (all_pairs a b) zero-within e ∙ sym e

    -- and so has refusal 9: the same rows are formed
    pub zero-formed : (rs : List Diagram) → Within same (formed (operate op) rs (all_pairs a b)) (formed (operate op) rs (pairs op a b))
    zero-formed rs d h = go (formed-from (operate op) rs (all_pairs a b) d h)
      where
        made : (p : Pair) → d ≡ apply (operate op) p.0 p.1 → Kept p → mem same d (formed (operate op) rs (pairs op a b)) ≡ true
        made p e (inl m) = rw e (formed-mem (operate op) rs (pairs op a b) p m)
        made p e (inr l) =
            rw (e ∙ zero-forms p l.zero ∙ sym (zero-forms l.above l.zero-above)) (formed-mem (operate op) rs (pairs op a b) l.above l.there)

        go : Formed (operate op) rs (all_pairs a b) d → mem same d (formed (operate op) rs (pairs op a b)) ≡ true
        go (before m) = formed-keeps (operate op) rs (pairs op a b) d m
        go (result p m e) = made p e (zero-kept p m)

    pub zero-rows : (rs : List Diagram) → NoDup same rs → length (formed (operate op) rs (pairs op a b)) ≡ length (formed (operate op) rs (all_pairs a b))
    zero-rows rs d =
        let o = operate op in
        let ps = pairs op a b in
        let qs = all_pairs a b in
        let x = nodup-le same diagram-test (formed o rs ps) (formed o rs qs) (formed-nodup o rs ps d) (formed-within o rs ps qs zero-within) in
        let y = nodup-le same diagram-test (formed o rs qs) (formed o rs ps) (formed-nodup o rs qs d) (zero-formed rs) in
        omega arith

-- the checks in order, before and now
same-checks : (t p q o o' s s' f : Bool) (n k m : ℕ) → (q ≡ false → p ≡ false) → o' ≡ o → s' ≡ s
    → (cond t (Refused Variables) (cond q (Refused Pairs) (cond o (Refused Value) (cond s (Refused Space) (cond f (Refused Space) (Done n m))))) ≡ Refused Pairs)
    ⊎ (cond t (Refused Variables) (cond p (Refused Pairs) (cond o' (Refused Value) (cond s' (Refused Space) (cond f (Refused Space) (Done n k)))))
    ≡ recounted k (cond t (Refused Variables) (cond q (Refused Pairs) (cond o (Refused Value) (cond s (Refused Space) (cond f (Refused Space) (Done n m)))))))
same-checks true p q o o' s s' f n k m h e d = inr refl
same-checks false p true o o' s s' f n k m h e d = inl refl
same-checks false p false true o' s s' f n k m h e d = inr (rw (h refl, e))
same-checks false p false false o' true s' f n k m h e d = inr (rw (h refl, e, d))
same-checks false p false false o' false s' true n k m h e d = inr (rw (h refl, e, d))
same-checks false p false false o' false s' false n k m h e d = inr (rw (h refl, e, d))

fewer : (op : Operation) (l r : Diagram) → ltb most_pairs (all_count l r) ≡ false → ltb most_pairs (pair_count op l r) ≡ false
fewer op l r h = le-ltb most_pairs (pair_count op l r) (omega (arith, zero-count op l r, ltb-false most_pairs (all_count l r) h))

-- a call met refusal 10, or its answer is what it was, accepted or refused; only the count of pairs is what they are now. The diagram is `combination`, as before
pub answer-kept : (op : Operation) (names : Names) (ar : List ℕ) (a b : Diagram)
    → (answer_before op names ar a b ≡ Refused Pairs)
    ⊎ (diagram_answer op names ar a b ≡ recounted (pair_count op (left_operand names ar a b) (right_operand names ar a b)) (answer_before op names ar a b))
unfolding diagram_answer answer_before rows_formed
answer-kept op names ar a b =
    let l = left_operand names ar a b in
    let r = right_operand names ar a b in
    let rs = operand_rows names ar a b in
    same-checks (too_many names ar a b) (ltb most_pairs (pair_count op l r)) (ltb most_pairs (all_count l r)) (overflows (operate op) (all_pairs l r))
    (overflows (operate op) (pairs op l r)) (ltb space_rows (length (formed (operate op) rs (all_pairs l r))))
    (ltb space_rows (length (formed (operate op) rs (pairs op l r)))) (ltb most_rows (length (rows (combination op names ar a b))))
    (length (rows (combination op names ar a b))) (pair_count op l r) (all_count l r) (fewer op l r) (zero-overflows op l r)
    (ap (ltb space_rows) (zero-rows op l r rs (operands-nodup names ar a b)))
