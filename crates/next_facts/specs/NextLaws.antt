-- The rows found are the rows of the next state.
use Rattle.std.specs.Prelude.{◌≡◌, Bool, true, false, ◌&&◌, cond, get_or, ltb, leb}
use Rattle.std.proofs.Math.Path.{refl, sym, ap, subst}
use Rattle.std.proofs.Common.{ap₂, ◌∙◌}
use Rattle.std.proofs.Math.Bool.{not}
use mathlib.Core.List.{List, [], ◌∷◌, ◌++◌, map, Memᴰ}
use Rattle.std.proofs.Math.Option
use Rattle.std.proofs.Math.Option.{Option, some, none}
use Prim.Native.Nat.{ℕ, suc, pred, ◌+◌, ◌-◌, ◌≤◌, ◌<◌}
use native.Mathlib.Omega.{arith}
use Rattle.std.proofs.Math.ListN.{length}
use Rattle.std.proofs.Math.Dec.{eqb}
use borrow.Author.Tests.{eqb-true, eqb-false, ne_eqb, not-true, not-false, lt-ltb, le-ltb, le-leb, lt-leb}
use Rattle.basics.specs.Tests.{Flag, is_true, is_false, flag, and_right, Cmp, below, equal, above, cmp}
use Rattle.label.specs.Limits.{equality, predicate_count}
use Rattle.label.proofs.ArityLaws.{arity-most}
use Rattle.diagram.specs.Diagram.{Diagram}
use Rattle.diagram.specs.Words.{up_to}
use Rattle.diagram.specs.Listing.{diagram_of}
use Rattle.diagram.specs.ListingValid.{listing-is-valid}
use Rattle.diagram.specs.Validity.{Valid}
use Rattle.state.specs.State.{State, Good, meaning, value}
use Rattle.state.specs.Next.{inner, fact_after, next}
use Rattle.state.specs.Highest.{Bound}
use Rattle.state.specs.Lent.{fact_count, state_of, most_facts, fact_row}
use Rattle.state.specs.Max.{gather, tuples}
use Rattle.elimination.proofs.AnswerLaws.{lent-good}
use Rattle.regression.specs.Result.{AtMost}
use Rattle.regression.specs.RegressCall.{truth_count, truth_words}
use Rattle.regression.proofs.RegressCallLaws.{truths-none, truths-some, listings-at}
use Rattle.reduction.proofs.ListLaws.{in-up_to}
use Rattle.reduction.proofs.CombinationLaws.{in-tuples}
use Rattle.mdp.specs.Bellman.{state_after}
use Rattle.truths.specs.TruthChecks.{has_truth}
use Rattle.model.specs.Layout.{spans_at, variant_at}
use Rattle.replay.specs.Replay.{rows_at, fact_rows, facts_of}
use Rattle.replay.proofs.FactLaws.{facts-count}
use Rattle.next_facts.specs.Reach.{free}
use Rattle.next_facts.specs.Filling.{own_words, rows_by, words_at, all_rows, rows_counted, Filled}
use Rattle.next_facts.specs.UnderLaws.{those-same, tuple-size, is_one, rows_are}
use Rattle.next_facts.specs.OwnLaws.{own-valid, own-diagram, own-says}
use Rattle.next_facts.specs.KeepingLaws.{bound-below}
use Rattle.next_facts.specs.NextCall.{after_at, Moving, NextFacts}
use Rattle.std.specs.Prelude.{None, Option as StdOption, Some}

gather-same : {B : Type 0} (f g : ℕ → List B) (xs : List ℕ) → ((a : ℕ) → Memᴰ a xs → f a ≡ g a) → gather f xs ≡ gather g xs
gather-same f g [] h = refl
gather-same f g (x ∷ xs) h = ap₂ ◌++◌ (h x (Memᴰ.head refl)) (gather-same f g xs (λ a i. h a (Memᴰ.tail i)))

counted-answer : (c : ℕ) → rows_counted c ≡ cond (ltb most_facts c) None (Some c)
unfolding rows_counted
counted-answer c = go (cmp c (suc most_facts))
  where
    go : Cmp c (suc most_facts) → cond (leb c most_facts) (Some c) None ≡ cond (ltb most_facts c) None (Some c)
    go (below l) = rw (le-leb c most_facts (omega arith), le-ltb most_facts c (omega arith)) refl
    go (equal l) = rw (lt-leb c most_facts (omega arith), lt-ltb most_facts c (omega arith)) refl
    go (above l) = rw (lt-leb c most_facts (omega arith), lt-ltb most_facts c (omega arith)) refl

module _ (ar listings table : List ℕ) (place n : ℕ) (constants facts os out : List ℕ) (m : Moving ar listings table place n constants facts os out) (most : n ≤ free) where
  module _ (p : ℕ) (some_one : 0 < p) (fits : p < predicate_count) where
    has_some : has_truth (spans_at table place) p ≡ true → truth_count (spans_at table place) p ≡ 0 → ⊥
    unfolding has_truth
    has_some e = eqb-false _ 0 (not-true _ (and_right (not (eqb p equality)) _ e))

    has-none : has_truth (spans_at table place) p ≡ false → truth_count (spans_at table place) p ≡ 0
    unfolding has_truth
    has-none e = eqb-true _ 0 (not-false _ (sym (ap (λ (b : Bool). not b && not (eqb (truth_count (spans_at table place) p) 0)) (ne_eqb p equality (λ z. omega arith))) ∙ e))

    words-some : has_truth (spans_at table place) p ≡ true → words_at ar listings (spans_at table place) p ≡ truth_words listings (spans_at table place) p
    unfolding words_at
    words-some e = rw e refl

    words-none : has_truth (spans_at table place) p ≡ false → words_at ar listings (spans_at table place) p ≡ own_words p (get_or ar p 0)
    unfolding words_at
    words-none e = rw e refl

    truth-some : has_truth (spans_at table place) p ≡ true → (variant_at listings table place).truths p ≡ some (diagram_of (truth_words listings (spans_at table place) p))
    unfolding variant_at
    truth-some e = truths-some listings (spans_at table place) p (has_some e)

    truth-none : has_truth (spans_at table place) p ≡ false → (variant_at listings table place).truths p ≡ none
    unfolding variant_at
    truth-none e = truths-none listings (spans_at table place) p (has-none e)

    some-valid : has_truth (spans_at table place) p ≡ true → Valid ar (truth_words listings (spans_at table place) p)
    some-valid e = listing-is-valid ar (truth_words listings (spans_at table place) p)
        (listings-at ar listings (spans_at table place) 1 (predicate_count - 1) m.laid.truths p (omega arith) (omega arith) (has_some e))

    words-valid : Valid ar (words_at ar listings (spans_at table place) p)
    words-valid = go (flag (has_truth (spans_at table place) p))
      where
        go : Flag (has_truth (spans_at table place) p) → Valid ar (words_at ar listings (spans_at table place) p)
        go (is_true e) = subst (Valid ar) (sym (words-some e)) (some-valid e)
        go (is_false e) = subst (Valid ar) (sym (words-none e)) (own-valid ar m.arities p some_one fits)

    words-bits : AtMost 1 (diagram_of (words_at ar listings (spans_at table place) p))
    words-bits = go (flag (has_truth (spans_at table place) p))
      where
        go : Flag (has_truth (spans_at table place) p) → AtMost 1 (diagram_of (words_at ar listings (spans_at table place) p))
        go (is_true e) = subst (λ (ws : List ℕ). AtMost 1 (diagram_of ws)) (sym (words-some e)) (m.good.truths p _ some_one fits (truth-some e)).bits
        go (is_false e) = subst (λ (ws : List ℕ). AtMost 1 (diagram_of ws)) (sym (words-none e))
            (subst (AtMost 1) (sym (own-diagram ar m.arities p some_one fits)) (omega arith, omega arith))

    -- the words say what holds in the next state
    words-say : (vs : List ℕ) → length vs ≡ get_or ar p 0
        → eqb (value (state_of ar n constants facts) (meaning ar (diagram_of (words_at ar listings (spans_at table place) p))) (inner (state_of ar n constants facts) os vs)) 1
        ≡ fact_after (state_of ar n constants facts) os (Option.map (meaning ar) ((variant_at listings table place).truths p)) p vs
    unfolding state_of
    words-say vs size = go (flag (has_truth (spans_at table place) p))
      where
        go : Flag (has_truth (spans_at table place) p)
            → eqb (value (state_of ar n constants facts) (meaning ar (diagram_of (words_at ar listings (spans_at table place) p))) (inner (state_of ar n constants facts) os vs)) 1
            ≡ fact_after (state_of ar n constants facts) os (Option.map (meaning ar) ((variant_at listings table place).truths p)) p vs
        go (is_true e) =
            ap (λ (ws : List ℕ). eqb (value (state_of ar n constants facts) (meaning ar (diagram_of ws)) (inner (state_of ar n constants facts) os vs)) 1) (words-some e)
            ∙ sym (ap (λ (o : Option Diagram). fact_after (state_of ar n constants facts) os (Option.map (meaning ar) o) p vs) (truth-some e))
        go (is_false e) =
            ap (λ (ws : List ℕ). eqb (value (state_of ar n constants facts) (meaning ar (diagram_of ws)) (inner (state_of ar n constants facts) os vs)) 1) (words-none e)
            ∙ own-says ar m.arities p some_one fits n constants facts os vs size
            ∙ sym (ap (λ (o : Option Diagram). fact_after (state_of ar n constants facts) os (Option.map (meaning ar) o) p vs) (truth-none e))

    good : Good (state_of ar n constants facts)
    good = lent-good ar n constants facts m.lent

    bound : Bound (state_of ar n constants facts) os
    unfolding state_of
    bound = bound-below good os m.objects

    pub rows_next : rows_by ar facts (words_at ar listings (spans_at table place) p) p n constants os ≡ rows_at ar (after_at ar listings table place n constants facts os) p
    unfolding rows_by rows_at after_at state_after next is_one state_of
    rows_next =
        rows_are ar n constants facts os good bound most (words_at ar listings (spans_at table place) p) words-valid words-bits p (get_or ar p 0) (arity-most ar p m.arities)
        ∙ ap (map (fact_row p)) (those-same _ _ (tuples n (get_or ar p 0)) (λ vs i. words-say vs (tuple-size (in-tuples n (get_or ar p 0) vs i))))

  -- all predicates
  all-next : all_rows ar facts listings (spans_at table place) n constants os (pred predicate_count) ≡ fact_rows ar (after_at ar listings table place n constants facts os)
  unfolding all_rows fact_rows
  all-next = gather-same _ _ (up_to (pred predicate_count)) (λ p i.
      let h = in-up_to (pred predicate_count) p i in
      let e : p + 1 ≡ suc p = omega arith in
      ap (λ (q : ℕ). rows_by ar facts (words_at ar listings (spans_at table place) q) q n constants os) e ∙ rows_next (suc p) (omega arith) (omega arith))

  pub next-end : (spans : List ℕ) → spans ≡ spans_at table place → (r : StdOption ℕ) (out₀ out' : List ℕ) → Filled (all_rows ar facts listings spans n constants os (pred predicate_count)) 0 out₀ r out'
      → NextFacts (facts_of ar (after_at ar listings table place n constants facts os)) r out'
  unfolding facts_of
  next-end spans q r out₀ out' f =
      let a : State = after_at ar listings table place n constants facts os in
      let g = subst (λ (l : List (List ℕ)). Filled l 0 out₀ r out') (ap (λ (x : List ℕ). all_rows ar facts listings x n constants os (pred predicate_count)) q ∙ all-next) f in
      record {
        answer =
            let e : 0 + length (fact_rows ar a) ≡ fact_count (facts_of ar a) = omega (arith, facts-count ar m.arities (after_at ar listings table place n constants facts os)) in
            g.answer ∙ ap rows_counted e ∙ counted-answer (fact_count (facts_of ar a));
        written = g.written;
      }
