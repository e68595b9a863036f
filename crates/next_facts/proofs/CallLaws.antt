-- Laws of the rows of one predicate after the other, in the words of the code.
use mathlib.Core.Path.{◌≡◌, refl, sym, ap, subst, ◌∙◌}
use mathlib.Core.Bool.{Bool, true, false, not, cond}
use mathlib.Core.List.{List, [], ◌∷◌, map}
use Prim.Native.Nat.{ℕ, pred, ◌+◌, ◌-◌, ◌≤◌, ◌<◌}
use native.Mathlib.Omega.{arith}
use lib.ListN.{length, get_or, take, drop, replicate, length-map, length-replicate}
use lib.Seq.{ext_get_or}
use lib.Dec.{eqb}
use borrow.Author.Tests.{eqb-false, not-true}
use Rattle.basics.specs.Tests.{and_right, Cmp, below, equal, above, cmp}
use Rattle.label.specs.Limits.{first_variable, term_end, most_places, predicate_count, leaf_mark, term_base, equality}
use Rattle.label.specs.Labels.{packed, atom_from}
use Rattle.label.proofs.ArityLaws.{arity-most, arity-words}
use Rattle.label.specs.Callers.{Packable}
use Rattle.label.specs.declared.Atom.{Atom}
use Rattle.diagram.specs.Sizes.{most_rows}
use Rattle.diagram.specs.Words.{up_to}
use Rattle.diagram.specs.WordLaws.{get_d_map, get_d-up_to, length-up_to}
use Rattle.diagram.specs.ListingValid.{listing-is-valid}
use Rattle.diagram.specs.Validity.{Valid}
use Rattle.regression.specs.RegressCall.{truth_words, are_listings}
use Rattle.regression.proofs.RegressCallLaws.{listings-at}
use Rattle.truths.specs.TruthChecks.{has_truth}
use Rattle.model.specs.Layout.{spans_at, variant_words}
use Rattle.state.specs.Lent.{fact_count}
use Rattle.replay.specs.Replay.{facts_of}
use Rattle.next_facts.specs.Reach.{free}
use Rattle.next_facts.specs.Filling.{first_word, first_env, Begun, own_terms, own_place, own_label, own_words, under, rows_by, words_at, all_rows, Filled, FilledBy, Fillable, Walkable, Askable}
use Rattle.next_facts.specs.FillingLaws.{gather-up_to, gather-most, filled_none, filled-few, filled-then, filled_more}
use Rattle.next_facts.specs.OwnLaws.{own-term, own-past, own-valid}
use Rattle.next_facts.specs.Keeping.{Ordered, kept_rows, Standing}
use Rattle.next_facts.specs.KeepingLaws.{kept-own}
use Rattle.next_facts.specs.NextCall.{after_at, Moving, NextFacts}
use Rattle.next_facts.specs.NextLaws.{next-end}
use Rattle.std.specs.Prelude.{None, Option, Some}

-- `own_place`
pub place-own : (k i : ℕ) → i < k → first_variable + i ≡ own_place k i
unfolding own_place
place-own k i h = sym (own-term k i h)

pub place-past : (k i : ℕ) → k ≤ i → 0 ≡ own_place k i
unfolding own_place
place-past k i h = sym (own-past k i h)

-- `own_label`
place-small : (k i : ℕ) → i < most_places → own_place k i < term_base
unfolding own_place
place-small k i h = go (cmp i k)
  where
    go : Cmp i k → get_or (own_terms k) i 0 < term_base
    go (below l) = omega (arith, own-term k i l)
    go (equal l) = omega (arith, own-past k i (omega arith))
    go (above l) = omega (arith, own-past k i (omega arith))

module _ (p k : ℕ) {x₀ x₁ x₂ x₃ x₄ x₅ : ℕ} (e₀ : x₀ ≡ own_place k 0) (e₁ : x₁ ≡ own_place k 1) (e₂ : x₂ ≡ own_place k 2) (e₃ : x₃ ≡ own_place k 3) (e₄ : x₄ ≡ own_place k 4)
    (e₅ : x₅ ≡ own_place k 5) where
  atom-own : ◌≡◌ {A = Atom} (record { predicate = p; first = x₀; second = x₁; third = x₂; fourth = x₃; fifth = x₄; sixth = x₅ }) (atom_from p (own_terms k))
  unfolding own_place
  atom-own = λ i. record { predicate = p; first = e₀ i; second = e₁ i; third = e₂ i; fourth = e₃ i; fifth = e₄ i; sixth = e₅ i }

  pub label-packable : p < predicate_count → Packable (record { predicate = p; first = x₀; second = x₁; third = x₂; fourth = x₃; fifth = x₄; sixth = x₅ })
  label-packable h = record {
    predicate-below = h;
    places = record {
      first_below = omega (arith, place-small k 0 (omega arith));
      second_below = omega (arith, place-small k 1 (omega arith));
      third-below = omega (arith, place-small k 2 (omega arith));
      fourth-below = omega (arith, place-small k 3 (omega arith));
      fifth-below = omega (arith, place-small k 4 (omega arith));
      sixth-below = omega (arith, place-small k 5 (omega arith));
    };
  }

  pub label-own : {l : ℕ} → l ≡ packed (record { predicate = p; first = x₀; second = x₁; third = x₂; fourth = x₃; fifth = x₄; sixth = x₅ }) → l ≡ own_label p k
  unfolding own_label
  label-own e = e ∙ ap packed atom-own

-- `fill_by`
begun-env : (constants os : List ℕ) (k : ℕ) (env : List ℕ) → Begun constants os k env term_end → env ≡ first_env constants os k
unfolding first_env
begun-env constants os k env b =
    ext_get_or 0 env (map (first_word constants os k) (up_to term_end)) (b.words ∙ sym (length-map (up_to term_end) (first_word constants os k) ∙ length-up_to term_end)) (λ t h.
    let l : t < term_end = omega (arith, b.words) in
    b.each t l ∙ sym (get_d_map (first_word constants os k) (up_to term_end) t 0 0 (omega (arith, length-up_to term_end)) ∙ ap (first_word constants os k) (get_d-up_to term_end t l)))

module _ {ar ws marks out : List ℕ} {p count : ℕ} (s : Walkable ar ws marks out p count) where
  pub walk-read : p < length ar
  walk-read = omega (arith, s.predicate, arity-words ar s.valid.arities)

  pub walk-fillable : {constants os env : List ℕ} → Begun constants os (get_or ar p 0) env term_end → Fillable ar ws env marks out (get_or ar p 0) (get_or ar p 0) count
  walk-fillable b = record {
    reaching = record { valid = s.valid; words = b.words; places = omega (arith, s.valid.few, s.places) };
    most = arity-most ar p s.valid.arities;
    left = omega arith;
    room = s.room;
  }

pub walk-filled : (ar facts ws : List ℕ) (p n : ℕ) {constants os env env' out out' : List ℕ} {count : ℕ} {r : Option ℕ} → Begun constants os (get_or ar p 0) env term_end
    → FilledBy (under ar facts ws p (get_or ar p 0) n (get_or ar p 0) env) count env out r env' out' → Filled (rows_by ar facts ws p n constants os) count out r out'
unfolding rows_by
walk-filled ar facts ws p n {constants} {os} {env} {env'} {out} {out'} {count} {r} b f =
    subst (λ (x : List ℕ). Filled (under ar facts ws p (get_or ar p 0) n (get_or ar p 0) x) count out r out') (begun-env constants os (get_or ar p 0) env b) f.filled

-- `fill_at`
module _ {ar listings spans marks out : List ℕ} {p count : ℕ} (s : Askable ar listings spans marks out p count) where
  pub ask-read : p < length ar
  ask-read = omega (arith, s.predicate, arity-words ar s.arities)

  pub ask-few : get_or ar p 0 ≤ most_places
  ask-few = arity-most ar p s.arities

  module _ {b : Bool} (q : b ≡ has_truth spans p) where
    pub ask-some : {ws : List ℕ} → b ≡ true → ws ≡ truth_words listings spans p → Walkable ar ws marks out p count
    unfolding has_truth
    ask-some e z = record {
      valid = subst (Valid ar) (sym z) (listing-is-valid ar (truth_words listings spans p) (listings-at ar listings spans 1 (predicate_count - 1) s.listed p s.some
          (omega (arith, s.predicate)) (eqb-false _ 0 (not-true _ (and_right (not (eqb p equality)) _ (sym q ∙ e))))));
      predicate = s.predicate;
      places = s.places;
      room = s.room;
    }

    pub some-filled : (facts : List ℕ) (n : ℕ) (constants os : List ℕ) {ws out' : List ℕ} {r : Option ℕ} → b ≡ true → ws ≡ truth_words listings spans p
        → Filled (rows_by ar facts ws p n constants os) count out r out' → Filled (rows_by ar facts (words_at ar listings spans p) p n constants os) count out r out'
    unfolding words_at
    some-filled facts n constants os {ws} {out'} {r} e z f =
        subst (λ (x : List ℕ). Filled (rows_by ar facts x p n constants os) count out r out')
        (z ∙ sym (ap (λ (x : Bool). cond x (truth_words listings spans p) (own_words p (get_or ar p 0))) (sym q ∙ e))) f

    own_is : {l : ℕ} → l ≡ own_label p (get_or ar p 0) → leaf_mark ∷ 1 ∷ 0 ∷ leaf_mark ∷ 0 ∷ 0 ∷ l ∷ 0 ∷ 1 ∷ [] ≡ own_words p (get_or ar p 0)
    unfolding own_words
    own_is z = ap (λ (x : ℕ). leaf_mark ∷ 1 ∷ 0 ∷ leaf_mark ∷ 0 ∷ 0 ∷ x ∷ 0 ∷ 1 ∷ []) z

    pub ask-own : {l : ℕ} → l ≡ own_label p (get_or ar p 0) → Walkable ar (leaf_mark ∷ 1 ∷ 0 ∷ leaf_mark ∷ 0 ∷ 0 ∷ l ∷ 0 ∷ 1 ∷ []) marks out p count
    ask-own z = record {
      valid = subst (Valid ar) (sym (own_is z)) (own-valid ar s.arities p s.some s.predicate);
      predicate = s.predicate;
      places = s.places;
      room = s.room;
    }

    pub own-filled : (facts : List ℕ) (n : ℕ) (constants os : List ℕ) {out' : List ℕ} {r : Option ℕ} {l : ℕ} → b ≡ false → l ≡ own_label p (get_or ar p 0)
        → Filled (rows_by ar facts (leaf_mark ∷ 1 ∷ 0 ∷ leaf_mark ∷ 0 ∷ 0 ∷ l ∷ 0 ∷ 1 ∷ []) p n constants os) count out r out'
        → Filled (rows_by ar facts (words_at ar listings spans p) p n constants os) count out r out'
    unfolding words_at
    own-filled facts n constants os {out'} {r} e z f =
        subst (λ (x : List ℕ). Filled (rows_by ar facts x p n constants os) count out r out')
        (own_is z ∙ sym (ap (λ (x : Bool). cond x (truth_words listings spans p) (own_words p (get_or ar p 0))) (sym q ∙ e))) f

pub kept-filled : {ar listings spans marks out facts constants os : List ℕ} {p n count : ℕ} {b ordered : Bool} → Askable ar listings spans marks out p count
    → Standing ar facts constants os n ordered → b ≡ has_truth spans p → b ≡ false → ordered ≡ true → {r : Option ℕ} {out' : List ℕ}
    → Filled (kept_rows facts p (get_or ar p 0) (fact_count facts)) count out r out' → Filled (rows_by ar facts (words_at ar listings spans p) p n constants os) count out r out'
unfolding words_at
kept-filled {ar} {listings} {spans} {marks} {out} {facts} {constants} {os} {p} {n} {count} s t q e o {r} {out'} f =
    subst (λ (x : List ℕ). Filled (rows_by ar facts x p n constants os) count out r out')
    (sym (ap (λ (x : Bool). cond x (truth_words listings spans p) (own_words p (get_or ar p 0))) (sym q ∙ e)))
    (subst (λ (l : List (List ℕ)). Filled l count out r out') (kept-own ar s.arities p s.some s.predicate facts constants os n t o) f)

-- `fill_all`: the rows of the first q predicates behind equality are written
pub record Passing (ar listings spans facts constants os marks₀ marks out₀ out : List ℕ) (n count q : ℕ) : Type 0 where
  pub asked : Askable ar listings spans marks out₀ 1 0
  pub most : q ≤ pred predicate_count
  pub marks-same : length marks ≡ length marks₀
  pub out-same : length out ≡ length out₀
  pub filled : Filled (all_rows ar facts listings spans n constants os q) 0 out₀ (Some count) out

pub passing-start : {ar listings spans marks out : List ℕ} (facts constants os : List ℕ) (n : ℕ) → Askable ar listings spans marks out 1 0
    → Passing ar listings spans facts constants os marks marks out out n 0 0
unfolding all_rows
passing-start {out = out} facts constants os n s = record { asked = s; most = omega arith; marks-same = refl; out-same = refl; filled = filled_none out s.room.few }

module _ {ar listings spans facts constants os marks₀ marks out₀ out : List ℕ} {n count q : ℕ} (s : Passing ar listings spans facts constants os marks₀ marks out₀ out n count q)
    (h : q < 31) where
  pub passing-ask : Askable ar listings spans marks out (q + 1) count
  passing-ask = record {
    arities = s.asked.arities;
    listed = s.asked.listed;
    some = omega arith;
    predicate = omega arith;
    places = s.asked.places;
    room = record { words = omega (arith, s.out-same, s.asked.room.words); few = filled-few s.filled };
  }

  module _ {r : Option ℕ} {out' : List ℕ} (f : Filled (rows_by ar facts (words_at ar listings spans (q + 1)) (q + 1) n constants os) count out r out') where
    passed : Filled (all_rows ar facts listings spans n constants os (q + 1)) 0 out₀ r out'
    unfolding all_rows
    passed = subst (λ (l : List (List ℕ)). Filled l 0 out₀ r out')
        (sym (gather-up_to (λ p. rows_by ar facts (words_at ar listings spans (p + 1)) (p + 1) n constants os) q)) (filled-then s.filled f)

    pub passing-many : r ≡ None → Filled (all_rows ar facts listings spans n constants os 31) 0 out₀ None out'
    unfolding all_rows
    passing-many e = filled_more (subst (λ (x : Option ℕ). Filled (all_rows ar facts listings spans n constants os (q + 1)) 0 out₀ x out') e passed)
        (gather-most (λ p. rows_by ar facts (words_at ar listings spans (p + 1)) (p + 1) n constants os) (q + 1) 31 (omega arith))

    pub passing-on : {marks' : List ℕ} {m : ℕ} → length marks' ≡ length marks → length out' ≡ length out → r ≡ Some m
        → Passing ar listings spans facts constants os marks₀ marks' out₀ out' n m (q + 1)
    passing-on a b e = record {
      asked = record {
        arities = s.asked.arities;
        listed = s.asked.listed;
        some = s.asked.some;
        predicate = s.asked.predicate;
        places = omega (arith, s.asked.places);
        room = s.asked.room;
      };
      most = omega arith;
      marks-same = a ∙ s.marks-same;
      out-same = b ∙ s.out-same;
      filled = subst (λ (x : Option ℕ). Filled (all_rows ar facts listings spans n constants os (q + 1)) 0 out₀ x out') e passed;
    }

pub passing-end : {ar listings spans facts constants os marks₀ marks out₀ out : List ℕ} {n count q : ℕ} → Passing ar listings spans facts constants os marks₀ marks out₀ out n count q
    → 31 ≤ q → Filled (all_rows ar facts listings spans n constants os 31) 0 out₀ (Some count) out
passing-end {ar} {listings} {spans} {facts} {constants} {os} {out₀ = out₀} {out = out} {n} {count} {q} s h =
    subst (λ (x : ℕ). Filled (all_rows ar facts listings spans n constants os x) 0 out₀ (Some count) out) (omega (arith, s.most)) s.filled

-- `next_facts`
pub spans-are : (table : List ℕ) (place : ℕ) → take (place + variant_words - (place + 2)) (drop (place + 2) table) ≡ spans_at table place
spans-are table place = let e : place + variant_words - (place + 2) ≡ 64 = omega arith in rw e refl

pub move-ask : {ar listings table : List ℕ} {place n : ℕ} {constants facts os out : List ℕ} → Moving ar listings table place n constants facts os out
    → Askable ar listings (take (place + variant_words - (place + 2)) (drop (place + 2) table)) (replicate most_rows 0) out 1 0
move-ask {ar} {listings} {table} {place} m = record {
  arities = m.arities;
  listed = subst (λ (x : List ℕ). are_listings ar listings x 1 (predicate_count - 1) ≡ true) (sym (spans-are table place)) m.laid.truths;
  some = omega arith;
  predicate = omega arith;
  places = omega (arith, length-replicate {A = ℕ} most_rows 0);
  room = record { words = m.words; few = omega arith };
}

pub move-standing : {ar listings table : List ℕ} {place n : ℕ} {constants facts os out : List ℕ} {ordered : Bool} → Moving ar listings table place n constants facts os out
    → n ≤ free → (ordered ≡ true → Ordered ar facts) → Standing ar facts constants os n ordered
move-standing m h o = record { lent = m.lent; objects = m.objects; most = h; order = o }

pub move-end : (ar listings table : List ℕ) (place n : ℕ) (constants facts os : List ℕ) {out out₀ out' : List ℕ} {r : Option ℕ} → Moving ar listings table place n constants facts os out
    → n ≤ free → Filled (all_rows ar facts listings (take (place + variant_words - (place + 2)) (drop (place + 2) table)) n constants os (pred predicate_count)) 0 out₀ r out'
    → NextFacts (facts_of ar (after_at ar listings table place n constants facts os)) r out'
move-end ar listings table place n constants facts os {out} {out₀} {out'} {r} m h f =
    next-end ar listings table place n constants facts os out m h (take (place + variant_words - (place + 2)) (drop (place + 2) table)) (spans-are table place) r out₀ out' f
