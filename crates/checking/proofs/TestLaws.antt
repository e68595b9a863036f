-- Laws of the tests, on the ways through the code.
use mathlib.Core.Path.{◌≡◌, refl, sym, ap, subst, ◌∙◌}
use mathlib.Core.Bool.{Bool, true, false, not, ◌&&◌, ◌||◌, cond}
use mathlib.Core.List.{List, ◌++◌}
use Prim.Native.Nat.{ℕ, ◌+◌, ◌*◌, ◌-◌, ◌/◌, ◌≤◌, ◌<◌}
use native.Mathlib.Omega.{arith}
use Rattle.std.specs.Cmp.Lexicographic.{pointwise}
use Rattle.std.proofs.lemmas.Slice.Eq.{slice_eq-Decides}
use lib.ListN.{length, get_or, take, drop, replicate, length-append}
use lib.Seq.{take_at, take_all}
use lib.Dec.{leb, eqb}
use borrow.Author.Tests.{le-leb, lt-leb, eq-eqb, ne_eqb, leb-true, leb-false, eqb-true, not-true, not-false}
use Rattle.basics.specs.Tests.{Cmp, below, equal, above, cmp, Flag, is_true, is_false, flag}
use Rattle.basics.specs.Members.{clash}
use Rattle.refusal.specs.declared.Refusal.{Refusal}
use Rattle.refusal.specs.declared.Refusal.TheVariants.{Truth, Unbound}
use Rattle.label.specs.Limits.{first_parameter, parameter_count, first_variable, term_end, predicate_count, equality}
use Rattle.label.specs.Labels.{are_arities}
use Rattle.label.proofs.ArityLaws.{arity-words}
use Rattle.diagram.specs.Sizes.{result_words}
use Rattle.diagram.specs.Diagram.{Diagram, same}
use Rattle.diagram.specs.DiagramLaws.{same-eq, same_refl}
use Rattle.diagram.specs.Words.{is_listing, every_below}
use Rattle.diagram.specs.WordLaws.{every-below, below-every}
use Rattle.diagram.specs.Listing.{listing, diagram_of}
use Rattle.diagram.specs.ListingLaws.{length-listing}
use Rattle.diagram.specs.Validity.{Valid}
use Rattle.diagram.specs.ListingValid.{listing-is-valid}
use Rattle.diagram.specs.Listings.{is-listing-diagram, is-listing-good, one-diagram}
use Rattle.diagram.specs.Variables.{closed}
use Rattle.listing.specs.Check.{Decides}
use Rattle.listing.specs.Used.{Used}
use Rattle.rename.specs.ClosingLaws.{closed-count, closed-good}
use Rattle.write.specs.Renaming.{listed_in}
use Rattle.apart.specs.Results.{Closable}
use Rattle.regression.specs.RegressCall.{leaf_above, any_occurs, unbound_variable}
use Rattle.freeing.specs.FreeTasks.{any_set}
use Rattle.freeing.specs.MarkLaws.{used-any}
use Rattle.truths.specs.TruthChecks.{verdict_on}
use Rattle.mdp.specs.Model.{most_actions, most_variants}
use Rattle.model.specs.Layout.{part, variant_words, action_words, table_words, variant_place, weight_words, variants_of}
use Rattle.checking.specs.Fitting.{own_parameters, is_truth, is_weight, is_value, truth_at, truth_fits, variant_fits, action_fits}
use Rattle.checking.specs.Lent.{Lent}
use Rattle.std.specs.Prelude.{Err, Ok, Result}

-- ===== Tests one after another =====

-- the first says no
pub stops : {x : Bool} (y : Bool) → x ≡ false → false ≡ (x && y)
stops y e = sym (ap (λ (b : Bool). b && y) e)

-- the first says yes, and the others decide
pub goes : {x y r : Bool} → x ≡ true → r ≡ y → r ≡ (x && y)
goes {x} {y} e q = q ∙ sym (ap (λ (b : Bool). b && y) e)

-- `if !f(..)` is taken, or left
pub refused : {b x : Bool} → b ≡ x → not b ≡ true → x ≡ false
refused {b} e f = sym e ∙ not-true b f

pub passed : {b x : Bool} → b ≡ x → not b ≡ false → x ≡ true
passed {b} e f = sym e ∙ not-false b f

-- ===== Loops =====

-- the first i are looked at
pub record Looked (n : ℕ) (p : ℕ → Bool) (i : ℕ) : Type 0 where
  pub most : i ≤ n
  pub each : (k : ℕ) → k < i → p k ≡ true

pub looked-start : (n : ℕ) (p : ℕ → Bool) → Looked n p 0
looked-start n p = record { most = omega arith; each = λ k l. absurd (omega arith) }

pub looked-on : {n : ℕ} {p : ℕ → Bool} {i : ℕ} {b : Bool} → Looked n p i → i < n → b ≡ p i → not b ≡ false → Looked n p (i + 1)
looked-on {n} {p} {i} {b} s h e t = record { most = omega arith; each = λ k l. step k l (cmp k i) }
  where
    step : (k : ℕ) → k < i + 1 → Cmp k i → p k ≡ true
    step k l (below q) = s.each k q
    step k l (equal q) = subst (λ (y : ℕ). p y ≡ true) (sym q) (passed e t)
    step k l (above q) = absurd (omega arith)

pub looked-no : {n : ℕ} {p : ℕ → Bool} {i : ℕ} {b : Bool} → Looked n p i → i < n → b ≡ p i → not b ≡ true → false ≡ every_below n p
looked-no {n} {p} {i} {b} s l e t = go (flag (every_below n p))
  where
    go : Flag (every_below n p) → false ≡ every_below n p
    go (is_true q) = clash (below-every n p i q l) (refused e t)
    go (is_false q) = sym q

pub looked-all : {n : ℕ} {p : ℕ → Bool} {i : ℕ} → Looked n p i → n ≤ i → true ≡ every_below n p
looked-all {n} {p} s l = sym (every-below n p (λ k h. s.each k (omega arith)))

-- ===== Listings =====

pub lacks-is : (ar words : List ℕ) {ms : List ℕ} {b : Bool} (t n : ℕ) → Used ar (diagram_of words) ms → t + n ≤ term_end → b ≡ any_set ms t n
    → not b ≡ not (any_occurs ar (diagram_of words) t n)
lacks-is ar words {ms} t n u h e = ap not (e ∙ used-any ar (diagram_of words) ms u t n h)

module _ (ar : List ℕ) (c n : ℕ) (ws : List ℕ) {l : Bool} (e : l ≡ is_listing ar ws) where
  pub truth-unlisted : not l ≡ true → false ≡ is_truth ar c n ws
  unfolding is_truth
  truth-unlisted f = stops _ (refused e f)

  module _ (f : not l ≡ false) {v : Result (Unit {0}) Refusal} (q : v ≡ verdict_on ar n (diagram_of ws)) where
    pub truth-refused : {w : Refusal} → v ≡ Err w → false ≡ is_truth ar c n ws
    unfolding is_truth
    truth-refused {w} i = goes (passed e f) (go (leaf_above 1 (diagram_of ws)) (unbound_variable ar n (diagram_of ws)) (sym q ∙ i))
      where
        go : (a b : Bool) → cond {A = Result (Unit {0}) Refusal} a (Err Truth) (cond b (Err Unbound) (Ok tt)) ≡ Err w → false ≡ (not a && (not b && own_parameters ar c (diagram_of ws)))
        go true b i = refl
        go false true i = refl
        go false false i = let z : ◌≡◌ {A = ℕ} 0 1 = cc in absurd (omega arith)

    pub truth-rest : {r : Bool} → v ≡ Ok tt → r ≡ not (any_occurs ar (diagram_of ws) (first_parameter + c) (first_variable - (first_parameter + c))) → r ≡ is_truth ar c n ws
    unfolding is_truth
    truth-rest {r} i h = goes (passed e f) (go (leaf_above 1 (diagram_of ws)) (unbound_variable ar n (diagram_of ws)) (sym q ∙ i))
      where
        go : (a b : Bool) → cond {A = Result (Unit {0}) Refusal} a (Err Truth) (cond b (Err Unbound) (Ok tt)) ≡ Ok tt → r ≡ (not a && (not b && own_parameters ar c (diagram_of ws)))
        go true b i = let z : ◌≡◌ {A = ℕ} 0 1 = cc in absurd (omega arith)
        go false true i = let z : ◌≡◌ {A = ℕ} 0 1 = cc in absurd (omega arith)
        go false false i = h

module _ (ar : List ℕ) (c : ℕ) (ws : List ℕ) {l : Bool} (e : l ≡ is_listing ar ws) where
  pub weight-unlisted : not l ≡ true → false ≡ is_weight ar c ws
  unfolding is_weight
  weight-unlisted f = stops _ (refused e f)

  pub weight-rest : {r : Bool} → not l ≡ false → r ≡ not (any_occurs ar (diagram_of ws) (first_parameter + c) (term_end - (first_parameter + c))) → r ≡ is_weight ar c ws
  unfolding is_weight
  weight-rest f h = goes (passed e f) h

module _ (ar ws : List ℕ) {l : Bool} (e : l ≡ is_listing ar ws) where
  pub value-unlisted : not l ≡ true → false ≡ is_value ar ws
  unfolding is_value
  value-unlisted f = stops _ (refused e f)

  module _ (f : not l ≡ false) {b : Bool} (q : b ≡ same (closed ar (diagram_of ws)) (diagram_of ws)) where
    pub value-open : not b ≡ true → false ≡ is_value ar ws
    unfolding is_value
    value-open g = goes (passed e f) (stops _ (refused q g))

    pub value-rest : {r : Bool} → not b ≡ false → r ≡ not (any_occurs ar (diagram_of ws) first_parameter (first_variable - first_parameter)) → r ≡ is_value ar ws
    unfolding is_value
    value-rest g h = goes (passed e f) (goes (passed q g) h)

-- ===== Closed up =====

pub begins-tells : (x y : List ℕ) {b : Bool} → b ≡ pointwise eqb x (take (length x) y) → Decides b (x ≡ take (length x) y)
begins-tells x y {b} p =
    let d = slice_eq-Decides numbers-same x (take (length x) y) b p in
    record { yes = d.0; no = λ e z. clash (d.1 z) e }
  where
    numbers-same : (m n : ℕ) → (eqb m n ≡ true → m ≡ n) × (m ≡ n → eqb m n ≡ true)
    numbers-same m n = (eqb-true m n, eq-eqb m n)

module _ (ar words : List ℕ) (e : is_listing ar words ≡ true) where
  words_long : length words ≡ length words / 3 * 3
  words_long = (listing-is-valid ar words e).whole

  pub closed-few : length words ≤ result_words
  closed-few = let v = listing-is-valid ar words e in omega (arith, v.whole, v.few)

  module _ (n : ℕ) (room : result_words ≤ n) {copy : List ℕ} (q : copy ≡ take (length words / 3 * 3) words ++ drop (length words / 3 * 3) (replicate n 0)) where
    copied : take (length words / 3 * 3) copy ≡ words
    copied =
        let t : take (length words / 3 * 3) words ≡ words = take_all (length words / 3 * 3) words (omega (arith, words_long)) in
        ap (take (length words / 3 * 3)) q
        ∙ take_at (take (length words / 3 * 3) words) (drop (length words / 3 * 3) (replicate n 0)) (length words / 3 * 3) (ap length t ∙ words_long)
        ∙ t

    copy-long : length words / 3 * 3 ≤ length copy
    copy-long =
        let t : take (length words / 3 * 3) words ≡ words = take_all (length words / 3 * 3) words (omega (arith, words_long)) in
        omega (arith, ap length q, length-append (take (length words / 3 * 3) words) (drop (length words / 3 * 3) (replicate n 0)), ap length t, words_long)

    pub copy-closable : Closable ar copy (length words / 3)
    copy-closable = record { valid = subst (Valid ar) (sym copied) (listing-is-valid ar words e); room = copy-long }

    module _ {after : List ℕ} (w : after ≡ listing (closed ar (listed_in copy (length words / 3))) ++ drop (length words / 3 * 3) copy) where
      d : Diagram
      d = diagram_of words

      closed-words : take (length words) after ≡ listing (closed ar d)
      unfolding d
      closed-words =
          let g = is-listing-good ar words e in
          let c : listed_in copy (length words / 3) ≡ d = ap diagram_of copied in
          let u : after ≡ listing (closed ar d) ++ drop (length words / 3 * 3) copy = w ∙ ap (λ (x : Diagram). listing (closed ar x) ++ drop (length words / 3 * 3) copy) c in
          let l : length (listing (closed ar d)) ≡ length words =
          length-listing (closed ar d) ∙ ap (λ (k : ℕ). k * 3) (closed-count ar d g.arities g.fine) ∙ sym (length-listing d) ∙ ap length (is-listing-diagram ar words e) in
          ap (take (length words)) u ∙ take_at (listing (closed ar d)) (drop (length words / 3 * 3) copy) (length words) l

      pub closed-tells : {b : Bool} → Decides b (words ≡ take (length words) after) → b ≡ same (closed ar (diagram_of words)) (diagram_of words)
      unfolding d
      closed-tells {b} s = go (flag b) (flag (same (closed ar (diagram_of words)) (diagram_of words)))
        where
          go : Flag b → Flag (same (closed ar (diagram_of words)) (diagram_of words)) → b ≡ same (closed ar (diagram_of words)) (diagram_of words)
          go (is_true p) z =
              let x = is-listing-good ar words e in
              let k : closed ar (diagram_of words) ≡ diagram_of words =
              one-diagram ar (closed ar (diagram_of words)) (diagram_of words) (closed-good ar (diagram_of words) x) x
              (sym (s.yes p ∙ closed-words) ∙ sym (is-listing-diagram ar words e)) in
              p ∙ sym (ap (λ (y : Diagram). same y (diagram_of words)) k ∙ same_refl (diagram_of words))
          go (is_false p) (is_true z) =
              absurd (s.no p (sym (closed-words ∙ ap listing (same-eq (closed ar (diagram_of words)) (diagram_of words) z) ∙ is-listing-diagram ar words e)))
          go (is_false p) (is_false z) = p ∙ sym z

-- ===== The table =====

pub inside-no : (start count used : ℕ) → used < start → leb start used ≡ leb (start + count) used
inside-no start count used h = lt-leb start used h ∙ sym (lt-leb (start + count) used (omega arith))

pub inside-rest : (start count used : ℕ) → start ≤ used → leb count (used - start) ≡ leb (start + count) used
inside-rest start count used h = go (flag (leb count (used - start)))
  where
    go : Flag (leb count (used - start)) → leb count (used - start) ≡ leb (start + count) used
    go (is_true e) = e ∙ sym (le-leb (start + count) used (let k = leb-true count (used - start) e in omega arith))
    go (is_false e) = e ∙ sym (lt-leb (start + count) used (let k = leb-false count (used - start) e in omega arith))

-- the words of a part that begins at i and ends at i + n
part-words : (s : List ℕ) (i n : ℕ) → take (i + n - i) (drop i s) ≡ part s i n
part-words s i n = let e : i + n - i ≡ n = omega arith in ap (λ (k : ℕ). take k (drop i s)) e

-- words that are inside are there
pub inside-within : {b : Bool} (start count : ℕ) (used : ℕ) {room : ℕ} → b ≡ leb (start + count) used → not b ≡ false → used ≤ room → start + count ≤ room
inside-within {b} start count used {room} e f h = let k = leb-true (start + count) used (passed e f) in omega arith

-- an arity list has a place for each predicate
pub arity-place : (ar : List ℕ) {p : ℕ} → are_arities ar ≡ true → p < predicate_count → p < length ar
arity-place ar e h = omega (arith, arity-words ar e)

-- skipped, or not
skips : {x : Bool} (y : Bool) → x ≡ true → true ≡ (x || y)
skips y e = sym (ap (λ (b : Bool). b || y) e)

holds : {x y r : Bool} → x ≡ false → r ≡ y → r ≡ (x || y)
holds {x} {y} e q = q ∙ sym (ap (λ (b : Bool). b || y) e)

module _ (ar listings table : List ℕ) (used c i p : ℕ) {b : Bool} (e : b ≡ leb (get_or table (truth_at i p) 0 + get_or table (truth_at i p + 1) 0) used) where
  pub truth-outside : not b ≡ true → false ≡ truth_fits ar listings table used c i p
  unfolding truth_fits
  truth-outside f = stops _ (refused e f)

  module _ (f : not b ≡ false) where
    pub truth-equality : p ≡ 0 → true ≡ truth_fits ar listings table used c i p
    unfolding truth_fits
    truth-equality z = goes (passed e f) (skips _ (eq-eqb p equality z))

    pub truth-none : get_or table (truth_at i p + 1) 0 ≡ 0 → true ≡ truth_fits ar listings table used c i p
    unfolding truth_fits
    truth-none z = goes (passed e f) (go (eqb p equality))
      where
        go : (x : Bool) → true ≡ (x || (eqb (get_or table (truth_at i p + 1) 0) 0 || is_truth ar c (get_or ar p 0) (weight_words listings table (truth_at i p))))
        go true = refl
        go false = skips _ (eq-eqb (get_or table (truth_at i p + 1) 0) 0 z)

    pub truth-some : {r : Bool} → (p ≡ 0 → ⊥) → (get_or table (truth_at i p + 1) 0 ≡ 0 → ⊥)
        → r ≡ is_truth ar c (get_or ar p 0) (take (get_or table (truth_at i p) 0 + get_or table (truth_at i p + 1) 0 - get_or table (truth_at i p) 0) (drop (get_or table (truth_at i p) 0) listings))
        → r ≡ truth_fits ar listings table used c i p
    unfolding truth_fits
    truth-some n m q =
        let s : ℕ = get_or table (truth_at i p) 0 in
        let k : ℕ = get_or table (truth_at i p + 1) 0 in
        goes (passed e f) (holds (ne_eqb p equality n) (holds (ne_eqb k 0 m) (q ∙ ap (is_truth ar c (get_or ar p 0)) (part-words listings s k))))

module _ (ar listings table : List ℕ) (used c i : ℕ) {b : Bool} (e : b ≡ leb (get_or table i 0 + get_or table (i + 1) 0) used) where
  pub variant-outside : not b ≡ true → false ≡ variant_fits ar listings table used c i
  unfolding variant_fits
  variant-outside f = stops _ (refused e f)

  module _ (f : not b ≡ false) {w : Bool} (q : w ≡ is_weight ar c (take (get_or table i 0 + get_or table (i + 1) 0 - get_or table i 0) (drop (get_or table i 0) listings))) where
    weighed : w ≡ is_weight ar c (weight_words listings table i)
    weighed = q ∙ ap (is_weight ar c) (part-words listings (get_or table i 0) (get_or table (i + 1) 0))

    pub variant-unweighed : not w ≡ true → false ≡ variant_fits ar listings table used c i
    unfolding variant_fits
    variant-unweighed g = goes (passed e f) (stops _ (refused weighed g))

    pub variant-rest : {r : Bool} → not w ≡ false → r ≡ every_below predicate_count (truth_fits ar listings table used c i) → r ≡ variant_fits ar listings table used c i
    unfolding variant_fits
    variant-rest g h = goes (passed e f) (goes (passed weighed g) h)

pub variant-room : (table : List ℕ) (a v n : ℕ) → a * action_words + action_words ≤ length table → v < n → n ≤ most_variants
    → a * action_words + 2 + v * variant_words + variant_words ≤ length table
variant-room table a v n h l k = omega arith

module _ (ar listings table : List ℕ) (used a : ℕ) where
  pub action-wide : parameter_count < get_or table (a * action_words) 0 → false ≡ action_fits ar listings table used a
  unfolding action_fits
  action-wide h = stops _ (lt-leb (get_or table (a * action_words) 0) parameter_count h)

  module _ (h : get_or table (a * action_words) 0 ≤ parameter_count) where
    pub action-many : most_variants < variants_of table a → false ≡ action_fits ar listings table used a
    unfolding action_fits
    action-many k = goes (le-leb (get_or table (a * action_words) 0) parameter_count h) (stops _ (lt-leb (variants_of table a) most_variants k))

    pub action-rest : {r : Bool} → variants_of table a ≤ most_variants
        → r ≡ every_below (variants_of table a) (λ v. variant_fits ar listings table used (get_or table (a * action_words) 0) (variant_place a v))
        → r ≡ action_fits ar listings table used a
    unfolding action_fits
    action-rest k q = goes (le-leb (get_or table (a * action_words) 0) parameter_count h) (goes (le-leb (variants_of table a) most_variants k) q)

pub lent-for : {ar listings : List ℕ} {used c : ℕ} → Lent ar listings used 0 → c ≤ parameter_count → Lent ar listings used c
lent-for l h = record { arities = l.arities; room = l.room; parameters = h }

pub action-room : (table : List ℕ) (a n : ℕ) → table_words ≤ length table → a < n → n ≤ most_actions → a * action_words + action_words ≤ length table
action-room table a n h l k = omega arith
