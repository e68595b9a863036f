-- Laws of the checks of a regression call, and of its answer.
use Rattle.std.proofs.Math.Path.{◌≡◌, sym, subst}
use Rattle.std.specs.Prelude.{refl, Bool, not, ◌&&◌, ◌||◌, cond, List, ℕ, suc, ◌+◌, ◌*◌, ◌-◌, ◌/◌, ◌≤◌, ◌<◌, length, get_or, eqb, ltb}
use Rattle.std.proofs.Common.{ap, ◌∙◌, arith, add-one, eq-eqb, ne_eqb, eqb-true, ltb-true, ltb-false, lt-ltb, le-ltb}
use Rattle.std.proofs.Math.Bool.{true, false}
use Rattle.std.proofs.Math.Option.{Option, some, none}
use Rattle.std.proofs.lemmas.List.{length-map}
use Rattle.std.proofs.lemmas.Bool.{eqb-false}
use Rattle.refusal.specs.declared.Refusal.{Refusal}
use Rattle.refusal.specs.declared.Refusal.TheVariants.{Truth, Unbound}
use Rattle.refusal.specs.Outcome.{Outcome, refused}
use Rattle.basics.specs.Tests.{and_left, and_right, Flag, is_true, is_false, flag, Cmp, below, equal, above, cmp, or-one, or-other}
use Rattle.basics.specs.Members.{mem, clash}
use Rattle.label.specs.Limits.{first_variable, variable_count, minimum_count, predicate_count, most_places, leaf_mark}
use Rattle.label.proofs.ArityLaws.{arity-most, arity-words}
use Rattle.diagram.specs.Diagram.{Diagram, leaf, branch, same}
use Rattle.diagram.specs.Rows.{rows}
use Rattle.diagram.specs.Words.{label_at, high_at, row_count, up_to, is_listing}
use Rattle.diagram.specs.WordLaws.{length-up_to, get_d_map, get_d-up_to}
use Rattle.diagram.specs.Listing.{index, diagram_of}
use Rattle.diagram.specs.ListingLaws.{index-less, get_d-index}
use Rattle.diagram.specs.Validity.{Valid, tree}
use Rattle.diagram.specs.ListingValid.{listing-is-valid}
use Rattle.diagram.specs.DiagramOfListing.{shown-rows, rows_are}
use Rattle.diagram.specs.Inner.{is_part}
use Rattle.diagram.specs.RowLists.{row_tree}
use Rattle.diagram.specs.RowLaws.{row-mem, mem-rows, part-self, part-high, part_low, part-leaf, part-branch, PartOf, it-is, of-high, of_low}
use Rattle.listing.specs.Used.{Used}
use Rattle.regression.specs.RegressCall.{truth_count, truth_words, truths_of, are_listings, leaf_above, unbound_variable, check_truth, check_truths}
use Rattle.regression.proofs.RegressCallLaws.{truths-none, truths-some, listings-none, listings-cons, listings-at, checks-none, checks-cons, above-leaf, above-branch}
use Rattle.freeing.specs.FreeTasks.{any_set}
use Rattle.freeing.specs.MarkLaws.{used-any}
use Rattle.truths.specs.TruthChecks.{Lent, is_listed_at, is_high_leaf, verdict_on, verdict_of, after_verdict, Between, Judged}
use Rattle.std.specs.Prelude.{Err, Ok, Result}

-- a leaf above m, and a term that occurs, by the rows of the diagram
above-part : (m v : ℕ) → m < v → (d : Diagram) → is_part (leaf v) d ≡ true → leaf_above m d ≡ true
above-part m v i (leaf w) h =
    let e = part-leaf (leaf v) w h in
    let q : v ≡ w = cc in
    rw (above-leaf m w) (lt-ltb m w (omega arith))
above-part m v i (branch l t f) h = rw (above-branch m l t f) (go (part-branch (leaf v) l t f h) (above-part m v i t) (above-part m v i f))
  where
    go : PartOf (leaf v) l t f → (is_part (leaf v) t ≡ true → leaf_above m t ≡ true) → (is_part (leaf v) f ≡ true → leaf_above m f ≡ true)
        → (leaf_above m t || leaf_above m f) ≡ true
    go (it-is e) x y = let z : ◌≡◌ {A = ℕ} 0 1 = cc in absurd (omega arith)
    go (of-high e) x y = or-one _ _ (x e)
    go (of_low e) x y = or-other (leaf_above m t) _ (y e)

pub above-row : (m v : ℕ) (d : Diagram) → mem same (leaf v) (rows d) ≡ true → m < v → leaf_above m d ≡ true
above-row m v d h i = above-part m v i d (sym (mem-rows d (leaf v)) ∙ h)

low_parts : (m : ℕ) (d : Diagram) → ((v : ℕ) → is_part (leaf v) d ≡ true → v ≤ m) → leaf_above m d ≡ false
low_parts m (leaf w) h = rw (above-leaf m w) (le-ltb m w (h w (part-self (leaf w))))
low_parts m (branch l t f) h =
    rw (above-branch m l t f, low_parts m t (λ v k. h v (part-high (leaf v) l t f k)), low_parts m f (λ v k. h v (part_low (leaf v) l t f k)))

pub low_rows : (m : ℕ) (d : Diagram) → ((v : ℕ) → mem same (leaf v) (rows d) ≡ true → v ≤ m) → leaf_above m d ≡ false
low_rows m d h = low_parts m d (λ v k. h v (mem-rows d (leaf v) ∙ k))

-- `is_listed`
pub listed-none : (ar truths spans : List ℕ) (p : ℕ) {w : ℕ} → w ≡ get_or spans (p * 2 + 1) 0 → w ≡ 0 → true ≡ is_listed_at ar truths spans p
listed-none ar truths spans p e z = rw (eq-eqb (truth_count spans p) 0 (sym e ∙ z))

pub listed-some : (ar truths spans : List ℕ) (p : ℕ) {w : ℕ} {ws : List ℕ} {b : Bool} → w ≡ get_or spans (p * 2 + 1) 0 → (w ≡ 0 → ⊥) → ws ≡ truth_words truths spans p
    → b ≡ is_listing ar ws → b ≡ is_listed_at ar truths spans p
listed-some ar truths spans p {w} {ws} {b} e n q r = rw (ne_eqb (truth_count spans p) 0 (λ z. n (e ∙ z))) (r ∙ ap (is_listing ar) q)

-- `are_listed`: those below p are listings
pub record ListedTo (ar truths spans : List ℕ) (p : ℕ) : Type 0 where
  pub first : 1 ≤ p
  pub last : p ≤ predicate_count
  pub left : are_listings ar truths spans 1 (predicate_count - 1) ≡ are_listings ar truths spans p (predicate_count - p)

pub listed_start : (ar truths spans : List ℕ) → ListedTo ar truths spans 1
listed_start ar truths spans = record { first = omega arith; last = omega arith; left = refl }

module _ {ar truths spans : List ℕ} {p : ℕ} (g : ListedTo ar truths spans p) where
  module _ (h : p < predicate_count) {b : Bool} (e : b ≡ is_listed_at ar truths spans p) where
    next : are_listings ar truths spans 1 (predicate_count - 1) ≡ (b && are_listings ar truths spans (suc p) (predicate_count - suc p))
    next =
        let n : predicate_count - p ≡ suc (predicate_count - suc p) = omega arith in
        g.left ∙ ap (are_listings ar truths spans p) n ∙ listings-cons ar truths spans p (predicate_count - suc p)
        ∙ ap (λ (x : Bool). x && are_listings ar truths spans (suc p) (predicate_count - suc p)) (sym e)

    pub listed-stop : not b ≡ true → false ≡ are_listings ar truths spans 1 (predicate_count - 1)
    listed-stop z = sym (next ∙ go b z)
      where
        go : (x : Bool) → not x ≡ true → (x && are_listings ar truths spans (suc p) (predicate_count - suc p)) ≡ false
        go true q = clash q refl
        go false q = refl

    pub listed-on : not b ≡ false → ListedTo ar truths spans (p + 1)
    listed-on z = record { first = omega arith; last = omega arith; left = rw add-one (next ∙ go b z) }
      where
        go : (x : Bool) → not x ≡ false → (x && are_listings ar truths spans (suc p) (predicate_count - suc p)) ≡ are_listings ar truths spans (suc p) (predicate_count - suc p)
        go true q = refl
        go false q = clash refl q

  pub listed-end : predicate_count ≤ p → true ≡ are_listings ar truths spans 1 (predicate_count - 1)
  listed-end h =
      let n : predicate_count - p ≡ 0 = omega arith in
      sym (g.left ∙ ap (are_listings ar truths spans p) n ∙ listings-none ar truths spans p)

-- `is_high_leaf`
pub high-branch : (ws : List ℕ) (k : ℕ) → (get_or ws (k * 3) 0 ≡ leaf_mark → ⊥) → eqb (get_or ws (k * 3) 0) leaf_mark ≡ is_high_leaf ws k
unfolding is_high_leaf label_at high_at
high-branch ws k n = rw (ne_eqb (get_or ws (k * 3) 0) leaf_mark n)

pub high_value : (ws : List ℕ) (k : ℕ) → get_or ws (k * 3) 0 ≡ leaf_mark → ltb 1 (get_or ws (k * 3 + 1) 0) ≡ is_high_leaf ws k
unfolding is_high_leaf label_at high_at
high_value ws k e = rw (eq-eqb (get_or ws (k * 3) 0) leaf_mark e)

-- `has_high_leaf`: no leaf before row k is above 1
pub record LowTo (ws : List ℕ) (k : ℕ) : Type 0 where
  pub within : k ≤ length ws / 3
  pub each : (j : ℕ) → j < k → is_high_leaf ws j ≡ false

pub low-start : (ws : List ℕ) → LowTo ws 0
low-start ws = record { within = omega arith; each = λ j h. absurd (omega arith) }

module _ {ws : List ℕ} {k : ℕ} (g : LowTo ws k) (h : k < length ws / 3) {b : Bool} (e : b ≡ is_high_leaf ws k) where
  pub low-on : b ≡ false → LowTo ws (k + 1)
  low-on z = record { within = omega arith; each = λ j l. go j l (cmp j k) }
    where
      go : (j : ℕ) → j < k + 1 → Cmp j k → is_high_leaf ws j ≡ false
      go j l (below q) = g.each j q
      go j l (equal q) = rw q (sym e ∙ z)
      go j l (above q) = absurd (omega arith)

module _ {ar ws : List ℕ} (v : Valid ar ws) where
  abbrev W : List Diagram
  W = rows (diagram_of ws)

  count-is : length W ≡ row_count ws
  count-is = ap length (rows_are ar ws v) ∙ length-map (up_to (row_count ws)) (tree ws) ∙ length-up_to (row_count ws)

  row_is : (j : ℕ) → j < row_count ws → row_tree W j ≡ tree ws j
  row_is j h =
      ap (λ (rs : List Diagram). row_tree rs j) (rows_are ar ws v) ∙ get_d_map (tree ws) (up_to (row_count ws)) j 0 (leaf 0) (omega (arith, length-up_to (row_count ws)))
      ∙ ap (tree ws) (get_d-up_to (row_count ws) j h)

  pub high-leaf : {k : ℕ} {b : Bool} → k < length ws / 3 → b ≡ is_high_leaf ws k → b ≡ true → true ≡ leaf_above 1 (diagram_of ws)
  unfolding is_high_leaf
  high-leaf {k} h e z =
      let a = and_left (eqb (label_at ws k) leaf_mark) _ (sym e ∙ z) in
      let l = and_right (eqb (label_at ws k) leaf_mark) _ (sym e ∙ z) in
      sym (above-row 1 (high_at ws k) (diagram_of ws)
      (row-mem W k (leaf (high_at ws k)) (omega (arith, count-is)) (row_is k h ∙ (shown-rows ar ws v).leaves k h (eqb-true _ _ a))) (ltb-true _ _ l))

  pub low-leaves : {k : ℕ} → LowTo ws k → length ws / 3 ≤ k → false ≡ leaf_above 1 (diagram_of ws)
  unfolding is_high_leaf
  low-leaves {k} g l = sym (low_rows 1 (diagram_of ws) (λ x m. go x m (flag (eqb (label_at ws (index (leaf x) W)) leaf_mark))))
    where
      go : (x : ℕ) → mem same (leaf x) W ≡ true → Flag (eqb (label_at ws (index (leaf x) W)) leaf_mark) → x ≤ 1
      go x m (is_true e) =
          let i : index (leaf x) W < row_count ws = subst (λ (n : ℕ). index (leaf x) W < n) count-is (index-less (leaf x) W m) in
          let q : leaf (high_at ws (index (leaf x) W)) ≡ leaf x
          = sym ((shown-rows ar ws v).leaves (index (leaf x) W) i (eqb-true _ _ e)) ∙ sym (row_is (index (leaf x) W) i) ∙ get_d-index (leaf x) W (leaf 0) m in
          let z : high_at ws (index (leaf x) W) ≡ x = cc in
          let y : is_high_leaf ws (index (leaf x) W) ≡ false = g.each (index (leaf x) W) (omega arith) in
          rw (← z) (ltb-false _ _ (rw e at y))
      go x m (is_false e) =
          let i : index (leaf x) W < row_count ws = subst (λ (n : ℕ). index (leaf x) W < n) count-is (index-less (leaf x) W m) in
          let q = sym ((shown-rows ar ws v).branches (index (leaf x) W) i (eqb-false _ _ e)) ∙ sym (row_is (index (leaf x) W) i) ∙ get_d-index (leaf x) W (leaf 0) m in
          let z : ◌≡◌ {A = ℕ} 0 1 = cc in
          absurd (omega arith)

-- `has_unbound`
pub unbound-is : (ar ws : List ℕ) (n : ℕ) {ms : List ℕ} {b : Bool} → n ≤ most_places → Used ar (diagram_of ws) ms
    → b ≡ any_set ms (first_variable + n) (variable_count + minimum_count - n) → b ≡ unbound_variable ar n (diagram_of ws)
unbound-is ar ws n {ms} h u e = e ∙ used-any ar (diagram_of ws) ms u (first_variable + n) (variable_count + minimum_count - n) (omega arith)

-- `judge`
module _ (ar ws : List ℕ) (n : ℕ) {b : Bool} (e : b ≡ leaf_above 1 (diagram_of ws)) where
  pub judge-truth : b ≡ true → Err Truth ≡ verdict_on ar n (diagram_of ws)
  judge-truth z = rw (sym e ∙ z)

  module _ (low : b ≡ false) {c : Bool} (d : c ≡ unbound_variable ar n (diagram_of ws)) where
    pub judge-unbound : c ≡ true → Err Unbound ≡ verdict_on ar n (diagram_of ws)
    judge-unbound z = rw (sym e ∙ low, sym d ∙ z)

    pub judge-passed : c ≡ false → (Ok tt) ≡ verdict_on ar n (diagram_of ws)
    judge-passed z = rw (sym e ∙ low, sym d ∙ z)

-- `judge_at`
module _ {ar truths spans : List ℕ} (lent : Lent ar truths spans) {p : ℕ} (at : Between 1 p predicate_count) where
  pub judge-place : p < length ar
  judge-place = omega (arith, at.to_last, arity-words ar lent.arities)

  pub judge-arity : get_or ar p 0 ≤ most_places
  judge-arity = arity-most ar p lent.arities

  module _ {w : ℕ} (e : w ≡ get_or spans (p * 2 + 1) 0) where
    pub judge-none : w ≡ 0 → (Ok tt) ≡ verdict_of ar (get_or ar p 0) (truths_of truths spans p)
    judge-none z = rw (truths-none truths spans p (sym e ∙ z))

    module _ (n : w ≡ 0 → ⊥) {ws : List ℕ} (q : ws ≡ truth_words truths spans p) where
      pub judge-valid : Valid ar ws
      judge-valid = rw q (listing-is-valid ar (truth_words truths spans p)
          (listings-at ar truths spans 1 (predicate_count - 1) lent.listings p at.from_first (let z = at.to_last in omega arith) (λ z. n (e ∙ z))))

      pub judge-some : {v : Result (Unit {0}) Refusal} → v ≡ verdict_on ar (get_or ar p 0) (diagram_of ws) → v ≡ verdict_of ar (get_or ar p 0) (truths_of truths spans p)
      judge-some r = rw (truths-some truths spans p (λ z. n (e ∙ z))) (r ∙ ap (λ (x : List ℕ). verdict_on ar (get_or ar p 0) (diagram_of x)) q)

-- `judge_all`: those below p pass
pub record JudgedTo (ar truths spans : List ℕ) (p : ℕ) : Type 0 where
  pub first : 1 ≤ p
  pub last : p ≤ predicate_count
  pub left : (after : Outcome Diagram) → check_truths ar (truths_of truths spans) 1 (predicate_count - 1) after ≡ check_truths ar (truths_of truths spans) p (predicate_count - p) after

pub judged-start : (ar truths spans : List ℕ) → JudgedTo ar truths spans 1
judged-start ar truths spans = record { first = omega arith; last = omega arith; left = λ after. refl }

check-verdict : (ar : List ℕ) (n : ℕ) (o : Option Diagram) (after : Outcome Diagram) → check_truth ar n o after ≡ after_verdict (verdict_of ar n o) after
check-verdict ar n none after = refl
check-verdict ar n (some d) after = go (leaf_above 1 d) (unbound_variable ar n d)
  where
    go : (a b : Bool) → cond a (refused Truth) (cond b (refused Unbound) after) ≡ after_verdict (cond a (Err Truth) (cond b (Err Unbound) (Ok tt))) after
    go true b = refl
    go false true = refl
    go false false = refl

module _ {ar truths spans : List ℕ} {p : ℕ} (g : JudgedTo ar truths spans p) where
  pub judged-between : p < predicate_count → Between 1 p predicate_count
  judged-between h = record { from_first = g.first; to_last = h }

  module _ (h : p < predicate_count) {v : Result (Unit {0}) Refusal} (e : v ≡ verdict_of ar (get_or ar p 0) (truths_of truths spans p)) where
    judged-next : (after : Outcome Diagram) → check_truths ar (truths_of truths spans) 1 (predicate_count - 1) after
        ≡ after_verdict v (check_truths ar (truths_of truths spans) (suc p) (predicate_count - suc p) after)
    judged-next after =
        let n : predicate_count - p ≡ suc (predicate_count - suc p) = omega arith in
        g.left after ∙ ap (λ (m : ℕ). check_truths ar (truths_of truths spans) p m after) n ∙ checks-cons ar (truths_of truths spans) p (predicate_count - suc p) after
        ∙ check-verdict ar (get_or ar p 0) (truths_of truths spans p) (check_truths ar (truths_of truths spans) (suc p) (predicate_count - suc p) after)
        ∙ ap (λ (x : Result (Unit {0}) Refusal). after_verdict x (check_truths ar (truths_of truths spans) (suc p) (predicate_count - suc p) after)) (sym e)

  module _ (h : p < predicate_count) where
    pub judged-stop : {w : Refusal} → Err w ≡ verdict_of ar (get_or ar p 0) (truths_of truths spans p) → Judged ar truths spans (Err w)
    judged-stop e = record { each = judged-next h e }

    pub judged-on : Ok tt ≡ verdict_of ar (get_or ar p 0) (truths_of truths spans p) → JudgedTo ar truths spans (p + 1)
    judged-on e = record { first = omega arith; last = omega arith; left = rw add-one (judged-next h e) }

  pub judged-end : predicate_count ≤ p → Judged ar truths spans (Ok tt)
  judged-end h = record {
    each = λ after.
        let n : predicate_count - p ≡ 0 = omega arith in
        g.left after ∙ ap (λ (m : ℕ). check_truths ar (truths_of truths spans) p m after) n ∙ checks-none ar (truths_of truths spans) p after;
  }
