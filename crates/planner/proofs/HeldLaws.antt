-- Laws of what is held: behind a backup, behind a cut or a reduction, and where a run begins.
use mathlib.Core.Path.{◌≡◌, refl, sym, ap, subst, ◌∙◌}
use mathlib.Core.Bool.{Bool, true, false, not, cond}
use mathlib.Core.List.{List, ◌++◌}
use Prim.Native.Nat.{ℕ, suc, ◌+◌, ◌*◌, ◌/◌, ◌^◌, ◌≤◌}
use native.Mathlib.Omega.{arith}
use native.Mathlib.Nat.{pow-zero}
use lib.ListN.{length, take, drop, replicate, length-replicate, length-drop, length-append}
use lib.Seq.{take_at, take_all, length-take-le}
use lib.Dec.{ltb}
use borrow.Author.Tests.{ltb-false}
use Rattle.refusal.specs.declared.Refusal.{Refusal}
use Rattle.refusal.specs.declared.Refusal.TheVariants.{Paths, Minimum}
use Rattle.refusal.specs.Outcome.{Outcome, ok, refused, Accepted}
use Rattle.refusal.specs.OutcomeLaws.{accepted-ok, accepted-refused}
use Rattle.diagram.specs.Sizes.{result_words}
use Rattle.diagram.specs.Diagram.{Diagram}
use Rattle.diagram.specs.Rows.{rows}
use Rattle.diagram.specs.RowLists.{row_tree}
use Rattle.diagram.specs.Words.{is_listing}
use Rattle.diagram.specs.Listing.{diagram_of, Good}
use Rattle.diagram.specs.Variables.{is_plain}
use Rattle.diagram.specs.ListingValid.{listing-is-valid}
use Rattle.diagram.specs.Listings.{is-listing-good}
use Rattle.rename.specs.ClosingLaws.{closed-good}
use Rattle.regression.specs.RegressCall.{written_as}
use Rattle.cutting.specs.declared.Edge.{Edge}
use Rattle.cutting.specs.declared.Cut.{Cut}
use Rattle.cutting.specs.declared.Cut.TheVariants.{Done as CutDone, Refused as NotCut}
use Rattle.paths.specs.Paths.{paths, most_paths}
use Rattle.cutting.specs.Cut.{Choice, goes, stays, reduced, cut_at, cut_diagram, edge_of, is_true_edge, choice, chosen_answer, diagram_answer, written, answer_buffer}
use Rattle.cutting.proofs.ReduceLaws.{cut-good}
use Rattle.cut.specs.Calls.{Cuttable}
use Rattle.mdp.specs.Model.{Model, scale}
use Rattle.mdp.specs.Backup.{backup}
use Rattle.mdp.specs.Runs.{Held as Value, leaves, cut_outcome, begin}
use Rattle.mdp.proofs.StepLaws.{cut-done}
use Rattle.model.specs.declared.Head.{Head}
use Rattle.model.specs.Inner.{Laid}
use Rattle.model.specs.Layout.{reward_words, model_of}
use Rattle.planner.specs.declared.RunNumbers.{RunNumbers}
use Rattle.steps.specs.Steps.{step_as, ResultIn, Wrote}
use Rattle.planner.specs.Backed.{Powered, backed_as, BackedUp}
use Rattle.planner.specs.Tasks.{Standing}
use Rattle.planner.specs.Inner.{Holds, Room, Callable, ReplaceTask, Takeable, Taken}
use Rattle.steps.specs.GivenLaws.{wrote-given, result-few, fold-there, fold-given}
use Rattle.std.specs.Prelude.{Err, Ok}
use Rattle.std.specs.Prelude.{Result}

-- two held values are equal by their parts
same-held : {d e : Diagram} {j k : ℕ} → d ≡ e → j ≡ k → ◌≡◌ {A = Value} (record { diagram = d; steps = j }) (record { diagram = e; steps = k })
same-held p q = λ i. record { diagram = p i; steps = q i }

-- ===== A backup =====

module _ {ar : List ℕ} {m : Model} {h : RunNumbers} {value : List ℕ} (c : Callable ar m h value) where
  pub callable-standing : {work : List ℕ} → Room value work → Standing ar value h.rows work
  callable-standing r = record { listing = c.listing; within = c.within; inside = c.room; value_room = r.value_room; work-room = r.work-room }

pub callable-powered : {ar listings table : List ℕ} {n : Head} → Laid ar listings table n → {h : RunNumbers} {value : List ℕ}
    → Callable ar (model_of ar listings table n) h value → Powered n h.steps h.power
unfolding model_of scale
callable-powered t c = record { steps = c.steps; is = c.power }

-- its answer, read back
backed : (power : ℕ) (o : Outcome Diagram) {n p : ℕ} → backed_as power o ≡ Ok (n, p) → (Ok n ≡ step_as o) × (power ≡ p)
backed power (ok d) {n} {p} e =
    let z : ◌≡◌ {A = ℕ × ℕ} (length (rows d), power) (n, p) = cc in
    (ap Ok (sym (ap (λ (q : ℕ × ℕ). q.0) z)), ap (λ (q : ℕ × ℕ). q.1) z)
backed power (refused x) e = let z : ◌≡◌ {A = ℕ} 0 1 = cc in absurd (omega arith)

stopped : (power : ℕ) (o : Outcome Diagram) {x : Refusal} → backed_as power o ≡ Err x → o ≡ refused x
stopped power (ok d) e = let z : ◌≡◌ {A = ℕ} 0 1 = cc in absurd (omega arith)
stopped power (refused y) e = ap refused (cc)

module _ {ar : List ℕ} {m : Model} {k : ℕ} {d : Diagram} {r : Result (ℕ × ℕ) Refusal} {value value' : List ℕ} (b : BackedUp ar m k d r value value') where
  pub backup-result : {n p : ℕ} → r ≡ Ok (n, p) → ResultIn ar (backup m k d) n value'
  backup-result {n} e = (wrote-given (record { answer = (backed (scale m ^ suc k) (backup m k d) (sym b.answer ∙ e)).0; words = b.words; good = b.good })).result n refl

  pub backup-refused : {x : Refusal} → r ≡ Err x → backup m k d ≡ refused x
  backup-refused e = stopped (scale m ^ suc k) (backup m k d) (sym b.answer ∙ e)

  pub backup-power : {n p : ℕ} → r ≡ Ok (n, p) → p ≡ scale m ^ suc k
  backup-power e = sym (backed (scale m ^ suc k) (backup m k d) (sym b.answer ∙ e)).1

-- ===== A value replaced by what a call gives, k staying =====

module _ {ar : List ℕ} {h : RunNumbers} {value work : List ℕ} (t : ReplaceTask ar h value work) where
  pub replace-long : h.rows * 3 ≡ length (take (h.rows * 3) value)
  replace-long = sym (length-take-le (h.rows * 3) value t.room)

  module _ {o : Outcome Diagram} {n : ℕ} {out out' : List ℕ} (w : Wrote ar o (Ok n) out out') where
    -- its rows are there to be copied, and there is room for them
    pub replace-copies : (n * 3 ≤ length out') × (n * 3 ≤ length value)
    replace-copies = (fold-there w refl, omega (arith, result-few ((wrote-given w).result n refl), t.value_room))

    pub replace-result : {value' : List ℕ} → value' ≡ take (n * 3) out' ++ drop (n * 3) value → ResultIn ar o n value'
    replace-result u = (fold-given w refl value u).result n refl

-- ===== A cut =====

cut_fits : (ar : List ℕ) (d : Diagram) → Good ar d → Accepted (Good ar) (cut_outcome ar d)
unfolding cut_outcome diagram_answer chosen_answer cut_diagram
cut_fits ar d g = go (is_plain ar d) (ltb most_paths (length (paths d))) refl (choice ar d)
  where
    go : (p b : Bool) → ltb most_paths (length (paths d)) ≡ b → (c : Choice)
        → Accepted (Good ar) (leaves ar d (cond (not p) (NotCut Minimum) (cond b (NotCut Paths) (chosen_answer ar d c))))
    go false b e c = accepted-refused
    go true true e c = accepted-refused
    go true false e stays = accepted-refused
    go true false e (goes k b) = accepted-ok (closed-good ar (reduced (cut_at (row_tree (rows d) k) (is_true_edge (edge_of b)) d))
        (cut-good ar d (row_tree (rows d) k) (is_true_edge (edge_of b)) g (ltb-false most_paths (length (paths d)) e)))

edge-side : (b : Bool) → is_true_edge (edge_of b) ≡ b
edge-side true = refl
edge-side false = refl

cut-rows : (ar : List ℕ) (d : Diagram) (k : ℕ) (e : Edge) (n : ℕ) → diagram_answer ar d ≡ CutDone k e n → length (rows (cut_diagram ar d k (is_true_edge e))) ≡ n
unfolding diagram_answer chosen_answer
cut-rows ar d k e n h = go (is_plain ar d) (ltb most_paths (length (paths d))) (choice ar d) h
  where
    go : (p b : Bool) (c : Choice) → cond (not p) (NotCut Minimum) (cond b (NotCut Paths) (chosen_answer ar d c)) ≡ CutDone k e n
        → length (rows (cut_diagram ar d k (is_true_edge e))) ≡ n
    go false b c q = let z : ◌≡◌ {A = ℕ} 0 1 = cc in absurd (omega arith)
    go true true c q = let z : ◌≡◌ {A = ℕ} 0 1 = cc in absurd (omega arith)
    go true false stays q = let z : ◌≡◌ {A = ℕ} 0 1 = cc in absurd (omega arith)
    go true false (goes j b) q =
        let p : j ≡ k = cc in
        let s : edge_of b ≡ e = cc in
        let l : length (rows (cut_diagram ar d j b)) ≡ n = cc in
        let t : is_true_edge e ≡ b = sym (ap is_true_edge s) ∙ edge-side b in
        ap (λ (x : ℕ). length (rows (cut_diagram ar d x (is_true_edge e)))) (sym p) ∙ ap (λ (x : Bool). length (rows (cut_diagram ar d j x))) t ∙ l

module _ {ar : List ℕ} {h : RunNumbers} {value work : List ℕ} (t : ReplaceTask ar h value work) where
  pub cut-able : (n : ℕ) → result_words ≤ n → Cuttable ar (take (h.rows * 3) value) (replicate n 0) work
  cut-able n k = record { listing = t.listing; out-room = omega (arith, length-replicate {A = ℕ} n 0); work-room = t.work-room }

  abbrev W : Diagram
  W = diagram_of (take (h.rows * 3) value)

  module _ {q : Cut} (a : q ≡ diagram_answer ar (diagram_of (take (h.rows * 3) value))) where
    pub cut-wrote : (out : List ℕ) {out' : List ℕ} → out' ≡ answer_buffer ar (take (h.rows * 3) value) out q → {k : ℕ} {e : Edge} {n : ℕ} → q ≡ CutDone k e n
        → Wrote ar (cut_outcome ar W) (Ok n) out out'
    unfolding answer_buffer written
    cut-wrote out w {k} {e} {n} d =
        let z = cut-done ar W k e n (sym a ∙ d) in
        record {
          answer = ap Ok (sym (cut-rows ar W k e n (sym a ∙ d))) ∙ ap step_as (sym z);
          words = w ∙ ap (answer_buffer ar (take (h.rows * 3) value) out) d ∙ ap (λ (o : Outcome Diagram). written_as o out) (sym z);
          good = cut_fits ar W (is-listing-good ar (take (h.rows * 3) value) t.listing);
        }

-- ===== The reward =====

part-long : (s : List ℕ) (i n : ℕ) → i + n ≤ length s → length (take n (drop i s)) ≡ n
part-long s i n h = length-take-le n (drop i s) (omega (arith, length-drop i s))

module _ {listings : List ℕ} {h : Head} {value : List ℕ} (t : Takeable listings h value) {ws : List ℕ} (e : ws ≡ reward_words listings h) where
  pub taking-there : h.reward_words / 3 * 3 ≤ length ws
  taking-there = omega (arith, t.whole, ap length e, part-long listings h.reward_start h.reward_words t.inside)

  pub taking-room : h.reward_words / 3 * 3 ≤ length value
  taking-room = omega (arith, t.whole, t.room)

  pub taking-taken : {value' : List ℕ} → value' ≡ take (h.reward_words / 3 * 3) ws ++ drop (h.reward_words / 3 * 3) value → Taken listings h (h.reward_words / 3) value'
  taking-taken {value'} u =
      let k = h.reward_words / 3 * 3 in
      let l : length ws ≡ k = ap length e ∙ part-long listings h.reward_start h.reward_words t.inside ∙ sym t.whole in
      let z : take k ws ≡ ws = take_all k ws (omega arith) in
      let v : value' ≡ ws ++ drop k value = u ∙ ap (λ (s : List ℕ). s ++ drop k value) z in
      record { words = ap (take k) v ∙ take_at ws (drop k value) k l ∙ e; room = omega (arith, ap length v, length-append ws (drop k value), l) }

pub laid-takeable : {ar listings table : List ℕ} {h : Head} → Laid ar listings table h → {value work : List ℕ} → Room value work → Takeable listings h value
laid-takeable {ar} {listings} {table} {h} t r =
    let v = listing-is-valid ar (reward_words listings h) t.reward in
    let l = part-long listings h.reward_start h.reward_words t.inside in
    record { inside = t.inside; whole = subst (λ (n : ℕ). n / 3 * 3 ≡ n) l (sym v.whole); room = omega (arith, v.whole, v.few, l, r.value_room) }

-- the reward taken is what a run begins with
pub reward-holds : {ar listings table : List ℕ} {n : Head} → Laid ar listings table n → {k : ℕ} {value : List ℕ} → Taken listings n k value
    → Holds ar (model_of ar listings table n) (begin (model_of ar listings table n)) (record { rows = k; steps = 0; power = 1 }) value
unfolding model_of begin
reward-holds {ar} {listings} {table} {n} t {k} {value} w = record {
  listing = ap (is_listing ar) w.words ∙ t.reward;
  room = w.room;
  is = same-held (ap diagram_of w.words) refl;
  power = sym (pow-zero (scale (model_of ar listings table n)));
}
