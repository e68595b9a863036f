-- Laws of the loop over the actions, of its first move, and of the answer, in the words of the code.
use mathlib.Core.Path.{◌≡◌, refl, sym, ap, subst, ◌∙◌}
use mathlib.Core.Bool.{true, cond}
use mathlib.Core.List.{List, [], ◌++◌}
use Prim.Native.Nat.{ℕ, zero, suc, ◌+◌, ◌*◌, ◌≤◌, ◌<◌}
use native.Mathlib.Omega.{arith}
use native.Mathlib.Nat.{zero-add}
use mir.Syntax.{w8}
use mir.Val.{Fits}
use lib.ListN.{length, get_or, take, drop, replicate, length-replicate}
use lib.Dec.{leb, eqb}
use borrow.Author.Tests.{ne_eqb, leb-true}
use Rattle.basics.specs.Tests.{and_left}
use Rattle.refusal.specs.declared.Refusal.{Refusal}
use Rattle.refusal.specs.Outcome.{Outcome, ok, and_then}
use Rattle.label.specs.Limits.{parameter_count}
use Rattle.diagram.specs.Sizes.{most_rows, highest_value, result_words}
use Rattle.diagram.specs.Diagram.{Diagram, leaf}
use Rattle.diagram.specs.Listing.{diagram_of}
use Rattle.state.specs.State.{State}
use Rattle.state.specs.Lent.{state_of, is_state}
use Rattle.state.specs.Max.{tuples}
use Rattle.names.specs.Many.{many}
use Rattle.names.specs.ManyLaws.{length-many, get_d-many}
use Rattle.mdp.specs.Model.{Action, Model, Every, GoodAction}
use Rattle.mdp.specs.Backup.{variants_sum}
use Rattle.model.specs.declared.Head.{Head}
use Rattle.model.specs.Inner.{Laid}
use Rattle.model.specs.Layout.{action_words, action_at, model_of}
use Rattle.steps.specs.Steps.{Given}
use Rattle.steps.specs.GivenLaws.{step-refused}
use Rattle.planner.specs.PartLaws.{many-every}
use Rattle.planner.specs.Tasks.{ValueTask, ActionTask}
use Rattle.best.specs.Moves.{move, action_at as model_action, first_move}
use Rattle.best.specs.Best.{Rated, rated, bindings_best, moves_best, best_answer}
use Rattle.best_move.specs.declared.Chosen.{Chosen}
use Rattle.best_move.specs.declared.Chosen.TheVariants.{Move as TheMove, Refused as NoMove}
use Rattle.best_move.specs.declared.Lead.{Lead}
use Rattle.best_move.specs.Chosen.{chosen_as, BestTask}
use Rattle.best_move.specs.Inside.{digits, rate_of, led_as, Leading, Rates, first_lead, action_tried, Tupled, Placed, ValueGiven, Answerable}
use Rattle.best_move.proofs.DigitLaws.{zeros, length_digits, digits-zero, digits-read, digit-less}
use Rattle.best_move.proofs.FoldLaws.{fold_on, fold-refused}
use Rattle.best_move.proofs.LeadLaws.{rates-to, rates-refused, rates-same, rated-to, rated-refused, moves_more}
use Rattle.std.specs.Prelude.{Err, Ok, Result}

-- ===== A state =====

pub state-some : (ar : List ℕ) (n : ℕ) (constants facts : List ℕ) → is_state ar n constants facts ≡ true → 0 < n
unfolding is_state
state-some ar n constants facts e = leb-true 1 n (and_left (leb 1 n) _ e)

pub placed-some : {ar : List ℕ} {n : ℕ} {constants facts index : List ℕ} → Placed ar n constants facts index → 0 < n
placed-some {ar} {n} {constants} {facts} p = state-some ar n constants facts p.lent

pub placed-tupled : {ar : List ℕ} {n : ℕ} {constants facts index : List ℕ} → Placed ar n constants facts index → {c : ℕ} → c ≤ parameter_count → Tupled n c
placed-tupled p h = record { some = placed-some p; objects-few = p.objects-few; few = h }

pub high-room : (m : ℕ) → most_rows ≤ m → most_rows ≤ length (zeros m)
high-room m h = omega (arith, length-replicate {A = ℕ} m 0)

pub high-kept : (m : ℕ) (xs : List ℕ) → most_rows ≤ m → length xs ≡ length (zeros m) → most_rows ≤ length xs
high-kept m xs h e = omega (arith, e, high-room m h)

-- ===== An action =====

count-is : (listings table : List ℕ) (a : ℕ) → (action_at listings table a).count ≡ get_or table (a * action_words) 0
unfolding action_at
count-is listings table a = refl

module _ {ar value : List ℕ} {g : ℕ} {work : List ℕ} (u : ValueGiven ar value g work) where
  pub value-fresh : (m : ℕ) → result_words ≤ m → ValueTask ar value g (replicate m 0) work
  value-fresh m h = record { value-listing = u.value-listing; within = u.within; few = u.few; out-room = omega (arith, length-replicate {A = ℕ} m 0); work-room = u.work-room }

  pub value-next : {work' : List ℕ} → length work' ≡ length work → ValueGiven ar value g work'
  value-next e = record { value-listing = u.value-listing; within = u.within; few = u.few; work-room = omega (arith, e, u.work-room) }

module _ {ar listings table : List ℕ} {a : ℕ} (t : ActionTask ar listings table a) where
  pub task-few : get_or table (a * action_words) 0 ≤ parameter_count
  task-few = subst (λ (c : ℕ). c ≤ parameter_count) (count-is listings table a) t.good.few

module _ (ar listings table : List ℕ) (a g n : ℕ) (constants facts value : List ℕ) (l : Lead) {x : Result ℕ Refusal} {sum : List ℕ}
    (y : Given ar (variants_sum ar g (diagram_of value) (leaf 0) (action_at listings table a).variants) x sum) where
  abbrev Tried : Outcome Rated
  Tried = action_tried ar g (state_of ar n constants facts) (diagram_of value) a (action_at listings table a) (rate_of n l)

  pub sum-stops : {e : Refusal} → x ≡ Err e → Rates n Tried (Err e)
  unfolding action_tried
  sum-stops {e} h =
      let o = step-refused (variants_sum ar g (diagram_of value) (leaf 0) (action_at listings table a).variants) e (sym y.answer ∙ h) in
      rates-refused (ap (λ (z : Outcome Diagram). and_then z (λ q. bindings_best ar (state_of ar n constants facts) a q
      (tuples (state_of ar n constants facts).size (action_at listings table a).count) (rate_of n l))) o)

  pub sum-tried : {m : ℕ} → x ≡ Ok m → {r : Result Lead Refusal}
      → Rates n (bindings_best ar (state_of ar n constants facts) a (diagram_of (take (m * 3) sum)) (tuples n (get_or table (a * action_words) 0)) (rate_of n l)) r → Rates n Tried r
  unfolding action_tried state_of action_at
  sum-tried {m} h z = rates-same (sym (ap (λ (o : Outcome Diagram). and_then o (λ q. bindings_best ar (state_of ar n constants facts) a q
      (tuples n (action_at listings table a).count) (rate_of n l))) (y.result m h).is)) z

-- ===== The actions, one after the other =====

module _ {ar listings table : List ℕ} {h : Head} (t : Laid ar listings table h) where
  abbrev M : Model
  M = model_of ar listings table h

  actions-are : M.actions ≡ many (action_at listings table) h.actions
  unfolding model_of
  actions-are = refl

  pub laid_table : 0 < length table
  laid_table = omega (arith, t.room)

  pub laid-numerator : h.numerator ≤ highest_value
  unfolding model_of
  laid-numerator = omega (arith, t.good.numerator-few, t.good.denominator-few)

  good-actions : Every (GoodAction ar) (many (action_at listings table) h.actions)
  unfolding model_of
  good-actions = t.good.actions

  pub laid-task : {a : ℕ} → a < h.actions → ActionTask ar listings table a
  laid-task {a} l = record {
    laid = t.actions a l;
    good = many-every (GoodAction ar) (action_at listings table) h.actions a good-actions l;
    inside = omega (arith, t.room, t.few, l);
  }

  first_count : (model_action M 0).count ≡ (first_lead table h.actions).count
  unfolding model_action first_lead model_of action_at
  first_count = go h.actions
    where
      go : (k : ℕ) → (get_or (many (action_at listings table) k) 0 (record { count = 0; variants = [] })).count ≡ cond (eqb k 0) 0 (get_or table 0 0)
      go zero = refl
      go (suc k) = rw (ne_eqb (suc k) 0 (omega arith)) (ap (λ (a : Action). a.count) (get_d-many (action_at listings table) _ (suc k) 0 (omega arith)))

  -- the first move of all
  first-is : (n : ℕ) → rate_of n (first_lead table h.actions) ≡ rated (first_move M) 0
  unfolding first_move first_lead
  first-is n = ap (λ (os : List ℕ). rated (move 0 os) 0) (digits-zero n (first_lead table h.actions).count ∙ ap (λ (c : ℕ). replicate c 0) (sym first_count))

  first-leading : Leading (first_lead table h.actions)
  unfolding first_lead
  first-leading = record { some = omega arith; few = go h.actions refl }
    where
      go : (k : ℕ) → h.actions ≡ k → cond (eqb k 0) 0 (get_or table 0 0) ≤ parameter_count
      go zero e = omega arith
      go (suc k) e = rw (ne_eqb (suc k) 0 (omega arith)) (task-few (laid-task {a = 0} (omega arith)))

-- the actions before number a are tried
pub record Acting (ar listings table : List ℕ) (h : Head) (s : State) (d : Diagram) (n : ℕ) (l : Lead) (a : ℕ) : Type 0 where
  pub within : a ≤ h.actions
  pub leading : Leading l
  pub so_far : moves_best (model_of ar listings table h) s d 0 (many (action_at listings table) a) (rated (first_move (model_of ar listings table h)) 0) ≡ ok (rate_of n l)

module _ {ar listings table : List ℕ} {h : Head} (t : Laid ar listings table h) (s : State) (d : Diagram) where
  abbrev N : Model
  N = model_of ar listings table h

  abbrev S : ℕ → Outcome Rated
  S v = moves_best N s d 0 (many (action_at listings table) v) (rated (first_move N) 0)

  abbrev step : Rated → ℕ → Outcome Rated
  step b v = action_tried ar h.numerator s d v (action_at listings table v) b

  step-more : (v : ℕ) → S (suc v) ≡ and_then (S v) (λ b. step b v)
  unfolding many model_of
  step-more v =
      moves_more N s d 0 (many (action_at listings table) v) (action_at listings table v) (rated (first_move N) 0)
      ∙ ap (λ (k : ℕ). and_then (S v) (λ b. action_tried ar h.numerator s d k (action_at listings table v) b))
      (zero-add (length (many (action_at listings table) v)) ∙ length-many (action_at listings table) v)

  all_are : S h.actions ≡ moves_best N s d 0 N.actions (rated (first_move N) 0)
  all_are = ap (λ (x : List Action). moves_best N s d 0 x (rated (first_move N) 0)) (sym (actions-are t))

  pub acting-start : {n : ℕ} {l : Lead} → l ≡ first_lead table h.actions → Acting ar listings table h s d n l 0
  unfolding many moves_best
  acting-start {n} {l} e = subst (λ (x : Lead). Acting ar listings table h s d n x 0) (sym e) (record {
    within = omega arith;
    leading = first-leading t;
    so_far = ap ok (sym (first-is t n));
  })

module _ {ar listings table : List ℕ} {h : Head} (t : Laid ar listings table h) {s : State} {d : Diagram} {n : ℕ} {l : Lead} {a : ℕ}
    (x : Acting ar listings table h s d n l a) where
  abbrev All : Outcome Rated
  All = moves_best (model_of ar listings table h) s d 0 (model_of ar listings table h).actions (rated (first_move (model_of ar listings table h)) 0)

  pub acting-end : h.actions ≤ a → Rates n All (Ok l)
  acting-end k =
      let w = x.within in
      let z : h.actions ≡ a = omega arith in
      rates-to (sym (all_are t s d) ∙ ap (S t s d) z ∙ x.so_far) x.leading

  module _ {r : Result Lead Refusal} (y : Rates n (action_tried ar h.numerator s d a (action_at listings table a) (rate_of n l)) r) (k : a < h.actions) where
    next-is : S t s d (a + 1) ≡ action_tried ar h.numerator s d a (action_at listings table a) (rate_of n l)
    next-is = fold_on (S t s d) (step t s d) (step-more t s d) x.so_far

    pub acting-on : {m : Lead} → r ≡ Ok m → Acting ar listings table h s d n m (a + 1)
    acting-on {m} e = record { within = omega arith; leading = y.leading m e; so_far = next-is ∙ rated-to y e }

    pub acting-stops : {e : Refusal} → r ≡ Err e → Rates n All r
    acting-stops {e} q = subst (Rates n All) (sym q)
        (rates-refused (sym (all_are t s d) ∙ fold-refused (S t s d) (step t s d) (step-more t s d) {v = a + 1} (next-is ∙ rated-refused y q) h.actions (omega arith)))

-- ===== The answer =====

-- the move that a lead is, by the words written
pub lead-chosen : (n : ℕ) (l : Lead) (m : ℕ) {os : List ℕ} → os ≡ digits n l.count l.index ++ drop l.count (replicate m 0)
    → TheMove l.action l.count (get_or os 0 0) (get_or os 1 0) (get_or os 2 0) (get_or os 3 0) ≡ chosen_as (ok (rate_of n l).move)
lead-chosen n l m {os} e = rw (
  length_digits n l.count l.index,
  digits-read n l.count l.index m 0 e,
  digits-read n l.count l.index m 1 e,
  digits-read n l.count l.index m 2 e,
  digits-read n l.count l.index m 3 e,
)

-- an object is a byte
pub lead-byte : (n : ℕ) (l : Lead) (m : ℕ) → Tupled n l.count → {os : List ℕ} → os ≡ digits n l.count l.index ++ drop l.count (replicate m 0) → (k : ℕ) → get_or os k 0 < 256
lead-byte n l m t {os} e k =
    let a = digit-less n l.count l.index k t.some in
    let b = digits-read n l.count l.index m k e in
    let c = t.objects-few in
    omega arith

pub lead-fits : (n : ℕ) (l : Lead) (m : ℕ) → Tupled n l.count → {os : List ℕ} → os ≡ digits n l.count l.index ++ drop l.count (replicate m 0) → (k : ℕ) → Fits w8 (get_or os k 0)
lead-fits n l m t e k = omega (arith, lead-byte n l m t e k)

module _ {r : Result Lead Refusal} where
  pub answer-tupled : {n : ℕ} → Answerable n r → {l : Lead} → r ≡ Ok l → Tupled n l.count
  answer-tupled {n} a {l} e = record { some = a.some; objects-few = a.objects-few; few = (a.leading l e).few }

  pub answer-move : (n : ℕ) {l : Lead} → r ≡ Ok l → {q : Chosen} → q ≡ chosen_as (ok (rate_of n l).move) → q ≡ chosen_as (and_then (led_as n r) (λ best. ok best.move))
  answer-move n e q = q ∙ sym (ap (λ (x : Result Lead Refusal). chosen_as (and_then (led_as n x) (λ best. ok best.move))) e)

  pub answer-refused : (n : ℕ) {e : Refusal} → r ≡ Err e → NoMove e ≡ chosen_as (and_then (led_as n r) (λ best. ok best.move))
  answer-refused n e = sym (ap (λ (x : Result Lead Refusal). chosen_as (and_then (led_as n x) (λ best. ok best.move))) e)

-- the call's answer
pub best-answered : (ar listings table : List ℕ) (h : Head) (s : State) (d : Diagram) {n : ℕ} {r : Result Lead Refusal} {q : Chosen}
    → Rates n (moves_best (model_of ar listings table h) s d 0 (model_of ar listings table h).actions (rated (first_move (model_of ar listings table h)) 0)) r
    → q ≡ chosen_as (and_then (led_as n r) (λ best. ok best.move)) → q ≡ chosen_as (best_answer (model_of ar listings table h) s d)
unfolding best_answer
best-answered ar listings table h s d x e = e ∙ ap (λ (o : Outcome Rated). chosen_as (and_then o (λ best. ok best.move))) x.is

module _ {ar listings table : List ℕ} {h : Head} {n : ℕ} {constants facts index value work : List ℕ} (t : BestTask ar listings table h n constants facts index value work) where
  pub task-given : ValueGiven ar value h.numerator work
  task-given = record { value-listing = t.value-listing; within = t.within; few = laid-numerator t.laid; work-room = t.work-room }

  pub task-placed : Placed ar n constants facts index
  task-placed = record { lent = t.lent; objects-few = t.objects-few; indexed = t.indexed }

  pub task-answerable : {o : Outcome Rated} {r : Result Lead Refusal} → Rates n o r → Answerable n r
  task-answerable x = record { some = state-some ar n constants facts t.lent; objects-few = t.objects-few; leading = x.leading }
