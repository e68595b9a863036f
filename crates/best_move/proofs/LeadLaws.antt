-- Laws of the best so far: one binding more, one action more, in the words of the code.
use mathlib.Core.Path.{◌≡◌, refl, sym, ap, subst, ◌∙◌}
use mathlib.Core.Bool.{Bool, true, false, cond}
use mathlib.Core.List.{List, [], ◌∷◌, ◌++◌}
use Prim.Native.Nat.{ℕ, suc, ◌+◌, ◌-◌, ◌^◌, ◌≤◌, ◌<◌, max}
use native.Mathlib.Omega.{arith}
use native.Mathlib.Nat.{add-zero}
use lib.ListN.{length, get_or}
use lib.Dec.{ltb}
use borrow.Author.Tests.{lt-ltb, le-ltb, ltb-true, eq-eqb, ne_eqb}
use Rattle.basics.specs.Tests.{Cmp, below, equal, above, cmp, and_left, and_right}
use Rattle.refusal.specs.declared.Refusal.{Refusal}
use Rattle.refusal.specs.declared.Refusal.TheVariants.{Valuations}
use Rattle.refusal.specs.Outcome.{Outcome, ok, refused, and_then}
use Rattle.label.specs.Limits.{parameter_count}
use Rattle.diagram.specs.Diagram.{Diagram, leaf}
use Rattle.diagram.specs.Words.{row_count, is_listing}
use Rattle.diagram.specs.Listing.{diagram_of}
use Rattle.diagram.specs.Listings.{is-listing-diagram}
use Rattle.state.specs.State.{State, meaning}
use Rattle.state.specs.Lent.{state_of}
use Rattle.state.specs.Max.{tuples}
use Rattle.elimination.specs.Answer.{is_too_large}
use Rattle.names.specs.Many.{many}
use Rattle.mdp.specs.Model.{Action, Model}
use Rattle.mdp.specs.Backup.{variants_sum}
use Rattle.steps.specs.GivenLaws.{then-then, then_same}
use Rattle.best.specs.Moves.{move}
use Rattle.best.specs.Best.{Rated, rated, better, binding_value, bindings_best, moves_best}
use Rattle.minimum.specs.Number.{number}
use Rattle.valuing.specs.Walks.{bound_number, bound_answer, climbed, is_few, Prepared}
use Rattle.valuing.proofs.StartLaws.{root-cut}
use Rattle.valuing.proofs.CheckLaws.{bound-few}
use Rattle.best_move.specs.declared.Lead.{Lead}
use Rattle.best_move.specs.Inside.{digits, rate_of, led_as, Leading, Rates, first_lead, raised_to, settled, binding_tried, action_tried, Tupled}
use Rattle.best_move.proofs.DigitLaws.{digits-below, tuples-digits}
use Rattle.best_move.proofs.FoldLaws.{fold_on, fold-refused, fold-settled}
use Rattle.std.specs.Prelude.{Err, Ok, Result}

-- ===== Answers =====

pub rates-to : {n : ℕ} {o : Outcome Rated} {l : Lead} → o ≡ ok (rate_of n l) → Leading l → Rates n o (Ok l)
rates-to {n} {o} {l} e k = record { is = sym e; leading = λ m q. let z : l ≡ m = cc in subst Leading z k }

pub rates-refused : {n : ℕ} {o : Outcome Rated} {r : Refusal} → o ≡ refused r → Rates n o (Err r)
rates-refused e = record { is = sym e; leading = λ m q. let z : ◌≡◌ {A = ℕ} 0 1 = cc in absurd (omega arith) }

pub rates-same : {n : ℕ} {o o' : Outcome Rated} {r : Result Lead Refusal} → o ≡ o' → Rates n o r → Rates n o' r
rates-same e x = record { is = x.is ∙ e; leading = x.leading }

module _ {n : ℕ} {o : Outcome Rated} {r : Result Lead Refusal} (x : Rates n o r) where
  pub rated-to : {l : Lead} → r ≡ Ok l → o ≡ ok (rate_of n l)
  rated-to e = sym x.is ∙ ap (led_as n) e

  pub rated-refused : {e : Refusal} → r ≡ Err e → o ≡ refused e
  rated-refused e = sym x.is ∙ ap (led_as n) e

-- ===== Parts of the code =====

pub raised-new : (l : Lead) {b : ℕ} → l.best < b → (a c i : ℕ) → ◌≡◌ {A = Lead} (record { best = b; action = a; count = c; index = i }) (raised_to l b a c i)
unfolding raised_to
raised-new l {b} h a c i = rw (lt-ltb l.best b h)

pub raised-old : {l : Lead} {b : ℕ} → b ≤ l.best → (a c i : ℕ) → l ≡ raised_to l b a c i
unfolding raised_to
raised-old {l} {b} h a c i = rw (le-ltb l.best b h)

-- the best so far once a climb has answered
abbrev pub taken_as : Result ℕ Refusal → Lead → ℕ → ℕ → ℕ → Result Lead Refusal
taken_as (Ok b) l a c i = Ok (raised_to l b a c i)
taken_as (Err r) l a c i = Err r

pub taken-value : {v : Result ℕ Refusal} {b : ℕ} (l : Lead) (a c i : ℕ) → v ≡ Ok b → {x : Lead} → x ≡ raised_to l b a c i → Ok x ≡ taken_as v l a c i
taken-value l a c i e q = ap Ok q ∙ sym (ap (λ (z : Result ℕ Refusal). taken_as z l a c i) e)

pub taken_refused : {v : Result ℕ Refusal} {r : Refusal} (l : Lead) (a c i : ℕ) → v ≡ Err r → Err r ≡ taken_as v l a c i
taken_refused l a c i e = sym (ap (λ (z : Result ℕ Refusal). taken_as z l a c i) e)

pub settled-not : (ws high : List ℕ) (best : ℕ) (b : Bool) → b ≡ false → b ≡ settled ws high b best
unfolding settled
settled-not ws high best b h = rw h

pub settled-test : (ws high : List ℕ) (best : ℕ) (b : Bool) → b ≡ true → ltb (get_or high (row_count ws - 1) 0) best ≡ settled ws high b best
unfolding settled
settled-test ws high best b h = rw h

pub first-none : (table : List ℕ) {k : ℕ} → k ≡ 0 → ◌≡◌ {A = Lead} (record { best = 1; action = 0; count = 0; index = 0 }) (first_lead table k)
unfolding first_lead
first-none table {k} h = rw (eq-eqb k 0 h)

pub first_some : (table : List ℕ) {k : ℕ} → (k ≡ 0 → ⊥) → ◌≡◌ {A = Lead} (record { best = 1; action = 0; count = get_or table 0 0; index = 0 }) (first_lead table k)
unfolding first_lead
first_some table {k} h = rw (ne_eqb k 0 h)

-- ===== One binding more =====

module _ (n : ℕ) (l : Lead) (k : Leading l) (a c i h : ℕ) where
  -- it takes the place of the best exactly if it is higher
  raised_is : rate_of n (raised_to l (max l.best (suc h)) a c i) ≡ better (rate_of n l) (rated (move a (digits n c i)) h)
  unfolding raised_to better
  raised_is = go (cmp l.best (suc h))
    where
      go : Cmp l.best (suc h) → rate_of n (raised_to l (max l.best (suc h)) a c i) ≡ better (rate_of n l) (rated (move a (digits n c i)) h)
      go (below x) = rw (lt-ltb l.best (max l.best (suc h)) (omega arith), lt-ltb (l.best - 1) h (omega (arith, k.some))) (ap (rated (move a (digits n c i))) (omega arith))
      go (equal x) = rw (le-ltb l.best (max l.best (suc h)) (omega arith), le-ltb (l.best - 1) h (omega (arith, k.some)))
      go (above x) = rw (le-ltb l.best (max l.best (suc h)) (omega arith), le-ltb (l.best - 1) h (omega (arith, k.some)))

  raised-leading : c ≤ parameter_count → Leading (raised_to l (max l.best (suc h)) a c i)
  unfolding raised_to
  raised-leading f = go (ltb l.best (max l.best (suc h)))
    where
      go : (b : Bool) → Leading (cond b (record { best = max l.best (suc h); action = a; count = c; index = i }) l)
      go true = record { some = omega arith; few = f }
      go false = k

module _ (ar ws : List ℕ) (n : ℕ) (constants facts : List ℕ) (listed : is_listing ar ws ≡ true) (l : Lead) (k : Leading l) (a c i : ℕ) (few : c ≤ parameter_count) where
  abbrev s : State
  s = state_of ar n constants facts

  abbrev os : List ℕ
  os = digits n c i

  value-is : binding_value ar s (diagram_of ws) os ≡ cond (is_too_large ar s os ws) (refused Valuations) (ok (number s os (meaning ar (diagram_of ws))))
  unfolding binding_value
  value-is = ap (λ (x : List ℕ). cond (is_too_large ar s os x) (refused Valuations) (ok (number s os (meaning ar (diagram_of ws))))) (is-listing-diagram ar ws listed)

  -- a climb's answer taken
  pub binding-taken : {v : Result ℕ Refusal} {r : Result Lead Refusal} {xs : List ℕ} → xs ≡ digits n c i → v ≡ climbed l.best (bound_answer ar ws n constants facts xs) → r ≡ taken_as v l a c i
      → Rates n (binding_tried ar s a (diagram_of ws) (rate_of n l) os) r
  unfolding binding_tried bound_answer climbed
  binding-taken {v} {r} {xs} x e q =
      let z = q ∙ ap (λ y. taken_as y l a c i) (e ∙ ap (λ y. climbed l.best (bound_answer ar ws n constants facts y)) x) in
      subst (Rates n (binding_tried ar s a (diagram_of ws) (rate_of n l) os)) (sym z)
      (rates-same (sym (ap (λ (y : Outcome ℕ). and_then y (λ h. ok (better (rate_of n l) (rated (move a os) h)))) value-is)) (go (is_too_large ar s os ws)))
    where
      go : (b : Bool) → Rates n (and_then (cond b (refused Valuations) (ok (number s os (meaning ar (diagram_of ws))))) (λ h. ok (better (rate_of n l) (rated (move a os) h))))
          (taken_as (climbed l.best (cond b (Err Valuations) (Ok (bound_number ar ws n constants facts os)))) l a c i)
      go true = rates-refused refl
      go false = rates-to (ap ok (sym (raised_is n l k a c i (bound_number ar ws n constants facts os)))) (raised-leading n l k a c i (bound_number ar ws n constants facts os) few)

  -- where no leaf is as high as the best, no binding takes its place
  pub binding-settled : {high index : List ℕ} → Prepared ar ws high n constants facts index → 0 < n → {b : Bool} → b ≡ is_few ar n ws → settled ws high b l.best ≡ true
      → binding_tried ar s a (diagram_of ws) (rate_of n l) os ≡ ok (rate_of n l)
  unfolding settled climbed
  binding-settled {high} p m {b} e h =
      let top : get_or high (row_count ws - 1) 0 < l.best = ltb-true _ _ (and_right b _ h) in
      let v : Ok l.best ≡ climbed l.best (bound_answer ar ws n constants facts os) =
      ap Ok (root-cut p os (digits-below n c i m) top) ∙ ap (climbed l.best) (bound-few ar ws n constants facts os e (and_left b _ h) refl) in
      rated-to (binding-taken refl v refl) refl ∙ ap ok (ap (rate_of n) (sym (raised-old (omega arith) a c i)))

-- ===== The bindings of an action =====

bindings-more : (ar : List ℕ) (s : State) (i : ℕ) (q : Diagram) (l : List (List ℕ)) (os : List ℕ) (best : Rated)
    → bindings_best ar s i q (l ++ (os ∷ [])) best ≡ and_then (bindings_best ar s i q l best) (λ b. binding_tried ar s i q b os)
unfolding bindings_best binding_tried
bindings-more ar s i q [] os best = refl
bindings-more ar s i q (ps ∷ l) os best =
    then_same (binding_value ar s q ps) _ _ (λ x. bindings-more ar s i q l os (better best (rated (move i ps) x)))
    ∙ sym (then-then (binding_value ar s q ps) (λ x. bindings_best ar s i q l (better best (rated (move i ps) x))) (λ b. binding_tried ar s i q b os))

-- the tuples before number i are tried
pub record Binding (ar : List ℕ) (s : State) (a : ℕ) (q : Diagram) (n c total : ℕ) (first l : Lead) (i : ℕ) : Type 0 where
  pub within : i ≤ total
  pub leading : Leading l
  pub so_far : bindings_best ar s a q (many (digits n c) i) (rate_of n first) ≡ ok (rate_of n l)

module _ (ar : List ℕ) (s : State) (a : ℕ) (q : Diagram) (n c : ℕ) (first : Lead) where
  abbrev S : ℕ → Outcome Rated
  S v = bindings_best ar s a q (many (digits n c) v) (rate_of n first)

  abbrev step : Rated → ℕ → Outcome Rated
  step d v = binding_tried ar s a q d (digits n c v)

  step-more : (v : ℕ) → S (suc v) ≡ and_then (S v) (λ d. step d v)
  unfolding many
  step-more v = bindings-more ar s a q (many (digits n c) v) (digits n c v) (rate_of n first)

  all_are : {total : ℕ} → Tupled n c → total ≡ n ^ c → S total ≡ bindings_best ar s a q (tuples n c) (rate_of n first)
  all_are t e = ap (λ (x : List (List ℕ)). bindings_best ar s a q x (rate_of n first)) (ap (many (digits n c)) e ∙ sym (tuples-digits n c t.some))

pub binding-start : {ar : List ℕ} {s : State} {a : ℕ} {q : Diagram} {n c total : ℕ} {first : Lead} → Leading first → Binding ar s a q n c total first first 0
unfolding many bindings_best
binding-start k = record { within = omega arith; leading = k; so_far = refl }

module _ {ar : List ℕ} {s : State} {a : ℕ} {q : Diagram} {n c total : ℕ} {first l : Lead} {i : ℕ} (x : Binding ar s a q n c total first l i) where
  pub binding-end : Tupled n c → total ≡ n ^ c → total ≤ i → Rates n (bindings_best ar s a q (tuples n c) (rate_of n first)) (Ok l)
  binding-end t e h =
      let w = x.within in
      let z : total ≡ i = omega arith in
      rates-to (sym (all_are ar s a q n c first t e) ∙ ap (S ar s a q n c first) z ∙ x.so_far) x.leading

  -- no tuple that is left takes its place
  pub binding-left : Tupled n c → total ≡ n ^ c → ((k : ℕ) → binding_tried ar s a q (rate_of n l) (digits n c k) ≡ ok (rate_of n l))
      → Rates n (bindings_best ar s a q (tuples n c) (rate_of n first)) (Ok l)
  binding-left t e f =
      rates-to (sym (all_are ar s a q n c first t e) ∙ fold-settled (S ar s a q n c first) (step ar s a q n c first) (step-more ar s a q n c first) x.so_far f total x.within) x.leading

  module _ {r : Result Lead Refusal} (y : Rates n (binding_tried ar s a q (rate_of n l) (digits n c i)) r) (h : i < total) where
    next-is : bindings_best ar s a q (many (digits n c) (i + 1)) (rate_of n first) ≡ binding_tried ar s a q (rate_of n l) (digits n c i)
    next-is = fold_on (S ar s a q n c first) (step ar s a q n c first) (step-more ar s a q n c first) x.so_far

    pub binding-on : {m : Lead} → r ≡ Ok m → Binding ar s a q n c total first m (i + 1)
    binding-on {m} e = record { within = omega arith; leading = y.leading m e; so_far = next-is ∙ rated-to y e }

    pub binding-stops : Tupled n c → total ≡ n ^ c → {e : Refusal} → r ≡ Err e → Rates n (bindings_best ar s a q (tuples n c) (rate_of n first)) r
    binding-stops t p {e} k = subst (Rates n (bindings_best ar s a q (tuples n c) (rate_of n first))) (sym k) (rates-refused (sym (all_are ar s a q n c first t p)
        ∙ fold-refused (S ar s a q n c first) (step ar s a q n c first) (step-more ar s a q n c first) {v = i + 1} (next-is ∙ rated-refused y k) total (omega arith)))

-- ===== The actions =====

then-all : {A : Type 0} (o : Outcome A) → and_then o (λ a. ok a) ≡ o
then-all (ok a) = refl
then-all (refused r) = refl

module _ (m : Model) (s : State) (d : Diagram) where
  abbrev T : ℕ → Action → Rated → Outcome Rated
  T i a b = action_tried m.arities m.numerator s d i a b

  moves-tried : (i : ℕ) (a : Action) (l : List Action) (best : Rated) → moves_best m s d i (a ∷ l) best ≡ and_then (T i a best) (λ b. moves_best m s d (suc i) l b)
  unfolding moves_best action_tried
  moves-tried i a l best = sym (then-then (variants_sum m.arities m.numerator d (leaf 0) a.variants)
      (λ q. bindings_best m.arities s i q (tuples s.size a.count) best) (λ b. moves_best m s d (suc i) l b))

  moves-none : (i : ℕ) (best : Rated) → moves_best m s d i [] best ≡ ok best
  unfolding moves_best
  moves-none i best = refl

  pub moves_more : (i : ℕ) (l : List Action) (a : Action) (best : Rated) → moves_best m s d i (l ++ (a ∷ [])) best ≡ and_then (moves_best m s d i l best) (λ b. T (i + length l) a b)
  moves_more i [] a best =
      moves-tried i a [] best ∙ then_same (T i a best) _ _ (λ b. moves-none (suc i) b) ∙ then-all (T i a best)
      ∙ ap (λ (k : ℕ). T k a best) (sym (add-zero i)) ∙ ap (λ (o : Outcome Rated). and_then o (λ b. T (i + 0) a b)) (sym (moves-none i best))
  moves_more i (e ∷ l) a best =
      moves-tried i e (l ++ (a ∷ [])) best
      ∙ then_same (T i e best) _ _ (λ b. moves_more (suc i) l a b)
      ∙ sym (then-then (T i e best) (λ b. moves_best m s d (suc i) l b) (λ b. T (suc i + length l) a b))
      ∙ ap (λ (o : Outcome Rated). and_then o (λ b. T (suc i + length l) a b)) (sym (moves-tried i e l best))
      ∙ ap (λ (k : ℕ). and_then (moves_best m s d i (e ∷ l) best) (λ b. T k a b)) (omega arith)
